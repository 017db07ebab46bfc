-- The text of a rule: `b`, the numbers of neighbours that give birth, `s`, those that let live, each in increasing order.
use Rattle.std.specs.Prelude.{◌≡◌, ℕ, zero, suc, ◌+◌, ◌^◌, ◌<◌, Bool, false, cond, List, [], ◌∷◌, ◌++◌, drop, Some, None, Option, ◌==◌, ◌≢◌}
use Rattle.model.specs.Rules.{flags}
use Rattle.rules.specs.declared.texts.RuleSets.{RuleSets}

-- the digits of the entries that are set, where the first entry is that of k
unfoldable pub digits : ℕ → List Bool → List ℕ
digits k [] = []
digits k (b ∷ bs) = cond b ((48 + k) ∷ digits (suc k) bs) (digits (suc k) bs)

abbrev pub set_text : ℕ → List ℕ
set_text n = digits 0 (flags 9 n)

abbrev pub rule_text : ℕ → ℕ → List ℕ
rule_text b s = 98 ∷ (set_text b ++ (115 ∷ set_text s))

-- To read such a text: a set, and what follows it.
pub record Read : Type 0 where
  pub set : ℕ
  pub rest : List ℕ

abbrev pub begins : ℕ → List ℕ → Bool
begins c [] = false
begins c (b ∷ bs) = b == c

-- with n the set so far, each of the m digits from k on is taken where it stands in front
unfoldable pub reads : ℕ → ℕ → ℕ → List ℕ → Read
reads zero k n bs = record { set = n; rest = bs }
reads (suc m) k n bs = cond (begins (48 + k) bs) (reads m (suc k) (n + 2 ^ k) (drop 1 bs)) (reads m (suc k) n bs)

abbrev pub set_at_front : List ℕ → Read
set_at_front bs = reads 9 0 0 bs

abbrev pub ended : ℕ → ℕ → List ℕ → Option RuleSets
ended b s [] = Some (record { born = b; stays = s })
ended b s (c ∷ cs) = None

abbrev pub after_stays : ℕ → Read → Option RuleSets
after_stays b f = ended b f.set f.rest

abbrev pub after_born : Read → Option RuleSets
after_born f = cond (begins 115 f.rest) (after_stays f.set (set_at_front (drop 1 f.rest))) None

abbrev pub sets_of : List ℕ → Option RuleSets
sets_of bs = cond (begins 98 bs) (after_born (set_at_front (drop 1 bs))) None

-- what was read is what the text writes, and what is no such text is not read
abbrev pub Sets : List ℕ → Option RuleSets → Type 0
Sets bs (Some r) = (bs ≡ rule_text r.born r.stays) × (r.born < 512) × (r.stays < 512)
Sets bs None = (b s : ℕ) → b < 512 → s < 512 → bs ≢ rule_text b s
