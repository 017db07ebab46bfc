-- Rules of birth and survival: with how many living neighbours, of eight, a cell is born or stays.
use Rattle.std.specs.Prelude.{ℕ, zero, suc, ◌+◌, ◌/◌, ◌%◌, Bool, true, false, cond, not, ◌&&◌, List, [], ◌∷◌, length, ◌==◌, nat_lt}
use Rattle.model.specs.Planes.{Local}

-- entry n says it for n living neighbours, 0 to 8
pub record Rule : Type 0 where
  pub born : List Bool
  pub stays : List Bool

unfoldable pub nth : ℕ → List Bool → Bool
nth n [] = false
nth zero (b ∷ bs) = b
nth (suc n) (b ∷ bs) = nth n bs

-- nothing comes of nothing
abbrev pub good_rule : Rule → Bool
good_rule r = length r.born == 9 && length r.stays == 9 && not (nth 0 r.born)

-- bit n of the number is entry n
unfoldable pub flags : ℕ → ℕ → List Bool
flags zero n = []
flags (suc k) n = (n % 2 == 1) ∷ flags k (n / 2)

abbrev pub nine_flags : ℕ → List Bool
nine_flags n = cond (nat_lt n 512) (flags 9 n) []

abbrev pub rule_of : ℕ → ℕ → Rule
rule_of b s = record { born = nine_flags b; stays = nine_flags s }

abbrev pub becomes : Rule → Bool → ℕ → Bool
becomes r true n = nth n r.stays
becomes r false n = nth n r.born

-- 1 for a living cell
abbrev pub as_one : Bool → ℕ
as_one b = cond b 1 0

abbrev pub tally : (nw n ne w e sw s se : Bool) → ℕ
tally nw n ne w e sw s se = as_one nw + (as_one n + (as_one ne + (as_one w + (as_one e + (as_one sw + (as_one s + as_one se))))))

-- the rule of eight neighbours as a local rule
abbrev pub life : Rule → Local Bool
life r nw n ne w c e sw s se = becomes r c (tally nw n ne w e sw s se)
