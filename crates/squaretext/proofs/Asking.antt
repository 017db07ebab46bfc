-- What the parts of a text that is read say together.
use Rattle.std.proofs.Common.{◌≡◌, ℕ, ◌+◌, ◌<◌, Bool, List, pos, Some, Option, Ok, Err, Result, sym, ◌∙◌, subst, arith}
use Rattle.std.specs.Result.{MatchResult}
use Rattle.model.specs.Planes.{Plane}
use Rattle.model.specs.Rules.{Rule as Law, rule_of}
use Rattle.rules.specs.declared.bits.Rule.{Rule}
use Rattle.rules.specs.declared.texts.RuleSets.{RuleSets}
use Rattle.model.specs.declared.Refusal.{Refusal}
use Rattle.rules.specs.Laws.{law, IsRuled}
use Rattle.rules.specs.Texts.{Sets}
use Rattle.leaf.specs.Words.{cell_in}
use Rattle.leaf.specs.Shown.{Shows16, after}
use Rattle.squaretext.specs.Asked.{first_line, Names, drawn_at, MiddleOf}

pub names : (bs line : List ℕ) (p : RuleSets) (o : Option RuleSets) → line ≡ first_line bs → o ≡ Some p → Sets line o → Names (first_line bs) p.born p.stays
names bs line p o e f h = let q = subst (Sets line) f h in record { text = sym e ∙ q.0; born = q.1; stays = q.2 }

-- a rule that was made
pub made : {T E : Type 0} (F : Type 0) (r : Result T E) (k : T) (Q : E → Type 0) → MatchResult r (λ x. ◌≡◌ {A = Result T F} (Ok k) (Ok x)) Q → ((e : E) → Q e → ⊥) → r ≡ Ok k
made F (Ok x) k Q h n = cc
made F (Err e) k Q h n = absurd (n e h)

pub ruled : (b s : ℕ) (r : Result Rule Refusal) (k : Rule) → r ≡ Ok k → IsRuled b s r → law k ≡ rule_of b s
ruled b s r k e h = let q = subst (IsRuled b s) e h in λ i. rule_of (q.0 i) (q.1 i)

pub middle_is : (sq rest : List ℕ) (r r' : Law) (nw ne sw se w : ℕ) → sq ≡ rest → r ≡ r' →
    ((u v : ℕ) → u < 8 → v < 8 → cell_in nw u v ≡ drawn_at sq (0 + u) (0 + v)) → ((u v : ℕ) → u < 8 → v < 8 → cell_in ne u v ≡ drawn_at sq (8 + u) (0 + v)) →
    ((u v : ℕ) → u < 8 → v < 8 → cell_in sw u v ≡ drawn_at sq (0 + u) (8 + v)) → ((u v : ℕ) → u < 8 → v < 8 → cell_in se u v ≡ drawn_at sq (8 + u) (8 + v)) →
    ((p : Plane Bool) → Shows16 nw ne sw se p → (x y : ℕ) → x < 8 → y < 8 → cell_in w x y ≡ after r 4 p (pos (x + 4)) (pos (y + 4))) →
    MiddleOf r' rest w
middle_is sq rest r r' nw ne sw se w e f a b c d leap p drawn x y hx hy =
    leap p
    (record {
      upper_left = λ u v hu hv. at u v (0 + u) (0 + v) (omega arith) (omega arith) (omega arith) (omega arith) ∙ sym (a u v hu hv);
      upper_right = λ u v hu hv. at (u + 8) v (8 + u) (0 + v) (omega arith) (omega arith) (omega arith) (omega arith) ∙ sym (b u v hu hv);
      lower_left = λ u v hu hv. at u (v + 8) (0 + u) (8 + v) (omega arith) (omega arith) (omega arith) (omega arith) ∙ sym (c u v hu hv);
      lower_right = λ u v hu hv. at (u + 8) (v + 8) (8 + u) (8 + v) (omega arith) (omega arith) (omega arith) (omega arith) ∙ sym (d u v hu hv);
    }) x y hx hy ∙
    (λ i. after (f i) 4 p (pos (x + 4)) (pos (y + 4)))
  where
    at : (u v g h : ℕ) → u < 16 → v < 16 → u ≡ g → v ≡ h → p (pos u) (pos v) ≡ drawn_at sq g h
    at u v g h hu hv s t = drawn u v hu hv ∙ (λ i. drawn_at (sym e i) (s i) (t i))
