-- The inner cells made one by one, row by row.
use Rattle.std.proofs.Common.{◌≡◌, ℕ, ◌+◌, ◌<◌, ◌≤◌, Bool, false, cond, ◌&&◌, ◌||◌, eqb, ltb, ◌⊎◌, sym, ◌∙◌, inl, inr, arith}
use mir.Val.{bool_byte}
use Rattle.model.specs.Rules.{tally}
use Rattle.model.proofs.Order.{byte_one}
use Rattle.std.proofs.lemmas.Bool.{cases_eq}
use Rattle.std.proofs.lemmas.Bool.Decides.{nat_tests}
use Rattle.leaf.specs.Words.{cell_in, is_at, inner}
use Rattle.leaf.proofs.BitLaws.{bit_above}

pub count_is : (a b c d e f g h : Bool) →
    bool_byte a + bool_byte b + bool_byte c + (bool_byte d + bool_byte e) + (bool_byte f + bool_byte g + bool_byte h) ≡ tally a b c d e f g h
count_is a b c d e f g h =
    let a1 = byte_one a in let b1 = byte_one b in let c1 = byte_one c in let d1 = byte_one d in
    let e1 = byte_one e in let f1 = byte_one f in let g1 = byte_one g in let h1 = byte_one h in
    omega arith

pub none_live : (x y : ℕ) → cell_in 0 x y ≡ false
unfolding cell_in
none_live x y = bit_above 0 0 _ (omega arith) (omega arith)

pub none_made : (u v : ℕ) (n : Bool) → false ≡ (ltb v 1 && (inner u v && n))
none_made u v n = grind (arith, nat_tests)

pub row_begins : (u v y : ℕ) (a n : Bool) → a ≡ (ltb v y && (inner u v && n)) → a ≡ ((ltb v y || (eqb v y && ltb u 1)) && (inner u v && n))
row_begins u v y a n e = grind (arith, nat_tests)

pub row_ends : (u v x y : ℕ) (a n : Bool) → 7 ≤ x → a ≡ ((ltb v y || (eqb v y && ltb u x)) && (inner u v && n)) → a ≡ (ltb v (y + 1) && (inner u v && n))
row_ends u v x y a n h e = grind (arith, nat_tests)

pub all_made : (u v y : ℕ) (a n : Bool) → 7 ≤ y → a ≡ (ltb v y && (inner u v && n)) → a ≡ (inner u v && n)
all_made u v y a n h e = grind (arith, nat_tests)

pub cell_made : (u v x y : ℕ) (a b lives : Bool) (n : ℕ → ℕ → Bool) → 0 < x → x < 7 → 0 < y → y < 7 →
    b ≡ cond (is_at x y u v) lives a → lives ≡ n x y →
    a ≡ ((ltb v y || (eqb v y && ltb u x)) && (inner u v && n u v)) → b ≡ ((ltb v y || (eqb v y && ltb u (x + 1))) && (inner u v && n u v))
cell_made u v x y a b lives n hx kx hy ky e f g =
    elim (cases_eq u x) [
      | inl p ↦ elim (cases_eq v y) [ inl q ↦ (let m : n u v ≡ n x y = λ i. n (p i) (q i) in here (n u v) (f ∙ sym m) p q) | inr q ↦ there (n u v) (inr q) g ]
      | inr p ↦ there (n u v) (inl p) g
    ]
  where
    here : (t : Bool) → lives ≡ t → u ≡ x → v ≡ y → b ≡ ((ltb v y || (eqb v y && ltb u (x + 1))) && (inner u v && t))
    here t s p q = grind (arith, nat_tests)

    there : (t : Bool) → ((u ≡ x → ⊥) ⊎ (v ≡ y → ⊥)) → a ≡ ((ltb v y || (eqb v y && ltb u x)) && (inner u v && t)) → b ≡ ((ltb v y || (eqb v y && ltb u (x + 1))) && (inner u v && t))
    there t s k = grind (arith, nat_tests)
