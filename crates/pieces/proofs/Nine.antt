-- Quarters by row and column, and the nine.
use Rattle.std.proofs.Common.{◌≡◌, ℕ, zero, suc, ◌+◌, ◌/◌, ◌%◌, Bool, Ok, Err, Result, sym, refl, ◌∙◌, subst, arith}
use Rattle.model.specs.Squares.{Square, Four, nw, ne, sw, se, middle}
use Rattle.leaf.specs.AsSquares.{word_square}
use Rattle.model.specs.Quarters.{quarter_in}
use Rattle.model.specs.declared.quarters.Quarters.{Quarters}
use Rattle.nodes.specs.Nodes.{square_of}
use Rattle.slots.specs.declared.Store.{Store}
use Rattle.slots.specs.Stores.{Has, Is, table}
use Rattle.holds.specs.Holding.{held}
use Rattle.squares.specs.Parts.{QuartersOf}
use Rattle.store.specs.declared.Full.{Full}
use Rattle.store.specs.Interning.{Interned, LeafInterned}
use Rattle.pieces.specs.Nine.{quarter_at, sixteenth, piece_at, Answers, IsMiddle}

-- the quarter in a row and column, by its number
pub quarter_is : (s : Store) (d r c : ℕ) (q : Square Bool) (f : Quarters ℕ) → QuartersOf s d q f → Is s d (quarter_in f r c) (quarter_at r c q)
quarter_is s d zero zero q f h = h.is_nw
quarter_is s d zero (suc c) q f h = h.is_ne
quarter_is s d (suc r) zero q f h = h.is_sw
quarter_is s d (suc r) (suc c) q f h = h.is_se

-- a square that is no leaf is made of its quarters
pub four_of_lem : (s : Store) (d i : ℕ) (q : Square Bool) → Is s (suc d) i q → q ≡ Four (nw q) (ne q) (sw q) (se q)
unfolding square_of
four_of_lem s d i q h = subst (λ (x : Square Bool). x ≡ Four (nw x) (ne x) (sw x) (se x)) h.same refl

-- a piece in an even row and column is a quarter
pub even_piece : (r c : ℕ) (q x : Square Bool) → r % 2 ≡ 0 → c % 2 ≡ 0 → quarter_at (r / 2) (c / 2) q ≡ x → piece_at r c q ≡ Four (nw x) (ne x) (sw x) (se x)
even_piece r c q x e f g =
    let r1 : (r + 1) % 2 ≡ 1 = omega arith in let c1 : (c + 1) % 2 ≡ 1 = omega arith in
    let r2 : (r + 1) / 2 ≡ r / 2 = omega arith in let c2 : (c + 1) / 2 ≡ c / 2 = omega arith in
    (λ t. Four (quarter_at (e t) (f t) (g t)) (quarter_at (e t) (c1 t) (quarter_at (r / 2) (c2 t) q)) (quarter_at (r1 t) (f t) (quarter_at (r2 t) (c / 2) q))
    (quarter_at (r1 t) (c1 t) (quarter_at (r2 t) (c2 t) q))) ∙
    (λ t. Four (nw x) (ne (g t)) (sw (g t)) (se (g t)))

-- what is interned of the four is the piece
pub piece_interned : (v w : Store) (b k r c : ℕ) (f : Quarters ℕ) (o : Result ℕ Full) →
    ((q : Square Bool) → Is v (suc (suc b)) (held v k) q → Is v b f.nw (sixteenth r c q)) →
    ((q : Square Bool) → Is v (suc (suc b)) (held v k) q → Is v b f.ne (sixteenth r (c + 1) q)) →
    ((q : Square Bool) → Is v (suc (suc b)) (held v k) q → Is v b f.sw (sixteenth (r + 1) c q)) →
    ((q : Square Bool) → Is v (suc (suc b)) (held v k) q → Is v b f.se (sixteenth (r + 1) (c + 1) q)) →
    Interned v w b f o → Answers (suc (suc b)) (suc b) k (piece_at r c) v w o
piece_interned v w b k r c f (Ok i) a1 a2 a3 a4 h = λ q p. (h _ _ _ _ (a1 q p.is) (a2 q p.is) (a3 q p.is) (a4 q p.is)).is
piece_interned v w b k r c f (Err z) a1 a2 a3 a4 h = h

pub is_self : (s : Store) (d i : ℕ) → Has s d i → Is s d i (square_of (table s) d i)
is_self s d i h = record { valid = h; same = refl }

pub middle_leaf : (v w : Store) (d : ℕ) (f : Quarters ℕ) (m : ℕ) (o : Result ℕ Full) → d ≡ 0 → LeafInterned w m o →
    ((a b c e : Square Bool) → Is v 0 f.nw a → Is v 0 f.ne b → Is v 0 f.sw c → Is v 0 f.se e → word_square m ≡ middle (Four a b c e)) → IsMiddle v w d f o
middle_leaf v w d f m (Ok i) z h g =
    subst (λ (d : ℕ). (a b c e : Square Bool) → Is v d f.nw a → Is v d f.ne b → Is v d f.sw c → Is v d f.se e → Is w d i (middle (Four a b c e))) (sym z)
    (λ a b c e ha hb hc he. subst (Is w 0 i) (g a b c e ha hb hc he) h.is)
middle_leaf v w d f m (Err z') z h g = h

pub middle_interned : (v w : Store) (d p : ℕ) (f g : Quarters ℕ) (o : Result ℕ Full) → d ≡ suc p →
    ((q : Square Bool) → Is v (suc p) f.nw q → Is v p g.nw (se q)) → ((q : Square Bool) → Is v (suc p) f.ne q → Is v p g.ne (sw q)) →
    ((q : Square Bool) → Is v (suc p) f.sw q → Is v p g.sw (ne q)) → ((q : Square Bool) → Is v (suc p) f.se q → Is v p g.se (nw q)) →
    Interned v w p g o → IsMiddle v w d f o
middle_interned v w d p f g (Ok i) z h1 h2 h3 h4 r =
    subst (λ (d : ℕ). (a b c e : Square Bool) → Is v d f.nw a → Is v d f.ne b → Is v d f.sw c → Is v d f.se e → Is w d i (middle (Four a b c e))) (sym z)
    (λ a b c e ha hb hc he. (r _ _ _ _ (h1 a ha) (h2 b hb) (h3 c hc) (h4 e he)).is)
middle_interned v w d p f g (Err z') z h1 h2 h3 h4 r = r
