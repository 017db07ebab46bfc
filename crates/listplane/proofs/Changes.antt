-- A cell put or erased, and the list that is then there.
use Rattle.std.proofs.Common.{◌≡◌, ℕ, suc, ◌^◌, ◌≤◌, Bool, true, false, cond, not, T, List, [], ◌∷◌, length, ℤ, MatchBool, sym, refl, ap, ◌∙◌, subst, inl, arith}
use mathlib.Core.Bool.{beq}
use Rattle.model.specs.declared.Cell.{Cell}
use Rattle.model.specs.Cells.{cell_at, same_cell, before, in_order, lives, put}
use Rattle.model.specs.Lists.{nexts}
use Rattle.model.specs.World.{World, with_cell, far, size, edge, farthest, most_cells, capped, Crowded, roomy}
use Rattle.model.proofs.Order.{if_so, lists_same, same_cell_out, lives_cell, lives_tail}
use Rattle.model.proofs.Put.{put_order, put_lives}
use Rattle.model.proofs.Reach.{far_in, far_out}
use Rattle.lent.specs.declared.Stretch.{Stretch}
use Rattle.lent.specs.Stretches.{to_z, tab, entry, cells_in}
use Rattle.lent.proofs.Tab.{tab_length}
use Rattle.cells.specs.Places.{Holds}
use Rattle.runs.specs.Stages.{Placed, Staged}

near_size : (x y : ℤ) → T (not (far x y)) → (size x ≤ edge) × (size y ≤ edge)
near_size x y t = (first t, second t)
  where
    first : T (not (far x y)) → size x ≤ edge
    first t = grind arith

    second : T (not (far x y)) → size y ≤ edge
    second t = grind arith

-- no cell of the list lies beyond the edge, nor the one that is put
put_near : (c : Cell) (b : Bool) (cs : List Cell) → T (in_order cs) → T (not (far c.x c.y)) → farthest cs ≤ edge → farthest (put c b cs) ≤ edge
put_near c b cs o t near =
    far_in (put c b cs) edge
    (λ x y l. pick x y (subst T (put_lives cs o c b x y) l))
  where
    old : (x y : ℤ) → T (lives x y cs) → (size x ≤ edge) × (size y ≤ edge)
    old x y l = let f = far_out cs x y l in let f0 = f.0 in let f1 = f.1 in (omega arith, omega arith)

    new : (x y : ℤ) → c ≡ cell_at x y → (size x ≤ edge) × (size y ≤ edge)
    new x y e = subst (λ (d : Cell). (size d.x ≤ edge) × (size d.y ≤ edge)) e (near_size c.x c.y t)

    pick : (x y : ℤ) → T (cond (same_cell c (cell_at x y)) b (lives x y cs)) → (size x ≤ edge) × (size y ≤ edge)
    pick x y = if_so (λ (z : Bool). T z → (size x ≤ edge) × (size y ≤ edge)) (same_cell c (cell_at x y)) b (lives x y cs) (λ s u. new x y (same_cell_out c (cell_at x y) s)) (λ s u. old x y u)

-- the list after the change, in its place
pub changed : (m m' : List ℕ) (s s' : Stretch) (c : Cell) (b : Bool) → Staged m s → length m' ≡ length m → s'.at ≡ s.at → s'.len ≤ most_cells → T (not (far c.x c.y)) → cells_in m' s' ≡ put c b (cells_in m s) → Staged m' s'
changed m m' s s' c b g long at few t e =
    let room = g.room in let w = g.listed.within in
    record {
      placed = subst (λ (u : ℕ). Placed u) (sym at) g.placed;
      few = few;
      room = omega arith;
      listed = record {
        within = omega arith;
        few = omega arith;
        ordered = subst (λ (cs : List Cell). T (in_order cs)) (sym e) (put_order c b (cells_in m s) g.listed.ordered);
        near = subst (λ (cs : List Cell). farthest cs ≤ edge) (sym e) (put_near c b (cells_in m s) g.listed.ordered t g.listed.near);
      };
    }

-- nothing to do
pub put_same : (c : Cell) (b : Bool) (cs : List Cell) → T (in_order cs) → lives c.x c.y cs ≡ b → cs ≡ put c b cs
put_same c b cs o e =
    lists_same cs (put c b cs) o (put_order c b cs o) (λ x y. same x y ∙ sym (put_lives cs o c b x y))
  where
    same : (x y : ℤ) → lives x y cs ≡ cond (same_cell c (cell_at x y)) b (lives x y cs)
    same x y =
        if_so (λ (z : Bool). lives x y cs ≡ z) (same_cell c (cell_at x y)) b (lives x y cs)
        (λ t. ap (λ (d : Cell). lives d.x d.y cs) (sym (same_cell_out c (cell_at x y) t)) ∙ e) (λ t. refl)

-- one more cell, where it wasn't there
put_more : (c : Cell) (cs : List Cell) → (T (lives c.x c.y cs) → ⊥) → length (put c true cs) ≡ suc (length cs)
unfolding put
put_more c [] n = refl
put_more c (d ∷ cs) n =
    if_so (λ (l : List Cell). length l ≡ suc (suc (length cs))) (same_cell c d) (d ∷ cs) (cond (before c d) (c ∷ d ∷ cs) (d ∷ put c true cs))
    (λ t. absurd (n (lives_cell c d cs (same_cell_out c d t))))
    (λ t. if_so (λ (l : List Cell). length l ≡ suc (suc (length cs))) (before c d) (c ∷ d ∷ cs) (d ∷ put c true cs) (λ u. refl) (λ u. ap suc (put_more c cs (λ l. n (lives_tail c.x c.y d cs l)))))

-- and that is more than are always held
pub put_crowded : (m : List ℕ) (s : Stretch) (w : World) (c : Cell) (b : Bool) → w.cells ≡ cells_in m s → s.len ≡ most_cells → b ≡ true → lives c.x c.y (cells_in m s) ≡ false → Crowded 0 (with_cell c.x c.y b w)
unfolding nexts
put_crowded m s w c b e few eb n =
    let more = put_more c (cells_in m s) (λ t. subst T n t) in let l = tab_length (entry m s.at) 0 s.len in
    let f : length (put c b w.cells) ≡ length (put c true (cells_in m s)) = λ i. length (put c (eb i) (e i)) in
    (0, omega arith, omega arith)

pub when_no : (P Q : Type 0) (b : Bool) → MatchBool b P Q → b ≡ false → Q
when_no P Q true w e = let z : ◌≡◌ {A = ℕ} 0 1 = cc in absurd (omega arith)
when_no P Q false w e = w

-- two truth values that differ
pub differ : (a b : Bool) → beq a b ≡ false → a ≡ not b
differ true true e = e
differ true false e = refl
differ false true e = refl
differ false false e = sym e

pub agree : (a b : Bool) → beq a b ≡ true → a ≡ b
agree true true e = refl
agree true false e = sym e
agree false true e = e
agree false false e = refl

-- whether a cell is there, where it is to be changed
pub other_way : (P : Type 0) (a b : Bool) → beq a b ≡ false → MatchBool a P (P → ⊥) → MatchBool b (P → ⊥) P
other_way P true true e w = let z : ◌≡◌ {A = ℕ} 0 1 = cc in absurd (omega arith)
other_way P true false e w = w
other_way P false true e w = w
other_way P false false e w = let z : ◌≡◌ {A = ℕ} 0 1 = cc in absurd (omega arith)

-- the cell that stands at its place
pub held_cell : (m : List ℕ) (s : Stretch) (i row col : ℕ) → Holds m s i row col → entry m s.at i ≡ cell_at (to_z col) (to_z row)
held_cell m s i row col (l, er, ec) = λ t. cell_at (to_z (ec t)) (to_z (er t))

pub capped_few : (n : ℕ) → n ≤ most_cells → n ≡ capped n
capped_few n l = grind arith

pub empty_staged : (m : List ℕ) → T (roomy (length m)) → Staged m (record { at = 0; len = 0 })
unfolding tab in_order farthest
empty_staged m t =
    let r : 2 ^ 18 ≤ length m = grind arith in
    record { placed = inl refl; few = omega arith; room = omega arith; listed = record { within = omega arith; few = omega arith; ordered = tt; near = omega arith } }
