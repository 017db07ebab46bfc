-- From the quarters of a tree to the tree.
use Rattle.std.proofs.Common.{◌≡◌, ℕ, suc, ◌+◌, ◌-◌, ◌%◌, ◌^◌, ◌<◌, ◌≤◌, Bool, true, false, is_err, Ok, Err, Result, sym, refl, ap, ◌∙◌, subst, arith, pow_mono}
use Rattle.std.specs.Result.{ForOk}
use Rattle.model.specs.Squares.{Square, Four}
use Rattle.leaf.specs.AsSquares.{word_square}
use Rattle.model.specs.declared.quarters.Quarters.{Quarters}
use Rattle.slots.specs.declared.Store.{Store}
use Rattle.slots.specs.Stores.{Is, table}
use Rattle.holds.specs.declared.Hold.{Hold}
use Rattle.holds.specs.Holding.{held, Popped}
use Rattle.holds.proofs.Chain.{is_popped, full_popped}
use Rattle.collect.specs.Collecting.{FourOf}
use Rattle.store.specs.declared.Full.{Full}
use Rattle.store.specs.Interning.{Interned, LeafInterned}
use Rattle.trees.specs.declared.seeds.Leaves.{Leaves}
use Rattle.trees.specs.declared.seeds.Place.{Place}
use Rattle.trees.proofs.Rows.{Row, row_more, taken_end}
use Rattle.trees.specs.Growing.{cells_at, quarter_at, grown, Inside, Kept, IsFull, Made, Taken, TakenOr, HeldAlso}

pub inside_quarter : (d k : ℕ) (p : Place) → 0 < d → d ≤ 40 → k < 4 → Inside (40 - d) p → Inside (40 - (d - 1)) (quarter_at p k)
inside_quarter d k p s m l h =
    let x = h.right in let y = h.down in
    subst (λ (n : ℕ). Inside n (quarter_at p k)) (let e : suc (40 - d) ≡ 40 - (d - 1) = omega arith in e) (record { right = omega arith; down = omega arith })

pub inside_most : (d : ℕ) (p : Place) → Inside (40 - d) p → Inside 40 p
inside_most d p h =
    let x = h.right in let y = h.down in let e : 2 ^ (40 - d) ≤ 2 ^ 40 = pow_mono {i = 40 - d} {j = 40} (omega arith) in
    record { right = omega arith; down = omega arith }

-- a place in a row of few trees
pub inside_row : (d x : ℕ) → d < 20 → x < 2 ^ 20 → Inside (40 - d) (record { x = x; y = 0 })
inside_row d x l m = let e : 2 ^ 20 ≤ 2 ^ (40 - d) = pow_mono {i = 20} {j = 40 - d} (omega arith) in record { right = omega arith; down = omega arith }

pub grown_leaf : (l : Leaves) (d : ℕ) (p : Place) → d ≡ 0 → word_square (cells_at l p) ≡ grown l d p
unfolding grown
grown_leaf l d p e = ap (λ (d : ℕ). grown l d p) (sym e)

abbrev quarter_of : Leaves → ℕ → Place → ℕ → Square Bool
quarter_of l d p k = grown l d (quarter_at p k)

abbrev four_of : Leaves → ℕ → Place → Square Bool
four_of l d p = Four (quarter_of l d p 0) (quarter_of l d p 1) (quarter_of l d p 2) (quarter_of l d p 3)

pub grown_four : (l : Leaves) (d : ℕ) (p : Place) → four_of l d p ≡ grown l (suc d) p
unfolding grown
grown_four l d p = refl

pub made_leaf : (w : Store) (c : ℕ) (r : Result ℕ Full) → LeafInterned w c r → Made w 0 (word_square c) r
made_leaf w c (Ok i) h = h.is
made_leaf w c (Err _) h = h

pub made_popped : {t : ℕ} {v w : Store} (d : ℕ) (q : Square Bool) (r : Result ℕ Full) → Popped t v w → Made v d q r → Made w d q r
made_popped d q (Ok i) o h = is_popped o h
made_popped d q (Err _) o h = full_popped o h

-- what was made may be held, and then it is held, too; or the store was full, and the hold is gone
pub also_fits : (w : Store) (d : ℕ) (q : Square Bool) (r : Result ℕ Full) → Made w d q r → ForOk r (λ i. (i < w.slots) × (2 ≤ (table w i).state))
also_fits w d q r m = λ i e. let v = (subst (Made w d q) e m).valid in let deep = v.deep in (v.here, omega arith)

pub also_row : {v w u : Store} {t : ℕ} {h g : Hold} {d n : ℕ} {p : ℕ → Square Bool} (r : Result ℕ Full) → Row v w t h d n p → Made w d (p n) r → HeldAlso w u h r (Ok g) → Row v u t g d (n + 1) p
also_row (Ok i) a m h = row_more a m h.0 h.1 h.2 h.3
also_row (Err _) a m h = absurd h

pub also_gone : {v w u : Store} {h : Hold} (d : ℕ) (q : Square Bool) (r : Result ℕ Full) (x : Full) → Taken v w v.top h → Made w d q r → HeldAlso w u h r (Err x) → Kept v u × IsFull u
also_gone d q (Ok i) x a m h = absurd h
also_gone d q (Err _) x a m h = (taken_end a h.0 h.1 h.2, full_popped h.2 m)

pub refused : {v w : Store} (n d : ℕ) (p : ℕ → Square Bool) (r : Result Hold Full) → is_err r ≡ true → Kept v w × IsFull w → TakenOr v w n d p r
refused n d p (Ok h) e k = absurd (no e)
  where
    no : false ≡ true → ⊥
    no e = grind arith
refused n d p (Err _) e k = k

-- the four quarters of the tree at p, by number
pub record Four-are (w : Store) (l : Leaves) (d : ℕ) (p : Place) (q : Quarters ℕ) : Type 0 where
  pub is_nw : Is w d q.nw (quarter_of l d p 0)
  pub is_ne : Is w d q.ne (quarter_of l d p 1)
  pub is_sw : Is w d q.sw (quarter_of l d p 2)
  pub is_se : Is w d q.se (quarter_of l d p 3)

pub four_of_lem : {w : Store} {l : Leaves} {d : ℕ} {p : Place} {q : Quarters ℕ} → Four-are w l d p q → FourOf w d q
four_of_lem h = record { has_nw = h.is_nw.valid; has_ne = h.is_ne.valid; has_sw = h.is_sw.valid; has_se = h.is_se.valid }

pub made_four : {v : Store} {l : Leaves} {d : ℕ} {p : Place} {q : Quarters ℕ} (w : Store) (r : Result ℕ Full) → Four-are v l d p q → Interned v w d q r → Made w (suc d) (grown l (suc d) p) r
made_four {l = l} {d = d} {p = p} w (Ok i) h f = subst (Is w (suc d) i) (grown_four l d p) (f _ _ _ _ h.is_nw h.is_ne h.is_sw h.is_se).is
made_four w (Err _) h f = f

-- a row of four that began with quarter f
abbrev Quartered : (v w : Store) (t f d : ℕ) → Hold → Leaves → Place → Type 0
Quartered v w t f d h l p = Row v w t h d 4 (λ j. quarter_of l d p ((f + j) % 4))

one_held : (v w : Store) (t f d j k i : ℕ) (h : Hold) (l : Leaves) (p : Place) → Quartered v w t f d h l p → i ≡ held w (h.from + j) → j < 4 → (f + j) % 4 ≡ k → Is w d i (quarter_of l d p k)
one_held v w t f d j k i h l p r e b z =
    let a = r.taken.from in
    subst (λ (k : ℕ). Is w d i (quarter_of l d p k)) z
    (subst (λ (i : ℕ). Is w d i (quarter_of l d p ((f + j) % 4))) (sym (e ∙ ap (λ (n : ℕ). held w (n + j)) a)) (r.each j b))

-- the four that are held are the quarters of the tree at p
pub four_held : {v w : Store} {t : ℕ} {h : Hold} (f d n : ℕ) (l : Leaves) (p : Place) (q : Quarters ℕ) → f < 4 → n ≡ 4 → Row v w t h d n (λ j. quarter_of l d p ((f + j) % 4)) →
    q.nw ≡ held w (h.from + (4 - f) % 4) → q.ne ≡ held w (h.from + (5 - f) % 4) → q.sw ≡ held w (h.from + (6 - f) % 4) → q.se ≡ held w (h.from + (7 - f) % 4) → Four-are w l d p q
four_held {v} {w} {t} {h} f d n l p q b m g e0 e1 e2 e3 =
    let r : Quartered v w t f d h l p = subst (λ (n : ℕ). Row v w t h d n (λ j. quarter_of l d p ((f + j) % 4))) m g in
    record {
      is_nw = one_held v w t f d ((4 - f) % 4) 0 q.nw h l p r e0 (omega arith) (omega arith);
      is_ne = one_held v w t f d ((5 - f) % 4) 1 q.ne h l p r e1 (omega arith) (omega arith);
      is_sw = one_held v w t f d ((6 - f) % 4) 2 q.sw h l p r e2 (omega arith) (omega arith);
      is_se = one_held v w t f d ((7 - f) % 4) 3 q.se h l p r e3 (omega arith) (omega arith);
    }
