-- One column after the other: what is done so far, while the list at `to` grows.
use Rattle.std.proofs.Common.{◌≡◌, ℕ, ◌+◌, ◌-◌, ◌^◌, ◌<◌, ◌≤◌, Bool, true, false, cond, T, ltb, ◌⊎◌, List, [], ◌∷◌, ◌++◌, ℤ, ◌≤ℤ◌, ◌<ℤ◌, sym, ap, ◌∙◌, subst, inl, inr, add-one, arith, length-append}
use native.Mathlib.Decide.{dec_lt}
use borrow.Author.Differences.{ints}
use Rattle.model.specs.Planes.{Plane, back, ahead, step}
use Rattle.model.specs.Rules.{Rule, good_rule, life}
use Rattle.model.specs.declared.Cell.{Cell}
use Rattle.model.specs.Cells.{cell_at, before, plane_of}
use Rattle.model.specs.World.{most_cells}
use Rattle.model.proofs.Lists.{comes_of}
use Rattle.lent.specs.declared.Stretch.{Stretch}
use Rattle.lent.specs.Stretches.{to_z, tab, entry, row_at, col_at, cells_in, with_entry, room_cells, Beside, Apart}
use Rattle.lent.proofs.Tab.{tab_length}
use Rattle.lent.proofs.Listing.{to_z_ahead, listed_near, listed_find}
use Rattle.lent.proofs.Writing.{beside_entry, beside_cells, beside_listed, written_beside, written_more, written_length}
use Rattle.generation.specs.declared.scan.Cursor.{Cursor}
use Rattle.generation.specs.declared.scan.Sweep.{Sweep}
use Rattle.generation.specs.Scan.{head_of, CursorAt, Window, Bare, Skipped, Done, Progress, Full, plane_next, centre_of, row_start}
use Rattle.generation.proofs.Dones.{before_out, before_row, before_column, le_or, done_skip, done_hold, done_emit, done_length}

-- cursors and windows over memory whose list stays
cursor_moves : {to : ℕ} {m m' : List ℕ} → Beside to m m' → (s : Stretch) → Apart s.at to → s.len ≤ room_cells → (x : ℕ) (c : Cursor) → CursorAt m s x c → CursorAt m' s x c
cursor_moves {to} {m} {m'} h s a l x c g =
    let hi = g.high in let lo = g.low in
    record {
      low = lo;
      high = hi;
      past = λ k b. let e = beside_entry h s.at a k (omega arith) in let e0 = e.0 in let e1 = e.1 in
          elim (g.past k b) [ inl p ↦ inl (omega arith) | inr p ↦ let p0 = p.0 in let p1 = p.1 in inr (omega arith, omega arith) ];
      here = λ k b d. let e = beside_entry h s.at a k (omega arith) in let e0 = e.0 in let e1 = e.1 in let p = g.here k b d in let p0 = p.0 in let p1 = p.1 in (omega arith, omega arith);
      under = λ k b d. let e = beside_entry h s.at a k (omega arith) in let e0 = e.0 in let p = g.under k b d in omega arith;
      head = g.head ∙ same (dec_lt c.at c.end);
    }
  where
    same : Dec (c.at < c.end) → head_of m s c.at c.end ≡ head_of m' s c.at c.end
    same (yes p) = let hi = g.high in let e = (beside_entry h s.at a c.at (omega arith)).1 in ap (λ (u : ℕ). cond (ltb c.at c.end) u (2 ^ 64 - 1)) (sym e)
    same (no p) = grind arith

pub window_moves : {to : ℕ} {m m' : List ℕ} → Beside to m m' → (s : Stretch) → Apart s.at to → s.len ≤ room_cells → (w : Sweep) → Window m s w → Window m' s w
window_moves h s a l w g =
    let e = beside_cells h s a l in
    record {
      upper = cursor_moves h s a l _ _ g.upper;
      same = cursor_moves h s a l _ _ g.same;
      lower = cursor_moves h s a l _ _ g.lower;
      second = g.second;
      third = g.third;
      first_column = rw e g.first_column;
      next_column = rw e g.next_column;
      centre = rw e g.centre;
      bound = g.bound;
    }

next_moves : {to : ℕ} {m m' : List ℕ} → Beside to m m' → (s : Stretch) → Apart s.at to → s.len ≤ room_cells → (r : Rule) → plane_next r m s ≡ plane_next r m' s
next_moves h s a l r = let e = beside_cells h s a l in λ i. step (life r) (plane_of (sym e i))

-- the fate of the centre is known: it doesn't live,
pub progress_hold : (r : Rule) (m : List ℕ) (s : Stretch) (to out x row x' : ℕ) → Progress r m s to out (cell_at (to_z x) (to_z row)) → plane_next r m s (to_z x) (to_z row) ≡ false → x' ≡ x + 1 →
    Progress r m s to out (cell_at (to_z x') (to_z row))
progress_hold r m s to out x row x' p e z =
    let d = done_hold (plane_next r m s) _ (cell_at (to_z x) (to_z row)) p.done e in let k = to_z_ahead x ∙ ap to_z (sym z) in
    record { good = p.good; listed = p.listed; room = p.room; apart = p.apart; few = p.few; done = subst (λ (u : ℤ). Done (plane_next r m s) (tab (entry m to) 0 out) (cell_at u (to_z row))) k d }

-- it lives and is written,
pub progress_emit : (r : Rule) (m : List ℕ) (s : Stretch) (to out x row x' : ℕ) → Progress r m s to out (cell_at (to_z x) (to_z row)) → plane_next r m s (to_z x) (to_z row) ≡ true → x' ≡ x + 1 → out < most_cells →
    Progress r (with_entry m to out row x) s to (out + 1) (cell_at (to_z x') (to_z row))
progress_emit r m s to out x row x' p e z few =
    let room = p.room in let li = p.listed in let fl = li.few in let b = written_beside m to out row x (omega arith) in let k = to_z_ahead x ∙ ap to_z (sym z) in
    let q = next_moves b s p.apart li.few r in
    let t : tab (entry (with_entry m to out row x) to) 0 (out + 1) ≡ tab (entry m to) 0 out ++ (cell_at (to_z x) (to_z row) ∷ []) = ap (λ (n : ℕ). tab (entry (with_entry m to out row x) to) 0 n) (add-one out) ∙ written_more m to out row x (omega arith) in
    let d = done_emit (plane_next r m s) _ (cell_at (to_z x) (to_z row)) p.done e in
    let long = written_length m to out row x in
    record {
      good = p.good;
      listed = beside_listed b s p.apart li;
      room = omega arith;
      apart = p.apart;
      few = omega arith;
      done = subst (λ (u : ℤ). Done (plane_next r (with_entry m to out row x) s) (tab (entry (with_entry m to out row x) to) 0 (out + 1)) (cell_at u (to_z row))) k
          (subst (λ (f : Plane Bool). Done f (tab (entry (with_entry m to out row x) to) 0 (out + 1)) (cell_at (ahead (to_z x)) (to_z row))) q
          (subst (λ (cs : List Cell). Done (plane_next r m s) cs (cell_at (ahead (to_z x)) (to_z row))) (sym t) d));
    }

-- or it lives and there is no room for it.
pub progress_full : (r : Rule) (m : List ℕ) (s : Stretch) (to out : ℕ) (c : Cell) → Progress r m s to out c → plane_next r m s c.x c.y ≡ true → out ≡ most_cells → Full r m s
progress_full r m s to out c p e full =
    let d = done_emit (plane_next r m s) _ c p.done e in let l = done_length r p.good (cells_in m s) _ _ d in
    let n = tab_length (entry m to) 0 out in let k = length-append (tab (entry m to) 0 out) (c ∷ []) in
    omega arith

-- a cell that lives in the next generation has a living cell next to it
pub record NearCell (m : List ℕ) (s : Stretch) (x y : ℤ) : Type 0 where
  pub index : ℕ
  pub high : index < s.len
  pub left : back x ≤ℤ to_z (col_at m s.at index)
  pub right : to_z (col_at m s.at index) ≤ℤ ahead x
  pub up : back y ≤ℤ to_z (row_at m s.at index)
  pub down : to_z (row_at m s.at index) ≤ℤ ahead y

pub near_cell : (r : Rule) → T (good_rule r) → (m : List ℕ) (s : Stretch) (x y : ℤ) → T (plane_next r m s x y) → NearCell m s x y
near_cell r g m s x y t =
    let (u, v, l, bx, by) = comes_of r g (plane_of (cells_in m s)) x y t in let k = listed_find m s u v l in
    let ku = k.column in let kv = k.row in let bx0 = bx.0 in let bx1 = bx.1 in let by0 = by.0 in let by1 = by.1 in
    record {
      index = k.index;
      high = k.high;
      left = subst (λ (z : ℤ). back x ≤ℤ z) (sym ku) bx0;
      right = subst (λ (z : ℤ). z ≤ℤ ahead x) (sym ku) bx1;
      up = subst (λ (z : ℤ). back y ≤ℤ z) (sym kv) by0;
      down = subst (λ (z : ℤ). z ≤ℤ ahead y) (sym kv) by1;
    }

-- the order at words
up_right : (a b c d : ℕ) → a ≤ b → d ≡ c → (x y : ℤ) → T (before (cell_at x y) (cell_at (to_z (a + 1)) (to_z c))) → T (before (cell_at x y) (cell_at (to_z (b + 1)) (to_z d)))
up_right a b c d l e x y t =
    let k = before_out x y _ _ t in
    elim k [ inl p ↦ before_row x y _ _ (omega (arith, ints)) | inr p ↦ let p0 = p.0 in let p1 = p.1 in before_column x y _ _ (omega (arith, ints)) (omega (arith, ints)) ]

between : (a b c d : ℕ) → d ≡ c → (x y : ℤ) → T (before (cell_at x y) (cell_at (to_z (b + 1)) (to_z d))) → (T (before (cell_at x y) (cell_at (to_z (a + 1)) (to_z c))) → ⊥) → (y ≡ to_z c) × (to_z (a + 1) ≤ℤ x) × (x <ℤ to_z (b + 1))
between a b c d e x y s n =
    elim (before_out x y _ _ s) [
      | inl p ↦ absurd (n (before_row x y _ _ (omega (arith, ints))))
      | inr p ↦ let p0 = p.0 in let p1 = p.1 in let q : y ≡ to_z c = omega (arith, ints) in
          elim (le_or x (to_z (a + 1))) [ inl l ↦ (q, l, p1) | inr l ↦ absurd (n (before_column x y _ _ q l)) ]
    ]

up_row : (a c d : ℕ) → d ≡ c + 1 → (x y : ℤ) → T (before (cell_at x y) (cell_at (to_z (a + 1)) (to_z c))) → T (before (cell_at x y) (cell_at (to_z 1) (to_z d)))
up_row a c d e x y t =
    elim (before_out x y _ _ t) [ inl p ↦ before_row x y _ _ (omega (arith, ints)) | inr p ↦ let p0 = p.0 in before_row x y _ _ (omega (arith, ints)) ]

after_row : (a c d : ℕ) → d ≡ c + 1 → (x y : ℤ) → T (before (cell_at x y) (cell_at (to_z 1) (to_z d))) → (T (before (cell_at x y) (cell_at (to_z (a + 1)) (to_z c))) → ⊥) → ((y ≡ to_z c) × (to_z (a + 1) ≤ℤ x)) ⊎ (x <ℤ to_z 1)
after_row a c d e x y s n =
    elim (before_out x y _ _ s) [
      | inl p ↦ elim (le_or y (to_z c)) [
        | inl l ↦ let q : y ≡ to_z c = omega (arith, ints) in elim (le_or x (to_z (a + 1))) [ inl k ↦ inl (q, k) | inr k ↦ absurd (n (before_column x y _ _ q k)) ]
        | inr l ↦ absurd (n (before_row x y _ _ l))
      ]
      | inr p ↦ inr p.1
    ]

pub decide : (b : Bool) → ((T b → ⊥) → ⊥) → T b
decide true f = tt
decide false f = f (λ t. t)

-- to where the window was moved
pub progress_skip : (r : Rule) (m : List ℕ) (s : Stretch) (to out : ℕ) (w w' : Sweep) → Window m s w → Progress r m s to out (centre_of w) → Skipped m s w w' true → Progress r m s to out (centre_of w')
progress_skip r m s to out w w' g p (g', rd, wt, er, le, how) =
    let e1 = g.second in let e2 = g'.second in let e : w'.here.row ≡ w.here.row = omega arith in
    record {
      good = p.good;
      listed = p.listed;
      room = p.room;
      apart = p.apart;
      few = p.few;
      done = done_skip (plane_next r m s) _ (centre_of w) (centre_of w') p.done (up_right w.x w'.x w.here.row w'.here.row le e) (none e how);
    }
  where
    hit : Bare m s w.above.row w.x (w'.x + 2) → (x y : ℤ) → T (plane_next r m s x y) → (y ≡ to_z w.here.row) × (to_z (w.x + 1) ≤ℤ x) × (x <ℤ to_z (w'.x + 1)) → ⊥
    hit b x y t (ey, lo, hi) =
        let k = near_cell r p.good m s x y t in let e1 = g.second in let k1 = k.left in let k2 = k.right in let k3 = k.up in let k4 = k.down in
        b k.index k.high (omega (arith, ints)) (omega (arith, ints)) (omega (arith, ints)) (omega (arith, ints))

    none : w'.here.row ≡ w.here.row → (w'.x ≡ w.x) ⊎ Bare m s w.above.row w.x (w'.x + 2) →
        (x y : ℤ) → T (before (cell_at x y) (centre_of w')) → T (plane_next r m s x y) → T (before (cell_at x y) (centre_of w))
    none e (inl z) x y b t = up_right w'.x w.x w'.here.row w.here.row (omega arith) (sym e) x y b
    none e (inr q) x y b t = decide _ (λ n. hit q x y t (between w.x w'.x w.here.row w'.here.row e x y b n))

-- to the start of the next row
pub progress_row : (r : Rule) (m : List ℕ) (s : Stretch) (to out v : ℕ) (w : Sweep) → Window m s w → Progress r m s to out (centre_of w) → Bare m s w.above.row w.x (2 ^ 64) → v ≡ w.above.row + 2 →
    Progress r m s to out (row_start v)
progress_row r m s to out v w g p bare e =
    let e1 = g.second in
    record {
      good = p.good;
      listed = p.listed;
      room = p.room;
      apart = p.apart;
      few = p.few;
      done = done_skip (plane_next r m s) _ (centre_of w) (row_start v) p.done (up_row w.x w.here.row v (omega arith)) (λ x y b t. decide _ (λ n. hit x y t (after_row w.x w.here.row v (omega arith) x y b n)));
    }
  where
    hit : (x y : ℤ) → T (plane_next r m s x y) → ((y ≡ to_z w.here.row) × (to_z (w.x + 1) ≤ℤ x)) ⊎ (x <ℤ to_z 1) → ⊥
    hit x y t (inl (ey, lo)) =
        let k = near_cell r p.good m s x y t in let e1 = g.second in let k1 = k.left in let k2 = k.right in let k3 = k.up in let k4 = k.down in
        let n = (listed_near m s p.listed k.index k.high).1.1 in
        bare k.index k.high (omega (arith, ints)) (omega (arith, ints)) (omega (arith, ints)) (omega arith)
    hit x y t (inr lo) =
        let k = near_cell r p.good m s x y t in let k2 = k.right in let n = (listed_near m s p.listed k.index k.high).1.0 in omega (arith, ints)

next_centre : (m : List ℕ) (s : Stretch) (w w' : Sweep) → Window m s w → Window m s w' → w'.above.row ≡ w.above.row → w'.here.row ≡ w.here.row
next_centre m s w w' g g' e = let a = g.second in let b = g'.second in omega arith

pub turn_hold : (r : Rule) (m : List ℕ) (s : Stretch) (to out : ℕ) (w w' : Sweep) → Progress r m s to out (centre_of w) → Window m s w → Window m s w' → w'.x ≡ w.x + 1 → w'.above.row ≡ w.above.row →
    plane_next r m s (to_z (w.x + 1)) (to_z w.here.row) ≡ false → Progress r m s to out (centre_of w') × Window m s w'
turn_hold r m s to out w w' p g g' ex er e = (
  subst (λ (u : ℕ). Progress r m s to out (cell_at (to_z (w'.x + 1)) (to_z u))) (sym (next_centre m s w w' g g' er))
      (progress_hold r m s to out (w.x + 1) w.here.row (w'.x + 1) p e (omega arith)),
  g',
)

pub turn_emit : (r : Rule) (m : List ℕ) (s : Stretch) (to out : ℕ) (w w' : Sweep) → Progress r m s to out (centre_of w) → Window m s w → Window m s w' → w'.x ≡ w.x + 1 → w'.above.row ≡ w.above.row →
    plane_next r m s (to_z (w.x + 1)) (to_z w.here.row) ≡ true → (out ≡ most_cells → ⊥) →
    Progress r (with_entry m to out w.here.row (w.x + 1)) s to (out + 1) (centre_of w') × Window (with_entry m to out w.here.row (w.x + 1)) s w'
turn_emit r m s to out w w' p g g' ex er e n =
    let few = p.few in let b = written_beside m to out w.here.row (w.x + 1) (omega arith) in (
      subst (λ (u : ℕ). Progress r (with_entry m to out w.here.row (w.x + 1)) s to (out + 1) (cell_at (to_z (w'.x + 1)) (to_z u))) (sym (next_centre m s w w' g g' er))
          (progress_emit r m s to out (w.x + 1) w.here.row (w'.x + 1) p e (omega arith) (omega arith)),
      window_moves b s p.apart p.listed.few w' g',
    )

pub turn_write : (r : Rule) (m m' : List ℕ) (s : Stretch) (to out row x : ℕ) (w w' : Sweep) → Progress r m s to out (centre_of w) → Window m s w → Window m s w' → w'.x ≡ w.x + 1 → w'.above.row ≡ w.above.row →
    plane_next r m s (to_z (w.x + 1)) (to_z w.here.row) ≡ true → (out ≡ most_cells → ⊥) → row ≡ w.here.row → x ≡ w.x + 1 → m' ≡ with_entry m to out row x →
    Beside to m m' × (Progress r m' s to (out + 1) (centre_of w') × Window m' s w')
turn_write r m m' s to out row x w w' p g g' ex er e n e1 e2 em =
    let few = p.few in let q : with_entry m to out w.here.row (w.x + 1) ≡ m' = (λ i. with_entry m to out (sym e1 i) (sym e2 i)) ∙ sym em in (
      subst (λ (u : List ℕ). Beside to m u) q (written_beside m to out w.here.row (w.x + 1) (omega arith)),
      subst (λ (u : List ℕ). Progress r u s to (out + 1) (centre_of w') × Window u s w') q (turn_emit r m s to out w w' p g g' ex er e n),
    )

-- from the start of a row
pub progress_begin : (r : Rule) (m : List ℕ) (s : Stretch) (to n v : ℕ) (w : Sweep) → Progress r m s to n (row_start v) → w.x ≡ 0 → w.here.row ≡ v → Progress r m s to n (centre_of w)
progress_begin r m s to n v w p e f =
    let one : 1 ≡ w.x + 1 = omega arith in
    subst (λ (u : ℕ). Progress r m s to n (cell_at (to_z u) (to_z w.here.row))) one (subst (λ (u : ℕ). Progress r m s to n (cell_at (to_z 1) (to_z u))) (sym f) p)
