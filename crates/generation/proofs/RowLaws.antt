-- The three rows: passing over rows without cells, moving on by one, and the window at their left.
use Rattle.std.proofs.Common.{◌≡◌, ℕ, ◌+◌, ◌-◌, ◌*◌, ◌^◌, ◌<◌, ◌≤◌, true, false, ◌&&◌, T, List, length, ℤ, sym, refl, ap, subst, inl, inr, arith}
use native.Mathlib.Decide.{dec_lt}
use borrow.Author.Differences.{ints}
use Rattle.model.specs.Rules.{Rule, good_rule}
use Rattle.model.specs.declared.Cell.{Cell}
use Rattle.model.specs.Cells.{cell_at, before, in_order, lives}
use Rattle.model.specs.Lists.{next_of}
use Rattle.model.specs.World.{most_cells}
use Rattle.model.proofs.Order.{bool_same, and_l, and_r}
use Rattle.lent.specs.declared.Stretch.{Stretch}
use Rattle.lent.specs.Stretches.{to_z, tab, row_at, cells_in, room_cells, room_words, Listed, Beside, Apart}
use Rattle.lent.proofs.Listing.{listed_order, listed_near}
use Rattle.lent.proofs.Writing.{beside_entry, beside_cells}
use Rattle.generation.specs.declared.scan.Cursor.{Cursor}
use Rattle.generation.specs.declared.scan.Rows.{Rows}
use Rattle.generation.specs.Scan.{head_of, CursorAt, Window, Bare, RowsAt, RowsSkipped, NoRows, rows_left, Progress, Full, plane_next, row_start}
use Rattle.generation.proofs.Windows.{bare_lives, bare_column}
use Rattle.generation.proofs.Dones.{before_out, before_row, before_column, le_or, done_skip, done_end}
use Rattle.generation.proofs.Steps.{near_cell, decide}

-- where the cells of a row end
pub record RowEnd (m : List ℕ) (s : Stretch) (at row r : ℕ) : Type 0 where
  pub low : at ≤ r
  pub high : r ≤ s.len
  pub inside : (k : ℕ) → at ≤ k → k < r → row_at m s.at k ≡ row
  pub ends : r < s.len → row_at m s.at r ≡ row → ⊥

-- rows don't fall
rows_rise : (m : List ℕ) (s : Stretch) → Listed m s → (j k : ℕ) → j ≤ k → k < s.len → row_at m s.at j ≤ row_at m s.at k
rows_rise m s h j k a b = go (dec_lt j k)
  where
    go : Dec (j < k) → row_at m s.at j ≤ row_at m s.at k
    go (yes l) = elim (listed_order m s h j k l b) [ inl o ↦ omega arith | inr o ↦ let o0 = o.0 in omega arith ]
    go (no l) = let e : j ≡ k = omega arith in let f = ap (λ (i : ℕ). row_at m s.at i) e in omega arith

-- below the end of a row all rows are lower, if none was higher there
rows_after : (m : List ℕ) (s : Stretch) → Listed m s → (at row r : ℕ) → RowEnd m s at row r → ((k : ℕ) → at ≤ k → k < s.len → row ≤ row_at m s.at k) → (k : ℕ) → r ≤ k → k < s.len → row < row_at m s.at k
rows_after m s h at row r e low k a b =
    let l = e.low in let f = low r l (omega arith) in let g = e.ends (omega arith) in let i = rows_rise m s h r k a b in strict (dec_lt row (row_at m s.at r)) f g i
  where
    strict : Dec (row < row_at m s.at r) → row ≤ row_at m s.at r → (row_at m s.at r ≡ row → ⊥) → row_at m s.at r ≤ row_at m s.at k → row < row_at m s.at k
    strict (yes l) f g i = omega arith
    strict (no l) f g i = absurd (g (omega arith))

pub rows_jump : (m : List ℕ) (s : Stretch) (q : Rows) (row e : ℕ) → Listed m s → RowsAt m s q → q.d ≤ q.a → (q.d ≡ s.len → ⊥) → row ≡ row_at m s.at q.d → RowEnd m s q.d row e →
    RowsSkipped m s q (record { top = row - 2; a = q.a; b = q.b; c = q.c; d = e }) true
rows_jump m s q row e h g l n er re =
    let ab = g.ab in let bc = g.bc in let cd = g.cd in let dn = g.dn in let elow = re.low in let ehigh = re.high in
    let below = g.left q.d (omega arith) (omega arith) in let near = (listed_near m s h q.d (omega arith)).0 in let n0 = near.0 in let n1 = near.1 in
    let past : q.d < e = more (dec_lt q.d e) elow in (
      record {
        ab = ab;
        bc = bc;
        cd = omega arith;
        dn = ehigh;
        gone = λ k b. let p = g.gone k b in omega arith;
        upper = λ k a b. absurd (omega arith);
        same = λ k a b. absurd (omega arith);
        lower = λ k a b. let p = re.inside k (omega arith) b in omega arith;
        left = λ k a b. let p = rows_after m s h q.d row e re (λ j u v. let t = rows_rise m s h q.d j u v in omega arith) k a b in omega arith;
        bound = omega arith;
      },
      omega arith,
      omega arith,
      omega arith,
      inr (λ k b lo hi. none k b lo hi (dec_lt k q.d)),
    )
  where
    short : Dec (e < s.len) → e ≡ q.d → e < s.len
    short (yes p) z = p
    short (no p) z = let dn = g.dn in absurd (n (omega arith))

    more : Dec (q.d < e) → q.d ≤ e → q.d < e
    more (yes p) r = p
    more (no p) r =
        let z : e ≡ q.d = omega arith in let y = ap (λ (i : ℕ). row_at m s.at i) z in
        absurd (re.ends (short (dec_lt e s.len) z) (omega arith))

    none : (k : ℕ) → k < s.len → q.top ≤ row_at m s.at k → row_at m s.at k < row - 2 + 2 → Dec (k < q.d) → ⊥
    none k b lo hi (yes p) = let o = g.gone k (omega arith) in omega arith
    none k b lo hi (no p) = let o = rows_rise m s h q.d k (omega arith) b in let near = (listed_near m s h q.d (omega arith)).0.0 in omega arith

pub rows_none : (m : List ℕ) (s : Stretch) (q : Rows) → RowsAt m s q → q.d ≤ q.a → q.d ≡ s.len → NoRows m s q.top (2 ^ 64)
rows_none m s q g l e k b lo hi = let p = g.gone k (omega arith) in omega arith

pub rows_stay : (m : List ℕ) (s : Stretch) (q : Rows) → RowsAt m s q → q.a < q.d → RowsSkipped m s q q true
rows_stay m s q g l = (g, l, omega arith, omega arith, inl refl)

abbrev pub lowered : Rows → ℕ → Rows
lowered q e = record { top = q.top + 1; a = q.b; b = q.c; c = q.d; d = e }

-- rows with a cell are not far down
rows_bound : (m : List ℕ) (s : Stretch) (q : Rows) → Listed m s → RowsAt m s q → q.a < q.d → q.top ≤ 3 * 2 ^ 60
rows_bound m s q h g l = let dn = g.dn in let n = (listed_near m s h q.a (omega arith)).0.1 in go n (dec_lt q.a q.b) (dec_lt q.a q.c)
  where
    go : row_at m s.at q.a ≤ 3 * 2 ^ 60 → Dec (q.a < q.b) → Dec (q.a < q.c) → q.top ≤ 3 * 2 ^ 60
    go n (yes p) r = let e = g.upper q.a (omega arith) p in omega arith
    go n (no p) (yes r) = let e = g.same q.a (omega arith) r in omega arith
    go n (no p) (no r) = let e = g.lower q.a (omega arith) l in omega arith

pub rows_slide : (m : List ℕ) (s : Stretch) (q : Rows) (e : ℕ) → Listed m s → RowsAt m s q → q.a < q.d → RowEnd m s q.d (q.top + 3) e → RowsAt m s (lowered q e) × (rows_left s (lowered q e) < rows_left s q)
rows_slide m s q e h g l re =
    let ab = g.ab in let bc = g.bc in let cd = g.cd in let dn = g.dn in let elow = re.low in let ehigh = re.high in let bd = rows_bound m s q h g l in (
      record {
        ab = bc;
        bc = cd;
        cd = elow;
        dn = ehigh;
        gone = λ k b. first k b (dec_lt k q.a);
        upper = λ k a b. g.same k a b;
        same = λ k a b. let p = g.lower k a b in omega arith;
        lower = λ k a b. let p = re.inside k a b in omega arith;
        left = λ k a b. let p = rows_after m s h q.d (q.top + 3) e re (λ j u v. let t = g.left j u v in omega arith) k a b in omega arith;
        bound = omega arith;
      },
      omega arith,
    )
  where
    first : (k : ℕ) → k < q.b → Dec (k < q.a) → row_at m s.at k < q.top + 1
    first k b (yes p) = let o = g.gone k p in omega arith
    first k b (no p) = let o = g.upper k (omega arith) b in omega arith

pub rows_moves : {to : ℕ} {m m' : List ℕ} → Beside to m m' → (s : Stretch) → Apart s.at to → s.len ≤ room_cells → (q : Rows) → RowsAt m s q → RowsAt m' s q
rows_moves h s a l q g =
    let ab = g.ab in let bc = g.bc in let cd = g.cd in let dn = g.dn in
    record {
      ab = ab;
      bc = bc;
      cd = cd;
      dn = dn;
      bound = g.bound;
      gone = λ k b. let e = (beside_entry h s.at a k (omega arith)).0 in let p = g.gone k b in omega arith;
      upper = λ k b d. let e = (beside_entry h s.at a k (omega arith)).0 in let p = g.upper k b d in omega arith;
      same = λ k b d. let e = (beside_entry h s.at a k (omega arith)).0 in let p = g.same k b d in omega arith;
      lower = λ k b d. let e = (beside_entry h s.at a k (omega arith)).0 in let p = g.lower k b d in omega arith;
      left = λ k b d. let e = (beside_entry h s.at a k (omega arith)).0 in let p = g.left k b d in omega arith;
    }

abbrev pub new_cursor : List ℕ → Stretch → ℕ → ℕ → ℕ → Cursor
new_cursor m s row at end = record { row = row; at = at; end = end; head = head_of m s at end }

-- left of all cells
pub window_start : (m : List ℕ) (s : Stretch) (q : Rows) (a h b : Cursor) → Listed m s → RowsAt m s q →
    a ≡ new_cursor m s q.top q.a q.b → h ≡ new_cursor m s (q.top + 1) q.b q.c → b ≡ new_cursor m s (q.top + 2) q.c q.d →
    Window m s (record { above = a; here = h; below = b; x = 0; left = 0; middle = 0; alive = false })
window_start m s q a h b li g ea eh eb =
    let ab = g.ab in let bc = g.bc in let cd = g.cd in let dn = g.dn in
    let ra = ap (λ (c : Cursor). c.row) ea in let rh = ap (λ (c : Cursor). c.row) eh in let rb = ap (λ (c : Cursor). c.row) eb in
    let bare : Bare m s a.row 0 2 = λ k u lo hi l r. let n = (listed_near m s li k u).1.0 in omega arith in
    record {
      upper = subst (λ (c : Cursor). CursorAt m s 2 c) (sym ea) (record {
        low = ab;
        high = omega arith;
        past = λ k u. inl (g.gone k u);
        here = λ k u v. let n = (listed_near m s li k (omega arith)).1.0 in (g.upper k u v, omega arith);
        under = λ k u v. lower_a k u v (dec_lt k q.c) (dec_lt k q.d);
        head = refl;
      });
      same = subst (λ (c : Cursor). CursorAt m s 2 c) (sym eh) (record {
        low = bc;
        high = omega arith;
        past = λ k u. inl (past_b k u (dec_lt k q.a));
        here = λ k u v. let n = (listed_near m s li k (omega arith)).1.0 in (g.same k u v, omega arith);
        under = λ k u v. lower_b k u v (dec_lt k q.d);
        head = refl;
      });
      lower = subst (λ (c : Cursor). CursorAt m s 2 c) (sym eb) (record {
        low = cd;
        high = dn;
        past = λ k u. inl (past_c k u (dec_lt k q.a) (dec_lt k q.b));
        here = λ k u v. let n = (listed_near m s li k (omega arith)).1.0 in (g.lower k u v, omega arith);
        under = λ k u v. g.left k u v;
        head = refl;
      });
      second = omega arith;
      third = omega arith;
      first_column = sym (bare_column m s a.row 0 2 bare 0 h.row (omega arith) (omega arith) (omega arith));
      next_column = sym (bare_column m s a.row 0 2 bare 1 h.row (omega arith) (omega arith) (omega arith));
      centre = sym (bare_lives m s a.row 0 2 bare 1 h.row (omega arith) (omega arith) (omega arith) (omega arith));
      bound = omega arith;
    }
  where
    past_b : (k : ℕ) → k < q.b → Dec (k < q.a) → row_at m s.at k < q.top + 1
    past_b k u (yes p) = let o = g.gone k p in omega arith
    past_b k u (no p) = let o = g.upper k (omega arith) u in omega arith

    past_c : (k : ℕ) → k < q.c → Dec (k < q.a) → Dec (k < q.b) → row_at m s.at k < q.top + 2
    past_c k u (yes p) r = let o = g.gone k p in omega arith
    past_c k u (no p) (yes r) = let o = g.upper k (omega arith) r in omega arith
    past_c k u (no p) (no r) = let o = g.same k (omega arith) u in omega arith

    lower_b : (k : ℕ) → q.c ≤ k → k < s.len → Dec (k < q.d) → q.top + 1 < row_at m s.at k
    lower_b k u v (yes p) = let o = g.lower k u p in omega arith
    lower_b k u v (no p) = let o = g.left k (omega arith) v in omega arith

    lower_a : (k : ℕ) → q.b ≤ k → k < s.len → Dec (k < q.c) → Dec (k < q.d) → q.top < row_at m s.at k
    lower_a k u v (yes p) r = let o = g.same k u p in omega arith
    lower_a k u v (no p) (yes r) = let o = g.lower k (omega arith) r in omega arith
    lower_a k u v (no p) (no r) = let o = g.left k (omega arith) v in omega arith

-- ---- what is done, row by row
start_none : (r : Rule) → T (good_rule r) → (m : List ℕ) (s : Stretch) → Listed m s → (x y : ℤ) → T (plane_next r m s x y) → T (before (cell_at x y) (row_start 1)) → ⊥
start_none r g m s h x y t b =
    let k = near_cell r g m s x y t in let k2 = k.right in let k4 = k.down in let n = listed_near m s h k.index k.high in let n0 = n.0.0 in let n1 = n.1.0 in
    elim (before_out x y _ _ b) [ inl p ↦ omega (arith, ints) | inr p ↦ let p1 = p.1 in omega (arith, ints) ]

pub progress_start : (r : Rule) (m : List ℕ) (s : Stretch) (to : ℕ) → T (good_rule r) → Listed m s → to + room_words ≤ length m → Apart s.at to → Progress r m s to 0 (row_start 1)
unfolding tab in_order lives
progress_start r m s to g h room apart =
    record {
      good = g;
      listed = h;
      room = room;
      apart = apart;
      few = omega arith;
      done = record {
        ordered = tt;
        each = λ x y. bool_same false (before (cell_at x y) (row_start 1) && plane_next r m s x y) (λ t. absurd t)
            (λ t. absurd (start_none r g m s h x y (and_r (before (cell_at x y) (row_start 1)) (plane_next r m s x y) t) (and_l (before (cell_at x y) (row_start 1)) (plane_next r m s x y) t)));
      };
    }

pub rows_start : (m : List ℕ) (s : Stretch) → Listed m s → RowsAt m s (record { top = 0; a = 0; b = 0; c = 0; d = 0 })
rows_start m s h =
    record {
      ab = omega arith;
      bc = omega arith;
      cd = omega arith;
      dn = omega arith;
      bound = omega arith;
      gone = λ k b. absurd (omega arith);
      upper = λ k a b. absurd (omega arith);
      same = λ k a b. absurd (omega arith);
      lower = λ k a b. absurd (omega arith);
      left = λ k a b. let n = (listed_near m s h k b).0.0 in omega arith;
    }

row_up : (a b : ℕ) → a ≤ b → (x y : ℤ) → T (before (cell_at x y) (row_start (a + 1))) → T (before (cell_at x y) (row_start (b + 1)))
row_up a b l x y t =
    elim (before_out x y _ _ t) [
      | inl p ↦ before_row x y _ _ (omega (arith, ints))
      | inr p ↦ let p0 = p.0 in let p1 = p.1 in elim (le_or y (to_z (b + 1))) [ inl q ↦ before_column x y _ _ (omega (arith, ints)) p1 | inr q ↦ before_row x y _ _ q ]
    ]

-- a cell with none near it in rows a to before b + 2
row_hit : (r : Rule) → T (good_rule r) → (m : List ℕ) (s : Stretch) (a b : ℕ) → Listed m s → NoRows m s a (b + 2) → (x y : ℤ) → T (plane_next r m s x y) → T (before (cell_at x y) (row_start (b + 1))) → (T (before (cell_at x y) (row_start (a + 1))) → ⊥) → ⊥
row_hit r g m s a b h none x y t u n =
    let k = near_cell r g m s x y t in let k1 = k.left in let k2 = k.right in let k3 = k.up in let k4 = k.down in let w = listed_near m s h k.index k.high in let w1 = w.1.0 in
    elim (le_or y (to_z (a + 1))) [
      | inl l ↦ elim (before_out x y _ _ u) [
        | inl p ↦ none k.index k.high (omega (arith, ints)) (omega (arith, ints))
        | inr p ↦ let p1 = p.1 in omega (arith, ints)
      ]
      | inr l ↦ n (before_row x y _ _ l)
    ]

pub progress_rows : (r : Rule) (m : List ℕ) (s : Stretch) (to n : ℕ) (q q' : Rows) → Progress r m s to n (row_start (q.top + 1)) → RowsSkipped m s q q' true → Progress r m s to n (row_start (q'.top + 1))
progress_rows r m s to n q q' p (g, nonempty, left, le, how) =
    elim how [
      | inl e ↦ subst (λ (u : ℕ). Progress r m s to n (row_start (u + 1))) (sym e) p
      | inr none ↦ record {
        good = p.good;
        listed = p.listed;
        room = p.room;
        apart = p.apart;
        few = p.few;
        done = done_skip (plane_next r m s) _ _ _ p.done (row_up q.top q'.top le) (λ x y b t. decide _ (λ z. row_hit r p.good m s q.top q'.top p.listed none x y t b z));
      }
    ]

pub progress_end : (r : Rule) (m : List ℕ) (s : Stretch) (to n : ℕ) (q : Rows) → Progress r m s to n (row_start (q.top + 1)) → NoRows m s q.top (2 ^ 64) → cells_in m (record { at = to; len = n }) ≡ next_of r (cells_in m s)
progress_end r m s to n q p none =
    done_end r p.good (cells_in m s) _ _ p.done
    (λ x y t.
    let k = near_cell r p.good m s x y t in let k3 = k.up in let k4 = k.down in let w = (listed_near m s p.listed k.index k.high).0.1 in
    elim (le_or y (to_z (q.top + 1))) [ inl l ↦ absurd (none k.index k.high (omega (arith, ints)) (omega arith)) | inr l ↦ before_row x y _ _ l ])

-- the next row's start, as the rows have moved
pub progress_lower : (r : Rule) (m : List ℕ) (s : Stretch) (to n v v' : ℕ) → Progress r m s to n (row_start v) → v ≡ v' → Progress r m s to n (row_start v')
progress_lower r m s to n v v' p e = subst (λ (u : ℕ). Progress r m s to n (row_start u)) e p

-- the list is the same in both memories
pub full_moves : {to : ℕ} {m m' : List ℕ} → Beside to m m' → (s : Stretch) → Apart s.at to → s.len ≤ room_cells → (r : Rule) → Full r m' s → Full r m s
full_moves h s a l r f = let e = beside_cells h s a l in subst (λ (cs : List Cell). most_cells < length (next_of r cs)) e f
