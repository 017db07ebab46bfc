-- A cell put into a list, or erased from it, by moving those behind it.
use Rattle.std.proofs.Common.{◌≡◌, ℕ, ◌+◌, ◌-◌, ◌<◌, ◌≤◌, Bool, true, false, cond, not, T, ◌≢◌, ◌⊎◌, List, length, ℤ, sym, ap, ◌∙◌, subst, inl, inr, arith}
use native.Mathlib.Decide.{dec_lt}
use borrow.Author.Differences.{ints}
use Rattle.model.specs.declared.Cell.{Cell}
use Rattle.model.specs.Cells.{cell_at, before, same_cell, in_order, lives, put}
use Rattle.model.proofs.Order.{bool_same, before_irrefl, lists_same, same_cell_in, same_cell_out, if_so}
use Rattle.model.proofs.Put.{put_order, put_lives}
use Rattle.lent.specs.declared.Stretch.{Stretch}
use Rattle.lent.specs.Stretches.{to_z, tab, entry, row_at, col_at, cells_in, with_entry, room_cells, Listed, Copied}
use Rattle.lent.proofs.Tab.{tab_out, tab_in, tab_order, order_tab}
use Rattle.lent.proofs.Writing.{written_here, written_entry}
use Rattle.cells.proofs.Finds.{place_holds}
use Rattle.cells.specs.Places.{Earlier, Later, Place, Holds, longer, shorter}

not_both : (z : Bool) → T z → T (not z) → ⊥
not_both true s t = t
not_both false s t = s

-- a cell more
module _ (f f' : ℕ → Cell) (n i : ℕ) (c : Cell) where
  pub insert_put : T (in_order (tab f 0 n)) → i ≤ n → ((k : ℕ) → k < i → f' k ≡ f k) → f' i ≡ c → ((k : ℕ) → i ≤ k → k < n → f' (k + 1) ≡ f k) →
      ((k : ℕ) → k < i → T (before (f k) c)) → ((k : ℕ) → i ≤ k → k < n → T (before c (f k))) → tab f' 0 (n + 1) ≡ put c true (tab f 0 n)
  insert_put o l low here high pre post =
      lists_same (tab f' 0 (n + 1)) (put c true (tab f 0 n)) order (put_order c true (tab f 0 n) o) (λ x y. same x y ∙ sym (put_lives (tab f 0 n) o c true x y))
    where
      old : (j k : ℕ) → j < k → k < n → T (before (f j) (f k))
      old j k a b = order_tab f 0 n o j k (omega arith) a (omega arith)

      at_k : (j k : ℕ) → j < i → j < k → k < n + 1 → Dec (k < i) → Dec (i < k) → T (before (f j) (f' k))
      at_k j k a b d (yes p) q = subst (λ (z : Cell). T (before (f j) z)) (sym (low k p)) (old j k b (omega arith))
      at_k j k a b d (no p) (yes q) =
          let e : k - 1 + 1 ≡ k = omega arith in
          subst (λ (z : Cell). T (before (f j) z)) (sym (high (k - 1) (omega arith) (omega arith)) ∙ ap f' e) (old j (k - 1) (omega arith) (omega arith))
      at_k j k a b d (no p) (no q) = let e : i ≡ k = omega arith in subst (λ (z : Cell). T (before (f j) z)) (sym here ∙ ap f' e) (pre j a)

      above : (j k : ℕ) → i < j → j < k → k < n + 1 → T (before (f' j) (f' k))
      above j k a b d =
          let ej : j - 1 + 1 ≡ j = omega arith in let ek : k - 1 + 1 ≡ k = omega arith in
          subst (λ (z : Cell). T (before z (f' k))) (sym (high (j - 1) (omega arith) (omega arith)) ∙ ap f' ej)
          (subst (λ (z : Cell). T (before (f (j - 1)) z)) (sym (high (k - 1) (omega arith) (omega arith)) ∙ ap f' ek) (old (j - 1) (k - 1) (omega arith) (omega arith)))

      own : (k : ℕ) → i < k → k < n + 1 → T (before (f' i) (f' k))
      own k a d =
          let ek : k - 1 + 1 ≡ k = omega arith in
          subst (λ (z : Cell). T (before z (f' k))) (sym here)
          (subst (λ (z : Cell). T (before c z)) (sym (high (k - 1) (omega arith) (omega arith)) ∙ ap f' ek) (post (k - 1) (omega arith) (omega arith)))

      pick : (j k : ℕ) → j < k → k < n + 1 → Dec (j < i) → Dec (i < j) → T (before (f' j) (f' k))
      pick j k b d (yes p) q = subst (λ (z : Cell). T (before z (f' k))) (sym (low j p)) (at_k j k p b d (dec_lt k i) (dec_lt i k))
      pick j k b d (no p) (yes q) = above j k q b d
      pick j k b d (no p) (no q) = let e : i ≡ j = omega arith in subst (λ (u : ℕ). T (before (f' u) (f' k))) e (own k (omega arith) d)

      order : T (in_order (tab f' 0 (n + 1)))
      order = tab_order f' 0 (n + 1) (λ j k a b d. pick j k b (omega arith) (dec_lt j i) (dec_lt i j))

      is_c : (x y : ℤ) → c ≡ cell_at x y → T (lives x y (tab f' 0 (n + 1)))
      is_c x y e = tab_in f' 0 (n + 1) x y (record { index = i; low = omega arith; high = omega arith; is = here ∙ e })

      was : (x y : ℤ) → T (lives x y (tab f 0 n)) → T (lives x y (tab f' 0 (n + 1)))
      was x y t = let k = tab_out f 0 n x y t in moved x y k.index (omega arith) k.is (dec_lt k.index i)
        where
          moved : (x y : ℤ) (k : ℕ) → k < n → f k ≡ cell_at x y → Dec (k < i) → T (lives x y (tab f' 0 (n + 1)))
          moved x y k b e (yes p) = tab_in f' 0 (n + 1) x y (record { index = k; low = omega arith; high = omega arith; is = low k p ∙ e })
          moved x y k b e (no p) = tab_in f' 0 (n + 1) x y (record { index = k + 1; low = omega arith; high = omega arith; is = high k (omega arith) b ∙ e })

      from : (x y : ℤ) → T (lives x y (tab f' 0 (n + 1))) → (c ≡ cell_at x y) ⊎ T (lives x y (tab f 0 n))
      from x y t = let k = tab_out f' 0 (n + 1) x y t in back x y k.index (omega arith) k.is (dec_lt k.index i) (dec_lt i k.index)
        where
          back : (x y : ℤ) (k : ℕ) → k < n + 1 → f' k ≡ cell_at x y → Dec (k < i) → Dec (i < k) → (c ≡ cell_at x y) ⊎ T (lives x y (tab f 0 n))
          back x y k b e (yes p) q = inr (tab_in f 0 n x y (record { index = k; low = omega arith; high = omega arith; is = sym (low k p) ∙ e }))
          back x y k b e (no p) (yes q) =
              let z : k - 1 + 1 ≡ k = omega arith in
              inr (tab_in f 0 n x y (record { index = k - 1; low = omega arith; high = omega arith; is = sym (high (k - 1) (omega arith) (omega arith)) ∙ ap f' z ∙ e }))
          back x y k b e (no p) (no q) = let z : i ≡ k = omega arith in inl (sym here ∙ ap f' z ∙ e)

      same : (x y : ℤ) → lives x y (tab f' 0 (n + 1)) ≡ cond (same_cell c (cell_at x y)) true (lives x y (tab f 0 n))
      same x y =
          if_so (λ (z : Bool). lives x y (tab f' 0 (n + 1)) ≡ z) (same_cell c (cell_at x y)) true (lives x y (tab f 0 n))
          (λ t. bool_same (lives x y (tab f' 0 (n + 1))) true (λ u. tt) (λ u. is_c x y (same_cell_out c (cell_at x y) t)))
          (λ t. bool_same (lives x y (tab f' 0 (n + 1))) (lives x y (tab f 0 n)) (λ u. elim (from x y u) [ inl e ↦ absurd (not_both (same_cell c (cell_at x y)) (same_cell_in c (cell_at x y) e) t) | inr v ↦ v ]) (was x y))

-- and a cell less
module _ (f f' : ℕ → Cell) (n i : ℕ) where
  pub remove_put : T (in_order (tab f 0 n)) → i < n → ((k : ℕ) → k < i → f' k ≡ f k) → ((k : ℕ) → i ≤ k → k + 1 < n → f' k ≡ f (k + 1)) → tab f' 0 (n - 1) ≡ put (f i) false (tab f 0 n)
  remove_put o l low high =
      lists_same (tab f' 0 (n - 1)) (put (f i) false (tab f 0 n)) order (put_order (f i) false (tab f 0 n) o) (λ x y. same x y ∙ sym (put_lives (tab f 0 n) o (f i) false x y))
    where
      old : (j k : ℕ) → j < k → k < n → T (before (f j) (f k))
      old j k a b = order_tab f 0 n o j k (omega arith) a (omega arith)

      pick : (j k : ℕ) → j < k → k < n - 1 → Dec (j < i) → Dec (k < i) → T (before (f' j) (f' k))
      pick j k a b (yes p) (yes q) = subst (λ (z : Cell). T (before z (f' k))) (sym (low j p)) (subst (λ (z : Cell). T (before (f j) z)) (sym (low k q)) (old j k a (omega arith)))
      pick j k a b (yes p) (no q) = subst (λ (z : Cell). T (before z (f' k))) (sym (low j p)) (subst (λ (z : Cell). T (before (f j) z)) (sym (high k (omega arith) (omega arith))) (old j (k + 1) (omega arith) (omega arith)))
      pick j k a b (no p) q =
          subst (λ (z : Cell). T (before z (f' k))) (sym (high j (omega arith) (omega arith)))
          (subst (λ (z : Cell). T (before (f (j + 1)) z)) (sym (high k (omega arith) (omega arith))) (old (j + 1) (k + 1) (omega arith) (omega arith)))

      order : T (in_order (tab f' 0 (n - 1)))
      order = tab_order f' 0 (n - 1) (λ j k a b d. pick j k b (omega arith) (dec_lt j i) (dec_lt k i))

      apart : (k : ℕ) → k < n → k ≢ i → f k ≡ f i → ⊥
      apart k b d e = go (dec_lt k i)
        where
          go : Dec (k < i) → ⊥
          go (yes p) = before_irrefl (f i) (subst (λ (z : Cell). T (before z (f i))) e (old k i p l))
          go (no p) = before_irrefl (f i) (subst (λ (z : Cell). T (before (f i) z)) e (old i k (omega arith) b))

      -- what is left lived before, and is not the erased cell
      from : (x y : ℤ) → T (lives x y (tab f' 0 (n - 1))) → T (lives x y (tab f 0 n)) × (f i ≡ cell_at x y → ⊥)
      from x y t = let k = tab_out f' 0 (n - 1) x y t in back k.index (omega arith) k.is (dec_lt k.index i)
        where
          back : (k : ℕ) → k < n - 1 → f' k ≡ cell_at x y → Dec (k < i) → T (lives x y (tab f 0 n)) × (f i ≡ cell_at x y → ⊥)
          back k b e (yes p) =
              let g = sym (low k p) ∙ e in
              (tab_in f 0 n x y (record { index = k; low = omega arith; high = omega arith; is = g }), (λ h. apart k (omega arith) (λ z. omega arith) (g ∙ sym h)))
          back k b e (no p) =
              let g = sym (high k (omega arith) (omega arith)) ∙ e in
              (tab_in f 0 n x y (record { index = k + 1; low = omega arith; high = omega arith; is = g }), (λ h. apart (k + 1) (omega arith) (λ z. omega arith) (g ∙ sym h)))

      stays : (x y : ℤ) → T (lives x y (tab f 0 n)) → (f i ≡ cell_at x y → ⊥) → T (lives x y (tab f' 0 (n - 1)))
      stays x y t d = let k = tab_out f 0 n x y t in moved k.index (omega arith) k.is (dec_lt k.index i) (dec_lt i k.index)
        where
          moved : (k : ℕ) → k < n → f k ≡ cell_at x y → Dec (k < i) → Dec (i < k) → T (lives x y (tab f' 0 (n - 1)))
          moved k b e (yes p) q = tab_in f' 0 (n - 1) x y (record { index = k; low = omega arith; high = omega arith; is = low k p ∙ e })
          moved k b e (no p) (yes q) =
              let z : k - 1 + 1 ≡ k = omega arith in
              tab_in f' 0 (n - 1) x y (record { index = k - 1; low = omega arith; high = omega arith; is = high (k - 1) (omega arith) (omega arith) ∙ ap f z ∙ e })
          moved k b e (no p) (no q) = let z : i ≡ k = omega arith in absurd (d (ap f z ∙ e))

      same : (x y : ℤ) → lives x y (tab f' 0 (n - 1)) ≡ cond (same_cell (f i) (cell_at x y)) false (lives x y (tab f 0 n))
      same x y =
          if_so (λ (z : Bool). lives x y (tab f' 0 (n - 1)) ≡ z) (same_cell (f i) (cell_at x y)) false (lives x y (tab f 0 n))
          (λ t. bool_same (lives x y (tab f' 0 (n - 1))) false (λ u. (from x y u).1 (same_cell_out (f i) (cell_at x y) t)) (λ u. absurd u))
          (λ t. bool_same (lives x y (tab f' 0 (n - 1))) (lives x y (tab f 0 n)) (λ u. (from x y u).0) (λ u. stays x y u (λ e. not_both (same_cell (f i) (cell_at x y)) (same_cell_in (f i) (cell_at x y) e) t)))

-- the order by words
words_before : (a b c d : ℕ) → (a < c) ⊎ ((a ≡ c) × (b < d)) → T (before (cell_at (to_z b) (to_z a)) (cell_at (to_z d) (to_z c)))
words_before a b c d (inl p) = grind (arith, ints)
words_before a b c d (inr (p, q)) = grind (arith, ints)

earlier_before : (m : List ℕ) (s : Stretch) (k row col : ℕ) → Earlier m s k row col → T (before (entry m s.at k) (cell_at (to_z col) (to_z row)))
earlier_before m s k row col e = words_before (row_at m s.at k) (col_at m s.at k) row col e

later_before : (m : List ℕ) (s : Stretch) (k row col : ℕ) → Later m s k row col → ((row_at m s.at k ≡ row) → (col_at m s.at k ≡ col) → ⊥) → T (before (cell_at (to_z col) (to_z row)) (entry m s.at k))
later_before m s k row col (inl p) n = words_before row col (row_at m s.at k) (col_at m s.at k) (inl p)
later_before m s k row col (inr (p, q)) n = words_before row col (row_at m s.at k) (col_at m s.at k) (inr (sym p, strict (dec_lt col (col_at m s.at k))))
  where
    strict : Dec (col < col_at m s.at k) → col < col_at m s.at k
    strict (yes l) = l
    strict (no l) = absurd (n p (omega arith))

pub inserted : (m m1 m2 : List ℕ) (s : Stretch) (row col i : ℕ) → Listed m s → s.len < room_cells → Place m s row col i → (Holds m s i row col → ⊥) →
    length m1 ≡ length m → Copied s.at i (i + 1) (s.len - i) m m1 → m2 ≡ with_entry m1 s.at i row col → cells_in m2 (longer s) ≡ put (cell_at (to_z col) (to_z row)) true (cells_in m s)
inserted m m1 m2 s row col i h few p absent long d e =
    let hi = p.high in let w = h.within in
    let here : entry m2 s.at i ≡ cell_at (to_z col) (to_z row) = ap (λ (u : List ℕ). entry u s.at i) e ∙ written_here m1 s.at i row col (omega arith) in
    let other : (k : ℕ) → k ≢ i → entry m2 s.at k ≡ entry m1 s.at k = λ k n. ap (λ (u : List ℕ). entry u s.at k) e ∙ written_entry m1 s.at i row col k n in
    let raised : (k : ℕ) → i ≤ k → k < s.len → entry m1 s.at (k + 1) ≡ entry m s.at k =
    λ k l u. let a : k + 1 ≡ i + 1 + (k - i) = omega arith in let b : i + (k - i) ≡ k = omega arith in ap (entry m1 s.at) a ∙ d.moved (k - i) (omega arith) ∙ ap (entry m s.at) b in
    insert_put (entry m s.at) (entry m2 s.at) s.len i (cell_at (to_z col) (to_z row)) h.ordered hi
    (λ k l. other k (λ z. omega arith) ∙ d.others k (inl (omega arith))) here (λ k l u. other (k + 1) (λ z. omega arith) ∙ raised k l u)
    (λ k l. earlier_before m s k row col (p.early k l))
    (λ k l u. later_before m s k row col (p.late k l u) (λ er ec. absent (subst (λ (z : ℕ). Holds m s z row col) (sym (place_holds m s row col i k h p u er ec)) (u, er, ec))))

pub removed : (m m' : List ℕ) (s : Stretch) (i : ℕ) → Listed m s → i < s.len → Copied s.at (i + 1) i (s.len - i - 1) m m' → cells_in m' (shorter s) ≡ put (entry m s.at i) false (cells_in m s)
removed m m' s i h l d =
    remove_put (entry m s.at) (entry m' s.at) s.len i h.ordered l (λ k b. d.others k (inl b))
    (λ k b u.
    let x : k ≡ i + (k - i) = omega arith in let y : i + 1 + (k - i) ≡ k + 1 = omega arith in
    ap (entry m' s.at) x ∙ d.moved (k - i) (omega arith) ∙ ap (entry m s.at) y)
