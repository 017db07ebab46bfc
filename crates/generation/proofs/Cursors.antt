-- A cursor tells whether the cell in its column lives, and moves on.
use Rattle.std.proofs.Common.{◌≡◌, ℕ, ◌+◌, ◌-◌, ◌*◌, ◌^◌, ◌<◌, ◌≤◌, true, false, T, eqb, ◌⊎◌, List, sym, ap, ◌∙◌, subst, inl, inr, arith}
use native.Mathlib.Decide.{dec_lt}
use Rattle.model.specs.Cells.{lives}
use Rattle.model.proofs.Order.{bool_same}
use Rattle.lent.specs.declared.Stretch.{Stretch}
use Rattle.lent.specs.Stretches.{to_z, row_at, col_at, cells_in, Listed}
use Rattle.lent.proofs.Listing.{to_z_inj, listed_order, listed_near, listed_lives, listed_find}
use Rattle.generation.specs.declared.scan.Cursor.{Cursor}
use Rattle.generation.specs.Scan.{head_of, CursorAt}

head_on : (m : List ℕ) (s : Stretch) (i e : ℕ) → i < e → head_of m s i e ≡ col_at m s.at i
head_on m s i e h = grind arith

head_end : (m : List ℕ) (s : Stretch) (i e : ℕ) → e ≤ i → head_of m s i e ≡ 2 ^ 64 - 1
head_end m s i e h = grind arith

-- what a head says: the row has ended, or it is the column of the first cell that is left
pub record Left (m : List ℕ) (s : Stretch) (x : ℕ) (c : Cursor) : Type 0 where
  pub some : c.at < c.end
  pub column : col_at m s.at c.at ≡ c.head
  pub row : row_at m s.at c.at ≡ c.row
  pub from : x ≤ c.head
  pub low : 2 ^ 60 ≤ c.head
  pub high : c.head ≤ 3 * 2 ^ 60

pub head_says : (m : List ℕ) (s : Stretch) (x : ℕ) (c : Cursor) → Listed m s → CursorAt m s x c → ((c.at ≡ c.end) × (c.head ≡ 2 ^ 64 - 1)) ⊎ Left m s x c
head_says m s x c h a =
    elim (dec_lt c.at c.end) [
      | yes l ↦
          let e = a.head ∙ head_on m s c.at c.end l in let t = a.high in let g = a.here c.at (omega arith) l in
          let n = listed_near m s h c.at (omega arith) in let n1 = n.1.0 in let n2 = n.1.1 in let g0 = g.0 in let g1 = g.1 in
          inr (record { some = l; column = sym e; row = g0; from = omega arith; low = omega arith; high = omega arith })
      | no l ↦ let t = a.low in inl (omega arith, a.head ∙ head_end m s c.at c.end (omega arith))
    ]

-- the only cell of a row that can lie in the cursor's column is the one where it stands
pub at_cursor : (m : List ℕ) (s : Stretch) (x : ℕ) (c : Cursor) → Listed m s → CursorAt m s x c → (k : ℕ) → k < s.len →
    row_at m s.at k ≡ c.row → x ≤ col_at m s.at k → (c.at < c.end) × (col_at m s.at c.at ≤ col_at m s.at k) × (c.at ≤ k) × (k < c.end)
at_cursor m s x c h a k b e f =
    let after : c.at ≤ k = not_past (dec_lt k c.at) in let inside : k < c.end = not_under (dec_lt k c.end) in
    (omega arith, first after inside (dec_lt c.at k), after, inside)
  where
    not_past : Dec (k < c.at) → c.at ≤ k
    not_past (yes l) = elim (a.past k l) [ inl p ↦ absurd (omega arith) | inr p ↦ let p1 = p.1 in absurd (omega arith) ]
    not_past (no l) = omega arith

    not_under : Dec (k < c.end) → k < c.end
    not_under (yes l) = l
    not_under (no l) = let u = a.under k (omega arith) b in absurd (omega arith)

    first : c.at ≤ k → k < c.end → Dec (c.at < k) → col_at m s.at c.at ≤ col_at m s.at k
    first p q (yes l) =
        let g = (a.here c.at (omega arith) (omega arith)).0 in
        elim (listed_order m s h c.at k l b) [ inl o ↦ absurd (omega arith) | inr o ↦ let o1 = o.1 in omega arith ]
    first p q (no l) = let z : c.at ≡ k = omega arith in let y = ap (λ (i : ℕ). col_at m s.at i) z in omega arith

pub cursor_lives : (m : List ℕ) (s : Stretch) (x : ℕ) (c : Cursor) → Listed m s → CursorAt m s x c → x < 2 ^ 63 → lives (to_z x) (to_z c.row) (cells_in m s) ≡ eqb c.head x
cursor_lives m s x c h a b = bool_same _ _ there back
  where
    there : T (lives (to_z x) (to_z c.row) (cells_in m s)) → T (eqb c.head x)
    there t =
        let k = listed_find m s _ _ t in let ex = to_z_inj _ _ k.column in let ey = to_z_inj _ _ k.row in
        let p = at_cursor m s x c h a k.index k.high ey (omega arith) in let p1 = p.1 in
        elim (head_says m s x c h a) [
          | inl g ↦ let g0 = g.0 in let p0 = p.0 in absurd (omega arith)
          | inr g ↦ let e : c.head ≡ x = let g1 = g.column in let g2 = g.from in omega arith in grind arith
        ]

    back : T (eqb c.head x) → T (lives (to_z x) (to_z c.row) (cells_in m s))
    back t =
        let e : c.head ≡ x = grind arith in
        elim (head_says m s x c h a) [
          | inl g ↦ let g1 = g.1 in absurd (omega arith)
          | inr g ↦
              let t0 = a.high in let g0 = g.some in
              subst (λ (u : ℕ). T (lives (to_z u) (to_z c.row) (cells_in m s))) (g.column ∙ e)
              (subst (λ (u : ℕ). T (lives (to_z (col_at m s.at c.at)) (to_z u) (cells_in m s))) g.row (listed_lives m s c.at (omega arith)))
        ]

-- a cursor serves a later column too, up to its head
pub cursor_skip : (m : List ℕ) (s : Stretch) (x x' : ℕ) (c : Cursor) → Listed m s → CursorAt m s x c → x ≤ x' → x' ≤ c.head → CursorAt m s x' c
cursor_skip m s x x' c h a l g =
    record {
      low = a.low;
      high = a.high;
      under = a.under;
      head = a.head;
      past = λ k b. elim (a.past k b) [ inl p ↦ inl p | inr p ↦ let p1 = p.1 in inr (p.0, omega arith) ];
      here = λ k b d.
          let q = a.here k b d in let t = a.high in
          let f = at_cursor m s x c h a k (omega arith) q.0 q.1 in let f0 = f.0 in let f1 = f.1 in
          let e = head_on m s c.at c.end f0 in let ah = a.head in (q.0, omega arith);
    }

-- past the cell in its column
pub cursor_step : (m : List ℕ) (s : Stretch) (x : ℕ) (c c' : Cursor) → Listed m s → CursorAt m s x c → c.head ≡ x → x < 2 ^ 63 → c'.row ≡ c.row → c'.at ≡ c.at + 1 → c'.end ≡ c.end →
    c'.head ≡ head_of m s c'.at c'.end → CursorAt m s (x + 1) c'
cursor_step m s x c c' h a e b er ea ee eh =
    elim (head_says m s x c h a) [
      | inl g ↦ let g1 = g.1 in absurd (omega arith)
      | inr g ↦ let g0 = g.some in let t = a.high in
          record {
            low = omega arith;
            high = omega arith;
            past = λ k l. passed g k (dec_lt k c.at) l;
            here = λ k l u.
                let q = a.here k (omega arith) (omega arith) in let q0 = q.0 in let gr = g.row in let gc = g.column in
                elim (listed_order m s h c.at k (omega arith) (omega arith)) [ inl o ↦ absurd (omega arith) | inr o ↦ let o1 = o.1 in (omega arith, omega arith) ];
            under = λ k l u. let q = a.under k (omega arith) u in omega arith;
            head = eh;
          }
    ]
  where
    passed : Left m s x c → (k : ℕ) → Dec (k < c.at) → k < c'.at → (row_at m s.at k < c'.row) ⊎ ((row_at m s.at k ≡ c'.row) × (col_at m s.at k < x + 1))
    passed g k (yes l) u = elim (a.past k l) [ inl p ↦ inl (omega arith) | inr p ↦ let p0 = p.0 in let p1 = p.1 in inr (omega arith, omega arith) ]
    passed g k (no l) u =
        let z : c.at ≡ k = omega arith in let y = ap (λ (i : ℕ). col_at m s.at i) z in let w = ap (λ (i : ℕ). row_at m s.at i) z in
        let gr = g.row in let gc = g.column in inr (omega arith, omega arith)

-- the cell in its column lives
pub cursor_hit : (m : List ℕ) (s : Stretch) (x : ℕ) (c : Cursor) → Listed m s → CursorAt m s x c → x < 2 ^ 63 → c.head ≡ x → true ≡ lives (to_z x) (to_z c.row) (cells_in m s)
cursor_hit m s x c h a b e = let t : eqb c.head x ≡ true = grind arith in sym (cursor_lives m s x c h a b ∙ t)

-- or it doesn't
pub cursor_miss : (m : List ℕ) (s : Stretch) (x : ℕ) (c : Cursor) → Listed m s → CursorAt m s x c → x < 2 ^ 63 → (c.head ≡ x → ⊥) → false ≡ lives (to_z x) (to_z c.row) (cells_in m s)
cursor_miss m s x c h a b e = let t : eqb c.head x ≡ false = grind arith in sym (cursor_lives m s x c h a b ∙ t)

pub cursor_pass : (m : List ℕ) (s : Stretch) (x : ℕ) (c : Cursor) → Listed m s → CursorAt m s x c → x < 2 ^ 63 → (c.head ≡ x → ⊥) → CursorAt m s (x + 1) c
cursor_pass m s x c h a b e =
    elim (head_says m s x c h a) [
      | inl g ↦ let g1 = g.1 in cursor_skip m s x (x + 1) c h a (omega arith) (omega arith)
      | inr g ↦ let g1 = g.from in cursor_skip m s x (x + 1) c h a (omega arith) (omega arith)
    ]
