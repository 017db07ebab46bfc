-- The window: passing over bare columns, and moving on by one.
use Rattle.std.proofs.Common.{◌≡◌, ℕ, ◌+◌, ◌-◌, ◌*◌, ◌^◌, ◌<◌, ◌≤◌, min, Bool, true, false, T, eqb, ◌⊎◌, List, ℤ, sym, refl, ap, ◌∙◌, subst, inl, inr, arith}
use native.Mathlib.Decide.{dec_lt}
use borrow.Author.Differences.{ints}
use mir.Val.{bool_byte}
use Rattle.model.specs.Planes.{Plane, back, ahead, step}
use Rattle.model.specs.Rules.{Rule, as_one, becomes, tally, life}
use Rattle.model.specs.Cells.{lives, plane_of}
use Rattle.model.proofs.Order.{byte_one}
use Rattle.lent.specs.declared.Stretch.{Stretch}
use Rattle.lent.specs.Stretches.{to_z, row_at, col_at, cells_in, Listed}
use Rattle.lent.proofs.Listing.{to_z_inj, listed_near, listed_lives, listed_find}
use Rattle.generation.specs.declared.scan.Cursor.{Cursor}
use Rattle.generation.specs.declared.scan.Sweep.{Sweep}
use Rattle.generation.specs.Scan.{CursorAt, Window, Ready, Bare, Skipped, column, weight, plane_next}
use Rattle.generation.proofs.Cursors.{head_says, at_cursor, cursor_skip}

false_of : (b : Bool) → (T b → ⊥) → b ≡ false
false_of true h = absurd (h tt)
false_of false h = refl

one_of : (b : Bool) → T b → as_one b ≡ 1
one_of true t = refl
one_of false t = absurd t

-- coordinates one apart
to_z_up : (a b : ℕ) → b ≡ a + 1 → ahead (to_z a) ≡ to_z b
to_z_up a b e = omega (arith, ints)

to_z_down : (a b : ℕ) → b ≡ a + 1 → back (to_z b) ≡ to_z a
to_z_down a b e = omega (arith, ints)

-- a column of the window, by the words of its rows
pub column_is : (m : List ℕ) (s : Stretch) (x u v w : ℕ) → v ≡ u + 1 → w ≡ u + 2 →
    column (plane_of (cells_in m s)) (to_z x) (to_z v) ≡ as_one (lives (to_z x) (to_z u) (cells_in m s)) + (as_one (lives (to_z x) (to_z v) (cells_in m s)) + as_one (lives (to_z x) (to_z w) (cells_in m s)))
column_is m s x u v w e f =
    let a = to_z_down u v e in let b = to_z_up v w (omega arith) in
    λ i. as_one (lives (to_z x) (a i) (cells_in m s)) + (as_one (lives (to_z x) (to_z v) (cells_in m s)) + as_one (lives (to_z x) (b i) (cells_in m s)))

-- a cell in a row and a column of the window is counted
pub counted : (m : List ℕ) (s : Stretch) (v k : ℕ) → k < s.len → v ≤ row_at m s.at k → row_at m s.at k ≤ v + 2 →
    (x : ℕ) → col_at m s.at k ≡ x → (y : ℕ) → y ≡ v + 1 → 0 < column (plane_of (cells_in m s)) (to_z x) (to_z y)
counted m s v k b lo hi x ex y ey = go (dec_lt (row_at m s.at k) y) (dec_lt y (row_at m s.at k))
  where
    l : (r : ℕ) → row_at m s.at k ≡ r → as_one (lives (to_z x) (to_z r) (cells_in m s)) ≡ 1
    l r er =
        one_of _
        (subst (λ (c : ℕ). T (lives (to_z c) (to_z r) (cells_in m s))) ex
        (subst (λ (c : ℕ). T (lives (to_z (col_at m s.at k)) (to_z c) (cells_in m s))) er (listed_lives m s k b)))

    is : column (plane_of (cells_in m s)) (to_z x) (to_z y) ≡ as_one (lives (to_z x) (to_z v) (cells_in m s)) + (as_one (lives (to_z x) (to_z y) (cells_in m s)) + as_one (lives (to_z x) (to_z (v + 2)) (cells_in m s)))
    is = column_is m s x v y (v + 2) ey refl

    go : Dec (row_at m s.at k < y) → Dec (y < row_at m s.at k) → 0 < column (plane_of (cells_in m s)) (to_z x) (to_z y)
    go (yes p) q = let h = l v (omega arith) in let j = is in omega arith
    go (no p) (yes q) = let h = l (v + 2) (omega arith) in let j = is in omega arith
    go (no p) (no q) = let h = l y (omega arith) in let j = is in omega arith

pub bare_lives : (m : List ℕ) (s : Stretch) (v a b : ℕ) → Bare m s v a b → (x y : ℕ) → a ≤ x → x < b → v ≤ y → y ≤ v + 2 → lives (to_z x) (to_z y) (cells_in m s) ≡ false
bare_lives m s v a b h x y l u lo hi =
    false_of _
    (λ t.
    let k = listed_find m s _ _ t in let ex = to_z_inj _ _ k.column in let ey = to_z_inj _ _ k.row in
    h k.index k.high (omega arith) (omega arith) (omega arith) (omega arith))

pub bare_column : (m : List ℕ) (s : Stretch) (v a b : ℕ) → Bare m s v a b → (x y : ℕ) → a ≤ x → x < b → y ≡ v + 1 → column (plane_of (cells_in m s)) (to_z x) (to_z y) ≡ 0
bare_column m s v a b h x y l u e =
    let j = column_is m s x v y (v + 2) e refl in let f = bare_lives m s v a b h x in
    let f0 = ap as_one (f v l u (omega arith) (omega arith)) in let f1 = ap as_one (f y l u (omega arith) (omega arith)) in let f2 = ap as_one (f (v + 2) l u (omega arith) (omega arith)) in
    omega arith

-- with both counted columns bare, nothing stands before the least head
pub bare_upto : (m : List ℕ) (s : Stretch) (w : Sweep) → Listed m s → Window m s w → w.left ≡ 0 → w.middle ≡ 0 →
    (f : ℕ) → f ≤ w.above.head → f ≤ w.here.head → f ≤ w.below.head → Bare m s w.above.row w.x f
bare_upto m s w h g el em f fa fh fb k b lo hi l u = go (dec_lt (col_at m s.at k) (w.x + 1)) (dec_lt (col_at m s.at k) (w.x + 2))
  where
    cnt : (x : ℕ) → col_at m s.at k ≡ x → 0 < column (plane_of (cells_in m s)) (to_z x) (to_z w.here.row)
    cnt x e = counted m s w.above.row k b lo hi x e w.here.row g.second

    stop : (c : Cursor) → CursorAt m s (w.x + 2) c → f ≤ c.head → row_at m s.at k ≡ c.row → w.x + 2 ≤ col_at m s.at k → ⊥
    stop c a le e n =
        let p = at_cursor m s (w.x + 2) c h a k b e n in let p0 = p.0 in let p1 = p.1 in
        elim (head_says m s (w.x + 2) c h a) [ inl q ↦ let q0 = q.0 in omega arith | inr q ↦ let q1 = q.column in omega arith ]

    row : w.x + 2 ≤ col_at m s.at k → Dec (row_at m s.at k < w.here.row) → Dec (w.here.row < row_at m s.at k) → ⊥
    row n (yes p) q = let e = g.second in stop w.above g.upper fa (omega arith) n
    row n (no p) (yes q) = let e = g.second in let e2 = g.third in stop w.below g.lower fb (omega arith) n
    row n (no p) (no q) = stop w.here g.same fh (omega arith) n

    go : Dec (col_at m s.at k < w.x + 1) → Dec (col_at m s.at k < w.x + 2) → ⊥
    go (yes p) q = let e = cnt w.x (omega arith) in let j = g.first_column in omega arith
    go (no p) (yes q) = let e = cnt (w.x + 1) (omega arith) in let j = g.next_column in omega arith
    go (no p) (no q) = row (omega arith) (dec_lt (row_at m s.at k) w.here.row) (dec_lt w.here.row (row_at m s.at k))

-- all three rows have ended
pub skip_none : (m : List ℕ) (s : Stretch) (w : Sweep) → Listed m s → Window m s w → w.left ≡ 0 → w.middle ≡ 0 →
    w.above.head ≡ 2 ^ 64 - 1 → w.here.head ≡ 2 ^ 64 - 1 → w.below.head ≡ 2 ^ 64 - 1 → Bare m s w.above.row w.x (2 ^ 64)
skip_none m s w h g el em ea eh eb k b lo hi l u =
    let n = (listed_near m s h k b).1.1 in
    bare_upto m s w h g el em (2 ^ 64 - 1) (omega arith) (omega arith) (omega arith) k b lo hi l (omega arith)

-- the same window over other columns
abbrev pub at_x : Sweep → ℕ → Sweep
at_x w x = record { above = w.above; here = w.here; below = w.below; x = x; left = w.left; middle = w.middle; alive = w.alive }

-- the least head
pub record Least (w : Sweep) (f : ℕ) : Type 0 where
  pub above : f ≤ w.above.head
  pub here : f ≤ w.here.head
  pub below : f ≤ w.below.head
  pub one : (f ≡ w.above.head) ⊎ ((f ≡ w.here.head) ⊎ (f ≡ w.below.head))

pub least_of : (w : Sweep) (e f : ℕ) → e ≡ min w.above.head w.here.head → f ≡ min e w.below.head → Least w f
least_of w e f p q = go (dec_lt w.above.head w.here.head) (dec_lt e w.below.head)
  where
    go : Dec (w.above.head < w.here.head) → Dec (e < w.below.head) → Least w f
    go (yes a) (yes b) = record { above = omega arith; here = omega arith; below = omega arith; one = inl (omega arith) }
    go (no a) (yes b) = record { above = omega arith; here = omega arith; below = omega arith; one = inr (inl (omega arith)) }
    go (yes a) (no b) = record { above = omega arith; here = omega arith; below = omega arith; one = inr (inr (omega arith)) }
    go (no a) (no b) = record { above = omega arith; here = omega arith; below = omega arith; one = inr (inr (omega arith)) }

-- a head that is not the end is some column
some_head : (m : List ℕ) (s : Stretch) (x : ℕ) (c : Cursor) → Listed m s → CursorAt m s x c → (f : ℕ) → f ≡ c.head → (f ≡ 2 ^ 64 - 1 → ⊥) → (x ≤ f) × (2 ^ 60 ≤ f) × (f ≤ 3 * 2 ^ 60)
some_head m s x c h a f e n =
    elim (head_says m s x c h a) [
      | inl g ↦ let g1 = g.1 in absurd (n (omega arith))
      | inr g ↦ let g1 = g.from in let g2 = g.low in let g3 = g.high in (omega arith, omega arith, omega arith)
    ]

least_some : (m : List ℕ) (s : Stretch) (w : Sweep) (f : ℕ) → Listed m s → Window m s w → Least w f → (f ≡ 2 ^ 64 - 1 → ⊥) → (w.x + 2 ≤ f) × (2 ^ 60 ≤ f) × (f ≤ 3 * 2 ^ 60)
least_some m s w f h g l n =
    elim l.one [
      | inl e ↦ some_head m s _ w.above h g.upper f e n
      | inr r ↦ elim r [ inl e ↦ some_head m s _ w.here h g.same f e n | inr e ↦ some_head m s _ w.below h g.lower f e n ]
    ]

zero_alive : (m : List ℕ) (s : Stretch) (w : Sweep) → Window m s w → w.middle ≡ 0 → w.alive ≡ false
zero_alive m s w g e =
    let j = g.next_column in let k = column_is m s (w.x + 1) w.above.row w.here.row w.below.row g.second g.third in
    false_of w.alive (λ t. let o = one_of _ (subst T g.centre t) in omega arith)

pub skip_jump : (m : List ℕ) (s : Stretch) (w : Sweep) (f x' : ℕ) → Listed m s → Window m s w → w.left ≡ 0 → w.middle ≡ 0 → Least w f → (f ≡ 2 ^ 64 - 1 → ⊥) → x' ≡ f - 2 →
    Skipped m s w (at_x w x') true
skip_jump m s w f x' h g el em l n e =
    let b = least_some m s w f h g l n in let b0 = b.0 in let b1 = b.1 in let b2 = b.2 in
    let l0 = l.above in let l1 = l.here in let l2 = l.below in
    let bare = bare_upto m s w h g el em f l0 l1 l2 in let z : f ≡ x' + 2 = omega arith in
    let skip : (c : Cursor) → CursorAt m s (w.x + 2) c → f ≤ c.head → CursorAt m s (x' + 2) c = λ c a q. cursor_skip m s (w.x + 2) (x' + 2) c h a (omega arith) (omega arith) in (
      record {
        upper = skip w.above g.upper l0;
        same = skip w.here g.same l1;
        lower = skip w.below g.lower l2;
        second = g.second;
        third = g.third;
        first_column = el ∙ sym (bare_column m s w.above.row w.x f bare x' w.here.row (omega arith) (omega arith) g.second);
        next_column = em ∙ sym (bare_column m s w.above.row w.x f bare (x' + 1) w.here.row (omega arith) (omega arith) g.second);
        centre = let gs = g.second in zero_alive m s w g em ∙ sym (bare_lives m s w.above.row w.x f bare (x' + 1) w.here.row (omega arith) (omega arith) (omega arith) (omega arith));
        bound = omega arith;
      },
      inr (elim l.one [ inl q ↦ inl (sym q ∙ z) | inr r ↦ elim r [ inl q ↦ inr (inl (sym q ∙ z)) | inr q ↦ inr (inr (sym q ∙ z)) ] ]),
      refl,
      refl,
      omega arith,
      inr (subst (λ (u : ℕ). Bare m s w.above.row w.x u) z bare),
    )

pub skip_stay : (m : List ℕ) (s : Stretch) (w : Sweep) → Window m s w → 0 < w.left + w.middle → Skipped m s w w true
skip_stay m s w g l = (g, inl l, refl, refl, omega arith, inl refl)

-- what `take` says of a cursor c that became c'
pub record Taken (m : List ℕ) (s : Stretch) (x : ℕ) (c c' : Cursor) (r : Bool) (n : ℕ) : Type 0 where
  pub hit : r ≡ eqb c.head x
  pub cell : r ≡ lives (to_z x) (to_z c.row) (cells_in m s)
  pub moved : CursorAt m s (x + 1) c'
  pub row : c'.row ≡ c.row
  pub end : c'.end ≡ c.end
  pub at : c'.at ≡ c.at + as_one r
  pub byte : n ≡ bool_byte r

one_most : (b : Bool) → as_one b ≤ 1
one_most true = omega arith
one_most false = omega arith

-- no column has more than three living cells
pub column_most : (p : Plane Bool) (x y : ℤ) → column p x y ≤ 3
column_most p x y = let a = one_most (p x (back y)) in let b = one_most (p x y) in let c = one_most (p x (ahead y)) in omega arith

pub window_most : (m : List ℕ) (s : Stretch) (w : Sweep) → Window m s w → (w.left ≤ 3) × (w.middle ≤ 3) × (as_one w.alive ≤ w.middle)
window_most m s w g =
    let a = column_most (plane_of (cells_in m s)) (to_z w.x) (to_z w.here.row) in let b = column_most (plane_of (cells_in m s)) (to_z (w.x + 1)) (to_z w.here.row) in
    let l = g.first_column in let n = g.next_column in let e = ap as_one g.centre in
    (omega arith, omega arith, omega arith)

-- a living cell in the window bounds its columns
column_some : (m : List ℕ) (s : Stretch) (x u v w : ℕ) → Listed m s → v ≡ u + 1 → w ≡ u + 2 → 0 < column (plane_of (cells_in m s)) (to_z x) (to_z v) → x ≤ 3 * 2 ^ 60
column_some m s x u v w h e f p = go (dec_lt (3 * 2 ^ 60) x)
  where
    none : (y : ℕ) → 3 * 2 ^ 60 < x → as_one (lives (to_z x) (to_z y) (cells_in m s)) ≡ 0
    none y l = ap as_one (false_of _ (λ t. let k = listed_find m s _ _ t in let ex = to_z_inj _ _ k.column in let n = (listed_near m s h k.index k.high).1.1 in omega arith))

    go : Dec (3 * 2 ^ 60 < x) → x ≤ 3 * 2 ^ 60
    go (yes l) = let j = column_is m s x u v w e f in let a = none u l in let b = none v l in let c = none w l in absurd (omega arith)
    go (no l) = omega arith

head_high : (m : List ℕ) (s : Stretch) (x : ℕ) (c : Cursor) → Listed m s → CursorAt m s x c → x < 2 ^ 63 → c.head ≡ x → x ≤ 3 * 2 ^ 60
head_high m s x c h a b e = (some_head m s x c h a x (sym e) (λ z. omega arith)).2

ready_high : (m : List ℕ) (s : Stretch) (w : Sweep) → Listed m s → Window m s w → Ready w → w.x ≤ 3 * 2 ^ 60
ready_high m s w h g r =
    let bd = g.bound in
    elim r [
      | inl p ↦ go (dec_lt 0 w.left) p
      | inr q ↦ elim q [
        | inl e ↦ let z = head_high m s (w.x + 2) w.above h g.upper (omega arith) e in omega arith
        | inr t ↦ elim t [
          | inl e ↦ let z = head_high m s (w.x + 2) w.here h g.same (omega arith) e in omega arith
          | inr e ↦ let z = head_high m s (w.x + 2) w.below h g.lower (omega arith) e in omega arith
        ]
      ]
    ]
  where
    go : Dec (0 < w.left) → 0 < w.left + w.middle → w.x ≤ 3 * 2 ^ 60
    go (yes l) p = let e = g.first_column in column_some m s w.x w.above.row w.here.row w.below.row h g.second g.third (omega arith)
    go (no l) p = let e = g.next_column in let z = column_some m s (w.x + 1) w.above.row w.here.row w.below.row h g.second g.third (omega arith) in omega arith

abbrev pub slid : Sweep → Cursor → Cursor → Cursor → ℕ → Bool → Sweep
slid w a h b right alive = record { above = a; here = h; below = b; x = w.x + 1; left = w.middle; middle = right; alive = alive }

-- the right column is counted by the three cursors
right_column : (m : List ℕ) (s : Stretch) (w : Sweep) (ca ch cb : Cursor) (a h b : Bool) (na nh nb : ℕ) → Window m s w →
    Taken m s (w.x + 2) w.above ca a na → Taken m s (w.x + 2) w.here ch h nh → Taken m s (w.x + 2) w.below cb b nb →
    na + nh + nb ≡ column (plane_of (cells_in m s)) (to_z (w.x + 2)) (to_z w.here.row)
right_column m s w ca ch cb a h b na nh nb g ta th tb =
    let j = column_is m s (w.x + 2) w.above.row w.here.row w.below.row g.second g.third in
    let ea = ta.byte ∙ byte_one a ∙ ap as_one ta.cell in let eh = th.byte ∙ byte_one h ∙ ap as_one th.cell in let eb = tb.byte ∙ byte_one b ∙ ap as_one tb.cell in
    omega arith

pub slide_window : (m : List ℕ) (s : Stretch) (w : Sweep) (ca ch cb : Cursor) (a h b : Bool) (na nh nb : ℕ) → Listed m s → Window m s w → Ready w →
    Taken m s (w.x + 2) w.above ca a na → Taken m s (w.x + 2) w.here ch h nh → Taken m s (w.x + 2) w.below cb b nb →
    Window m s (slid w ca ch cb (na + nh + nb) h)
slide_window m s w ca ch cb a h b na nh nb li g r ta th tb =
    let e : w.x + 2 + 1 ≡ w.x + 1 + 2 = omega arith in let f : w.x + 2 ≡ w.x + 1 + 1 = omega arith in
    let up : (c : Cursor) → CursorAt m s (w.x + 2 + 1) c → CursorAt m s (w.x + 1 + 2) c = λ c q. subst (λ (u : ℕ). CursorAt m s u c) e q in
    let ra = ta.row in let rh = th.row in let rb = tb.row in let s2 = g.second in let s3 = g.third in let hi = ready_high m s w li g r in
    record {
      upper = up ca ta.moved;
      same = up ch th.moved;
      lower = up cb tb.moved;
      second = omega arith;
      third = omega arith;
      first_column = subst (λ (u : ℕ). w.middle ≡ column (plane_of (cells_in m s)) (to_z (w.x + 1)) (to_z u)) (sym rh) g.next_column;
      next_column = subst (λ (u : ℕ). na + nh + nb ≡ column (plane_of (cells_in m s)) (to_z u) (to_z ch.row)) f
          (subst (λ (u : ℕ). na + nh + nb ≡ column (plane_of (cells_in m s)) (to_z (w.x + 2)) (to_z u)) (sym rh) (right_column m s w ca ch cb a h b na nh nb g ta th tb));
      centre = subst (λ (u : ℕ). h ≡ lives (to_z u) (to_z ch.row) (cells_in m s)) f
          (subst (λ (u : ℕ). h ≡ lives (to_z (w.x + 2)) (to_z u) (cells_in m s)) (sym rh) th.cell);
      bound = omega arith;
    }

-- a head that is hit is taken
hit_one : (m : List ℕ) (s : Stretch) (x : ℕ) (c c' : Cursor) (r : Bool) (n : ℕ) → Taken m s x c c' r n → c.head ≡ x → n ≡ 1
hit_one m s x c c' r n t e = let z : eqb c.head x ≡ true = grind arith in t.byte ∙ ap bool_byte (t.hit ∙ z)

pub slide_falls : (m : List ℕ) (s : Stretch) (w : Sweep) (ca ch cb : Cursor) (a h b : Bool) (na nh nb : ℕ) → Window m s w → Ready w →
    Taken m s (w.x + 2) w.above ca a na → Taken m s (w.x + 2) w.here ch h nh → Taken m s (w.x + 2) w.below cb b nb →
    weight (slid w ca ch cb (na + nh + nb) h) < weight w
slide_falls m s w ca ch cb a h b na nh nb g r ta th tb = fall some
  where
    some : 0 < w.left + w.middle + (na + nh + nb)
    some =
        elim r [
          | inl p ↦ omega arith
          | inr q ↦ elim q [
            | inl e ↦ let z = hit_one m s _ _ _ _ _ ta e in omega arith
            | inr t ↦ elim t [ inl e ↦ let z = hit_one m s _ _ _ _ _ th e in omega arith | inr e ↦ let z = hit_one m s _ _ _ _ _ tb e in omega arith ]
          ]
        ]

    fall : 0 < w.left + w.middle + (na + nh + nb) → weight (slid w ca ch cb (na + nh + nb) h) < weight w
    fall p =
        let a1 = ta.at in let a2 = ta.end in let a3 = ta.moved.low in let a4 = ta.byte ∙ byte_one a in
        let h1 = th.at in let h2 = th.end in let h3 = th.moved.low in let h4 = th.byte ∙ byte_one h in
        let b1 = tb.at in let b2 = tb.end in let b3 = tb.moved.low in let b4 = tb.byte ∙ byte_one b in
        omega arith

-- the nine cells of the window
nine_cells : (p : Plane Bool) (x x1 x2 y : ℤ) (law : Rule) → back x1 ≡ x → ahead x1 ≡ x2 →
    step (life law) p x1 y ≡ becomes law (p x1 y) (tally (p x (back y)) (p x1 (back y)) (p x2 (back y)) (p x y) (p x2 y) (p x (ahead y)) (p x1 (ahead y)) (p x2 (ahead y)))
nine_cells p x x1 x2 y law e f i =
    becomes law (p x1 y) (tally (p (e i) (back y)) (p x1 (back y)) (p (f i) (back y)) (p (e i) y) (p (f i) y) (p (e i) (ahead y)) (p x1 (ahead y)) (p (f i) (ahead y)))

pub slide_fate : (m : List ℕ) (s : Stretch) (w : Sweep) (ca ch cb : Cursor) (a h b : Bool) (na nh nb nc : ℕ) → Window m s w →
    Taken m s (w.x + 2) w.above ca a na → Taken m s (w.x + 2) w.here ch h nh → Taken m s (w.x + 2) w.below cb b nb → nc ≡ bool_byte w.alive → (law : Rule) →
    plane_next law m s (to_z (w.x + 1)) (to_z w.here.row) ≡ becomes law w.alive (w.left + w.middle + (na + nh + nb) - nc)
slide_fate m s w ca ch cb a h b na nh nb nc g ta th tb ec law =
    let p = plane_of (cells_in m s) in let y = to_z w.here.row in
    let j = right_column m s w ca ch cb a h b na nh nb g ta th tb in let k = g.first_column in let l = g.next_column in
    let o = ec ∙ byte_one w.alive ∙ ap as_one g.centre in
    let count : tally (p (to_z w.x) (back y)) (p (to_z (w.x + 1)) (back y)) (p (to_z (w.x + 2)) (back y)) (p (to_z w.x) y) (p (to_z (w.x + 2)) y) (p (to_z w.x) (ahead y)) (p (to_z (w.x + 1)) (ahead y)) (p (to_z (w.x + 2)) (ahead y)) ≡ w.left + w.middle + (na + nh + nb) - nc = omega arith in
    nine_cells p (to_z w.x) (to_z (w.x + 1)) (to_z (w.x + 2)) y law (to_z_down w.x (w.x + 1) refl) (to_z_up (w.x + 1) (w.x + 2) (omega arith)) ∙
    (λ i. becomes law (sym g.centre i) (count i))

pub slide_few : (m : List ℕ) (s : Stretch) (w : Sweep) (ca ch cb : Cursor) (a h b : Bool) (na nh nb nc : ℕ) → Window m s w →
    Taken m s (w.x + 2) w.above ca a na → Taken m s (w.x + 2) w.here ch h nh → Taken m s (w.x + 2) w.below cb b nb → nc ≡ bool_byte w.alive →
    w.left + w.middle + (na + nh + nb) - nc ≤ 8
slide_few m s w ca ch cb a h b na nh nb nc g ta th tb ec =
    let p = plane_of (cells_in m s) in let y = to_z w.here.row in
    let j = right_column m s w ca ch cb a h b na nh nb g ta th tb in let k = g.first_column in let l = g.next_column in
    let o = ec ∙ byte_one w.alive ∙ ap as_one g.centre in
    let q = column_most p (to_z w.x) y in let r = column_most p (to_z (w.x + 2)) y in
    let u = one_most (p (to_z (w.x + 1)) (back y)) in let v = one_most (p (to_z (w.x + 1)) (ahead y)) in
    omega arith
