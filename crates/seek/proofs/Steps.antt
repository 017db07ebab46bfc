-- A cell that is put, from store to store.
use Rattle.std.proofs.Common.{◌≡◌, ℕ, zero, suc, ◌/◌, ◌%◌, ◌^◌, ◌<◌, Bool, cond, Ok, Err, Result, sym, refl, ◌∙◌, subst, arith}
use Rattle.model.specs.Squares.{Square, Four, nw, ne, sw, se, with_state}
use Rattle.model.proofs.Shapes.{squares_same, build_right}
use Rattle.model.proofs.Cellwise.{level_with, with_differs}
use Rattle.leaf.specs.Words.{cell_in, is_at}
use Rattle.leaf.specs.AsSquares.{word_square}
use Rattle.model.specs.Quarters.{with_quarter}
use Rattle.model.specs.declared.quarters.Quarters.{Quarters}
use Rattle.slots.specs.declared.Store.{Store}
use Rattle.slots.specs.Stores.{Good, Has, Is}
use Rattle.holds.specs.Holding.{held, Pushed, Keeping}
use Rattle.holds.proofs.Chain.{held_still, keeping_new}
use Rattle.collect.specs.Collecting.{FourOf}
use Rattle.squares.specs.Parts.{QuartersOf}
use Rattle.store.specs.declared.Full.{Full as NoRoom}
use Rattle.store.specs.Interning.{Interned}
use Rattle.pieces.specs.Nine.{quarter_at, Steady, Answers, Gives}
use Rattle.pieces.proofs.Nine.{four_of_lem, is_self}
use Rattle.pieces.proofs.Steady.{keeping_steady, keeping_self}
use Rattle.seek.specs.Putting.{put_in, Task, Loose}
use Rattle.seek.proofs.Paths.{replaced, with_quarter_lem, word_state}

-- ---- leaves
pub word_put : (w r x y : ℕ) (o : Bool) → x < 8 → y < 8 → ((u v : ℕ) → u < 8 → v < 8 → cell_in r u v ≡ cond (is_at x y u v) o (cell_in w u v)) → word_square r ≡ put_in 0 x y o (word_square w)
word_put w r x y o h g f =
    let l = (build_right 3 (cell_in w)).0 in
    squares_same 3 (word_square r) (with_state 3 (word_square w) x y o) (build_right 3 (cell_in r)).0 (level_with 3 (word_square w) x y o l) (λ u v p q.
    sym (word_state r u v p q) ∙ f u v p q ∙ (λ i. cond (is_at x y u v) o (word_state w u v p q i)) ∙ sym (with_differs 3 (word_square w) x y o l h g u v p q))

-- ---- a quarter that is replaced
pub with_quarter_is : (s : Store) (d r c n : ℕ) (q z : Square Bool) (f : Quarters ℕ) → QuartersOf s d q f → Is s d n z → QuartersOf s d (replaced r c z q) (with_quarter f r c n)
with_quarter_is s d zero zero n q z f h g = record { is_nw = g; is_ne = h.is_ne; is_sw = h.is_sw; is_se = h.is_se }
with_quarter_is s d zero (suc c) n q z f h g = record { is_nw = h.is_nw; is_ne = g; is_sw = h.is_sw; is_se = h.is_se }
with_quarter_is s d (suc r) zero n q z f h g = record { is_nw = h.is_nw; is_ne = h.is_ne; is_sw = g; is_se = h.is_se }
with_quarter_is s d (suc r) (suc c) n q z f h g = record { is_nw = h.is_nw; is_ne = h.is_ne; is_sw = h.is_sw; is_se = g }

replaced_four : (r c : ℕ) (z q : Square Bool) → let s = replaced r c z q in Four (nw s) (ne s) (sw s) (se s) ≡ replaced r c z q
replaced_four zero zero z q = refl
replaced_four zero (suc c) z q = refl
replaced_four (suc r) zero z q = refl
replaced_four (suc r) (suc c) z q = refl

-- putting a cell replaces the quarter in which it lies
pub put_replaces : (s : Store) (b i : ℕ) (q : Square Bool) (x y h : ℕ) (o : Bool) → h ≡ 2 ^ suc (suc (suc b)) → x < 2 ^ suc (suc (suc (suc b))) → y < 2 ^ suc (suc (suc (suc b))) → Is s (suc b) i q →
    replaced (y / h) (x / h) (put_in b (x % h) (y % h) o (quarter_at (y / h) (x / h) q)) q ≡ put_in (suc b) x y o q
put_replaces s b i q x y h o e l m a =
    let k = suc (suc (suc b)) in
    (λ t. replaced (y / e t) (x / e t) (with_state k (quarter_at (y / e t) (x / e t) q) (x % e t) (y % e t) o) q) ∙
    subst (λ (q : Square Bool). replaced (y / 2 ^ k) (x / 2 ^ k) (with_state k (quarter_at (y / 2 ^ k) (x / 2 ^ k) q) (x % 2 ^ k) (y % 2 ^ k) o) q ≡ with_state (suc k) q x y o) (sym (four_of_lem s b i q a))
    (with_quarter_lem k _ _ _ _ x y o l m)

-- the quarters that are put together: those of the square that hold k keeps, one of them with the cell put
pub record Joins (v w : Store) (b k x y h : ℕ) (o : Bool) (f : Quarters ℕ) : Type 0 where
  pub joins : (q : Square Bool) → Keeping v k (suc b) q → QuartersOf w b (replaced (y / h) (x / h) (put_in b (x % h) (y % h) o (quarter_at (y / h) (x / h) q)) q) f

pub joining : (v w : Store) (b k x y h i j n : ℕ) (o : Bool) (f g : Quarters ℕ) → Steady v w → i ≡ held v k →
    ((d : ℕ) (q : Square Bool) → Is v (suc d) i q → Is v d j (quarter_at (y / h) (x / h) q)) → Gives b b j (put_in b (x % h) (y % h) o) v w (Ok n) →
    ((d : ℕ) (q : Square Bool) → Is w (suc d) i q → QuartersOf w d q f) → g ≡ with_quarter f (y / h) (x / h) n → Joins v w b k x y h o g
joining v w b k x y h i j n o f g s z a p c e = record {
  joins = λ q l.
      let m = keeping_steady s l in
      let old = a b q (subst (λ (i : ℕ). Is v (suc b) i q) (sym z) l.is) in
      let here = subst (λ (i : ℕ). Is w (suc b) i q) (held_still s.still k l.below ∙ sym z) m.is in
      subst (QuartersOf w b _) (sym e) (with_quarter_is w b (y / h) (x / h) n q _ f (c b q here) (p _ old));
}

pub joins_four : (v w : Store) (b k x y h : ℕ) (o : Bool) (f : Quarters ℕ) → k < v.top → Has v (suc b) (held v k) → Joins v w b k x y h o f → FourOf w b f
joins_four v w b k x y h o f l a j =
    let p = j.joins _ (keeping_self v k (suc b) l a) in
    record { has_nw = p.is_nw.valid; has_ne = p.is_ne.valid; has_sw = p.is_sw.valid; has_se = p.is_se.valid }

pub joins_answer : (v w u : Store) (b k x y h : ℕ) (o : Bool) (f : Quarters ℕ) (r : Result ℕ NoRoom) → Task v (suc b) k x y → h ≡ 2 ^ suc (suc (suc b)) → Joins v w b k x y h o f → Interned w u b f r →
    Answers (suc b) (suc b) k (put_in (suc b) x y o) v u r
joins_answer v w u b k x y h o f (Ok i) t e j a = λ q l.
    let p = j.joins q l in
    subst (Is u (suc b) i) (replaced_four (y / h) (x / h) _ q ∙ put_replaces v b (held v k) q x y h o e t.column t.row l.is) (a _ _ _ _ p.is_nw p.is_ne p.is_sw p.is_se).is
joins_answer v w u b k x y h o f (Err z) t e j a = a

-- ---- a square that isn't held
pub number_task : (v w : Store) (d i k x y : ℕ) → Loose v d i x y → Good w → Pushed v w i → k ≡ v.top → Task w d k x y
number_task v w d i k x y l g h z =
    let n = keeping_new h (is_self v d i l.has) in let top = h.top in let room = l.room in
    record {
      good = g;
      below = omega arith;
      has = subst (λ (k : ℕ). Has w d (held w k)) (sym z) n.is.valid;
      deep = l.deep;
      column = l.column;
      row = l.row;
      room = omega arith;
    }
