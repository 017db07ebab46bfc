-- Nothing, and corners.
use Rattle.std.proofs.Common.{◌≡◌, ℕ, zero, suc, ◌-◌, ◌/◌, ◌%◌, ◌<◌, Bool, Ok, Err, Result, sym, refl, ap, ◌∙◌, subst, arith}
use Rattle.model.specs.Squares.{Square, plain, build}
use Rattle.model.specs.Quarters.{with_quarter}
use Rattle.model.specs.declared.quarters.Quarters.{Quarters}
use Rattle.leaf.specs.Words.{bit, cell_in}
use Rattle.leaf.specs.AsSquares.{word_square}
use Rattle.slots.specs.declared.Store.{Store}
use Rattle.slots.specs.Stores.{Has, Is}
use Rattle.holds.specs.Holding.{held, Keeping}
use Rattle.store.specs.declared.Full.{Full}
use Rattle.store.specs.Interning.{Interned, LeafInterned}
use Rattle.collect.specs.Collecting.{FourOf}
use Rattle.pieces.specs.Nine.{Steady, Answers, quarter_at}
use Rattle.pieces.proofs.Steady.{keeping_steady}
use Rattle.pads.specs.Padding.{blank, IsBlank, corner_of}

blank_word : word_square 0 ≡ blank 0
unfolding build plain cell_in bit
blank_word = refl

pub leaf_blank : (w : Store) (d : ℕ) (o : Result ℕ Full) → d ≡ 0 → LeafInterned w 0 o → IsBlank w d o
leaf_blank w d (Ok i) z h = subst (λ (d : ℕ). Is w d i (blank d)) (sym z) (subst (Is w 0 i) blank_word h.is)
leaf_blank w d (Err x) z h = h

pub four_blank : (v w : Store) (d p n : ℕ) (o : Result ℕ Full) → d ≡ suc p → Is v p n (blank p) → Interned v w p (record { nw = n; ne = n; sw = n; se = n }) o → IsBlank w d o
unfolding plain
four_blank v w d p n (Ok i) z b h = subst (λ (d : ℕ). Is w d i (blank d)) (sym z) (h _ _ _ _ b b b b).is
four_blank v w d p n (Err x) z b h = h

-- the quarters of the i-th corner
abbrev pub around : (blank inner i : ℕ) → Quarters ℕ
around e n i = with_quarter (record { nw = e; ne = e; sw = e; se = e }) (1 - i / 2) (1 - i % 2) n

pub around_is : {f g : Quarters ℕ} {e : ℕ} (n i : ℕ) → f ≡ with_quarter g (1 - i / 2) (1 - i % 2) n → g ≡ record { nw = e; ne = e; sw = e; se = e } → f ≡ around e n i
around_is n i p q = p ∙ ap (λ (g : Quarters ℕ). with_quarter g (1 - i / 2) (1 - i % 2) n) q

-- what is interned of the four around is the corner
pub corner_interned : (v w u : Store) (b i k e n : ℕ) (o : Result ℕ Full) → i < 4 → Is w b e (blank b) → ((q : Square Bool) → Keeping v k (suc b) q → Is w b n (quarter_at (i / 2) (i % 2) q)) →
    Interned w u b (around e n i) o → Answers (suc b) (suc b) k (corner_of b i) v u o
corner_interned v w u b zero k e n (Ok j) l he hn h = λ q p. (h _ _ _ _ he he he (hn q p)).is
corner_interned v w u b zero k e n (Err x) l he hn h = h
corner_interned v w u b (suc zero) k e n (Ok j) l he hn h = λ q p. (h _ _ _ _ he he (hn q p) he).is
corner_interned v w u b (suc zero) k e n (Err x) l he hn h = h
corner_interned v w u b (suc (suc zero)) k e n (Ok j) l he hn h = λ q p. (h _ _ _ _ he (hn q p) he he).is
corner_interned v w u b (suc (suc zero)) k e n (Err x) l he hn h = h
corner_interned v w u b (suc (suc (suc zero))) k e n (Ok j) l he hn h = λ q p. (h _ _ _ _ (hn q p) he he he).is
corner_interned v w u b (suc (suc (suc zero))) k e n (Err x) l he hn h = h
corner_interned v w u b (suc (suc (suc (suc i)))) k e n o l he hn h = absurd (omega arith)

pub around_four : (w : Store) (b e n i : ℕ) → i < 4 → Has w b e → Has w b n → FourOf w b (around e n i)
around_four w b e n zero l he hn = record { has_nw = he; has_ne = he; has_sw = he; has_se = hn }
around_four w b e n (suc zero) l he hn = record { has_nw = he; has_ne = he; has_sw = hn; has_se = he }
around_four w b e n (suc (suc zero)) l he hn = record { has_nw = he; has_ne = hn; has_sw = he; has_se = he }
around_four w b e n (suc (suc (suc zero))) l he hn = record { has_nw = hn; has_ne = he; has_sw = he; has_se = he }
around_four w b e n (suc (suc (suc (suc i)))) l he hn = absurd (omega arith)

-- the quarter of the held square, after a step
pub quarter_kept : (v w : Store) (b k m n r c : ℕ) → Steady v w → m ≡ held w k → ((d : ℕ) (q : Square Bool) → Is w (suc d) m q → Is w d n (quarter_at r c q)) →
    (q : Square Bool) → Keeping v k (suc b) q → Is w b n (quarter_at r c q)
quarter_kept v w b k m n r c s z h q p = h b q (subst (λ (i : ℕ). Is w (suc b) i q) (sym z) (keeping_steady s p).is)
