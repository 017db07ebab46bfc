-- The steps of a stride.
use Rattle.std.proofs.Common.{◌≡◌, ℕ, suc, false, Ok, Err, Result, sym, subst, arith}
use mathlib.Core.Path.{transport}
use Rattle.model.specs.Squares.{padded}
use Rattle.notes.specs.declared.Leap.{Leap}
use Rattle.notes.specs.Noting.{leap_to}
use Rattle.slots.specs.declared.Store.{Store}
use Rattle.slots.specs.Stores.{Good, Has}
use Rattle.holds.specs.Holding.{held, Pushed}
use Rattle.holds.proofs.Chain.{keeping_new}
use Rattle.store.specs.declared.Full.{Full}
use Rattle.pieces.specs.Nine.{Answers, Outcome, Gives, Given}
use Rattle.pieces.proofs.Nine.{is_self}
use Rattle.pieces.proofs.Steady.{steady_trans, keeping_self}
use Rattle.pads.specs.Padding.{Framed}
use Rattle.advance.specs.Gathering.{Loose}
use Rattle.strides.specs.Striding.{leap_once, stride_of, Stride, Padding, Lone}

pub lone_framed : (v w : Store) (b i k c : ℕ) → c ≡ suc b → k ≡ v.top → Lone v b i → Good w → Pushed v w i → Framed w c k
lone_framed v w b i k c z y l g p =
    let n = keeping_new p (is_self v (suc (suc b)) i l.has) in let top = p.top in let deep = l.deep in
    record { good = g; below = omega arith; has = transport (λ t. Has w (suc (sym z t)) (held w (sym y t))) n.is.valid; deep = omega arith }

-- another way to write the depths
pub outcome_depth : (v w : Store) (b c k : ℕ) (o : Result ℕ Full) → c ≡ suc b → Outcome v w (suc c) (suc (suc c)) k (padded false (suc (suc (suc c)))) o →
    Outcome v w (suc (suc b)) (suc (suc (suc b))) k (padded false (suc (suc (suc (suc b))))) o
outcome_depth v w b c k o z h = transport (λ t. Outcome v w (suc (z t)) (suc (suc (z t))) k (padded false (suc (suc (suc (z t))))) o) h

pub padded_loose : (v w : Store) (le : Leap) (b i n d : ℕ) → d ≡ suc (suc b) → Padding v le b i → Given v w (suc (suc b)) (suc (suc (suc b))) i (padded false (suc (suc (suc (suc b))))) (Ok n) → Loose w le d n
padded_loose v w le b i n d z p g =
    let top = g.steady.top in let room = p.room in let power = p.power in let deep = p.deep in
    record { good = g.good; has = subst (λ (d : ℕ). Has w (suc d) n) (sym z) (g.is _ (is_self v (suc (suc b)) i p.has)).valid; power = omega arith; deep = omega arith; room = omega arith }

pub padded_leap : (v w u : Store) (le : Leap) (b i n d : ℕ) (o : Result ℕ Full) → d ≡ suc (suc b) → Given v w (suc (suc b)) (suc (suc (suc b))) i (padded false (suc (suc (suc (suc b))))) (Ok n) →
    Given w u (suc d) d n (leap_to le d) o → Given v u (suc (suc b)) (suc (suc b)) i (leap_once le b) o
padded_leap v w u le b i n d o z g h =
    record { good = h.good; steady = steady_trans g.steady h.steady; is = go o (transport (λ t. Gives (suc (z t)) (z t) n (leap_to le (z t)) w u o) h.is) }
  where
    go : (o : Result ℕ Full) → Gives (suc (suc (suc b))) (suc (suc b)) n (leap_to le (suc (suc b))) w u o → Gives (suc (suc b)) (suc (suc b)) i (leap_once le b) v u o
    go (Ok l) a = λ q p. a _ (g.is q p)
    go (Err x) a = a

pub stride_padding : (v w : Store) (le : Leap) (b k n : ℕ) → Stride v le b k → Outcome v w (suc b) (suc (suc b)) k (padded false (suc (suc (suc b)))) (Ok n) → Padding w le b n
stride_padding v w le b k n s o =
    let top = o.steady.top in let room = s.room in
    record { good = o.good; has = (o.is _ (keeping_self v k (suc b) s.below s.has)).valid; power = s.power; deep = s.deep; room = omega arith }

pub stride_leap : (v w u : Store) (le : Leap) (b k n : ℕ) (o : Result ℕ Full) → Outcome v w (suc b) (suc (suc b)) k (padded false (suc (suc (suc b)))) (Ok n) →
    Given w u (suc (suc b)) (suc (suc b)) n (leap_once le b) o → Outcome v u (suc b) (suc (suc b)) k (stride_of le b) o
stride_leap v w u le b k n o g h = record { good = h.good; steady = steady_trans g.steady h.steady; is = go o h.is }
  where
    go : (o : Result ℕ Full) → Gives (suc (suc b)) (suc (suc b)) n (leap_once le b) w u o → Answers (suc b) (suc (suc b)) k (stride_of le b) v u o
    go (Ok l) a = λ q p. a _ (g.is q p)
    go (Err x) a = a
