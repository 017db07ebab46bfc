-- The count of a node from those of its quarters.
use Rattle.std.proofs.Common.{◌≡◌, ℕ, zero, suc, ◌+◌, ◌-◌, ◌^◌, ◌<◌, ◌≤◌, List, sym, arith}
use native.Mathlib.Nat.{pow-le-pow_right}
use Rattle.model.specs.Squares.{living}
use Rattle.leaf.specs.Words.{living_in}
use Rattle.nodes.specs.declared.Node.{Node}
use Rattle.nodes.specs.Nodes.{Table, Valid, quarters_of}
use Rattle.nodes.specs.Memory.{GoodAt, view, count_in}
use Rattle.nodes.proofs.Tables.{living_most}
use Rattle.nodes.proofs.Words.{word_living}
use Rattle.probe.specs.Places.{Proper, square_in, Countable, counts_of}

-- the count of a square at most 59 deep is below 2^126
count_small : (a n t l : ℕ) (m : List ℕ) → GoodAt a n t l m → (d i : ℕ) → d ≤ 59 → Valid n (view a m) d i → count_in a m i < 2 ^ 125
count_small a n t l m g d i h v =
    let e = g.counted i d v in let p = living_most (view a m) d i in let q : 4 ^ d ≤ 4 ^ 59 = pow-le-pow_right (omega arith) h in omega arith

pub countable : (a n t l : ℕ) (m : List ℕ) (x : Node) → GoodAt a n t l m → Proper n (view a m) x → (x.state ≡ 2 → ⊥) → Countable a n m (quarters_of x)
countable a n t l m x g p h =
    let d = x.state - 3 in let some = p.some in let most = p.most in let k = p.kids d (omega arith) in let e : d ≤ 59 = omega arith in
    record {
      wnw = k.knw.here;
      wne = k.kne.here;
      wsw = k.ksw.here;
      wse = k.kse.here;
      cnw = count_small a n t l m g d _ e k.knw;
      cne = count_small a n t l m g d _ e k.kne;
      csw = count_small a n t l m g d _ e k.ksw;
      cse = count_small a n t l m g d _ e k.kse;
    }

pub leaf_count : (v : Table) (x : Node) → x.state ≡ 2 → (d : ℕ) → x.state ≡ d + 2 → living_in x.upper ≡ living (square_in v d x)
unfolding square_in
leaf_count v x e zero f = sym (word_living x.upper)
leaf_count v x e (suc d) f = absurd (omega arith)

pub four_count : (a n t l : ℕ) (m : List ℕ) (x : Node) → GoodAt a n t l m → Proper n (view a m) x → (x.state ≡ 2 → ⊥) → (d : ℕ) → x.state ≡ d + 2 →
    counts_of a m (quarters_of x) ≡ living (square_in (view a m) d x)
unfolding square_in living
four_count a n t l m x g p h zero f = absurd (h (omega arith))
four_count a n t l m x g p h (suc d) f =
    let k = p.kids d (omega arith) in
    let e1 = g.counted _ d k.knw in let e2 = g.counted _ d k.kne in let e3 = g.counted _ d k.ksw in let e4 = g.counted _ d k.kse in
    omega arith
