use Rattle.std.proofs.Common.{ℕ, ap, subst, arith}
use Rattle.leaf.specs.AsSquares.{word_square}
use Rattle.slots.specs.Stores.{Is}
use Rattle.trees.specs.Mixed.{mix}
use Rattle.trees.specs.Growing.{Made, Holds}
use Rattle.trees.proofs.Growing.{made_leaf, also_row, also_gone, refused}
use Rattle.trees.proofs.Rows.{taken_new, taken_from, taken_trans, row_new, row_here, row_on, row_holds, row_is}
use Rattle.trees.proofs.plant.Goals as goal

pub loop-k-init : goal.loop-k-init
loop-k-init c =
    let e = c.in_ok-number.ensures in let f = c.take-hold.ensures in
    row_here (row_new (λ j. word_square (mix c.args.seed j)) (subst (Is c.intern_leaf.new.store 0 c.in_ok-number.number) (ap word_square c.mix.ensures) e.is.is) f.same f.good f.pushed f.is)

pub returns-in_err-hold : goal.returns-in_err-hold
returns-in_err-hold c =
    let e = c.in_ok-number.ensures in let f = c.take-hold.ensures in let i = c.intern_leaf-made.ensures in
    let k = taken_from (record { same = e.same; good = e.good; still = e.still; top = e.top }) (taken_new f.same f.good f.pushed f.is) in
    let gone = also_gone 0 _ c.intern_leaf-made.result _ (taken_trans k (row_on c.loop-k.invariant (record { same = i.same; good = i.good; still = i.still; top = i.top })).taken) (made_leaf _ _ _ i.is) c.in_err-hold.ensures in
    refused _ _ _ c.from_residual-in_err-hold.result c.from_residual-in_err-hold.ensures.0 gone

pub loop-k-preserved : goal.loop-k-preserved
loop-k-preserved c =
    let i = c.intern_leaf-made.ensures in
    also_row c.intern_leaf-made.result (row_on c.loop-k.invariant (record { same = i.same; good = i.good; still = i.still; top = i.top }))
    (subst (λ (m : ℕ). Made c.intern_leaf-made.new.store 0 (word_square m) c.intern_leaf-made.result) c.mix-in-loop-k.ensures (made_leaf _ _ _ i.is)) c.in_ok-hold.ensures

pub returns : goal.returns
returns c =
    let e = c.in_ok-number.ensures in let f = c.take-hold.ensures in let b = c.loop-k-test.false in let m = c.loop-k.auto.k-end (omega arith) in
    let k = taken_from (record { same = e.same; good = e.good; still = e.still; top = e.top }) (taken_new f.same f.good f.pushed f.is) in
    (taken_trans k c.loop-k.invariant.taken, subst (λ (n : ℕ). Holds c.loop-k.store c.loop-k.hold n 0) (omega arith) (row_holds c.loop-k.invariant), row_is c.loop-k.invariant)
