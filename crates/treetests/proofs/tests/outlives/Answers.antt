use Rattle.std.proofs.Common.{ℕ, sym, subst, arith}
use Rattle.slots.specs.Stores.{Has}
use Rattle.trees.proofs.Rows.{kept_trans, holds_kept}
use Rattle.treetests.proofs.tests.outlives.Goals as goal

pub returns-in_err-again : goal.returns-in_err-again
returns-in_err-again c = kept_trans c.churn.ensures.kept c.grow.ensures.kept

pub compare-same-requires : goal.compare-same-requires
compare-same-requires c =
    let k = kept_trans c.churn.ensures.kept c.grow.ensures.kept in let h = holds_kept k c.requires.holds in
    record { good = k.good; square = subst (λ (i : ℕ). Has c.grow.new.store 4 i) (sym c.number-number.ensures.is) (h.each 0 (omega arith)) }

pub returns : goal.returns
returns c = kept_trans c.churn.ensures.kept c.grow.ensures.kept
