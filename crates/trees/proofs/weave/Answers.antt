use Rattle.std.proofs.Common.{ℕ, ◌≡◌, subst}
use Rattle.model.specs.declared.quarters.Quarters.{Quarters}
use Rattle.store.specs.Interning.{Interned}
use Rattle.trees.proofs.Rows.{holds_kept}
use Rattle.trees.specs.Growing.{Kept, woven}
use Rattle.trees.proofs.weave.Goals as goal

pub returns : goal.returns
returns c =
    let e = c.intern.ensures in let k : Kept c.args.store.now c.intern.new.store = record { same = e.same; good = e.good; still = e.still; top = e.top } in
    let four : record { nw = c.number.result; ne = c.number-2.result; sw = c.number-3.result; se = c.number-4.result } ≡ woven c.args.store.now c.args.bed.now c.args.key =
    λ i. record { nw = c.number.ensures.is i; ne = c.number-2.ensures.is i; sw = c.number-3.ensures.is i; se = c.number-4.ensures.is i } in
    record {
      kept = k;
      bed = holds_kept k c.requires.bed;
      is = subst (λ (q : Quarters ℕ). Interned c.args.store.now c.intern.new.store 0 q c.intern.result) four e.is;
    }
