use Rattle.std.proofs.Common.{◌≡◌, ℕ, suc, false, ap, ◌∙◌, subst}
use Rattle.model.specs.Squares.{padded}
use Rattle.slots.specs.Stores.{Still}
use Rattle.holds.specs.declared.Hold.{Hold}
use Rattle.holds.specs.Holding.{Popped}
use Rattle.holds.proofs.Chain.{still_trans}
use Rattle.pieces.proofs.Steady.{released}
use Rattle.pads.proofs.pad.Goals as goal

pub returns : goal.returns
returns c =
    let v = c.args.store.now in let w = c.join_corners-whole.new.store in let u = c.release.new.store in let j = c.join_corners-whole.ensures in let r = c.release.ensures in
    let start : c.start-corners.result.from ≡ v.top = ap (λ (x : Hold). x.from) c.start-corners.ensures in
    let popped = subst (λ (k : ℕ). Popped k w u) (j.joined.from ∙ start) r.popped in
    record {
      same = r.same ∙ j.same;
      padded = record {
        good = r.good;
        steady = record { still = still_trans (subst (λ (k : ℕ). Still k v w) start j.joined.still) popped.still; top = popped.top };
        is = released v w u (suc c.args.below) (suc (suc c.args.below)) c.args.place (padded false (suc (suc (suc c.args.below)))) c.join_corners-whole.result popped j.joined.is;
      };
    }
