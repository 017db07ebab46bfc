use Rattle.std.proofs.Common.{◌≡◌, ◌-◌, length, refl, ap, ◌∙◌, arith}
use Rattle.nodes.specs.Nodes.{limit}
use Rattle.nodes.specs.Memory.{LaidAt}
use Rattle.nodes.proofs.Memory.{good_eq}
use Rattle.slots.specs.Stores.{mem}
use Rattle.store.specs.Interning.{slots_in}
use Rattle.store.proofs.Opening.{good_cleared}
use Rattle.store.proofs.open.Goals as goal

pub returns-clause-good : goal.returns-clause-good
returns-clause-good c =
    let m = c.args.lent.now in let v = c.new-store.result in let w = c.clear.new.store in let e = c.new-store.ensures in let f = c.clear.ensures in let u = f.fixed in
    let n = e.numbers in let na = n.0 in let ns = n.1.0 in let nt = n.1.1.0 in let nl = n.1.1.1 in let p0 = c.requires.0 in let p1 = c.requires.1 in
    let long : length (mem v) ≡ length m = ap length e.words in
    let slots : w.slots ≡ slots_in (length m - c.args.at) = u.slots ∙ ns ∙ omega arith in
    let left : w.left ≡ limit w.slots = (let z = u.left in let y = u.slots in omega arith) in
    let laid : LaidAt v.at v.slots 0 (mem w) = (let z = u.long in record { fits = omega arith; some = omega arith; few = omega arith; room = omega arith }) in
    good_eq u.at u.slots (u.top ∙ nt) (left ∙ ap limit u.slots) refl (good_cleared v.at v.slots (mem v) (mem w) laid f.cleared)
