use Rattle.std.proofs.Common.{◌∙◌}
use Rattle.store.proofs.Interning.{added_first, added_kept, kept_grown, still_grown, still_two}
use Rattle.store.proofs.intern_node.Goals as goal

pub returns-in-Some-clause-still : goal.returns-in-Some-clause-still
returns-in-Some-clause-still c = let e = c.in-Some.ensures in still_grown c.args.store.now c.add.new.store c.requires.good e.cut e.added.grown

pub returns-in-Some-clause-added : goal.returns-in-Some-clause-added
returns-in-Some-clause-added c = let e = c.in-Some.ensures in added_first c.args.store.now c.add.new.store c.args.node c.in-Some.number e.cut e.added.given

pub returns-clause-still : goal.returns-clause-still
returns-clause-still c =
    let v = c.args.store.now in let w = c.add.new.store in let u = c.make_room.new.store in let z = c.add_again.new.store in
    let e = c.in_default.ensures in let g = c.make_room.ensures in let b = c.add_again.ensures in
    still_two v u z v.top (still_two v w u v.top (still_grown v w c.requires.good e.cut e.added.grown) e.cut.top g.still) (g.top ∙ e.cut.top) (still_grown u z g.good b.cut b.grown)

pub returns-clause-added : goal.returns-clause-added
returns-clause-added c =
    let v = c.args.store.now in let w = c.add.new.store in let u = c.make_room.new.store in let z = c.add_again.new.store in let x = c.args.node in let r = c.add_again.result in
    let e = c.in_default.ensures in
    added_kept v w z x r (kept_grown v w x e.cut e.added.grown c.requires.proper) (added_kept w u z x r c.make_room.ensures.kept c.add_again.ensures.added)
