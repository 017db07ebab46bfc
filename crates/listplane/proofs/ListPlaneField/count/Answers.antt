use Rattle.std.proofs.Common.{sym, ap, ◌∙◌}
use Rattle.model.specs.World.{capped}
use Rattle.lent.specs.Stretches.{entry}
use Rattle.lent.proofs.Tab.{tab_length}
use Rattle.listplane.proofs.Changes.{capped_few}
use Rattle.listplane.proofs.ListPlaneField.count.Goals as goal

pub returns : goal.returns
returns c =
    let s = c.args.self.now.list in capped_few s.len c.requires.few ∙ ap capped (sym (tab_length (entry c.args.mem.now s.at) 0 s.len))
