use Rattle.leaf.proofs.Joins.{core_nw, core_ne, core_sw, core_se}
use Rattle.leaf.proofs.join_cores.Goals as goal

pub returns : goal.returns
returns c =
    record {
      nw = core_nw c.args.nw c.args.ne c.args.sw c.args.se;
      ne = core_ne c.args.nw c.args.ne c.args.sw c.args.se;
      sw = core_sw c.args.nw c.args.ne c.args.sw c.args.se;
      se = core_se c.args.nw c.args.ne c.args.sw c.args.se;
    }
