use Rattle.leaf.proofs.CellLaws.{read_cell}
use Rattle.leaf.proofs.cell.Goals as goal

pub returns : goal.returns
returns c = read_cell c.args.w c.args.x c.args.y
