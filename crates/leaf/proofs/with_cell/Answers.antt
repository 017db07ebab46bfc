use Rattle.std.proofs.Common.{Bool, cond, sym, ap, ◌∙◌}
use Rattle.leaf.specs.Words.{cell_in, is_at}
use Rattle.leaf.proofs.CellLaws.{put_living, put_dead}
use Rattle.leaf.proofs.with_cell.Goals as goal

pub returns-then-lives : goal.returns-then-lives
returns-then-lives c u v hu hv =
    put_living c.args.w c.args.x c.args.y u v c.requires.0 c.requires.1 hu hv ∙
    ap (λ (t : Bool). cond (is_at c.args.x c.args.y u v) t (cell_in c.args.w u v)) (sym c.if-lives.true)

pub returns-else-lives : goal.returns-else-lives
returns-else-lives c u v hu hv =
    put_dead c.args.w c.args.x c.args.y u v c.requires.0 c.requires.1 hu hv ∙
    ap (λ (t : Bool). cond (is_at c.args.x c.args.y u v) t (cell_in c.args.w u v)) (sym c.if-lives.false)
