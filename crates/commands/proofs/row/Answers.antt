use Rattle.std.proofs.Common.{◌≡◌, ℕ, ◌-◌, length, take, refl, ap, ◌∙◌, arith}
use Rattle.std.proofs.lemmas.List.{take_at, length-take-le}
use Rattle.model.specs.World.{bits}
use Rattle.commands.specs.Texts.{drawn}
use Rattle.commands.proofs.Rows.{row_small}
use Rattle.commands.proofs.row.Goals as goal

pub draw-requires : goal.draw-requires
draw-requires g c k h = row_small _ _ _ _ c.row.new.out c.row.ensures k

pub returns : goal.returns
returns g c =
    let from = c.args.from in
    let long : length c.draw.new.cells ≡ c.args.n = omega arith in
    let all : length (take (c.args.n - 0) c.args.out.now) ≡ c.args.n = length-take-le (c.args.n - 0) c.args.out.now (let r = c.requires.room in omega arith) ∙ omega arith in
    let cells = c.row.ensures ∙ ap (λ (k : ℕ). bits from.x from.y k (g.F.Field.world c.args.field.now c.args.mem.now).cells) all in
    record {
      within = omega arith;
      does = (take_at c.draw.new.cells _ _ long ∙ c.draw.ensures ∙ ap drawn cells, refl);
    }
