use Rattle.std.proofs.Common.{ap}
use Rattle.std.proofs.lemmas.Option.{get_or_from_slice_get}
use Rattle.leaf.specs.declared.Fate.{Fate}
use Rattle.leaf.specs.Fates.{fate_of}
use Rattle.leaf.proofs.Adding.{fate_word}
use Rattle.leaf.proofs.Fates.of.Goals as goal

pub returns : goal.returns
returns c l f k h =
    let e = get_or_from_slice_get c.args.self.each c.args.neighbours (fate_of l c.args.neighbours) (record { dead = 0; alive = 0 }) (f.at c.args.neighbours c.requires) in
    fate_word l c.args.w c.args.neighbours _ _ _ k (ap (λ (x : Fate). x.dead) e) (ap (λ (x : Fate). x.alive) e) h (c.choose.ensures k)
