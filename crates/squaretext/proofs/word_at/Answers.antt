use Rattle.std.proofs.Common.{◌+◌, Bool, ◌&&◌, sym, ap, ◌∙◌, arith}
use Rattle.std.proofs.lemmas.Bool.{le-ltb}
use Rattle.leaf.proofs.Plain.{none_live}
use Rattle.squaretext.specs.Asked.{drawn_at}
use Rattle.squaretext.proofs.word_at.Goals as goal

pub loop-v-init : goal.loop-v-init
loop-v-init c a b ha hb = none_live a b ∙ sym (ap (λ (t : Bool). t && drawn_at c.args.square.now (c.args.x + a) (c.args.y + b)) (le-ltb b 0 (omega arith)))
