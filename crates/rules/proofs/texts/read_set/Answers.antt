use Rattle.std.proofs.Common.{rules, ◌≡◌, ◌+◌, ◌^◌, true, false, sym, ◌∙◌, arith, pow-add}
use Rattle.std.proofs.lemmas.Nat.{one_shl}
use Rattle.rules.specs.Texts.{reads}
use Rattle.rules.proofs.Reading.{turn}
use Rattle.rules.proofs.texts.read_set.Goals as goal
use Rattle.rules.proofs.texts.read_set.Goals.{in-Some, in_default}

pub loop-n-preserved : goal.loop-n-preserved
loop-n-preserved c =
    elim c.match-strip_prefix.branch [
      | in-Some w ↦
          let add : c.match-strip_prefix.bits ≡ c.loop-n.bits + 2 ^ c.loop-n.n = omega (arith, w.bits-is, one_shl c.loop-n.n 16 (omega arith)) in
          (turn c.loop-n.n c.loop-n.bits _ _ _ true c.loop-n-test.true (search rules) add (search rules) ∙ c.loop-n.invariant.0, omega (arith, pow-add 2 c.loop-n.n 1))
      | in_default w ↦
          (turn c.loop-n.n c.loop-n.bits _ _ _ false c.loop-n-test.true (search rules) w.bits-is (search rules) ∙ c.loop-n.invariant.0, omega (arith, pow-add 2 c.loop-n.n 1))
    ]

pub returns : goal.returns
unfolding reads
returns c = let all : c.loop-n.n ≡ 9 = omega arith in sym (rw all at c.loop-n.invariant.0)
