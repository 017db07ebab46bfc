use Rattle.std.proofs.Common.{◌+◌, ◌-◌, length, drop, ◌∙◌, arith, length-drop}
use Rattle.std.proofs.lemmas.List.{take_all}
use Rattle.squaretext.proofs.Lines.{line_is, rest_is, unbroken}
use Rattle.squaretext.proofs.split_line.Goals as goal

pub returns-in-Some-clause-line : goal.returns-in-Some-clause-line
returns-in-Some-clause-line c = let e = c.in-Some.ensures in line_is c.args.text.now c.in-Some.end e.0 (λ k l. e.2 k 0 (omega arith) l) e.1

pub returns-in-Some-clause-rest : goal.returns-in-Some-clause-rest
returns-in-Some-clause-rest c =
    let e = c.in-Some.ensures in let bs = c.args.text.now in let n = c.in-Some.end in
    take_all (length bs - (n + 1)) (drop (n + 1) bs) (omega (arith, length-drop (n + 1) bs)) ∙ rest_is bs n e.0 (λ k l. e.2 k 0 (omega arith) l) e.1

pub returns-in-None-clause-line : goal.returns-in-None-clause-line
returns-in-None-clause-line c = (unbroken c.args.text.now (λ k l. c.in-None.ensures k 0 (omega arith) l)).0

pub returns-in-None-clause-rest : goal.returns-in-None-clause-rest
returns-in-None-clause-rest c = (unbroken c.args.text.now (λ k l. c.in-None.ensures k 0 (omega arith) l)).1
