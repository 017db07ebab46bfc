use Rattle.std.proofs.Common.{List, ℕ, ◌++◌, codes, sym, ap, ◌∙◌, arith, append_assoc}
use Rattle.answers.proofs.Writing.{wrote_both, wrote_as}
use Rattle.commands.specs.Texts.{also, box_text}
use Rattle.commands.proofs.Writing.{holds_wrote, wrote_numbers}
use Rattle.commands.proofs.replies.write_bounds.Goals as goal

pub returns : goal.returns
returns c =
    let b = c.in-Some.b in
    let first = wrote_numbers b.left b.top (omega arith) (omega arith) c.write_both-opposite.ensures.wrote in
    let second = wrote_numbers b.right b.bottom (omega arith) (omega arith) c.write_both.ensures.wrote in
    let all = wrote_both c.text-corner.ensures (wrote_both first second) in
    let whole = ap (λ (l : List ℕ). codes "box" ++ l) (append_assoc (also b.left) (also b.top) (also b.right ++ also b.bottom)) in
    holds_wrote (wrote_as (whole ∙ ap box_text (sym c.in-Some.is)) all) (omega arith)
