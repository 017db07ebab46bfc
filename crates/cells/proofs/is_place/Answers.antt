use Rattle.std.proofs.Common.{rules, arith, ◌≡◌, true, sym, ◌∙◌}
use Rattle.lent.specs.Lists.{words_of, stretch_of}
use Rattle.cells.proofs.Finds.{place_told}
use Rattle.cells.proofs.is_place.Goals as goal
use Rattle.cells.proofs.is_place.Goals.{then-i-len+then-i-eq0, then-i-len+else-i-eq0, else-i-len}

pub returns-then-i-len-2 : goal.returns-then-i-len-2
returns-then-i-len-2 c =
    let m = words_of c.args.list in let s = stretch_of c.args.list in let entry = c.args.entry in let i = c.args.i in
    elim c.if-i-len.branch [
      | then-i-len+then-i-eq0 w ↦ place_told m s c.args.list.listed entry.row entry.column i (omega arith) (λ l. absurd (omega arith)) _ (λ l t. absurd (omega arith)) (λ f. search rules)
      | then-i-len+else-i-eq0 w ↦
          let t : w.lt.result ≡ true = sym w.value-is ∙ c.if-lt.true in
          place_told m s c.args.list.listed entry.row entry.column i (omega arith) (λ l. search rules) _ (λ l t. absurd (omega arith)) (λ f. search rules)
      | else-i-len w ↦ search rules
    ]

pub returns-else-i-len-2 : goal.returns-else-i-len-2
returns-else-i-len-2 c =
    let m = words_of c.args.list in let s = stretch_of c.args.list in let entry = c.args.entry in let i = c.args.i in
    elim c.if-i-len.branch [
      | then-i-len+then-i-eq0 w ↦ place_told m s c.args.list.listed entry.row entry.column i (omega arith) (λ l. absurd (omega arith)) _ (λ l t. search rules) (λ f. search rules)
      | then-i-len+else-i-eq0 w ↦
          let t : w.lt.result ≡ true = sym w.value-is ∙ c.if-lt.true in
          place_told m s c.args.list.listed entry.row entry.column i (omega arith) (λ l. search rules) _ (λ l t. search rules) (λ f. search rules)
      | else-i-len w ↦ search rules
    ]
