use Rattle.std.proofs.Common.{◌≡◌, [], ◌∷◌, get_or, IsUtf8, rules, arith}
use Rattle.std.proofs.lemmas.Str.{IsCharBoundary-after_ascii}
use Rattle.lines.specs.Left.{left}
use Rattle.lines.specs.Splits.{words_of}
use Rattle.lines.proofs.Splitting.{words_at, words_none}
use Rattle.lines.proofs.words.WordsIterator.next.Goals as goal

pub range_from-requires : goal.range_from-requires
range_from-requires c _ =
    let space : get_or c.in_ok-text.text.now c.in-Some.end 0 ≡ 32 = search rules in
    let utf8 : IsUtf8 c.in_ok-text.text.now = search rules in
    IsCharBoundary-after_ascii _ _ utf8 (search rules) (omega (arith, space))

pub returns-in-Some : goal.returns-in-Some
returns-in-Some c =
    let text = c.in_ok-text.text.now in
    let cut = words_at text c.in-Some.end (search rules) (search rules) (search rules) in
    let steps : left c.args.self.now ≡ c.range.result.now ∷ words_of c.range_from.result.now = rw (c.in_ok-text.was, cut) (search rules) in
    record { steps = steps; goes = search (rules, steps) }

pub returns-in-None : goal.returns-in-None
returns-in-None c =
    let text = c.in_ok-text.text.now in
    let steps : left c.args.self.now ≡ text ∷ [] = rw c.in_ok-text.was (words_none text (search rules)) in
    record { steps = steps; goes = search (rules, steps) }
