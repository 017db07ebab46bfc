use Rattle.std.proofs.Common.{rules, ◌<◌, length}
use Rattle.lines.proofs.Reading.{no_first}
use Rattle.lines.proofs.words.number.Goals as goal
use Rattle.lines.proofs.words.number.Goals.{in_default-via-then-as_bytes-lt1, in_default-via-else-as_bytes-lt1+in_default-1}

pub returns-in_default : goal.returns-in_default
returns-in_default g c =
    record {
      plus = λ e.
          elim c.in_default.branch [
            | in_default-via-then-as_bytes-lt1 w ↦ let short : length c.args.word.now < 1 = search rules in absurd (no_first c.args.word.now short e)
            | in_default-via-else-as_bytes-lt1+in_default-1 w ↦ search (rules, e)
          ];
      other = λ n. (c.parse.result, c.parse.ensures.value, c.ok.ensures.value);
    }
