use Rattle.std.proofs.Common.{sym}
use Rattle.lines.proofs.Text.{line_utf8}
use Rattle.lines.proofs.printable.Goals as goal

pub from_utf8_unchecked-requires : goal.from_utf8_unchecked-requires
from_utf8_unchecked-requires c = line_utf8 c.args.line.now (sym c.if-is_text.ensures)
