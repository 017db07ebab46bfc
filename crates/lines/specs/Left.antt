-- The words that a reader of a line has before it.
use Rattle.std.specs.Prelude.{List, []}
use Rattle.std.specs.Option.{option_map_or}
use Rattle.lines.specs.Splits.{Word, words_of}
use Rattle.lines.specs.declared.words.Words.{Words}

abbrev pub left : Words → List Word
left w = option_map_or (λ text. words_of text.now) w.rest []
