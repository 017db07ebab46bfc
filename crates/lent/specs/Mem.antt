-- Words of lent memory.
use Rattle.std.specs.Prelude.{◌≡◌, List, ℕ}
use Rattle.lent.specs.declared.View.{View}
use Rattle.lent.specs.declared.Words.{Words}

abbrev pub mem : Words → List ℕ
mem w = w.words.now

abbrev pub seen : View → List ℕ
seen v = v.lent.now

-- still the words of the same lender
abbrev pub Same : Words → Words → Type 0
Same v w = w.words.ghost_name ≡ v.words.ghost_name
