-- What stands in the words of a slot.
use Rattle.std.specs.Prelude.{◌≡◌, ℕ, ◌+◌, ◌*◌, ◌^◌, Option, Some, None}
use Rattle.nodes.specs.Memory.{kind_of, target_of, stamp_of}
use Rattle.slots.specs.declared.words.SlotWord.{SlotWord}
use Rattle.slots.specs.declared.words.SlotWord.TheVariants.{Tag, Upper, Lower, LeapNote, FurtherNote, CountLow, CountHigh}
use Rattle.slots.specs.declared.words.Note.{Note}
use Rattle.slots.specs.declared.words.State.{State}
use Rattle.slots.specs.declared.words.State.TheVariants.{Empty, Free, Square}

-- which word of a slot it is
abbrev pub index_of : SlotWord → ℕ
index_of Tag = 0
index_of Upper = 1
index_of Lower = 2
index_of LeapNote = 3
index_of FurtherNote = 4
index_of CountLow = 5
index_of CountHigh = 6

-- the number that stands for a state
abbrev pub number_of : State → ℕ
number_of Empty = 0
number_of Free = 1
number_of (Square d) = d + 2

-- the note in a word, if there is one
abbrev pub NotedIn : ℕ → Option Note → Type 0
NotedIn w (Some n) = (kind_of w ≡ n.exponent + 1) × (target_of w ≡ n.number) × (stamp_of w ≡ n.stamp)
NotedIn w None = kind_of w ≡ 0

-- the word that has a note
abbrev pub word_of : Note → ℕ
word_of n = n.exponent + 1 + 2 ^ 7 * n.number + 2 ^ 33 * n.stamp
