-- Words as squares of level 3, and four of them as one of level 4.
use Rattle.std.specs.Prelude.{◌≡◌, ℕ, ◌^◌, ◌≤◌, Bool}
use Rattle.model.specs.Planes.{always}
use Rattle.model.specs.Rules.{Rule as Law, life}
use Rattle.model.specs.Squares.{Square, Four, build, leap_by}
use Rattle.leaf.specs.Words.{cell_in}

abbrev pub word_square : ℕ → Square Bool
word_square w = build 3 (cell_in w)

abbrev pub four_words : (nw ne sw se : ℕ) → Square Bool
four_words nw ne sw se = Four (word_square nw) (word_square ne) (word_square sw) (word_square se)

-- after 1, 2 or 4 generations the word r is the leap of the four by that power of two
abbrev pub IsLeap : Law → (nw ne sw se n r : ℕ) → Type 0
IsLeap law nw ne sw se n r = (j : ℕ) → j ≤ 2 → n ≡ 2 ^ j → word_square r ≡ leap_by (always (life law)) j 2 (four_words nw ne sw se)
