-- What a buffer holds once bytes are written at a place in it.
use Rattle.std.specs.Prelude.{◌≡◌, ℕ, ◌+◌, List, ◌++◌, length, take, drop}

-- bs stand at `at` in the buffer, up to `end`, and all else is as it was
pub record Wrote (before after : List ℕ) (at end : ℕ) (bs : List ℕ) : Type 0 where
  pub long : end ≡ at + length bs
  pub front : take end after ≡ take at before ++ bs
  pub rest : drop end after ≡ drop end before
