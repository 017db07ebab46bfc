-- Numbers that look random.
use Rattle.std.specs.Prelude.{ℕ, ◌+◌, ◌*◌, ◌/◌, ◌%◌, ◌^◌}

-- a number whose bits depend on all lower bits of n
abbrev pub spread : ℕ → ℕ → ℕ
spread k n = (n * k % 2 ^ 64 + n * k % 2 ^ 64 / 2 ^ 32) % 2 ^ 64

unfoldable pub mix : ℕ → ℕ → ℕ
mix a b = spread 13787848793156543929 (spread 11400714819323198485 ((a + b) % 2 ^ 64))
