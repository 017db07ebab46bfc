-- The end of a line: a byte 10, or 13 and 10.
use Rattle.std.specs.Prelude.{ℕ, ◌-◌, Bool, cond, ◌&&◌, List, length, take, ◌==◌, nat_lt, slice_index}

-- whether there is a last byte, and it is c
abbrev pub ends_with_byte : ℕ → List ℕ → Bool
ends_with_byte c bs = nat_lt 0 (length bs) && slice_index bs (length bs - 1) == c

-- all bytes but the last
abbrev pub front : List ℕ → List ℕ
front bs = take (length bs - 1) bs

-- a line without its end
abbrev pub bare_of : List ℕ → List ℕ
bare_of line = cond (ends_with_byte 10 line) (cond (ends_with_byte 13 (front line)) (front (front line)) (front line)) line
