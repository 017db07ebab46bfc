-- A line of printable characters is a text.
use Rattle.std.proofs.Common.{◌≡◌, ℕ, zero, suc, Bool, true, false, ◌&&◌, leb, List, [], ◌∷◌, IsUtf8, IsAscii, sym, refl, arith}
use Rattle.std.proofs.lemmas.Bool.{leb-true, true≢false}
use Rattle.std.proofs.lemmas.Str.{IsUtf8-from_ascii}
use Rattle.lines.specs.Splits.{is_line_text}

both : (a b : Bool) → (a && b) ≡ true → (a ≡ true) × (b ≡ true)
both true true h = (refl, refl)
both true false h = absurd (true≢false (sym h))
both false b h = absurd (true≢false (sym h))

ascii : (cs : List ℕ) → is_line_text cs ≡ true → IsAscii cs
ascii [] h i = omega arith
ascii (c ∷ cs) h zero = let low : leb c 126 ≡ true = (both (leb 32 c) (leb c 126) (both (leb 32 c && leb c 126) (is_line_text cs) h).0).1 in omega (arith, leb-true c 126 low)
ascii (c ∷ cs) h (suc i) = ascii cs (both _ _ h).1 i

-- so it is UTF-8
pub line_utf8 : (cs : List ℕ) → is_line_text cs ≡ true → IsUtf8 cs
line_utf8 cs h = IsUtf8-from_ascii cs (ascii cs h)
