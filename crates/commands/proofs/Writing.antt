-- What is written from the front of a buffer on.
use Rattle.std.proofs.Common.{ℕ, ◌^◌, ◌<◌, ◌≤◌, List, ◌++◌, length, ℤ, ap, w64, to_z, of_z}
use lib.Signed.{mag}
use mir.ValLaws.{to_z-of_z}
use Rattle.answers.specs.Wrote.{Wrote}
use Rattle.answers.proofs.Writing.{wrote_as}
use Rattle.commands.specs.Texts.{also, Holds}

pub holds_wrote : {xs ys : List ℕ} {r : ℕ} {bs : List ℕ} → Wrote xs ys 0 r bs → r ≤ length ys → Holds ys r bs
holds_wrote w h = record { within = h; is = w.front }

-- a number of 64 bits that is written as its bits say
pub wrote_number : {xs ys : List ℕ} {p q : ℕ} (z : ℤ) → mag z < 2 ^ 63 → Wrote xs ys p q (also (to_z w64 (of_z w64 z))) → Wrote xs ys p q (also z)
wrote_number z h w = wrote_as (ap also (to_z-of_z w64 z (record { sfits = h }))) w

pub wrote_numbers : {xs ys : List ℕ} {p q : ℕ} (x y : ℤ) → mag x < 2 ^ 63 → mag y < 2 ^ 63 →
    Wrote xs ys p q (also (to_z w64 (of_z w64 x)) ++ also (to_z w64 (of_z w64 y))) → Wrote xs ys p q (also x ++ also y)
wrote_numbers x y h k w =
    let u = to_z-of_z w64 x (record { sfits = h }) in let v = to_z-of_z w64 y (record { sfits = k }) in wrote_as (λ i. also (u i) ++ also (v i)) w
