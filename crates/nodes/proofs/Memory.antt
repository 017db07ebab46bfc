-- One word of a slot written, and what stays.
use mathlib.Core.Path.{◌≡◌, refl, sym, transport, ◌∙◌}
use mathlib.Core.List.{List}
use mathlib.Core.Logic.{◌≢◌}
use Prim.Native.Nat.{ℕ, ◌+◌, ◌*◌, ◌%◌, ◌<◌, ◌≤◌}
use native.Mathlib.Omega.{arith}
use lib.ListN.{length, set, length-set}
use lib.Seq.{get_or-set_same, get_or-set_other}
use Rattle.nodes.specs.Memory.{base, word, tag, view, FrontAt, GoodAt}

-- the memory after word f of slot i is written
abbrev pub put : ℕ → List ℕ → (i f x : ℕ) → List ℕ
put a m i f x = set m (base a + 7 * i + f) x

pub put_long : (a : ℕ) (m : List ℕ) (i f x : ℕ) → length (put a m i f x) ≡ length m
put_long a m i f x = simp length-set

pub put_here : (a : ℕ) (m : List ℕ) (i f x : ℕ) → base a + 7 * i + f < length m → word a (put a m i f x) i f ≡ x
put_here a m i f x h = rw get_or-set_same refl

-- another word of any slot
pub put_field : (a : ℕ) (m : List ℕ) (i f x j g : ℕ) → f < 7 → g < 7 → g ≢ f → word a (put a m i f x) j g ≡ word a m j g
put_field a m i f x j g p q ne = let o : (base a + 7 * j + g) ≢ (base a + 7 * i + f) = λ e. ne (omega arith) in rw get_or-set_other refl

-- any word of another slot
pub put_slot : (a : ℕ) (m : List ℕ) (i f x j g : ℕ) → f < 7 → g < 7 → j ≢ i → word a (put a m i f x) j g ≡ word a m j g
put_slot a m i f x j g p q ne = let o : (base a + 7 * j + g) ≢ (base a + 7 * i + f) = λ e. ne (omega arith) in rw get_or-set_other refl

pub put_front : (a : ℕ) (m : List ℕ) (i f x : ℕ) → FrontAt (base a) m (put a m i f x)
put_front a m i f x = record { long = put_long a m i f x; front = λ k l. let o : k ≢ (base a + 7 * i + f) = λ e. omega arith in rw get_or-set_other refl }

pub front_refl : (k : ℕ) (m : List ℕ) → FrontAt k m m
front_refl k m = record { long = refl; front = λ i l. refl }

pub front_trans : {k : ℕ} {m w u : List ℕ} → FrontAt k m w → FrontAt k w u → FrontAt k m u
front_trans p q = record { long = q.long ∙ p.long; front = λ i l. q.front i l ∙ p.front i l }

pub front_less : {k j : ℕ} {m w : List ℕ} → j ≤ k → FrontAt k m w → FrontAt j m w
front_less h p = record { long = p.long; front = λ i l. p.front i (omega arith) }

-- a slot's node is its first three words
pub view_same : (a : ℕ) (m w : List ℕ) (i : ℕ) → tag a w i % 128 ≡ tag a m i % 128 → word a w i 1 ≡ word a m i 1 → word a w i 2 ≡ word a m i 2 → view a w i ≡ view a m i
unfolding view
view_same a m w i e f g = λ t. record { state = e t; upper = f t; lower = g t }

pub view_state : (a : ℕ) (m : List ℕ) (i : ℕ) → (view a m i).state ≡ tag a m i % 128
unfolding view
view_state a m i = refl

-- along equations
pub good_eq : {a a' n n' t t' l l' : ℕ} {m m' : List ℕ} → a' ≡ a → n' ≡ n → t' ≡ t → l' ≡ l → m' ≡ m → GoodAt a n t l m → GoodAt a' n' t' l' m'
good_eq p q r s e g = transport (λ i. GoodAt (sym p i) (sym q i) (sym r i) (sym s i) (sym e i)) g
