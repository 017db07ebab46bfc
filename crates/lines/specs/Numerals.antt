-- What a word of a line says where a number is asked for.
use Rattle.std.specs.Prelude.{◌≡◌, ◌≢◌, ℕ, ◌+◌, ◌-◌, ◌*◌, ◌^◌, Bool, true, false, cond, List, [], ◌∷◌, ℤ, pos, neg_ℤ, Some, None, codes, Option, Result, ◌==◌, nat_le, slice_index}
use Rattle.std.specs.Option.{option_map}
use Rattle.std.specs.Result.{result_ok}
use Rattle.std.specs.Char.{is_ascii_digit}
use Rattle.std.specs.Str.{bytes_eq}

-- goes on with what there is
abbrev pub into : {A B : Type 0} → Option A → (A → Option B) → Option B
into None f = None
into (Some x) f = f x

-- n with the digit c after it
abbrev pub digit_on : ℕ → ℕ → Option ℕ
digit_on n c = cond (is_ascii_digit c) (Some (n * 10 + (c - 48))) None

-- n with the digits cs after it
unfoldable pub read_on : ℕ → List ℕ → Option ℕ
read_on n [] = Some n
read_on n (c ∷ cs) = into (digit_on n c) (λ m. read_on m cs)

-- decimal digits, at least one
abbrev pub natural_of : List ℕ → Option ℕ
natural_of [] = None
natural_of (c ∷ cs) = read_on 0 (c ∷ cs)

abbrev pub at_most : ℕ → Option ℕ → Option ℕ
at_most m None = None
at_most m (Some n) = cond (nat_le n m) (Some n) None

abbrev pub up_to : ℕ → List ℕ → Option ℕ
up_to most w = at_most most (natural_of w)

-- a number, with `-` in front or not, that 64 bits hold
abbrev pub place_of : List ℕ → Option ℤ
place_of [] = None
place_of (c ∷ cs) =
    cond (c == 45) (option_map (λ n. neg_ℤ (pos n)) (at_most (2 ^ 63) (natural_of cs))) (option_map pos (at_most (2 ^ 63 - 1) (natural_of (c ∷ cs))))

-- `0` or `1`
abbrev pub flag_of : List ℕ → Option Bool
flag_of w = cond (bytes_eq w (codes "0")) (Some false) (cond (bytes_eq w (codes "1")) (Some true) None)

-- o is what is read in w, if that is Ok; nothing where w begins with `+`
pub record IsParsed {A E : Type 0} (gives : List ℕ → Result A E → Type 0) (w : List ℕ) (o : Option A) : Type 0 where
  pub plus : slice_index w 0 ≡ 43 → o ≡ None
  pub other : slice_index w 0 ≢ 43 → (r : Result A E) × gives w r × (o ≡ result_ok r)
