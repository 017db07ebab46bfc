-- What is read of the text of a rule is what the text writes.
use Rattle.std.proofs.Common.{◌≡◌, ℕ, zero, suc, ◌+◌, ◌-◌, ◌*◌, ◌/◌, ◌%◌, ◌^◌, ◌<◌, ◌≤◌, Bool, true, false, ◌&&◌, cond, eqb, List, [], ◌∷◌, ◌++◌, length, take, drop, Some, None, Option, sym, refl, ap, ◌∙◌, subst, append-nil, mul_assoc, one-mul, pow-suc, mul-add, add-one, arith}
use lib.Pointwise.{pointwise}
use Rattle.std.proofs.lemmas.Bool.{eqb-true, eqb-false, eq-eqb, ne_eqb, both_ways}
use Rattle.model.specs.Rules.{flags}
use Rattle.rules.specs.declared.texts.RuleSets.{RuleSets}
use Rattle.rules.specs.Texts.{digits, set_text, rule_text, Read, begins, reads, set_at_front, ended, after_stays, after_born, sets_of, Sets}

-- a prefix of one byte
pub prefix_begins : (c : ℕ) (bs : List ℕ) → pointwise eqb (take 1 bs) (c ∷ []) ≡ begins c bs
prefix_begins c [] = refl
prefix_begins c (b ∷ bs) = elim (eqb b c) as (λ t. (t && true) ≡ t) [ true ↦ refl | false ↦ refl ]

-- one turn of the loop that reads a set
pub reads_more : (k n : ℕ) (bs : List ℕ) → k < 9 →
    reads (9 - k) k n bs ≡ cond (begins (48 + k) bs) (reads (9 - (k + 1)) (k + 1) (n + 2 ^ k) (drop 1 bs)) (reads (9 - (k + 1)) (k + 1) n bs)
unfolding reads
reads_more k n bs h =
    let one : 9 - k ≡ suc (9 - (k + 1)) = omega arith in
    rw (one, add-one k)

-- the same, where t says whether the digit stands there
pub turn : (k n n' : ℕ) (bs bs' : List ℕ) (t : Bool) → k < 9 → pointwise eqb (take 1 bs) ((48 + k) ∷ []) ≡ t →
    n' ≡ cond t (n + 2 ^ k) n → bs' ≡ cond t (drop 1 bs) bs →
    reads (9 - (k + 1)) (k + 1) n' bs' ≡ reads (9 - k) k n bs
turn k n n' bs bs' true h b p q = cc (rw (sym (prefix_begins (48 + k) bs) ∙ b) at (reads_more k n bs h))
turn k n n' bs bs' false h b p q = cc (rw (sym (prefix_begins (48 + k) bs) ∙ b) at (reads_more k n bs h))

-- the number whose bits are the flags
unfoldable pub weight : List Bool → ℕ
weight [] = 0
weight (true ∷ fs) = 1 + 2 * weight fs
weight (false ∷ fs) = 2 * weight fs

flags_weight : (fs : List Bool) → flags (length fs) (weight fs) ≡ fs
unfolding flags weight
flags_weight [] = refl
flags_weight (true ∷ fs) =
    let half : (1 + 2 * weight fs) / 2 ≡ weight fs = omega arith in
    let odd : eqb ((1 + 2 * weight fs) % 2) 1 ≡ true = eq-eqb _ _ (omega arith) in
    rw (half, odd, flags_weight fs)
flags_weight (false ∷ fs) =
    let half : 2 * weight fs / 2 ≡ weight fs = omega arith in
    let even : eqb (2 * weight fs % 2) 1 ≡ false = ne_eqb _ _ (λ e. omega arith) in
    rw (half, even, flags_weight fs)

weight_lt : (fs : List Bool) → weight fs < 2 ^ length fs
unfolding weight
weight_lt [] = omega arith
weight_lt (true ∷ fs) = omega (arith, weight_lt fs, pow-suc 2 (length fs))
weight_lt (false ∷ fs) = omega (arith, weight_lt fs, pow-suc 2 (length fs))

weight_more : (t : Bool) (s : ℕ) (fs : List Bool) → eqb (s % 2) 1 ≡ t → weight fs ≡ s / 2 → weight (t ∷ fs) ≡ s
unfolding weight
weight_more true s fs e h = omega (arith, eqb-true (s % 2) 1 e)
weight_more false s fs e h = omega (arith, eqb-false (s % 2) 1 e)

weight_flags : (m s : ℕ) → s < 2 ^ m → weight (flags m s) ≡ s
unfolding flags weight
weight_flags zero s h = omega arith
weight_flags (suc m) s h =
    weight_more (eqb (s % 2) 1) s (flags m (s / 2)) refl (weight_flags m (s / 2) (omega (arith, pow-suc 2 m)))

length_flags : (m s : ℕ) → length (flags m s) ≡ m
unfolding flags
length_flags zero s = refl
length_flags (suc m) s = ap suc (length_flags m (s / 2))

-- what the digits after k add to a set
twice : (k w : ℕ) → 2 ^ suc k * w ≡ 2 ^ k * (2 * w)
twice k w = ap (λ (p : ℕ). p * w) (pow-suc 2 k) ∙ mul_assoc (2 ^ k) 2 w

once : (n k w : ℕ) → (n + 2 ^ k) + 2 ^ suc k * w ≡ n + 2 ^ k * (1 + 2 * w)
once n k w = omega (arith, mul-add (2 ^ k) 1 (2 * w), twice k w)

begins_is : (c : ℕ) (bs : List ℕ) → begins c bs ≡ true → bs ≡ c ∷ drop 1 bs
begins_is c [] e = absurd (both_ways false refl e)
begins_is c (b ∷ bs) e = ap (λ (x : ℕ). x ∷ bs) (eqb-true b c e)

reads_true : (m k n : ℕ) (bs : List ℕ) → begins (48 + k) bs ≡ true → reads (suc m) k n bs ≡ reads m (suc k) (n + 2 ^ k) (drop 1 bs)
unfolding reads
reads_true m k n bs e = rw e

reads_false : (m k n : ℕ) (bs : List ℕ) → begins (48 + k) bs ≡ false → reads (suc m) k n bs ≡ reads m (suc k) n bs
unfolding reads
reads_false m k n bs e = rw e

-- what is read is the text of some flags
pub record Sound (m k n : ℕ) (bs : List ℕ) : Type 0 where
  pub fs : List Bool
  pub long : length fs ≡ m
  pub value : (reads m k n bs).set ≡ n + 2 ^ k * weight fs
  pub text : bs ≡ digits k fs ++ (reads m k n bs).rest

more : (m k n : ℕ) (bs : List ℕ) (t : Bool) → begins (48 + k) bs ≡ t →
    Sound m (suc k) (n + 2 ^ k) (drop 1 bs) → Sound m (suc k) n bs → Sound (suc m) k n bs
unfolding digits weight
more m k n bs true e h g =
    let r = reads_true m k n bs e in
    record {
      fs = true ∷ h.fs;
      long = ap suc h.long;
      value = ap (λ (f : Read). f.set) r ∙ h.value ∙ once n k (weight h.fs);
      text = begins_is (48 + k) bs e ∙ ap (λ t. (48 + k) ∷ t) (h.text ∙ ap (λ (f : Read). digits (suc k) h.fs ++ f.rest) (sym r));
    }
more m k n bs false e h g =
    let r = reads_false m k n bs e in
    record {
      fs = false ∷ g.fs;
      long = ap suc g.long;
      value = ap (λ (f : Read). f.set) r ∙ g.value ∙ ap (λ (v : ℕ). n + v) (twice k (weight g.fs));
      text = g.text ∙ ap (λ (f : Read). digits (suc k) g.fs ++ f.rest) (sym r);
    }

sound : (m k n : ℕ) (bs : List ℕ) → Sound m k n bs
unfolding reads digits weight
sound zero k n bs = record { fs = []; long = refl; value = omega arith; text = refl }
sound (suc m) k n bs = more m k n bs (begins (48 + k) bs) refl (sound m (suc k) (n + 2 ^ k) (drop 1 bs)) (sound m (suc k) n bs)

pub set_sound : (bs : List ℕ) → ((set_at_front bs).set < 512) × (bs ≡ set_text (set_at_front bs).set ++ (set_at_front bs).rest)
set_sound bs =
    let h = sound 9 0 0 bs in
    let v : (set_at_front bs).set ≡ weight h.fs = h.value ∙ omega (arith, one-mul (weight h.fs)) in
    let long : length h.fs ≡ 9 = h.long in
    let small : weight h.fs < 512 = rw long at (weight_lt h.fs) in
    let fs : flags 9 (weight h.fs) ≡ h.fs = rw long at (flags_weight h.fs) in
    let text = h.text in
    (omega arith, rw (v, fs) text)

-- no digit stands in front
abbrev Stops : List ℕ → Type 0
Stops bs = (c : ℕ) → c < 58 → begins c bs ≡ false

low : (fs : List Bool) (j c : ℕ) (bs : List ℕ) → c < 48 + j → begins c bs ≡ false → begins c (digits j fs ++ bs) ≡ false
unfolding digits
low [] j c bs h e = e
low (true ∷ fs) j c bs h e = ne_eqb (48 + j) c (λ s. omega arith)
low (false ∷ fs) j c bs h e = low fs (suc j) c bs (omega arith) e

complete : (fs : List Bool) (k n : ℕ) (bs : List ℕ) → k + length fs ≤ 9 → Stops bs →
    reads (length fs) k n (digits k fs ++ bs) ≡ record { set = n + 2 ^ k * weight fs; rest = bs }
unfolding reads digits weight
complete [] k n bs h stops = ap (λ (v : ℕ). record { set = v; rest = bs }) (omega arith)
complete (true ∷ fs) k n bs h stops =
    reads_true (length fs) k n ((48 + k) ∷ (digits (suc k) fs ++ bs)) (eq-eqb (48 + k) (48 + k) refl)
    ∙ complete fs (suc k) (n + 2 ^ k) bs (omega arith) stops
    ∙ ap (λ (v : ℕ). record { set = v; rest = bs }) (once n k (weight fs))
complete (false ∷ fs) k n bs h stops =
    reads_false (length fs) k n (digits (suc k) fs ++ bs) (low fs (suc k) (48 + k) bs (omega arith) (stops (48 + k) (omega arith)))
    ∙ complete fs (suc k) n bs (omega arith) stops
    ∙ ap (λ (v : ℕ). record { set = n + v; rest = bs }) (twice k (weight fs))

pub set_complete : (s : ℕ) (bs : List ℕ) → s < 512 → Stops bs → set_at_front (set_text s ++ bs) ≡ record { set = s; rest = bs }
set_complete s bs small stops =
    let long = length_flags 9 s in
    let h = complete (flags 9 s) 0 0 bs (omega arith) stops in
    let v : 0 + 2 ^ 0 * weight (flags 9 s) ≡ s = omega (arith, weight_flags 9 s small) in
    rw v at (rw long at h)

stops_none : Stops []
stops_none c h = refl

stops_s : (bs : List ℕ) → Stops (115 ∷ bs)
stops_s bs c h = ne_eqb 115 c (λ e. omega arith)

pub reads_back : (b s : ℕ) → b < 512 → s < 512 → sets_of (rule_text b s) ≡ Some (record { born = b; stays = s })
reads_back b s hb hs =
    ap after_born (set_complete b (115 ∷ set_text s) hb (stops_s (set_text s)))
    ∙ ap (λ (bs : List ℕ). after_stays b (set_at_front bs)) (sym (append-nil (set_text s)))
    ∙ ap (after_stays b) (set_complete s [] hs stops_none)

cond_some : (t : Bool) (o : Option RuleSets) (r : RuleSets) → cond t o None ≡ Some r → (t ≡ true) × (o ≡ Some r)
cond_some true o r e = (refl, e)
cond_some false o r e = absurd (let z : ◌≡◌ {A = ℕ} 0 1 = cc in omega arith)

ended_is : (b s : ℕ) (bs : List ℕ) (r : RuleSets) → ended b s bs ≡ Some r → (bs ≡ []) × (r ≡ record { born = b; stays = s })
ended_is b s [] r e = (refl, cc)
ended_is b s (c ∷ cs) r e = absurd (let z : ◌≡◌ {A = ℕ} 0 1 = cc in omega arith)

read_is : (bs : List ℕ) (r : RuleSets) → sets_of bs ≡ Some r → Sets bs (Some r)
read_is bs r e =
    let p = cond_some (begins 98 bs) (after_born (set_at_front (drop 1 bs))) r e in
    let f = set_at_front (drop 1 bs) in
    let q = cond_some (begins 115 f.rest) (after_stays f.set (set_at_front (drop 1 f.rest))) r p.1 in
    let g = set_at_front (drop 1 f.rest) in
    let u = ended_is f.set g.set g.rest r q.1 in
    let born = set_sound (drop 1 bs) in
    let stays = set_sound (drop 1 f.rest) in
    let front = begins_is 98 bs p.0 in
    let mid = begins_is 115 f.rest q.0 in
    let all : bs ≡ rule_text f.set g.set =
    front
    ∙ ap (λ (x : List ℕ). 98 ∷ x) born.1
    ∙ ap (λ (x : List ℕ). 98 ∷ (set_text f.set ++ x)) (mid ∙ ap (λ (x : List ℕ). 115 ∷ x) (stays.1 ∙ ap (λ (x : List ℕ). set_text g.set ++ x) u.0 ∙ append-nil (set_text g.set))) in
    subst (λ (x : RuleSets). Sets bs (Some x)) (sym u.1) (all, born.0, stays.0)

sets_at : (bs : List ℕ) (o : Option RuleSets) → sets_of bs ≡ o → Sets bs o
sets_at bs (Some r) e = read_is bs r e
sets_at bs None e = λ b s hb hs t. let z : ◌≡◌ {A = ℕ} 0 1 = cc (ap sets_of t ∙ reads_back b s hb hs) in omega arith

-- a text is read just where it is the text of two sets
pub sets_right : (bs : List ℕ) (o : Option RuleSets) → o ≡ sets_of bs → Sets bs o
sets_right bs o e = sets_at bs o (sym e)
