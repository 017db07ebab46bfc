-- Parts gathered one after another, and joined.
use Rattle.std.proofs.Common.{◌≡◌, ℕ, suc, ◌+◌, ◌<◌, ◌≤◌, Bool, true, false, is_err, Ok, Err, Result, sym, ap, ◌∙◌, subst, arith}
use Rattle.model.specs.Squares.{Square}
use Rattle.rules.specs.Laws.{law}
use Rattle.model.specs.declared.quarters.Quarters.{Quarters}
use Rattle.slots.specs.declared.Store.{Store}
use Rattle.slots.specs.Stores.{table, Good, Has, Is, Still}
use Rattle.holds.specs.declared.Hold.{Hold}
use Rattle.holds.specs.Holding.{held, Pushed, Keeping}
use Rattle.holds.proofs.Chain.{still_less, still_trans, is_still}
use Rattle.store.specs.declared.Full.{Full as NoRoom}
use Rattle.store.specs.Interning.{Interned}
use Rattle.collect.specs.Collecting.{FourOf}
use Rattle.pieces.specs.Nine.{Steady, Answers, Outcome}
use Rattle.pieces.specs.Gathering.{Gathered}
use Rattle.pieces.proofs.Steady.{keeping_self, gathered_more}
use Rattle.advance.specs.Gathering.{whole, part, Ready, Gathering, Rooted, Nined}
use Rattle.advance.specs.declared.Larger.{Larger}
use Rattle.advance.proofs.Leaping.{Twice, twice_of}
use Rattle.advance.proofs.Steps.{leap_parts_lem, part_ninth}

-- the parts that are there serve for the next
pub rooted : (s : Store) (h : Hold) (la : Larger) (n : ℕ) → n < 13 → Ready s h la n → Rooted s la
rooted s h la n l t =
    let p = t.parts in let ends = p.ends in let root = p.root in let room = t.room in
    record { good = t.good; power = t.power; deep = t.deep; room = omega arith; below = omega arith; has = p.has }

pub nined : (s : Store) (h : Hold) (la : Larger) (n : ℕ) → 9 ≤ n → n < 13 → Ready s h la n → Nined s h la
nined s h la n m l t =
    let p = t.parts in let ends = p.ends in let len = p.len in
    record {
      rooted = rooted s h la n l t;
      many = omega arith;
      ends = omega arith;
      each = λ q c j i. subst (Keeping s (h.from + j) la.below) (sym (part_ninth (law la.leap.rule) la.leap.exponent la.below j i q)) (p.each q c j (omega arith));
    }

-- on the way: n parts are held by h, and the holds below are as they were
pub record Loop (v w : Store) (g h : Hold) (la : Larger) (n : ℕ) : Type 0 where
  pub ready : Ready w h la n
  pub still : Still g.from v w
  pub from : h.from ≡ g.from
  pub done : h.done ≡ g.done

-- the holds below are as they were after another part, too
step_still : (v w u : Store) (g h : Hold) (la : Larger) (n : ℕ) → Loop v w g h la n → Steady w u → Still g.from v u
step_still v w u g h la n p s = still_trans p.still (still_less (let a = p.ready.parts.ends in let z = p.from in omega arith) s.still)

pub loop_break : (v w u : Store) (g h : Hold) (la : Larger) (n : ℕ) (x : NoRoom) (o : Result Unit NoRoom) → is_err o ≡ true → Loop v w g h la n →
    Outcome w u (suc (suc la.below)) la.below la.place (part la n) (Err x) → Gathering v u g h la o
loop_break v w u g h la n x (Ok y) z p o = absurd (no z)
  where
    no : false ≡ true → ⊥
    no e = grind arith
loop_break v w u g h la n x (Err y) z p o =
    let t = p.ready.parts in let ends = t.ends in let len = t.len in let top = o.steady.top in
    record { good = o.good; still = step_still v w u g h la n p o.steady; from = p.from; done = p.done; ends = omega arith; all = o.is }

pub part_has : (w u : Store) (h : Hold) (la : Larger) (n i : ℕ) → n < 13 → Ready w h la n → Outcome w u (suc (suc la.below)) la.below la.place (part la n) (Ok i) → Has u la.below i
part_has w u h la n i l t o = let p = rooted w h la n l t in (o.is _ (keeping_self w la.place (suc (suc la.below)) p.below p.has)).valid

-- one part more
pub loop_more : (v w u z : Store) (g h h' : Hold) (la : Larger) (n i : ℕ) → Loop v w g h la n → Outcome w u (suc (suc la.below)) la.below la.place (part la n) (Ok i) →
    Good z → Pushed u z i → h' ≡ record { from = h.from; len = h.len + 1; done = h.done } → Loop v z g h' la (n + 1)
loop_more v w u z g h h' la n i p o gz q c =
    let t = p.ready in let ends = t.parts.ends in let top = o.steady.top in let top' = q.top in let room = t.room in
    record {
      ready = record {
        good = gz;
        power = t.power;
        deep = t.deep;
        room = omega arith;
        parts = gathered_more w u z h h' la.place (suc (suc la.below)) la.below n i (part la) t.parts o.steady o.is q c;
      };
      still = still_trans (step_still v w u g h la n p o.steady) (still_less (let z = p.from in omega arith) q.still);
      from = ap (λ (x : Hold). x.from) c ∙ p.from;
      done = ap (λ (x : Hold). x.done) c ∙ p.done;
    }

pub loop_end : (v w : Store) (g h : Hold) (la : Larger) (x : Unit) → Loop v w g h la 13 → Gathering v w g h la (Ok x)
loop_end v w g h la x p =
    let t = p.ready.parts in let ends = t.ends in let len = t.len in
    record { good = p.ready.good; still = p.still; from = p.from; done = p.done; ends = omega arith; all = t }

-- ---- joined
-- the numbers of the last four parts
pub record Lasts (s : Store) (la : Larger) (f : Quarters ℕ) : Type 0 where
  pub below : la.place < s.top
  pub has : Has s (suc (suc la.below)) (held s la.place)
  pub lnw : (q : Square Bool) → Keeping s la.place (suc (suc la.below)) q → Is s la.below f.nw (part la 9 q)
  pub lne : (q : Square Bool) → Keeping s la.place (suc (suc la.below)) q → Is s la.below f.ne (part la 10 q)
  pub lsw : (q : Square Bool) → Keeping s la.place (suc (suc la.below)) q → Is s la.below f.sw (part la 11 q)
  pub lse : (q : Square Bool) → Keeping s la.place (suc (suc la.below)) q → Is s la.below f.se (part la 12 q)

at_last : (s : Store) (h : Hold) (la : Larger) (j n : ℕ) → Gathered s h la.place (suc (suc la.below)) la.below 13 (part la) → j < 13 → n ≡ held s (h.from + j) →
    (q : Square Bool) → Keeping s la.place (suc (suc la.below)) q → Is s la.below n (part la j q)
at_last s h la j n t l z q p = subst (λ (n : ℕ). Is s la.below n (part la j q)) (sym z) (t.each q p j l).is

pub lasts : (s : Store) (h : Hold) (la : Larger) (f : Quarters ℕ) → Gathered s h la.place (suc (suc la.below)) la.below 13 (part la) → f.nw ≡ held s (h.from + 9) → f.ne ≡ held s (h.from + 10) →
    f.sw ≡ held s (h.from + 11) → f.se ≡ held s (h.from + 12) → Lasts s la f
lasts s h la f t z1 z2 z3 z4 = record {
  below = let a = t.root in let c = t.ends in omega arith;
  has = t.has;
  lnw = at_last s h la 9 f.nw t (omega arith) z1;
  lne = at_last s h la 10 f.ne t (omega arith) z2;
  lsw = at_last s h la 11 f.sw t (omega arith) z3;
  lse = at_last s h la 12 f.se t (omega arith) z4;
}

pub lasts_four : (s : Store) (la : Larger) (f : Quarters ℕ) → Lasts s la f → FourOf s la.below f
lasts_four s la f t =
    let p = keeping_self s la.place (suc (suc la.below)) t.below t.has in
    record { has_nw = (t.lnw _ p).valid; has_ne = (t.lne _ p).valid; has_sw = (t.lsw _ p).valid; has_se = (t.lse _ p).valid }

-- a square of this depth has quarters that are no leaves
twice : (s : Store) (b i : ℕ) (q : Square Bool) → Is s (suc (suc b)) i q → Twice q
twice s b i q h = subst Twice h.same (twice_of (table s) b i)

pub joined_is : (v w u : Store) (t : ℕ) (la : Larger) (f : Quarters ℕ) (o : Result ℕ NoRoom) → Still t v w → la.place < t → la.leap.exponent ≤ la.below + 3 → Lasts w la f → Interned w u la.below f o →
    Answers (suc (suc la.below)) (suc la.below) la.place (whole la) v u o
joined_is v w u t la f (Ok i) s l m h a = λ q p.
    let c : Keeping w la.place (suc (suc la.below)) q = record { below = h.below; is = is_still s l p.is } in
    subst (Is u (suc la.below) i) (leap_parts_lem (law la.leap.rule) la.leap.exponent la.below q (twice v la.below _ q p.is) m) (a _ _ _ _ (h.lnw q c) (h.lne q c) (h.lsw q c) (h.lse q c)).is
joined_is v w u t la f (Err x) s l m h a = a
