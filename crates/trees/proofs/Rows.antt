-- Squares that are held one after another while more of them are made.
use Rattle.std.proofs.Common.{◌≡◌, ℕ, ◌+◌, ◌<◌, ◌≤◌, Bool, false, Ok, Err, Result, sym, refl, ap, ◌∙◌, subst, arith, below_more}
use Rattle.model.specs.Squares.{Square}
use Rattle.nodes.specs.Nodes.{square_of}
use Rattle.slots.specs.declared.Store.{Store}
use Rattle.slots.specs.Stores.{Same, Good, Has, Is, Still, table}
use Rattle.holds.specs.declared.Hold.{Hold}
use Rattle.holds.specs.Holding.{held, Pushed, Popped}
use Rattle.holds.proofs.Chain.{still_refl, still_less, still_trans, is_still, keeping_new}
use Rattle.store.specs.declared.Full.{Full}
use Rattle.trees.specs.Growing.{Kept, Taken, TakenOr, Holds, Each}

still_on : {v w u : Store} {t : ℕ} → Still t v w → t ≤ w.top → Still w.top w u → Still t v u
still_on p l q = still_trans p (still_less l q)

pub kept_trans : {v w u : Store} → Kept v w → Kept w u → Kept v u
kept_trans p q = record { same = q.same ∙ p.same; good = q.good; still = still_on p.still (let e = p.top in omega arith) q.still; top = q.top ∙ p.top }

-- a hold of one square
pub taken_new : {v w : Store} {h : Hold} {i : ℕ} → Same v w → Good w → Pushed v w i → h ≡ record { from = v.top; len = 1; done = false } → Taken v w v.top h
taken_new s g a e =
    let f = ap (λ (h : Hold). h.from) e in let n = ap (λ (h : Hold). h.len) e in let t = a.top in
    record { same = s; good = g; still = a.still; from = f; last = record { ends = omega arith } }

-- from here on
pub taken_here : {v w : Store} {t : ℕ} {h : Hold} → Taken v w t h → Taken w w h.from h
taken_here {w = w} {h = h} r = record { same = refl; good = r.good; still = still_refl h.from w; from = refl; last = r.last }

pub taken_trans : {v w u : Store} {t : ℕ} {h g : Hold} → Taken v w t h → Taken w u h.from g → Taken v u t g
taken_trans {w = w} {u = u} r q = record {
  same = q.same ∙ r.same;
  good = q.good;
  still = still_trans r.still (subst (λ (t : ℕ). Still t w u) r.from q.still);
  from = q.from ∙ r.from;
  last = q.last;
}

pub taken_from : {v w u : Store} {h : Hold} → Kept v w → Taken w u w.top h → Taken v u v.top h
taken_from {w = w} {u = u} k r = record {
  same = r.same ∙ k.same;
  good = r.good;
  still = still_trans k.still (subst (λ (t : ℕ). Still t w u) k.top r.still);
  from = r.from ∙ k.top;
  last = r.last;
}

-- work above it
pub taken_on : {v w u : Store} {t : ℕ} {h : Hold} → Taken v w t h → Kept w u → Taken v u t h
taken_on r k =
    let f = r.from in let e = r.last.ends in let t = k.top in
    record { same = k.same ∙ r.same; good = k.good; still = still_on r.still (omega arith) k.still; from = f; last = record { ends = omega arith } }

-- one square more
pub taken_more : {v w u : Store} {t i : ℕ} {h g : Hold} → Taken v w t h → Same w u → Good u → Pushed w u i → g ≡ record { from = h.from; len = h.len + 1; done = h.done } → Taken v u t g
taken_more r s g a e =
    let f = r.from in let l = r.last.ends in let t = a.top in let m = ap (λ (h : Hold). h.from) e in let n = ap (λ (h : Hold). h.len) e in
    record { same = s ∙ r.same; good = g; still = still_on r.still (omega arith) a.still; from = omega arith; last = record { ends = omega arith } }

-- let go
pub taken_end : {v w u : Store} {h : Hold} → Taken v w v.top h → Same w u → Good u → Popped h.from w u → Kept v u
taken_end {w = w} {u = u} r s g o =
    record { same = s ∙ r.same; good = g; still = still_trans r.still (subst (λ (t : ℕ). Still t w u) r.from o.still); top = o.top ∙ r.from }

-- a hold was taken, of n squares of depth d, the j-th of which is p j
pub record Row (v w : Store) (t : ℕ) (h : Hold) (d n : ℕ) (p : ℕ → Square Bool) : Type 0 where
  pub taken : Taken v w t h
  pub len : h.len ≡ n
  pub each : (j : ℕ) → j < n → Is w d (held w (t + j)) (p j)

pub row_new : {v w : Store} {h : Hold} {d i : ℕ} (p : ℕ → Square Bool) → Is v d i (p 0) → Same v w → Good w → Pushed v w i → h ≡ record { from = v.top; len = 1; done = false } → Row v w v.top h d 1 p
row_new {v = v} {w = w} {d = d} p s m g a e = record {
  taken = taken_new m g a e;
  len = ap (λ (h : Hold). h.len) e;
  each = below_more (λ j. Is w d (held w (v.top + j)) (p j)) 0 (λ j l. absurd (omega arith)) (subst (λ (k : ℕ). Is w d (held w k) (p 0)) (omega arith) (keeping_new a s).is);
}

pub row_here : {v w : Store} {t : ℕ} {h : Hold} {d n : ℕ} {p : ℕ → Square Bool} → Row v w t h d n p → Row w w h.from h d n p
row_here {w = w} {d = d} {p = p} r = record {
  taken = taken_here r.taken;
  len = r.len;
  each = λ j l. subst (λ (t : ℕ). Is w d (held w (t + j)) (p j)) (sym r.taken.from) (r.each j l);
}

pub row_on : {v w u : Store} {t : ℕ} {h : Hold} {d n : ℕ} {p : ℕ → Square Bool} → Row v w t h d n p → Kept w u → Row v u t h d n p
row_on r k =
    let f = r.taken.from in let e = r.taken.last.ends in let m = r.len in
    record { taken = taken_on r.taken k; len = m; each = λ j l. is_still k.still (omega arith) (r.each j l) }

pub row_more : {v w u : Store} {t : ℕ} {h g : Hold} {d n i : ℕ} {p : ℕ → Square Bool} → Row v w t h d n p → Is w d i (p n) →
    Same w u → Good u → Pushed w u i → g ≡ record { from = h.from; len = h.len + 1; done = h.done } → Row v u t g d (n + 1) p
row_more {w = w} {u = u} {t = t} {d = d} {n = n} {p = p} r h s g a e =
    let f = r.taken.from in let b = r.taken.last.ends in let m = r.len in let z = ap (λ (h : Hold). h.len) e in
    record {
      taken = taken_more r.taken s g a e;
      len = omega arith;
      each = below_more (λ j. Is u d (held u (t + j)) (p j)) n (λ j l. is_still a.still (omega arith) (r.each j l))
          (subst (λ (k : ℕ). Is u d (held u k) (p n)) (omega arith) (keeping_new a h).is);
    }

has_still : {t d k : ℕ} {v w : Store} → Still t v w → k < t → Has v d (held v k) → Has w d (held w k)
has_still {d = d} {k = k} {v = v} p l h = (is_still {q = square_of (table v) d (held v k)} p l (record { valid = h; same = refl })).valid

-- what is held is held after work above it
pub holds_kept : {v w : Store} {h : Hold} {n d : ℕ} → Kept v w → Holds v h n d → Holds w h n d
holds_kept k b = let e = k.top in let l = b.below in record { len = b.len; below = omega arith; each = λ j i. has_still k.still (omega arith) (b.each j i) }

pub row_is : {v w : Store} {t : ℕ} {h : Hold} {d n : ℕ} {p : ℕ → Square Bool} → Row v w t h d n p → Each w h d p
row_is {w = w} {d = d} {p = p} r = let m = r.len in λ j l. subst (λ (t : ℕ). Is w d (held w (t + j)) (p j)) (sym r.taken.from) (r.each j (omega arith))

pub row_holds : {v w : Store} {t : ℕ} {h : Hold} {d n : ℕ} {p : ℕ → Square Bool} → Row v w t h d n p → Holds w h n d
row_holds r =
    let f = r.taken.from in let e = r.taken.last.ends in let m = r.len in
    record { len = m; below = omega arith; each = λ j l. (row_is r j (omega arith)).valid }

-- a hold of one tree is a row of one
pub row_one : {v w : Store} {h : Hold} {d : ℕ} (p q : ℕ → Square Bool) → q 0 ≡ p 0 → Taken v w v.top h → Holds w h 1 d → Each w h d p → Row w w h.from h d 1 q
row_one {w = w} {h = h} {d = d} p q e a b f = let m = b.len in record {
  taken = taken_here a;
  len = m;
  each = below_more (λ j. Is w d (held w (h.from + j)) (q j)) 0 (λ j l. absurd (omega arith)) (subst (Is w d (held w (h.from + 0))) (sym e) (f 0 (omega arith)));
}

-- the store is as good as it was, whether or not there was room
pub good_or : (v w : Store) (n d : ℕ) (p : ℕ → Square Bool) (r : Result Hold Full) → TakenOr v w n d p r → Good w
good_or v w n d p (Ok h) t = t.0.good
good_or v w n d p (Err _) t = t.0.good
