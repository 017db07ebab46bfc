-- The four corners, one after another, and joined.
use Rattle.std.proofs.Common.{◌≡◌, ℕ, suc, ◌+◌, ◌<◌, Bool, true, false, is_err, Ok, Err, Result, sym, subst, arith}
use Rattle.model.specs.Squares.{Square, padded}
use Rattle.model.specs.declared.quarters.Quarters.{Quarters}
use Rattle.slots.specs.declared.Store.{Store}
use Rattle.slots.specs.Stores.{Has, Is, Still}
use Rattle.holds.specs.declared.Hold.{Hold}
use Rattle.holds.specs.Holding.{held, Keeping}
use Rattle.holds.proofs.Chain.{is_still}
use Rattle.store.specs.declared.Full.{Full}
use Rattle.store.specs.Interning.{Interned}
use Rattle.collect.specs.Collecting.{FourOf}
use Rattle.pieces.specs.Nine.{Answers, Outcome}
use Rattle.pieces.specs.Gathering.{Gathered, Underway}
use Rattle.pieces.proofs.Steady.{keeping_self, underway_still}
use Rattle.pads.specs.Padding.{corner_of, Framed, CornersJoined}

pub way_framed : (v w : Store) (g h : Hold) (b k n : ℕ) → b < 59 → Underway v w g h k (suc b) (suc b) n (corner_of b) → Framed w b k
way_framed v w g h b k n l p = let e = p.parts.ends in let r = p.parts.root in record { good = p.good; below = omega arith; has = p.parts.has; deep = l }

pub way_break : (v w u : Store) (g h : Hold) (b k n : ℕ) (x : Full) (o : Result ℕ Full) → is_err o ≡ true → Underway v w g h k (suc b) (suc b) n (corner_of b) →
    Outcome w u (suc b) (suc b) k (corner_of b n) (Err x) → CornersJoined v u g h b k o
way_break v w u g h b k n x (Ok y) z p o = absurd (no z)
  where
    no : false ≡ true → ⊥
    no e = grind arith
way_break v w u g h b k n x (Err y) z p o =
    let e = p.parts.ends in let l = p.parts.len in let t = o.steady.top in
    record { good = o.good; still = underway_still v w u g h k (suc b) (suc b) n (corner_of b) p o.steady; from = p.from; done = p.done; ends = omega arith; is = o.is }

pub corner_has : (w u : Store) (b k n i : ℕ) → Framed w b k → Outcome w u (suc b) (suc b) k (corner_of b n) (Ok i) → Has u (suc b) i
corner_has w u b k n i f o = (o.is _ (keeping_self w k (suc b) f.below f.has)).valid

-- the numbers of the four corners
pub record CornersOf (s : Store) (b k : ℕ) (f : Quarters ℕ) : Type 0 where
  pub below : k < s.top
  pub has : Has s (suc b) (held s k)
  pub cnw : (q : Square Bool) → Keeping s k (suc b) q → Is s (suc b) f.nw (corner_of b 0 q)
  pub cne : (q : Square Bool) → Keeping s k (suc b) q → Is s (suc b) f.ne (corner_of b 1 q)
  pub csw : (q : Square Bool) → Keeping s k (suc b) q → Is s (suc b) f.sw (corner_of b 2 q)
  pub cse : (q : Square Bool) → Keeping s k (suc b) q → Is s (suc b) f.se (corner_of b 3 q)

at_corner : (s : Store) (h : Hold) (b k j n : ℕ) → Gathered s h k (suc b) (suc b) 4 (corner_of b) → j < 4 → n ≡ held s (h.from + j) → (q : Square Bool) → Keeping s k (suc b) q → Is s (suc b) n (corner_of b j q)
at_corner s h b k j n t l z q p = subst (λ (n : ℕ). Is s (suc b) n (corner_of b j q)) (sym z) (t.each q p j l).is

pub four_corners : (s : Store) (h : Hold) (b k : ℕ) (f : Quarters ℕ) → Gathered s h k (suc b) (suc b) 4 (corner_of b) → f.nw ≡ held s (h.from + 0) → f.ne ≡ held s (h.from + 1) →
    f.sw ≡ held s (h.from + 2) → f.se ≡ held s (h.from + 3) → CornersOf s b k f
four_corners s h b k f t z1 z2 z3 z4 = record {
  below = let a = t.root in let c = t.ends in omega arith;
  has = t.has;
  cnw = at_corner s h b k 0 f.nw t (omega arith) z1;
  cne = at_corner s h b k 1 f.ne t (omega arith) z2;
  csw = at_corner s h b k 2 f.sw t (omega arith) z3;
  cse = at_corner s h b k 3 f.se t (omega arith) z4;
}

pub corners_four : (s : Store) (b k d : ℕ) (f : Quarters ℕ) → d ≡ suc b → CornersOf s b k f → FourOf s d f
corners_four s b k d f z t =
    let p = keeping_self s k (suc b) t.below t.has in
    subst (λ (d : ℕ). FourOf s d f) (sym z) (record { has_nw = (t.cnw _ p).valid; has_ne = (t.cne _ p).valid; has_sw = (t.csw _ p).valid; has_se = (t.cse _ p).valid })

pub corners_padded : (v w u : Store) (t b k d : ℕ) (f : Quarters ℕ) (o : Result ℕ Full) → Still t v w → k < t → d ≡ suc b → CornersOf w b k f → Interned w u d f o →
    Answers (suc b) (suc (suc b)) k (padded false (suc (suc (suc b)))) v u o
corners_padded v w u t b k d f o s l z h a = go o (subst (λ (d : ℕ). Interned w u d f o) z a)
  where
    go : (o : Result ℕ Full) → Interned w u (suc b) f o → Answers (suc b) (suc (suc b)) k (padded false (suc (suc (suc b)))) v u o
    go (Ok i) a = λ q p.
        let c : Keeping w k (suc b) q = record { below = h.below; is = is_still s l p.is } in
        (a _ _ _ _ (h.cnw q c) (h.cne q c) (h.csw q c) (h.cse q c)).is
    go (Err x) a = a
