-- What is kept over steps that leave all holds as they were, and one square more that is gathered.
use Rattle.std.proofs.Common.{◌≡◌, ℕ, ◌+◌, ◌<◌, Bool, Ok, Err, Result, sym, ap, ◌∙◌, subst, arith}
use native.Mathlib.Decide.{ℕ_discrete}
use Rattle.model.specs.Squares.{Square}
use Rattle.nodes.specs.Nodes.{square_of}
use Rattle.nodes.specs.Memory.{base, FrontAt, GrowsAt}
use Rattle.nodes.proofs.Memory.{front_less}
use Rattle.slots.specs.declared.Store.{Store}
use Rattle.slots.specs.Stores.{mem, table, Good, Has, Is, Fixed, Still}
use Rattle.holds.specs.declared.Hold.{Hold}
use Rattle.holds.specs.Holding.{held, Pushed, Popped, Keeping}
use Rattle.holds.proofs.Chain.{still_less, still_trans, is_still, is_popped, keeping_new, keeping_still, full_popped}
use Rattle.leaf.specs.AsSquares.{word_square}
use Rattle.store.specs.Interning.{LeafInterned}
use Rattle.store.specs.declared.Full.{Full as NoRoom}
use Rattle.pieces.specs.Nine.{Steady, Answers, Gives}
use Rattle.pieces.specs.Gathering.{Gathered, Underway}
use Rattle.pieces.proofs.Nine.{is_self}

pub steady_trans : {v w u : Store} → Steady v w → Steady w u → Steady v u
steady_trans {v} {w} {u} p q = record { still = still_trans p.still (subst (λ (t : ℕ). Still t w u) p.top q.still); top = q.top ∙ p.top }

pub steady_grown : (v w : Store) → Good v → Fixed v w → FrontAt (base v.at) (mem v) (mem w) → GrowsAt v.at v.slots (mem v) (mem w) → Steady v w
steady_grown v w g f r h = record {
  still = record {
    at = f.at;
    slots = f.slots;
    long = f.long;
    keeps = record { front = front_less (let z = g.laid.room in omega arith) r; still = λ k d q l i. h.all d _ q i };
  };
  top = f.top;
}

pub keeping_steady : {v w : Store} {k d : ℕ} {q : Square Bool} → Steady v w → Keeping v k d q → Keeping w k d q
keeping_steady s h = keeping_still s.still h.below (let e = s.top in omega arith) h

pub keeping_self : (v : Store) (k d : ℕ) → k < v.top → Has v d (held v k) → Keeping v k d (square_of (table v) d (held v k))
keeping_self v k d l h = record { below = l; is = is_self v d (held v k) h }

-- a number stands for one square
one_square : (v : Store) {d i : ℕ} {q s : Square Bool} → Is v d i q → Is v d i s → q ≡ s
one_square v a b = sym a.same ∙ b.same

pub has_steady : {v w : Store} {k d : ℕ} → Steady v w → k < v.top → Has v d (held v k) → Has w d (held w k)
has_steady {v} {w} {k} {d} s l h = (keeping_steady s (keeping_self v k d l h)).is.valid

-- what is kept after a step was kept before it
pub keeping_back : {t k d : ℕ} {v w : Store} {q : Square Bool} → Still t v w → k < t → k < v.top → Has v d (held v k) → Keeping w k d q → Keeping v k d q
keeping_back {t} {k} {d} {v} {w} {q} s l b h p =
    let z = is_self v d (held v k) h in
    record { below = b; is = subst (λ (x : Square Bool). Is v d (held v k) x) (one_square w (is_still s l z) p.is) z }

-- one square more
pub gathered_more : (w u z : Store) (h h' : Hold) (k e d n i : ℕ) (f : ℕ → Square Bool → Square Bool) → Gathered w h k e d n f → Steady w u →
    ((q : Square Bool) → Keeping w k e q → Is u d i (f n q)) → Pushed u z i → h' ≡ record { from = h.from; len = h.len + 1; done = h.done } → Gathered z h' k e d (n + 1) f
gathered_more w u z h h' k e d n i f a s o q c =
    let ends = a.ends in let len = a.len in let root = a.root in let top = s.top in let top' = q.top in
    let from : h'.from ≡ h.from = ap (λ (x : Hold). x.from) c in let m : h'.len ≡ h.len + 1 = ap (λ (x : Hold). x.len) c in
    let bk : k < w.top = omega arith in let bu : k < u.top = omega arith in
    let hu = has_steady s bk a.has in
    record {
      root = omega arith;
      has = (is_still q.still bu (is_self u e (held u k) hu)).valid;
      ends = omega arith;
      len = omega arith;
      each = λ x c' j l.
          let cw = keeping_back s.still bk bk a.has (keeping_back q.still bu bu hu c') in
          subst (λ (y : ℕ). Keeping z (y + j) d (f j x)) (sym from)
          (elim (ℕ_discrete j n) [
            | yes y ↦
                let at : u.top ≡ h.from + j = omega arith in
                subst (λ (y : ℕ). Keeping z y d (f j x)) at (subst (λ (y : ℕ). Keeping z u.top d (f y x)) (sym y) (keeping_new q (o x cw)))
            | no y ↦ keeping_still q.still (omega arith) (omega arith) (keeping_steady s (a.each x cw j (omega arith)))
          ]);
    }

-- after a step that leaves all holds as they were
pub underway_still : (v w u : Store) (g h : Hold) (k e d n : ℕ) (f : ℕ → Square Bool → Square Bool) → Underway v w g h k e d n f → Steady w u → Still g.from v u
underway_still v w u g h k e d n f p s = still_trans p.still (still_less (let a = p.parts.ends in let z = p.from in omega arith) s.still)

pub underway_more : (v w u z : Store) (g h h' : Hold) (k e d n i : ℕ) (f : ℕ → Square Bool → Square Bool) → Underway v w g h k e d n f → Steady w u →
    ((q : Square Bool) → Keeping w k e q → Is u d i (f n q)) → Good z → Pushed u z i → h' ≡ record { from = h.from; len = h.len + 1; done = h.done } → Underway v z g h' k e d (n + 1) f
underway_more v w u z g h h' k e d n i f p s o gz q c = record {
  good = gz;
  parts = gathered_more w u z h h' k e d n i f p.parts s o q c;
  still = still_trans (underway_still v w u g h k e d n f p s) (still_less (let a = p.parts.ends in let y = p.from in let t = s.top in omega arith) q.still);
  from = ap (λ (x : Hold). x.from) c ∙ p.from;
  done = ap (λ (x : Hold). x.done) c ∙ p.done;
}

-- holds above are let go
pub released : (v w u : Store) (e d k : ℕ) (f : Square Bool → Square Bool) (o : Result ℕ NoRoom) → Popped v.top w u → Answers e d k f v w o → Answers e d k f v u o
released v w u e d k f (Ok i) p a = λ q c. is_popped p (a q c)
released v w u e d k f (Err x) p a = full_popped p a

-- a square is held for the time of a step
pub number_steady : (v w u z : Store) (i : ℕ) → Pushed v w i → Steady w u → Popped v.top u z → Steady v z
number_steady v w u z i p s q = record { still = still_trans p.still (still_trans (still_less (let e = p.top in omega arith) s.still) q.still); top = q.top }

pub number_gives : (v w u z : Store) (e d i k : ℕ) (f : Square Bool → Square Bool) (o : Result ℕ NoRoom) → Pushed v w i → k ≡ v.top → Answers e d k f w u o → Popped v.top u z → Gives e d i f v z o
number_gives v w u z e d i k f (Ok l) p n h q = λ s b. is_popped q (h s (subst (λ (k : ℕ). Keeping w k e s) (sym n) (keeping_new p b)))
number_gives v w u z e d i k f (Err x) p n h q = full_popped q h

-- a leaf that is made of a word
pub leaf_answers : (v w : Store) (e k m : ℕ) (f : Square Bool → Square Bool) (o : Result ℕ NoRoom) → LeafInterned w m o → ((q : Square Bool) → Keeping v k e q → word_square m ≡ f q) →
    Answers e 0 k f v w o
leaf_answers v w e k m f (Ok i) h g = λ q p. subst (Is w 0 i) (g q p) h.is
leaf_answers v w e k m f (Err x) h g = h
