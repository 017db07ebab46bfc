-- From nodes to squares.
use Rattle.std.proofs.Common.{◌≡◌, ℕ, zero, suc, ◌+◌, ◌^◌, ◌<◌, ◌-◌, Bool, Some, None, Option, Ok, Err, Result, sym, refl, ap, ◌∙◌, subst, arith}
use mathlib.Core.Path.{transport}
use Rattle.std.specs.Option.{ok_or}
use Rattle.model.specs.Squares.{Square, Four}
use Rattle.leaf.specs.AsSquares.{word_square}
use Rattle.nodes.specs.declared.Node.{Node}
use Rattle.model.specs.declared.quarters.Quarters.{Quarters}
use Rattle.nodes.specs.Nodes.{Table, pair, first, second, leaf_node, four_node, quarters_of, Valid, Kids, IsAt, square_of, Full}
use Rattle.nodes.specs.Memory.{view}
use Rattle.nodes.proofs.Tables.{squares_once_lem}
use Rattle.nodes.proofs.Memory.{front_less}
use Rattle.probe.specs.Places.{Proper, square_in}
use Rattle.probe.specs.Adding.{Grown, Given}
use Rattle.slots.specs.declared.Store.{Store}
use Rattle.slots.specs.Stores.{mem, table, Good, Has, Is, Cut, Still}
use Rattle.holds.proofs.Chain.{still_trans}
use Rattle.collect.specs.Collecting.{FourOf, FourKept, Means}
use Rattle.store.specs.declared.Full.{Full as StoreFull}
use Rattle.store.specs.Interning.{Only, Added, NodeKept, Interned, LeafInterned}

first_pair : (a b : ℕ) → a < 2 ^ 32 → first (pair a b) ≡ a
first_pair a b h = omega arith

second_pair : (a b : ℕ) → a < 2 ^ 32 → second (pair a b) ≡ b
second_pair a b h = omega arith

-- the four are numbers of slots
pub record Numbers (q : Quarters ℕ) : Type 0 where
  pub nnw : q.nw < 2 ^ 32
  pub nne : q.ne < 2 ^ 32
  pub nsw : q.sw < 2 ^ 32
  pub nse : q.se < 2 ^ 32

pub numbers_of : (s : Store) (d : ℕ) (q : Quarters ℕ) → Good s → FourOf s d q → Numbers q
numbers_of s d q g f =
    let m = g.laid.few in let a = f.has_nw.here in let b = f.has_ne.here in let c = f.has_sw.here in let e = f.has_se.here in
    record { nnw = omega arith; nne = omega arith; nsw = omega arith; nse = omega arith }

abbrev pub four : ℕ → Quarters ℕ → Node
four d q = four_node d q.nw q.ne q.sw q.se

pub proper_four : (s : Store) (d : ℕ) (q : Quarters ℕ) → Good s → FourOf s d q → d < 60 → Proper s.slots (table s) (four d q)
proper_four s d q g f l =
    let n = numbers_of s d q g f in let V = λ (p i : ℕ). Valid s.slots (table s) p i in
    record {
      some = omega arith;
      most = omega arith;
      leaf = λ e. absurd (omega arith);
      kids = λ p e.
          let z : d ≡ p = omega arith in
          subst (λ (p : ℕ). Kids s.slots (table s) p (four d q)) z
          (record {
            knw = subst (V d) (sym (first_pair q.nw q.ne n.nnw)) f.has_nw;
            kne = subst (V d) (sym (second_pair q.nw q.ne n.nnw)) f.has_ne;
            ksw = subst (V d) (sym (first_pair q.sw q.se n.nsw)) f.has_sw;
            kse = subst (V d) (sym (second_pair q.sw q.se n.nsw)) f.has_se;
          });
    }

pub in_four : (v : Table) (d : ℕ) (q : Quarters ℕ) → Numbers q → square_in v (suc d) (four d q) ≡ Four (square_of v d q.nw) (square_of v d q.ne) (square_of v d q.sw) (square_of v d q.se)
unfolding square_in
in_four v d q n =
    let a = first_pair q.nw q.ne n.nnw in let b = second_pair q.nw q.ne n.nnw in
    let c = first_pair q.sw q.se n.nsw in let e = second_pair q.sw q.se n.nsw in
    λ t. Four (square_of v d (a t)) (square_of v d (b t)) (square_of v d (c t)) (square_of v d (e t))

pub in_leaf : (v : Table) (w : ℕ) → square_in v 0 (leaf_node w) ≡ word_square w
unfolding square_in
in_leaf v w = refl

pub only_of : (s : Store) (d i : ℕ) (q : Square Bool) → Good s → Is s d i q → Only s d i q
only_of s d i q g h = record { is = h; only = λ j b. squares_once_lem s.slots (table s) g.sound d j i q b h }

-- the answer of the node of four is the square of their squares
pub four_only : (v w : Store) (d i : ℕ) (q : Quarters ℕ) → Good v → FourOf v d q → Good w →
    Is w (suc d) i (square_in (table v) (suc d) (four d q)) →
    (a b c e : Square Bool) → Is v d q.nw a → Is v d q.ne b → Is v d q.sw c → Is v d q.se e → Only w (suc d) i (Four a b c e)
four_only v w d i q g f h r a b c e ha hb hc he =
    let z = in_four (table v) d q (numbers_of v d q g f) ∙ (λ t. Four (ha.same t) (hb.same t) (hc.same t) (he.same t)) in
    only_of w (suc d) i (Four a b c e) h (record { valid = r.valid; same = r.same ∙ z })

-- what only grows keeps all holds
pub still_grown : (v w : Store) → Good v → Cut v w → Grown v w → Still v.top v w
still_grown v w g c h = record {
  at = c.at;
  slots = c.slots;
  long = c.long;
  keeps = record { front = front_less (let r = g.laid.room in omega arith) h.front; still = λ k d q b i. h.grows.all d _ q i };
}

-- two steps
pub still_two : (v w u : Store) (t : ℕ) → Still t v w → w.top ≡ t → Still w.top w u → Still t v u
still_two v w u t p e q = still_trans p (subst (λ (k : ℕ). Still k w u) e q)

-- a square whose number means what it meant
has_means : (v w : Store) (d i : ℕ) → Has v d i → Means v w d i → Has w d i
has_means v w d i h m = (m (square_of (table v) d i) (record { valid = h; same = refl })).valid

same_means : (v w : Store) (d i : ℕ) → Has v d i → Means v w d i → square_of (table w) d i ≡ square_of (table v) d i
same_means v w d i h m = (m (square_of (table v) d i) (record { valid = h; same = refl })).same

pub means_grown : (v w : Store) → Cut v w → Grown v w → (d i : ℕ) → Means v w d i
means_grown v w c g d i q h = subst (λ (n : ℕ). IsAt n (table w) d i q) (sym c.slots) (subst (λ (a : ℕ). IsAt v.slots (view a (mem w)) d i q) (sym c.at) (g.grows.all d i q h))

-- a node whose quarters mean what they meant
square_means : (v w : Store) (x : Node) → Proper v.slots (table v) x → ((d : ℕ) → x.state ≡ d + 3 → FourKept v w d (quarters_of x)) → (d : ℕ) → x.state ≡ d + 2 →
    square_in (table w) d x ≡ square_in (table v) d x
unfolding square_in
square_means v w x p h zero e = refl
square_means v w x p h (suc d) e =
    let k = p.kids d (omega arith) in let m = h d (omega arith) in
    let a = same_means v w d _ k.knw m.means_nw in let b = same_means v w d _ k.kne m.means_ne in
    let c = same_means v w d _ k.ksw m.means_sw in let f = same_means v w d _ k.kse m.means_se in
    λ t. Four (a t) (b t) (c t) (f t)

pub node_kept : (v w : Store) (x : Node) → Proper v.slots (table v) x → ((d : ℕ) → x.state ≡ d + 3 → FourKept v w d (quarters_of x)) → NodeKept v w x
node_kept v w x p h = record {
  proper = record {
    some = p.some;
    most = p.most;
    leaf = p.leaf;
    kids = λ d e. let k = p.kids d e in let m = h d e in record {
      knw = has_means v w d _ k.knw m.means_nw;
      kne = has_means v w d _ k.kne m.means_ne;
      ksw = has_means v w d _ k.ksw m.means_sw;
      kse = has_means v w d _ k.kse m.means_se;
    };
  };
  same = square_means v w x p h;
}

pub four_of : (v : Store) (k : ℕ) (x : Node) (q : Quarters ℕ) → Proper v.slots (table v) x → q ≡ quarters_of x → k + 2 ≡ x.state → (x.state ≡ 2 → ⊥) → FourOf v (k - 1) q
four_of v k x q p e f h =
    let c = p.kids (k - 1) (let s = p.some in omega arith) in
    subst (FourOf v (k - 1)) (sym e) (record { has_nw = c.knw; has_ne = c.kne; has_sw = c.ksw; has_se = c.kse })

pub kept_four : (v w : Store) (k : ℕ) (x : Node) (q : Quarters ℕ) → Proper v.slots (table v) x → q ≡ quarters_of x → k + 2 ≡ x.state → FourKept v w (k - 1) q → NodeKept v w x
kept_four v w k x q p e f h = node_kept v w x p (λ d g. let z : k - 1 ≡ d = omega arith in subst (λ (c : ℕ). FourKept v w c (quarters_of x)) z (subst (FourKept v w (k - 1)) e h))

pub kept_leaf : (v w : Store) (x : Node) → Proper v.slots (table v) x → x.state ≡ 2 → NodeKept v w x
kept_leaf v w x p e = node_kept v w x p (λ d f. absurd (omega arith))

pub kept_grown : (v w : Store) (x : Node) → Cut v w → Grown v w → Proper v.slots (table v) x → NodeKept v w x
kept_grown v w x c g p = node_kept v w x p (λ d e. let q = quarters_of x in
    record { means_nw = means_grown v w c g d q.nw; means_ne = means_grown v w c g d q.ne; means_sw = means_grown v w c g d q.sw; means_se = means_grown v w c g d q.se })

-- added where it stands for what it stood for
pub added_kept : (v w u : Store) (x : Node) (r : Result ℕ StoreFull) → NodeKept v w x → Added w u x r → Added v u x r
added_kept v w u x (Ok i) k h = λ d e. subst (Is u d i) (k.same d e) (h d e)
added_kept v w u x (Err z) k h = h

-- the node of the four was added
pub interned : (v w : Store) (d : ℕ) (q : Quarters ℕ) (x : Node) (r : Result ℕ StoreFull) → x ≡ four d q → Good v → FourOf v d q → Good w → Added v w x r → Interned v w d q r
interned v w d q x (Ok i) e gv f gw h = four_only v w d i q gv f gw (subst (λ (y : Node). Is w (suc d) i (square_in (table v) (suc d) y)) e (h (suc d) (ap (λ (y : Node). y.state) e ∙ sum d)))
  where
    sum : (d : ℕ) → d + 3 ≡ suc d + 2
    sum d = omega arith
interned v w d q x (Err z) e gv f gw h = h

pub leaf_interned : (v w : Store) (c : ℕ) (x : Node) (r : Result ℕ StoreFull) → x ≡ leaf_node c → Good w → Added v w x r → LeafInterned w c r
leaf_interned v w c x (Ok i) e g h =
    only_of w 0 i (word_square c) g (subst (Is w 0 i) (ap (square_in (table v) 0) e ∙ in_leaf (table v) c) (h 0 (ap (λ (y : Node). y.state) e)))
leaf_interned v w c x (Err z) e g h = h

-- an answer at once
pub added_first : (v w : Store) (x : Node) (i : ℕ) → Cut v w → Given v w x (Some i) → Added v w x (Ok i)
added_first v w x i c h d e = subst (λ (n : ℕ). IsAt n (table w) d i (square_in (table v) d x)) (sym c.slots) (h d e)

-- or none
pub added_given : (v w : Store) (x : Node) (o : Option ℕ) (z : StoreFull) → Cut v w → Given v w x o → Added v w x (ok_or o z)
added_given v w x (Some i) z c h = added_first v w x i c h
added_given v w x None z c h = transport (λ t. Full (sym c.slots t) (view (sym c.at t) (sym h.0 t))) h.1
