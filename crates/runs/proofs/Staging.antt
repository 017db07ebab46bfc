-- One generation after the other, with the plane kept at home.
use Rattle.std.proofs.Common.{◌≡◌, ℕ, zero, suc, ◌+◌, ◌-◌, ◌*◌, ◌<◌, ◌≤◌, T, List, [], ◌∷◌, length, true, Some, None, Option, Result, Ok, Err, sym, refl, ap, ◌∙◌, subst, inl, inr, arith}
use Rattle.model.specs.Rules.{Rule, good_rule}
use Rattle.model.specs.declared.Cell.{Cell}
use Rattle.model.specs.Cells.{in_order, same_cells}
use Rattle.model.specs.Lists.{next_of, nexts}
use Rattle.model.specs.declared.Period.{Period}
use Rattle.measure.specs.declared.Shift.{Shift}
use Rattle.measure.specs.Shifts.{shift_period}
use Rattle.model.specs.World.{returned, period_from, farthest, reach, edge, most_cells, Crowded}
use Rattle.model.proofs.Lists.{next_order}
use Rattle.model.proofs.Time.{adds, nexts_last, nexts_still}
use Rattle.model.proofs.Reach.{far_nexts}
use Rattle.model.proofs.Periods.{same_cells_lem, period_unroll}
use Rattle.lent.specs.declared.Stretch.{Stretch}
use Rattle.lent.specs.Stretches.{cells_in, room_words, Beside, Apart}
use Rattle.model.specs.declared.Refusal.{Refusal}
use Rattle.generation.specs.Scan.{NextMade}
use Rattle.lent.proofs.Writing.{beside_cells, beside_listed}
use Rattle.runs.specs.Stages.{Placed, Staged, Kept, Stepped, world_in}

placed_room : (at : ℕ) → Placed at → at + room_words ≤ 3 * room_words
placed_room at (inl e) = omega arith
placed_room at (inr (inl e)) = omega arith
placed_room at (inr (inr e)) = omega arith

pub staged_room : (m : List ℕ) (home : Stretch) (to : ℕ) → Staged m home → Placed to → to + room_words ≤ length m
staged_room m home to g p = let a = placed_room to p in let b = g.room in omega arith

pub kept_refl : (m : List ℕ) (home : Stretch) → Staged m home → Kept m m home
kept_refl m home g = record { long = refl; staged = g; same = refl }

pub kept_trans : {a b c : List ℕ} {home : Stretch} → Kept a b home → Kept b c home → Kept a c home
kept_trans p q = record { long = q.long ∙ p.long; staged = q.staged; same = q.same ∙ p.same }

-- what was written lies elsewhere
pub kept_beside : (m m' : List ℕ) (s : Stretch) (to : ℕ) → Staged m s → Apart s.at to → Beside to m m' → Kept m m' s
kept_beside m m' s to g a b =
    let r = g.room in let long = b.long in
    record {
      long = long;
      same = beside_cells b s a g.listed.few;
      staged = record { listed = beside_listed b s a g.listed; placed = g.placed; few = g.few; room = omega arith };
    }

-- the list that was made
stage_made : (r : Rule) (m m' : List ℕ) (last t : Stretch) (to : ℕ) → Staged m last → Placed to → Beside to m m' → t.at ≡ to → t.len ≤ most_cells → cells_in m' t ≡ next_of r (cells_in m last) →
    farthest (next_of r (cells_in m last)) ≤ edge → Staged m' t
stage_made r m m' last t to g p b here few e near =
    let room = staged_room m last to g p in let long = b.long in let three = g.room in
    record {
      placed = subst (λ (u : ℕ). Placed u) (sym here) p;
      few = few;
      room = omega arith;
      listed = record {
        within = omega arith;
        few = omega arith;
        ordered = subst (λ (cs : List Cell). T (in_order cs)) (sym e) (next_order r (cells_in m last));
        near = subst (λ (cs : List Cell). farthest cs ≤ edge) (sym e) near;
      };
    }

pub stage_stepped : (r : Rule) (m m' : List ℕ) (last : Stretch) (to : ℕ) (o : Result Stretch Refusal) → Staged m last → Placed to → Beside to m m' →
    farthest (next_of r (cells_in m last)) ≤ edge → NextMade r m m' last to o → Stepped r m m' last o
stage_stepped r m m' last to (Ok t) g p b near (here, few, e) = (stage_made r m m' last t to g p b here few e near, e)
stage_stepped r m m' last to (Err e) g p b near h = h

nexts_empty : (r : Rule) (n : ℕ) → nexts r n [] ≡ []
nexts_empty r n = nexts_still r n [] refl

-- no generation up to the n-th goes beyond the edge
pub reach_near : (r : Rule) → T (good_rule r) → (n : ℕ) (cs : List Cell) → T (reach n cs) → (k : ℕ) → k ≤ n → farthest (nexts r k cs) ≤ edge
unfolding reach farthest
reach_near r g n [] t k l = subst (λ (ds : List Cell). farthest ds ≤ edge) (sym (nexts_empty r k)) (omega arith)
reach_near r g n (c ∷ cs) t k l = let f = far_nexts r g k (c ∷ cs) in let b : farthest (c ∷ cs) + n ≤ edge = grind arith in omega arith

-- what the tests of a run tell
pub told_fit : {n n' : ℕ} {cs ds : List Cell} → true ≡ reach n cs → n ≡ n' → cs ≡ ds → T (reach n' ds)
told_fit t e f = subst T (t ∙ (λ j. reach (e j) (f j))) tt

pub told_same : {a b cs ds : List Cell} → true ≡ same_cells a b → a ≡ cs → b ≡ ds → T (same_cells cs ds)
told_same t e f = subst T (t ∙ (λ j. same_cells (e j) (f j))) tt

-- the state of a run after so many generations
pub record Running (r : Rule) (m m' : List ℕ) (home last : Stretch) (done : ℕ) : Type 0 where
  pub kept : Kept m m' home
  pub staged : Staged m' last
  pub is : cells_in m' last ≡ nexts r done (cells_in m home)

pub running_start : (r : Rule) (m : List ℕ) (home : Stretch) → Staged m home → Running r m m home home 0
unfolding nexts
running_start r m home g = record { kept = kept_refl m home g; staged = g; is = refl }

pub running_next : (r : Rule) (m m1 m2 : List ℕ) (home last then : Stretch) (done : ℕ) → Running r m m1 home last done → Kept m1 m2 home → Staged m2 then → cells_in m2 then ≡ next_of r (cells_in m1 last) → Running r m m2 home then (done + 1)
running_next r m m1 m2 home last then done g k s e =
    let z : suc done ≡ done + 1 = omega arith in
    record {
      kept = kept_trans g.kept k;
      staged = s;
      is = e ∙ ap (next_of r) g.is ∙ sym (nexts_last r done (cells_in m home)) ∙ ap (λ (u : ℕ). nexts r u (cells_in m home)) z;
    }

pub running_near : (r : Rule) → T (good_rule r) → (m m' : List ℕ) (home last : Stretch) (done n : ℕ) → Running r m m' home last done → T (reach n (cells_in m home)) → done < n → farthest (next_of r (cells_in m' last)) ≤ edge
running_near r gr m m' home last done n g t l =
    subst (λ (cs : List Cell). farthest cs ≤ edge) (nexts_last r done (cells_in m home) ∙ ap (next_of r) (sym g.is)) (reach_near r gr n (cells_in m home) t (suc done) (omega arith))

-- too many cells in the next generation
pub running_full : (r : Rule) (m m' : List ℕ) (home last : Stretch) (done n : ℕ) → Running r m m' home last done → done < n → most_cells < length (next_of r (cells_in m' last)) → Crowded n (world_in r m home)
running_full r m m' home last done n g l f =
    (suc done, omega arith, subst (λ (cs : List Cell). most_cells < length cs) (ap (next_of r) g.is ∙ sym (nexts_last r done (cells_in m home))) f)

-- nothing changes any more
pub running_still : (r : Rule) (m m1 m2 : List ℕ) (home last then : Stretch) (done n : ℕ) → Running r m m1 home last done → Kept m1 m2 last → cells_in m2 then ≡ next_of r (cells_in m1 last) → done ≤ n →
    T (same_cells (cells_in m2 last) (cells_in m2 then)) → cells_in m2 last ≡ nexts r n (cells_in m home)
running_still r m m1 m2 home last then done n g k e l t =
    let q = same_cells_lem _ _ t in let z : done + (n - done) ≡ n = omega arith in
    let still : next_of r (cells_in m1 last) ≡ cells_in m1 last = sym e ∙ sym q ∙ k.same in
    k.same ∙ sym (nexts_still r (n - done) (cells_in m1 last) still) ∙ ap (nexts r (n - done)) g.is ∙ sym (adds r done (n - done) (cells_in m home)) ∙ ap (λ (u : ℕ). nexts r u (cells_in m home)) z

-- ---- periods
-- the search from generation t on is what is left of the whole search
abbrev pub Searching : Rule → List Cell → ℕ → ℕ → List Cell → Type 0
Searching r first bound t last = period_from r 1 bound first first ≡ period_from r (suc t) (bound - t) first last

pub searching_start : (r : Rule) (first : List Cell) (bound : ℕ) → Searching r first bound 0 first
searching_start r first bound = let e : bound ≡ bound - 0 = omega arith in ap (λ (n : ℕ). period_from r 1 n first first) e

searching_step : (r : Rule) (first last then : List Cell) (bound t : ℕ) → Searching r first bound t last → t < bound → then ≡ next_of r last →
    period_from r 1 bound first first ≡ returned (suc t) first then (period_from r (suc (suc t)) (bound - suc t) first then)
searching_step r first last then bound t s l e =
    let z : bound - t ≡ suc (bound - suc t) = omega arith in
    s ∙ ap (λ (n : ℕ). period_from r (suc t) n first last) z ∙ period_unroll r (suc t) (bound - suc t) first last ∙
    (λ i. returned (suc t) first (sym e i) (period_from r (suc (suc t)) (bound - suc t) first (sym e i)))

-- a generation that is the first one moved
pub searching_found : (r : Rule) (first last then : List Cell) (bound t t' : ℕ) (d : Shift) → Searching r first bound t last → t < bound → then ≡ next_of r last → t' ≡ t + 1 →
    ((u : ℕ) (go : Option Period) → returned u first then go ≡ shift_period u (Some d) go) → Some (record { t = t'; dx = d.dx; dy = d.dy }) ≡ period_from r 1 bound first first
searching_found r first last then bound t t' d s l e et h =
    let z : t' ≡ suc t = omega arith in
    ap (λ (u : ℕ). Some (record { t = u; dx = d.dx; dy = d.dy })) z ∙ sym (searching_step r first last then bound t s l e ∙ h (suc t) _)

-- one that isn't
pub searching_on : (r : Rule) (first last then : List Cell) (bound t : ℕ) → Searching r first bound t last → t < bound → then ≡ next_of r last →
    ((u : ℕ) (go : Option Period) → returned u first then go ≡ go) → Searching r first bound (t + 1) then
searching_on r first last then bound t s l e h =
    let z : suc t ≡ t + 1 = omega arith in
    searching_step r first last then bound t s l e ∙ h (suc t) _ ∙ ap (λ (u : ℕ). period_from r (suc u) (bound - u) first then) z

-- none comes where nothing changes any more
none_later : (r : Rule) (first then : List Cell) → next_of r then ≡ then → ((u : ℕ) (go : Option Period) → returned u first then go ≡ go) → (n t : ℕ) → period_from r t n first then ≡ None
unfolding period_from
none_later r first then e h zero t = refl
none_later r first then e h (suc n) t =
    (λ i. returned t first (e i) (period_from r (suc t) n first (e i))) ∙ h t _ ∙ none_later r first then e h n (suc t)

pub searching_still : (r : Rule) (first last then : List Cell) (bound t : ℕ) → Searching r first bound t last → t < bound → then ≡ next_of r last → last ≡ then →
    ((u : ℕ) (go : Option Period) → returned u first then go ≡ go) → None ≡ period_from r 1 bound first first
searching_still r first last then bound t s l e q h =
    sym (searching_on r first last then bound t s l e h ∙ none_later r first then (ap (next_of r) (sym q) ∙ sym e) h (bound - (t + 1)) (suc (t + 1)))

pub searching_end : (r : Rule) (first last : List Cell) (bound t : ℕ) → Searching r first bound t last → bound ≤ t → None ≡ period_from r 1 bound first first
unfolding period_from
searching_end r first last bound t s l = let z : bound - t ≡ 0 = omega arith in sym (s ∙ ap (λ (n : ℕ). period_from r (suc t) n first last) z)
