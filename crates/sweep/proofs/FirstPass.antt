-- The first pass over a store, slot by slot.
use mathlib.Core.Path.{◌≡◌, refl, sym, ap, subst, ◌∙◌}
use mathlib.Core.Bool.{true, false}
use Prim.Native.Nat.{ℕ, ◌+◌, ◌<◌}
use native.Mathlib.Omega.{arith}
use borrow.Author.Tests.{true-leb, false-leb}
use lib.Dec.{leb}
use Rattle.nodes.specs.declared.Node.{Node}
use Rattle.nodes.specs.Nodes.{home_of}
use Rattle.nodes.specs.Memory.{tag, view}
use Rattle.nodes.proofs.Tables.{home_within}
use Rattle.slots.specs.declared.Store.{Store}
use Rattle.slots.specs.Stores.{mem, Same, Fixed, Laid, table}
use Rattle.sweep.specs.declared.Survey.{Survey}
use Rattle.sweep.specs.Sweeps.{homes, Found, survey_with, with_trimmed, TrimmedAt}
use Rattle.slots.proofs.Stores.{fixed_refl, fixed_trans}
use Rattle.sweep.proofs.Reach.{found_none, found_skip, found_more}
use Rattle.sweep.proofs.Trims.{trimmed_none, trimmed_skip, trimmed_more, trimmed_view}

-- the pass began with the store v and has come to slot k with w, and found out x
pub record Trimming (v w : Store) (k : ℕ) (x : Survey) : Type 0 where
  pub same : Same v w
  pub fixed : Fixed v w
  pub trimmed : TrimmedAt v.at v.slots k (mem v) (mem w)
  pub found : Found v.slots k (tag v.at (mem v)) (homes v.slots (table v)) x

pub trimming_start : (v : Store) → Trimming v v 0 (record { count = 0; low = v.slots; high = 0 })
trimming_start v = record { same = refl; fixed = fixed_refl v; trimmed = trimmed_none v.at v.slots (mem v); found = found_none v.slots (tag v.at (mem v)) (homes v.slots (table v)) }

tag_was : {v w : Store} {k : ℕ} {x : Survey} → Trimming v w k x → (i : ℕ) → tag w.at (mem w) i ≡ tag v.at (mem v) i
tag_was {w = w} s i = (λ t. tag (s.fixed.at t) (mem w) i) ∙ s.trimmed.nodes i 0 (omega arith)

pub trimming_skip : {v w : Store} {k : ℕ} {x : Survey} → Trimming v w k x → false ≡ leb 128 (tag w.at (mem w) k) → Trimming v w (k + 1) x
trimming_skip {v = v} {w = w} {k = k} {x = x} s e =
    let l : tag v.at (mem v) k < 128 = false-leb 128 (tag v.at (mem v) k) (e ∙ ap (leb 128) (tag_was s k)) in
    record {
      same = s.same;
      fixed = s.fixed;
      trimmed = trimmed_skip v.at v.slots k (mem v) (mem w) s.trimmed l;
      found = found_skip v.slots k (tag v.at (mem v)) (homes v.slots (table v)) x s.found l;
    }

pub trimming_more : {v w s u : Store} {k h : ℕ} {x y : Survey} {n : Node} → Laid v → k < v.slots → Trimming v w k x → true ≡ leb 128 (tag w.at (mem w) k) →
    Same w s → Fixed w s → mem s ≡ with_trimmed w.at w.slots (mem w) k 3 → Same s u → Fixed s u → mem u ≡ with_trimmed s.at s.slots (mem s) k 4 →
    n ≡ table u k → h ≡ home_of u.slots n → y ≡ survey_with x k h → Trimming v u (k + 1) y
trimming_more {v = v} {w = w} {s = s} {u = u} {k = k} {h = h} {x = x} {y = y} laid l p e a b c d f g i j q =
    let m = true-leb 128 (tag v.at (mem v) k) (e ∙ ap (leb 128) (tag_was p k)) in
    let past = fixed_trans p.fixed b in let all = fixed_trans past f in
    let t = trimmed_more v.at v.slots k (mem v) (mem w) (mem s) (mem u) p.trimmed m (let fits = laid.fits in omega arith) p.fixed.at p.fixed.slots c past.at past.slots g in
    let home : h ≡ homes v.slots (table v) k = j ∙ (λ z. home_of (all.slots z) (i z)) ∙ (λ z. home_of v.slots (view (all.at z) (mem u) k)) ∙ ap (home_of v.slots) (trimmed_view t k) in
    record {
      same = d ∙ a ∙ p.same;
      fixed = all;
      trimmed = t;
      found = subst (Found v.slots (k + 1) (tag v.at (mem v)) (homes v.slots (table v))) (sym (q ∙ ap (survey_with x k) home))
          (found_more v.slots k (tag v.at (mem v)) (homes v.slots (table v)) x p.found m (home_within v.slots (table v k) laid.some));
    }
