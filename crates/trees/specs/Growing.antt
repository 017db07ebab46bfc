-- Trees of squares whose cells come from a seed, and what is held while they are grown.
use Rattle.std.specs.Prelude.{◌≡◌, ℕ, zero, suc, ◌+◌, ◌*◌, ◌/◌, ◌%◌, ◌^◌, ◌<◌, ◌≤◌, Bool, cond, Ok, Err, Result, MatchOption, ◌==◌}
use Rattle.model.specs.Squares.{Square, Four}
use Rattle.leaf.specs.AsSquares.{word_square}
use Rattle.model.specs.declared.quarters.Quarters.{Quarters}
use Rattle.nodes.specs.Nodes as nodes
use Rattle.slots.specs.declared.Store.{Store}
use Rattle.slots.specs.Stores.{Same, Good, Has, Is, Still, table}
use Rattle.holds.specs.declared.Hold.{Hold}
use Rattle.holds.specs.Holding.{held, Last, Pushed, Popped}
use Rattle.store.specs.declared.Full.{Full}
use Rattle.trees.specs.declared.seeds.Leaves.{Leaves}
use Rattle.trees.specs.declared.seeds.Place.{Place}
use Rattle.trees.specs.declared.Grove.{Grove}
use Rattle.trees.specs.Mixed.{mix}

-- the cells of a leaf of the k-th kind; every fourth kind is empty
abbrev pub kind_cells : ℕ → ℕ → ℕ
kind_cells seed k = cond (k % 4 == 0) 0 (mix seed k)

unfoldable pub cells_at : Leaves → Place → ℕ
cells_at l p = kind_cells l.seed (mix (mix l.seed p.x) p.y % l.kinds)

abbrev pub quarter_at : Place → ℕ → Place
quarter_at p k = record { x = 2 * p.x + k % 2; y = 2 * p.y + k / 2 }

-- the tree of this depth at a place
unfoldable pub grown : Leaves → ℕ → Place → Square Bool
grown l zero p = word_square (cells_at l p)
grown l (suc d) p = Four (grown l d (quarter_at p 0)) (grown l d (quarter_at p 1)) (grown l d (quarter_at p 2)) (grown l d (quarter_at p 3))

-- a place among 2^n times 2^n
pub record Inside (n : ℕ) (p : Place) : Type 0 where
  pub right : p.x < 2 ^ n
  pub down : p.y < 2 ^ n

-- the store is as good as it was, and what is held is as it was
pub record Kept (v w : Store) : Type 0 where
  pub same : Same v w
  pub good : Good w
  pub still : Still v.top v w
  pub top : w.top ≡ v.top

-- at least three quarters of the slots hold squares
abbrev pub IsFull : Store → Type 0
IsFull s = nodes.Full s.slots (table s)

-- the number of the square q, or the store is full
abbrev pub Made : Store → (d : ℕ) → Square Bool → Result ℕ Full → Type 0
Made w d q (Ok i) = Is w d i q
Made w d q (Err _) = IsFull w

-- Since v the hold h was taken, from hold t on. It is the last, and the holds below t are as they were.
pub record Taken (v w : Store) (t : ℕ) (h : Hold) : Type 0 where
  pub same : Same v w
  pub good : Good w
  pub still : Still t v w
  pub from : h.from ≡ t
  pub last : Last w h

-- h holds n squares of depth d
pub record Holds (s : Store) (h : Hold) (n d : ℕ) : Type 0 where
  pub len : h.len ≡ n
  pub below : h.from + n ≤ s.top
  pub each : (j : ℕ) → j < n → Has s d (held s (h.from + j))

-- the j-th square that h holds is p j
abbrev pub Each : Store → Hold → (d : ℕ) → (ℕ → Square Bool) → Type 0
Each s h d p = (j : ℕ) → j < h.len → Is s d (held s (h.from + j)) (p j)

-- one square more is held, or the hold was let go and the refusal is passed on
abbrev pub HeldAlso : Store → Store → Hold → (made : Result ℕ Full) → Result Hold Full → Type 0
HeldAlso v w h (Ok i) (Ok g) = Same v w × Good w × Pushed v w i × (g ≡ record { from = h.from; len = h.len + 1; done = h.done })
HeldAlso v w h (Err _) (Err _) = Same v w × Good w × Popped h.from v w
HeldAlso v w h (Ok _) (Err _) = ⊥
HeldAlso v w h (Err _) (Ok _) = ⊥

-- a hold of n squares of depth d was taken, the j-th of which is p j; or the store is full
abbrev pub TakenOr : Store → Store → (n d : ℕ) → (ℕ → Square Bool) → Result Hold Full → Type 0
TakenOr v w n d p (Ok h) = Taken v w v.top h × Holds w h n d × Each w h d p
TakenOr v w n d p (Err _) = Kept v w × IsFull w

-- a hold of n trees was taken, or of fewer, and the store is full; or it is full before the first
abbrev pub GroveOr : Store → Store → (n d : ℕ) → (ℕ → Square Bool) → Result Grove Full → Type 0
GroveOr v w n d p (Ok r) = Taken v w v.top r.hold × (r.hold.len ≤ n) × Each w r.hold d p × MatchOption r.refusal (r.hold.len ≡ n) (λ _. IsFull w)
GroveOr v w n d p (Err _) = Kept v w × IsFull w

-- the four squares of a bed that a key names
abbrev pub woven : Store → Hold → ℕ → Quarters ℕ
woven s h key = record {
  nw = held s (h.from + key % 1024);
  ne = held s (h.from + key / 1024 % 1024);
  sw = held s (h.from + key / 1024 ^ 2 % 1024);
  se = held s (h.from + key / 1024 ^ 3 % 1024);
}
