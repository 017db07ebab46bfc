-- What is promised of rules, planes, lists and squares. Each is a type; a term of the type is its proof.
use Rattle.std.specs.Prelude.{◌≡◌, ℕ, zero, suc, ◌+◌, ◌*◌, ◌^◌, ◌<◌, ◌≤◌, Bool, false, cond, ◌&&◌, T, List, length, ℤ, pos, ◌+ℤ◌, neg_ℤ, ◌≤ℤ◌, ◌<ℤ◌, Some, None, ◌==◌, ◌≢◌}
use Rattle.model.specs.Planes.{Plane, Local, Schedule, always, step, steps}
use Rattle.model.specs.Rules.{Rule, good_rule, life}
use Rattle.model.specs.Cells.{Cell, cell_at, same_cell, in_order, lives, plane_of, put, moved}
use Rattle.model.specs.Lists.{next_of, nexts}
use Rattle.model.specs.World.{World, size, farthest, period}
use Rattle.model.specs.Squares.{Square, level, state_at, with_state, leap, leap_by, Leaps, Shows, build, padded, lying, living, cells_of}

-- Lists are planes: the next generations of an ordered list are in order, and cell by cell what the rule says; and so is a list with a cell put.
abbrev pub ListsRight : Type 0
ListsRight =
    (r : Rule) → T (good_rule r) → (cs : List Cell) → T (in_order cs) →
    T (in_order (next_of r cs)) × ((x y : ℤ) → lives x y (next_of r cs) ≡ step (life r) (plane_of cs) x y) ×
    ((n : ℕ) → T (in_order (nexts r n cs)) × ((x y : ℤ) → lives x y (nexts r n cs) ≡ steps (always (life r)) n (plane_of cs) x y)) ×
    ((c : Cell) (b : Bool) → T (in_order (put c b cs)) × ((x y : ℤ) → lives x y (put c b cs) ≡ cond (same_cell c (cell_at x y)) b (lives x y cs)))

-- Two ordered lists with the same living cells are equal.
abbrev pub ListsSame : Type 0
ListsSame = (cs ds : List Cell) → T (in_order cs) → T (in_order ds) → ((x y : ℤ) → lives x y cs ≡ lives x y ds) → cs ≡ ds

-- Generations add up, on lists,
abbrev pub Adds : Type 0
Adds = (r : Rule) (m n : ℕ) (cs : List Cell) → nexts r (m + n) cs ≡ nexts r n (nexts r m cs)

-- and on planes of any states, whatever the local rule of each generation.
abbrev pub PlanesAdd : Type 0 → Type 0
PlanesAdd S = (σ : Schedule S) (m n : ℕ) (p : Plane S) → steps σ (m + n) p ≡ steps (λ t. σ (m + t)) n (steps σ m p)

-- No coordinate grows by more than n in n generations.
abbrev pub ReachRight : Type 0
ReachRight = (r : Rule) → T (good_rule r) → (n : ℕ) (cs : List Cell) → farthest (nexts r n cs) ≤ farthest cs + n

-- The period that is found is the least up to the bound, and the plane is then the first one moved by it; where none is found there is none.
abbrev pub PeriodRight : Type 0
PeriodRight =
    (bound : ℕ) (w : World) →
    ((t : ℕ) (dx dy : ℤ) → period bound w ≡ Some (record { t = t; dx = dx; dy = dy }) →
    (0 < t) × (t ≤ bound) × (nexts w.rule t w.cells ≡ moved dx dy w.cells) ×
    ((s : ℕ) (a b : ℤ) → 0 < s → s < t → nexts w.rule s w.cells ≢ moved a b w.cells)) ×
    (period bound w ≡ None → (s : ℕ) (a b : ℤ) → 0 < s → s ≤ bound → nexts w.rule s w.cells ≢ moved a b w.cells)

-- z, k times
unfoldable pub many : ℕ → ℤ → ℤ
many zero z = pos 0
many (suc k) z = z +ℤ many k z

-- A period that is found holds for ever: after k times the period the plane is the first one moved k times. It is the least; where none is found there is none.
abbrev pub ForEver : Type 0
ForEver =
    (bound : ℕ) (w : World) → T (good_rule w.rule) → T (in_order w.cells) →
    ((t : ℕ) (dx dy : ℤ) → period bound w ≡ Some (record { t = t; dx = dx; dy = dy }) →
    (0 < t) × (t ≤ bound) × ((k : ℕ) → nexts w.rule (k * t) w.cells ≡ moved (many k dx) (many k dy) w.cells) ×
    ((s : ℕ) (a b : ℤ) → 0 < s → s < t → nexts w.rule s w.cells ≢ moved a b w.cells)) ×
    (period bound w ≡ None → (s : ℕ) (a b : ℤ) → 0 < s → s ≤ bound → nexts w.rule s w.cells ≢ moved a b w.cells)

-- The square t has level n + 1, and is the middle of the square s of level n + 2 after 2^j generations, in every plane that shows s.
abbrev pub Middle : {S : Type 0} → Schedule S → (j n : ℕ) → (s t : Square S) → Type 0
Middle {S = S} σ j n s t =
    T (level (suc n) t) ×
    ((p : Plane S) → Shows (suc (suc n)) s p → (x y : ℕ) → x < 2 ^ suc n → y < 2 ^ suc n → steps σ (2 ^ j) p (pos (2 ^ n + x)) (pos (2 ^ n + y)) ≡ state_at (suc n) t x y)

-- The leap is right.
abbrev pub LeapRight : {S : Type 0} → Schedule S → Type 0
LeapRight {S = S} σ = (n : ℕ) (s : Square S) → T (level (suc (suc n)) s) → Middle σ n n s (leap σ n s)

-- The leap by a smaller power is right.
abbrev pub LeapByRight : {S : Type 0} → Schedule S → Type 0
LeapByRight {S = S} σ = (j n : ℕ) (s : Square S) → j ≤ n → T (level (suc (suc n)) s) → Middle σ j n s (leap_by σ j n s)

-- What is made in the three ways is right, and the leaps are made so.
abbrev pub LeapsRight : {S : Type 0} → Schedule S → Type 0
LeapsRight {S = S} σ =
    ((j n : ℕ) (s t : Square S) → Leaps σ j n s t → T (level (suc (suc n)) s) → Middle σ j n s t) ×
    ((n : ℕ) (s : Square S) → Leaps σ n n s (leap σ n s)) × ((j n : ℕ) (s : Square S) → j ≤ n → Leaps σ j n s (leap_by σ j n s))

-- u lies at most n from x
abbrev pub Near : ℕ → ℤ → ℤ → Type 0
Near n x u = size (u +ℤ neg_ℤ x) ≤ n

-- Nothing outside of n cells matters for n generations.
abbrev pub Slow : {S : Type 0} → Schedule S → Type 0
Slow {S = S} σ =
    (n : ℕ) (p q : Plane S) (x y : ℤ) → ((u v : ℤ) → Near n x u → Near n y v → p u v ≡ q u v) → steps σ n p x y ≡ steps σ n q x y

-- Planes that are read at other places, column X x y and row Y x y for x, y, do the same, read at those places.
abbrev pub Keeps : {S : Type 0} → Schedule S → (X Y : ℤ → ℤ → ℤ) → Type 0
Keeps {S = S} σ X Y = (n : ℕ) (p : Plane S) (x y : ℤ) → steps σ n (λ u v. p (X u v) (Y u v)) x y ≡ steps σ n p (X x y) (Y x y)

abbrev pub MovedAlike : {S : Type 0} → Schedule S → Type 0
MovedAlike σ = (a b : ℤ) → Keeps σ (λ x y. x +ℤ a) (λ x y. y +ℤ b)

-- left is right
abbrev pub MirroredAlike : {S : Type 0} → Schedule S → Type 0
MirroredAlike σ = Keeps σ (λ x y. neg_ℤ x) (λ x y. y)

-- up is down
abbrev pub FlippedAlike : {S : Type 0} → Schedule S → Type 0
FlippedAlike σ = Keeps σ (λ x y. x) (λ x y. neg_ℤ y)

-- a quarter turn, clockwise
abbrev pub TurnedAlike : {S : Type 0} → Schedule S → Type 0
TurnedAlike σ = Keeps σ (λ x y. y) (λ x y. neg_ℤ x)

-- the local rule does not tell left from right
abbrev pub Mirrors : {S : Type 0} → Local S → Type 0
Mirrors {S = S} l = (nw n ne w c e sw s se : S) → l ne n nw e c w se s sw ≡ l nw n ne w c e sw s se

-- the local rule does not tell the nine from the nine after a quarter turn
abbrev pub Turns : {S : Type 0} → Local S → Type 0
Turns {S = S} l = (nw n ne w c e sw s se : S) → l sw w nw s c n se e ne ≡ l nw n ne w c e sw s se

-- Moved planes do the same, moved; mirrored and turned ones under rules that do not tell the difference.
abbrev pub SymmetryRight : {S : Type 0} → Schedule S → Type 0
SymmetryRight σ =
    MovedAlike σ × (((t : ℕ) → Mirrors (σ t)) → MirroredAlike σ) × (((t : ℕ) → Turns (σ t)) → TurnedAlike σ) ×
    (((t : ℕ) → Mirrors (σ t)) → ((t : ℕ) → Turns (σ t)) → FlippedAlike σ)

-- Under a rule of eight neighbours moved, mirrored and turned planes do the same.
abbrev pub Alike : Rule → Type 0
Alike r = MovedAlike (always (life r)) × MirroredAlike (always (life r)) × FlippedAlike (always (life r)) × TurnedAlike (always (life r))

-- THE MAIN PROMISE. For every rule of eight neighbours: lists are planes; the leap is right; nothing is faster than a cell a generation; moved, mirrored and
-- turned planes do the same; generations add up; and a period that is found holds for ever.
abbrev pub Main : Type 0
Main =
    ListsRight × (((r : Rule) → LeapRight (always (life r))) × (((r : Rule) → Slow (always (life r))) × (((r : Rule) → Alike r) × (Adds × ForEver))))

-- The same of any states and any local rules, one for each generation, symmetric ones where it matters.
abbrev pub AnyRules : Type 0 → Type 0
AnyRules S = (σ : Schedule S) → LeapRight σ × (LeapByRight σ × (LeapsRight σ × (Slow σ × SymmetryRight σ)))

-- Squares of one level with the same cells are equal.
abbrev pub SquaresSame : Type 0 → Type 0
SquaresSame S =
    (k : ℕ) (s t : Square S) → T (level k s) → T (level k t) → ((x y : ℕ) → x < 2 ^ k → y < 2 ^ k → state_at k s x y ≡ state_at k t x y) → s ≡ t

-- The square that is built of states has them.
abbrev pub BuildRight : Type 0 → Type 0
BuildRight S =
    (k : ℕ) (f : ℕ → ℕ → S) → T (level k (build k f)) × ((x y : ℕ) → x < 2 ^ k → y < 2 ^ k → state_at k (build k f) x y ≡ f x y)

-- A square in a plane of a single state, and the same square padded with that state: the same plane.
abbrev pub PaddedRight : Type 0 → Type 0
PaddedRight S =
    (o : S) (k : ℕ) (s : Square S) → T (level (suc k) s) →
    T (level (suc (suc k)) (padded o k s)) ×
    ((a b x y : ℤ) → lying o (suc (suc k)) (padded o k s) a b x y ≡ lying o (suc k) s (a +ℤ pos (2 ^ k)) (b +ℤ pos (2 ^ k)) x y)

-- The list of a square's living cells is in order, and has exactly the square's; and it stays where the square is padded with nothing.
abbrev pub CellsRight : Type 0
CellsRight =
    (k : ℕ) (s : Square Bool) (a b : ℤ) →
    T (in_order (cells_of k s a b)) × ((x y : ℤ) → lives x y (cells_of k s a b) ≡ lying false k s a b x y) ×
    ((x y : ℕ) → x < 2 ^ k → y < 2 ^ k → lives (a +ℤ pos x) (b +ℤ pos y) (cells_of k s a b) ≡ state_at k s x y)

abbrev pub PaddedCells : Type 0
PaddedCells =
    (k : ℕ) (s : Square Bool) (a b : ℤ) → T (level (suc k) s) →
    cells_of (suc (suc k)) (padded false k s) a b ≡ cells_of (suc k) s (a +ℤ pos (2 ^ k)) (b +ℤ pos (2 ^ k))

-- As many cells live in a square as its list has.
abbrev pub CountRight : Type 0
CountRight = (k : ℕ) (s : Square Bool) (a b : ℤ) → T (level k s) → length (cells_of k s a b) ≡ living s

-- x lies in the middle of a square of level n + 2 that begins at a, and at least 2^j from the middle's rim
abbrev pub Room : (j n : ℕ) → ℤ → ℤ → Type 0
Room j n a x = ((a +ℤ pos (2 ^ n + 2 ^ j)) ≤ℤ x) × ((x +ℤ pos (2 ^ j)) <ℤ (a +ℤ pos (2 ^ n + 2 ^ suc n)))

-- Where what lives in a square has room, the list of its leap is the 2^j-th next generation of its list; and in a square that is padded twice it has room.
abbrev pub RunRight : Type 0
RunRight =
    (r : Rule) → T (good_rule r) → (j n : ℕ) (s : Square Bool) (a b : ℤ) → j ≤ n → T (level (suc (suc n)) s) →
    ((x y : ℤ) → T (lives x y (cells_of (suc (suc n)) s a b)) → Room j n a x × Room j n b y) →
    nexts r (2 ^ j) (cells_of (suc (suc n)) s a b) ≡ cells_of (suc n) (leap_by (always (life r)) j n s) (a +ℤ pos (2 ^ n)) (b +ℤ pos (2 ^ n))

abbrev pub RunPadded : Type 0
RunPadded =
    (r : Rule) → T (good_rule r) → (j k : ℕ) (s : Square Bool) (a b : ℤ) → j ≤ k → T (level (suc k) s) →
    nexts r (2 ^ j) (cells_of (suc k) s (a +ℤ pos (2 ^ k)) (b +ℤ pos (2 ^ k))) ≡
    cells_of (suc (suc k)) (leap_by (always (life r)) j (suc k) (padded false (suc k) (padded false k s))) a b

-- A square with one state changed has that state there and all others as they were, and its list is the list with that cell put.
abbrev pub PutRight : Type 0
PutRight =
    (k : ℕ) (s : Square Bool) (x y : ℕ) (o : Bool) → T (level k s) → x < 2 ^ k → y < 2 ^ k →
    T (level k (with_state k s x y o)) ×
    ((u v : ℕ) → u < 2 ^ k → v < 2 ^ k → state_at k (with_state k s x y o) u v ≡ cond (u == x && v == y) o (state_at k s u v)) ×
    ((a b : ℤ) → cells_of k (with_state k s x y o) a b ≡ put (cell_at (a +ℤ pos x) (b +ℤ pos y)) o (cells_of k s a b))
