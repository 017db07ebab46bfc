-- What holds of a list holds of the memory and the stretch that it was made of.
use Rattle.std.proofs.Common.{◌≡◌, List, ℕ, false, IsTrue, sym, subst}
use mathlib.Core.Bool.{true≢false}
use Rattle.lent.specs.declared.list.CellList.{CellList}
use Rattle.lent.specs.declared.Stretch.{Stretch}
use Rattle.lent.specs.Lists.{words_of, stretch_of, cells_of}
use Rattle.lent.specs.Stretches.{cells_in}

pub on_list : (P : List ℕ → Stretch → Type 0) {m m' : List ℕ} {s s' : Stretch} → m ≡ m' → s ≡ s' → P m s → P m' s'
on_list P {m} {m'} {s} {s'} e f p = subst (P m') f (subst (λ (u : List ℕ). P u s) e p)

pub list_cells : (l : CellList) {m : List ℕ} {s : Stretch} → words_of l ≡ m → stretch_of l ≡ s → cells_of l ≡ cells_in m s
list_cells l e f = λ j. cells_in (e j) (f j)

-- what a test that answered no tells
pub never : {P : Type 0} → (P → IsTrue false) → P → ⊥
never h p = true≢false (sym (h p))
