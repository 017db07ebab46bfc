use mathlib.Core.Path.{sym, ap, ◌∙◌}
use Prim.Native.Nat.{ℕ}
use native.Mathlib.Omega.{arith}
use lib.Dec.{leb}
use Rattle.std.proofs.lemmas.Bool.{le-ltb}
use Rattle.nodes.specs.Memory.{tag}
use Rattle.slots.specs.Stores.{mem}
use Rattle.sweep.proofs.Trims.{naming_none, naming_beyond, naming_tag}
use Rattle.sweep.proofs.names_marked.Goals as goal

pub returns-in-None : goal.returns-in-None
returns-in-None c = let s = c.args.store.now in naming_none s.at s.slots (mem s) c.args.word c.in-None.ensures

pub returns-then-note-store : goal.returns-then-note-store
returns-then-note-store c =
    let s = c.args.store.now in let e = c.in-Some.ensures in
    c.is_marked.ensures ∙ ap (λ (k : ℕ). leb 128 (tag s.at (mem s) k)) (sym e.1) ∙ naming_tag s.at s.slots (mem s) c.args.word (λ z. omega (arith, e.0)) (omega (arith, e.1))

pub returns-else-note-store : goal.returns-else-note-store
returns-else-note-store c =
    let s = c.args.store.now in let e = c.in-Some.ensures in le-ltb c.in-Some.note.number s.slots c.if-note-store.false ∙ naming_beyond s.at s.slots (mem s) c.args.word (λ z. omega (arith, e.0)) (omega (arith, e.1))
