use Rattle.std.proofs.Common.{◌≡◌, Some, suc, sym, ap, ◌∙◌, arith}
use Rattle.nodes.specs.Memory.{word}
use Rattle.slots.specs.Stores.{mem, table}
use Rattle.notes.specs.Noting.{recalled, note_in, field_for}
use Rattle.notes.proofs.Packing.{field_low, field_high, recalled_some}
use Rattle.notes.proofs.Noting.{depth_small, recalled_right}
use Rattle.notes.proofs.Leap.noted.Goals as goal

pub field-requires : goal.field-requires
field-requires c =
    let v = c.args.store.now in let d = depth_small v.at v.slots (mem v) (suc c.args.depth) c.args.number c.requires.square.0 in
    omega arith

pub returns-in-Some-clause-leap : goal.returns-in-Some-clause-leap
returns-in-Some-clause-leap c = λ l s.
    let v = c.args.store.now in let r = c.args.self.rule in let e = c.args.self.exponent in let p = c.args.depth in let i = c.args.number in let n = c.in-Some.ensures in
    let w : c.word.result ≡ note_in v e p i = c.word.ensures ∙ ap (word v.at (mem v) i) c.field.ensures in
    let is = sym (recalled_some r e c.word.result (omega (arith, n.0)) (n.2 ∙ c.if-note-stamp.true ∙ c.stamp.ensures)) ∙ ap (recalled r e) w in
    recalled_right v.slots (table v) r e p i (note_in v e p i) l r.good c.requires.square.1
    (c.requires.good.notes i p (field_for e p) c.requires.square.0 (field_low e p) (field_high e p)) (sym is ∙ ap Some n.1 ∙ s)
