use Rattle.std.proofs.Common.{◌≡◌, suc, sym, ◌∙◌, subst, arith}
use Rattle.nodes.specs.Memory.{base, FrontAt, GrowsAt}
use Rattle.nodes.proofs.Memory.{put, put_front, good_eq}
use Rattle.slots.specs.Stores.{mem, table}
use Rattle.notes.specs.Noting.{note_for, field_for}
use Rattle.notes.proofs.Packing.{field_low, field_high}
use Rattle.notes.proofs.Noting.{depth_small, packed_right, note_grows, good_note}
use Rattle.notes.proofs.Leap.note.Goals as goal

pub field-requires : goal.field-requires
field-requires c =
    let v = c.args.store.now in let d = depth_small v.at v.slots (mem v) (suc c.args.depth) c.args.number c.requires.square.0 in
    omega arith

pub pack-note-requires : goal.pack-note-requires
pack-note-requires c =
    let v = c.args.store.now in let d = depth_small v.at v.slots (mem v) (suc c.args.depth) c.args.number c.requires.square.0 in
    let few = c.requires.good.laid.few in let here = c.requires.leap.valid.here in
    (omega arith, omega arith)

pub returns : goal.returns
returns c =
    let v = c.args.store.now in let a = v.at in let n = v.slots in let m = mem v in let i = c.args.number in let e = c.args.self.exponent in let p = c.args.depth in
    let f = field_for e p in let x = note_for c.args.self.rule e c.args.target in
    let lo = field_low e p in let hi = field_high e p in let s = c.set_word.ensures in let u = s.fixed in
    let w : mem c.set_word.new.self ≡ put a m i f x = s.after ∙ (λ k. put a m i (c.field.ensures k) (c.pack-note.ensures k)) in
    let d = depth_small a n m (suc p) i c.requires.square.0 in let few = c.requires.good.laid.few in let here = c.requires.leap.valid.here in
    let r = packed_right n (table v) c.args.self.rule e p i c.args.target c.args.self.rule.good (omega arith) (omega arith) c.requires.leap in
    record {
      same = s.same;
      fixed = u;
      good = good_eq u.at u.slots u.top u.left w (good_note a n v.top v.left m p i f x lo hi c.requires.good c.requires.square.0 r);
      written = w;
      grows = subst (GrowsAt a n m) (sym w) (note_grows a n m i f x lo hi);
      front = subst (FrontAt (base a) m) (sym w) (put_front a m i f x);
    }
