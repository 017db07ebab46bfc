use Rattle.std.proofs.Common.{ℕ, ◌-◌, sym, refl, ap, subst, arith}
use Rattle.nodes.specs.Memory.{base, view}
use Rattle.nodes.specs.Nodes.{IsAt}
use Rattle.nodes.proofs.Memory.{front_refl, good_eq}
use Rattle.slots.specs.declared.Store.{Store}
use Rattle.slots.specs.Stores.{mem, table}
use Rattle.probe.specs.Adding.{Grown}
use Rattle.probe.specs.Places.{Found, square_in}
use Rattle.probe.proofs.Putting.{good_put, grows_put, put_of, is_here, is_old, full_left, full_all}
use Rattle.probe.proofs.add.Goals as goal

grown_refl : (v : Store) → Grown v v
grown_refl v = record { front = front_refl (base v.at) (mem v); grows = record { all = λ d i q h. h } }

pub fill-requires : goal.fill-requires
unfolding Found
fill-requires c = record { laid = c.requires.good.laid; within = c.in-New.ensures.within }

pub returns-in-Old : goal.returns-in-Old
unfolding Found
returns-in-Old c =
    let v = c.args.store.now in let f = c.in-Old.ensures in
    record {
      same = refl;
      cut = record { at = refl; slots = refl; top = refl; long = refl };
      good = c.requires.good;
      added = record { grown = grown_refl v; given = is_old v.slots (table v) c.args.node c.in-Old.slot f.0 f.1 };
    }

pub returns-then-store-eq0 : goal.returns-then-store-eq0
unfolding Found
returns-then-store-eq0 c =
    let v = c.args.store.now in
    record {
      same = refl;
      cut = record { at = refl; slots = refl; top = refl; long = refl };
      good = c.requires.good;
      added = record { grown = grown_refl v; given = (refl, full_left v.slots (table v) v.left c.requires.good.left c.if-store-eq0.true) };
    }

pub returns-else-store-eq0 : goal.returns-else-store-eq0
unfolding Found
returns-else-store-eq0 c =
    let v = c.args.store.now in let x = c.args.node in let a = v.at in let n = v.slots in
    let w = c.fill.new.store in let e = c.fill.ensures in let f = e.filled in let fit = c.in-New.ensures in
    let g = good_put a n v.top v.left (v.left - 1) (mem v) (mem w) x c.in-New.slot c.count_of-count.result c.requires.good (let z = c.if-store-eq0.false in omega arith) c.requires.proper fit f c.count_of-count.ensures in
    let u = e.fixed in
    record {
      same = e.same;
      cut = record { at = u.at; slots = u.slots; top = u.top; long = u.long };
      good = good_eq u.at u.slots u.top (ap (λ (k : ℕ). k - 1) u.left) refl g;
      added = record {
        grown = record { front = f.front; grows = grows_put a n c.in-New.slot x c.count_of-count.result (mem v) (mem w) c.requires.good.sound c.requires.proper fit f };
        given = λ d s. subst (λ (k : ℕ). IsAt n (view k (mem w)) d c.in-New.slot (square_in (table v) d x)) (sym u.at)
            (is_here (put_of a n c.in-New.slot x c.count_of-count.result (mem v) (mem w) c.requires.good.sound c.requires.proper fit f) d s);
      };
    }

pub returns-in-Nowhere : goal.returns-in-Nowhere
unfolding Found
returns-in-Nowhere c =
    let v = c.args.store.now in
    record {
      same = refl;
      cut = record { at = refl; slots = refl; top = refl; long = refl };
      good = c.requires.good;
      added = record { grown = grown_refl v; given = (refl, full_all v.slots (table v) c.in-Nowhere.ensures) };
    }
