use Rattle.std.proofs.Common.{◌≡◌, ℕ, ◌+◌, ◌-◌, ◌<◌, ◌≤◌, Bool, pos, arith}
use Rattle.model.specs.Planes.{Plane}
use Rattle.leaf.specs.Words.{cell_in}
use Rattle.rules.specs.Laws.{law}
use Rattle.leaf.specs.Shown.{Shows16, after}
use Rattle.leaf.proofs.AsSquares.{is_leap}
use Rattle.leaf.proofs.Showing.{four, shows_across, shows_down, shows_middle, shows_cores, in_middle}
use Rattle.leaf.proofs.leap16.Goals as goal

pub returns : goal.returns
returns c =
    let right : (p : Plane Bool) → Shows16 c.args.four.nw c.args.four.ne c.args.four.sw c.args.four.se p → (x y : ℕ) → x < 8 → y < 8 → cell_in c.join_cores-5.result x y ≡ after (law c.args.rule) c.args.n p (pos (x + 4)) (pos (y + 4)) = λ p s.
    let q = four s in let r = law c.args.rule in let m = c.saturating_sub-first.result in let n = c.args.n - m in
    let p1 = after r m p in let little : m ≤ 2 = omega arith in let little2 : n ≤ 2 = omega arith in let f : 6 ≤ 8 - m = omega arith in let f2 : 6 ≤ 8 - n = omega arith in
    let e1 = c.between_across.ensures in let e2 = c.between_down.ensures in let e3 = c.middle.ensures in let e4 = c.between_down-2.ensures in let e5 = c.between_across-2.ensures in
    let one = c.advance.ensures r c.new-way.ensures in let two = c.advance-2.ensures r c.new-way.ensures in
    let north = (one 1 (omega arith)).shows p 4 0 (shows_across q.a q.b e1.left e1.right) in
    let west = (one 3 (omega arith)).shows p 0 4 (shows_down q.a q.c e2.upper e2.lower) in
    let centre = (one 4 (omega arith)).shows p 4 4 (shows_middle q.a q.b q.c q.d e3.nw e3.ne e3.sw e3.se) in
    let east = (one 5 (omega arith)).shows p 8 4 (shows_down q.b q.d e4.upper e4.lower) in
    let south = (one 7 (omega arith)).shows p 4 8 (shows_across q.c q.d e5.left e5.right) in
    let nw = (one 0 (omega arith)).shows p 0 0 q.a in let ne = (one 2 (omega arith)).shows p 8 0 q.b in
    let sw = (one 6 (omega arith)).shows p 0 8 q.c in let se = (one 8 (omega arith)).shows p 8 8 q.d in
    let g1 = c.join_cores.ensures in let g2 = c.join_cores-2.ensures in let g3 = c.join_cores-3.ensures in let g4 = c.join_cores-4.ensures in let g5 = c.join_cores-5.ensures in
    let a = (two 0 (omega arith)).shows p1 2 2 (shows_cores little f nw north west centre g1.nw g1.ne g1.sw g1.se) in
    let b = (two 1 (omega arith)).shows p1 6 2 (shows_cores little f north ne centre east g2.nw g2.ne g2.sw g2.se) in
    let d = (two 2 (omega arith)).shows p1 2 6 (shows_cores little f west centre sw south g3.nw g3.ne g3.sw g3.se) in
    let h = (two 3 (omega arith)).shows p1 6 6 (shows_cores little f centre east south se g4.nw g4.ne g4.sw g4.se) in
    in_middle r m n c.args.n _ p (shows_cores little2 f2 a b d h g5.nw g5.ne g5.sw g5.se) (omega arith) in
    record { leap = is_leap (law c.args.rule) c.args.four.nw c.args.four.ne c.args.four.sw c.args.four.se c.args.n c.join_cores-5.result right; plane = right }
