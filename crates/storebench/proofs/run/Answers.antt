use Rattle.std.proofs.Common.{◌≡◌, ◌*◌, ◌%◌, ◌^◌, ◌≤◌, length, ap, ◌∙◌, arith, rules, pow_mono}
use lib.ListN.{length-replicate}
use Rattle.storebench.proofs.run.Goals as goal

pub open-store-requires : goal.open-store-requires
open-store-requires c =
    let n = c.args.log in
    let e : length c.as_mut_slice.result.now ≡ 1 * 2 ^ n % 2 ^ 64 = ap length (c.as_mut_slice.ensures.value ∙ c.in_ok-words.ensures.items_if_clones_equal (λ y h. h)) ∙ length-replicate _ _ in
    let low : 12 ≤ n = search rules in let high : n ≤ 28 = search rules in
    let a : 2 ^ 12 ≤ 2 ^ n = pow_mono {i = 12} {j = n} low in let b : 2 ^ n ≤ 2 ^ 28 = pow_mono {i = n} {j = 28} high in
    (omega arith, omega arith)
