-- A slot filled with a node.
use Rattle.std.proofs.Common.{◌≡◌, ℕ, ◌+◌, ◌*◌, ◌/◌, ◌%◌, ◌^◌, ◌<◌, List, length, ◌∙◌, arith}
use Rattle.nodes.specs.declared.Node.{Node}
use Rattle.nodes.specs.Memory.{base, word}
use Rattle.nodes.proofs.Memory.{put, put_long, put_here, put_field, put_slot, put_front, front_trans}
use Rattle.probe.specs.Places.{Filled}

pub filled : (a s : ℕ) (x : Node) (count : ℕ) (m : List ℕ) → base a + 7 * s + 6 < length m →
    Filled a s x count m
    (put a (put a (put a (put a (put a (put a (put a m s 0 x.state) s 1 x.upper) s 2 x.lower) s 3 0) s 4 0) s 5 (count % 2 ^ 64)) s 6 (count / 2 ^ 64))
filled a s x count m h =
    let m1 = put a m s 0 x.state in let m2 = put a m1 s 1 x.upper in let m3 = put a m2 s 2 x.lower in
    let m4 = put a m3 s 3 0 in let m5 = put a m4 s 4 0 in let m6 = put a m5 s 5 (count % 2 ^ 64) in let m7 = put a m6 s 6 (count / 2 ^ 64) in
    let l1 = put_long a m s 0 x.state in let l2 = put_long a m1 s 1 x.upper ∙ l1 in let l3 = put_long a m2 s 2 x.lower ∙ l2 in
    let l4 = put_long a m3 s 3 0 ∙ l3 in let l5 = put_long a m4 s 4 0 ∙ l4 in let l6 = put_long a m5 s 5 (count % 2 ^ 64) ∙ l5 in
    let k1 : (g : ℕ) → g < 1 → word a m2 s g ≡ word a m1 s g = λ g l. put_field a m1 s 1 x.upper s g (omega arith) (omega arith) (λ e. omega arith) in
    let k2 : (g : ℕ) → g < 2 → word a m3 s g ≡ word a m2 s g = λ g l. put_field a m2 s 2 x.lower s g (omega arith) (omega arith) (λ e. omega arith) in
    let k3 : (g : ℕ) → g < 3 → word a m4 s g ≡ word a m3 s g = λ g l. put_field a m3 s 3 0 s g (omega arith) (omega arith) (λ e. omega arith) in
    let k4 : (g : ℕ) → g < 4 → word a m5 s g ≡ word a m4 s g = λ g l. put_field a m4 s 4 0 s g (omega arith) (omega arith) (λ e. omega arith) in
    let k5 : (g : ℕ) → g < 5 → word a m6 s g ≡ word a m5 s g = λ g l. put_field a m5 s 5 (count % 2 ^ 64) s g (omega arith) (omega arith) (λ e. omega arith) in
    let k6 : (g : ℕ) → g < 6 → word a m7 s g ≡ word a m6 s g = λ g l. put_field a m6 s 6 (count / 2 ^ 64) s g (omega arith) (omega arith) (λ e. omega arith) in
    let low : word a m7 s 5 ≡ count % 2 ^ 64 = k6 5 (omega arith) ∙ put_here a m5 s 5 (count % 2 ^ 64) (omega arith) in
    let high : word a m7 s 6 ≡ count / 2 ^ 64 = put_here a m6 s 6 (count / 2 ^ 64) (omega arith) in
    record {
      front = front_trans (put_front a m s 0 x.state) (front_trans (put_front a m1 s 1 x.upper) (front_trans (put_front a m2 s 2 x.lower) (front_trans (put_front a m3 s 3 0)
          (front_trans (put_front a m4 s 4 0) (front_trans (put_front a m5 s 5 (count % 2 ^ 64)) (put_front a m6 s 6 (count / 2 ^ 64)))))));
      beside = λ j f l ne.
          let o : (u : List ℕ) (g y : ℕ) → g < 7 → word a (put a u s g y) j f ≡ word a u j f = λ u g y q. put_slot a u s g y j f q l ne in
          o m6 6 (count / 2 ^ 64) (omega arith) ∙ o m5 5 (count % 2 ^ 64) (omega arith) ∙ o m4 4 0 (omega arith) ∙ o m3 3 0 (omega arith) ∙ o m2 2 x.lower (omega arith) ∙
          o m1 1 x.upper (omega arith) ∙ o m 0 x.state (omega arith);
      tagged = k6 0 (omega arith) ∙ k5 0 (omega arith) ∙ k4 0 (omega arith) ∙ k3 0 (omega arith) ∙ k2 0 (omega arith) ∙ k1 0 (omega arith) ∙ put_here a m s 0 x.state (omega arith);
      upper = k6 1 (omega arith) ∙ k5 1 (omega arith) ∙ k4 1 (omega arith) ∙ k3 1 (omega arith) ∙ k2 1 (omega arith) ∙ put_here a m1 s 1 x.upper (omega arith);
      lower = k6 2 (omega arith) ∙ k5 2 (omega arith) ∙ k4 2 (omega arith) ∙ k3 2 (omega arith) ∙ put_here a m2 s 2 x.lower (omega arith);
      leap = k6 3 (omega arith) ∙ k5 3 (omega arith) ∙ k4 3 (omega arith) ∙ put_here a m3 s 3 0 (omega arith);
      further = k6 4 (omega arith) ∙ k5 4 (omega arith) ∙ put_here a m4 s 4 0 (omega arith);
      counts = omega arith;
    }
