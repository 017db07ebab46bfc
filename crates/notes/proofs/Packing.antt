-- Notes in words: what is packed is read again, and a stamp tells its rule.
use Rattle.std.proofs.Common.{◌≡◌, ℕ, suc, ◌+◌, ◌/◌, ◌%◌, ◌^◌, ◌<◌, ◌≤◌, Bool, true, false, cond, ◌&&◌, T, eqb, Some, None, Option, refl, arith}
use Rattle.std.proofs.lemmas.Bool.{eq-eqb}
use Rattle.std.proofs.lemmas.Bool.Decides.{nat_tests}
use Rattle.model.specs.Rules.{good_rule, rule_of}
use Rattle.rules.specs.declared.Rule.{Rule}
use Rattle.rules.specs.Laws.{law}
use Rattle.rules.proofs.Flags.{good_fits}
use Rattle.nodes.specs.Memory.{kind_of, target_of, stamp_of, stamped}
use Rattle.notes.specs.Noting.{stamp_for, note_for, field_for, recalled}

pub packed_kind : (r : Rule) (e l : ℕ) → e < 127 → kind_of (note_for r e l) ≡ suc e
packed_kind r e l h = omega arith

pub packed_target : (r : Rule) (e l : ℕ) → e < 127 → l < 2 ^ 26 → target_of (note_for r e l) ≡ l
packed_target r e l h b = omega arith

pub packed_stamp : (r : Rule) (e l : ℕ) → e < 127 → l < 2 ^ 26 → stamp_of (note_for r e l) ≡ stamp_for r
packed_stamp r e l h b = omega arith

pub stamp_law : (r : Rule) → T (good_rule (law r)) → stamped (stamp_for r) ≡ law r
stamp_law r g =
    let f = good_fits r.born r.stays g in
    let p : stamp_for r % 512 ≡ r.born = omega arith in let q : stamp_for r / 512 ≡ r.stays = omega arith in
    λ t. rule_of (p t) (q t)

-- the two words of notes
pub field_low : (e p : ℕ) → 3 ≤ field_for e p
field_low e p = grind (arith, nat_tests)

pub field_high : (e p : ℕ) → field_for e p ≤ 4
field_high e p = grind (arith, nat_tests)

pub recalled_some : (r : Rule) (e w : ℕ) → kind_of w ≡ e + 1 → stamp_of w ≡ stamp_for r → recalled r e w ≡ Some (target_of w)
recalled_some r e w p q = rw (eq-eqb (kind_of w), eq-eqb (stamp_of w))

-- what a note has to say to be used
pub record Serves (r : Rule) (e w l : ℕ) : Type 0 where
  pub kind : kind_of w ≡ suc e
  pub stamp : stamp_of w ≡ stamp_for r
  pub target : target_of w ≡ l

pub recalled_serves : (r : Rule) (e w l : ℕ) → recalled r e w ≡ Some l → Serves r e w l
recalled_serves r e w l h = go (eqb (kind_of w) (e + 1)) (eqb (stamp_of w) (stamp_for r)) refl refl h
  where
    go : (p q : Bool) → eqb (kind_of w) (e + 1) ≡ p → eqb (stamp_of w) (stamp_for r) ≡ q → ◌≡◌ {A = Option ℕ} (cond (p && q) (Some (target_of w)) None) (Some l) → Serves r e w l
    go true true a b f = record { kind = grind (arith, nat_tests); stamp = grind (arith, nat_tests); target = cc }
    go true false a b f = absurd (let z : ◌≡◌ {A = ℕ} 0 1 = cc in omega arith)
    go false q a b f = absurd (let z : ◌≡◌ {A = ℕ} 0 1 = cc in omega arith)
