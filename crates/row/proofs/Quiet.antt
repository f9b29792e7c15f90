-- Contexts without the flags that parenthesize looks at, or that an owner moves about. Assumes nothing.
use mathlib.Core.Path.{◌≡◌, refl, sym, ◌∙◌}
use mathlib.Core.Bool.{Bool, true, false}
use Prim.Native.Nat.{ℕ, ◌/◌, ◌%◌, ◌^◌, ◌<◌}
use native.Mathlib.Omega.{arith}
use lib.Dec.{eqb}
use borrow.Author.Tests.{eq-eqb, ne_eqb, not-true}
use Rattle.laws.proofs.Choice.{true_not_false, or_false}
use Rattle.tree.specs.Trees.{Tree}
use Rattle.fixup.specs.declared.context.FixupContext.{FixupContext}
use Rattle.fixup.specs.Fixup.{parenthesize}
use Rattle.row_pack.specs.Cells.{of_bits, flags_of}
use Rattle.row_pack.specs.FromCells.{bit_at, context_of}
use Rattle.row_pack.specs.Packs.{unpacked_of}
use Rattle.row_pack.proofs.Cells.{flags_of_lem}
use Rattle.row.specs.Hands.{is_quiet}

pub record Quiet (x : FixupContext) : Type 0 where
  pub no_stmt : x.stmt ≡ false
  pub no_leftmost_stmt : x.leftmost_subexpression_in_stmt ≡ false
  pub no_match_arm : x.match_arm ≡ false
  pub no_leftmost_match_arm : x.leftmost_subexpression_in_match_arm ≡ false
  pub no_condition : x.condition ≡ false
  pub no_rightmost_condition : x.rightmost_subexpression_in_condition ≡ false
  pub no_leftmost_optional : x.leftmost_subexpression_in_optional_operand ≡ false

pub quiet : (x : FixupContext) → is_quiet x ≡ true → Quiet x
unfolding is_quiet
quiet x e =
    let a = or_false x.stmt _ (not-true _ e) in
    let b = or_false x.leftmost_subexpression_in_stmt _ a.1 in
    let c = or_false x.match_arm _ b.1 in
    let d = or_false x.leftmost_subexpression_in_match_arm _ c.1 in
    let f = or_false x.condition _ d.1 in
    let g = or_false x.rightmost_subexpression_in_condition _ f.1 in
    record {
      no_stmt = a.0;
      no_leftmost_stmt = b.0;
      no_match_arm = c.0;
      no_leftmost_match_arm = d.0;
      no_condition = f.0;
      no_rightmost_condition = g.0;
      no_leftmost_optional = g.1;
    }

-- ---- and as a number: bits 0 to 6 of its flags

no_bit : (k flags : ℕ) → flags / 2 ^ k % 2 ≡ 0 → bit_at k flags ≡ false
no_bit k flags e = rw e

flags_low : (x : FixupContext) → Quiet x → flags_of x % 2 ^ 7 ≡ 0
unfolding flags_of of_bits
flags_low x q =
    rw (q.no_stmt, q.no_leftmost_stmt, q.no_match_arm, q.no_leftmost_match_arm, q.no_condition, q.no_rightmost_condition, q.no_leftmost_optional) (omega arith)

module _ (previous next flags : ℕ) where
  quiet_bits : flags % 2 ^ 7 ≡ 0 → is_quiet (context_of previous next flags) ≡ true
  unfolding is_quiet context_of
  quiet_bits low =
      rw (
        no_bit 0 flags (omega arith),
        no_bit 1 flags (omega arith),
        no_bit 2 flags (omega arith),
        no_bit 3 flags (omega arith),
        no_bit 4 flags (omega arith),
        no_bit 5 flags (omega arith),
        no_bit 6 flags (omega arith),
      )

  bits_quiet : flags < 1024 → Quiet (context_of previous next flags) → flags % 2 ^ 7 ≡ 0
  bits_quiet h q = omega (arith, flags_of_lem previous next flags h, flags_low (context_of previous next flags) q)

pub quiet_number : (n : ℕ) → eqb (n / 256 % 2 ^ 7) 0 ≡ is_quiet (unpacked_of n)
unfolding unpacked_of
quiet_number n = go _ refl
  where
    own : ℕ
    own = n / 256 % 1024

    go : (b : Bool) → is_quiet (context_of (n % 16) (n / 16 % 16) own) ≡ b → eqb (n / 256 % 2 ^ 7) 0 ≡ b
    go true e = let z = bits_quiet (n % 16) (n / 16 % 16) own (omega arith) (quiet _ e) in eq-eqb (n / 256 % 2 ^ 7) 0 (omega arith)
    go false e = ne_eqb _ _ (λ (z : n / 256 % 2 ^ 7 ≡ 0). true_not_false (sym (quiet_bits (n % 16) (n / 16 % 16) own (omega (arith, z))) ∙ e))

pub no_parentheses : (x : FixupContext) → Quiet x → (t : Tree) → parenthesize x t ≡ false
unfolding parenthesize
no_parentheses x q t = rw (q.no_stmt, q.no_leftmost_stmt, q.no_leftmost_match_arm, q.no_condition, q.no_rightmost_condition, q.no_leftmost_optional)
