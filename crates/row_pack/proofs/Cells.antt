-- A context comes back from its cells, and the cells are small. Assumes nothing.
use mathlib.Core.Path.{◌≡◌, refl}
use mathlib.Core.Bool.{Bool, true, false}
use mathlib.Core.List.{List, [], ◌∷◌}
use Prim.Native.Nat.{ℕ, zero, suc, ◌+◌, ◌*◌, ◌/◌, ◌%◌, ◌^◌, ◌≤◌, ◌<◌}
use native.Mathlib.Omega.{arith}
use native.Mathlib.Nat.{zero-div, pow-suc}
use lib.Dec.{eqb}
use lib.ListN.{length, get_or}
use lib.Pow.{shr-shr}
use Rattle.bools.specs.Bits.{bit_of}
use Rattle.precedence.specs.declared.Precedence.{Precedence}
use Rattle.precedence.specs.declared.Precedence.TheVariants.{Jump, Assign, Range, Or, And, Let, Compare, BitOr, BitXor, BitAnd, Shift, Sum, Product, Cast, Prefix, Unambiguous}
use Rattle.precedence.specs.Precedences.{rank_of}
use borrow.Author.Tests.{eqb-true}
use Rattle.laws.specs.Choice.{pick, lookup}
use Rattle.laws.proofs.Choice.{true_of}
use Rattle.laws.proofs.Each.{all_at}
use Rattle.fixup.specs.declared.context.FixupContext.{FixupContext}
use Rattle.row_pack.specs.Cells.{of_bits, booleans, flags_of}
use Rattle.row_pack.specs.FromCells.{ranks, of_rank, bit_at, context_of}

-- ---- precedences

pub of_rank_lem : (p : Precedence) → of_rank (rank_of p) ≡ p
unfolding of_rank ranks lookup pick
of_rank_lem p = elim p as (λ p. of_rank (rank_of p) ≡ p) [
  | Jump ↦ refl
  | Assign ↦ refl
  | Range ↦ refl
  | Or ↦ refl
  | And ↦ refl
  | Let ↦ refl
  | Compare ↦ refl
  | BitOr ↦ refl
  | BitXor ↦ refl
  | BitAnd ↦ refl
  | Shift ↦ refl
  | Sum ↦ refl
  | Product ↦ refl
  | Cast ↦ refl
  | Prefix ↦ refl
  | Unambiguous ↦ refl
]

pub rank_bound : (p : Precedence) → rank_of p < 16
rank_bound p = elim p as (λ p. rank_of p < 16) [
  | Jump ↦ omega arith
  | Assign ↦ omega arith
  | Range ↦ omega arith
  | Or ↦ omega arith
  | And ↦ omega arith
  | Let ↦ omega arith
  | Compare ↦ omega arith
  | BitOr ↦ omega arith
  | BitXor ↦ omega arith
  | BitAnd ↦ omega arith
  | Shift ↦ omega arith
  | Sum ↦ omega arith
  | Product ↦ omega arith
  | Cast ↦ omega arith
  | Prefix ↦ omega arith
  | Unambiguous ↦ omega arith
]

-- and a rank from its precedence
pub rank_of_lem : (k : ℕ) → k < 16 → rank_of (of_rank k) ≡ k
unfolding of_rank ranks lookup pick
rank_of_lem k h = eqb-true _ _ (true_of (all_at (λ k. eqb (rank_of (of_rank k)) k) 16 tt k h))

-- ---- bits

bit_small : (b : Bool) → bit_of b ≤ 1
bit_small true = omega arith
bit_small false = omega arith

is_one : (b : Bool) → eqb (bit_of b) 1 ≡ b
is_one true = refl
is_one false = refl

-- bit k of the number with these bits is the k-th of them
pub bit_at_lem : (bits : List Bool) (k : ℕ) → bit_at k (of_bits bits) ≡ get_or bits k false
unfolding of_bits
bit_at_lem [] k = rw (zero-div (2 ^ k))
bit_at_lem (b ∷ bits) zero =
    let e : (bit_of b + 2 * of_bits bits) / 1 % 2 ≡ bit_of b = omega (arith, bit_small b) in
    rw e (is_one b)
bit_at_lem (b ∷ bits) (suc k) =
    let e : (bit_of b + 2 * of_bits bits) / 2 ≡ of_bits bits = omega (arith, bit_small b) in
    let s : suc k ≡ 1 + k = omega arith in
    rw s (rw (← shr-shr (bit_of b + 2 * of_bits bits) 1 k) (rw e (bit_at_lem bits k)))

pub bits_bound : (bits : List Bool) → of_bits bits < 2 ^ length bits
unfolding of_bits
bits_bound [] = omega arith
bits_bound (b ∷ bits) = omega (arith, bit_small b, bits_bound bits, pow-suc 2 (length bits))

-- ---- contexts

module _ (x : FixupContext) where
  pub flags_bound : flags_of x < 1024
  unfolding flags_of
  flags_bound = bits_bound (booleans x)

  pub context_flags : context_of (rank_of x.previous_operator) (rank_of x.next_operator) (flags_of x) ≡ x
  unfolding context_of flags_of
  context_flags = λ i. record {
    previous_operator = of_rank_lem x.previous_operator i;
    next_operator = of_rank_lem x.next_operator i;
    stmt = bit_at_lem (booleans x) 0 i;
    leftmost_subexpression_in_stmt = bit_at_lem (booleans x) 1 i;
    match_arm = bit_at_lem (booleans x) 2 i;
    leftmost_subexpression_in_match_arm = bit_at_lem (booleans x) 3 i;
    condition = bit_at_lem (booleans x) 4 i;
    rightmost_subexpression_in_condition = bit_at_lem (booleans x) 5 i;
    leftmost_subexpression_in_optional_operand = bit_at_lem (booleans x) 6 i;
    next_operator_can_begin_expr = bit_at_lem (booleans x) 7 i;
    next_operator_can_continue_expr = bit_at_lem (booleans x) 8 i;
    next_operator_can_begin_generics = bit_at_lem (booleans x) 9 i;
  }

-- the bit of a number that is 0 or 1
pub bit_of_lem : (n : ℕ) → bit_of (eqb (n % 2) 1) ≡ n % 2
bit_of_lem n = go (n % 2) (omega arith)
  where
    go : (m : ℕ) → m < 2 → bit_of (eqb m 1) ≡ m
    go zero h = refl
    go (suc zero) h = refl
    go (suc (suc m)) h = absurd (omega arith)

-- ten flags come back from their context
digit : (n m : ℕ) → n / 2 ≡ m → n % 2 + 2 * m ≡ n
digit n m e = omega arith

pub flags_of_lem : (previous next flags : ℕ) → flags < 1024 → flags_of (context_of previous next flags) ≡ flags
unfolding context_of flags_of of_bits
flags_of_lem previous next flags h =
    rw (bit_of_lem (flags / 1), bit_of_lem (flags / 2), bit_of_lem (flags / 4), bit_of_lem (flags / 8), bit_of_lem (flags / 16), bit_of_lem (flags / 32), bit_of_lem (flags / 64), bit_of_lem (flags / 128), bit_of_lem (flags / 256), bit_of_lem (flags / 512))
    (rw (
      digit (flags / 512) 0 (omega arith),
      digit (flags / 256) (flags / 512) (shr-shr flags 8 1),
      digit (flags / 128) (flags / 256) (shr-shr flags 7 1),
      digit (flags / 64) (flags / 128) (shr-shr flags 6 1),
      digit (flags / 32) (flags / 64) (shr-shr flags 5 1),
      digit (flags / 16) (flags / 32) (shr-shr flags 4 1),
      digit (flags / 8) (flags / 16) (shr-shr flags 3 1),
      digit (flags / 4) (flags / 8) (shr-shr flags 2 1),
      digit (flags / 2) (flags / 4) (shr-shr flags 1 1),
    )
    (omega arith))
