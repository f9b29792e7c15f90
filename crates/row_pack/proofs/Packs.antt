-- A context comes back from its number. Assumes nothing.
use mathlib.Core.Path.{◌≡◌, refl}
use Prim.Native.Nat.{ℕ, ◌+◌, ◌*◌, ◌/◌, ◌%◌}
use native.Mathlib.Omega.{arith}
use Rattle.precedence.specs.Precedences.{rank_of}
use Rattle.fixup.specs.declared.context.FixupContext.{FixupContext}
use Rattle.fixup.specs.Contexts.{none_context}
use Rattle.row_pack.specs.Cells.{of_bits, flags_of}
use Rattle.row_pack.specs.FromCells.{context_of}
use Rattle.row_pack.specs.Packs.{packed_of, unpacked_of}
use Rattle.row_pack.proofs.Cells.{rank_bound, rank_of_lem, flags_bound, context_flags, flags_of_lem}

pub unpacks : (x : FixupContext) → unpacked_of (packed_of x) ≡ x
unfolding packed_of unpacked_of
unpacks x =
    let p = rank_bound x.previous_operator in
    let n = rank_bound x.next_operator in
    let f = flags_bound x in
    let whole = rank_of x.previous_operator + 16 * rank_of x.next_operator + 256 * flags_of x in
    let ep : whole % 16 ≡ rank_of x.previous_operator = omega arith in
    let dn : whole / 16 ≡ rank_of x.next_operator + 16 * flags_of x = omega arith in
    let df : whole / 256 ≡ flags_of x = omega arith in
    let en : whole / 16 % 16 ≡ rank_of x.next_operator = rw dn (omega arith) in
    let ef : whole / 256 % 1024 ≡ flags_of x = rw df (omega arith) in
    rw (ep, en, ef) (context_flags x)

pub none_packed : packed_of none_context ≡ 0
unfolding packed_of flags_of of_bits
none_packed = refl

-- and a number of eighteen bits from its context
pub packs : (n : ℕ) → packed_of (unpacked_of n) ≡ n % 262144
unfolding packed_of unpacked_of context_of
packs n =
    let f = flags_of_lem (n % 16) (n / 16 % 16) (n / 256 % 1024) (omega arith) in
    let d : n / 16 / 16 ≡ n / 256 = omega arith in
    let e : n / 16 ≡ n / 16 % 16 + 16 * (n / 256) = omega arith in
    rw (rank_of_lem (n % 16) (omega arith), rank_of_lem (n / 16 % 16) (omega arith), f) (omega arith)
