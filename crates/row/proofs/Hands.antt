-- What an owner hands down comes back from its number. Assumes nothing.
use mathlib.Core.Path.{◌≡◌, refl, sym, ◌∙◌}
use mathlib.Core.Bool.{Bool, true, false}
use Prim.Native.Nat.{ℕ, ◌+◌, ◌*◌, ◌/◌, ◌%◌, ◌≤◌, ◌<◌}
use native.Mathlib.Omega.{arith}
use lib.Dec.{eqb}
use Rattle.bools.specs.Bits.{bit_of}
use Rattle.precedence.specs.Precedences.{rank_of}
use Rattle.fixup.specs.declared.context.FixupContext.{FixupContext}
use Rattle.expr.specs.declared.Handed.{Handed}
use Rattle.row_pack.specs.FromCells.{of_rank, context_of}
use Rattle.row_pack.specs.Packs.{packed_of, unpacked_of}
use Rattle.row_pack.proofs.Cells.{of_rank_lem, rank_bound, rank_of_lem, flags_bound, flags_of_lem}
use Rattle.row_pack.proofs.Packs.{unpacks, packs}
use Rattle.row.specs.declared.Row.{Row}
use Rattle.row.specs.Rows.{row_by}
use Rattle.row.specs.Hands.{context_numbers, group_bit, hand_of, handed_of}
use Rattle.row.proofs.Decisions.{equal_rows}

-- a context's number has eighteen bits
pub packed_bound : (x : FixupContext) → packed_of x < context_numbers
unfolding packed_of
packed_bound x =
    let p = rank_bound x.previous_operator in
    let n = rank_bound x.next_operator in
    let f = flags_bound x in
    omega arith

bit_small : (b : Bool) → bit_of b ≤ 1
bit_small true = omega arith
bit_small false = omega arith

is_one : (b : Bool) → eqb (bit_of b) 1 ≡ b
is_one true = refl
is_one false = refl

-- only the context's bits count for it
pub context_bits : (m k : ℕ) → m < context_numbers → unpacked_of (m + context_numbers * k) ≡ unpacked_of m
unfolding unpacked_of
context_bits m k h =
    let ep : (m + context_numbers * k) % 16 ≡ m % 16 = omega arith in
    let dn : (m + context_numbers * k) / 16 ≡ m / 16 + 16384 * k = omega arith in
    let en : (m + context_numbers * k) / 16 % 16 ≡ m / 16 % 16 = rw dn (omega arith) in
    let df : (m + context_numbers * k) / 256 ≡ m / 256 + 1024 * k = omega arith in
    let ef : (m + context_numbers * k) / 256 % 1024 ≡ m / 256 % 1024 = rw df (omega arith) in
    rw (ep, en, ef)

pub handed_back : (h : Handed) → handed_of (hand_of h) ≡ h
unfolding hand_of handed_of
handed_back h = λ i. record { precedence = precedence_back i; fixup = fixup_back i; needs_group = group_back i }
  where
    m : ℕ
    m = packed_of h.fixup

    r : ℕ
    r = rank_of h.precedence

    g : ℕ
    g = bit_of h.needs_group

    precedence_back : of_rank ((m + context_numbers * r + group_bit * g) / context_numbers % 16) ≡ h.precedence
    precedence_back =
        let b = packed_bound h.fixup in
        let s = rank_bound h.precedence in
        let d : (m + context_numbers * r + group_bit * g) / context_numbers ≡ r + 16 * g = omega arith in
        let e : (m + context_numbers * r + group_bit * g) / context_numbers % 16 ≡ r = rw d (omega arith) in
        rw e (of_rank_lem h.precedence)

    fixup_back : unpacked_of (m + context_numbers * r + group_bit * g) ≡ h.fixup
    fixup_back =
        let e : m + context_numbers * r + group_bit * g ≡ m + context_numbers * (r + 16 * g) = omega arith in
        rw e (context_bits m (r + 16 * g) (packed_bound h.fixup) ∙ unpacks h.fixup)

    group_back : eqb ((m + context_numbers * r + group_bit * g) / group_bit % 2) 1 ≡ h.needs_group
    group_back =
        let b = packed_bound h.fixup in
        let s = rank_bound h.precedence in
        let o = bit_small h.needs_group in
        let d : (m + context_numbers * r + group_bit * g) / group_bit ≡ g = omega arith in
        let e : (m + context_numbers * r + group_bit * g) / group_bit % 2 ≡ g = rw d (omega arith) in
        rw e (is_one h.needs_group)

-- the cells of a row are digits of the number
pub hand_row : (pair n : ℕ)
    → ◌≡◌ {A = Row} (record { pair = pair; precedence = n / context_numbers % 16; previous = n % 16; next = n / 16 % 16; flags = n / 256 % 1024 }) (row_by pair (handed_of n).precedence (handed_of n).fixup)
unfolding handed_of unpacked_of context_of
hand_row pair n = equal_rows (sym (rank_of_lem _ (omega arith))) (sym (rank_of_lem _ (omega arith))) (sym (rank_of_lem _ (omega arith))) (sym (flags_of_lem (n % 16) (n / 16 % 16) (n / 256 % 1024) (omega arith)))

-- and its context's number
pub hand_context : (n : ℕ) → n % context_numbers ≡ packed_of (handed_of n).fixup
unfolding handed_of
hand_context n = sym (packs n)
