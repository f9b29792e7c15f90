-- Laws of numbers put into a buffer. Assumes nothing.
use mathlib.Core.Path.{◌≡◌, refl, sym, ◌∙◌}
use mathlib.Core.List.{List, [], ◌∷◌, ◌++◌}
use Prim.Native.Nat.{ℕ, ◌+◌, ◌≤◌}
use native.Mathlib.Omega.{arith}
use native.Mathlib.Numerals.{towards_suc}
use lib.ListN.{length, set, length-append, length-set}
use Rattle.laws.specs.Lists.{over}
use Rattle.laws.specs.Puts.{Put}
use Rattle.laws.proofs.Lists.{sets_append, sets_over}

pub put_none : (before : List ℕ) (at : ℕ) → Put before at [] before at
put_none before at = record { cells = refl; ends = omega arith; room = refl }

-- one, two or three numbers
pub put_one : (before : List ℕ) (at a : ℕ) → Put before at (a ∷ []) (set before at a) (at + 1)
put_one before at a = record { cells = refl; ends = refl; room = simp length-set }

pub put_two : (before : List ℕ) (at a b : ℕ) → Put before at (a ∷ b ∷ []) (set (set before at a) (at + 1) b) (at + 2)
put_two before at a b = record { cells = simp towards_suc; ends = refl; room = simp length-set }

pub put_three : (before : List ℕ) (at a b c : ℕ) → Put before at (a ∷ b ∷ c ∷ []) (set (set (set before at a) (at + 1) b) (at + 2) c) (at + 3)
put_three before at a b c = record { cells = simp towards_suc; ends = refl; room = simp length-set }

-- and then more
pub put_more : {before after last : List ℕ} {at mid next : ℕ} {first second : List ℕ} → Put before at first after mid → Put after mid second last next → Put before at (first ++ second) last next
put_more {before} {after} {last} {at} {mid} {next} {first} {second} p q =
    record {
      cells = q.cells ∙ rw p.cells (sym (sets_append first second before at mid p.ends));
      ends = rw length-append (omega (arith, p.ends, q.ends));
      room = q.room ∙ p.room;
    }

-- from the first cell on
pub put_over : {before numbers after : List ℕ} {next : ℕ} → Put before 0 numbers after next → length numbers ≤ length before → after ≡ over numbers before
put_over {before} {numbers} p h = p.cells ∙ sets_over numbers before h
