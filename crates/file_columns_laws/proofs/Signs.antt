-- The sign rule is one to one, and the distances of operands behind their owners are. Assumes nothing.
use mathlib.Core.Path.{◌≡◌, sym, ◌∙◌}
use mathlib.Core.Logic.{◌⊎◌, inl, inr}
use Prim.Native.Nat.{ℕ, ◌+◌, ◌%◌, ◌≤◌, ◌<◌}
use native.Mathlib.Omega.{arith}
use native.Mathlib.Decide.{dec_le, ℕ_discrete}
use Rattle.file_columns.specs.Columns.{held_difference, held_operand, rise, fall, restored_operand}
use Rattle.file_columns.proofs.Held.{held_up, held_down, even_moves, odd_moves, held_before, held_behind, restored_none, restored_some}
use Rattle.file_columns_laws.specs.Statement.{SignRule}

pub held_restored : (before number : ℕ) → number + fall (held_difference before number) ≡ before + rise (held_difference before number)
held_restored before number = go (dec_le before number)
  where
    go : Dec (before ≤ number) → number + fall (held_difference before number) ≡ before + rise (held_difference before number)
    go (yes h) =
        let e = held_up before number h in
        let m = even_moves (held_difference before number) (omega arith) in
        omega arith
    go (no h) =
        let e = held_down before number (omega arith) in
        let m = odd_moves (held_difference before number) (λ z. omega arith) in
        omega arith

pub held_again : (before number held : ℕ) → number + fall held ≡ before + rise held → held_difference before number ≡ held
held_again before number held e = go (ℕ_discrete (held % 2) 0)
  where
    go : Dec (held % 2 ≡ 0) → held_difference before number ≡ held
    go (yes z) =
        let m = even_moves held z in
        held_up before number (omega arith) ∙ omega arith
    go (no z) =
        let m = odd_moves held z in
        held_down before number (omega arith) ∙ omega arith

held_differs : (before one other : ℕ) → held_difference before one ≡ held_difference before other → one ≡ other
held_differs before one other e =
    let p = held_restored before one in
    let q = rw (← e) at (held_restored before other) in
    omega arith

pub sign_rule : SignRule
sign_rule = record { held_restored = held_restored; held_differs = held_differs; held_again = held_again }

-- ---- distances

pub operand_restored : (owner operand : ℕ) → (operand ≡ 0) ⊎ (owner < operand) → restored_operand owner (held_operand owner operand) ≡ operand
operand_restored owner operand (inl z) =
    let e = held_before owner operand (omega arith) in
    restored_none owner (held_operand owner operand) e ∙ sym z
operand_restored owner operand (inr h) =
    let e = held_behind owner operand h in
    restored_some owner (held_operand owner operand) (λ z. omega arith) ∙ omega arith

pub operand_again : (owner distance : ℕ) → 1 ≤ owner → held_operand owner (restored_operand owner distance) ≡ distance
operand_again owner distance low = go (ℕ_discrete distance 0)
  where
    go : Dec (distance ≡ 0) → held_operand owner (restored_operand owner distance) ≡ distance
    go (yes z) =
        let e = restored_none owner distance z in
        held_before owner (restored_operand owner distance) (omega arith) ∙ sym z
    go (no z) =
        let e = restored_some owner distance z in
        held_behind owner (restored_operand owner distance) (omega arith) ∙ omega arith
