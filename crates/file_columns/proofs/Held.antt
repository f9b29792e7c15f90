-- The sign rule and the distances, by their cases. Assumes nothing.
use mathlib.Core.Path.{◌≡◌, sym, ◌∙◌}
use mathlib.Core.Bool.{Bool, false, ◌||◌}
use Prim.Native.Nat.{ℕ, ◌+◌, ◌*◌, ◌-◌, ◌/◌, ◌%◌, ◌≤◌, ◌<◌}
use native.Mathlib.Omega.{arith}
use native.Mathlib.Decide.{dec_le, ℕ_discrete}
use lib.Dec.{ltb, leb}
use borrow.Author.Tests.{eq-eqb, ne_eqb, le-leb, lt-leb, lt-ltb, le-ltb, ltb-false}
use Rattle.laws.proofs.Choice.{pick_true, pick_false, or_false}
use Rattle.file_columns.specs.Columns.{held_difference, held_operand, rise, fall, restored_operand, most_restored}

-- ---- differences

pub held_up : (before number : ℕ) → before ≤ number → held_difference before number ≡ 2 * (number - before)
unfolding held_difference
held_up before number h = pick_true _ _ (le-leb before number h)

pub held_down : (before number : ℕ) → number < before → held_difference before number ≡ 2 * (before - number) - 1
unfolding held_difference
held_down before number h = pick_false _ _ (lt-leb before number h)

-- what is held adds, or it takes
pub even_moves : (held : ℕ) → held % 2 ≡ 0 → (rise held ≡ held / 2) × (fall held ≡ 0)
unfolding rise fall
even_moves held e = (pick_true _ _ (eq-eqb (held % 2) 0 e), pick_true _ _ (eq-eqb (held % 2) 0 e))

pub odd_moves : (held : ℕ) → (held % 2 ≡ 0 → ⊥) → (rise held ≡ 0) × (fall held ≡ (held + 1) / 2)
unfolding rise fall
odd_moves held e = (pick_false _ _ (ne_eqb (held % 2) 0 e), pick_false _ _ (ne_eqb (held % 2) 0 e))

-- a form that is moved is outside
abbrev pub moved_outside : ℕ → ℕ → Bool
moved_outside form held = ltb (form + rise held) (fall held) || ltb (fall held + most_restored) (form + rise held)

pub leaves_up : (form held : ℕ) → form ≤ most_restored → held % 2 ≡ 0 → ltb (most_restored - form) (held / 2) ≡ moved_outside form held
leaves_up form held h e = let m = even_moves held e in rw (m.0, m.1, le-ltb (form + held / 2) 0 (omega arith)) (go (dec_le (held / 2) (most_restored - form)))
  where
    go : Dec (held / 2 ≤ most_restored - form) → ltb (most_restored - form) (held / 2) ≡ ltb (0 + most_restored) (form + held / 2)
    go (yes l) = le-ltb (most_restored - form) (held / 2) l ∙ sym (le-ltb (0 + most_restored) (form + held / 2) (omega arith))
    go (no l) = lt-ltb (most_restored - form) (held / 2) (omega arith) ∙ sym (lt-ltb (0 + most_restored) (form + held / 2) (omega arith))

pub leaves_down : (form held : ℕ) → form ≤ most_restored → (held % 2 ≡ 0 → ⊥) → leb form (held / 2) ≡ moved_outside form held
leaves_down form held h e = let m = odd_moves held e in rw (m.0, m.1) (go (dec_le form (held / 2)))
  where
    go : Dec (form ≤ held / 2) → leb form (held / 2) ≡ (ltb (form + 0) ((held + 1) / 2) || ltb ((held + 1) / 2 + most_restored) (form + 0))
    go (yes l) = le-leb form (held / 2) l ∙ rw (lt-ltb (form + 0) ((held + 1) / 2) (omega arith))
    go (no l) = lt-leb form (held / 2) (omega arith) ∙ rw (le-ltb (form + 0) ((held + 1) / 2) (omega arith), le-ltb ((held + 1) / 2 + most_restored) (form + 0) (omega arith))

-- one that is not
pub stays_inside : (form held : ℕ) → moved_outside form held ≡ false → (fall held ≤ form + rise held) × (form + rise held ≤ fall held + most_restored)
stays_inside form held e =
    let d = or_false (ltb (form + rise held) (fall held)) _ e in
    (ltb-false (form + rise held) (fall held) d.0, ltb-false (fall held + most_restored) (form + rise held) d.1)

-- ---- distances

pub held_before : (owner operand : ℕ) → operand ≤ owner → held_operand owner operand ≡ 0
unfolding held_operand
held_before owner operand h = go (ℕ_discrete operand 0)
  where
    go : Dec (operand ≡ 0) → held_operand owner operand ≡ 0
    go (yes z) = pick_true _ _ (eq-eqb operand 0 z)
    go (no z) = pick_false _ _ (ne_eqb operand 0 z) ∙ omega arith

pub held_behind : (owner operand : ℕ) → owner < operand → held_operand owner operand ≡ operand - owner
unfolding held_operand
held_behind owner operand h = pick_false _ _ (ne_eqb operand 0 (λ z. omega arith))

pub restored_none : (owner distance : ℕ) → distance ≡ 0 → restored_operand owner distance ≡ 0
unfolding restored_operand
restored_none owner distance e = pick_true _ _ (eq-eqb distance 0 e)

pub restored_some : (owner distance : ℕ) → (distance ≡ 0 → ⊥) → restored_operand owner distance ≡ owner + distance
unfolding restored_operand
restored_some owner distance e = pick_false _ _ (ne_eqb distance 0 e)

pub far : (owner distance : ℕ) → owner ≤ most_restored → ltb (most_restored - owner) distance ≡ ltb most_restored (restored_operand owner distance)
far owner distance h = go (ℕ_discrete distance 0) (dec_le distance (most_restored - owner))
  where
    go : Dec (distance ≡ 0) → Dec (distance ≤ most_restored - owner) → ltb (most_restored - owner) distance ≡ ltb most_restored (restored_operand owner distance)
    go (yes z) d = le-ltb (most_restored - owner) distance (omega arith) ∙ sym (le-ltb most_restored (restored_operand owner distance) (let e = restored_none owner distance z in omega arith))
    go (no z) (yes l) = le-ltb (most_restored - owner) distance l ∙ sym (le-ltb most_restored (restored_operand owner distance) (let e = restored_some owner distance z in omega arith))
    go (no z) (no l) = lt-ltb (most_restored - owner) distance (omega arith) ∙ sym (lt-ltb most_restored (restored_operand owner distance) (let e = restored_some owner distance z in omega arith))
