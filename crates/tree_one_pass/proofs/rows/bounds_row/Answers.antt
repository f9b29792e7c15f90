-- `tree_one_pass::rows::bounds_row` meets its contract. Assumes nothing.
use mathlib.Core.Path.{refl}
use mathlib.Core.Bool.{◌&&◌}
use mathlib.Core.List.{[], ◌∷◌}
use Prim.Native.Nat.{ℕ}
use Rattle.laws.specs.Choice.{pick, lookup}
use Rattle.tree.specs.Forms.{class_of, highest_attributes, details, highest_detail}
use Rattle.tree_places.specs.Places.{first_places, first_place, second_places, second_place}
use Rattle.tree_one_pass.specs.Rows.{code_is, suits}
use Rattle.tree_one_pass.proofs.Arms.{each}
use Rattle.tree_one_pass.proofs.rows.bounds_row.Goals as goal

pub returns-in-1 : goal.returns-in-1
unfolding suits code_is first_place first_places second_place second_places lookup pick class_of highest_attributes highest_detail details
returns-in-1 c = λ h. each (λ (d : ℕ). suits 44 d 7170 && suits 53 d 7170) (1 ∷ 4 ∷ 6 ∷ []) _ tt c.in-1.is

pub returns-in-2 : goal.returns-in-2
unfolding suits code_is first_place first_places second_place second_places lookup pick class_of highest_attributes highest_detail details
returns-in-2 c = λ h. each (λ (d : ℕ). suits 44 d 7170 && suits 53 d 7170) (2 ∷ 5 ∷ 7 ∷ []) _ tt c.in-2.is

pub returns-in-3 : goal.returns-in-3
unfolding suits code_is first_place first_places second_place second_places lookup pick class_of highest_attributes highest_detail details
returns-in-3 c = λ h. each (λ (d : ℕ). suits 44 d 7234 && suits 53 d 7234) (3 ∷ []) _ tt c.in-3.is
