-- `tree_one_pass::rows::row_of` meets its contract: each arm by one computed test. Assumes nothing.
use mathlib.Core.Path.{refl}
use mathlib.Core.Bool.{not, ◌&&◌}
use mathlib.Core.List.{[], ◌∷◌}
use Prim.Native.Nat.{ℕ}
use lib.Dec.{eqb}
use Rattle.laws.specs.Choice.{pick, lookup}
use Rattle.tree.specs.Forms.{class_of, highest_attributes, details, highest_detail}
use Rattle.tree_places.specs.Places.{first_places, first_place, second_places, second_place}
use Rattle.tree_one_pass.specs.Rows.{code_is, suits}
use Rattle.tree_one_pass.proofs.Arms.{each}
use Rattle.tree_one_pass.proofs.rows.row_of.Goals as goal

pub returns-in-1 : goal.returns-in-1
unfolding suits code_is first_place first_places second_place second_places lookup pick class_of highest_attributes highest_detail details
returns-in-1 c = λ h d. each (λ (f : ℕ). suits f d 9 && not (eqb f 10)) (1 ∷ 3 ∷ 11 ∷ 16 ∷ 18 ∷ 20 ∷ 23 ∷ 26 ∷ 30 ∷ 32 ∷ 34 ∷ 37 ∷ []) _ tt c.in-1.is

pub returns-in-12 : goal.returns-in-12
unfolding suits code_is first_place first_places second_place second_places lookup pick class_of highest_attributes highest_detail details
returns-in-12 c = λ h d. each (λ (f : ℕ). suits f d 9 && not (eqb f 10)) (12 ∷ 35 ∷ []) _ tt c.in-12.is

pub returns-in-6 : goal.returns-in-6
unfolding suits code_is first_place first_places second_place second_places lookup pick class_of highest_attributes highest_detail details
returns-in-6 c = λ h d. each (λ (f : ℕ). suits f d 1033 && not (eqb f 10)) (6 ∷ 14 ∷ 21 ∷ 39 ∷ []) _ tt c.in-6.is

pub returns-in-22 : goal.returns-in-22
unfolding suits code_is first_place first_places second_place second_places lookup pick class_of highest_attributes highest_detail details
returns-in-22 c = λ h d. each (λ (f : ℕ). suits f d 2057 && not (eqb f 10)) (22 ∷ []) _ tt c.in-22.is

pub returns-in-38 : goal.returns-in-38
unfolding suits code_is first_place first_places second_place second_places lookup pick class_of highest_attributes highest_detail details
returns-in-38 c = λ h d. each (λ (f : ℕ). suits f d 1025 && not (eqb f 10)) (38 ∷ []) _ tt c.in-38.is

pub returns-in-4 : goal.returns-in-4
unfolding suits code_is first_place first_places second_place second_places lookup pick class_of highest_attributes highest_detail details
returns-in-4 c = λ h d. each (λ (f : ℕ). suits f d 25 && not (eqb f 10)) (4 ∷ 15 ∷ 19 ∷ 25 ∷ 33 ∷ []) _ tt c.in-4.is

pub returns-in-13 : goal.returns-in-13
unfolding suits code_is first_place first_places second_place second_places lookup pick class_of highest_attributes highest_detail details
returns-in-13 c = λ h d. each (λ (f : ℕ). suits f d 1049 && not (eqb f 10)) (13 ∷ 28 ∷ []) _ tt c.in-13.is

pub returns-in-29 : goal.returns-in-29
unfolding suits code_is first_place first_places second_place second_places lookup pick class_of highest_attributes highest_detail details
returns-in-29 c = λ h d. each (λ (f : ℕ). suits f d 1049 && not (eqb f 10)) (29 ∷ []) _ tt c.in-29.is

pub returns-in-36 : goal.returns-in-36
unfolding suits code_is first_place first_places second_place second_places lookup pick class_of highest_attributes highest_detail details
returns-in-36 c = λ h d. each (λ (f : ℕ). suits f d 2073 && not (eqb f 10)) (36 ∷ []) _ tt c.in-36.is

pub returns-in-2 : goal.returns-in-2
unfolding suits code_is first_place first_places second_place second_places lookup pick class_of highest_attributes highest_detail details
returns-in-2 c = λ h d. each (λ (f : ℕ). suits f d 153 && not (eqb f 10)) (2 ∷ 17 ∷ []) _ tt c.in-2.is

pub returns-in-5 : goal.returns-in-5
unfolding suits code_is first_place first_places second_place second_places lookup pick class_of highest_attributes highest_detail details
returns-in-5 c = λ h d. each (λ (f : ℕ). suits f d 27801 && not (eqb f 10)) (5 ∷ []) _ tt c.in-5.is

pub returns-in-9 : goal.returns-in-9
unfolding suits code_is first_place first_places second_place second_places lookup pick class_of highest_attributes highest_detail details
returns-in-9 c = λ h d. each (λ (f : ℕ). suits f d 281 && not (eqb f 10)) (9 ∷ []) _ tt c.in-9.is

pub returns-in-31 : goal.returns-in-31
unfolding suits code_is first_place first_places second_place second_places lookup pick class_of highest_attributes highest_detail details
returns-in-31 c = λ h d. each (λ (f : ℕ). suits f d 57 && not (eqb f 10)) (31 ∷ 40 ∷ []) _ tt c.in-31.is

pub returns-in-7 : goal.returns-in-7
unfolding suits code_is first_place first_places second_place second_places lookup pick class_of highest_attributes highest_detail details
returns-in-7 c = λ h d. each (λ (f : ℕ). suits f d 1081 && not (eqb f 10)) (7 ∷ []) _ tt c.in-7.is

pub returns-in-27 : goal.returns-in-27
unfolding suits code_is first_place first_places second_place second_places lookup pick class_of highest_attributes highest_detail details
returns-in-27 c = λ h d. each (λ (f : ℕ). suits f d 1465 && not (eqb f 10)) (27 ∷ []) _ tt c.in-27.is

pub returns-in-8 : goal.returns-in-8
unfolding suits code_is first_place first_places second_place second_places lookup pick class_of highest_attributes highest_detail details
returns-in-8 c = λ h d. each (λ (f : ℕ). suits f d 665 && not (eqb f 10)) (8 ∷ 24 ∷ []) _ tt c.in-8.is

pub returns-in-41 : goal.returns-in-41
unfolding suits code_is first_place first_places second_place second_places lookup pick class_of highest_attributes highest_detail details
returns-in-41 c = λ h d. each (λ (f : ℕ). suits f d 2 && not (eqb f 10)) (41 ∷ 43 ∷ 45 ∷ 47 ∷ 52 ∷ 54 ∷ []) _ tt c.in-41.is

pub returns-in-48 : goal.returns-in-48
unfolding suits code_is first_place first_places second_place second_places lookup pick class_of highest_attributes highest_detail details
returns-in-48 c = λ h d. each (λ (f : ℕ). suits f d 2 && not (eqb f 10)) (48 ∷ []) _ tt c.in-48.is

pub returns-in-46 : goal.returns-in-46
unfolding suits code_is first_place first_places second_place second_places lookup pick class_of highest_attributes highest_detail details
returns-in-46 c = λ h d. each (λ (f : ℕ). suits f d 2050 && not (eqb f 10)) (46 ∷ []) _ tt c.in-46.is

pub returns-in-55 : goal.returns-in-55
unfolding suits code_is first_place first_places second_place second_places lookup pick class_of highest_attributes highest_detail details
returns-in-55 c = λ h d. each (λ (f : ℕ). suits f d 1026 && not (eqb f 10)) (55 ∷ []) _ tt c.in-55.is

pub returns-in-50 : goal.returns-in-50
unfolding suits code_is first_place first_places second_place second_places lookup pick class_of highest_attributes highest_detail details
returns-in-50 c = λ h d. each (λ (f : ℕ). suits f d 1058 && not (eqb f 10)) (50 ∷ []) _ tt c.in-50.is

pub returns-in-51 : goal.returns-in-51
unfolding suits code_is first_place first_places second_place second_places lookup pick class_of highest_attributes highest_detail details
returns-in-51 c = λ h d. each (λ (f : ℕ). suits f d 1058 && not (eqb f 10)) (51 ∷ []) _ tt c.in-51.is

pub returns-in-42 : goal.returns-in-42
unfolding suits code_is first_place first_places second_place second_places lookup pick class_of highest_attributes highest_detail details
returns-in-42 c = λ h d. each (λ (f : ℕ). suits f d 66 && not (eqb f 10)) (42 ∷ []) _ tt c.in-42.is

pub returns-in-56 : goal.returns-in-56
unfolding suits code_is first_place first_places second_place second_places lookup pick class_of highest_attributes highest_detail details
returns-in-56 c = λ h d. each (λ (f : ℕ). suits f d 115 && not (eqb f 10)) (56 ∷ []) _ tt c.in-56.is
