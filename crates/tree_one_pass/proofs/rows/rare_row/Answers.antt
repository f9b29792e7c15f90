-- `tree_one_pass::rows::rare_row` meets its contract. Assumes nothing.
use mathlib.Core.Path.{◌≡◌, refl, sym, ◌∙◌}
use mathlib.Core.Bool.{true, not, ◌&&◌}
use mathlib.Core.List.{[], ◌∷◌}
use Prim.Native.Nat.{ℕ}
use lib.Dec.{eqb}
use borrow.Author.Tests.{not-true}
use types.Run.{OneOf}
use Rattle.laws.specs.Choice.{pick, lookup}
use Rattle.laws.proofs.Choice.{and_true}
use Rattle.laws.proofs.Calls.{free}
use Rattle.tree.specs.Forms.{class_of, highest_attributes, details, highest_detail}
use Rattle.tree_places.specs.Places.{first_places, first_place, second_places, second_place}
use Rattle.tree_one_pass.specs.Rows.{code_is, suits}
use Rattle.tree_one_pass.proofs.Arms.{each}
use Rattle.tree_one_pass.proofs.Codes.{row_by}
use Rattle.tree_one_pass.proofs.rows.rare_row.Goals as goal

path_suits : (form detail row : ℕ) → OneOf (49 ∷ []) form → suits 49 detail row ≡ true → suits form detail row ≡ true
path_suits form detail row k s = each (λ (f : ℕ). suits f detail row) (49 ∷ []) form (rw s tt) k

bounds_suit : (form detail row : ℕ) → OneOf (44 ∷ 53 ∷ []) form → (suits 44 detail row && suits 53 detail row) ≡ true → suits form detail row ≡ true
bounds_suit form detail row k s =
    let p = and_true (suits 44 detail row) (suits 53 detail row) s in
    each (λ (f : ℕ). suits f detail row) (44 ∷ 53 ∷ []) form (rw (p.0, p.1) tt) k

closure_suits : (form detail : ℕ) → OneOf (10 ∷ []) form → suits form detail 1049 ≡ true
unfolding suits code_is first_place first_places second_place second_places lookup pick class_of highest_attributes highest_detail details
closure_suits form detail k = each (λ (f : ℕ). suits f detail 1049) (10 ∷ []) form tt k

pub returns-in-49 : goal.returns-in-49
returns-in-49 c = λ h. row_by _ _ _ _ _ c.requires.0 c.requires.1 (path_suits _ _ _ c.in-49.is (c.path_row.ensures h)) (not-true _ (each (λ (f : ℕ). not (eqb f 10)) (49 ∷ []) _ tt c.in-49.is))

pub returns-in-44 : goal.returns-in-44
returns-in-44 c = λ h. row_by _ _ _ _ _ c.requires.0 c.requires.1 (bounds_suit _ _ _ c.in-44.is (c.bounds_row.ensures h)) (not-true _ (each (λ (f : ℕ). not (eqb f 10)) (44 ∷ 53 ∷ []) _ tt c.in-44.is))

pub returns-else-has_bad_output : goal.returns-else-has_bad_output
returns-else-has_bad_output c = λ h. (rw (← c.requires.0, ← c.requires.1) (closure_suits _ _ c.in-10.is), sym c.has_bad_output.ensures ∙ c.if-has_bad_output.false)
