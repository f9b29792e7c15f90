-- What is promised of carrying open sheets. Assumes nothing.
use mathlib.Core.Path.{◌≡◌, refl, sym, ap, ◌∙◌}
use mathlib.Core.Bool.{Bool, true, false}
use mathlib.Core.List.{List, [], ◌∷◌}
use Prim.Native.Nat.{ℕ, ◌*◌, ◌≤◌}
use lib.Dec.{eqb}
use lib.ListN.{length}
use borrow.Author.Tests.{eq-eqb, ne_eqb, eqb-true, eqb-false}
use Rattle.laws.specs.Choice.{pick}
use Rattle.tree.specs.Sizes.{row_cells}
use Rattle.tree.specs.Trees.{tree_at}
use Rattle.tree_rules.specs.Refusals.{Accepted}
use Rattle.expr.specs.declared.order.CalleeOrder.{CalleeOrder}
use Rattle.expr.specs.declared.order.CalleeOrder.TheVariants.{Crates, Ours}
use Rattle.row_walk.specs.Walk.{tree_rows}
use Rattle.row_walk.proofs.Replies.{not_refused, rows_are}
use Rattle.sheet_edit.specs.Runs.{Sheet, Change, changed, ran, Right}
use Rattle.sheet_edit.proofs.Runs.{ran_right, opened_right}
use Rattle.sheet_carry.specs.Carries.{carried_over, carried_rows}
use Rattle.sheet_carry.specs.Statement.{refusal_of, carried, reopened, IsCarried, StaysCarried, CarriedThenEdited, RightCarried, CrateSheetsGoOn}
use Rattle.sheet_carry.proofs.Replies.{taken, takes}

module _ (s : Sheet) where
  -- a sheet with other rows in another order
  abbrev sheet_with : CalleeOrder → List ℕ → Sheet
  sheet_with order rows = record { context = s.context; count = s.count; order = order; table = s.table; rows = rows }

  carried_done : refusal_of s ≡ 0 → carried s ≡ sheet_with Ours (carried_over s.context s.count s.order s.table s.rows)
  unfolding carried carried_rows pick
  carried_done z = rw (eq-eqb _ 0 z)

  carried_refused : (refusal_of s ≡ 0 → ⊥) → carried s ≡ s
  unfolding carried carried_rows pick
  carried_refused n = rw (ne_eqb _ 0 n)

  in_ours : refusal_of s ≡ 0 → (carried s).order ≡ Ours
  in_ours z = ap (λ (t : Sheet). t.order) (carried_done z)

  -- a sheet of ours, refused or not
  ours_stays : s.order ≡ Ours → carried s ≡ s
  unfolding carried carried_rows carried_over pick
  ours_stays e = go (eqb (refusal_of s) 0) refl
    where
      go : (b : Bool) → eqb (refusal_of s) 0 ≡ b → carried s ≡ s
      go true z = rw (z, e)
      go false z = rw z

  module _ (z : refusal_of s ≡ 0) (e : s.order ≡ Crates) where
    walks : carried s ≡ sheet_with Ours (tree_rows Ours s.context s.count (tree_at s.table s.count 1) s.table s.rows)
    unfolding carried_over
    walks = carried_done z ∙ rw e

    fits : Accepted s.context s.count s.table × (row_cells * s.count ≤ length s.rows)
    fits = taken s.context s.count s.table s.rows z

    as_opened : carried s ≡ reopened s
    as_opened = walks ∙ ap (sheet_with Ours) (sym (rows_are Ours s.context s.count s.table s.rows fits.0 fits.1))

    right_carried : Right (carried s)
    right_carried = rw as_opened (opened_right Ours s.context s.count s.table s.rows (not_refused Ours s.context s.count s.table s.rows fits.0 fits.1))

pub is_carried : IsCarried
is_carried s z = record { as_opened = λ e. as_opened s z e; in_ours = in_ours s z; right = λ e. right_carried s z e }

pub carried_again : StaysCarried
carried_again s = record { ours_stays = ours_stays s; refused_stays = carried_refused s; twice = go (eqb (refusal_of s) 0) refl }
  where
    go : (b : Bool) → eqb (refusal_of s) 0 ≡ b → carried (carried s) ≡ carried s
    go true z = ours_stays (carried s) (in_ours s (eqb-true _ _ z))
    go false z = ap carried (carried_refused s (eqb-false _ _ z))

pub carried_then_edited : CarriedThenEdited
carried_then_edited s z e cs = ap (λ (t : Sheet). ran t cs) (as_opened s z e)

pub carried_right : RightCarried
carried_right s right = (fine, by_order s.order refl)
  where
    fine : refusal_of s ≡ 0
    fine = takes s.context s.count s.table s.rows right.accepted right.room

    by_order : (o : CalleeOrder) → s.order ≡ o → Right (carried s)
    by_order Crates e = right_carried s fine e
    by_order Ours e = rw (ours_stays s e) right

-- edits keep the order
same_order : (s : Sheet) (cs : List Change) → (ran s cs).order ≡ s.order
unfolding ran changed
same_order s [] = refl
same_order s (c ∷ cs) = same_order (changed s c) cs

pub crate_sheets_go_on : CrateSheetsGoOn
crate_sheets_go_on s cs right e = (same_order s cs ∙ e, ran_right s cs right)
