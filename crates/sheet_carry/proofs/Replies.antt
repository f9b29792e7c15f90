-- The refusals of carrying, and the rows afterwards. Assumes nothing.
use mathlib.Core.Path.{◌≡◌, refl, sym, ap, ◌∙◌}
use mathlib.Core.List.{List}
use Prim.Native.Nat.{ℕ, ◌*◌, ◌≤◌, ◌<◌}
use native.Mathlib.Omega.{arith}
use lib.ListN.{length}
use borrow.Author.Tests.{eq-eqb, ne_eqb, lt-ltb, le-ltb, ltb-false}
use Rattle.laws.proofs.Choice.{pick_true, pick_false}
use Rattle.std.proofs.Common.{Err}
use Rattle.tree.specs.declared.refusal.Refusal.{Refusal}
use Rattle.tree.specs.Replies.{replied}
use Rattle.tree.specs.Sizes.{row_cells}
use Rattle.tree_rules.specs.Refusals.{refusal, Accepted}
use Rattle.tree_rules.proofs.First.{stop, skip, no_more, passed, table_refused, table_passed, none_applied}
use Rattle.expr.specs.declared.order.CalleeOrder.{CalleeOrder}
use Rattle.expr.specs.declared.order.CalleeOrder.TheVariants.{Crates, Ours}
use Rattle.row_walk.specs.Walk.{walked_after}
use Rattle.row_walk.proofs.Replies.{walked, replied_err, refused_as}
use Rattle.sheet_carry.specs.Carries.{carry_refusal12, carry_refusal, carried_over, carried_rows}

module _ (context count : ℕ) (cells rows : List ℕ) where
  -- where nothing is refused
  pub taken : carry_refusal context count cells (length rows) ≡ 0 → Accepted context count cells × (row_cells * count ≤ length rows)
  unfolding carry_refusal carry_refusal12
  taken z =
      let p = none_applied context count cells _ z in
      (p.0, ltb-false _ _ (passed 12 _ _ (omega arith) p.1).0)

  module _ (ok : Accepted context count cells) where
    pub takes : row_cells * count ≤ length rows → carry_refusal context count cells (length rows) ≡ 0
    unfolding carry_refusal carry_refusal12
    takes room = table_passed context count cells _ ok ∙ skip 12 _ (le-ltb _ _ room) ∙ no_more

    too_short : length rows < row_cells * count → 12 ≡ carry_refusal context count cells (length rows)
    unfolding carry_refusal carry_refusal12
    too_short h = sym (table_passed context count cells _ ok ∙ stop 12 _ (lt-ltb _ _ h))

  -- ---- what the two clauses of the contract say of a reply and of the rows afterwards

  module _ (order : CalleeOrder) where
    -- a refused table is refused as such, and its rows stay
    pub refused : {A B : Type 0} (u : A) (a : B) (r : Refusal) → Err r ≡ replied (refusal context count cells) u
        → (Err r ≡ replied (carry_refusal context count cells (length rows)) a) × (rows ≡ carried_rows context count order cells rows)
    unfolding carry_refusal carried_rows
    refused u a r e =
        let n = replied_err _ u r e in
        let d : refusal context count cells ≡ carry_refusal context count cells (length rows) = table_refused context count cells _ _ refl n in
        (rw (← d) (refused_as _ u a r e), sym (pick_false _ _ (rw (← d) (ne_eqb _ 0 n))))

    pub short_rows : Accepted context count cells → length rows < row_cells * count → (12 ≡ carry_refusal context count cells (length rows)) × (rows ≡ carried_rows context count order cells rows)
    unfolding carried_rows
    short_rows ok h = (too_short ok h, sym (pick_false _ _ (rw (← too_short ok h))))

    pub done : Accepted context count cells → row_cells * count ≤ length rows → (after : List ℕ) → after ≡ carried_over context count order cells rows → after ≡ carried_rows context count order cells rows
    unfolding carried_rows
    done ok room after e = e ∙ sym (pick_true _ _ (eq-eqb _ 0 (takes ok room)))

-- by the order
module _ (context count : ℕ) (cells rows : List ℕ) where
  pub ours : rows ≡ carried_over context count Ours cells rows
  unfolding carried_over
  ours = refl

  pub crates : Accepted context count cells → row_cells * count ≤ length rows → (after : List ℕ) → after ≡ walked_after Ours context count cells rows → after ≡ carried_over context count Crates cells rows
  unfolding carried_over
  crates ok room after e = e ∙ walked Ours context count cells rows ok room
