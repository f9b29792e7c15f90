-- What `walk` leaves in the rows; the replies of `decide`, and what they leave in the rows. Assumes nothing.
use mathlib.Core.Path.{◌≡◌, sym, ap, ◌∙◌}
use mathlib.Core.List.{List}
use Prim.Native.Nat.{ℕ, ◌*◌, ◌≤◌, ◌<◌}
use native.Mathlib.Omega.{arith}
use lib.ListN.{length}
use borrow.Author.Tests.{eq-eqb, ne_eqb, lt-ltb, le-ltb}
use Rattle.laws.specs.Choice.{pick}
use Rattle.laws.proofs.Choice.{pick_true, pick_false}
use Rattle.tree.specs.Sizes.{row_cells, most_levels}
use Rattle.std.proofs.Common.{Result, Ok, Err}
use Rattle.std.specs.Prelude.{IsErr, IsErrAnd}
use Rattle.std.proofs.lemmas.Grind.{common_steps}
use Rattle.tree.specs.declared.refusal.Refusal.{Refusal}
use Rattle.tree.specs.Replies.{replied}
use Rattle.tree.specs.Trees.{none, tree_at}
use Rattle.tree.proofs.Unfold.{tree_past}
use Rattle.tree_rules.specs.Refusals.{refusal}
use Rattle.expr.specs.declared.Handed.{Handed}
use Rattle.expr.specs.declared.order.CalleeOrder.{CalleeOrder}
use Rattle.row.specs.Rows.{rows_of}
use Rattle.row_walk.specs.Stack.{within}
use Rattle.row_walk.specs.Steps.{waiting}
use Rattle.row_walk.proofs.Reach.{all_reached}
use Rattle.row_walk.proofs.Room.{entries_bound}
use Rattle.row_walk.specs.Walk.{root_handed, placed, tree_rows, walked_after, decide_refusal12, decided, rows_after}

-- ---- `walk`

module _ (order : CalleeOrder) (context count : ℕ) (cells rows : List ℕ) where
  pub stays : length rows < row_cells * count → rows ≡ walked_after order context count cells rows
  unfolding walked_after
  stays h = sym (pick_true _ _ (lt-ltb _ _ h))

  pub no_nodes : count ≡ 0 → rows ≡ walked_after order context count cells rows
  unfolding walked_after rows_of within placed pick
  no_nodes z =
      let none : tree_at cells count 1 ≡ none = tree_past cells count 1 (omega arith) in
      rw (le-ltb (length rows) (row_cells * count) (omega arith), none)

  pub walks : row_cells * count ≤ length rows → (h : Handed) → h ≡ root_handed context (tree_at cells count 1)
      → (after : List ℕ) → after ≡ placed cells count 1 (within most_levels (rows_of order h (tree_at cells count 1))) rows
      → after ≡ walked_after order context count cells rows
  unfolding walked_after
  walks k h eh after e = e ∙ rw eh (sym (pick_false _ _ (le-ltb _ _ k)))

  -- of a tree for which the entries are enough
  pub reached : waiting (tree_at cells count 1) ≤ most_levels → row_cells * count ≤ length rows → walked_after order context count cells rows ≡ tree_rows order context count (tree_at cells count 1) cells rows
  unfolding walked_after
  reached w k = pick_false _ _ (le-ltb _ _ k) ∙ rw (all_reached order most_levels (root_handed context (tree_at cells count 1)) (tree_at cells count 1) w)

  -- document 02, Paper 13: "Rows are equal to those of the old walk on every accepted tree"
  pub walked : refusal context count cells ≡ 0 → row_cells * count ≤ length rows → walked_after order context count cells rows ≡ tree_rows order context count (tree_at cells count 1) cells rows
  walked ok k = reached (entries_bound context count cells ok) k

-- ---- replies

-- a reply that is done, and one that is none: the same for a value of any kind
pub replied_ok : {A : Type 0} (n : ℕ) (a v : A) → Ok v ≡ replied n a → n ≡ 0
unfolding replied pick
replied_ok n a v e = grind (arith, common_steps, e)

pub replied_err : {A : Type 0} (n : ℕ) (a : A) (r : Refusal) → Err r ≡ replied n a → n ≡ 0 → ⊥
unfolding replied pick
replied_err n a r e z = grind (arith, common_steps, e, z)

pub refused_as : {A B : Type 0} (n : ℕ) (a : A) (b : B) (r : Refusal) → Err r ≡ replied n a → Err r ≡ replied n b
unfolding replied pick
refused_as n a b r e = grind (arith, common_steps, e)

-- a refusal that `?` passes on
pub passed_up : {A : Type 0} (r : Result A Refusal) (e : Refusal) → IsErr r → IsErrAnd r (λ x. x ≡ e) → r ≡ Err e
passed_up (Ok a) e i h = absurd h
passed_up (Err x) e i h = ap Err h

-- ---- `decide`

module _ (order : CalleeOrder) (context count : ℕ) (cells rows : List ℕ) where
  -- a refused table is refused as such, and leaves the rows as they were
  pub refused : {A B : Type 0} (u : A) (a : B) (r : Refusal) → Err r ≡ replied (refusal context count cells) u
      → (Err r ≡ replied (decided context count cells (length rows)) a) × (rows ≡ rows_after order context count cells rows)
  unfolding decided rows_after
  refused u a r e =
      let f = ne_eqb (refusal context count cells) 0 (replied_err _ u r e) in
      let d : decided context count cells (length rows) ≡ refusal context count cells = pick_false _ _ f in
      (rw d (refused_as _ u a r e), sym (pick_false _ _ (rw d f)))

  module _ (accepted : refusal context count cells ≡ 0) where
    checked : decided context count cells (length rows) ≡ pick (decide_refusal12 count (length rows)) 12 0
    unfolding decided
    checked = pick_true _ _ (eq-eqb _ 0 accepted)

    pub short_rows : length rows < row_cells * count → (decided context count cells (length rows) ≡ 12) × (rows ≡ rows_after order context count cells rows)
    unfolding decide_refusal12 rows_after
    short_rows h =
        let d : decided context count cells (length rows) ≡ 12 = checked ∙ pick_true 12 0 (lt-ltb _ _ h) in
        (d, sym (pick_false _ _ (rw d)))

    module _ (fits : row_cells * count ≤ length rows) where
      pub not_refused : decided context count cells (length rows) ≡ 0
      unfolding decide_refusal12
      not_refused = checked ∙ pick_false 12 0 (le-ltb _ _ fits)

      pub rows_are : rows_after order context count cells rows ≡ tree_rows order context count (tree_at cells count 1) cells rows
      unfolding rows_after
      rows_are = pick_true _ _ (eq-eqb _ 0 not_refused)

      pub done : (after : List ℕ) → after ≡ walked_after order context count cells rows → after ≡ rows_after order context count cells rows
      done after e = e ∙ walked order context count cells rows accepted fits ∙ sym rows_are
