-- Edits of node 1, and of a node with its own tree. Assumes nothing.
use mathlib.Core.Path.{◌≡◌, refl, sym, ap, ◌∙◌}
use mathlib.Core.Bool.{Bool, true, false}
use mathlib.Core.List.{List, [], ◌∷◌, append-nil}
use Prim.Native.Nat.{ℕ, ◌*◌, ◌≤◌}
use native.Mathlib.Omega.{arith}
use lib.Dec.{eqb}
use lib.ListN.{length}
use borrow.Author.Tests.{eq-eqb, eqb-true, le-ltb}
use Rattle.laws.specs.Choice.{pick}
use Rattle.laws.specs.Lists.{over}
use Rattle.laws.proofs.Choice.{pick_true, or_next}
use Rattle.tree.specs.Sizes.{row_cells, most_nodes}
use Rattle.tree.specs.Forms.{an_expression, class_of}
use Rattle.tree.specs.Operands.{form_in}
use Rattle.tree.specs.Table.{first_column, second_column}
use Rattle.tree.specs.Trees.{Tree, none, node, operand_at, tree_at}
use Rattle.tree.proofs.Matches.{form_in_lem}
use Rattle.tree_rules.specs.Refusals.{refusal10, refusal11, refuse, first_of, Accepted}
use Rattle.tree_rules.proofs.Accepted.{count_bounds, root_expression, levels_bound}
use Rattle.tree_rules.proofs.First.{skip, no_more}
use Rattle.tree_numbering.specs.Numbered.{size, numbered}
use Rattle.tree_numbering.proofs.Sizes.{size_accepted}
use Rattle.tree_sound.proofs.Accepts.{numbered_10, numbered_11, accepted_outputs}
use Rattle.tree_numbering.specs.Replaced.{replaced}
use Rattle.sheet_edit.specs.Edits.{refusal17, refusal18, edit_refusal12, Edit, result, edit_refusal, result_table, table_after}
use Rattle.sheet_edit.specs.Statement.{EditRoot, EditOwn}
use Rattle.sheet_edit.proofs.Replaced.{node_here}
use Rattle.tree_numbering.proofs.Replaced.{after_here}
use Rattle.sheet_edit.proofs.Replies.{both_accepted}

-- an accepted table's tree does not meet 18
accepted_fits : (context count : ℕ) (cells : List ℕ) → Accepted context count cells → refusal18 (tree_at cells count 1) ≡ false
unfolding refusal18
accepted_fits context count cells ok = or_next _ (le-ltb _ _ few) ∙ or_next _ ten ∙ eleven
  where
    few : size (tree_at cells count 1) ≤ most_nodes
    few =
        let s = size_accepted context count cells ok in
        let k = (count_bounds context count cells ok).1 in
        omega arith

    ten : refusal10 (numbered (tree_at cells count 1)) (size (tree_at cells count 1)) ≡ false
    ten = rw (append-nil (numbered (tree_at cells count 1))) at (numbered_10 (tree_at cells count 1) []) ∙ accepted_outputs context count cells ok 1

    eleven : refusal11 (numbered (tree_at cells count 1)) (size (tree_at cells count 1)) ≡ false
    eleven = rw (append-nil (numbered (tree_at cells count 1))) at (numbered_11 (tree_at cells count 1) [] few) ∙ le-ltb _ _ (levels_bound context count cells ok)

own_kept : (cells : List ℕ) (count j : ℕ) (t : Tree) (i : ℕ) → tree_at cells count i ≡ t → replaced cells count j (tree_at cells count j) i t ≡ t
unfolding replaced pick
own_kept cells count j none i e = refl
own_kept cells count j (node l a b) i e =
    let w = node_here cells count i l a b e in
    go (eqb i j) refl (own_kept cells count j a (operand_at cells count i first_column) w.one) (own_kept cells count j b (operand_at cells count i second_column) w.two)
  where
    go : (c : Bool) → eqb i j ≡ c
        → replaced cells count j (tree_at cells count j) (operand_at cells count i first_column) a ≡ a
        → replaced cells count j (tree_at cells count j) (operand_at cells count i second_column) b ≡ b
        → pick c (tree_at cells count j) (node l (replaced cells count j (tree_at cells count j) (operand_at cells count i first_column) a) (replaced cells count j (tree_at cells count j) (operand_at cells count i second_column) b)) ≡ node l a b
    go true q x y = ap (tree_at cells count) (sym (eqb-true i j q)) ∙ e
    go false q x y = rw (x, y)

-- node 1 of an accepted table is an expression
named_root : (context count : ℕ) (cells : List ℕ) → Accepted context count cells → refusal17 cells count 1 ≡ false
unfolding refusal17
named_root context count cells ok = rw (eq-eqb _ an_expression is)
  where
    is : class_of (form_in cells count 1) ≡ an_expression
    is = rw (form_in_lem cells count 1 (omega arith) (count_bounds context count cells ok).0) (root_expression context count cells ok)

module _ (e : Edit) (sheet : Accepted e.context e.count e.cells) (other : Accepted e.second_context e.second_count e.second)
    (named : refusal17 e.cells e.count e.place ≡ false) where
  -- where the result is the tree of an accepted table, nothing but 12 is left to refuse
  only_12 : (table rows : ℕ) → refusal18 (result e) ≡ false → edit_refusal e table rows ≡ first_of (refuse 12 (edit_refusal12 (result e) table rows) ∷ [])
  only_12 table rows fits = both_accepted e table rows sheet other ∙ skip 17 _ named ∙ skip 18 _ fits

  at_root : e.place ≡ 1
      → (result e ≡ tree_at e.second e.second_count 1)
      × ((table rows : ℕ) → edit_refusal e table rows ≡ first_of (refuse 12 (edit_refusal12 (result e) table rows) ∷ []))
  at_root root =
      let r = after_here e.cells e.count e.place (tree_at e.second e.second_count 1) 1 (omega arith) (count_bounds e.context e.count e.cells sheet).0 (sym root) in
      (r, λ table rows. only_12 table rows (ap refusal18 r ∙ accepted_fits e.second_context e.second_count e.second other))

  -- a node's own tree in its place: the sheet's tree, so that its table is numbered as in Paper 2
  module _ (same : tree_at e.second e.second_count 1 ≡ tree_at e.cells e.count e.place) where
    own_result : result e ≡ tree_at e.cells e.count 1
    own_result = rw same (own_kept e.cells e.count e.place (tree_at e.cells e.count 1) 1 refl)

    own_taken : (rows : ℕ) → row_cells * e.count ≤ rows → edit_refusal e (length e.cells) rows ≡ 0
    unfolding edit_refusal12
    own_taken rows room =
        let s = size_accepted e.context e.count e.cells sheet in
        let k = (count_bounds e.context e.count e.cells sheet).2 in
        only_12 (length e.cells) rows (ap refusal18 own_result ∙ accepted_fits e.context e.count e.cells sheet)
        ∙ skip 12 _ (rw (own_result, s) (or_next _ (le-ltb _ _ k) ∙ le-ltb _ _ room))
        ∙ no_more

    own_table : (rows : ℕ) → row_cells * e.count ≤ rows → table_after e rows ≡ over (numbered (tree_at e.cells e.count 1)) e.cells
    unfolding result_table
    own_table rows room = pick_true _ _ (eq-eqb _ 0 (own_taken rows room)) ∙ ap (λ (t : Tree). over (numbered t) e.cells) own_result

pub edit_root : EditRoot
edit_root e sheet other root =
    at_root e sheet other (ap (λ (j : ℕ). refusal17 e.cells e.count j) root ∙ named_root e.context e.count e.cells sheet) root

pub edit_own : EditOwn
edit_own e sheet other named same rows room = own_table e sheet other named same rows room
