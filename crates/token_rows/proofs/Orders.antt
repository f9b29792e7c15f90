-- Plain trees do not see the callee order. Assumes nothing.
use mathlib.Core.Path.{◌≡◌, refl, sym, ◌∙◌}
use mathlib.Core.Bool.{Bool, true, false, not}
use mathlib.Core.List.{List}
use Prim.Native.Nat.{ℕ, zero, suc, ◌≤◌}
use native.Mathlib.Omega.{arith}
use lib.Dec.{eqb}
use borrow.Author.Tests.{eqb-true, not-true, not-false}
use Rattle.laws.specs.Choice.{pick, lookup}
use Rattle.laws.proofs.Choice.{and_true, true_not_false}
use Rattle.laws.proofs.Each.{some_none}
use Rattle.tree.specs.Forms.{expr_call, expr_field, expr_group, class_of}
use Rattle.tree.specs.Trees.{Label, Tree, none, node, label_at, tree_to, tree_at}
use Rattle.tree.specs.Walks.{at_root, follow, walk}
use Rattle.tree.proofs.Unfold.{operand_most}
use Rattle.precedence.specs.declared.Precedence.TheVariants.{Unambiguous}
use Rattle.precedence.specs.Precedences.{prefix_attrs, of_lines, closed_by, precedence_of}
use Rattle.fixup_look.specs.Looks.{is_bare_jump}
use Rattle.fixup.specs.declared.context.FixupContext.{FixupContext}
use Rattle.fixup.specs.Contexts.{with_operator}
use Rattle.fixup.specs.Fixup.{effective}
use Rattle.fixup_scan.specs.Scans.{bails_out, leftmost_precedence}
use Rattle.expr.specs.declared.Handed.{Handed}
use Rattle.expr.specs.declared.order.CalleeOrder.TheVariants.{Crates, Ours}
use Rattle.expr.specs.Handed.{grouped_by}
use Rattle.expr.specs.Expr.{callee_lines, named_field, call_needs_group, first_lines, hands_first}
use Rattle.row.specs.Rows.{own_context, rows_of}
use Rattle.token_plain.specs.Plain.{is_plain, plain_table}
use Rattle.token_rows.proofs.Contexts.{or_off}

-- each node of a tree is plain
abbrev pub AllPlain : Tree → Type 0
AllPlain none = Unit {0}
AllPlain (node l a b) = (is_plain l ≡ true) × AllPlain a × AllPlain b

-- "no attributes", and no Group
no_attributes : (l : Label) → is_plain l ≡ true → l.attributes ≡ 0
unfolding is_plain
no_attributes l e = eqb-true l.attributes 0 (and_true (eqb l.attributes 0) _ e).0

no_group : (l : Label) → is_plain l ≡ true → eqb expr_group l.form ≡ false
unfolding is_plain
no_group l e = go (eqb expr_group l.form) refl
  where
    go : (b : Bool) → eqb expr_group l.form ≡ b → b ≡ false
    go false q = refl
    go true q =
        let f : l.form ≡ expr_group = sym (eqb-true expr_group l.form q) in
        true_not_false (sym (and_true (eqb l.attributes 0) _ e).1 ∙ rw f)

-- ---- what a Call hands to its callee

module _ (x : FixupContext) where
  abbrev calling : FixupContext
  calling = with_operator x true false Unambiguous

  -- a Field without attributes has the highest precedence
  field_highest : (l : Label) (a b : Tree) → l.attributes ≡ 0 → l.form ≡ expr_field → leftmost_precedence (node l a b) calling ≡ Unambiguous
  unfolding leftmost_precedence bails_out effective is_bare_jump precedence_of of_lines closed_by prefix_attrs class_of at_root walk follow lookup pick
  field_highest l a b n f = rw (n, f)

  same_test : (a : Tree) → AllPlain a → call_needs_group Crates a (leftmost_precedence a calling) ≡ call_needs_group Ours a (leftmost_precedence a calling)
  unfolding call_needs_group named_field callee_lines at_root walk follow lookup pick
  same_test none k = sym (or_off _)
  same_test (node l a b) k = go (eqb expr_field l.form) refl
    where
      go : (c : Bool) → eqb expr_field l.form ≡ c → call_needs_group Crates (node l a b) (leftmost_precedence (node l a b) calling) ≡ call_needs_group Ours (node l a b) (leftmost_precedence (node l a b) calling)
      go true e = rw (e, field_highest l a b (no_attributes l k.0) (sym (eqb-true expr_field l.form e)))
      go false e = rw (e, no_group l k.0) (sym (or_off _))

  same_hands : (l : Label) (a b : Tree) → AllPlain a → hands_first Crates x (node l a b) ≡ hands_first Ours x (node l a b)
  unfolding hands_first first_lines grouped_by lookup pick
  same_hands l a b k = go (eqb expr_call l.form) refl
    where
      go : (c : Bool) → eqb expr_call l.form ≡ c → hands_first Crates x (node l a b) ≡ hands_first Ours x (node l a b)
      go true e = let f : l.form ≡ expr_call = sym (eqb-true expr_call l.form e) in rw (f, same_test a k)
      go false e = rw e

-- ---- rows

pub plain_rows : (t : Tree) (h : Handed) → AllPlain t → rows_of Crates h t ≡ rows_of Ours h t
unfolding rows_of
plain_rows none h k = refl
plain_rows (node l a b) h k =
    let x = own_context h (node l a b) in
    rw (same_hands x l a b k.1, plain_rows a (hands_first Ours x (node l a b)) k.1, plain_rows b _ k.2)

-- the trees of a plain table
module _ (count : ℕ) (cells : List ℕ) (plain : plain_table count cells ≡ true) where
  label_plain : (i : ℕ) → 1 ≤ i → i ≤ count → is_plain (label_at cells i) ≡ true
  unfolding plain_table
  label_plain i low high = not-false _ (some_none (λ i. not (is_plain (label_at cells i))) count (not-true _ plain) i low high)

  tree_plain : (n i : ℕ) → i ≤ count → AllPlain (tree_to cells count n i)
  unfolding tree_to
  tree_plain zero i h = tt
  tree_plain (suc n) zero h = tt
  tree_plain (suc n) (suc i) h = (label_plain (suc i) (omega arith) h, tree_plain n _ (operand_most count (suc i) _), tree_plain n _ (operand_most count (suc i) _))

  pub table_plain : (i : ℕ) → AllPlain (tree_at cells count i)
  unfolding tree_at
  table_plain i = tree_plain count _ (operand_most count 0 i)
