-- What an owner hands down, by its form and by the number of its operand: an owner that is not there has neither. Assumes nothing.
use mathlib.Core.Path.{◌≡◌, refl, sym, ◌∙◌}
use mathlib.Core.Logic.{◌⊎◌, inl, inr}
use mathlib.Core.List.{List, [], ◌∷◌}
use Prim.Native.Nat.{ℕ, zero, suc, ◌≤◌, ◌<◌}
use native.Mathlib.Omega.{arith}
use Rattle.std.proofs.lemmas.Grind.{common_steps}
use native.Mathlib.Decide.{dec_le}
use borrow.Author.Tests.{le-leb, lt-leb}
use Rattle.std.specs.Prelude.{unwrap_or, eqb}
use Rattle.laws.specs.Choice.{pick, line, lookup}
use Rattle.tree.specs.Forms.{expr_field}
use Rattle.tree.specs.Table.{cell_at, form_at, detail_at, first_column, second_column}
use Rattle.tree.specs.Trees.{Tree, none, label_at, operand_at, tree_at}
use Rattle.tree.specs.Operands.{presence, form_in}
use Rattle.tree.specs.Walks.{at_root}
use Rattle.tree.proofs.Unfold.{Standing, absent, present, standing, operand_zero, tree_zero, tree_past, unfolds}
use Rattle.precedence.specs.declared.Precedence.{Precedence}
use Rattle.precedence.specs.declared.Precedence.TheVariants.{Unambiguous}
use Rattle.precedence.specs.Precedences.{below}
use Rattle.fixup.specs.Contexts.{none_context}
use Rattle.fixup.specs.declared.context.FixupContext.{FixupContext}
use Rattle.expr.specs.declared.order.CalleeOrder.{CalleeOrder}
use Rattle.expr.specs.declared.order.CalleeOrder.TheVariants.{Crates}
use Rattle.expr.specs.Handed.{neither}
use Rattle.expr.specs.Expr.{call_needs_group, first_lines, hands_first, second_lines, hands_second}
use Rattle.expr.specs.Steps.{given_first, given_second}

module _ (cells : List ℕ) (count i : ℕ) where
  -- no operand of what is not there
  none_past : (k : ℕ) → count < i → tree_at cells count (operand_at cells count i k) ≡ none
  none_past k h = go (operand_at cells count i k) (standing count i (cell_at cells i k))
    where
      go : (p : ℕ) → Standing count i (cell_at cells i k) p → tree_at cells count p ≡ none
      go p absent = tree_zero cells count
      go p (present a b) = absurd (omega arith)

  none_zero : (k : ℕ) → i ≡ 0 → tree_at cells count (operand_at cells count i k) ≡ none
  unfolding cell_at
  none_zero k e = rw (e, operand_zero count 0) (tree_zero cells count)

  abbrev first_tree : Tree
  first_tree = tree_at cells count (operand_at cells count i first_column)

  abbrev second_tree : Tree
  second_tree = tree_at cells count (operand_at cells count i second_column)

  by_range : (P : Tree → Tree → Tree → ℕ → Type 0) → (1 ≤ i → i ≤ count → P (tree_at cells count i) first_tree second_tree (form_at cells i)) → P none none none 0 → P (tree_at cells count i) first_tree second_tree (form_in cells count i)
  unfolding form_in pick
  by_range P here gone = go (dec_le 1 i) (dec_le i count)
    where
      go : Dec (1 ≤ i) → Dec (i ≤ count) → P (tree_at cells count i) first_tree second_tree (form_in cells count i)
      go (yes h) (yes k) = rw (le-leb 1 i h, le-leb i count k) (here h k)
      go (yes h) (no k) = rw (le-leb 1 i h, lt-leb i count (omega arith), tree_past cells count i (omega arith), none_past first_column (omega arith), none_past second_column (omega arith)) gone
      go (no h) d = let z : i ≡ 0 = omega arith in rw (none_zero first_column z, none_zero second_column z, z, tree_zero cells count) gone

  -- the operand's number, 0 where it is absent
  pub number_or : (k : ℕ) → unwrap_or (presence (operand_at cells count i k)) 0 ≡ operand_at cells count i k
  unfolding presence
  number_or k = go (operand_at cells count i k)
    where
      go : (p : ℕ) → unwrap_or (presence p) 0 ≡ p
      go zero = refl
      go (suc n) = refl

  -- a table over the forms, at the form that the code reads: 0 where there is no node, and no line is for 0
  pub crates_in : (left : Precedence) → call_needs_group Crates (tree_at cells count i) left ≡ lookup (line (expr_field ∷ []) (eqb (detail_at cells i) 0) ∷ []) (below left Unambiguous) (form_in cells count i)
  unfolding call_needs_group at_root label_at lookup pick
  crates_in left = by_range (λ t a b f. call_needs_group Crates t left ≡ lookup (line (expr_field ∷ []) (eqb (detail_at cells i) 0) ∷ []) (below left Unambiguous) f) (λ h k. rw (unfolds cells count i h k)) refl

  pub first_in : (order : CalleeOrder) (x : FixupContext) → hands_first order x (tree_at cells count i) ≡ lookup (first_lines order x (label_at cells i) first_tree) (neither none_context first_tree) (form_in cells count i)
  unfolding hands_first first_lines label_at lookup pick
  first_in order x = by_range (λ t a b f. hands_first order x t ≡ lookup (first_lines order x (label_at cells i) a) (neither none_context a) f) (λ h k. rw (unfolds cells count i h k)) refl

  -- a number that is no form's has no line either
  pub first_none : (order : CalleeOrder) (x : FixupContext) → (form_in cells count i ≡ 0) ⊎ (56 < form_in cells count i) → neither none_context first_tree ≡ hands_first order x (tree_at cells count i)
  unfolding first_lines lookup pick
  first_none order x d = go (form_in cells count i) d ∙ sym (first_in order x)
    where
      Rest : ℕ → Type 0
      Rest f = neither none_context first_tree ≡ lookup (first_lines order x (label_at cells i) first_tree) (neither none_context first_tree) f

      go : (f : ℕ) → (f ≡ 0) ⊎ (56 < f) → Rest f
      go f (inl e) = rw e refl
      go f (inr h) = grind (arith, common_steps, h)

  pub second_in : (x : FixupContext) → hands_second x (tree_at cells count i) ≡ lookup (second_lines x (label_at cells i) second_tree) (neither none_context second_tree) (form_in cells count i)
  unfolding hands_second second_lines label_at lookup pick
  second_in x = by_range (λ t a b f. hands_second x t ≡ lookup (second_lines x (label_at cells i) b) (neither none_context b) f) (λ h k. rw (unfolds cells count i h k)) refl

  pub first_is : (order : CalleeOrder) (x : FixupContext) → given_first order x (tree_at cells count i) (tree_at cells count (operand_at cells count i first_column)) ≡ hands_first order x (tree_at cells count i)
  unfolding given_first hands_first at_root
  first_is order x = by_range (λ t a b f. given_first order x t a ≡ hands_first order x t) (λ h k. rw (unfolds cells count i h k)) refl

  pub second_is : (x : FixupContext) → given_second x (tree_at cells count i) (tree_at cells count (operand_at cells count i second_column)) ≡ hands_second x (tree_at cells count i)
  unfolding given_second hands_second at_root
  second_is x = by_range (λ t a b f. given_second x t b ≡ hands_second x t) (λ h k. rw (unfolds cells count i h k)) refl
