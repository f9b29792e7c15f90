-- The rules of one node of a table whose operands stand after their owners, by the trees at its operands. Assumes nothing.
use mathlib.Core.Path.{◌≡◌, refl, sym, ◌∙◌}
use mathlib.Core.Bool.{not}
use mathlib.Core.List.{List}
use mathlib.Core.Logic.{◌⊎◌, inl, inr}
use Prim.Native.Nat.{ℕ, zero, suc, ◌≤◌}
use native.Mathlib.Omega.{arith}
use lib.Dec.{eqb}
use native.Mathlib.Decide.{ℕ_discrete}
use borrow.Author.Tests.{le-leb, ne_eqb, eq-eqb, not-true, not-false}
use Rattle.laws.specs.Choice.{pick}
use Rattle.laws.proofs.Choice.{pick_true, pick_false}
use Rattle.tree_places.specs.declared.place.Place.{Place}
use Rattle.tree_places.specs.declared.place.Place.TheVariants.{Nothing, Required, Optional, List as ListOf, Item, Next}
use Rattle.tree_places.specs.Places.{wrong_class, wrong_list, wrong_item, wrong_next, wrong_at, bad_operands}
use Rattle.tree_places.specs.Steps.{wrong_present}
use Rattle.tree_places.proofs.Places.{wrong_absent, wrong_present_lem}
use Rattle.tree.specs.Forms.{an_expression, a_type, class_of}
use Rattle.tree.specs.Table.{cell_at, first_at, second_at, class_at}
use Rattle.tree.specs.Trees.{node, label_at, operand_of, tree_at}
use Rattle.tree.specs.Walks.{is_there}
use Rattle.tree.proofs.Unfold.{operand_in, operand_zero, tree_zero, unfolds}
use Rattle.tree_rules.specs.Refusals.{plain_block, bad_output}
use Rattle.tree_rules.proofs.Accepted.{Within}
use Rattle.tree_sound.proofs.Sound.{root_class, item_class, other_class, other_list, other_present, other_at, other_operands, is_plain_block, output_broken}

abbrev pub Stands : ℕ → ℕ → ℕ → Type 0
Stands count i o = (o ≡ 0) ⊎ Within count i o

-- each number at an operand's place is 0, or a node after its owner
pub record Ordered (cells : List ℕ) (count : ℕ) : Type 0 where
  pub firsts : (i : ℕ) → 1 ≤ i → i ≤ count → Stands count i (first_at cells i)
  pub seconds : (i : ℕ) → 1 ≤ i → i ≤ count → Stands count i (second_at cells i)

pub stands_operand : (count i o : ℕ) → Stands count i o → operand_of count i o ≡ o
stands_operand count i o (inl z) = rw z (operand_zero count i)
stands_operand count i o (inr w) = operand_in count i o w.0 w.1

pub stands_most : (count i o : ℕ) → Stands count i o → o ≤ count
stands_most count i o (inl z) = omega arith
stands_most count i o (inr w) = w.1

module _ (cells : List ℕ) (count : ℕ) (ordered : Ordered cells count) where
  -- a node unfolds by the table's numbers
  pub node_at : (i : ℕ) → 1 ≤ i → i ≤ count → tree_at cells count i ≡ node (label_at cells i) (tree_at cells count (first_at cells i)) (tree_at cells count (second_at cells i))
  node_at i low high =
      unfolds cells count i low high
      ∙ rw (stands_operand count i (first_at cells i) (ordered.firsts i low high), stands_operand count i (second_at cells i) (ordered.seconds i low high))

  pub class_at_lem : (o : ℕ) → o ≤ count → class_at cells o ≡ root_class (tree_at cells count o)
  unfolding cell_at class_of pick label_at
  class_at_lem zero h = rw (tree_zero cells count)
  class_at_lem (suc o) h = rw (node_at (suc o) (omega arith) h)

  item_at : (o : ℕ) → o ≤ count → class_at cells (first_at cells o) ≡ item_class (tree_at cells count o)
  unfolding cell_at class_of pick
  item_at zero h = rw (tree_zero cells count)
  item_at (suc o) h =
      rw (node_at (suc o) (omega arith) h)
      (class_at_lem (first_at cells (suc o)) (stands_most count (suc o) _ (ordered.firsts (suc o) (omega arith) h)))

  there_at : (o : ℕ) → o ≤ count → eqb o 0 ≡ not (is_there (tree_at cells count o))
  there_at zero h = rw (tree_zero cells count)
  there_at (suc o) h = rw (ne_eqb (suc o) 0 (λ e. omega arith), node_at (suc o) (omega arith) h)

  first_most : (o : ℕ) → o ≤ count → first_at cells o ≤ count
  unfolding cell_at
  first_most zero h = omega arith
  first_most (suc o) h = stands_most count (suc o) _ (ordered.firsts (suc o) (omega arith) h)

  wrong_class_lem : (class o : ℕ) → o ≤ count → wrong_class cells count class o ≡ other_class class (tree_at cells count o)
  unfolding wrong_class
  wrong_class_lem class o h = rw (le-leb o count h, class_at_lem o h)

  wrong_list_lem : (class o : ℕ) → o ≤ count → wrong_list cells count class o ≡ other_list class (tree_at cells count o)
  unfolding wrong_list wrong_class
  wrong_list_lem class o h = rw (le-leb o count h, le-leb (first_at cells o) count (first_most o h), class_at_lem o h, item_at o h)

  module _ (i o : ℕ) (high : i ≤ count) (most : o ≤ count) where
    other_present_lem : (place : Place) → wrong_present cells count (first_at cells i) place o ≡ other_present place (tree_at cells count (first_at cells i)) (tree_at cells count o)
    unfolding wrong_present other_present wrong_item wrong_next
    other_present_lem Nothing = refl
    other_present_lem (Required class) = wrong_class_lem class o most
    other_present_lem (Optional class) = wrong_class_lem class o most
    other_present_lem (ListOf class) = wrong_list_lem class o most
    other_present_lem Item = rw (wrong_class_lem an_expression o most, wrong_class_lem a_type o most)
    other_present_lem Next =
        pick_true _ _ (le-leb (first_at cells i) count (first_most i high))
        ∙ wrong_list_lem (class_at cells (first_at cells i)) o most
        ∙ rw (class_at_lem (first_at cells i) (first_most i high))

    wrong_at_lem : (place : Place) → wrong_at cells count (first_at cells i) place o ≡ other_at place (tree_at cells count (first_at cells i)) (tree_at cells count o)
    unfolding other_at
    wrong_at_lem place = go (ℕ_discrete o 0)
      where
        go : Dec (o ≡ 0) → wrong_at cells count (first_at cells i) place o ≡ other_at place (tree_at cells count (first_at cells i)) (tree_at cells count o)
        go (yes z) = wrong_absent cells count (first_at cells i) place o z ∙ sym (pick_false _ _ (not-true _ (sym (there_at o most) ∙ eq-eqb o 0 z)))
        go (no z) = wrong_present_lem cells count (first_at cells i) place o z ∙ other_present_lem place ∙ sym (pick_true _ _ (not-false _ (sym (there_at o most) ∙ ne_eqb o 0 z)))

  module _ (i : ℕ) (low : 1 ≤ i) (high : i ≤ count) where
    pub operands_at : bad_operands cells count i ≡ other_operands (label_at cells i) (tree_at cells count (first_at cells i)) (tree_at cells count (second_at cells i))
    unfolding bad_operands other_operands label_at
    operands_at =
        rw (
          wrong_at_lem i (first_at cells i) high (stands_most count i _ (ordered.firsts i low high)) _,
          wrong_at_lem i (second_at cells i) high (stands_most count i _ (ordered.seconds i low high)) _,
        )

    pub plain_block_lem : (o : ℕ) → o ≤ count → plain_block cells o ≡ is_plain_block (tree_at cells count o)
    unfolding plain_block cell_at label_at
    plain_block_lem zero h = rw (tree_zero cells count)
    plain_block_lem (suc o) h = rw (node_at (suc o) (omega arith) h)

    pub output_at : bad_output cells i ≡ output_broken (label_at cells i) (tree_at cells count (first_at cells i))
    unfolding bad_output output_broken label_at
    output_at = rw (plain_block_lem (first_at cells i) (first_most i high))
