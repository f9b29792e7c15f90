-- A tree with what stands at a node replaced, a node at a time; the answers of `edited::number`, and what they leave in the lent table. Assumes nothing.
use mathlib.Core.Path.{◌≡◌, refl, sym, ap, ◌∙◌}
use mathlib.Core.Bool.{true, false}
use mathlib.Core.List.{List}
use Prim.Native.Nat.{ℕ, suc, ◌+◌, ◌*◌, ◌≤◌, ◌<◌}
use native.Mathlib.Omega.{arith}
use native.Mathlib.Decide.{ℕ_discrete}
use lib.Dec.{eqb}
use lib.ListN.{length}
use lib.Seq.{sets}
use borrow.Author.Tests.{eq-eqb, ne_eqb, lt-ltb, le-ltb}
use Rattle.std.specs.Prelude.{Option, None, Some}
use Rattle.laws.specs.Choice.{pick}
use Rattle.laws.specs.Lists.{over}
use Rattle.laws.proofs.Choice.{pick_true, pick_false, or_here, or_next}
use Rattle.tree.specs.Sizes.{node_cells, most_nodes}
use Rattle.tree.specs.Table.{first_column, second_column}
use Rattle.tree.specs.Trees.{Tree, none, node, label_at, operand_at, tree_at}
use Rattle.tree.proofs.Unfold.{tree_zero, tree_past, unfolds}
use Rattle.tree_numbering.specs.Numbered.{size, number_of, cells_from, numbered}
use Rattle.tree_numbering.specs.Renumbering.{too_short}
use Rattle.tree_numbering.specs.Replaced.{replaced, replaced_at, not_numbered, replaced_nodes, replaced_after}
use Rattle.tree_numbering.proofs.Nodes.{StandingTrees, trees_stand}
use Rattle.tree_numbering.proofs.Replies.{stored_over}

module _ (cells : List ℕ) (count j : ℕ) (s : Tree) where
  abbrev tree_after : ℕ → Tree
  tree_after i = replaced_at cells count j s i

  after_none : (i : ℕ) → tree_at cells count i ≡ none → tree_after i ≡ none
  unfolding replaced
  after_none i e = rw e

  pub after_zero : (i : ℕ) → i ≡ 0 → tree_after i ≡ none
  after_zero i z = rw z (after_none 0 (tree_zero cells count))

  pub after_past : (i : ℕ) → count < i → tree_after i ≡ none
  after_past i h = after_none i (tree_past cells count i h)

  module _ (i : ℕ) (low : 1 ≤ i) (high : i ≤ count) where
    pub after_here : i ≡ j → tree_after i ≡ s
    unfolding replaced pick
    after_here e = rw (unfolds cells count i low high, eq-eqb i j e)

    pub after_node : (i ≡ j → ⊥) → tree_after i ≡ node (label_at cells i) (tree_after (operand_at cells count i first_column)) (tree_after (operand_at cells count i second_column))
    unfolding replaced pick
    after_node n = rw (unfolds cells count i low high, ne_eqb i j n)

  -- a tree stands at each number, where the second tree is there
  pub after_stand : ((n : ℕ) → number_of s n ≡ n) → StandingTrees tree_after count
  unfolding number_of
  after_stand numb = record { none_there = after_zero 0 refl; some_there = λ i n low high. go i n low high (ℕ_discrete i j) }
    where
      go : (i n : ℕ) → 1 ≤ i → i ≤ count → Dec (i ≡ j) → number_of (tree_after i) n ≡ n
      go i n low high (yes z) = rw (after_here i low high z) (numb n)
      go i n low high (no z) = rw (after_node i low high z)

  pub size_none : (i : ℕ) → tree_after i ≡ none → size (tree_after i) ≡ 0
  unfolding size
  size_none i e = rw e

  pub size_node : (i : ℕ) → 1 ≤ i → i ≤ count → (i ≡ j → ⊥) → size (tree_after i) ≡ suc (size (tree_after (operand_at cells count i first_column)) + size (tree_after (operand_at cells count i second_column)))
  unfolding size
  size_node i low high n = rw (after_node i low high n)

-- a second tree that is there has its number
pub there_numbered : (cells : List ℕ) (count : ℕ) → 1 ≤ count → (n : ℕ) → number_of (tree_at cells count 1) n ≡ n
there_numbered cells count h n = (trees_stand cells count).some_there 1 n (omega arith) h

-- ---- the answers

module _ (nodes : ℕ) (t : Tree) (out : List ℕ) where
  -- what the two clauses of the contract say of an answer and of the lent table afterwards
  abbrev pub Numbers : Option ℕ → List ℕ → Type 0
  Numbers n after = (n ≡ replaced_nodes nodes t (length out)) × (after ≡ replaced_after nodes t out)

  not_numbered_lem : not_numbered nodes t (length out) ≡ true → Numbers None out
  unfolding replaced_nodes replaced_after
  not_numbered_lem e = (sym (pick_true _ _ e), sym (pick_true _ _ e))

  pub no_nodes : nodes ≡ 0 → Numbers None out
  unfolding not_numbered
  no_nodes z = not_numbered_lem (or_here _ (eq-eqb _ 0 z))

  module _ (some : 1 ≤ nodes) where
    there : eqb nodes 0 ≡ false
    there = ne_eqb nodes 0 (λ z. omega arith)

    pub many_nodes : most_nodes < size t → Numbers None out
    unfolding not_numbered
    many_nodes h = not_numbered_lem (or_next _ there ∙ or_here _ (lt-ltb _ _ h))

    module _ (few : size t ≤ most_nodes) where
      pub few_cells : length out < node_cells * size t → Numbers None out
      unfolding not_numbered too_short
      few_cells h = not_numbered_lem (or_next _ there ∙ or_next _ (le-ltb _ _ few) ∙ lt-ltb _ _ h)

      module _ (room : node_cells * size t ≤ length out) where
        fits : not_numbered nodes t (length out) ≡ false
        unfolding not_numbered too_short
        fits = or_next _ there ∙ or_next _ (le-ltb _ _ few) ∙ le-ltb _ _ room

        pub numbers : (n : ℕ) (after : List ℕ) → (n ≡ 0 + size t) × (after ≡ sets out 0 (cells_from 1 t)) → Numbers (Some n) after
        unfolding replaced_nodes replaced_after
        numbers n after e =
            let z : n ≡ size t = e.0 ∙ omega arith in
            (ap Some z ∙ sym (pick_false _ _ fits), stored_over t out room after e.1 ∙ sym (pick_false _ _ fits))

        -- for callers: what such an answer says
        pub all_numbered : (n : Option ℕ) (after : List ℕ) → Numbers n after → (n ≡ Some (size t)) × (after ≡ over (numbered t) out)
        unfolding replaced_nodes replaced_after
        all_numbered n after e = (e.0 ∙ pick_false _ _ fits, e.1 ∙ pick_false _ _ fits)
