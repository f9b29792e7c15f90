-- The cells of a tree, a node at a time. Assumes nothing.
use mathlib.Core.Path.{◌≡◌, refl, ◌∙◌}
use mathlib.Core.List.{List, [], ◌∷◌}
use Prim.Native.Nat.{ℕ, suc, ◌+◌, ◌*◌, ◌≤◌}
use native.Mathlib.Omega.{arith}
use lib.Dec.{eqb}
use lib.Seq.{sets}
use borrow.Author.Tests.{ne_eqb}
use Rattle.laws.specs.Choice.{pick}
use Rattle.tree.specs.Sizes.{node_cells}
use Rattle.tree.specs.Table.{cell_at, form_at, attributes_at, detail_at, symbol_at, first_column, second_column}
use Rattle.tree.specs.Trees.{Tree, none, node, label_at, operand_of, operand_at, tree_at}
use Rattle.tree.proofs.Unfold.{Standing, absent, present, standing, tree_zero, unfolds}
use Rattle.tree_numbering.specs.Numbered.{size, number_of, cells_from}
use Rattle.tree_numbering.proofs.Holds.{length_cells}
use Rattle.tree_numbering.proofs.Stores.{three_runs}

-- a tree at each number: none at 0, and one that is there at each number up to the count
pub record StandingTrees (f : ℕ → Tree) (count : ℕ) : Type 0 where
  pub none_there : f 0 ≡ none
  pub some_there : (i n : ℕ) → 1 ≤ i → i ≤ count → number_of (f i) n ≡ n

-- an operand's number is 0 where there is no node
pub operand_number : (f : ℕ → Tree) (count i o n : ℕ) → StandingTrees f count → pick (eqb (operand_of count i o) 0) 0 n ≡ number_of (f (operand_of count i o)) n
unfolding pick number_of
operand_number f count i o n s = go (operand_of count i o) (standing count i o)
  where
    go : (p : ℕ) → Standing count i o p → pick (eqb p 0) 0 n ≡ number_of (f p) n
    go p absent = rw s.none_there
    go p (present a b) = rw (ne_eqb p 0 (λ e. omega arith), s.some_there p n (omega arith) b)

pub trees_stand : (cells : List ℕ) (count : ℕ) → StandingTrees (tree_at cells count) count
unfolding number_of
trees_stand cells count = record { none_there = tree_zero cells count; some_there = λ i n low high. rw (unfolds cells count i low high) }

pub number_operand : (cells : List ℕ) (count i o n : ℕ) → pick (eqb (operand_of count i o) 0) 0 n ≡ number_of (tree_at cells count (operand_of count i o)) n
number_operand cells count i o n = operand_number (tree_at cells count) count i o n (trees_stand cells count)

-- trees that are numbered a node at a time, by the numbers of a table's operands
module _ (f : ℕ → Tree) (cells : List ℕ) (count i done : ℕ) (out : List ℕ) where
  -- what `number_from` ensures of its answer and of the lent table
  abbrev pub Written : ℕ → List ℕ → Type 0
  Written n after = (n ≡ done + size (f i)) × (after ≡ sets out (node_cells * done) (cells_from (suc done) (f i)))

  pub written_none : f i ≡ none → Written done out
  unfolding size cells_from
  written_none e = rw e (omega arith, refl)

  -- the node's first operand, then the node, then its second operand
  pub written_by : StandingTrees f count → f i ≡ node (label_at cells i) (f (operand_at cells count i first_column)) (f (operand_at cells count i second_column))
      → (o : ℕ) → o ≡ operand_at cells count i first_column → (p : ℕ) → p ≡ operand_at cells count i second_column
      → (after : ℕ) (first : List ℕ) → (after ≡ done + 1 + size (f o)) × (first ≡ sets out (node_cells * (done + 1)) (cells_from (suc (done + 1)) (f o)))
      → (x : ℕ) → x ≡ pick (eqb o 0) 0 (suc (done + 1)) → (y : ℕ) → y ≡ pick (eqb p 0) 0 (suc after)
      → (own : List ℕ) → own ≡ sets first (node_cells * done) (form_at cells i ∷ attributes_at cells i ∷ detail_at cells i ∷ x ∷ y ∷ symbol_at cells i ∷ [])
      → (n : ℕ) (second : List ℕ) → (n ≡ after + size (f p)) × (second ≡ sets own (node_cells * after) (cells_from (suc after) (f p)))
      → Written n second
  unfolding cells_from label_at size
  written_by stand opens o eo p ep after first ef x ex y ey own eown n second es =
      let l = length_cells (suc (done + 1)) (f o) in
      let m : after ≡ done + 1 + size (f o) = ef.0 in
      let k : n ≡ after + size (f p) = es.0 in
      let fx : x ≡ number_of (f o) (suc (done + 1)) = ex ∙ rw eo (operand_number f count i (cell_at cells i first_column) (suc (done + 1)) stand) in
      let fy : y ≡ number_of (f p) (suc after) = ey ∙ rw ep (operand_number f count i (cell_at cells i second_column) (suc after) stand) in
      let r = three_runs
      (form_at cells i ∷ attributes_at cells i ∷ detail_at cells i ∷ x ∷ y ∷ symbol_at cells i ∷ [])
      (cells_from (suc (done + 1)) (f o))
      (cells_from (suc after) (f p))
      out (node_cells * done) (node_cells * (done + 1)) (node_cells * after) (omega arith) (omega arith) in
      let u : done + 1 ≡ suc done = omega arith in
      let v : suc after ≡ suc (suc done) + size (f o) = omega arith in
      rw (opens, ← eo, ← ep) (omega arith, es.1 ∙ rw (eown, ef.1) (r ∙ rw (fx, fy, v, u)))
