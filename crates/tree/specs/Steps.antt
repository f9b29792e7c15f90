-- The walks of Walks over node numbers, one step at a time, as the code goes. No promise cites it.
use Rattle.std.specs.Prelude.{Bool, true, false, ◌&&◌, List, ℕ, leb}
use Rattle.laws.specs.Choice.{pick, Line, lookup}
use Rattle.std.specs.Prelude.{Option}
use Rattle.std.specs.Prelude.{None, Some}
use Rattle.tree.specs.Table.{first_column, second_column}
use Rattle.tree.specs.Trees.{Label, Tree, none, label_at, operand_at, tree_at}
use Rattle.tree.specs.Operands.{presence}
use Rattle.tree.specs.Walks.{Ask, answer, first, second}

abbrev pub is_present : Option ℕ → Bool
is_present None = false
is_present (Some n) = true

-- the tree at an operand
abbrev pub tree_of : List ℕ → ℕ → Option ℕ → Tree
tree_of cells count None = none
tree_of cells count (Some n) = tree_at cells count n

-- a step: the answer, or the number of the node that is asked next
pub data Step (A : Type 0) : Type 0 where
  ends : A → Step A
  goes : ℕ → Step A

abbrev pub into : {A : Type 0} → A → Option ℕ → Step A
into absent None = ends absent
into absent (Some n) = goes n

abbrev pub step_by : {A : Type 0} → A → Ask A → Option ℕ → (Option ℕ) → Step A
step_by absent (answer x) p q = ends x
step_by absent first p q = into absent p
step_by absent second p q = into absent q

-- what node i does with a question
abbrev pub asked_at : {A : Type 0} → (Label → Tree → Tree → List (Line (Ask A))) → (Label → A) → List ℕ → ℕ → ℕ → Ask A
asked_at rows other cells count i =
    lookup
    (rows (label_at cells i) (tree_at cells count (operand_at cells count i first_column)) (tree_at cells count (operand_at cells count i second_column)))
    (answer (other (label_at cells i)))
    (label_at cells i).form

unfoldable pub step_at : {A : Type 0} → (Label → Tree → Tree → List (Line (Ask A))) → (Label → A) → A → List ℕ → ℕ → ℕ → Step A
step_at rows other absent cells count i =
    pick
    (leb 1 i && leb i count)
    (step_by
    absent
    (asked_at rows other cells count i)
    (presence (operand_at cells count i first_column))
    (presence (operand_at cells count i second_column)))
    (ends absent)
