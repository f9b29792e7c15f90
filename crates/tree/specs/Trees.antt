-- The tree that a node table stands for: every table, of any content and with any count, stands for one.
use Rattle.std.specs.Prelude.{◌&&◌, List, ℕ, zero, suc, ◌+◌, max, eqb, ltb, leb}
use Rattle.laws.specs.Choice.{pick}
use Rattle.tree.specs.Forms.{a_link, class_of}
use Rattle.tree.specs.Table.{cell_at, form_at, attributes_at, detail_at, symbol_at, first_column, second_column}

-- a node's numbers but its operands
pub record Label : Type 0 where
  pub form : ℕ
  pub attributes : ℕ
  pub detail : ℕ
  pub symbol : ℕ

-- a list link is a node, as in the table: its item and the next link are its operands
pub data Tree : Type 0 where
  none : Tree
  node : Label → Tree → Tree → Tree

unfoldable pub label_at : List ℕ → ℕ → Label
label_at cells i = record { form = form_at cells i; attributes = attributes_at cells i; detail = detail_at cells i; symbol = symbol_at cells i }

-- a number as an operand of node i: present where it is above i and at most the count, otherwise 0, absent
unfoldable pub operand_of : ℕ → ℕ → ℕ → ℕ
operand_of count i o = pick (ltb i o && leb o count) o 0

-- node i's operand at place k
abbrev pub operand_at : List ℕ → ℕ → ℕ → ℕ → ℕ
operand_at cells count i k = operand_of count i (cell_at cells i k)

-- the tree at a node that is present, or none at 0; n bounds how far the operands are followed
unfoldable pub tree_to : List ℕ → ℕ → ℕ → ℕ → Tree
tree_to cells count zero i = none
tree_to cells count (suc n) zero = none
tree_to cells count (suc n) (suc i) =
    node
    (label_at cells (suc i))
    (tree_to cells count n (operand_at cells count (suc i) first_column))
    (tree_to cells count n (operand_at cells count (suc i) second_column))

-- the tree at node i, none where i is 0 or above the count. Operands' numbers ascend, so a path holds at most `count` nodes
unfoldable pub tree_at : List ℕ → ℕ → ℕ → Tree
tree_at cells count i = tree_to cells count count (operand_of count 0 i)

-- 1 for an expression or a type, 0 for a link
unfoldable pub own_level : ℕ → ℕ
own_level form = pick (eqb (class_of form) a_link) 0 1

-- how many nodes the longest path from the root holds, list links not counted
unfoldable pub levels : Tree → ℕ
levels none = 0
levels (node l a b) = own_level l.form + max (levels a) (levels b)
