-- Questions that a table over the forms answers, and questions that go down one side of a tree.
use Rattle.std.specs.Prelude.{Bool, true, false, List}
use Rattle.laws.specs.Choice.{Line, lookup}
use Rattle.tree.specs.Trees.{Label, Tree, none, node}

abbrev pub is_there : Tree → Bool
is_there none = false
is_there (node l a b) = true

-- a question that a node answers by itself: what the line of its form gives. The lines see a node's label and its operands
unfoldable pub at_root : {A : Type 0} → (Label → Tree → Tree → List (Line A)) → A → Tree → A
at_root lines other none = other
at_root lines other (node l a b) = lookup (lines l a b) other l.form

-- what a node does with a question: it answers, or puts the same question to one of its operands
pub data Ask (A : Type 0) : Type 0 where
  answer : A → Ask A
  first : Ask A
  second : Ask A

unfoldable pub follow : {A : Type 0} → Ask A → A → A → A
follow (answer x) a b = x
follow first a b = a
follow second a b = b

-- the answer for a tree. A form without a line answers `other`; where there is no node, the answer is `absent`
unfoldable pub walk : {A : Type 0} → (Label → Tree → Tree → List (Line (Ask A))) → (Label → A) → A → Tree → A
walk lines other absent none = absent
walk lines other absent (node l a b) = follow (lookup (lines l a b) (answer (other l)) l.form) (walk lines other absent a) (walk lines other absent b)
