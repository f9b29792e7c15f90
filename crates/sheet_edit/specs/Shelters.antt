-- Document 02, Paper 6: places whose rows an edit elsewhere leaves as they are, "inside an index, an argument or a Paren that does not contain the edited place".
use Rattle.std.specs.Prelude.{Bool, false, ◌||◌, List, [], ◌∷◌, eqb}
use Rattle.laws.specs.Choice.{is_one_of}
use Rattle.tree.specs.Forms.{expr_index, expr_paren, link}
use Rattle.tree.specs.Trees.{Label, Tree, none, node}
use Rattle.row_walk.specs.Paths.{Branch, first, second}

-- an operand that is printed in NONE and that nobody tests: an index, an item of a list, what stands in a Paren
abbrev pub shelters : Label → Branch → Bool
shelters l first = is_one_of (expr_paren ∷ link ∷ []) l.form
shelters l second = eqb l.form expr_index

-- whether a path of a tree passes such an operand
abbrev pub passes : Tree → List Branch → Bool
passes t [] = false
passes none (s ∷ q) = false
passes (node l a b) (first ∷ q) = shelters l first || passes a q
passes (node l a b) (second ∷ q) = shelters l second || passes b q

-- whether the path q parts from the path p and passes such an operand there or further down: an operand that does not contain the place at p.
-- A path that leads to p's place or below it does not part from p
abbrev pub sheltered : Tree → List Branch → List Branch → Bool
sheltered t [] q = false
sheltered t (s ∷ p) [] = false
sheltered none (s ∷ p) (r ∷ q) = false
sheltered (node l a b) (first ∷ p) (first ∷ q) = sheltered a p q
sheltered (node l a b) (second ∷ p) (second ∷ q) = sheltered b p q
sheltered (node l a b) (first ∷ p) (second ∷ q) = passes (node l a b) (second ∷ q)
sheltered (node l a b) (second ∷ p) (first ∷ q) = passes (node l a b) (first ∷ q)
