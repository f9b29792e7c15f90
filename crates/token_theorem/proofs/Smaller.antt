-- A tree without its own parentheses has no more nodes and no longer paths. Assumes nothing.
use mathlib.Core.Path.{◌≡◌}
use mathlib.Core.Bool.{Bool, true, false}
use Prim.Native.Nat.{◌≤◌}
use native.Mathlib.Omega.{arith}
use lib.Dec.{eqb}
use borrow.Author.Tests.{le-ltb}
use Rattle.laws.specs.Choice.{pick}
use Rattle.tree.specs.Sizes.{most_nodes, most_levels}
use Rattle.tree.specs.Forms.{expr_paren}
use Rattle.tree.specs.Trees.{Tree, none, node, levels}
use Rattle.tree_numbering.specs.Numbered.{size, too_large}
use Rattle.token_plain.specs.Trees.{without_parens}

pub size_without : (t : Tree) → size (without_parens t) ≤ size t
unfolding size without_parens pick
size_without none = omega arith
size_without (node l a b) = go (eqb l.form expr_paren) (size_without a) (size_without b)
  where
    go : (c : Bool) → size (without_parens a) ≤ size a → size (without_parens b) ≤ size b → size (pick c (without_parens a) (node l (without_parens a) (without_parens b))) ≤ size (node l a b)
    go true p q = omega arith
    go false p q = omega arith

pub levels_without : (t : Tree) → levels (without_parens t) ≤ levels t
unfolding levels without_parens pick
levels_without none = omega arith
levels_without (node l a b) = go (eqb l.form expr_paren) (levels_without a) (levels_without b)
  where
    go : (c : Bool) → levels (without_parens a) ≤ levels a → levels (without_parens b) ≤ levels b → levels (pick c (without_parens a) (node l (without_parens a) (without_parens b))) ≤ levels (node l a b)
    go true p q = omega arith
    go false p q = omega arith

-- So what a tree within the limits leaves is within them.
pub not_large : (t : Tree) → size t ≤ most_nodes → levels t ≤ most_levels → too_large (without_parens t) ≡ false
unfolding too_large
not_large t h k =
    rw (
      le-ltb most_nodes (size (without_parens t)) (omega (arith, size_without t)),
      le-ltb most_levels (levels (without_parens t)) (omega (arith, levels_without t)),
    )
