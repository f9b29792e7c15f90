-- The readings that the grammar gives a list of cells in a context.
use Rattle.std.specs.Prelude.{◌≡◌, List, [], ℕ}
use Rattle.tree.specs.Trees.{Tree}
use Rattle.token_grammar.specs.Tokens.{cells_of}
use Rattle.token_grammar.specs.Types.{one}
use Rattle.token_grammar.specs.Expressions.{Expr, write}
use Rattle.token_grammar.specs.Grammar.{Context, Fits}
use Rattle.token_plain.specs.Trees.{tree_of, without_parens}

-- "A reading of a token list is a tree that the grammar gives for the whole list":
pub record Reads (context : Context) (cells : List ℕ) (tree : Tree) : Type 0 where
  -- some parse tree that the grammar allows,
  pub parsed : Expr one
  pub fit : Fits context parsed
  -- whose tokens are the whole list, no more and no less,
  pub whole : cells_of (write parsed []) ≡ cells
  -- is the tree. "Parentheses group and leave no node."
  pub same : without_parens (tree_of parsed) ≡ tree
