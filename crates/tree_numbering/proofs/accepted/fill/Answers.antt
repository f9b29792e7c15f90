-- `tree_numbering::accepted::fill` meets its contract. Assumes nothing.
use mathlib.Core.Path.{◌∙◌}
use borrow.Author.Rules.{rules}
use Rattle.tree_numbering.proofs.Placing.{over_copied}
use Rattle.tree_numbering.proofs.accepted.fill.Goals as goal

pub returns : goal.returns
returns c = c.place.ensures ∙ over_copied 0 _ _ c.requires.0 _ _ _ c.copy.ensures
