-- `tree_one_pass::rows::fits` meets its contract. Assumes nothing.
use borrow.Author.Rules.{rules}
use Rattle.tree_one_pass.proofs.Codes.{fits_bit}
use Rattle.tree_one_pass.proofs.rows.fits.Goals as goal

pub returns : goal.returns
returns c = λ e. fits_bit _ _ c.requires.0 c.requires.1 (rw c.from-bit.ensures at e)
