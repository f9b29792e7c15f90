-- `tree_one_pass::marks::mark_by` meets its contract. Assumes nothing.
use mathlib.Core.Path.{refl}
use Rattle.laws.proofs.Calls.{free}
use Rattle.tree_one_pass.proofs.Codes.{link_closes, plain_closes}
use borrow.Author.Rules.{rules}
use Rattle.tree_one_pass.proofs.marks.mark_by.Goals as goal

pub returns-then-fits : goal.returns-then-fits
returns-then-fits c = λ h. link_closes _ _ _ _ c.max-levels.ensures c.if-row-eq3.true (c.fits.ensures c.if-fits.true)

pub returns-then-fits-2 : goal.returns-then-fits-2
returns-then-fits-2 c = λ h. plain_closes _ _ _ _ c.max-levels.ensures c.if-row-eq3.false c.if-row-eq0.false (c.fits-2.ensures c.if-fits-2.true)
