-- `parens::put_node` meets its contract. Assumes nothing.
use mathlib.Core.Path.{ap, ◌∙◌}
use Rattle.tree.specs.Forms.{class_of}
use Rattle.text.proofs.Growing.{grown_none}
use Rattle.parens.proofs.Lines.{no_line, a_line}
use borrow.Author.Rules.{rules}
use Rattle.parens.proofs.put_node.Goals as goal

pub returns-then-class_of-ne1 : goal.returns-then-class_of-ne1
returns-then-class_of-ne1 c = rw (no_line _ _ _ _ _ (c.class_of.ensures ∙ ap class_of c.form_number.ensures) c.if-class_of-ne1.true) (grown_none _ _)

pub returns : goal.returns
returns c = rw (a_line _ _ _ _ _ (c.class_of.ensures ∙ ap class_of c.form_number.ensures) c.if-class_of-ne1.false) c.put_row.ensures
