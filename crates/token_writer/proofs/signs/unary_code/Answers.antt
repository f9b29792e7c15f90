-- `token_writer::signs::unary_code` meets its contract. Assumes nothing.
use mathlib.Core.Path.{sym, ap, ◌∙◌}
use borrow.Author.Tests.{eq-eqb, ne_eqb}
use Rattle.laws.proofs.Choice.{pick_true, pick_false}
use Rattle.token_grammar.specs.Tokens.{code}
use Rattle.token_writer.proofs.Spelling.{code_pick}
use Rattle.token_writer.proofs.signs.unary_code.Goals as goal

pub returns-then-detail-eq0 : goal.returns-then-detail-eq0
returns-then-detail-eq0 c = sym (ap code (pick_true _ _ (eq-eqb _ 0 c.if-detail-eq0.true)))

pub returns : goal.returns
returns c = c.by_detail.ensures ∙ code_pick _ _ _ ∙ sym (ap code (pick_false _ _ (ne_eqb _ 0 c.if-detail-eq0.false)))
