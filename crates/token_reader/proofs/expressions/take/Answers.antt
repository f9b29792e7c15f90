-- `token_reader::expressions::take` meets its contract. Assumes nothing.
use mathlib.Core.Path.{refl, sym, ◌∙◌}
use Rattle.token_reader.specs.Turns.{prefixed, grouped, ungrouped, operated, indexed, unindexed}
use Rattle.token_reader.proofs.expressions.take.Goals as goal

pub returns-then-code-ne-RIGHT_PAREN : goal.returns-then-code-ne-RIGHT_PAREN
returns-then-code-ne-RIGHT_PAREN c = ungrouped (sym (rw (c.in-Ok-Group.is, c.in-Ok-Group.field-0-is) at c.try_from.ensures)) (λ z. c.if-code-ne-RIGHT_PAREN.true (c.code_at-code.ensures ∙ z)) c.failed.ensures

pub returns-then-code-ne-RIGHT_BRACKET : goal.returns-then-code-ne-RIGHT_BRACKET
returns-then-code-ne-RIGHT_BRACKET c = unindexed (sym (rw (c.in-Ok-Index.is, c.in-Ok-Index.field-0-is) at c.try_from.ensures)) (λ z. c.if-code-ne-RIGHT_BRACKET.true (c.code_at-code.ensures ∙ z)) c.failed-then-code-ne-RIGHT_BRACKET.ensures

pub returns-in-Ok-Prefix : goal.returns-in-Ok-Prefix
returns-in-Ok-Prefix c = prefixed _ (sym (rw (c.in-Ok-Prefix.is, c.in-Ok-Prefix.field-0-is) at c.try_from.ensures)) c.store-free.ensures c.pop.ensures

pub returns-else-code-ne-RIGHT_PAREN : goal.returns-else-code-ne-RIGHT_PAREN
returns-else-code-ne-RIGHT_PAREN c = grouped _ (sym (rw (c.in-Ok-Group.is, c.in-Ok-Group.field-0-is) at c.try_from.ensures)) (sym c.code_at-code.ensures ∙ c.if-code-ne-RIGHT_PAREN.false) c.strongest.ensures refl c.pop-in-Ok-Group.ensures

pub returns-in-Ok-Binary : goal.returns-in-Ok-Binary
returns-in-Ok-Binary c = operated _ (sym (rw (c.in-Ok-Binary.is, c.in-Ok-Binary.field-0-is) at c.try_from.ensures)) (rw (c.operator_form.ensures, c.operator_detail.ensures) at c.store-free-in-Ok-Binary.ensures) (rw c.level_of.ensures at c.pop-in-Ok-Binary.ensures)

pub returns-else-code-ne-RIGHT_BRACKET : goal.returns-else-code-ne-RIGHT_BRACKET
returns-else-code-ne-RIGHT_BRACKET c = indexed _ _ (sym (rw (c.in-Ok-Index.is, c.in-Ok-Index.field-0-is) at c.try_from.ensures)) (sym c.code_at-code.ensures ∙ c.if-code-ne-RIGHT_BRACKET.false) c.store-free-in-Ok-Index.ensures c.strongest-in-Ok-Index.ensures c.pop-in-Ok-Index.ensures
