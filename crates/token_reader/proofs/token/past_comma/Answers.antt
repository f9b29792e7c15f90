-- `token_reader::token::past_comma` meets its contract. Assumes nothing.
use mathlib.Core.Path.{sym, ◌∙◌}
use native.Mathlib.Omega.{arith}
use borrow.Author.Rules.{rules}
use Rattle.token_grammar.specs.Tokens.{comma_token, code}
use Rattle.token_reader.proofs.First.{there}
use Rattle.token_reader.proofs.Lists.{passed_none, passed_other, passed_one}
use Rattle.token_reader.proofs.token.past_comma.Goals as goal

pub returns-then-code_at-ne-COMMA : goal.returns-then-code_at-ne-COMMA
returns-then-code_at-ne-COMMA c = sym (passed_none c.args.tokens.now c.args.at c.args.close (λ e. c.if-code_at-ne-COMMA.true (c.code_at.ensures ∙ e)))

pub overflow_add-at : goal.overflow_add-at
overflow_add-at c = let b = there c.args.tokens.now c.args.at (code comma_token) (sym c.code_at.ensures ∙ c.if-code_at-ne-COMMA.false) (omega arith) in search rules

pub returns-then-code_at-close : goal.returns-then-code_at-close
returns-then-code_at-close c = sym (passed_other c.args.tokens.now c.args.at c.args.close (λ e. c.if-code_at-close.true (c.code_at-2.ensures ∙ e)))

pub overflow_add-result : goal.overflow_add-result
overflow_add-result c = let b = there c.args.tokens.now c.args.at (code comma_token) (sym c.code_at.ensures ∙ c.if-code_at-ne-COMMA.false) (omega arith) in search rules

pub returns : goal.returns
returns c = sym (passed_one c.args.tokens.now c.args.at c.args.close (sym c.code_at.ensures ∙ c.if-code_at-ne-COMMA.false) (sym c.code_at-2.ensures ∙ c.if-code_at-close.false))
