-- `token_reader::types::after_item` meets its contract. Assumes nothing.
use mathlib.Core.Path.{refl, sym, ◌∙◌}
use native.Mathlib.Omega.{arith}
use borrow.Author.Rules.{rules}
use Rattle.token_grammar.specs.Tokens.{gt, operator}
use Rattle.token_reader.specs.Waiting.{last, another, unclosed}
use Rattle.token_reader.proofs.Lists.{closed_past, comma_there}
use Rattle.token_reader.proofs.types.after_item.Goals as goal

pub overflow_add-result : goal.overflow_add-result
overflow_add-result c =
    let p = closed_past c.args.tokens.now c.args.s.at (operator gt) (λ z. omega arith) c.past_comma-end.ensures (sym c.code_at-sign.ensures ∙ c.if-sign-eq-GT.true) in
    let q = p.1 in
    search rules

pub returns-then-sign-eq-GT : goal.returns-then-sign-eq-GT
returns-then-sign-eq-GT c = last _ c.requires.1 c.requires.2 c.past_comma-end.ensures (sym c.code_at-sign.ensures ∙ c.if-sign-eq-GT.true) c.store.ensures refl

pub wait-requires : goal.wait-requires
wait-requires c =
    let p = comma_there c.args.tokens.now c.args.s.at (operator gt) (λ z. omega arith) c.past_comma-end.ensures (sym c.code_at-sign.ensures ∙ c.if-sign-eq-COMMA.true) in
    omega (arith, c.requires.0.deep, c.requires.0.ready.cells)

pub returns-then-sign-eq-COMMA : goal.returns-then-sign-eq-COMMA
returns-then-sign-eq-COMMA c = another _ c.requires.1 c.requires.2 c.past_comma-end.ensures (λ z. c.if-sign-eq-GT.false (c.code_at-sign.ensures ∙ z)) (sym c.code_at-sign.ensures ∙ c.if-sign-eq-COMMA.true) c.wait.ensures.0 c.wait.ensures.1

pub returns : goal.returns
returns c = unclosed _ c.requires.1 c.requires.2 c.past_comma-end.ensures (λ z. c.if-sign-eq-GT.false (c.code_at-sign.ensures ∙ z)) (λ z. c.if-sign-eq-COMMA.false (c.code_at-sign.ensures ∙ z)) c.failed.ensures.0 c.failed.ensures.1 c.failed.ensures.2 refl
