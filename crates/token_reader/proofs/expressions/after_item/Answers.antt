-- `token_reader::expressions::after_item` meets its contract. Assumes nothing.
use mathlib.Core.Path.{sym, ◌∙◌}
use native.Mathlib.Omega.{arith}
use borrow.Author.Rules.{rules}
use Rattle.token_grammar.specs.Tokens.{right_paren}
use Rattle.token_reader.specs.Turns.{last, another, unclosed}
use Rattle.token_reader.proofs.Lists.{closed_past, comma_there}
use Rattle.token_reader.proofs.expressions.after_item.Goals as goal

pub store-free-requires : goal.store-free-requires
store-free-requires c =
    let p = closed_past c.args.tokens.now c.args.s.left.at right_paren (λ z. omega arith) c.past_comma-end.ensures (sym c.code_at-sign.ensures ∙ c.if-sign-eq-RIGHT_PAREN.true) in
    let p₀ = p.0 in
    let p₁ = p.1 in
    (omega (arith, c.requires.0.ready.room), c.requires.0.ready.cells)

pub overflow_add-end : goal.overflow_add-end
overflow_add-end c =
    let p = closed_past c.args.tokens.now c.args.s.left.at right_paren (λ z. omega arith) c.past_comma-end.ensures (sym c.code_at-sign.ensures ∙ c.if-sign-eq-RIGHT_PAREN.true) in
    let q = p.1 in
    search rules

pub returns-then-sign-eq-RIGHT_PAREN : goal.returns-then-sign-eq-RIGHT_PAREN
returns-then-sign-eq-RIGHT_PAREN c = last _ _ c.requires.1 c.past_comma-end.ensures (sym c.code_at-sign.ensures ∙ c.if-sign-eq-RIGHT_PAREN.true) c.store-free.ensures c.list.ensures

pub wait-requires : goal.wait-requires
wait-requires c =
    let p = comma_there c.args.tokens.now c.args.s.left.at right_paren (λ z. omega arith) c.past_comma-end.ensures (sym c.code_at-sign.ensures ∙ c.if-sign-eq-COMMA.true) in
    omega (arith, c.requires.0.deep, c.requires.0.ready.cells)

pub returns-then-sign-eq-COMMA : goal.returns-then-sign-eq-COMMA
returns-then-sign-eq-COMMA c = another _ c.requires.1 c.past_comma-end.ensures (λ z. c.if-sign-eq-RIGHT_PAREN.false (c.code_at-sign.ensures ∙ z)) (sym c.code_at-sign.ensures ∙ c.if-sign-eq-COMMA.true) c.wait.ensures.0 c.wait.ensures.1

pub returns : goal.returns
returns c = unclosed _ c.requires.1 c.past_comma-end.ensures (λ z. c.if-sign-eq-RIGHT_PAREN.false (c.code_at-sign.ensures ∙ z)) (λ z. c.if-sign-eq-COMMA.false (c.code_at-sign.ensures ∙ z)) c.failed.ensures
