-- `token_reader::are_tokens` meets its contract. Assumes nothing.
use Rattle.std.proofs.Common.{◌≡◌, ◌+◌, ◌*◌, refl, sym, ◌∙◌, arith}
use borrow.Author.Tests.{not-true, not-false}
use Rattle.tree.specs.Sizes.{token_cells}
use Rattle.token_reader.proofs.Codes.{are_odd, are_not, are_next, are_end}
use Rattle.token_reader.proofs.are_tokens.Goals as goal

pub returns-then-tokens : goal.returns-then-tokens
returns-then-tokens c = sym (are_odd c.args.tokens.now c.if-tokens.true)

pub loop-done-init : goal.loop-done-init
loop-done-init c = refl

pub returns-then-not-is_token : goal.returns-then-not-is_token
returns-then-not-is_token c = sym (c.loop-done.invariant ∙ are_not _ (token_cells * c.loop-done.done) (omega arith) (sym c.is_token.ensures ∙ not-true _ c.if-not-is_token.true-raw))

pub loop-done-preserved : goal.loop-done-preserved
loop-done-preserved c =
    let e : token_cells * c.loop-done.done + token_cells ≡ token_cells * (c.loop-done.done + 1) = omega arith in
    rw e at (c.loop-done.invariant ∙ are_next _ (token_cells * c.loop-done.done) (omega arith) (sym c.is_token.ensures ∙ not-false _ c.if-not-is_token.false-raw))

pub returns : goal.returns
returns c = sym (c.loop-done.invariant ∙ are_end _ (token_cells * c.loop-done.done) (omega arith))
