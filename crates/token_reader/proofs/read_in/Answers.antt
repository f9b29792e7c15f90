-- `token_reader::read_in` meets its contract. Assumes nothing.
use native.Mathlib.Omega.{arith}
use mathlib.Core.Path.{sym, ap, ◌∙◌}
use mathlib.Core.Bool.{not}
use borrow.Author.Tests.{not-true, not-false}
use Rattle.laws.specs.Choice.{pick, lookup}
use Rattle.tree.specs.Replies.{refusals, replied}
use Rattle.token_reader.proofs.Whole.{answers_short, answers_long, answers_other}
use Rattle.token_reader.proofs.read_in.Goals as goal

pub returns-then-table-lt-TABLE : goal.returns-then-table-lt-TABLE
unfolding replied refusals lookup pick
returns-then-table-lt-TABLE c = answers_short _ _ _ c.if-table-lt-TABLE.true

pub returns-then-tokens-gt-TOKENS : goal.returns-then-tokens-gt-TOKENS
unfolding replied refusals lookup pick
returns-then-tokens-gt-TOKENS c = answers_long _ _ _ (omega arith) c.if-tokens-gt-TOKENS.true

pub returns-then-not-are_tokens : goal.returns-then-not-are_tokens
unfolding replied refusals lookup pick
returns-then-not-are_tokens c = answers_other _ _ _ (omega arith) (omega arith) (not-true _ (ap not (sym c.are_tokens.ensures) ∙ c.if-not-are_tokens.true-raw))

pub read_within-requires : goal.read_within-requires
read_within-requires c = ((omega arith, omega arith, not-false _ (ap not (sym c.are_tokens.ensures) ∙ c.if-not-are_tokens.false-raw)), omega (arith, c.if-tokens-le-FEW_TOKENS.true), omega arith)

pub read_within-requires-then-tokens-le-SOME_TOKENS : goal.read_within-requires-then-tokens-le-SOME_TOKENS
read_within-requires-then-tokens-le-SOME_TOKENS c = ((omega arith, omega arith, not-false _ (ap not (sym c.are_tokens.ensures) ∙ c.if-not-are_tokens.false-raw)), omega (arith, c.if-tokens-le-SOME_TOKENS.true), omega arith)

pub read_within-requires-then-tokens-le-MANY_TOKENS : goal.read_within-requires-then-tokens-le-MANY_TOKENS
read_within-requires-then-tokens-le-MANY_TOKENS c = ((omega arith, omega arith, not-false _ (ap not (sym c.are_tokens.ensures) ∙ c.if-not-are_tokens.false-raw)), omega (arith, c.if-tokens-le-MANY_TOKENS.true), omega arith)

pub read_within-requires-2 : goal.read_within-requires-2
read_within-requires-2 c = ((omega arith, omega arith, not-false _ (ap not (sym c.are_tokens.ensures) ∙ c.if-not-are_tokens.false-raw)), omega (arith, c.if-tokens-gt-TOKENS.false), omega arith)
