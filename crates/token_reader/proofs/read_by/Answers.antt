-- `token_reader::read_by` meets its contract. Assumes nothing.
use mathlib.Core.Path.{◌≡◌, ap, ◌∙◌}
use Prim.Native.Nat.{suc, ◌+◌}
use native.Mathlib.Omega.{arith}
use Rattle.token_reader.specs.Pieces.{reply_of}
use Rattle.laws.specs.Choice.{pick, lookup}
use Rattle.tree.specs.Replies.{refusals, replied}
use Rattle.token_reader.proofs.Tells.{ready_start}
use Rattle.token_reader.proofs.Whole.{unread, answers_unread, answers_read}
use Rattle.token_reader.proofs.read_by.Goals as goal

pub expr-whole-requires : goal.expr-whole-requires
expr-whole-requires c = (ready_start c.requires.1 c.requires.2 c.requires.0.2 c.requires.3, omega arith)

pub returns-then-whole-tokens : goal.returns-then-whole-tokens
unfolding replied refusals lookup pick
returns-then-whole-tokens c = answers_unread _ _ _ c.requires.0.0 c.requires.0.1 c.requires.0.2 (unread _ c.expr-whole.ensures c.if-whole-tokens.true)

pub number-requires : goal.number-requires
number-requires c =
    let w = c.expr-whole.ensures.grew (omega (arith, c.if-whole-tokens.false)) in
    (omega (arith, c.requires.3, w.same), c.requires.2, w.less)

pub returns : goal.returns
returns c =
    let u : c.expr-whole.result.free + 1 ≡ suc c.expr-whole.result.free = omega arith in
    answers_read _ _ _ _ c.requires.0.0 c.requires.0.1 c.requires.0.2 c.expr-whole.ensures c.if-whole-tokens.false (rw u (c.reply_of.ensures ∙ ap reply_of c.number.ensures.reply)) (rw u c.number.ensures.out)
