-- `token_writer::write` meets its contract. Assumes nothing.
use Rattle.std.proofs.Common.{sym, ap, ◌∙◌, not, arith}
use borrow.Author.Tests.{not-true, not-false}
use Rattle.token_writer.proofs.Replied.{replied_ok, passed_up}
use Rattle.token_writer.proofs.Replies.{refused, short, in_context, not_plain, plainly, done}
use Rattle.token_writer.proofs.write.Goals as goal

pub returns-in_err-check : goal.returns-in_err-check
returns-in_err-check c =
    let whole = refused c.args.context c.args.count c.args.table.now c.args.tokens.now _ c.in_err-check.ensures in
    record { reply = passed_up _ _ c.from_residual.ensures.0 c.from_residual.ensures.1 ∙ whole.0; tokens = whole.1 }

pub returns-then-tokens-nodes : goal.returns-then-tokens-nodes
returns-then-tokens-nodes c =
    let zero = replied_ok _ _ _ c.in_ok-check.ensures in
    let whole = short c.args.context c.args.count c.args.table.now c.args.tokens.now zero (omega arith) in
    record { reply = whole.0; tokens = whole.1 }

pub returns-then-not-takes : goal.returns-then-not-takes
returns-then-not-takes c =
    let zero = replied_ok _ _ _ c.in_ok-check.ensures in
    let whole = in_context c.args.context c.args.count c.args.table.now c.args.tokens.now zero (omega (arith, c.if-tokens-nodes.false)) (not-true _ (ap not (sym c.takes.ensures) ∙ c.if-not-takes.true-raw)) in
    record { reply = whole.0; tokens = whole.1 }

pub returns-then-not-is_plain_table : goal.returns-then-not-is_plain_table
returns-then-not-is_plain_table c =
    let zero = replied_ok _ _ _ c.in_ok-check.ensures in
    let whole = not_plain c.args.context c.args.count c.args.table.now c.args.tokens.now zero (omega (arith, c.if-tokens-nodes.false)) (not-false _ (ap not (sym c.takes.ensures) ∙ c.if-not-takes.false-raw)) (not-true _ (ap not (sym c.is_plain_table.ensures) ∙ c.if-not-is_plain_table.true-raw)) in
    record { reply = whole.0; tokens = whole.1 }

pub write_plain-requires : goal.write_plain-requires
write_plain-requires c =
    let zero = replied_ok _ _ _ c.in_ok-check.ensures in
    plainly c.args.context c.args.count c.args.table.now c.args.tokens.now zero (omega (arith, c.if-tokens-nodes.false)) (not-false _ (ap not (sym c.takes.ensures) ∙ c.if-not-takes.false-raw)) (not-false _ (ap not (sym c.is_plain_table.ensures) ∙ c.if-not-is_plain_table.false-raw))

pub returns : goal.returns
returns c =
    let zero = replied_ok _ _ _ c.in_ok-check.ensures in
    let whole = done c.args.context c.args.count c.args.table.now c.args.tokens.now zero (omega (arith, c.if-tokens-nodes.false)) (not-false _ (ap not (sym c.takes.ensures) ∙ c.if-not-takes.false-raw)) (not-false _ (ap not (sym c.is_plain_table.ensures) ∙ c.if-not-is_plain_table.false-raw)) _ _ c.write_plain.ensures.reply c.write_plain.ensures.tokens in
    record { reply = whole.0; tokens = whole.1 }
