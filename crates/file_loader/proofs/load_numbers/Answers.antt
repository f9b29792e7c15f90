-- `file_loader::load_numbers` meets its contract. Assumes nothing.
use Rattle.std.proofs.Common.{sym, ◌∙◌, []}
use Rattle.tree.specs.declared.refusal.Refusal.TheVariants.{Body}
use Rattle.tree_rules.proofs.Count.{count_fits}
use Rattle.file_loader.specs.Files.{numbers_refusal}
use Rattle.file_loader.proofs.Replied.{passed_up}
use Rattle.file_loader.proofs.Files.{numbers_refused, after_numbers, formed_numbers, five_is, five_formed, numbers_stored}
use Rattle.file_loader.proofs.load_numbers.Goals as goal

pub returns-in_err-context-clause-reply : goal.returns-in_err-context-clause-reply
unfolding numbers_refusal
returns-in_err-context-clause-reply c = passed_up _ _ c.from_residual.ensures.0 c.from_residual.ensures.1 ∙ (numbers_refused _ _ _ (c.in_err-context.ensures [])).0

pub returns-in_err-context-clause-table : goal.returns-in_err-context-clause-table
unfolding numbers_refusal
returns-in_err-context-clause-table c = (numbers_refused _ _ _ (c.in_err-context.ensures [])).1

pub returns-then-is_bad_body-clause-reply : goal.returns-then-is_bad_body-clause-reply
returns-then-is_bad_body-clause-reply c =
    let h = c.in_ok-context.ensures in
    let f = five_is _ _ _ _ _ h.begun h.ok h.fits ∙ sym (rw c.from-nodes.ensures at c.is_bad_body.ensures) ∙ c.if-is_bad_body.true in
    (numbers_refused _ _ Body (after_numbers _ _ _ _ _ h.begun h.ok h.fits f)).0

pub returns-then-is_bad_body-clause-table : goal.returns-then-is_bad_body-clause-table
returns-then-is_bad_body-clause-table c =
    let h = c.in_ok-context.ensures in
    let f = five_is _ _ _ _ _ h.begun h.ok h.fits ∙ sym (rw c.from-nodes.ensures at c.is_bad_body.ensures) ∙ c.if-is_bad_body.true in
    (numbers_refused _ _ Body (after_numbers _ _ _ _ _ h.begun h.ok h.fits f)).1

pub store-requires : goal.store-requires
store-requires c =
    let h = c.in_ok-context.ensures in
    let f = count_fits _ _ h.fits in
    rw c.from-nodes.ensures (f.2, five_formed _ (sym (rw c.from-nodes.ensures at c.is_bad_body.ensures) ∙ c.if-is_bad_body.false))

pub returns-clause-reply : goal.returns-clause-reply
returns-clause-reply c =
    let h = c.in_ok-context.ensures in
    let f = five_is _ _ _ _ _ h.begun h.ok h.fits ∙ sym (rw c.from-nodes.ensures at c.is_bad_body.ensures) ∙ c.if-is_bad_body.false in
    (numbers_stored _ c.args.table.now _ _ _ h.begun (formed_numbers _ _ _ _ _ h.begun h.ok h.fits f)).0

pub returns-clause-table : goal.returns-clause-table
returns-clause-table c =
    let h = c.in_ok-context.ensures in
    let f = five_is _ _ _ _ _ h.begun h.ok h.fits ∙ sym (rw c.from-nodes.ensures at c.is_bad_body.ensures) ∙ c.if-is_bad_body.false in
    (rw c.from-nodes.ensures at c.store.ensures) ∙ (numbers_stored _ c.args.table.now _ _ _ h.begun (formed_numbers _ _ _ _ _ h.begun h.ok h.fits f)).1
