-- `tokens::put_table` meets its contract. Assumes nothing.
use mathlib.Core.Path.{◌≡◌, sym, ◌∙◌}
use mathlib.Core.List.{List}
use Prim.Native.Nat.{ℕ, ◌*◌}
use native.Mathlib.Omega.{arith}
use lib.ListN.{length, replicate, length-replicate}
use lib.Seq.{length-take-le}
use Rattle.text.proofs.Growing.{fits}
use Rattle.text.proofs.Spaces.{no_most}
use Rattle.tokens.proofs.Files.{refused_table, tokens_most, tokens_within, tokens_table}
use Rattle.tree.specs.Sizes.{token_cells, most_tokens}
use borrow.Author.Rules.{rules}
use Rattle.tokens.proofs.put_table.Goals as goal

-- the buffer as it is lent
abbrev zeros : List ℕ
zeros = replicate (token_cells * most_tokens) 0

room : length zeros ≡ token_cells * most_tokens
room = length-replicate {A = ℕ} (token_cells * most_tokens) 0

pub slice_bounds-tokens-end : goal.slice_bounds-tokens-end
slice_bounds-tokens-end c =
    let e = sym c.in-Ok.is ∙ c.write.ensures.reply in
    rw c.write.ensures.tokens (tokens_within c.args.context c.args.count c.args.table.now zeros room _ e)

pub slice_bounds-put_tokens-end : goal.slice_bounds-put_tokens-end
slice_bounds-put_tokens-end c =
    let e = sym c.in-Ok.is ∙ c.write.ensures.reply in
    sym (length-take-le _ _ (rw c.write.ensures.tokens (tokens_within c.args.context c.args.count c.args.table.now zeros room _ e)))

pub returns-in-Err : goal.returns-in-Err
returns-in-Err c =
    let e = sym c.in-Err.is ∙ c.write.ensures.reply in
    let head = no_most c.number.result (omega arith) in
    rw (← refused_table c.args.context c.args.count c.args.table.now zeros room _ e, ← c.number.ensures) (fits (omega arith) c.put_no.ensures)

pub returns-in-Ok : goal.returns-in-Ok
returns-in-Ok c =
    let e = sym c.in-Ok.is ∙ c.write.ensures.reply in
    rw (← tokens_table c.args.context c.args.count c.args.table.now zeros room _ e, ← c.write.ensures.tokens) c.put_tokens.ensures
