-- `tokens::report` meets its contract. Assumes nothing.
use mathlib.Core.Path.{sym, ◌∙◌}
use native.Mathlib.Omega.{arith}
use lib.Seq.{length-take-le}
use Rattle.text.proofs.Growing.{fits, whole}
use Rattle.text.proofs.Spaces.{no_most}
use Rattle.tokens.proofs.Files.{cells_within, refused_file, accepted_file}
use borrow.Author.Rules.{rules}
use Rattle.tokens.proofs.report.Goals as goal

pub slice_bounds-table-end : goal.slice_bounds-table-end
slice_bounds-table-end c = cells_within _ _ c.load.ensures.table _ _ c.in-Ok.ensures.reply

pub slice_bounds-put_table-end-in-Ok : goal.slice_bounds-put_table-end-in-Ok
slice_bounds-put_table-end-in-Ok c = sym (length-take-le _ _ (cells_within _ _ c.load.ensures.table _ _ c.in-Ok.ensures.reply))

pub returns-in-Err : goal.returns-in-Err
returns-in-Err c =
    let head = no_most c.number.result (omega arith) in
    let all = (whole (fits (omega arith) c.put_no.ensures)) in
    record {
      prefix_len = all.0;
      out_after = rw (← refused_file _ _ c.load.ensures.table _ c.in-Err.ensures.reply, ← c.number.ensures) all.1;
    }

pub returns-in-Ok : goal.returns-in-Ok
returns-in-Ok c =
    let all = (whole c.put_table.ensures) in
    record {
      prefix_len = all.0;
      out_after = rw (← accepted_file _ _ c.load.ensures.table _ _ c.in-Ok.ensures.reply) all.1;
    }
