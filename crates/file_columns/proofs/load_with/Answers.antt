-- `file_columns::load_with` meets its contract. Assumes nothing.
use mathlib.Core.Path.{◌≡◌, sym, ap}
use native.Mathlib.Omega.{arith}
use lib.ListN.{length, take}
use lib.Seq.{length-take-le}
use Rattle.file_loader.specs.Files.{count_in}
use Rattle.tree_rules.specs.Refusals.{refusal4}
use Rattle.file_columns.proofs.Replies.{cut_4}
use Rattle.file_columns.proofs.load_with.Goals as goal

pub load_in-requires : goal.load_in-requires
load_in-requires c = (omega arith, c.if-held-table.true, cut_4 _ _ _ c.requires.0 c.if-held-table.true)

pub slice_bounds-load_in-end-2 : goal.slice_bounds-load_in-end-2
slice_bounds-load_in-end-2 c = sym (length-take-le _ _ (omega arith))

pub load_in-requires-2 : goal.load_in-requires-2
load_in-requires-2 c =
    let p = c.requires in
    let l : length (take (length c.args.table.now) c.args.held.now) ≡ length c.args.table.now = length-take-le _ _ (omega arith) in
    (omega arith, omega arith, ap (refusal4 (count_in c.args.columns.now)) l)
