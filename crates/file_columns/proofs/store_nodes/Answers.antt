-- `file_columns::store_nodes` meets its contract. Assumes nothing.
use mathlib.Core.Path.{sym, ◌∙◌}
use Rattle.file_save.proofs.Putting.{stored_counted, after_counted}
use Rattle.file_columns.proofs.Bounds.{part_long, short_file}
use Rattle.file_columns.proofs.store_nodes.Goals as goal

pub slice_bounds-store-end : goal.slice_bounds-store-end
slice_bounds-store-end c = sym (part_long _ _ _ c.requires)

pub returns : goal.returns
returns c =
    let s = short_file _ _ _ c.requires (part_long _ _ _ c.requires) in
    record {
      value = c.store.ensures.reply ∙ stored_counted _ s _;
      file_after = c.store.ensures.file ∙ after_counted _ s c.args.file.now;
    }
