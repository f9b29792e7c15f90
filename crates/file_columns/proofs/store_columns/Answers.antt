-- `file_columns::store_columns` meets its contract. Assumes nothing.
use mathlib.Core.Path.{sym, ◌∙◌}
use Rattle.file_save.proofs.Putting.{stored_counted, after_counted}
use Rattle.file_columns.specs.Columns.{columns_of}
use Rattle.file_columns.proofs.Bounds.{part_long, small_forms, short_columns, arranged_part, arranged_part_long}
use Rattle.file_columns.proofs.store_columns.Goals as goal

pub slice_bounds-arrange-end : goal.slice_bounds-arrange-end
slice_bounds-arrange-end c = sym (part_long _ _ _ c.requires.0)

pub arrange-requires : goal.arrange-requires
arrange-requires c = (c.requires.1, small_forms _ _ _ c.requires.0 (part_long _ _ _ c.requires.0))

pub slice_bounds-store-end-2 : goal.slice_bounds-store-end-2
slice_bounds-store-end-2 c = sym (arranged_part_long _ _ _ _ c.requires.1 c.arrange.ensures)

pub returns : goal.returns
unfolding columns_of
returns c =
    let s = short_columns _ _ _ c.requires.0 (part_long _ _ _ c.requires.0) in
    let e = arranged_part c.args.count _ _ _ c.requires.1 c.arrange.ensures in
    record {
      value = c.store.ensures.reply ∙ rw e (stored_counted _ s _);
      columns_after = c.store.ensures.file ∙ rw e (after_counted _ s c.args.columns.now);
    }
