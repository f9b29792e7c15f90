-- `row_open::look` meets its contract. Assumes nothing.
use mathlib.Core.Path.{◌≡◌, ap, ◌∙◌}
use Prim.Native.Nat.{ℕ, ◌*◌}
use lib.ListN.{replicate}
use Rattle.laws.specs.Lists.{over}
use Rattle.tree.specs.Sizes.{row_cells}
use Rattle.row_open.proofs.Tried.{joined_same}
use Rattle.row_open.proofs.Looked.{length_looked, outer_looked}
use Rattle.row_open.proofs.look.Goals as goal

pub join_all-requires : goal.join_all-requires
join_all-requires c =
    let f : c.fill.new.buffer ≡ over (replicate (row_cells * c.args.count) 0) c.args.rows.now =
    c.fill.ensures ∙ ap (λ (n : ℕ). over (replicate (row_cells * n) 0) c.args.rows.now) c.from.ensures in
    let l = length_looked c.args.order c.args.context c.args.count c.args.table.now c.args.rows.now _ _ c.requires.0 c.requires.2 f c.walk.ensures in
    (rw l c.requires.0, c.requires.1)

pub returns : goal.returns
returns c =
    let f : c.fill.new.buffer ≡ over (replicate (row_cells * c.args.count) 0) c.args.rows.now =
    c.fill.ensures ∙ ap (λ (n : ℕ). over (replicate (row_cells * n) 0) c.args.rows.now) c.from.ensures in
    record {
      rows = length_looked c.args.order c.args.context c.args.count c.args.table.now c.args.rows.now _ _ c.requires.0 c.requires.2 f c.walk.ensures;
      answers = c.join_all.ensures ∙ joined_same c.args.count _ _ (outer_looked c.args.order c.args.context c.args.count c.args.table.now c.args.rows.now _ _ c.requires.0 c.requires.2 f c.walk.ensures) c.args.answers.now;
    }
