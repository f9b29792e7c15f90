-- `sheet_edit::replace_by` meets its contract. Assumes nothing.
use mathlib.Core.Path.{ap, ◌∙◌}
use Prim.Native.Nat.{ℕ, ◌*◌}
use native.Mathlib.Omega.{arith}
use lib.ListN.{take}
use Rattle.laws.specs.Lists.{over}
use Rattle.tree.specs.Sizes.{node_cells}
use Rattle.laws.proofs.Calls.{free}
use Rattle.tree_numbering.proofs.Replaced.{all_numbered}
use Rattle.sheet_edit.specs.Steps.{joined}
use Rattle.sheet_edit.proofs.Replies.{copied, counted_nodes}
use borrow.Author.Rules.{rules}
use Rattle.sheet_edit.proofs.replace_by.Goals as goal

pub copy-requires : goal.copy-requires
copy-requires c =
    let z = all_numbered c.args.nodes (joined c.args.table.now c.args.count c.args.place c.args.second.now c.args.nodes) c.args.own.now c.requires.there c.requires.few c.requires.own_room _ _ (c.number.ensures.reply, c.number.ensures.out) in
    let w = counted_nodes _ _ _ _ _ z c.unwrap_or-done.ensures in
    let n = w.0 in
    let q = c.requires.own_room in
    let r = c.requires.table_room in
    let l = c.own-1.given in
    let f = c.from.ensures in
    (omega arith, omega arith)

pub returns : goal.returns
returns c =
    let z = all_numbered c.args.nodes (joined c.args.table.now c.args.count c.args.place c.args.second.now c.args.nodes) c.args.own.now c.requires.there c.requires.few c.requires.own_room _ _ (c.number.ensures.reply, c.number.ensures.out) in
    let w = counted_nodes _ _ _ _ _ z c.unwrap_or-done.ensures in
    copied (joined c.args.table.now c.args.count c.args.place c.args.second.now c.args.nodes) c.args.own.now c.args.table.now _ _ w _ (c.copy.ensures ∙ ap (λ (n : ℕ). over (take (node_cells * n) c.number.new.out) c.args.table.now) c.from.ensures)
