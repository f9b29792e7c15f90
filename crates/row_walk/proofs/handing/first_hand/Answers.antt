-- `row_walk::handing::first_hand` meets its contract. Assumes nothing.
use mathlib.Core.Path.{ap, ◌∙◌}
use Prim.Native.Nat.{ℕ}
use Rattle.tree.specs.Trees.{tree_at}
use Rattle.expr.specs.Steps.{given_first}
use Rattle.expr.proofs.Operands.{first_is}
use Rattle.row_pack.specs.Packs.{unpacked_of}
use Rattle.row.specs.Hands.{hand_of}
use Rattle.row_walk.proofs.handing.first_hand.Goals as goal

pub returns-in-Some : goal.returns-in-Some
returns-in-Some c =
    let t = tree_at c.args.table.now.cells.now c.args.table.now.count c.args.node in
    c.in-Some.ensures c.args.order
    ∙ ap (λ (i : ℕ). hand_of (given_first c.args.order (unpacked_of c.args.own) t (tree_at c.args.table.now.cells.now c.args.table.now.count i))) c.requires
    ∙ ap hand_of (first_is _ _ _ c.args.order (unpacked_of c.args.own))
