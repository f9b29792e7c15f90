-- `row_walk::handing::second_hand` meets its contract. Assumes nothing.
use mathlib.Core.Path.{ap, ◌∙◌}
use Prim.Native.Nat.{ℕ}
use Rattle.tree.specs.Trees.{tree_at}
use Rattle.expr.specs.Steps.{given_second}
use Rattle.expr.proofs.Operands.{second_is}
use Rattle.row_pack.specs.Packs.{unpacked_of}
use Rattle.row.specs.Hands.{hand_of}
use Rattle.row_walk.proofs.handing.second_hand.Goals as goal

pub returns-in-Some : goal.returns-in-Some
returns-in-Some c =
    let t = tree_at c.args.table.now.cells.now c.args.table.now.count c.args.node in
    c.in-Some.ensures
    ∙ ap (λ (i : ℕ). hand_of (given_second (unpacked_of c.args.own) t (tree_at c.args.table.now.cells.now c.args.table.now.count i))) c.requires
    ∙ ap hand_of (second_is _ _ _ (unpacked_of c.args.own))
