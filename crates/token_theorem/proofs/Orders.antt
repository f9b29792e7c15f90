-- The rows of a plain table do not see the callee order. Assumes nothing.
use Rattle.tree.specs.Trees.{tree_at}
use Rattle.row_walk.specs.Walk.{root_handed, rows_after}
use Rattle.token_rows.proofs.Orders.{plain_rows, table_plain}
use Rattle.token_theorem.specs.Statement.{PlainOrders}

pub plain_orders : PlainOrders
unfolding rows_after
plain_orders context count cells rows plain =
    rw (plain_rows (tree_at cells count 1) (root_handed context (tree_at cells count 1)) (table_plain count cells plain 1))
