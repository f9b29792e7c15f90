-- The cycle of `scan_right` and `rightmost_subexpression_precedence`: the nodes behind the node become fewer, counted twice, with one between for the precedence. Assumes nothing.
use Prim.Native.Nat.{◌+◌, ◌*◌, ◌-◌}
use Rattle.fixup_scan.proofs.right.+rightmost_subexpression_precedence_scan_right.Given as goal

abbrev pub decreases-rightmost_subexpression_precedence : goal.decreases-rightmost_subexpression_precedence
decreases-rightmost_subexpression_precedence l = 2 * (l.table.now.count - l.node) + 1

abbrev pub decreases-scan_right : goal.decreases-scan_right
decreases-scan_right l = 2 * (l.table.now.count - l.node)
