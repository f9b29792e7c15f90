-- The two callee orders by number. Document 02, Paper 10: "an open sheet holds, as an enum, its callee order: ours if opened from Paper 9 on, otherwise the crate's".
use Rattle.std.specs.Prelude.{ℕ, eqb}
use Rattle.laws.specs.Choice.{pick}
use Rattle.expr.specs.declared.order.CalleeOrder.{CalleeOrder}
use Rattle.expr.specs.declared.order.CalleeOrder.TheVariants.{Crates, Ours}

-- 0 the crate's, every other number ours
unfoldable pub order_numbered : ℕ → CalleeOrder
order_numbered order = pick (eqb order 0) Crates Ours
