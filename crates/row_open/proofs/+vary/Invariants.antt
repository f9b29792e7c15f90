-- `row_open::vary` meets its contract: each call is for one entry less. The loop keeps what the cells will hold when the operators that are left have been tried. Assumes nothing.
use mathlib.Core.Path.{◌≡◌}
use mathlib.Core.Bool.{true}
use Prim.Native.Nat.{suc, ◌-◌, ◌≤◌}
use lib.ListN.{length, set}
use Rattle.row_open.specs.Open.{entries_in}
use Rattle.row_open.specs.Steps.{is_new, news, sweep, varied}
use Rattle.row_open.proofs.+vary.Given as goal

abbrev pub decreases-vary : goal.decreases-vary
decreases-vary l = l.entered

abbrev pub invariant-loop-op : goal.invariant-loop-op
invariant-loop-op l =
    (l.lowest ≤ l.op)
    × (l.op ≤ l.highest → is_new l.lowest l.op ≡ true)
    × (length l.table ≡ length l.initial.table)
    × (length l.rows ≡ length l.initial.rows)
    × (length l.answers ≡ length l.initial.answers)
    × (set l.table l.place l.own ≡ l.initial.table)
    × (sweep (news l.lowest l.op (suc l.highest - l.op)) (λ o. varied l.order l.context l.count (entries_in l.others l.entries) (set l.initial.table l.place o)) l.answers
    ≡ sweep (news l.lowest l.lowest (suc l.highest - l.lowest)) (λ o. varied l.order l.context l.count (entries_in l.others l.entries) (set l.initial.table l.place o)) l.initial.answers)

abbrev pub decreases-loop-op : goal.decreases-loop-op
decreases-loop-op l = suc l.highest - l.op
