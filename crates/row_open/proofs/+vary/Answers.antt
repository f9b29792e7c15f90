-- `row_open::vary` meets its contract: each call is for one entry less. The loop keeps what the cells will hold when the operators that are left have been tried. Assumes nothing.
use mathlib.Core.Path.{refl, sym, ap, ◌∙◌}
use Prim.Native.Nat.{ℕ, ◌*◌, ◌-◌, ◌≤◌, ◌<◌}
use native.Mathlib.Omega.{arith}
use lib.ListN.{length, get_or, set, length-set}
use lib.Seq.{set-set, set-get_or}
use Rattle.tree.specs.Sizes.{node_cells}
use Rattle.row_open.specs.Open.{entries_in, last_binary}
use Rattle.row_open.proofs.Entries.{last_within, others_within, less_room}
use Rattle.row_open.proofs.Shallow.{shallow_put}
use Rattle.row_open.proofs.Tried.{new_lowest, length_varied, varied_none, varied_more, varied_end, varied_last}
use Rattle.row_open.proofs.+vary.Goals as goal

pub look-requires : goal.look-requires
look-requires t c = (c.requires.0.wide, c.requires.0.told, c.requires.2)

pub returns-then-entered-eq0 : goal.returns-then-entered-eq0
returns-then-entered-eq0 t c =
    record {
      same_table = refl;
      same_length = c.look.ensures.rows;
      told = c.look.ensures.answers ∙ varied_none c.args.order c.args.context c.args.count c.args.entries.now c.args.entered c.if-entered-eq0.true c.args.table.now c.args.answers.now;
    }

pub overflow_sub-others : goal.overflow_sub-others
overflow_sub-others t c = omega arith

pub entry_at-entry-requires : goal.entry_at-entry-requires
entry_at-entry-requires t c = omega (arith, c.requires.0.entries, c.if-entered-eq0.false)

pub operator_place-place-requires : goal.operator_place-place-requires
operator_place-place-requires t c =
    let last : ((1 ≤ c.entry_at-entry.result.node) × (node_cells * c.entry_at-entry.result.node ≤ length c.args.table.now) × (c.entry_at-entry.result.highest ≤ last_binary)) =
    last_within c.args.entries.now c.args.entered (omega (arith, c.if-entered-eq0.false)) c.requires.1 _ c.entry_at-entry.ensures in
    (last).0

pub bounds-table-place : goal.bounds-table-place
bounds-table-place t c =
    let last : ((1 ≤ c.entry_at-entry.result.node) × (node_cells * c.entry_at-entry.result.node ≤ length c.args.table.now) × (c.entry_at-entry.result.highest ≤ last_binary)) =
    last_within c.args.entries.now c.args.entered (omega (arith, c.if-entered-eq0.false)) c.requires.1 _ c.entry_at-entry.ensures in
    let inside : (c.operator_place-place.result < length c.args.table.now) =
    let w = last in omega (arith, c.operator_place-place.ensures, w.0, w.1) in
    inside

pub loop-op-init : goal.loop-op-init
loop-op-init t c =
    let last : ((1 ≤ c.entry_at-entry.result.node) × (node_cells * c.entry_at-entry.result.node ≤ length c.args.table.now) × (c.entry_at-entry.result.highest ≤ last_binary)) =
    last_within c.args.entries.now c.args.entered (omega (arith, c.if-entered-eq0.false)) c.requires.1 _ c.entry_at-entry.ensures in
    (omega arith, λ h. new_lowest _ (omega (arith, (last).2)), refl, refl, refl, set-get_or _ _ 0, refl)

pub bounds-table-place-in-loop-op : goal.bounds-table-place-in-loop-op
bounds-table-place-in-loop-op t c =
    let last : ((1 ≤ c.entry_at-entry.result.node) × (node_cells * c.entry_at-entry.result.node ≤ length c.args.table.now) × (c.entry_at-entry.result.highest ≤ last_binary)) =
    last_within c.args.entries.now c.args.entered (omega (arith, c.if-entered-eq0.false)) c.requires.1 _ c.entry_at-entry.ensures in
    let inside : (c.operator_place-place.result < length c.args.table.now) =
    let w = last in omega (arith, c.operator_place-place.ensures, w.0, w.1) in
    omega (arith, inside, c.loop-op.invariant.2)

pub vary-requires : goal.vary-requires
vary-requires t c =
    let last : ((1 ≤ c.entry_at-entry.result.node) × (node_cells * c.entry_at-entry.result.node ≤ length c.args.table.now) × (c.entry_at-entry.result.highest ≤ last_binary)) =
    last_within c.args.entries.now c.args.entered (omega (arith, c.if-entered-eq0.false)) c.requires.1 _ c.entry_at-entry.ensures in
    let n : 0 < c.args.entered = omega (arith, c.if-entered-eq0.false) in
    let t' = sym (length-set c.loop-op.table c.operator_place-place.result c.loop-op.op ∙ c.loop-op.invariant.2) in
    (omega (arith, c.decreases), (less_room c.requires.0 t' (sym c.loop-op.invariant.3) (sym c.loop-op.invariant.4), others_within c.args.entries.now c.args.entered n c.requires.1 _ t', shallow_put c.args.count _ (last).0 c.args.table.now c.requires.2 _ c.operator_place-place.ensures c.loop-op.table _ c.loop-op.op c.loop-op.invariant.5))

pub next_new-op-requires : goal.next_new-op-requires
next_new-op-requires t c =
    let last : ((1 ≤ c.entry_at-entry.result.node) × (node_cells * c.entry_at-entry.result.node ≤ length c.args.table.now) × (c.entry_at-entry.result.highest ≤ last_binary)) =
    last_within c.args.entries.now c.args.entered (omega (arith, c.if-entered-eq0.false)) c.requires.1 _ c.entry_at-entry.ensures in
    (c.loop-op-test.true, (last).2)

pub loop-op-smaller : goal.loop-op-smaller
loop-op-smaller t c = omega (arith, c.next_new-op.ensures.above, c.loop-op-test.true)

pub loop-op-preserved : goal.loop-op-preserved
loop-op-preserved t c =
    let o = get_or c.args.table.now c.operator_place-place.result 0 in
    let es = entries_in (c.args.entered - 1) c.args.entries.now in (
      omega (arith, c.next_new-op.ensures.above, c.loop-op.invariant.0),
      c.next_new-op.ensures.new,
      ap length c.vary.ensures.same_table ∙ length-set {A = ℕ} c.loop-op.table c.operator_place-place.result c.loop-op.op ∙ c.loop-op.invariant.2,
      c.vary.ensures.same_length ∙ c.loop-op.invariant.3,
      ap length c.vary.ensures.told ∙ length_varied c.args.order c.args.context c.args.count es (set c.loop-op.table c.operator_place-place.result c.loop-op.op) c.loop-op.answers ∙ c.loop-op.invariant.4,
      rw c.vary.ensures.same_table (set-set {A = ℕ} c.loop-op.table c.operator_place-place.result c.loop-op.op o ∙ c.loop-op.invariant.5),
      varied_more c.args.order c.args.context c.args.count es c.args.table.now c.operator_place-place.result c.entry_at-entry.result.lowest c.entry_at-entry.result.highest c.loop-op.op c.loop-op.table o c.loop-op.invariant.5 c.loop-op-test.true (c.loop-op.invariant.1 c.loop-op-test.true) _ c.next_new-op.ensures _ _ _ c.vary.ensures.told c.loop-op.invariant.6,
    )

pub bounds-table-place-2 : goal.bounds-table-place-2
bounds-table-place-2 t c =
    let last : ((1 ≤ c.entry_at-entry.result.node) × (node_cells * c.entry_at-entry.result.node ≤ length c.args.table.now) × (c.entry_at-entry.result.highest ≤ last_binary)) =
    last_within c.args.entries.now c.args.entered (omega (arith, c.if-entered-eq0.false)) c.requires.1 _ c.entry_at-entry.ensures in
    let inside : (c.operator_place-place.result < length c.args.table.now) =
    let w = last in omega (arith, c.operator_place-place.ensures, w.0, w.1) in
    omega (arith, inside, c.loop-op.invariant.2)

pub returns : goal.returns
returns t c =
    let n : 0 < c.args.entered = omega (arith, c.if-entered-eq0.false) in
    record {
      same_table = c.loop-op.invariant.5;
      same_length = c.loop-op.invariant.3;
      told = varied_end c.args.order c.args.context c.args.count (entries_in (c.args.entered - 1) c.args.entries.now) c.args.table.now c.operator_place-place.result c.entry_at-entry.result.lowest c.entry_at-entry.result.highest c.loop-op.op c.loop-op-test.false _ _ c.loop-op.invariant.6 ∙ varied_last c.args.order c.args.context c.args.count c.args.entries.now c.args.entered n _ c.entry_at-entry.ensures _ c.operator_place-place.ensures c.args.table.now c.args.answers.now;
    }
