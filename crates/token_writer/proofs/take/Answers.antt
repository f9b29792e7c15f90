-- `token_writer::take` meets its contract. Assumes nothing.
use Prim.Native.Nat.{◌/◌, ◌%◌}
use lib.ListN.{get_or}
use native.Mathlib.Omega.{arith}
use Rattle.token_writer.specs.Tasks.{task_step}
use Rattle.token_writer.proofs.Tasks.{taken_place, taken_sign, own_sign, own_code, put_together}
use Rattle.token_writer.proofs.Turns.{turned_sign}
use Rattle.token_writer.proofs.take.Goals as goal

pub bounds-stack-depth : goal.bounds-stack-depth
bounds-stack-depth c = omega arith

pub overflow_cast-what : goal.overflow_cast-what
overflow_cast-what c = omega (arith, c.slice_known-1.given c.args.depth)

pub overflow_cast-node : goal.overflow_cast-node
overflow_cast-node c = omega arith

pub enter-requires : goal.enter-requires
enter-requires c =
    let t = taken_place c.args.table.now.cells.now c.args.table.now.count _ c.if-what-lt-BETWEEN.true in
    (c.if-what-lt-BETWEEN.true, rw (← t.1) c.requires.1, rw (← t.0) c.requires.2, c.requires.3)

pub returns-then-what-lt-BETWEEN : goal.returns-then-what-lt-BETWEEN
returns-then-what-lt-BETWEEN c = rw (put_together (get_or c.args.stack.now c.args.depth 0)) at c.enter.ensures

pub settle-requires : goal.settle-requires
settle-requires c =
    let t = get_or c.args.stack.now c.args.depth 0 in
    rw (← own_sign c.args.table.now.cells.now c.args.table.now.count (t % task_step) (t / task_step) c.if-what-lt-CODE.true, ← taken_sign c.args.table.now.cells.now c.args.table.now.count t c.if-what-lt-BETWEEN.false) c.requires.2

pub returns-then-what-lt-CODE : goal.returns-then-what-lt-CODE
returns-then-what-lt-CODE c =
    let t = get_or c.args.stack.now c.args.depth 0 in
    let s = rw (← own_sign c.args.table.now.cells.now c.args.table.now.count (t % task_step) (t / task_step) c.if-what-lt-CODE.true) at c.settle.ensures in
    rw (put_together t) at (turned_sign c.args.table.now.cells.now c.args.table.now.count (t % task_step) (t / task_step) c.if-what-lt-BETWEEN.false (omega arith) c.args.stack.now c.args.depth c.args.tokens.now c.args.at _ _ s)

pub put_code-requires : goal.put_code-requires
put_code-requires c =
    let t = get_or c.args.stack.now c.args.depth 0 in
    let u = rw (taken_sign c.args.table.now.cells.now c.args.table.now.count t c.if-what-lt-BETWEEN.false, own_code c.args.table.now.cells.now c.args.table.now.count (t % task_step) (t / task_step) c.if-what-lt-CODE.false) at c.requires.2 in
    omega arith

pub returns : goal.returns
returns c =
    let t = get_or c.args.stack.now c.args.depth 0 in
    let s = rw (← own_code c.args.table.now.cells.now c.args.table.now.count (t % task_step) (t / task_step) c.if-what-lt-CODE.false) at c.put_code.ensures in
    rw (put_together t) at (turned_sign c.args.table.now.cells.now c.args.table.now.count (t % task_step) (t / task_step) c.if-what-lt-BETWEEN.false (omega arith) c.args.stack.now c.args.depth c.args.tokens.now c.args.at _ _ s)
