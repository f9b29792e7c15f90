-- `token_writer::write_tree` meets its contract. Assumes nothing.
use mathlib.Core.Path.{refl}
use native.Mathlib.Omega.{arith}
use Rattle.tree.specs.Sizes.{most_nodes}
use Rattle.token_writer.proofs.Tasks.{enter_some}
use Rattle.token_writer.proofs.Loops.{start, fits, again, less, few_pairs, end}
use Rattle.token_writer.proofs.write_tree.Goals as goal

pub push-depth-requires : goal.push-depth-requires
push-depth-requires c = omega (arith, enter_some c.args.table.now.cells.now c.args.table.now.count 1)

pub loop-depth-init : goal.loop-depth-init
loop-depth-init c = start c.args.table.now.cells.now c.args.table.now.count c.args.here c.args.tokens.now _ c.requires.0 c.args.stack.now _ _ c.requires.1 c.push-depth.ensures.0 c.push-depth.ensures.1 c.push-depth.ensures.2 refl

pub take-next-requires : goal.take-next-requires
take-next-requires c = fits c.args.table.now.cells.now c.args.table.now.count c.args.here c.args.tokens.now _ _ _ _ _ _ c.loop-depth.invariant (omega arith) _ refl c.requires.2 c.requires.4

pub overflow_add-pairs : goal.overflow_add-pairs
overflow_add-pairs c = record { fits = let m = few_pairs c.args.table.now.cells.now c.args.table.now.count c.args.here c.args.tokens.now _ _ _ _ _ _ c.loop-depth.invariant (omega arith) _ refl _ _ _ c.take-next.ensures most_nodes c.requires.3 in omega arith }

pub loop-depth-smaller : goal.loop-depth-smaller
loop-depth-smaller c = less c.args.table.now.cells.now c.args.table.now.count c.args.here c.args.tokens.now _ _ _ _ _ _ c.loop-depth.invariant (omega arith) _ refl _ _ _ c.take-next.ensures

pub loop-depth-preserved : goal.loop-depth-preserved
loop-depth-preserved c = again c.args.table.now.cells.now c.args.table.now.count c.args.here c.args.tokens.now _ _ _ _ _ _ c.loop-depth.invariant (omega arith) _ refl _ _ _ c.take-next.ensures

pub returns : goal.returns
returns c = end c.args.table.now.cells.now c.args.table.now.count c.args.here c.args.tokens.now _ _ _ _ _ _ c.loop-depth.invariant (omega arith)
