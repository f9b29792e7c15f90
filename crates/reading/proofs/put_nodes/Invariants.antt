-- `reading::put_nodes` meets its contract. Assumes nothing.
use Rattle.text.specs.Growth.{Grown}
use Rattle.reading.specs.Text.{nodes_text}
use Rattle.reading.proofs.put_nodes.Given as goal

abbrev pub invariant-loop-done : goal.invariant-loop-done
invariant-loop-done l = Grown l.initial.out l.end (nodes_text l.table l.done) l.out l.at
