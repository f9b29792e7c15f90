-- `file_loader::after_quick_node` meets its contract. Assumes nothing.
use Rattle.std.proofs.Common.{arith}
use Rattle.file_loader.proofs.Quick.{quick_last}
use Rattle.file_loader.proofs.after_quick_node.Goals as goal

pub returns : goal.returns
returns c =
    let s = c.in_ok-second.ensures in
    let y = c.in_ok-symbol.ensures in
    quick_last _ _ _ _ _ (omega arith) c.from.ensures c.from-2.ensures c.from-3.ensures (omega arith) _ _ s.0 s.1 y.0 y.1 _ c.skip_at-3.ensures
