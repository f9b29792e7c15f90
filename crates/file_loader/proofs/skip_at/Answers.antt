-- `file_loader::skip_at` meets its contract. Assumes nothing.
use Rattle.std.proofs.Common.{arith, ◌<◌, ◌+◌}
use Rattle.tree_source.proofs.Near.{near_one, near_two, near_three}
use Rattle.file_loader.proofs.skip_at.Goals as goal

pub returns-then-low-lt128 : goal.returns-then-low-lt128
returns-then-low-lt128 c = let n = near_one _ _ c.requires _ c.from-low.ensures c.if-low-lt128.true in (n.1, omega arith, n.2)

pub returns-then-middle-lt128 : goal.returns-then-middle-lt128
returns-then-middle-lt128 c =
    let low : c.from-low.result < 256 = omega (arith, c.from-low.ensures, c.type_inv.file c.args.at) in
    let n = near_two _ _ c.requires _ c.from-low.ensures c.if-low-lt128.false low _ c.from-middle.ensures c.if-middle-eq0.false c.if-middle-lt128.true in
    (n.1, omega arith, n.2)

pub returns : goal.returns
returns c =
    let low : c.from-low.result < 256 = omega (arith, c.from-low.ensures, c.type_inv.file c.args.at) in
    let middle : c.from-middle.result < 256 = omega (arith, c.from-middle.ensures, c.type_inv.file (c.args.at + 1)) in
    let n = near_three _ _ c.requires _ c.from-low.ensures c.if-low-lt128.false low _ c.from-middle.ensures c.if-middle-lt128.false middle _ c.from-high.ensures c.if-high-eq0.false (omega arith) in
    (n.1, omega arith, n.2)
