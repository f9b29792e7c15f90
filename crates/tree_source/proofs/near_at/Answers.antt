-- `tree_source::near_at` meets its contract. Assumes nothing.
use Prim.Native.Nat.{◌+◌}
use native.Mathlib.Omega.{arith}
use Rattle.tree_source.proofs.Near.{near_one, near_zero_second, near_two, near_zero_third, near_high_third, near_three}
use Rattle.tree_source.proofs.near_at.Goals as goal
use Rattle.tree_source.proofs.near_at.Goals.{then-high-eq0-via-then-high-eq0, then-high-eq0-via-else-high-eq0+then-high-gt3}

pub returns-then-low-lt128 : goal.returns-then-low-lt128
returns-then-low-lt128 c = near_one _ _ c.requires _ c.from-low.ensures c.if-low-lt128.true

pub returns-then-middle-eq0 : goal.returns-then-middle-eq0
returns-then-middle-eq0 c =
    let a = c.type_inv.file c.args.at in
    near_zero_second _ _ c.requires _ c.from-low.ensures c.if-low-lt128.false (omega (arith, c.from-low.ensures, a)) _ c.from-middle.ensures c.if-middle-eq0.true

pub returns-then-middle-lt128 : goal.returns-then-middle-lt128
returns-then-middle-lt128 c =
    let a = c.type_inv.file c.args.at in
    near_two _ _ c.requires _ c.from-low.ensures c.if-low-lt128.false (omega (arith, c.from-low.ensures, a)) _ c.from-middle.ensures c.if-middle-eq0.false c.if-middle-lt128.true

pub returns-then-high-eq0 : goal.returns-then-high-eq0
returns-then-high-eq0 c =
    let a = c.type_inv.file c.args.at in
    let b = c.type_inv.file (c.args.at + 1) in
    elim c.then-high-eq0.branch [
      | then-high-eq0-via-then-high-eq0 w ↦ near_zero_third _ _ c.requires _ c.from-low.ensures c.if-low-lt128.false (omega (arith, c.from-low.ensures, a)) _ c.from-middle.ensures c.if-middle-lt128.false (omega (arith, c.from-middle.ensures, b)) _ c.from-high.ensures w.if-high-eq0.true
      | then-high-eq0-via-else-high-eq0+then-high-gt3 w ↦ near_high_third _ _ c.requires _ c.from-low.ensures c.if-low-lt128.false (omega (arith, c.from-low.ensures, a)) _ c.from-middle.ensures c.if-middle-lt128.false (omega (arith, c.from-middle.ensures, b)) _ c.from-high.ensures w.if-high-gt3.true
    ]

pub returns : goal.returns
returns c =
    let a = c.type_inv.file c.args.at in
    let b = c.type_inv.file (c.args.at + 1) in
    near_three _ _ c.requires _ c.from-low.ensures c.if-low-lt128.false (omega (arith, c.from-low.ensures, a)) _ c.from-middle.ensures c.if-middle-lt128.false (omega (arith, c.from-middle.ensures, b)) _ c.from-high.ensures c.if-high-eq0.false c.if-high-gt3.false
