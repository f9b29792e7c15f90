-- `file_loader::known_at` meets its contract. Assumes nothing.
use native.Mathlib.Omega.{arith}
use Rattle.std.proofs.Common.{◌+◌}
use Rattle.file_numbers.proofs.Groups.{one_byte}
use Rattle.file_loader.proofs.Storing.{one_left, two_left, known_two, three_left, low_third, known_three}
use Rattle.file_loader.proofs.known_at.Goals as goal

pub bounds-file-at : goal.bounds-file-at
bounds-file-at c = one_left c.args.file.now c.args.at c.requires

pub overflow_add-result : goal.overflow_add-result
overflow_add-result c = omega (arith, c.well_formed.0.0, one_left c.args.file.now c.args.at c.requires)

pub returns-then-low-lt128 : goal.returns-then-low-lt128
returns-then-low-lt128 c = one_byte _ _ _ c.from-low.ensures (one_left c.args.file.now c.args.at c.requires) c.if-low-lt128.true

pub bounds-file-at-2 : goal.bounds-file-at-2
bounds-file-at-2 c = omega (arith, c.well_formed.0.0, two_left c.args.file.now c.args.at c.requires _ c.from-low.ensures c.if-low-lt128.false (omega (arith, c.from-low.ensures, c.type_inv.file c.args.at)))

pub returns-then-middle-lt128 : goal.returns-then-middle-lt128
returns-then-middle-lt128 c = known_two c.args.file.now c.args.at c.requires _ c.from-low.ensures c.if-low-lt128.false (omega (arith, c.from-low.ensures, c.type_inv.file c.args.at)) _ c.from-middle.ensures c.if-middle-lt128.true

pub bounds-file-at-3 : goal.bounds-file-at-3
bounds-file-at-3 c = omega (arith, c.well_formed.0.0, three_left c.args.file.now c.args.at c.requires _ c.from-low.ensures c.if-low-lt128.false (omega (arith, c.from-low.ensures, c.type_inv.file c.args.at)) _ c.from-middle.ensures c.if-middle-lt128.false (omega (arith, c.from-middle.ensures, c.type_inv.file (c.args.at + 1))))

pub overflow_mul-result-3 : goal.overflow_mul-result-3
overflow_mul-result-3 c = omega (arith, c.well_formed.0.0, low_third c.args.file.now c.args.at c.requires _ c.from-low.ensures c.if-low-lt128.false (omega (arith, c.from-low.ensures, c.type_inv.file c.args.at)) _ c.from-middle.ensures c.if-middle-lt128.false (omega (arith, c.from-middle.ensures, c.type_inv.file (c.args.at + 1))) _ c.from-high.ensures)

pub overflow_add-result-3 : goal.overflow_add-result-3
overflow_add-result-3 c = omega (arith, c.well_formed.0.0, low_third c.args.file.now c.args.at c.requires _ c.from-low.ensures c.if-low-lt128.false (omega (arith, c.from-low.ensures, c.type_inv.file c.args.at)) _ c.from-middle.ensures c.if-middle-lt128.false (omega (arith, c.from-middle.ensures, c.type_inv.file (c.args.at + 1))) _ c.from-high.ensures)

pub returns : goal.returns
returns c = known_three c.args.file.now c.args.at c.requires _ c.from-low.ensures c.if-low-lt128.false (omega (arith, c.from-low.ensures, c.type_inv.file c.args.at)) _ c.from-middle.ensures c.if-middle-lt128.false (omega (arith, c.from-middle.ensures, c.type_inv.file (c.args.at + 1))) _ c.from-high.ensures
