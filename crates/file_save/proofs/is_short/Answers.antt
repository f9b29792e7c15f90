-- `file_save::is_short` meets its contract. Assumes nothing.
use mathlib.Core.Path.{sym}
use native.Mathlib.Omega.{arith}
use lib.ListN.{length}
use borrow.Author.Tests.{lt-ltb, le-ltb}
use Rattle.file_bytes.proofs.Numbers.{some_bytes}
use Rattle.file_bytes.proofs.Several.{all_most}
use Rattle.file_save.proofs.Putting.{whole, whole_long, left_none}
use Rattle.file_save.proofs.is_short.Goals as goal

pub returns-then-thirds-numbers-gt1 : goal.returns-then-thirds-numbers-gt1
returns-then-thirds-numbers-gt1 c =
    let l = whole_long c.args.context c.args.count c.args.numbers.now in
    let x = some_bytes c.args.context in
    let y = some_bytes c.args.count in
    let m = all_most c.args.numbers.now in
    sym (le-ltb c.args.room (length (whole c.args.context c.args.count c.args.numbers.now)) (omega arith))

pub overflow_add-header : goal.overflow_add-header
overflow_add-header c =
    let x = some_bytes c.args.context in
    let y = some_bytes c.args.count in
    let p = c.long.ensures in
    let q = c.long-2.ensures in
    omega arith

pub returns-then-room-header : goal.returns-then-room-header
returns-then-room-header c =
    let l = whole_long c.args.context c.args.count c.args.numbers.now in
    let p = c.long.ensures in
    let q = c.long-2.ensures in
    sym (lt-ltb c.args.room (length (whole c.args.context c.args.count c.args.numbers.now)) (omega arith))

pub returns-then-is_enough : goal.returns-then-is_enough
returns-then-is_enough c =
    let l = whole_long c.args.context c.args.count c.args.numbers.now in
    let p = c.long.ensures in
    let q = c.long-2.ensures in
    let r = c.is_enough.ensures c.if-is_enough.true in
    sym (le-ltb c.args.room (length (whole c.args.context c.args.count c.args.numbers.now)) (omega arith))

pub returns : goal.returns
returns c = left_none c.args.context c.args.count c.args.numbers.now _ _ (omega (arith, c.long.ensures, c.long-2.ensures)) (omega (arith, c.if-room-header.false)) _ c.left_after.ensures _ c.is_none.ensures
