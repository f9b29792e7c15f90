-- `file_save::store` meets its contract. Assumes nothing.
use mathlib.Core.Path.{sym, ◌∙◌}
use native.Mathlib.Omega.{arith}
use Rattle.file_save.proofs.Putting.{whole, whole_long, room_whole, put_whole, no_room, has_room}
use Rattle.file_save.proofs.store.Goals as goal

pub put-second-requires : goal.put-second-requires
put-second-requires c =
    let r = room_whole c.args.context c.args.count c.args.numbers.now _ _ c.counted.ensures (sym c.is_short.ensures ∙ c.if-is_short.false) in
    let l = whole_long c.args.context c.args.count c.args.numbers.now in
    omega arith

pub put-body-requires : goal.put-body-requires
put-body-requires c =
    let r = room_whole c.args.context c.args.count c.args.numbers.now _ _ c.counted.ensures (sym c.is_short.ensures ∙ c.if-is_short.false) in
    let l = whole_long c.args.context c.args.count c.args.numbers.now in
    omega (arith, c.put-second.ensures.ends, c.put-second.ensures.room)

pub put_all-end-requires : goal.put_all-end-requires
put_all-end-requires c =
    let r = room_whole c.args.context c.args.count c.args.numbers.now _ _ c.counted.ensures (sym c.is_short.ensures ∙ c.if-is_short.false) in
    let l = whole_long c.args.context c.args.count c.args.numbers.now in
    omega (arith, c.put-second.ensures.ends, c.put-second.ensures.room, c.put-body.ensures.ends, c.put-body.ensures.room)

pub overflow_cast-result : goal.overflow_cast-result
overflow_cast-result c =
    let h = room_whole c.args.context c.args.count c.args.numbers.now _ _ c.counted.ensures (sym c.is_short.ensures ∙ c.if-is_short.false) in
    let l = whole_long c.args.context c.args.count c.args.numbers.now in
    omega (arith, c.put-second.ensures.ends, c.put-body.ensures.ends, c.put_all-end.ensures.ends)

pub returns-then-is_short : goal.returns-then-is_short
returns-then-is_short c =
    let whole = no_room _ _ _ (rw c.counted.ensures at (sym c.is_short.ensures ∙ c.if-is_short.true)) in
    record { reply = whole.0; file = whole.1 }

pub returns : goal.returns
returns c =
    let h = room_whole c.args.context c.args.count c.args.numbers.now _ _ c.counted.ensures (sym c.is_short.ensures ∙ c.if-is_short.false) in
    let l = whole_long c.args.context c.args.count c.args.numbers.now in
    let whole = has_room (whole c.args.context c.args.count c.args.numbers.now) c.args.file.now _ h.0 _ (omega (arith, c.put-second.ensures.ends, c.put-body.ensures.ends, c.put_all-end.ensures.ends)) _
    (put_whole c.args.context c.args.count c.args.numbers.now c.put-second.ensures c.put-body.ensures c.put_all-end.ensures h.1) in
    record { reply = whole.0; file = whole.1 }
