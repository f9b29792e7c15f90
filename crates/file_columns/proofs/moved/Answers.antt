-- `file_columns::moved` meets its contract. Assumes nothing.
use native.Mathlib.Omega.{arith}
use Rattle.file_columns.proofs.Held.{even_moves, odd_moves, stays_inside}
use Rattle.file_columns.proofs.moved.Goals as goal

pub overflow_add-result : goal.overflow_add-result
overflow_add-result c =
    let m = even_moves c.args.held c.if-held-eq0.true in
    let i = stays_inside c.args.form c.args.held c.requires in
    omega arith

pub returns-then-held-eq0 : goal.returns-then-held-eq0
returns-then-held-eq0 c = let m = even_moves c.args.held c.if-held-eq0.true in omega arith

pub overflow_sub-result : goal.overflow_sub-result
overflow_sub-result c =
    let m = odd_moves c.args.held c.if-held-eq0.false in
    let i = stays_inside c.args.form c.args.held c.requires in
    omega arith

pub overflow_sub-result-2 : goal.overflow_sub-result-2
overflow_sub-result-2 c =
    let m = odd_moves c.args.held c.if-held-eq0.false in
    let i = stays_inside c.args.form c.args.held c.requires in
    omega arith

pub returns : goal.returns
returns c =
    let m = odd_moves c.args.held c.if-held-eq0.false in
    let i = stays_inside c.args.form c.args.held c.requires in
    omega arith
