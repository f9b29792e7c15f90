-- `file_save::put` meets its contract. Assumes nothing.
use native.Mathlib.Omega.{arith}
use lib.ListN.{length-set}
use Rattle.laws.proofs.Putting.{put_one, put_two, put_three}
use Rattle.file_bytes.proofs.Numbers.{one_of, two_of, three_of, some_bytes}
use Rattle.file_save.proofs.put.Goals as goal

pub bounds-file-at : goal.bounds-file-at
bounds-file-at c = let e = rw (one_of _ c.if-value-lt128.true) at c.requires in omega arith

pub returns-then-value-lt128 : goal.returns-then-value-lt128
returns-then-value-lt128 c = rw (one_of _ c.if-value-lt128.true) (put_one _ _ _)

pub bounds-file-at-2 : goal.bounds-file-at-2
bounds-file-at-2 c = let b = (some_bytes c.args.value).0 in omega arith

pub bounds-file-at-then-value-lt16384 : goal.bounds-file-at-then-value-lt16384
bounds-file-at-then-value-lt16384 c = let e = rw (two_of _ c.if-value-lt128.false c.if-value-lt16384.true) at c.requires in simp length-set (omega arith)

pub returns-then-value-lt16384 : goal.returns-then-value-lt16384
returns-then-value-lt16384 c = rw (two_of _ c.if-value-lt128.false c.if-value-lt16384.true) (put_two _ _ _ _)

pub bounds-file-at-3 : goal.bounds-file-at-3
bounds-file-at-3 c = let e = rw (three_of _ c.if-value-lt16384.false) at c.requires in simp length-set (omega arith)

pub bounds-file-at-4 : goal.bounds-file-at-4
bounds-file-at-4 c = let e = rw (three_of _ c.if-value-lt16384.false) at c.requires in simp length-set (omega arith)

pub returns : goal.returns
returns c = rw (three_of _ c.if-value-lt16384.false) (put_three _ _ _ _ _)
