-- `text::put_number` meets its contract: the number falls with each call. Assumes nothing.
use Prim.Native.Nat.{ℕ}
use native.Mathlib.Omega.{arith}
use borrow.Author.Rules.{rules}
use Rattle.laws.proofs.Calls.{free, given_at, given_below}
use Rattle.text.proofs.Digits.{decimal_one, decimal_more}
use Rattle.text.proofs.Growing.{grown_more}
use Rattle.text.proofs.+put_number.Goals as goal

pub returns-then-n-lt10 : goal.returns-then-n-lt10
returns-then-n-lt10 t c = rw (decimal_one _ c.if-n-lt10.true, ← c.digit.ensures) c.put_byte.ensures

pub returns : goal.returns
returns t c =
    let more = decimal_more c.args.n (omega arith) in
    rw (more, ← c.digit-2.ensures) (grown_more c.put_number-next.ensures c.put_byte-2.ensures)
