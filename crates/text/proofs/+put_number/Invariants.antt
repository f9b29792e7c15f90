-- `text::put_number` meets its contract: the number falls with each call. Assumes nothing.
use Prim.Native.Nat.{ℕ}
use native.Mathlib.Omega.{arith}
use borrow.Author.Rules.{rules}
use Rattle.laws.proofs.Calls.{free, given_at, given_below}
use Rattle.text.proofs.Digits.{decimal_one, decimal_more}
use Rattle.text.proofs.Growing.{grown_more}
use Rattle.text.proofs.+put_number.Given as goal

abbrev pub decreases-put_number : goal.decreases-put_number
decreases-put_number l = l.n
