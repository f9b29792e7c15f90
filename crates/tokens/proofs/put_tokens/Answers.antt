-- `tokens::put_tokens` meets its contract. Assumes nothing.
use native.Mathlib.Omega.{arith}
use Rattle.text.proofs.Growing.{grown_more, fits}
use Rattle.tokens.specs.Text.{listed}
use Rattle.tokens.proofs.Lines.{listed_most}
use borrow.Author.Rules.{rules}
use Rattle.tokens.proofs.put_tokens.Goals as goal

pub returns : goal.returns
unfolding listed
returns c =
    let most = listed_most c.args.cells.now c.requires.0 (λ i. omega (arith, c.shared_slice_known-1.given i)) in
    fits (omega arith) (grown_more c.put_ok-head.ensures (grown_more c.put_column-codes.ensures (grown_more c.put_byte-line.ensures (grown_more c.put_column-symbols.ensures c.put_byte.ensures))))
