-- `token_reader::are_tokens` meets its contract. Assumes nothing.
use Rattle.std.proofs.Common.{◌≡◌, ◌*◌, drop}
use Rattle.tree.specs.Sizes.{token_cells}
use Rattle.token_grammar.specs.Codes.{are_tokens}
use Rattle.token_reader.proofs.are_tokens.Given as goal

abbrev pub invariant-loop-done : goal.invariant-loop-done
invariant-loop-done l = are_tokens l.tokens ≡ are_tokens (drop (token_cells * l.done) l.tokens)
