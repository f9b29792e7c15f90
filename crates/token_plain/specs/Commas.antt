-- Document 02, Paper 1: "What is written for a plain tree still reads back uniquely; a token list with such commas has the readings of the list without them."
use Rattle.std.specs.Prelude.{◌≡◌, []}
use Rattle.tree.specs.Trees.{Tree}
use Rattle.token_grammar.specs.Tokens.{cells_of}
use Rattle.token_grammar.specs.Types.{one}
use Rattle.token_grammar.specs.Expressions.{Expr, write}
use Rattle.token_grammar.specs.Grammar.{Context, Fits}
use Rattle.token_grammar.specs.Commas.{without_commas, CommasPut}
use Rattle.token_plain.specs.Reads.{Reads}

-- Two parse trees that differ at most in which of their non-empty lists end in a comma: if the grammar allows one, each reading of its token list is one of the other's.
abbrev pub SameReadings : Type 0
SameReadings = (c : Context) (d e : Expr one) → Fits c d → without_commas d ≡ without_commas e → (t : Tree) → Reads c (cells_of (write d [])) t → Reads c (cells_of (write e [])) t

-- A parse tree's tokens are those without such commas, with commas put in straight before a `)` or a `>`, and nothing else.
abbrev pub OnlyCommas : Type 0
OnlyCommas = (e : Expr one) → CommasPut (cells_of (write (without_commas e) [])) (cells_of (write e []))
