-- Document 02, Paper 5: "In context 3 a Struct outside every parenthesis, bracket and argument list has no reading". What follows for the readings in the two contexts.
use Rattle.std.specs.Prelude.{◌≡◌, List, ℕ}
use Rattle.tree.specs.Trees.{Tree}
use Rattle.token_grammar.specs.Tokens.{struct_token, code}
use Rattle.token_grammar.specs.Codes.{code_at}
use Rattle.token_grammar.specs.Grammar.{Context, NONE}
use Rattle.token_plain.specs.Reads.{Reads}

-- Each reading in a condition is one outside it.
abbrev pub Wider : Type 0
Wider = (c : Context) (cells : List ℕ) (t : Tree) → Reads c cells t → Reads NONE cells t

-- A token list without a Struct has the same readings in both contexts.
abbrev pub AnyContext : Type 0
AnyContext = (c d : Context) (cells : List ℕ) → ((i : ℕ) → code_at cells i ≡ code struct_token → ⊥) → (t : Tree) → Reads c cells t → Reads d cells t
