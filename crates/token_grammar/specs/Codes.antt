-- The token that a code and a symbol stand for, and the tokens of a list of cells: proofs/Tokens says that each code below the end's (`list_end`) is its token's.
use Rattle.std.specs.Prelude.{Bool, true, false, ◌&&◌, ◌||◌, List, [], ◌∷◌, ℕ, zero, suc, eqb, leb, get_or}
use Rattle.tree.specs.Sizes.{last_code, list_end}
use Rattle.token_grammar.specs.Tokens.{Operator, all_operators, Token, operator, bang, and_mut, as_token, name_token, literal_token, dot, left_paren, right_paren, left_bracket, right_bracket, comma_token, question, star_const, star_mut, underscore, numbered_member, await, struct_token, carries}

-- those that are no operators, in the order of their codes, with the symbol y where they have one
abbrev pub others : ℕ → List Token
others y = bang ∷ and_mut ∷ as_token ∷ name_token y ∷ literal_token y ∷ dot ∷ left_paren ∷ right_paren ∷ left_bracket ∷ right_bracket ∷ comma_token ∷ question ∷ star_const ∷ star_mut ∷ underscore ∷ numbered_member y ∷ await ∷ struct_token ∷ []

-- operators as tokens, and then the other tokens
abbrev pub spelled : ℕ → List Operator → List Token
spelled y [] = others y
spelled y (o ∷ os) = operator o ∷ spelled y os

-- from `list_end` on no token has the code
unfoldable pub token_of : ℕ → ℕ → Token
token_of n y = get_or (spelled y all_operators) n await

-- the same without a symbol, where only the code matters
abbrev pub sign_of : ℕ → Token
sign_of n = token_of n 0

-- two cells a token; a last cell without its symbol is none
abbrev pub tokens_of : List ℕ → List Token
tokens_of [] = []
tokens_of (n ∷ []) = []
tokens_of (n ∷ y ∷ cells) = token_of n y ∷ tokens_of cells

-- the code and the symbol of token number `at`, counted from 0; behind the last one `list_end`, which is no code
abbrev pub code_at : List ℕ → ℕ → ℕ
code_at [] at = list_end
code_at (n ∷ []) at = list_end
code_at (n ∷ y ∷ cells) zero = n
code_at (n ∷ y ∷ cells) (suc at) = code_at cells at

abbrev pub token_symbol_at : List ℕ → ℕ → ℕ
token_symbol_at [] at = 0
token_symbol_at (n ∷ []) at = 0
token_symbol_at (n ∷ y ∷ cells) zero = y
token_symbol_at (n ∷ y ∷ cells) (suc at) = token_symbol_at cells at

-- how many tokens they are
abbrev pub token_count : List ℕ → ℕ
token_count [] = 0
token_count (n ∷ []) = 0
token_count (n ∷ y ∷ cells) = suc (token_count cells)

-- Whether cells are those of tokens. 14: "holds a code above 45", which document 02, Paper 5, makes 46; Paper 4: "A symbol that is not 0 .. on another token", "a token list with an odd number of cells"
abbrev pub is_token : ℕ → ℕ → Bool
is_token n y = leb n last_code && (carries n || eqb y 0)

abbrev pub are_tokens : List ℕ → Bool
are_tokens [] = true
are_tokens (n ∷ []) = false
are_tokens (n ∷ y ∷ cells) = is_token n y && are_tokens cells
