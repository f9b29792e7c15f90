-- Commas after last items: a parse tree without them, and what they are in a token list.
use Rattle.std.specs.Prelude.{◌≡◌, false, List, [], ◌∷◌, ◌⊎◌, ℕ, suc}
use Rattle.token_grammar.specs.Tokens.{gt, operator, code, right_paren, comma_token, symbol_of}
use Rattle.token_grammar.specs.Codes.{code_at}
use Rattle.token_grammar.specs.Types.{Sort, Ty, named, applied, pointing, sign, no_types, types, last_type, more_types}
use Rattle.token_grammar.specs.Expressions.{Expr, atom, paren, prefix, binary, cast, member, try, index, call, method, no_arguments, arguments, last_argument, more_arguments}

abbrev pub without_type_commas : {s : Sort} → Ty s → Ty s
without_type_commas (named y) = named y
without_type_commas (applied y l) = applied y (without_type_commas l)
without_type_commas (pointing p t) = pointing p (without_type_commas t)
without_type_commas (sign x) = sign x
without_type_commas no_types = no_types
without_type_commas (types l) = types (without_type_commas l)
without_type_commas (last_type comma t) = last_type false (without_type_commas t)
without_type_commas (more_types t l) = more_types (without_type_commas t) (without_type_commas l)

abbrev pub without_commas : {s : Sort} → Expr s → Expr s
without_commas (atom x) = atom x
without_commas (paren a) = paren (without_commas a)
without_commas (prefix p a) = prefix p (without_commas a)
without_commas (binary o a b) = binary o (without_commas a) (without_commas b)
without_commas (cast a t) = cast (without_commas a) (without_type_commas t)
without_commas (member m a) = member m (without_commas a)
without_commas (try a) = try (without_commas a)
without_commas (index a b) = index (without_commas a) (without_commas b)
without_commas (call a l) = call (without_commas a) (without_commas l)
without_commas (method y a l) = method y (without_commas a) (without_commas l)
without_commas no_arguments = no_arguments
without_commas (arguments l) = arguments (without_commas l)
without_commas (last_argument comma a) = last_argument false (without_commas a)
without_commas (more_arguments a l) = more_arguments (without_commas a) (without_commas l)

-- the signs that close a list: `)` and `>`
abbrev pub Closes : ℕ → Type 0
Closes n = (n ≡ code right_paren) ⊎ (n ≡ code (operator gt))

-- the second list of cells is the first with commas put in, each straight before a `)` or a `>` of the first, one at most
pub data CommasPut : List ℕ → List ℕ → Type 0 where
  ended : CommasPut [] []
  kept : (n y : ℕ) {without with : List ℕ} → CommasPut without with → CommasPut (n ∷ y ∷ without) (n ∷ y ∷ with)
  put : (n y : ℕ) {without with : List ℕ} → Closes n → CommasPut without with → CommasPut (n ∷ y ∷ without) (code comma_token ∷ symbol_of comma_token ∷ n ∷ y ∷ with)

-- no comma stands straight before a `)` or a `>`
abbrev pub NoLastComma : List ℕ → Type 0
NoLastComma cells = (i : ℕ) → code_at cells i ≡ code comma_token → Closes (code_at cells (suc i)) → ⊥
