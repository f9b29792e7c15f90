-- The parse trees of plain expressions, and their tokens.
-- "Plain: Path, Lit, Paren, Unary, Reference, Binary, Assign, Cast, Field, Index, Call, MethodCall, Try, Await, no attributes; .. and the links of their lists."
-- Document 02, Paper 5: "Struct becomes plain, closed, with token 46 of its own"
use Rattle.std.specs.Prelude.{Bool, true, false, List, ◌∷◌, ℕ}
use Rattle.token_grammar.specs.Tokens.{Operator, sub, mul, bit_and, Token, operator, bang, and_mut, as_token, name_token, literal_token, dot, left_paren, right_paren, left_bracket, right_bracket, comma_token, question, numbered_member, await, struct_token}
use Rattle.token_grammar.specs.Levels.{Kind, casts, prefixes, postfixes, kind}
use Rattle.token_grammar.specs.Types.{Sort, one, list, items, Ty, closing, write_type, type_ends_in_name}

-- Path and Lit, each with its symbol, and Struct
pub data Atom : Type 0 where
  path literal : ℕ → Atom
  structure : Atom

-- Unary (Neg, Deref, Not), and Reference, shared or mutable
pub data Prefix : Type 0 where
  neg deref invert ref ref_mut : Prefix

-- what stands after a dot: Field, named or numbered, with its symbol, and Await
pub data Member : Type 0 where
  by_name by_number : ℕ → Member
  awaited : Member

pub data Expr : Sort → Type 0 where
  atom : Atom → Expr one
  -- parentheses: a Paren, or a pair that was added
  paren : Expr one → Expr one
  prefix : Prefix → Expr one → Expr one
  -- Binary, and Assign
  binary : Operator → Expr one → Expr one → Expr one
  cast : Expr one → Ty one → Expr one
  member : Member → Expr one → Expr one
  try : Expr one → Expr one
  index : Expr one → Expr one → Expr one
  call : Expr one → Expr list → Expr one
  -- with the symbol of its name
  method : ℕ → Expr one → Expr list → Expr one
  no_arguments : Expr list
  arguments : Expr items → Expr list
  -- with a comma after it, or without
  last_argument : Bool → Expr one → Expr items
  more_arguments : Expr one → Expr items → Expr items

-- "32 name, 33 literal"; "token 46"
abbrev pub atom_token : Atom → Token
atom_token (path y) = name_token y
atom_token (literal y) = literal_token y
atom_token structure = struct_token

-- "Neg, Deref and shared reference use 1, 2 and 8."; "29 `!`, 30 `&mut`"
abbrev pub prefix_token : Prefix → Token
prefix_token neg = operator sub
prefix_token deref = operator mul
prefix_token invert = bang
prefix_token ref = operator bit_and
prefix_token ref_mut = and_mut

-- "32 name", "44 numbered member, 45 await"
abbrev pub member_token : Member → Token
member_token (by_name y) = name_token y
member_token (by_number y) = numbered_member y
member_token awaited = await

-- A parse tree's tokens, and then `rest`. "Lists may be empty and have commas between items"; `closing` has the comma after a last item.
abbrev pub write : {s : Sort} → Expr s → List Token → List Token
write (atom x) rest = atom_token x ∷ rest
write (paren a) rest = left_paren ∷ write a (right_paren ∷ rest)
write (prefix p a) rest = prefix_token p ∷ write a rest
write (binary o a b) rest = write a (operator o ∷ write b rest)
write (cast a t) rest = write a (as_token ∷ write_type t rest)
write (member m a) rest = write a (dot ∷ member_token m ∷ rest)
write (try a) rest = write a (question ∷ rest)
write (index a b) rest = write a (left_bracket ∷ write b (right_bracket ∷ rest))
write (call a l) rest = write a (left_paren ∷ write l rest)
write (method y a l) rest = write a (dot ∷ name_token y ∷ left_paren ∷ write l rest)
write no_arguments rest = right_paren ∷ rest
write (arguments l) rest = write l rest
write (last_argument comma a) rest = write a (closing comma right_paren rest)
write (more_arguments a l) rest = write a (comma_token ∷ write l rest)

-- what an expression counts as where it is an operand: names, literals and what stands in parentheses are as strong as the postfix forms
abbrev pub kind_of : Expr one → Kind
kind_of (atom x) = postfixes
kind_of (paren a) = postfixes
kind_of (prefix p a) = prefixes
kind_of (binary o a b) = kind o
kind_of (cast a t) = casts
kind_of (member m a) = postfixes
kind_of (try a) = postfixes
kind_of (index a b) = postfixes
kind_of (call a l) = postfixes
kind_of (method y a l) = postfixes

-- whether the last token is a type name
abbrev pub ends_in_type_name : Expr one → Bool
ends_in_type_name (atom x) = false
ends_in_type_name (paren a) = false
ends_in_type_name (prefix p a) = ends_in_type_name a
ends_in_type_name (binary o a b) = ends_in_type_name b
ends_in_type_name (cast a t) = type_ends_in_name t
ends_in_type_name (member m a) = false
ends_in_type_name (try a) = false
ends_in_type_name (index a b) = false
ends_in_type_name (call a l) = false
ends_in_type_name (method y a l) = false

-- whether the last two tokens are a dot and a name
abbrev pub ends_in_dot_name : Expr one → Bool
ends_in_dot_name (atom x) = false
ends_in_dot_name (paren a) = false
ends_in_dot_name (prefix p a) = ends_in_dot_name a
ends_in_dot_name (binary o a b) = ends_in_dot_name b
ends_in_dot_name (cast a t) = false
ends_in_dot_name (member (by_name y) a) = true
ends_in_dot_name (member (by_number y) a) = false
ends_in_dot_name (member awaited a) = false
ends_in_dot_name (try a) = false
ends_in_dot_name (index a b) = false
ends_in_dot_name (call a l) = false
ends_in_dot_name (method y a l) = false

-- whether it is a Struct
abbrev pub is_struct : Expr one → Bool
is_struct (atom (path y)) = false
is_struct (atom (literal y)) = false
is_struct (atom structure) = true
is_struct (paren a) = false
is_struct (prefix p a) = false
is_struct (binary o a b) = false
is_struct (cast a t) = false
is_struct (member m a) = false
is_struct (try a) = false
is_struct (index a b) = false
is_struct (call a l) = false
is_struct (method y a l) = false
