-- The parse trees of plain types, and their tokens. "Plain: .. types Path (1 or 2), Ptr, Reference, Infer, Never; and the links of their lists."
use Rattle.std.specs.Prelude.{Bool, true, false, List, ◌∷◌, ℕ}
use Rattle.token_grammar.specs.Tokens.{Token, operator, bit_and, lt, gt, bang, and_mut, name_token, comma_token, star_const, star_mut, underscore}

-- An expression or a type; a list of them, perhaps empty, with the sign that closes it; the same with at least one item.
pub data Sort : Type 0 where
  one list items : Sort

-- Ptr and Reference, by what stands before the type
pub data TypePrefix : Type 0 where
  const_ptr mut_ptr shared_ref mut_ref : TypePrefix

pub data TypeSign : Type 0 where
  infer never : TypeSign

pub data Ty : Sort → Type 0 where
  -- a path without arguments, and one with them, each with its symbol
  named : ℕ → Ty one
  applied : ℕ → Ty list → Ty one
  -- Ptr and Reference
  pointing : TypePrefix → Ty one → Ty one
  -- Infer and Never
  sign : TypeSign → Ty one
  no_types : Ty list
  types : Ty items → Ty list
  -- with a comma after it, or without
  last_type : Bool → Ty one → Ty items
  more_types : Ty one → Ty items → Ty items

-- "41 `*const`, 42 `*mut`"; "Neg, Deref and shared reference use 1, 2 and 8."; "30 `&mut`"
abbrev pub type_prefix_token : TypePrefix → Token
type_prefix_token const_ptr = star_const
type_prefix_token mut_ptr = star_mut
type_prefix_token shared_ref = operator bit_and
type_prefix_token mut_ref = and_mut

-- "43 `_`", "29 `!`"
abbrev pub type_sign_token : TypeSign → Token
type_sign_token infer = underscore
type_sign_token never = bang

-- What closes a list behind its last item. Document 02, Paper 1: "one comma after the last item of an argument list or a type list that has at least one item"
abbrev pub closing : Bool → Token → List Token → List Token
closing true close rest = comma_token ∷ close ∷ rest
closing false close rest = close ∷ rest

-- A type's tokens, and then `rest`. "`<` there opens type arguments, closed by 17." "Lists may be empty and have commas between items"
abbrev pub write_type : {s : Sort} → Ty s → List Token → List Token
write_type (named y) rest = name_token y ∷ rest
write_type (applied y l) rest = name_token y ∷ operator lt ∷ write_type l rest
write_type (pointing p t) rest = type_prefix_token p ∷ write_type t rest
write_type (sign x) rest = type_sign_token x ∷ rest
write_type no_types rest = operator gt ∷ rest
write_type (types l) rest = write_type l rest
write_type (last_type comma t) rest = write_type t (closing comma (operator gt) rest)
write_type (more_types t l) rest = write_type t (comma_token ∷ write_type l rest)

-- whether its last token is a type name
abbrev pub type_ends_in_name : Ty one → Bool
type_ends_in_name (named y) = true
type_ends_in_name (applied y l) = false
type_ends_in_name (pointing p t) = type_ends_in_name t
type_ends_in_name (sign x) = false
