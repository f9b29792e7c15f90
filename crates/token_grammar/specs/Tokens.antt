-- The plain tokens and their codes (document 01, 'Plain tokens and their grammar').
use Rattle.std.specs.Prelude.{Bool, List, [], ◌∷◌, ℕ, get_or}
use Rattle.laws.specs.Choice.{is_one_of}

-- The operators of Binary, and the `=` of Assign.
pub data Operator : Type 0 where
  add sub mul div rem and or bit_xor bit_and bit_or shl shr eq lt le ne ge gt : Operator
  add_assign sub_assign mul_assign div_assign rem_assign bit_xor_assign bit_and_assign bit_or_assign shl_assign shr_assign : Operator
  assign : Operator

-- "Binary 0 to 27: Add Sub Mul Div Rem And Or BitXor BitAnd BitOr Shl Shr Eq Lt Le Ne Ge Gt,
-- then assigning Add Sub Mul Div Rem BitXor BitAnd BitOr Shl Shr"; "28 `=`"
abbrev pub number : Operator → ℕ
number add = 0
number sub = 1
number mul = 2
number div = 3
number rem = 4
number and = 5
number or = 6
number bit_xor = 7
number bit_and = 8
number bit_or = 9
number shl = 10
number shr = 11
number eq = 12
number lt = 13
number le = 14
number ne = 15
number ge = 16
number gt = 17
number add_assign = 18
number sub_assign = 19
number mul_assign = 20
number div_assign = 21
number rem_assign = 22
number bit_xor_assign = 23
number bit_and_assign = 24
number bit_or_assign = 25
number shl_assign = 26
number shr_assign = 27
number assign = 28

-- Document 02, Paper 4: "A token becomes two 16-bit cells, code and symbol"; names, literals and numbered members have a symbol.
pub data Token : Type 0 where
  operator : Operator → Token
  bang and_mut as_token : Token
  name_token literal_token : ℕ → Token
  dot left_paren right_paren left_bracket right_bracket comma_token question star_const star_mut underscore : Token
  numbered_member : ℕ → Token
  await struct_token : Token

-- "Codes 0 to 27 spell the operators; 28 `=`, 29 `!`, 30 `&mut`, 31 `as`, 32 name, 33 literal, 34 `.`, 35 to 38 `( ) [ ]`,
-- 39 comma, 40 `?`, 41 `*const`, 42 `*mut`, 43 `_`, 44 numbered member, 45 await." Document 02, Paper 5: "Struct becomes plain, closed, with token 46 of its own"
abbrev pub code : Token → ℕ
code (operator o) = number o
code bang = 29
code and_mut = 30
code as_token = 31
code (name_token y) = 32
code (literal_token y) = 33
code dot = 34
code left_paren = 35
code right_paren = 36
code left_bracket = 37
code right_bracket = 38
code comma_token = 39
code question = 40
code star_const = 41
code star_mut = 42
code underscore = 43
code (numbered_member y) = 44
code await = 45
code struct_token = 46

-- "Symbols stand on tokens 32, 33 and 44"; on another it is 0
abbrev pub symbol_of : Token → ℕ
symbol_of (operator o) = 0
symbol_of bang = 0
symbol_of and_mut = 0
symbol_of as_token = 0
symbol_of (name_token y) = y
symbol_of (literal_token y) = y
symbol_of dot = 0
symbol_of left_paren = 0
symbol_of right_paren = 0
symbol_of left_bracket = 0
symbol_of right_bracket = 0
symbol_of comma_token = 0
symbol_of question = 0
symbol_of star_const = 0
symbol_of star_mut = 0
symbol_of underscore = 0
symbol_of (numbered_member y) = y
symbol_of await = 0
symbol_of struct_token = 0

-- whether a token of this code may have a symbol that is not 0
abbrev pub carries : ℕ → Bool
carries n = is_one_of (code (name_token 0) ∷ code (literal_token 0) ∷ code (numbered_member 0) ∷ []) n

-- the cells of a token list: of each token its code, and then its symbol
abbrev pub cells_of : List Token → List ℕ
cells_of [] = []
cells_of (t ∷ ts) = code t ∷ symbol_of t ∷ cells_of ts

-- in the order of their numbers
abbrev pub all_operators : List Operator
all_operators = add ∷ sub ∷ mul ∷ div ∷ rem ∷ and ∷ or ∷ bit_xor ∷ bit_and ∷ bit_or ∷ shl ∷ shr ∷ eq ∷ lt ∷ le ∷ ne ∷ ge ∷ gt ∷ add_assign ∷ sub_assign ∷ mul_assign ∷ div_assign ∷ rem_assign ∷ bit_xor_assign ∷ bit_and_assign ∷ bit_or_assign ∷ shl_assign ∷ shr_assign ∷ assign ∷ []

-- the operator with a number; from 29 on none has it
unfoldable pub operator_of : ℕ → Operator
operator_of n = get_or all_operators n assign
