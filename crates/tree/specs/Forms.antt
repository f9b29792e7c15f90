-- The numbers of the forms that the definitions name, under the names that syn gives them; their classes; and the numbers that a node may hold (6).
use Rattle.std.specs.Prelude.{Bool, not, ◌&&◌, List, [], ◌∷◌, ℕ, eqb, leb}
use Rattle.laws.specs.Choice.{pick, Line, line, lookup}
use Rattle.tree.specs.Sizes.{most_symbol}

-- "Forms 1 to 40 are expressions: Array, Assign, Async, Await, Binary, Block, Break, Call, Cast, Closure, Const, Continue, Field, ForLoop, Group, If, Index, Infer, Let, Lit, Loop, Macro, Match, MethodCall, Paren, Path, Range, RawAddr, Reference, Repeat, Return, Struct, Try, TryBlock, Tuple, Unary, Unsafe, Verbatim, While, Yield."
abbrev pub expr_assign : ℕ
expr_assign = 2

abbrev pub expr_await : ℕ
expr_await = 4

abbrev pub expr_binary : ℕ
expr_binary = 5

abbrev pub expr_block : ℕ
expr_block = 6

abbrev pub expr_break : ℕ
expr_break = 7

abbrev pub expr_call : ℕ
expr_call = 8

abbrev pub expr_cast : ℕ
expr_cast = 9

abbrev pub expr_closure : ℕ
expr_closure = 10

abbrev pub expr_const : ℕ
expr_const = 11

abbrev pub expr_field : ℕ
expr_field = 13

abbrev pub expr_for_loop : ℕ
expr_for_loop = 14

abbrev pub expr_group : ℕ
expr_group = 15

abbrev pub expr_if : ℕ
expr_if = 16

abbrev pub expr_index : ℕ
expr_index = 17

abbrev pub expr_let : ℕ
expr_let = 19

abbrev pub expr_lit : ℕ
expr_lit = 20

abbrev pub expr_loop : ℕ
expr_loop = 21

abbrev pub expr_macro : ℕ
expr_macro = 22

abbrev pub expr_match : ℕ
expr_match = 23

abbrev pub expr_method_call : ℕ
expr_method_call = 24

abbrev pub expr_paren : ℕ
expr_paren = 25

abbrev pub expr_path : ℕ
expr_path = 26

abbrev pub expr_range : ℕ
expr_range = 27

abbrev pub expr_raw_addr : ℕ
expr_raw_addr = 28

abbrev pub expr_reference : ℕ
expr_reference = 29

abbrev pub expr_return : ℕ
expr_return = 31

abbrev pub expr_struct : ℕ
expr_struct = 32

abbrev pub expr_try : ℕ
expr_try = 33

abbrev pub expr_try_block : ℕ
expr_try_block = 34

abbrev pub expr_unary : ℕ
expr_unary = 36

abbrev pub expr_unsafe : ℕ
expr_unsafe = 37

abbrev pub expr_verbatim : ℕ
expr_verbatim = 38

abbrev pub expr_while : ℕ
expr_while = 39

abbrev pub expr_yield : ℕ
expr_yield = 40

-- "41 to 55 are types: Array, FnPtr, Group, ImplTrait, Infer, Macro, Never, Paren, Path, Ptr, Reference, Slice, TraitObject, Tuple, Verbatim."
abbrev pub type_fn_ptr : ℕ
type_fn_ptr = 42

abbrev pub type_impl_trait : ℕ
type_impl_trait = 44

abbrev pub type_infer : ℕ
type_infer = 45

abbrev pub type_macro : ℕ
type_macro = 46

abbrev pub type_never : ℕ
type_never = 47

abbrev pub type_path : ℕ
type_path = 49

abbrev pub type_ptr : ℕ
type_ptr = 50

abbrev pub type_reference : ℕ
type_reference = 51

abbrev pub type_trait_object : ℕ
type_trait_object = 53

abbrev pub type_verbatim : ℕ
type_verbatim = 55

-- "56 is a list link: first an item, second the next link or 0"
abbrev pub link : ℕ
link = 56

-- ---- classes

abbrev pub an_expression : ℕ
an_expression = 1

abbrev pub a_type : ℕ
a_type = 2

abbrev pub a_link : ℕ
a_link = 3

-- the class of a form; a number that is no form has none, 0
unfoldable pub class_of : ℕ → ℕ
class_of form = pick (eqb form 0) 0 (pick (leb form 40) an_expression (pick (leb form 55) a_type (pick (leb form 56) a_link 0)))

-- ---- the numbers that a node may hold

-- "Attributes: 0 none, 1 inner only, 2 some outer. Types, links and expression Verbatim have 0."
unfoldable pub highest_attributes : ℕ → ℕ
highest_attributes form = pick (eqb (class_of form) an_expression && not (eqb form expr_verbatim)) 2 0

-- 'Details', each from 0 up to what stands here. "All others 0."
unfoldable pub details : List (Line ℕ)
details =
    -- "Binary 0 to 27"
    line (expr_binary ∷ []) 27 ∷
    -- "Unary: Deref, Not, Neg as 0 to 2."
    line (expr_unary ∷ []) 2 ∷
    -- "Block, ForLoop, Loop, While, Break: 1 labelled."
    line (expr_block ∷ expr_for_loop ∷ expr_loop ∷ expr_while ∷ expr_break ∷ []) 1 ∷
    -- "Macros: 0 parenthesis, 1 bracket, 2 brace."
    line (expr_macro ∷ type_macro ∷ []) 2 ∷
    -- "Range: 1 closed. Field: 0 named, 1 numbered. Closure: 1 output written."
    line (expr_closure ∷ expr_field ∷ expr_range ∷ []) 1 ∷
    -- "Ptr, RawAddr, both References: 1 mutable."
    line (type_ptr ∷ expr_raw_addr ∷ expr_reference ∷ type_reference ∷ []) 1 ∷
    -- "Both Verbatims: 1 ends in a brace group."
    line (expr_verbatim ∷ type_verbatim ∷ []) 1 ∷
    -- "Path type, by last segment: 0 none there, 1 no arguments, 2 angle, 3 parenthesised."
    line (type_path ∷ []) 3 ∷
    -- "ImplTrait and TraitObject, by last bound: the same, or 4 lifetime, 5 precise capture, 6 verbatim, 7 verbatim ending in braces."
    line (type_impl_trait ∷ type_trait_object ∷ []) 7 ∷
    []

unfoldable pub highest_detail : ℕ → ℕ
highest_detail form = lookup details 0 form

-- Document 02, Paper 4: "a symbol from 0 to 65,535, used by Path, Lit, named or numbered Field, MethodCall and path types, and 0 elsewhere"
unfoldable pub symbols : ℕ → List (Line ℕ)
symbols detail =
    line (expr_field ∷ expr_lit ∷ expr_method_call ∷ expr_path ∷ []) most_symbol ∷
    -- the name of the last segment, where there is one: details 1 to 3
    line (type_path ∷ []) (pick (eqb detail 0) 0 most_symbol) ∷
    []

unfoldable pub highest_symbol : ℕ → ℕ → ℕ
highest_symbol form detail = lookup (symbols detail) 0 form

-- a form, an attribute, a detail and a symbol number that are allowed
unfoldable pub allowed : ℕ → ℕ → ℕ → ℕ → Bool
allowed form attributes detail symbol =
    not (eqb (class_of form) 0)
    && (leb attributes (highest_attributes form) && (leb detail (highest_detail form) && leb symbol (highest_symbol form detail)))
