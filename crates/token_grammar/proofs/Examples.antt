-- Document 01's P2 to P7, and P9 on a Struct, on parse trees, and token lists with what the parser gives for them: one table, computed. Assumes nothing.
use mathlib.Core.Path.{◌≡◌, refl}
use mathlib.Core.Bool.{true, false}
use mathlib.Core.List.{List, [], ◌∷◌}
use Prim.Native.Nat.{ℕ}
use Rattle.laws.specs.Choice.{pick, lookup}
use Rattle.token_grammar.specs.Tokens.{Operator, add, sub, mul, and, or, bit_xor, bit_and, bit_or, shl, eq, lt, le, assign, struct_token, code}
use Rattle.token_grammar.specs.Codes.{token_of, tokens_of}
use Rattle.token_grammar.specs.Levels.{kind}
use Rattle.token_grammar.specs.Types.{one, named, applied, types, last_type, more_types}
use Rattle.token_grammar.specs.Expressions.{path, literal, structure, neg, by_name, by_number, Expr, atom, paren, prefix, binary, cast, member, try, index, call, method, no_arguments, arguments, last_argument, more_arguments}
use Rattle.token_grammar.specs.Grammar.{NONE, CONDITION, opens_arguments}
use Rattle.token_grammar.proofs.Added.{strength, add_all}
use Rattle.token_grammar.specs.Parser.{Out, fail, ok, start_of, type_start_of, after_dot_of, after_item, goes_on, type_by, expr_by, parse}

record Example : Type 0 where
  given : Out (Expr one)
  expected : Out (Expr one)

-- a tree, and the same with the pairs that it needs
abbrev pairs : Expr one → Expr one → Example
pairs e with = record { given = ok (add_all NONE e) []; expected = ok with [] }

abbrev in_condition : Expr one → Expr one → Example
in_condition e with = record { given = ok (add_all CONDITION e) []; expected = ok with [] }

-- cells of tokens without symbols, from the codes
abbrev unnamed : List ℕ → List ℕ
unnamed [] = []
unnamed (n ∷ ns) = n ∷ 0 ∷ unnamed ns

-- the cells of a token list, and its parse tree
abbrev reads_cells : List ℕ → Expr one → Example
reads_cells cells e = record { given = parse NONE (tokens_of cells); expected = ok e [] }

-- the codes of a token list without symbols, and its parse tree; or what the parser stops with
abbrev reads : List ℕ → Expr one → Example
reads codes e = reads_cells (unnamed codes) e

abbrev stops : List ℕ → Out (Expr one) → Example
stops codes out = record { given = parse NONE (tokens_of (unnamed codes)); expected = out }

abbrev condition_reads : List ℕ → Out (Expr one) → Example
condition_reads codes out = record { given = parse CONDITION (tokens_of (unnamed codes)); expected = out }

abbrev a : Expr one
a = atom (path 0)

abbrev struct : Expr one
struct = atom structure

-- a o b o c without a pair: an operator that leans left
abbrev leans_left : Operator → Example
leans_left o = pairs (binary o (binary o a a) a) (binary o (binary o a a) a)

-- `a as T`, and `a as T<A>`
abbrev bare_cast : Expr one
bare_cast = cast a (named 0)

abbrev cast_with_arguments : Expr one
cast_with_arguments = cast a (applied 0 (types (last_type false (named 0))))

abbrev examples : List Example
examples =
    -- P2 "`a - (b - c)` keeps its pair; `(a - b) - c` gets none."
    pairs (binary sub a (binary sub a a)) (binary sub a (paren (binary sub a a))) ∷
    pairs (binary sub (binary sub a a) a) (binary sub (binary sub a a) a) ∷
    -- P3 "Cast to a bare path left of `<`: pair; left of `<=`: none."
    pairs (binary lt bare_cast a) (binary lt (paren bare_cast) a) ∷
    pairs (binary le bare_cast a) (binary le bare_cast a) ∷
    -- P4 "argument list `T<A>` before `<`: none."
    pairs (binary lt cast_with_arguments a) (binary lt cast_with_arguments a) ∷
    -- P5 "`x + (a as T) < b`: the pair stands round the cast."
    pairs (binary lt (binary add a bare_cast) a) (binary lt (binary add a (paren bare_cast)) a) ∷
    -- P6 "Call of a named Field: pair; of a numbered one: none."
    pairs (call (member (by_name 0) a) no_arguments) (call (paren (member (by_name 0) a)) no_arguments) ∷
    pairs (call (member (by_number 0) a) no_arguments) (call (member (by_number 0) a) no_arguments) ∷
    -- P7 "comparison under comparison, either side: pair."
    pairs (binary eq (binary lt a a) a) (binary eq (paren (binary lt a a)) a) ∷
    pairs (binary eq a (binary lt a a)) (binary eq a (paren (binary lt a a))) ∷
    -- "all so far but assignment and comparison lean left"
    leans_left or ∷
    leans_left and ∷
    leans_left bit_or ∷
    leans_left bit_xor ∷
    leans_left bit_and ∷
    leans_left shl ∷
    leans_left add ∷
    leans_left mul ∷
    pairs (cast bare_cast (named 0)) (cast bare_cast (named 0)) ∷
    -- "assignment (right operand first)": a = b = c, and (a = b) = c
    pairs (binary assign a (binary assign a a)) (binary assign a (binary assign a a)) ∷
    pairs (binary assign (binary assign a a) a) (binary assign (paren (binary assign a a)) a) ∷
    -- a + b * c; (a + b)
    reads (32 ∷ 0 ∷ 32 ∷ 2 ∷ 32 ∷ []) (binary add a (binary mul a a)) ∷
    reads (35 ∷ 32 ∷ 0 ∷ 32 ∷ 36 ∷ []) (paren (binary add a a)) ∷
    -- - a . f ( ); a . f ( b ) ?
    reads (1 ∷ 32 ∷ 34 ∷ 32 ∷ 35 ∷ 36 ∷ []) (prefix neg (method 0 a no_arguments)) ∷
    reads (32 ∷ 34 ∷ 32 ∷ 35 ∷ 32 ∷ 36 ∷ 40 ∷ []) (try (method 0 a (arguments (last_argument false a)))) ∷
    -- a as T < A >; a as T < A > < b
    reads (32 ∷ 31 ∷ 32 ∷ 13 ∷ 32 ∷ 17 ∷ []) cast_with_arguments ∷
    reads (32 ∷ 31 ∷ 32 ∷ 13 ∷ 32 ∷ 17 ∷ 13 ∷ 32 ∷ []) (binary lt cast_with_arguments a) ∷
    -- a == b == c: the second `==` is left
    stops (32 ∷ 12 ∷ 32 ∷ 12 ∷ 32 ∷ []) (ok (binary eq a a) (tokens_of (unnamed (12 ∷ 32 ∷ [])))) ∷
    -- a as T << b: the `<<` is left
    stops (32 ∷ 31 ∷ 32 ∷ 10 ∷ 32 ∷ []) (ok bare_cast (tokens_of (unnamed (10 ∷ 32 ∷ [])))) ∷
    -- one comma after the last item: f ( a , ); f ( a , b , ); a . f ( b , ); a as T < A , >; f ( a as T < A , B , > , )
    reads (32 ∷ 35 ∷ 32 ∷ 39 ∷ 36 ∷ []) (call a (arguments (last_argument true a))) ∷
    reads (32 ∷ 35 ∷ 32 ∷ 39 ∷ 32 ∷ 39 ∷ 36 ∷ []) (call a (arguments (more_arguments a (last_argument true a)))) ∷
    reads (32 ∷ 34 ∷ 32 ∷ 35 ∷ 32 ∷ 39 ∷ 36 ∷ []) (method 0 a (arguments (last_argument true a))) ∷
    reads (32 ∷ 31 ∷ 32 ∷ 13 ∷ 32 ∷ 39 ∷ 17 ∷ []) (cast a (applied 0 (types (last_type true (named 0))))) ∷
    reads (32 ∷ 35 ∷ 32 ∷ 31 ∷ 32 ∷ 13 ∷ 32 ∷ 39 ∷ 32 ∷ 39 ∷ 17 ∷ 39 ∷ 36 ∷ [])
    (call a (arguments (last_argument true (cast a (applied 0 (types (more_types (named 0) (last_type true (named 0))))))))) ∷
    -- none in an empty list, no second one, none in parentheses or brackets: f ( , ); f ( a , , ); ( a , ); a [ b , ]; a as T < , >
    stops (32 ∷ 35 ∷ 39 ∷ 36 ∷ []) fail ∷
    stops (32 ∷ 35 ∷ 32 ∷ 39 ∷ 39 ∷ 36 ∷ []) fail ∷
    stops (35 ∷ 32 ∷ 39 ∷ 36 ∷ []) fail ∷
    stops (32 ∷ 37 ∷ 32 ∷ 39 ∷ 38 ∷ []) fail ∷
    stops (32 ∷ 31 ∷ 32 ∷ 13 ∷ 39 ∷ 17 ∷ []) fail ∷
    -- each symbol on its own name, literal or member: 1 . 2 ( `3` ); 1 . 2 . 3; 1 as 2 < 3 >
    reads_cells (32 ∷ 1 ∷ 34 ∷ 0 ∷ 32 ∷ 2 ∷ 35 ∷ 0 ∷ 33 ∷ 3 ∷ 36 ∷ 0 ∷ []) (method 2 (atom (path 1)) (arguments (last_argument false (atom (literal 3))))) ∷
    reads_cells (32 ∷ 1 ∷ 34 ∷ 0 ∷ 32 ∷ 2 ∷ 34 ∷ 0 ∷ 44 ∷ 3 ∷ []) (member (by_number 3) (member (by_name 2) (atom (path 1)))) ∷
    reads_cells (32 ∷ 1 ∷ 31 ∷ 0 ∷ 32 ∷ 2 ∷ 13 ∷ 0 ∷ 32 ∷ 3 ∷ 17 ∷ 0 ∷ []) (cast (atom (path 1)) (applied 2 (types (last_type false (named 3))))) ∷
    -- P9 "context 3, Struct right of `==`: pair."; right of `=`, as root, as an index's base, under a member that is called
    in_condition (binary eq a struct) (binary eq a (paren struct)) ∷
    in_condition (binary assign a struct) (binary assign a (paren struct)) ∷
    in_condition struct (paren struct) ∷
    in_condition (index struct a) (index (paren struct) a) ∷
    in_condition (call (member (by_name 0) struct) no_arguments) (call (paren (member (by_name 0) struct)) no_arguments) ∷
    -- none in brackets, in an argument list, in a Paren
    in_condition (index a struct) (index a struct) ∷
    in_condition (call a (arguments (last_argument false struct))) (call a (arguments (last_argument false struct))) ∷
    in_condition (binary add a (paren struct)) (binary add a (paren struct)) ∷
    -- a == S in both contexts, a == ( S ), S [ a ], a [ S ], f ( S ) in context 3
    reads (32 ∷ 12 ∷ code struct_token ∷ []) (binary eq a struct) ∷
    condition_reads (32 ∷ 12 ∷ code struct_token ∷ []) fail ∷
    condition_reads (32 ∷ 12 ∷ 35 ∷ code struct_token ∷ 36 ∷ []) (ok (binary eq a (paren struct)) []) ∷
    condition_reads (code struct_token ∷ 37 ∷ 32 ∷ 38 ∷ []) fail ∷
    condition_reads (32 ∷ 37 ∷ code struct_token ∷ 38 ∷ []) (ok (index a struct) []) ∷
    condition_reads (32 ∷ 35 ∷ code struct_token ∷ 36 ∷ []) (ok (call a (arguments (last_argument false struct))) []) ∷
    -- "The empty token list gives 15."
    stops [] fail ∷
    []

abbrev all : (Example → Out (Expr one)) → List Example → List (Out (Expr one))
all f [] = []
all f (k ∷ ks) = f k ∷ all f ks

pub examples_hold : all (λ k. k.given) examples ≡ all (λ k. k.expected) examples
unfolding pick lookup kind token_of opens_arguments strength start_of type_start_of after_dot_of after_item goes_on type_by expr_by parse
examples_hold = refl
