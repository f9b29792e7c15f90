-- What the reader's private functions answer, by the parser. Nothing here is to be believed: proofs/Whole says what it comes to.
use Rattle.std.specs.Prelude.{◌≡◌, Bool, true, false, ◌&&◌, List, ℕ, ◌+◌, ◌*◌, ◌/◌, ◌≤◌, ◌<◌, length, drop, get_or, Result, Ok, Err}
use Rattle.tree.specs.Sizes.{node_cells, token_cells, most_nodes, most_tokens}
use Rattle.tree.specs.Table.{first_at, second_at}
use Rattle.tree.specs.Trees.{Tree, none, node, label_at}
use Rattle.token_grammar.specs.Tokens.{Token, Operator, operator, lt, left_paren, right_bracket, right_paren, operator_of}
use Rattle.token_grammar.specs.Codes.{tokens_of, token_symbol_at, are_tokens}
use Rattle.token_grammar.specs.Levels.{prefixes, postfixes, kind, level, after}
use Rattle.token_grammar.specs.Bounds.{loosest}
use Rattle.token_grammar.specs.Types.{one, list, items, TypePrefix, TypeSign, Ty, named, applied, pointing, sign, type_ends_in_name}
use Rattle.token_grammar.specs.Expressions.{Atom, structure, Prefix, Member, by_name, Expr, atom, paren, prefix, binary, cast, member, try, index, call, method, kind_of, ends_in_type_name, ends_in_dot_name}
use Rattle.token_grammar.specs.Grammar.{Context, NONE, CONDITION, excluded}
use Rattle.token_grammar.specs.Bare.{bare}
use Rattle.token_grammar.specs.Parser.{Out, fail, ok, then, tail, is_first, Start, no_start, an_atom, a_prefix, a_group, start, AfterDot, no_member, a_member, after_dot, is_by_name, member_symbol, next, type_by, types_by, some_types_by, expr_by, arguments_by, some_arguments_by}
use Rattle.token_grammar.specs.Next.{Next, stops, operates, casts_to, dots, calls, indexes, tries}
use Rattle.token_plain.specs.Trees.{label_with, label, tree_of, tree_of_type, atom_label, prefix_label, member_label, type_prefix_label, type_sign_label}
use Rattle.tree_numbering.specs.declared.Unfit.{Unfit}
use Rattle.tree_numbering.specs.Renumbering.{refusal_of}
use Rattle.tree.specs.declared.refusal.Refusal.{Refusal}
use Rattle.token_reader.specs.Reading.{refused}
use Rattle.token_reader.specs.declared.piece.Piece.{Piece}
use Rattle.token_reader.specs.declared.piece.Parsed.{Parsed}

-- ---- the reader's own table: as many nodes as tokens or more, the first `free` of which are not yet taken

-- the nodes that are taken are as they were
abbrev pub Kept : List ℕ → List ℕ → ℕ → Type 0
Kept own now free = (j : ℕ) → node_cells * free ≤ j → get_or now j 0 ≡ get_or own j 0

-- number i stands for a tree whose nodes are all above `low`; 0 stands for none
abbrev pub Placed : List ℕ → ℕ → ℕ → Tree → Type 0
Placed own low i none = i ≡ 0
Placed own low i (node l a b) = (low < i) × (i ≤ most_tokens) × (label_at own i ≡ l) × Placed own i (first_at own i) a × Placed own i (second_at own i) b

-- the last free node is taken
pub record Stored (own now : List ℕ) (free left form detail first second symbol : ℕ) : Type 0 where
  pub fewer : left + 1 ≡ free
  pub kept : Kept own now free
  pub below : (j : ℕ) → j < node_cells * left → get_or now j 0 ≡ get_or own j 0
  pub same : length now ≡ length own
  pub labelled : label_at now free ≡ label_with form detail symbol
  pub to_first : first_at now free ≡ first
  pub to_second : second_at now free ≡ second

-- how many tokens there are in a list of cells
abbrev pub many : List ℕ → ℕ
many tokens = length tokens / token_cells

-- tokens that can be read into a table
abbrev pub Readable : List ℕ → List ℕ → Type 0
Readable tokens table = (node_cells * most_nodes ≤ length table) × (length tokens ≤ token_cells * most_tokens) × (are_tokens tokens ≡ true)

-- where reading goes on: there are no fewer free nodes than unread tokens
pub record Ready (tokens own : List ℕ) (at free : ℕ) : Type 0 where
  pub short : many tokens ≤ most_tokens
  pub known : are_tokens tokens ≡ true
  pub cells : node_cells * free ≤ length own
  pub room : many tokens ≤ at + free
  pub most : free ≤ most_tokens
  pub within : at ≤ many tokens

-- tokens were read, and no more nodes taken
pub record Grew (own now : List ℕ) (at free to left : ℕ) : Type 0 where
  pub upto : at ≤ to
  pub room : at + free ≤ to + left
  pub less : left ≤ free
  pub kept : Kept own now free
  pub same : length now ≡ length own

-- ---- what the parser gives: nothing, and `to` is past the end; or something that `Is` says is there, and the tokens from `to` on
abbrev pub Tells : {A : Type 0} → (A → Type 0) → List ℕ → ℕ → Out A → Type 0
Tells Is tokens to fail = many tokens < to
Tells Is tokens to (ok a rest) = (to ≤ many tokens) × (rest ≡ drop to (tokens_of tokens)) × Is a

abbrev pub from : List ℕ → ℕ → List Token
from tokens at = drop at (tokens_of tokens)

-- the parser's fuel suffices, and k more is left
abbrev pub Enough : List ℕ → ℕ → ℕ → ℕ → Type 0
Enough tokens at k fuel = k + 2 * many tokens ≤ fuel + 2 * at

-- ---- types

pub record IsType (now : List ℕ) (r : Piece) (t : Ty one) : Type 0 where
  pub ends : r.named ≡ type_ends_in_name t
  pub placed : Placed now r.free (r.free + 1) (tree_of_type t)

pub record IsTypes (now : List ℕ) (r : Piece) (l : Ty items) : Type 0 where
  pub placed : Placed now r.free (r.free + 1) (tree_of_type l)

pub record TypeAt (tokens own now : List ℕ) (at free : ℕ) (r : Piece) : Type 0 where
  pub grew : r.at ≤ many tokens → Grew own now at free r.at r.free
  pub tells : (f : ℕ) → Enough tokens at 0 f → Tells (IsType now r) tokens r.at (type_by f (from tokens at))

pub record TypesAt (tokens own now : List ℕ) (at free : ℕ) (r : Piece) : Type 0 where
  pub grew : r.at ≤ many tokens → Grew own now at free r.at r.free
  pub tells : (f : ℕ) → Enough tokens at 1 f → Tells (IsTypes now r) tokens r.at (some_types_by f (from tokens at))

-- a type of one token
pub record SignAt (tokens own now : List ℕ) (at free form : ℕ) (r : Piece) : Type 0 where
  pub grew : Grew own now at free r.at r.free
  pub tells : (x : TypeSign) → label form 0 ≡ type_sign_label x → Tells (IsType now r) tokens r.at (ok (sign x) (from tokens (at + 1)))

-- a type behind a token
pub record PointingAt (tokens own now : List ℕ) (at free form detail : ℕ) (r : Piece) : Type 0 where
  pub grew : r.at ≤ many tokens → Grew own now at free r.at r.free
  pub tells : (p : TypePrefix) → label form detail ≡ type_prefix_label p → (g : ℕ) → Enough tokens (at + 1) 0 g →
      Tells (IsType now r) tokens r.at (then (type_by g (from tokens (at + 1))) (λ t q. ok (pointing p t) q))

-- what a type is whose name was read, with the symbol y
abbrev pub path_by : ℕ → ℕ → List Token → Out (Ty one)
path_by y g ts = elim (is_first (operator lt) ts) [ true ↦ then (types_by g (tail ts)) (λ l r. ok (applied y l) r) | false ↦ ok (named y) ts ]

pub record PathAt (tokens own now : List ℕ) (at free : ℕ) (r : Piece) : Type 0 where
  pub grew : r.at ≤ many tokens → Grew own now at free r.at r.free
  pub tells : (g : ℕ) → Enough tokens (at + 2) 2 g → Tells (IsType now r) tokens r.at (path_by (token_symbol_at tokens at) g (from tokens (at + 1)))

-- ---- expressions

-- the context by whether an expression stands in a condition outside every parenthesis, bracket and list
abbrev pub stands_in : Bool → Context
stands_in false = NONE
stands_in true = CONDITION

pub record IsExpr (now : List ℕ) (r : Parsed) (e : Expr one) : Type 0 where
  pub strong : r.level ≡ level (kind_of e)
  pub type_last : r.named ≡ ends_in_type_name e
  pub name_last : r.dotted ≡ ends_in_dot_name e
  pub placed : Placed now r.free (r.free + 1) (tree_of (bare e))

pub record IsArguments (now : List ℕ) (r : Piece) (l : Expr items) : Type 0 where
  pub placed : Placed now r.free (r.free + 1) (tree_of (bare l))

-- what binds most strongly and ends in no name that matters
pub record Postfix (at free : ℕ) (r : Parsed) : Type 0 where
  pub to : r.at ≡ at
  pub left : r.free ≡ free
  pub strong : r.level ≡ level postfixes
  pub type_last : r.named ≡ false
  pub name_last : r.dotted ≡ false

pub record ExprAt (c : Context) (tokens own now : List ℕ) (at free least : ℕ) (r : Parsed) : Type 0 where
  pub grew : r.at ≤ many tokens → Grew own now at free r.at r.free
  pub tells : (f : ℕ) → Enough tokens at 0 f → Tells (IsExpr now r) tokens r.at (expr_by f c least (from tokens at))

pub record ArgumentsAt (tokens own now : List ℕ) (at free : ℕ) (r : Piece) : Type 0 where
  pub grew : r.at ≤ many tokens → Grew own now at free r.at r.free
  pub tells : (f : ℕ) → Enough tokens at 1 f → Tells (IsArguments now r) tokens r.at (some_arguments_by f (from tokens at))

-- ---- what an expression begins with

pub record AtomAt (tokens own now : List ℕ) (at free form : ℕ) (r : Parsed) : Type 0 where
  pub to : r.at ≡ at + 1
  pub past : at < r.at
  pub grew : Grew own now at free r.at r.free
  pub below : (j : ℕ) → j < node_cells * r.free → get_or now j 0 ≡ get_or own j 0
  pub tells : (x : Atom) → label_with form 0 (token_symbol_at tokens at) ≡ atom_label x → Tells (IsExpr now r) tokens r.at (ok (atom x) (from tokens (at + 1)))

abbrev pub prefix_by : Context → ℕ → Prefix → List Token → Out (Expr one)
prefix_by c g p ts = then (expr_by g c (after prefixes) ts) (λ a r. ok (prefix p a) r)

pub record PrefixedAt (c : Context) (tokens own now : List ℕ) (at free form detail : ℕ) (r : Parsed) : Type 0 where
  pub past : r.at ≤ many tokens → at < r.at
  pub grew : r.at ≤ many tokens → Grew own now at free r.at r.free
  pub tells : (p : Prefix) → label form detail ≡ prefix_label p → (g : ℕ) → Enough tokens (at + 1) 0 g → Tells (IsExpr now r) tokens r.at (prefix_by c g p (from tokens (at + 1)))

-- the sign that closes, after what stands in a pair
abbrev pub close_by : Token → (Expr one → Expr one) → Expr one → List Token → Out (Expr one)
close_by close whole a r = elim (is_first close r) [ true ↦ ok (whole a) (tail r) | false ↦ fail ]

abbrev pub group_by : ℕ → List Token → Out (Expr one)
group_by g ts = then (expr_by g NONE loosest ts) (close_by right_paren paren)

pub record GroupAt (tokens own now : List ℕ) (at free : ℕ) (r : Parsed) : Type 0 where
  pub past : r.at ≤ many tokens → at < r.at
  pub grew : r.at ≤ many tokens → Grew own now at free r.at r.free
  pub tells : (g : ℕ) → Enough tokens (at + 1) 0 g → Tells (IsExpr now r) tokens r.at (group_by g (from tokens (at + 1)))

-- "In context 3 a Struct outside every parenthesis, bracket and argument list has no reading"
abbrev pub atom_by : Context → Atom → List Token → Out (Expr one)
atom_by c y ts = elim (excluded c (atom y)) [ true ↦ fail | false ↦ ok (atom y) ts ]

pub record StructAt (c : Context) (tokens own now : List ℕ) (at free : ℕ) (r : Parsed) : Type 0 where
  pub past : r.at ≤ many tokens → at < r.at
  pub grew : r.at ≤ many tokens → Grew own now at free r.at r.free
  pub tells : Tells (IsExpr now r) tokens r.at (atom_by c structure (from tokens (at + 1)))

abbrev pub operand_by : Context → ℕ → List Token → Start → Out (Expr one)
operand_by c g ts x =
    elim x [
      | no_start ↦ fail
      | an_atom y ↦ atom_by c y ts
      | a_prefix p ↦ prefix_by c g p ts
      | a_group ↦ group_by g ts
    ]

pub record OperandAt (c : Context) (tokens own now : List ℕ) (at free : ℕ) (r : Parsed) : Type 0 where
  pub past : r.at ≤ many tokens → at < r.at
  pub grew : r.at ≤ many tokens → Grew own now at free r.at r.free
  pub tells : (g : ℕ) → Enough tokens (at + 1) 0 g → Tells (IsExpr now r) tokens r.at (operand_by c g (tail (from tokens at)) (start (from tokens at)))

-- ---- what an expression goes on with; `left` is what was read of it

abbrev pub binary_by : Context → ℕ → Operator → Expr one → List Token → Out (Expr one)
binary_by c g o e ts = then (expr_by g c (after (kind o)) ts) (λ b r. ok (binary o e b) r)

abbrev pub cast_by : ℕ → Expr one → List Token → Out (Expr one)
cast_by g e ts = then (type_by g ts) (λ t r. ok (cast e t) r)

abbrev pub call_by : ℕ → (Expr list → Expr one) → List Token → Out (Expr one)
call_by g whole ts = then (arguments_by g ts) (λ l r. ok (whole l) r)

abbrev pub index_by : ℕ → Expr one → List Token → Out (Expr one)
index_by g e ts = then (expr_by g NONE loosest ts) (close_by right_bracket (index e))

-- behind a member's name
abbrev pub member_by : ℕ → Expr one → Member → List Token → Bool → Out (Expr one)
member_by g e m ts called = elim called [ true ↦ call_by g (method (member_symbol m) e) (tail ts) | false ↦ ok (member m e) ts ]

abbrev pub dot_by : ℕ → Expr one → List Token → AfterDot → Out (Expr one)
dot_by g e ts x = elim x [ no_member ↦ fail | a_member m ↦ member_by g e m (tail ts) (is_by_name m && is_first left_paren (tail ts)) ]

abbrev pub step_by : Context → ℕ → Expr one → List Token → Next → Out (Expr one)
step_by c g e ts x =
    elim x [
      | stops ↦ fail
      | operates o ↦ binary_by c g o e ts
      | casts_to ↦ cast_by g e ts
      | dots ↦ dot_by g e ts (after_dot ts)
      | calls ↦ call_by g (call e) ts
      | indexes ↦ index_by g e ts
      | tries ↦ ok (try e) ts
    ]

pub record StepAt (c : Context) (tokens own now : List ℕ) (left r : Parsed) : Type 0 where
  pub past : r.at ≤ many tokens → left.at < r.at
  pub grew : r.at ≤ many tokens → Grew own now left.at left.free r.at r.free
  pub tells : (e : Expr one) → IsExpr own left e → (g : ℕ) → Enough tokens left.at 0 g →
      Tells (IsExpr now r) tokens r.at (step_by c g e (tail (from tokens left.at)) (next (from tokens left.at)))

pub record BinaryAt (c : Context) (tokens own now : List ℕ) (left : Parsed) (code : ℕ) (r : Parsed) : Type 0 where
  pub past : r.at ≤ many tokens → left.at < r.at
  pub grew : r.at ≤ many tokens → Grew own now left.at left.free r.at r.free
  pub tells : (e : Expr one) → IsExpr own left e → (g : ℕ) → Enough tokens left.at 0 g → Tells (IsExpr now r) tokens r.at (binary_by c g (operator_of code) e (from tokens (left.at + 1)))

pub record CastAt (tokens own now : List ℕ) (left r : Parsed) : Type 0 where
  pub past : r.at ≤ many tokens → left.at < r.at
  pub grew : r.at ≤ many tokens → Grew own now left.at left.free r.at r.free
  pub tells : (e : Expr one) → IsExpr own left e → (g : ℕ) → Enough tokens left.at 0 g → Tells (IsExpr now r) tokens r.at (cast_by g e (from tokens (left.at + 1)))

pub record IndexAt (tokens own now : List ℕ) (left r : Parsed) : Type 0 where
  pub past : r.at ≤ many tokens → left.at < r.at
  pub grew : r.at ≤ many tokens → Grew own now left.at left.free r.at r.free
  pub tells : (e : Expr one) → IsExpr own left e → (g : ℕ) → Enough tokens left.at 0 g → Tells (IsExpr now r) tokens r.at (index_by g e (from tokens (left.at + 1)))

pub record TryAt (tokens own now : List ℕ) (left r : Parsed) : Type 0 where
  pub to : r.at ≡ left.at + 1
  pub past : left.at < r.at
  pub grew : Grew own now left.at left.free r.at r.free
  pub below : (j : ℕ) → j < node_cells * r.free → get_or now j 0 ≡ get_or own j 0
  pub tells : (e : Expr one) → IsExpr own left e → Tells (IsExpr now r) tokens r.at (ok (try e) (from tokens (left.at + 1)))

pub record MemberAt (tokens own now : List ℕ) (left : Parsed) (form detail : ℕ) (dotted : Bool) (r : Parsed) : Type 0 where
  pub to : r.at ≡ left.at + 2
  pub past : left.at < r.at
  pub grew : Grew own now left.at left.free r.at r.free
  pub below : (j : ℕ) → j < node_cells * r.free → get_or now j 0 ≡ get_or own j 0
  pub tells : (e : Expr one) → IsExpr own left e → (m : Member) → label_with form detail (token_symbol_at tokens (left.at + 1)) ≡ member_label m → dotted ≡ is_by_name m →
      Tells (IsExpr now r) tokens r.at (ok (member m e) (from tokens (left.at + 2)))

pub record DotAt (tokens own now : List ℕ) (left r : Parsed) : Type 0 where
  pub past : r.at ≤ many tokens → left.at < r.at
  pub grew : r.at ≤ many tokens → Grew own now left.at left.free r.at r.free
  pub tells : (e : Expr one) → IsExpr own left e → (g : ℕ) → Enough tokens left.at 0 g →
      Tells (IsExpr now r) tokens r.at (dot_by g e (from tokens (left.at + 1)) (after_dot (from tokens (left.at + 1))))

pub record NamedAt (tokens own now : List ℕ) (left r : Parsed) : Type 0 where
  pub past : r.at ≤ many tokens → left.at < r.at
  pub grew : r.at ≤ many tokens → Grew own now left.at left.free r.at r.free
  pub tells : (e : Expr one) → IsExpr own left e → (g : ℕ) → Enough tokens left.at 0 g →
      Tells (IsExpr now r) tokens r.at (member_by g e (by_name (token_symbol_at tokens (left.at + 1))) (from tokens (left.at + 2)) (is_first left_paren (from tokens (left.at + 2))))

-- a call of what stands for the tree `a`, with the arguments l
pub record Called (form symbol : ℕ) (a : Tree) (l : Expr list) (e : Expr one) : Type 0 where
  pub strong : level (kind_of e) ≡ level postfixes
  pub type_last : ends_in_type_name e ≡ false
  pub name_last : ends_in_dot_name e ≡ false
  pub tree : tree_of (bare e) ≡ node (label_with form 0 symbol) a (tree_of (bare l))

pub record CallAt (tokens own now : List ℕ) (at free form symbol : ℕ) (r : Parsed) : Type 0 where
  pub past : r.at ≤ many tokens → at < r.at
  pub grew : r.at ≤ many tokens → Grew own now at free r.at r.free
  pub tells : (a : Tree) → Placed own free (free + 1) a → (whole : Expr list → Expr one) → ((l : Expr list) → Called form symbol a l (whole l)) → (g : ℕ) → Enough tokens at 0 g →
      Tells (IsExpr now r) tokens r.at (call_by g whole (from tokens (at + 1)))

-- ---- the reply

unfoldable pub reply_of : Result ℕ Unfit → Result ℕ Refusal
reply_of (Err u) = Err (refusal_of u)
reply_of (Ok n) = Ok n
