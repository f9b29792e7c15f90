-- A parse tree with every symbol 0: its shape. Assumes nothing.
use Prim.Native.Nat.{ℕ}
use Rattle.token_grammar.specs.Types.{Sort, Ty, named, applied, pointing, sign, no_types, types, last_type, more_types}
use Rattle.token_grammar.specs.Expressions.{Atom, path, literal, structure, Member, by_name, by_number, awaited, Expr, atom, paren, prefix, binary, cast, member, try, index, call, method, no_arguments, arguments, last_argument, more_arguments}

-- an atom and a member with another symbol
abbrev pub atom_with : ℕ → Atom → Atom
atom_with n (path y) = path n
atom_with n (literal y) = literal n
atom_with n structure = structure

abbrev pub member_with : ℕ → Member → Member
member_with n (by_name y) = by_name n
member_with n (by_number y) = by_number n
member_with n awaited = awaited

abbrev pub erased_type : {s : Sort} → Ty s → Ty s
erased_type (named y) = named 0
erased_type (applied y l) = applied 0 (erased_type l)
erased_type (pointing p t) = pointing p (erased_type t)
erased_type (sign x) = sign x
erased_type no_types = no_types
erased_type (types l) = types (erased_type l)
erased_type (last_type comma t) = last_type comma (erased_type t)
erased_type (more_types t l) = more_types (erased_type t) (erased_type l)

abbrev pub erased : {s : Sort} → Expr s → Expr s
erased (atom x) = atom (atom_with 0 x)
erased (paren a) = paren (erased a)
erased (prefix p a) = prefix p (erased a)
erased (binary o a b) = binary o (erased a) (erased b)
erased (cast a t) = cast (erased a) (erased_type t)
erased (member m a) = member (member_with 0 m) (erased a)
erased (try a) = try (erased a)
erased (index a b) = index (erased a) (erased b)
erased (call a l) = call (erased a) (erased l)
erased (method y a l) = method 0 (erased a) (erased l)
erased no_arguments = no_arguments
erased (arguments l) = arguments (erased l)
erased (last_argument comma a) = last_argument comma (erased a)
erased (more_arguments a l) = more_arguments (erased a) (erased l)
