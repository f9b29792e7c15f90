-- A parse tree without its parentheses. Nothing here is to be believed: token_plain/proofs/Parens says that its tree is the tree without Parens.
use Rattle.token_grammar.specs.Types.{Sort}
use Rattle.token_grammar.specs.Expressions.{Expr, atom, paren, prefix, binary, cast, member, try, index, call, method, no_arguments, arguments, last_argument, more_arguments}

abbrev pub bare : {s : Sort} → Expr s → Expr s
bare (atom x) = atom x
bare (paren a) = bare a
bare (prefix p a) = prefix p (bare a)
bare (binary o a b) = binary o (bare a) (bare b)
bare (cast a t) = cast (bare a) t
bare (member m a) = member m (bare a)
bare (try a) = try (bare a)
bare (index a b) = index (bare a) (bare b)
bare (call a l) = call (bare a) (bare l)
bare (method y a l) = method y (bare a) (bare l)
bare no_arguments = no_arguments
bare (arguments l) = arguments (bare l)
bare (last_argument comma a) = last_argument comma (bare a)
bare (more_arguments a l) = more_arguments (bare a) (bare l)
