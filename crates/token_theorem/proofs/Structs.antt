-- A parse tree of a tree without a Struct has none. Assumes nothing.
use mathlib.Core.Path.{refl}
use Rattle.laws.proofs.Choice.{true_not_false}
use Rattle.token_grammar.specs.Types.{Sort}
use Rattle.token_grammar.specs.Expressions.{path, literal, structure, Expr, atom, paren, prefix, binary, cast, member, try, index, call, method, no_arguments, arguments, last_argument, more_arguments}
use Rattle.token_grammar.proofs.Contexts.{Structless}
use Rattle.token_plain.specs.Trees.{tree_of}
use Rattle.token_theorem.specs.Statement.{NoStruct}

pub structless : {s : Sort} (e : Expr s) → NoStruct (tree_of e) → Structless e
structless (atom (path y)) n = refl
structless (atom (literal y)) n = refl
structless (atom structure) n = true_not_false n.0
structless (paren a) n = structless a n.1
structless (prefix p a) n = structless a n.1
structless (binary o a b) n = (structless a n.1, structless b n.2)
structless (cast a t) n = structless a n.1
structless (member m a) n = structless a n.1
structless (try a) n = structless a n.1
structless (index a b) n = (structless a n.1, structless b n.2)
structless (call a l) n = (structless a n.1, structless l n.2)
structless (method y a l) n = (structless a n.1, structless l n.2)
structless no_arguments n = tt
structless (arguments l) n = structless l n
structless (last_argument comma a) n = structless a n.1
structless (more_arguments a l) n = (structless a n.1, structless l n.2)
