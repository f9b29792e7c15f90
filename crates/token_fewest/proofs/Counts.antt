-- How many pairs and how many argument lists a parse tree has. Assumes nothing.
use mathlib.Core.Path.{◌≡◌, refl, ap, ap₂}
use Prim.Native.Nat.{ℕ, suc, ◌+◌}
use Rattle.token_grammar.specs.Types.{Sort}
use Rattle.token_grammar.specs.Expressions.{Expr, atom, paren, prefix, binary, cast, member, try, index, call, method, no_arguments, arguments, last_argument, more_arguments}
use Rattle.token_grammar.specs.Bare.{bare}

-- how many `paren` it has
abbrev pub pairs : {s : Sort} → Expr s → ℕ
pairs (atom x) = 0
pairs (paren a) = suc (pairs a)
pairs (prefix p a) = pairs a
pairs (binary o a b) = pairs a + pairs b
pairs (cast a t) = pairs a
pairs (member m a) = pairs a
pairs (try a) = pairs a
pairs (index a b) = pairs a + pairs b
pairs (call a l) = pairs a + pairs l
pairs (method y a l) = pairs a + pairs l
pairs no_arguments = 0
pairs (arguments l) = pairs l
pairs (last_argument comma a) = pairs a
pairs (more_arguments a l) = pairs a + pairs l

-- how many argument lists it has, each of which opens with a `(` that is no pair's
abbrev pub lists : {s : Sort} → Expr s → ℕ
lists (atom x) = 0
lists (paren a) = lists a
lists (prefix p a) = lists a
lists (binary o a b) = lists a + lists b
lists (cast a t) = lists a
lists (member m a) = lists a
lists (try a) = lists a
lists (index a b) = lists a + lists b
lists (call a l) = suc (lists a + lists l)
lists (method y a l) = suc (lists a + lists l)
lists no_arguments = 0
lists (arguments l) = lists l
lists (last_argument comma a) = lists a
lists (more_arguments a l) = lists a + lists l

pub lists_bare : {s : Sort} (e : Expr s) → lists (bare e) ≡ lists e
lists_bare (atom x) = refl
lists_bare (paren a) = lists_bare a
lists_bare (prefix p a) = lists_bare a
lists_bare (binary o a b) = ap₂ ◌+◌ (lists_bare a) (lists_bare b)
lists_bare (cast a t) = lists_bare a
lists_bare (member m a) = lists_bare a
lists_bare (try a) = lists_bare a
lists_bare (index a b) = ap₂ ◌+◌ (lists_bare a) (lists_bare b)
lists_bare (call a l) = ap suc (ap₂ ◌+◌ (lists_bare a) (lists_bare l))
lists_bare (method y a l) = ap suc (ap₂ ◌+◌ (lists_bare a) (lists_bare l))
lists_bare no_arguments = refl
lists_bare (arguments l) = lists_bare l
lists_bare (last_argument comma a) = lists_bare a
lists_bare (more_arguments a l) = ap₂ ◌+◌ (lists_bare a) (lists_bare l)
