-- The parser gives a parse tree for the whole list exactly where the grammar does, and the same one. Assumes nothing.
use mathlib.Core.Path.{◌≡◌, subst}
use mathlib.Core.List.{List, []}
use Prim.Native.Nat.{◌*◌}
use native.Mathlib.Omega.{arith}
use lib.ListN.{length}
use Rattle.token_grammar.specs.Tokens.{Token}
use Rattle.token_grammar.specs.Bounds.{loosest}
use Rattle.token_grammar.specs.Types.{one}
use Rattle.token_grammar.specs.Expressions.{Expr, write}
use Rattle.token_grammar.specs.Grammar.{Context, Fits}
use Rattle.token_grammar.specs.Parser.{ok, parse}
use Rattle.token_grammar.proofs.Answers.{Good}
use Rattle.token_grammar.proofs.Complete.{low, bound, reads_whole, reads}
use Rattle.token_grammar.proofs.Sound.{Sound, sound}

pub complete : (c : Context) (e : Expr one) → Fits c e → parse c (write e []) ≡ ok e []
unfolding parse
complete c e k =
    reads_whole c e (reads one c e k) 1 (2 * length (write e [])) [] (omega (arith, bound one e [])) (low e) tt (omega arith)

pub correct : (c : Context) (ts : List Token) (e : Expr one) → parse c ts ≡ ok e [] → Fits c e × (write e [] ≡ ts)
unfolding parse
correct c ts e h =
    let g : Sound c loosest ts e [] = subst (Good (Sound c loosest ts)) h ((sound (2 * length ts)).0 c loosest ts (omega arith)) in
    (g.0, g.2)

-- Fitting trees that write the same tokens are one.
pub one_parse : (c : Context) (d e : Expr one) → Fits c d → Fits c e → write d [] ≡ write e [] → d ≡ e
one_parse c d e h k q =
    let p = complete c d h in
    let r = complete c e k in
    cc
