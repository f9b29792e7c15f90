-- What holds of a parser's answer, if it gives one. Assumes nothing.
use mathlib.Core.List.{List}
use Rattle.token_grammar.specs.Tokens.{Token}
use Rattle.token_grammar.specs.Parser.{Out, fail, ok, then}

abbrev pub Good : {A : Type 0} → (A → List Token → Type 0) → Out A → Type 0
Good P fail = Unit {0}
Good P (ok a rest) = P a rest

pub good_then : {A B : Type 0} (P : A → List Token → Type 0) (Q : B → List Token → Type 0) (o : Out A) (k : A → List Token → Out B) →
    Good P o → ((a : A) (rest : List Token) → P a rest → Good Q (k a rest)) → Good Q (then o k)
good_then P Q fail k h g = tt
good_then P Q (ok a rest) k h g = g a rest h
