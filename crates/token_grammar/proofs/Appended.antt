-- A tree's tokens do not depend on what follows. Assumes nothing.
use mathlib.Core.Path.{◌≡◌, refl, ap, ◌∙◌}
use mathlib.Core.Bool.{Bool, true, false}
use mathlib.Core.List.{List, ◌∷◌, ◌++◌}
use Rattle.token_grammar.specs.Tokens.{lt, gt, Token, operator, as_token, name_token, dot, left_paren, right_paren, left_bracket, right_bracket, comma_token, question}
use Rattle.token_grammar.specs.Types.{Sort, Ty, named, applied, pointing, sign, no_types, types, last_type, more_types, type_prefix_token, closing, write_type}
use Rattle.token_grammar.specs.Expressions.{Expr, atom, paren, prefix, binary, cast, member, try, index, call, method, no_arguments, arguments, last_argument, more_arguments, prefix_token, member_token, write}

closing_append : (comma : Bool) (close : Token) (r q : List Token) → closing comma close (r ++ q) ≡ closing comma close r ++ q
closing_append true close r q = refl
closing_append false close r q = refl

type_append : {s : Sort} (t : Ty s) (r q : List Token) → write_type t (r ++ q) ≡ write_type t r ++ q
type_append (named y) r q = refl
type_append (applied y l) r q = ap (λ z. name_token y ∷ operator lt ∷ z) (type_append l r q)
type_append (pointing p t) r q = ap (λ z. type_prefix_token p ∷ z) (type_append t r q)
type_append (sign x) r q = refl
type_append no_types r q = refl
type_append (types l) r q = type_append l r q
type_append (last_type comma t) r q = ap (write_type t) (closing_append comma (operator gt) r q) ∙ type_append t (closing comma (operator gt) r) q
type_append (more_types t l) r q = ap (λ z. write_type t (comma_token ∷ z)) (type_append l r q) ∙ type_append t (comma_token ∷ write_type l r) q

pub write_append : {s : Sort} (e : Expr s) (r q : List Token) → write e (r ++ q) ≡ write e r ++ q
write_append (atom x) r q = refl
write_append (paren a) r q = ap (λ z. left_paren ∷ z) (write_append a (right_paren ∷ r) q)
write_append (prefix p a) r q = ap (λ z. prefix_token p ∷ z) (write_append a r q)
write_append (binary o a b) r q = ap (λ z. write a (operator o ∷ z)) (write_append b r q) ∙ write_append a (operator o ∷ write b r) q
write_append (cast a t) r q = ap (λ z. write a (as_token ∷ z)) (type_append t r q) ∙ write_append a (as_token ∷ write_type t r) q
write_append (member m a) r q = write_append a (dot ∷ member_token m ∷ r) q
write_append (try a) r q = write_append a (question ∷ r) q
write_append (index a b) r q =
    ap (λ z. write a (left_bracket ∷ z)) (write_append b (right_bracket ∷ r) q) ∙ write_append a (left_bracket ∷ write b (right_bracket ∷ r)) q
write_append (call a l) r q = ap (λ z. write a (left_paren ∷ z)) (write_append l r q) ∙ write_append a (left_paren ∷ write l r) q
write_append (method y a l) r q =
    ap (λ z. write a (dot ∷ name_token y ∷ left_paren ∷ z)) (write_append l r q) ∙ write_append a (dot ∷ name_token y ∷ left_paren ∷ write l r) q
write_append no_arguments r q = refl
write_append (arguments l) r q = write_append l r q
write_append (last_argument comma a) r q = ap (write a) (closing_append comma right_paren r q) ∙ write_append a (closing comma right_paren r) q
write_append (more_arguments a l) r q = ap (λ z. write a (comma_token ∷ z)) (write_append l r q) ∙ write_append a (comma_token ∷ write l r) q
