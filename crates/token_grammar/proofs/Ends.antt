-- The ends that the two special rules ask about are what they are called: the last tokens of what is written. Assumes nothing.
use mathlib.Core.Path.{◌≡◌, refl, sym, ap, ◌∙◌}
use mathlib.Core.Bool.{true}
use mathlib.Core.List.{List, [], ◌∷◌, ◌++◌}
use Prim.Native.Nat.{ℕ}
use Rattle.laws.proofs.Choice.{true_not_false}
use Rattle.token_grammar.specs.Tokens.{Token, operator, as_token, name_token, dot}
use Rattle.token_grammar.specs.Types.{one, Ty, named, applied, pointing, sign, type_prefix_token, write_type, type_ends_in_name}
use Rattle.token_grammar.specs.Expressions.{by_name, by_number, awaited, Expr, atom, paren, prefix, binary, cast, member, try, index, call, method, prefix_token, write, ends_in_type_name, ends_in_dot_name}
use Rattle.token_grammar.proofs.Appended.{write_append}

-- what is written ends in the tokens `last`, whatever follows
abbrev pub EndsIn : List Token → (List Token → List Token) → Type 0
EndsIn last w = (front : List Token) × ((r : List Token) → w r ≡ front ++ (last ++ r))

behind_tree : (a : Expr one) (t : Token) (last : List Token) (w : List Token → List Token) → EndsIn last w → EndsIn last (λ r. write a (t ∷ w r))
behind_tree a t last w d = (
  write a (t ∷ d.0),
  λ r. ap (λ z. write a (t ∷ z)) (d.1 r) ∙ write_append a (t ∷ d.0) (last ++ r),
)

behind_token : (t : Token) (last : List Token) (w : List Token → List Token) → EndsIn last w → EndsIn last (λ r. t ∷ w r)
behind_token t last w d = (t ∷ d.0, λ r. ap (λ z. t ∷ z) (d.1 r))

type_name_last : (t : Ty one) → type_ends_in_name t ≡ true → (y : ℕ) × EndsIn (name_token y ∷ []) (write_type t)
type_name_last (named y) h = (y, ([], λ r. refl))
type_name_last (applied y l) h = true_not_false (sym h)
type_name_last (pointing p t) h = let d = type_name_last t h in (d.0, behind_token (type_prefix_token p) (name_token d.0 ∷ []) (write_type t) d.1)
type_name_last (sign x) h = true_not_false (sym h)

pub name_last : (e : Expr one) → ends_in_type_name e ≡ true → (y : ℕ) × EndsIn (name_token y ∷ []) (write e)
name_last (atom x) h = true_not_false (sym h)
name_last (paren a) h = true_not_false (sym h)
name_last (prefix p a) h = let d = name_last a h in (d.0, behind_token (prefix_token p) (name_token d.0 ∷ []) (write a) d.1)
name_last (binary o a b) h = let d = name_last b h in (d.0, behind_tree a (operator o) (name_token d.0 ∷ []) (write b) d.1)
name_last (cast a t) h = let d = type_name_last t h in (d.0, behind_tree a as_token (name_token d.0 ∷ []) (write_type t) d.1)
name_last (member m a) h = true_not_false (sym h)
name_last (try a) h = true_not_false (sym h)
name_last (index a b) h = true_not_false (sym h)
name_last (call a l) h = true_not_false (sym h)
name_last (method y a l) h = true_not_false (sym h)

pub dot_name_last : (e : Expr one) → ends_in_dot_name e ≡ true → (y : ℕ) × EndsIn (dot ∷ name_token y ∷ []) (write e)
dot_name_last (atom x) h = true_not_false (sym h)
dot_name_last (paren a) h = true_not_false (sym h)
dot_name_last (prefix p a) h = let d = dot_name_last a h in (d.0, behind_token (prefix_token p) (dot ∷ name_token d.0 ∷ []) (write a) d.1)
dot_name_last (binary o a b) h = let d = dot_name_last b h in (d.0, behind_tree a (operator o) (dot ∷ name_token d.0 ∷ []) (write b) d.1)
dot_name_last (cast a t) h = true_not_false (sym h)
dot_name_last (member (by_name y) a) h = (y, (write a [], λ r. write_append a [] (dot ∷ name_token y ∷ r)))
dot_name_last (member (by_number y) a) h = true_not_false (sym h)
dot_name_last (member awaited a) h = true_not_false (sym h)
dot_name_last (try a) h = true_not_false (sym h)
dot_name_last (index a b) h = true_not_false (sym h)
dot_name_last (call a l) h = true_not_false (sym h)
dot_name_last (method y a l) h = true_not_false (sym h)
