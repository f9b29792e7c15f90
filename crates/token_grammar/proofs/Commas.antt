-- Commas after last items: which of them stand in a list changes no level, no end and no reading's rules, only tokens. Assumes nothing.
use mathlib.Core.Path.{◌≡◌, refl, sym, ap, ◌∙◌}
use mathlib.Core.Bool.{true, false}
use mathlib.Core.List.{List, [], ◌∷◌}
use mathlib.Core.Logic.{inl, inr}
use Prim.Native.Nat.{zero, suc}
use native.Mathlib.Omega.{arith}
use lib.Dec.{eqb}
use borrow.Author.Tests.{eq-eqb, ne_eqb}
use Rattle.laws.specs.Choice.{pick, lookup}
use Rattle.laws.proofs.Choice.{true_not_false}
use Rattle.token_grammar.specs.Codes.{code_at}
use Rattle.token_grammar.specs.Tokens.{Operator, lt, gt, number, Token, operator, code, as_token, name_token, dot, left_paren, right_paren, left_bracket, right_bracket, comma_token, question, cells_of}
use Rattle.token_grammar.specs.Types.{Sort, one, Ty, named, applied, pointing, sign, no_types, types, last_type, more_types, type_prefix_token, type_sign_token, write_type, type_ends_in_name}
use Rattle.token_grammar.specs.Expressions.{Member, by_name, by_number, awaited, Expr, atom, paren, prefix, binary, cast, member, try, index, call, method, no_arguments, arguments, last_argument, more_arguments, atom_token, prefix_token, member_token, write, kind_of, ends_in_type_name, ends_in_dot_name}
use Rattle.token_grammar.specs.Grammar.{Context, NONE, Fits}
use Rattle.token_grammar.specs.Commas.{without_type_commas, without_commas, Closes, CommasPut, kept, put, NoLastComma}
use Rattle.token_grammar.specs.Parser.{is_first, start_of, type_start_of}
use Rattle.token_grammar.proofs.FirstTokens.{is_start, is_type_start, begins, type_begins}
use Rattle.token_grammar.proofs.Tokens.{number_below}
use Rattle.token_grammar.proofs.Types.{start_prefix as start_type_prefix, start_sign, items_first as types_first}
use Rattle.token_grammar.proofs.Complete.{start_atom, start_prefix, items_first}

-- ---- levels and ends

kind_same : (e : Expr one) → kind_of (without_commas e) ≡ kind_of e
kind_same (atom x) = refl
kind_same (paren a) = refl
kind_same (prefix p a) = refl
kind_same (binary o a b) = refl
kind_same (cast a t) = refl
kind_same (member m a) = refl
kind_same (try a) = refl
kind_same (index a b) = refl
kind_same (call a l) = refl
kind_same (method y a l) = refl

type_end_same : (t : Ty one) → type_ends_in_name (without_type_commas t) ≡ type_ends_in_name t
type_end_same (named y) = refl
type_end_same (applied y l) = refl
type_end_same (pointing p t) = type_end_same t
type_end_same (sign x) = refl

type_name_same : (e : Expr one) → ends_in_type_name (without_commas e) ≡ ends_in_type_name e
type_name_same (atom x) = refl
type_name_same (paren a) = refl
type_name_same (prefix p a) = type_name_same a
type_name_same (binary o a b) = type_name_same b
type_name_same (cast a t) = type_end_same t
type_name_same (member m a) = refl
type_name_same (try a) = refl
type_name_same (index a b) = refl
type_name_same (call a l) = refl
type_name_same (method y a l) = refl

dot_name_same : (e : Expr one) → ends_in_dot_name (without_commas e) ≡ ends_in_dot_name e
dot_name_same (atom x) = refl
dot_name_same (paren a) = refl
dot_name_same (prefix p a) = dot_name_same a
dot_name_same (binary o a b) = dot_name_same b
dot_name_same (cast a t) = refl
dot_name_same (member (by_name y) a) = refl
dot_name_same (member (by_number y) a) = refl
dot_name_same (member awaited a) = refl
dot_name_same (try a) = refl
dot_name_same (index a b) = refl
dot_name_same (call a l) = refl
dot_name_same (method y a l) = refl

-- ---- a parse tree fits with its commas exactly where it fits without them

pub fits_without : {s : Sort} (c : Context) (e : Expr s) → Fits c e → Fits c (without_commas e)
fits_without c (atom x) k = k
fits_without c (paren a) k = fits_without NONE a k
fits_without c (prefix p a) k = (rw (kind_same a) k.0, fits_without c a k.1)
fits_without c (binary o a b) k = (rw (kind_same a) k.0, rw (kind_same b) k.1, rw (type_name_same a) k.2, fits_without c a k.3, fits_without c b k.4)
fits_without c (cast a t) k = (rw (kind_same a) k.0, fits_without c a k.1)
fits_without c (member m a) k = (rw (kind_same a) k.0, fits_without c a k.1)
fits_without c (try a) k = (rw (kind_same a) k.0, fits_without c a k.1)
fits_without c (index a b) k = (rw (kind_same a) k.0, fits_without c a k.1, fits_without NONE b k.2)
fits_without c (call a l) k = (rw (kind_same a) k.0, rw (dot_name_same a) k.1, fits_without c a k.2, fits_without c l k.3)
fits_without c (method y a l) k = (rw (kind_same a) k.0, fits_without c a k.1, fits_without c l k.2)
fits_without c no_arguments k = tt
fits_without c (arguments l) k = fits_without c l k
fits_without c (last_argument comma a) k = fits_without NONE a k
fits_without c (more_arguments a l) k = (fits_without NONE a k.0, fits_without c l k.1)

pub fits_with : {s : Sort} (c : Context) (e : Expr s) → Fits c (without_commas e) → Fits c e
fits_with c (atom x) k = k
fits_with c (paren a) k = fits_with NONE a k
fits_with c (prefix p a) k = ((rw (kind_same a) at k).0, fits_with c a k.1)
fits_with c (binary o a b) k = ((rw (kind_same a) at k).0, (rw (kind_same b) at k).1, (rw (type_name_same a) at k).2, fits_with c a k.3, fits_with c b k.4)
fits_with c (cast a t) k = ((rw (kind_same a) at k).0, fits_with c a k.1)
fits_with c (member m a) k = ((rw (kind_same a) at k).0, fits_with c a k.1)
fits_with c (try a) k = ((rw (kind_same a) at k).0, fits_with c a k.1)
fits_with c (index a b) k = ((rw (kind_same a) at k).0, fits_with c a k.1, fits_with NONE b k.2)
fits_with c (call a l) k = ((rw (kind_same a) at k).0, (rw (dot_name_same a) at k).1, fits_with c a k.2, fits_with c l k.3)
fits_with c (method y a l) k = ((rw (kind_same a) at k).0, fits_with c a k.1, fits_with c l k.2)
fits_with c no_arguments k = tt
fits_with c (arguments l) k = fits_with c l k
fits_with c (last_argument comma a) k = fits_with NONE a k
fits_with c (more_arguments a l) k = (fits_with NONE a k.0, fits_with c l k.1)

-- ---- its tokens are those without the commas, with commas put straight before a `)` or a `>`

type_puts : {s : Sort} (t : Ty s) (r q : List Token) → CommasPut (cells_of r) (cells_of q) → CommasPut (cells_of (write_type (without_type_commas t) r)) (cells_of (write_type t q))
type_puts (named y) r q h = kept _ _ h
type_puts (applied y l) r q h = kept _ _ (kept _ _ (type_puts l r q h))
type_puts (pointing p t) r q h = kept _ _ (type_puts t r q h)
type_puts (sign x) r q h = kept _ _ h
type_puts no_types r q h = kept _ _ h
type_puts (types l) r q h = type_puts l r q h
type_puts (last_type true t) r q h = type_puts t (operator gt ∷ r) (comma_token ∷ operator gt ∷ q) (put _ _ (inr refl) h)
type_puts (last_type false t) r q h = type_puts t (operator gt ∷ r) (operator gt ∷ q) (kept _ _ h)
type_puts (more_types t l) r q h = type_puts t (comma_token ∷ write_type (without_type_commas l) r) (comma_token ∷ write_type l q) (kept _ _ (type_puts l r q h))

pub puts : {s : Sort} (e : Expr s) (r q : List Token) → CommasPut (cells_of r) (cells_of q) → CommasPut (cells_of (write (without_commas e) r)) (cells_of (write e q))
puts (atom x) r q h = kept _ _ h
puts (paren a) r q h = kept _ _ (puts a (right_paren ∷ r) (right_paren ∷ q) (kept _ _ h))
puts (prefix p a) r q h = kept _ _ (puts a r q h)
puts (binary o a b) r q h = puts a (operator o ∷ write (without_commas b) r) (operator o ∷ write b q) (kept _ _ (puts b r q h))
puts (cast a t) r q h = puts a (as_token ∷ write_type (without_type_commas t) r) (as_token ∷ write_type t q) (kept _ _ (type_puts t r q h))
puts (member m a) r q h = puts a (dot ∷ member_token m ∷ r) (dot ∷ member_token m ∷ q) (kept _ _ (kept _ _ h))
puts (try a) r q h = puts a (question ∷ r) (question ∷ q) (kept _ _ h)
puts (index a b) r q h =
    puts a (left_bracket ∷ write (without_commas b) (right_bracket ∷ r)) (left_bracket ∷ write b (right_bracket ∷ q)) (kept _ _ (puts b (right_bracket ∷ r) (right_bracket ∷ q) (kept _ _ h)))
puts (call a l) r q h = puts a (left_paren ∷ write (without_commas l) r) (left_paren ∷ write l q) (kept _ _ (puts l r q h))
puts (method y a l) r q h =
    puts a (dot ∷ name_token y ∷ left_paren ∷ write (without_commas l) r) (dot ∷ name_token y ∷ left_paren ∷ write l q) (kept _ _ (kept _ _ (kept _ _ (puts l r q h))))
puts no_arguments r q h = kept _ _ h
puts (arguments l) r q h = puts l r q h
puts (last_argument true a) r q h = puts a (right_paren ∷ r) (comma_token ∷ right_paren ∷ q) (put _ _ (inl refl) h)
puts (last_argument false a) r q h = puts a (right_paren ∷ r) (right_paren ∷ q) (kept _ _ h)
puts (more_arguments a l) r q h = puts a (comma_token ∷ write (without_commas l) r) (comma_token ∷ write l q) (kept _ _ (puts l r q h))

-- ---- without the commas none stands straight before a `)` or a `>`

record Fine (ts : List Token) : Type 0 where
  none : NoLastComma (cells_of ts)

fine_token : (t : Token) {r : List Token} → eqb (code t) (code comma_token) ≡ false → Fine r → Fine (t ∷ r)
fine_token t {r} n h = record { none = go }
  where
    go : NoLastComma (cells_of (t ∷ r))
    go zero e k = true_not_false (sym (eq-eqb (code t) (code comma_token) e) ∙ n)
    go (suc i) e k = h.none i e k

fine_comma : (r : List Token) → is_first right_paren r ≡ false → is_first (operator gt) r ≡ false → Fine r → Fine (comma_token ∷ r)
fine_comma r n m h = record { none = go }
  where
    first : (r : List Token) → is_first right_paren r ≡ false → is_first (operator gt) r ≡ false → Closes (code_at (cells_of r) 0) → ⊥
    first [] n m (inl k) = omega arith
    first [] n m (inr k) = omega arith
    first (t ∷ r) n m (inl k) = true_not_false (sym (eq-eqb (code t) (code right_paren) k) ∙ n)
    first (t ∷ r) n m (inr k) = true_not_false (sym (eq-eqb (code t) (code (operator gt)) k) ∙ m)

    go : NoLastComma (cells_of (comma_token ∷ r))
    go zero e k = first r n m k
    go (suc i) e k = h.none i e k

-- what begins an expression or a type is no comma
no_comma : (t : Token) → is_start (start_of t) ≡ true → eqb (code t) (code comma_token) ≡ false
unfolding start_of lookup pick
no_comma t h = begins comma_token t [] refl refl h

no_type_comma : (t : Token) → is_type_start (type_start_of t) ≡ true → eqb (code t) (code comma_token) ≡ false
unfolding type_start_of lookup pick
no_type_comma t h = type_begins comma_token t [] refl refl h

member_other : (m : Member) → eqb (code (member_token m)) (code comma_token) ≡ false
member_other (by_name y) = refl
member_other (by_number y) = refl
member_other awaited = refl

operator_other : (o : Operator) → eqb (number o) (code comma_token) ≡ false
operator_other o = ne_eqb (number o) (code comma_token) (λ e. omega (arith, number_below o))

type_fine : {s : Sort} (t : Ty s) (r : List Token) → Fine r → Fine (write_type (without_type_commas t) r)
unfolding type_start_of lookup pick
type_fine (named y) r h = fine_token (name_token y) refl h
type_fine (applied y l) r h = fine_token (name_token y) refl (fine_token (operator lt) refl (type_fine l r h))
type_fine (pointing p t) r h = fine_token (type_prefix_token p) (no_type_comma (type_prefix_token p) (ap is_type_start (start_type_prefix p))) (type_fine t r h)
type_fine (sign x) r h = fine_token (type_sign_token x) (no_type_comma (type_sign_token x) (ap is_type_start (start_sign x))) h
type_fine no_types r h = fine_token (operator gt) refl h
type_fine (types l) r h = type_fine l r h
type_fine (last_type comma t) r h = type_fine t (operator gt ∷ r) (fine_token (operator gt) refl h)
type_fine (more_types t l) r h =
    let r₁ = write_type (without_type_commas l) r in
    type_fine t (comma_token ∷ r₁) (fine_comma r₁ (types_first right_paren refl refl (without_type_commas l) r) (types_first (operator gt) refl refl (without_type_commas l) r) (type_fine l r h))

fine : {s : Sort} (e : Expr s) (r : List Token) → Fine r → Fine (write (without_commas e) r)
unfolding start_of lookup pick
fine (atom x) r h = fine_token (atom_token x) (no_comma (atom_token x) (ap is_start (start_atom x))) h
fine (paren a) r h = fine_token left_paren refl (fine a (right_paren ∷ r) (fine_token right_paren refl h))
fine (prefix p a) r h = fine_token (prefix_token p) (no_comma (prefix_token p) (ap is_start (start_prefix p))) (fine a r h)
fine (binary o a b) r h = fine a (operator o ∷ write (without_commas b) r) (fine_token (operator o) (operator_other o) (fine b r h))
fine (cast a t) r h = fine a (as_token ∷ write_type (without_type_commas t) r) (fine_token as_token refl (type_fine t r h))
fine (member m a) r h = fine a (dot ∷ member_token m ∷ r) (fine_token dot refl (fine_token (member_token m) (member_other m) h))
fine (try a) r h = fine a (question ∷ r) (fine_token question refl h)
fine (index a b) r h =
    fine a (left_bracket ∷ write (without_commas b) (right_bracket ∷ r)) (fine_token left_bracket refl (fine b (right_bracket ∷ r) (fine_token right_bracket refl h)))
fine (call a l) r h = fine a (left_paren ∷ write (without_commas l) r) (fine_token left_paren refl (fine l r h))
fine (method y a l) r h =
    fine a (dot ∷ name_token y ∷ left_paren ∷ write (without_commas l) r) (fine_token dot refl (fine_token (name_token y) refl (fine_token left_paren refl (fine l r h))))
fine no_arguments r h = fine_token right_paren refl h
fine (arguments l) r h = fine l r h
fine (last_argument comma a) r h = fine a (right_paren ∷ r) (fine_token right_paren refl h)
fine (more_arguments a l) r h =
    let r₁ = write (without_commas l) r in
    fine a (comma_token ∷ r₁) (fine_comma r₁ (items_first right_paren refl refl (without_commas l) r) (items_first (operator gt) refl refl (without_commas l) r) (fine l r h))

pub none_last : (e : Expr one) → NoLastComma (cells_of (write (without_commas e) []))
none_last e = (fine e [] (record { none = λ i q k. omega arith })).none
