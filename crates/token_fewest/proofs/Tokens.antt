-- A parse tree's tokens have a `(` for each pair and for each argument list. So what is written has the fewest of them. Assumes nothing.
use mathlib.Core.Path.{◌≡◌, refl, sym, ap, ◌∙◌}
use mathlib.Core.Bool.{true, false}
use mathlib.Core.List.{List, [], ◌∷◌}
use Prim.Native.Nat.{ℕ, ◌+◌, ◌≤◌}
use native.Mathlib.Omega.{arith}
use lib.Dec.{eqb}
use borrow.Author.Tests.{ne_eqb}
use Rattle.bools.specs.Bits.{bit_of}
use Rattle.token_grammar.specs.Tokens.{Operator, number, Token, gt, operator, as_token, name_token, dot, left_paren, right_paren, left_bracket, right_bracket, comma_token, question, code, cells_of}
use Rattle.token_grammar.specs.Types.{Sort, one, TypePrefix, const_ptr, mut_ptr, shared_ref, mut_ref, TypeSign, infer, never, Ty, named, applied, pointing, sign, no_types, types, last_type, more_types, type_prefix_token, type_sign_token, write_type}
use Rattle.token_grammar.specs.Expressions.{Atom, path, literal, structure, Prefix, neg, deref, invert, ref, ref_mut, Member, by_name, by_number, awaited, Expr, atom, paren, prefix, binary, cast, member, try, index, call, method, no_arguments, arguments, last_argument, more_arguments, atom_token, prefix_token, member_token, write}
use Rattle.token_grammar.specs.Grammar.{NONE, Fits}
use Rattle.token_grammar.specs.Commas.{without_commas, CommasPut, ended, kept, put}
use Rattle.token_grammar.specs.Bare.{bare}
use Rattle.token_grammar.proofs.Tokens.{number_below}
use Rattle.token_grammar.proofs.Added.{add_all}
use Rattle.token_grammar.proofs.Commas.{puts}
use Rattle.token_grammar.proofs.Pairs.{bare_all}
use Rattle.token_fewest.specs.Openings.{openings}
use Rattle.token_fewest.proofs.Counts.{pairs, lists, lists_bare}
use Rattle.token_fewest.proofs.Paid.{fewest}

-- ---- no other token is a `(`

abbrev pub opening : Token → ℕ
opening t = bit_of (eqb (code t) (code left_paren))

pub operator_opening : (o : Operator) → opening (operator o) ≡ 0
operator_opening o = ap bit_of (ne_eqb (number o) (code left_paren) (λ e. omega (arith, number_below o)))

atom_opening : (x : Atom) → opening (atom_token x) ≡ 0
atom_opening (path y) = refl
atom_opening (literal y) = refl
atom_opening structure = refl

prefix_opening : (p : Prefix) → opening (prefix_token p) ≡ 0
prefix_opening neg = refl
prefix_opening deref = refl
prefix_opening invert = refl
prefix_opening ref = refl
prefix_opening ref_mut = refl

member_opening : (m : Member) → opening (member_token m) ≡ 0
member_opening (by_name y) = refl
member_opening (by_number y) = refl
member_opening awaited = refl

type_prefix_opening : (p : TypePrefix) → opening (type_prefix_token p) ≡ 0
type_prefix_opening const_ptr = refl
type_prefix_opening mut_ptr = refl
type_prefix_opening shared_ref = refl
type_prefix_opening mut_ref = refl

type_sign_opening : (x : TypeSign) → opening (type_sign_token x) ≡ 0
type_sign_opening infer = refl
type_sign_opening never = refl

type_openings : {s : Sort} (t : Ty s) (r : List Token) → openings (cells_of (write_type t r)) ≡ openings (cells_of r)
type_openings (named y) r = omega arith
type_openings (applied y l) r = omega (arith, type_openings l r)
type_openings (pointing p t) r = omega (arith, type_prefix_opening p, type_openings t r)
type_openings (sign x) r = omega (arith, type_sign_opening x)
type_openings no_types r = omega arith
type_openings (types l) r = type_openings l r
type_openings (last_type true t) r = omega (arith, type_openings t (comma_token ∷ operator gt ∷ r))
type_openings (last_type false t) r = omega (arith, type_openings t (operator gt ∷ r))
type_openings (more_types t l) r = omega (arith, type_openings t (comma_token ∷ write_type l r), type_openings l r)

-- ---- a parse tree's tokens

write_openings : {s : Sort} (e : Expr s) (r : List Token) → openings (cells_of (write e r)) ≡ pairs e + lists e + openings (cells_of r)
write_openings (atom x) r = omega (arith, atom_opening x)
write_openings (paren a) r = omega (arith, write_openings a (right_paren ∷ r))
write_openings (prefix p a) r = omega (arith, prefix_opening p, write_openings a r)
write_openings (binary o a b) r = omega (arith, write_openings a (operator o ∷ write b r), operator_opening o, write_openings b r)
write_openings (cast a t) r = omega (arith, write_openings a (as_token ∷ write_type t r), type_openings t r)
write_openings (member m a) r = omega (arith, write_openings a (dot ∷ member_token m ∷ r), member_opening m)
write_openings (try a) r = omega (arith, write_openings a (question ∷ r))
write_openings (index a b) r = omega (arith, write_openings a (left_bracket ∷ write b (right_bracket ∷ r)), write_openings b (right_bracket ∷ r))
write_openings (call a l) r = omega (arith, write_openings a (left_paren ∷ write l r), write_openings l r)
write_openings (method y a l) r = omega (arith, write_openings a (dot ∷ name_token y ∷ left_paren ∷ write l r), write_openings l r)
write_openings no_arguments r = omega arith
write_openings (arguments l) r = write_openings l r
write_openings (last_argument true a) r = omega (arith, write_openings a (comma_token ∷ right_paren ∷ r))
write_openings (last_argument false a) r = omega (arith, write_openings a (right_paren ∷ r))
write_openings (more_arguments a l) r = omega (arith, write_openings a (comma_token ∷ write l r), write_openings l r)

-- commas that are put in are no `(`
put_openings : {without with : List ℕ} → CommasPut without with → openings without ≡ openings with
put_openings ended = refl
put_openings (kept n y h) = ap (λ m. bit_of (eqb n (code left_paren)) + m) (put_openings h)
put_openings (put n y c h) = omega (arith, put_openings h)

-- ---- what is written for the tree of a parse tree that fits has no more of them

pub fewest_tokens : (parsed : Expr one) → Fits NONE parsed → openings (cells_of (write (without_commas (add_all NONE (bare parsed))) [])) ≤ openings (cells_of (write parsed []))
fewest_tokens parsed k =
    let ours = add_all NONE (bare parsed) in
    let l : lists ours ≡ lists parsed = sym (lists_bare ours) ∙ ap lists (bare_all NONE (bare parsed)) ∙ lists_bare (bare parsed) ∙ lists_bare parsed in
    omega (arith, put_openings (puts ours [] [] ended), write_openings ours [], write_openings parsed [], fewest parsed k)
