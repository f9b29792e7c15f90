-- The two contexts: what fits in a condition fits anywhere, and without a Struct the contexts are one. Assumes nothing.
use mathlib.Core.Path.{◌≡◌, refl, ap, ap₂, ◌∙◌}
use mathlib.Core.Bool.{Bool, true, false, ◌||◌}
use mathlib.Core.List.{List, ◌∷◌}
use Prim.Native.Nat.{ℕ, zero, suc}
use lib.Dec.{ltb}
use Rattle.token_grammar.specs.Tokens.{Token, struct_token, code, cells_of}
use Rattle.token_grammar.specs.Codes.{code_at}
use Rattle.token_grammar.specs.Levels.{casts, prefixes, postfixes, kind, before, after}
use Rattle.token_grammar.specs.Types.{Sort, one, Ty, named, applied, pointing, sign, no_types, types, last_type, more_types, write_type}
use Rattle.token_grammar.specs.Expressions.{path, literal, structure, Expr, atom, paren, prefix, binary, cast, member, try, index, call, method, no_arguments, arguments, last_argument, more_arguments, write, ends_in_dot_name, is_struct}
use Rattle.token_grammar.specs.Grammar.{Context, NONE, opens_arguments, excluded, Fits}
use Rattle.token_grammar.proofs.Added.{strength, too_weak, too_weak_after, too_weak_to_call, with_pair, add_pairs, add_all}
use Rattle.token_grammar.proofs.Pairs.{no_struct}

-- ---- what fits in a condition

pub wider : {s : Sort} (c : Context) (e : Expr s) → Fits c e → Fits NONE e
wider c (atom x) k = refl
wider c (paren a) k = k
wider c (prefix p a) k = (k.0, wider c a k.1)
wider c (binary o a b) k = (k.0, k.1, k.2, wider c a k.3, wider c b k.4)
wider c (cast a t) k = (k.0, wider c a k.1)
wider c (member m a) k = (k.0, wider c a k.1)
wider c (try a) k = (k.0, wider c a k.1)
wider c (index a b) k = (k.0, wider c a k.1, k.2)
wider c (call a l) k = (k.0, k.1, wider c a k.2, wider c l k.3)
wider c (method y a l) k = (k.0, wider c a k.1, wider c l k.2)
wider c no_arguments k = tt
wider c (arguments l) k = wider c l k
wider c (last_argument comma a) k = k
wider c (more_arguments a l) k = (k.0, wider c l k.1)

-- ---- parse trees without a Struct

abbrev pub Structless : {s : Sort} → Expr s → Type 0
Structless (atom x) = is_struct (atom x) ≡ false
Structless (paren a) = Structless a
Structless (prefix p a) = Structless a
Structless (binary o a b) = Structless a × Structless b
Structless (cast a t) = Structless a
Structless (member m a) = Structless a
Structless (try a) = Structless a
Structless (index a b) = Structless a × Structless b
Structless (call a l) = Structless a × Structless l
Structless (method y a l) = Structless a × Structless l
Structless no_arguments = Unit {0}
Structless (arguments l) = Structless l
Structless (last_argument comma a) = Structless a
Structless (more_arguments a l) = Structless a × Structless l

admitted : (c : Context) (e : Expr one) → Structless e → excluded c e ≡ false
admitted c e k = no_struct c e (none e k)
  where
    none : (e : Expr one) → Structless e → is_struct e ≡ false
    none (atom x) k = k
    none (paren a) k = refl
    none (prefix p a) k = refl
    none (binary o a b) k = refl
    none (cast a t) k = refl
    none (member m a) k = refl
    none (try a) k = refl
    none (index a b) k = refl
    none (call a l) k = refl
    none (method y a l) k = refl

-- fit in every context, if in one
pub any_context : {s : Sort} (c d : Context) (e : Expr s) → Structless e → Fits c e → Fits d e
any_context c d (atom x) n k = admitted d (atom x) n
any_context c d (paren a) n k = k
any_context c d (prefix p a) n k = (k.0, any_context c d a n k.1)
any_context c d (binary o a b) n k = (k.0, k.1, k.2, any_context c d a n.0 k.3, any_context c d b n.1 k.4)
any_context c d (cast a t) n k = (k.0, any_context c d a n k.1)
any_context c d (member m a) n k = (k.0, any_context c d a n k.1)
any_context c d (try a) n k = (k.0, any_context c d a n k.1)
any_context c d (index a b) n k = (k.0, any_context c d a n.0 k.1, k.2)
any_context c d (call a l) n k = (k.0, k.1, any_context c d a n.0 k.2, any_context c d l n.1 k.3)
any_context c d (method y a l) n k = (k.0, any_context c d a n.0 k.1, any_context c d l n.1 k.2)
any_context c d no_arguments n k = tt
any_context c d (arguments l) n k = any_context c d l n k
any_context c d (last_argument comma a) n k = k
any_context c d (more_arguments a l) n k = (k.0, any_context c d l n.1 k.1)

-- ---- have the same pairs in every context

module _ (c : Context) where
  abbrev Same : {s : Sort} → Expr s → Type 0
  Same e = (g : Bool) → add_pairs e c g ≡ add_pairs e NONE g

  with_same : (p q g : Bool) (a : Expr one) → p ≡ q → Same a → with_pair p c g (add_pairs a) ≡ with_pair q NONE g (add_pairs a)
  with_same p q g a e h = ap (λ x. with_pair x c g (add_pairs a)) e ∙ go q
    where
      go : (x : Bool) → with_pair x c g (add_pairs a) ≡ with_pair x NONE g (add_pairs a)
      go true = refl
      go false = h g

  weak_same : (n : ℕ) (g : Bool) (a : Expr one) → Structless a → too_weak c n g a ≡ too_weak NONE n g a
  weak_same n g a k = ap (λ x. x || ltb (strength g a) n) (admitted c a k)

  operand_same : (n : ℕ) (g : Bool) (a : Expr one) → Structless a → Same a → with_pair (too_weak c n g a) c g (add_pairs a) ≡ with_pair (too_weak NONE n g a) NONE g (add_pairs a)
  operand_same n g a k h = with_same _ _ g a (weak_same n g a k) h

  callee_same : (a : Expr one) → Structless a → Same a → with_pair (too_weak_to_call c a) c false (add_pairs a) ≡ with_pair (too_weak_to_call NONE a) NONE false (add_pairs a)
  callee_same a k h = with_same _ _ false a (ap (λ x. x || ends_in_dot_name a) (weak_same (before postfixes) false a k)) h

  pairs_same : {s : Sort} (e : Expr s) → Structless e → Same e
  pairs_same (atom x) k g = refl
  pairs_same (paren a) k g = refl
  pairs_same (prefix p a) k g = ap (prefix p) (operand_same (after prefixes) g a k (pairs_same a k))
  pairs_same (binary o a b) k g =
      ap₂ (binary o) (operand_same (before (kind o)) (opens_arguments o) a k.0 (pairs_same a k.0))
      (with_same (too_weak_after c o g b) (too_weak_after NONE o g b) g b (weak_same _ g b k.1) (pairs_same b k.1))
  pairs_same (cast a t) k g = ap (λ x. cast x t) (operand_same (before casts) false a k (pairs_same a k))
  pairs_same (member m a) k g = ap (member m) (operand_same (before postfixes) false a k (pairs_same a k))
  pairs_same (try a) k g = ap try (operand_same (before postfixes) false a k (pairs_same a k))
  pairs_same (index a b) k g = ap (λ x. index x (add_pairs b NONE false)) (operand_same (before postfixes) false a k.0 (pairs_same a k.0))
  pairs_same (call a l) k g = ap₂ call (callee_same a k.0 (pairs_same a k.0)) (pairs_same l k.1 false)
  pairs_same (method y a l) k g = ap₂ (method y) (operand_same (before postfixes) false a k.0 (pairs_same a k.0)) (pairs_same l k.1 false)
  pairs_same no_arguments k g = refl
  pairs_same (arguments l) k g = ap arguments (pairs_same l k false)
  pairs_same (last_argument comma a) k g = refl
  pairs_same (more_arguments a l) k g = ap (more_arguments (add_pairs a NONE false)) (pairs_same l k.1 false)

  pub all_same : (e : Expr one) → Structless e → add_all c e ≡ add_all NONE e
  all_same e k = with_same (excluded c e) false false e (admitted c e k) (pairs_same e k)

-- ---- a parse tree that writes no Struct has none

pub record Clean (ts : List Token) : Type 0 where
  pub none : (i : ℕ) → code_at (cells_of ts) i ≡ code struct_token → ⊥

next : {t : Token} {ts : List Token} → Clean (t ∷ ts) → Clean ts
next h = record { none = λ i. h.none (suc i) }

type_clean : {s : Sort} (t : Ty s) (r : List Token) → Clean (write_type t r) → Clean r
type_clean (named y) r h = next h
type_clean (applied y l) r h = type_clean l r (next (next h))
type_clean (pointing p t) r h = type_clean t r (next h)
type_clean (sign x) r h = next h
type_clean no_types r h = next h
type_clean (types l) r h = type_clean l r h
type_clean (last_type true t) r h = next (next (type_clean t _ h))
type_clean (last_type false t) r h = next (type_clean t _ h)
type_clean (more_types t l) r h = type_clean l r (next (type_clean t _ h))

pub clean : {s : Sort} (e : Expr s) (r : List Token) → Clean (write e r) → Structless e × Clean r
clean (atom (path y)) r h = (refl, next h)
clean (atom (literal y)) r h = (refl, next h)
clean (atom structure) r h = absurd (h.none zero refl)
clean (paren a) r h = let d = clean a _ (next h) in (d.0, next d.1)
clean (prefix p a) r h = clean a r (next h)
clean (binary o a b) r h = let d = clean a _ h in let f = clean b r (next d.1) in ((d.0, f.0), f.1)
clean (cast a t) r h = let d = clean a _ h in (d.0, type_clean t r (next d.1))
clean (member m a) r h = let d = clean a _ h in (d.0, next (next d.1))
clean (try a) r h = let d = clean a _ h in (d.0, next d.1)
clean (index a b) r h = let d = clean a _ h in let f = clean b _ (next d.1) in ((d.0, f.0), next f.1)
clean (call a l) r h = let d = clean a _ h in let f = clean l r (next d.1) in ((d.0, f.0), f.1)
clean (method y a l) r h = let d = clean a _ h in let f = clean l r (next (next (next d.1))) in ((d.0, f.0), f.1)
clean no_arguments r h = (tt, next h)
clean (arguments l) r h = clean l r h
clean (last_argument true a) r h = let d = clean a _ h in (d.0, next (next d.1))
clean (last_argument false a) r h = let d = clean a _ h in (d.0, next d.1)
clean (more_arguments a l) r h = let d = clean a _ h in let f = clean l r (next d.1) in ((d.0, f.0), f.1)
