-- Two parse trees that are one tree but for parentheses, commas after last items and symbols, and write the same tokens, are equal. No level is needed for this. Assumes nothing.
use mathlib.Core.Path.{◌≡◌, refl, sym, subst, ap, ap₂, ◌∙◌}
use mathlib.Core.Bool.{Bool, true, false}
use mathlib.Core.List.{List, [], ◌∷◌}
use mathlib.Core.Logic.{◌⊎◌, inl, inr}
use Prim.Native.Nat.{ℕ, zero, suc, ◌+◌}
use native.Mathlib.Nat.{add-zero, add-suc, zero-add, suc-add}
use native.Mathlib.Omega.{arith}
use lib.Dec.{eqb}
use borrow.Author.Tests.{eq-eqb, ne_eqb}
use Rattle.laws.proofs.Choice.{true_not_false}
use Rattle.token_grammar.specs.Tokens.{Operator, sub, mul, bit_and, lt, gt, number, Token, operator, code, bang, and_mut, as_token, name_token, literal_token, dot, left_paren, right_paren, left_bracket, right_bracket, comma_token, question, struct_token, symbol_of}
use Rattle.token_grammar.specs.Types.{Sort, one, list, items, Ty, named, applied, pointing, sign, no_types, types, last_type, more_types, closing, write_type}
use Rattle.token_grammar.specs.Expressions.{Atom, path, literal, structure, Prefix, neg, deref, invert, ref, ref_mut, Member, by_name, by_number, awaited, Expr, atom, paren, prefix, binary, cast, member, try, index, call, method, no_arguments, arguments, last_argument, more_arguments, atom_token, prefix_token, member_token, write}
use Rattle.token_grammar.specs.Commas.{without_type_commas, without_commas}
use Rattle.token_grammar.specs.Bare.{bare}
use Rattle.token_grammar.proofs.Tokens.{number_below}
use Rattle.token_grammar.proofs.Erased.{atom_with, member_with, erased_type, erased}

-- ---- counted parentheses

abbrev opened : ℕ → List Token → List Token
opened zero u = u
opened (suc n) u = left_paren ∷ opened n u

abbrev closed : ℕ → List Token → List Token
closed zero r = r
closed (suc n) r = right_paren ∷ closed n r

abbrev parens : ℕ → Expr one → Expr one
parens zero e = e
parens (suc n) e = paren (parens n e)

closed_in : (n : ℕ) (r : List Token) → closed n (right_paren ∷ r) ≡ right_paren ∷ closed n r
closed_in zero r = refl
closed_in (suc n) r = ap (λ z. right_paren ∷ z) (closed_in n r)

closed_two : (e i : ℕ) (r : List Token) → closed i (closed e r) ≡ closed (e + i) r
closed_two e zero r = rw add-zero
closed_two e (suc i) r = rw (add-suc e i, closed_two e i r)

closed_same : (n : ℕ) (u v : List Token) → closed n u ≡ closed n v → u ≡ v
closed_same zero u v h = h
closed_same (suc n) u v h = closed_same n u v (cc)

opened_two : (e i : ℕ) (u : List Token) → opened e (opened i u) ≡ opened (e + i) u
opened_two zero i u = rw zero-add
opened_two (suc e) i u = rw (suc-add e i, opened_two e i u)

write_parens : (n : ℕ) (e : Expr one) (r : List Token) → write (parens n e) r ≡ opened n (write e (closed n r))
write_parens zero e r = refl
write_parens (suc n) e r = ap (λ z. left_paren ∷ z) (write_parens n e (right_paren ∷ r) ∙ ap (λ z. opened n (write e z)) (closed_in n r))

-- the fewer parentheses are taken from both sides
abbrev Meet : ℕ → ℕ → List Token → List Token → Type 0
Meet n j a b = ((m : ℕ) × (n ≡ m + j) × (opened m a ≡ b)) ⊎ ((m : ℕ) × (opened (suc m) b ≡ a))

meet : (n j : ℕ) (a b : List Token) → opened n a ≡ opened j b → Meet n j a b
meet n zero a b h = inl (n, omega arith, h)
meet zero (suc j) a b h = inr (j, sym h)
meet (suc n) (suc j) a b h = shift (meet n j a b (cc))
  where
    shift : Meet n j a b → Meet (suc n) (suc j) a b
    shift (inl w) = inl (w.0, omega arith, w.2)
    shift (inr w) = inr w

-- ---- types, with a choice of commas at each list and of a symbol at each name

abbrev TypeChoices : {s : Sort} → Ty s → Type 0
TypeChoices (named y) = ℕ
TypeChoices (applied y l) = ℕ × TypeChoices l
TypeChoices (pointing p t) = TypeChoices t
TypeChoices (sign x) = Unit {0}
TypeChoices no_types = Unit {0}
TypeChoices (types l) = TypeChoices l
TypeChoices (last_type c t) = Bool × TypeChoices t
TypeChoices (more_types t l) = TypeChoices t × TypeChoices l

abbrev put_type : {s : Sort} (t : Ty s) → TypeChoices t → Ty s
put_type (named y) d = named d
put_type (applied y l) d = applied d.0 (put_type l d.1)
put_type (pointing p t) d = pointing p (put_type t d)
put_type (sign x) d = sign x
put_type no_types d = no_types
put_type (types l) d = types (put_type l d)
put_type (last_type c t) d = last_type d.0 (put_type t d.1)
put_type (more_types t l) d = more_types (put_type t d.0) (put_type l d.1)

chosen : {s : Sort} (t : Ty s) → (d : TypeChoices (without_type_commas (erased_type t))) × (put_type (without_type_commas (erased_type t)) d ≡ t)
chosen (named y) = (y, refl)
chosen (applied y l) = let p = chosen l in ((y, p.0), ap (applied y) p.1)
chosen (pointing x t) = let p = chosen t in (p.0, ap (pointing x) p.1)
chosen (sign x) = (tt, refl)
chosen no_types = (tt, refl)
chosen (types l) = let p = chosen l in (p.0, ap types p.1)
chosen (last_type c t) = let p = chosen t in ((c, p.0), ap (last_type c) p.1)
chosen (more_types t l) = let p = chosen t in let q = chosen l in ((p.0, q.0), ap₂ more_types p.1 q.1)

-- ---- a parse tree as its bare tree with a count of parentheses at each operand, a choice of commas at each list and of a symbol at each name

abbrev Counts : {s : Sort} → Expr s → Type 0
Counts (atom x) = ℕ
Counts (paren a) = Unit {0}
Counts (prefix p a) = ℕ × Counts a
Counts (binary o a b) = ℕ × Counts a × ℕ × Counts b
Counts (cast a t) = ℕ × Counts a × TypeChoices t
Counts (member m a) = ℕ × Counts a × ℕ
Counts (try a) = ℕ × Counts a
Counts (index a b) = ℕ × Counts a × ℕ × Counts b
Counts (call a l) = ℕ × Counts a × Counts l
Counts (method y a l) = ℕ × Counts a × Counts l × ℕ
Counts no_arguments = Unit {0}
Counts (arguments l) = Counts l
Counts (last_argument c a) = ℕ × Counts a × Bool
Counts (more_arguments a l) = ℕ × Counts a × Counts l

abbrev put : {s : Sort} (e : Expr s) → Counts e → Expr s
put (atom x) d = atom (atom_with d x)
put (paren a) d = paren a
put (prefix p a) d = prefix p (parens d.0 (put a d.1))
put (binary o a b) d = binary o (parens d.0 (put a d.1)) (parens d.2 (put b d.3))
put (cast a t) d = cast (parens d.0 (put a d.1)) (put_type t d.2)
put (member m a) d = member (member_with d.2 m) (parens d.0 (put a d.1))
put (try a) d = try (parens d.0 (put a d.1))
put (index a b) d = index (parens d.0 (put a d.1)) (parens d.2 (put b d.3))
put (call a l) d = call (parens d.0 (put a d.1)) (put l d.2)
put (method y a l) d = method d.3 (parens d.0 (put a d.1)) (put l d.2)
put no_arguments d = no_arguments
put (arguments l) d = arguments (put l d)
put (last_argument c a) d = last_argument d.2 (parens d.0 (put a d.1))
put (more_arguments a l) d = more_arguments (parens d.0 (put a d.1)) (put l d.2)

abbrev pub core : {s : Sort} → Expr s → Expr s
core e = without_commas (erased (bare e))

abbrev Counted : (s : Sort) → Expr s → Type 0
Counted one e = (k : ℕ) × (d : Counts (core e)) × (parens k (put (core e) d) ≡ e)
Counted list l = (d : Counts (core l)) × (put (core l) d ≡ l)
Counted items l = (d : Counts (core l)) × (put (core l) d ≡ l)

counted : (s : Sort) (e : Expr s) → Counted s e
counted s (atom (path y)) = (0, y, refl)
counted s (atom (literal y)) = (0, y, refl)
counted s (atom structure) = (0, 0, refl)
counted s (paren a) = let p = counted one a in (suc p.0, p.1, ap paren p.2)
counted s (prefix x a) = let p = counted one a in (0, (p.0, p.1), ap (prefix x) p.2)
counted s (binary o a b) = let p = counted one a in let q = counted one b in (0, (p.0, p.1, q.0, q.1), ap₂ (binary o) p.2 q.2)
counted s (cast a t) = let p = counted one a in let q = chosen t in (0, (p.0, p.1, q.0), ap₂ cast p.2 q.1)
counted s (member (by_name y) a) = let p = counted one a in (0, (p.0, p.1, y), ap (member (by_name y)) p.2)
counted s (member (by_number y) a) = let p = counted one a in (0, (p.0, p.1, y), ap (member (by_number y)) p.2)
counted s (member awaited a) = let p = counted one a in (0, (p.0, p.1, 0), ap (member awaited) p.2)
counted s (try a) = let p = counted one a in (0, (p.0, p.1), ap try p.2)
counted s (index a b) = let p = counted one a in let q = counted one b in (0, (p.0, p.1, q.0, q.1), ap₂ index p.2 q.2)
counted s (call a l) = let p = counted one a in let q = counted list l in (0, (p.0, p.1, q.0), ap₂ call p.2 q.1)
counted s (method y a l) = let p = counted one a in let q = counted list l in (0, (p.0, p.1, q.0, y), ap₂ (method y) p.2 q.1)
counted s no_arguments = (tt, refl)
counted s (arguments l) = let q = counted items l in (q.0, ap arguments q.1)
counted s (last_argument c a) = let p = counted one a in ((p.0, p.1, c), ap (last_argument c) p.2)
counted s (more_arguments a l) = let p = counted one a in let q = counted items l in ((p.0, p.1, q.0), ap₂ more_arguments p.2 q.1)

-- ---- the statement, on a tree without parentheses

abbrev NoParens : {s : Sort} → Expr s → Type 0
NoParens (atom x) = Unit {0}
NoParens (paren a) = ⊥
NoParens (prefix p a) = NoParens a
NoParens (binary o a b) = NoParens a × NoParens b
NoParens (cast a t) = NoParens a
NoParens (member m a) = NoParens a
NoParens (try a) = NoParens a
NoParens (index a b) = NoParens a × NoParens b
NoParens (call a l) = NoParens a × NoParens l
NoParens (method y a l) = NoParens a × NoParens l
NoParens no_arguments = Unit {0}
NoParens (arguments l) = NoParens l
NoParens (last_argument c a) = NoParens a
NoParens (more_arguments a l) = NoParens a × NoParens l

core_none : {s : Sort} (e : Expr s) → NoParens (core e)
core_none (atom x) = tt
core_none (paren a) = core_none a
core_none (prefix p a) = core_none a
core_none (binary o a b) = (core_none a, core_none b)
core_none (cast a t) = core_none a
core_none (member m a) = core_none a
core_none (try a) = core_none a
core_none (index a b) = (core_none a, core_none b)
core_none (call a l) = (core_none a, core_none l)
core_none (method y a l) = (core_none a, core_none l)
core_none no_arguments = tt
core_none (arguments l) = core_none l
core_none (last_argument c a) = core_none a
core_none (more_arguments a l) = (core_none a, core_none l)

abbrev Same : (s : Sort) → Expr s → Type 0
Same one t = (x y : Counts t) (e : ℕ) (u v : List Token) → opened e (write (put t x) u) ≡ write (put t y) v → (e ≡ 0) × (put t x ≡ put t y) × (u ≡ v)
Same list t = (x y : Counts t) (u v : List Token) → write (put t x) u ≡ write (put t y) v → (put t x ≡ put t y) × (u ≡ v)
Same items t = (x y : Counts t) (u v : List Token) → write (put t x) u ≡ write (put t y) v → (put t x ≡ put t y) × (u ≡ v)

module _ (t : Expr one) (same : Same one t) (x y : Counts t) (i j e : ℕ) (u v : List Token) where
  abbrev Result : Type 0
  Result = (j ≡ e + i) × (put t x ≡ put t y) × (u ≡ closed e v)

  met : Meet (e + i) j (write (put t x) (closed i u)) (write (put t y) (closed j v)) → Result
  met (inl w) =
      let c = same x y w.0 (closed i u) (closed j v) w.2 in
      let q : j ≡ e + i = omega (arith, w.1, c.0) in
      (q, c.1, closed_same i u (closed e v) (c.2 ∙ ap (λ n. closed n v) q ∙ sym (closed_two e i v)))
  met (inr w) =
      let c = same y x (suc w.0) (closed j v) (closed i u) w.1 in
      absurd (omega (arith, c.0))

  operand : opened e (write (parens i (put t x)) u) ≡ write (parens j (put t y)) v → Result
  operand h =
      met (meet (e + i) j (write (put t x) (closed i u)) (write (put t y) (closed j v))
      (sym (opened_two e i (write (put t x) (closed i u))) ∙ sym (ap (opened e) (write_parens i (put t x) u)) ∙ h ∙ write_parens j (put t y) v))

-- an operand before the token c, which is no `)`; and one that nothing open stands before
module _ (t : Expr one) (same : Same one t) (x y : Counts t) (i j : ℕ) where
  before : (e : ℕ) (c : Token) (u v : List Token) → (c ≡ right_paren → ⊥) → opened e (write (parens i (put t x)) (c ∷ u)) ≡ write (parens j (put t y)) (c ∷ v) →
      (e ≡ 0) × (parens i (put t x) ≡ parens j (put t y)) × (u ≡ v)
  before zero c u v n h =
      let r = operand t same x y i j 0 (c ∷ u) (c ∷ v) h in
      let q : i ≡ j = omega (arith, r.0) in
      (refl, ap₂ parens q r.1, cc r.2)
  before (suc e) c u v n h =
      let r = operand t same x y i j (suc e) (c ∷ u) (c ∷ v) h in
      absurd (n (cc r.2))

  inner : (u v : List Token) → write (parens i (put t x)) u ≡ write (parens j (put t y)) v → (parens i (put t x) ≡ parens j (put t y)) × (u ≡ v)
  inner u v h =
      let r = operand t same x y i j 0 u v h in
      let q : i ≡ j = omega (arith, r.0) in
      (ap₂ parens q r.1, r.2)

distinct : (t u : Token) → eqb (code t) (code u) ≡ false → t ≡ u → ⊥
distinct t u h e = true_not_false (sym (eq-eqb (code t) (code u) (ap code e)) ∙ h)

-- what closes a list says whether a comma stands there
closing_same : (b c : Bool) (close : Token) (u v : List Token) → (comma_token ≡ close → ⊥) → closing b close u ≡ closing c close v → (b ≡ c) × (u ≡ v)
closing_same true true close u v n h = (refl, cc)
closing_same true false close u v n h = absurd (n (cc))
closing_same false true close u v n h = absurd (n (cc))
closing_same false false close u v n h = (refl, cc)

-- a name says its symbol
named_same : (x y : ℕ) (u v : List Token) → name_token x ∷ u ≡ name_token y ∷ v → x ≡ y
named_same x y u v h = let e : name_token x ≡ name_token y = cc in ap symbol_of e

type_same : {s : Sort} (t : Ty s) (x y : TypeChoices t) (u v : List Token) → write_type (put_type t x) u ≡ write_type (put_type t y) v → (put_type t x ≡ put_type t y) × (u ≡ v)
type_same (named n) x y u v h = (ap named (named_same x y u v h), cc)
type_same (applied n l) x y u v h =
    let q = type_same l x.1 y.1 u v (cc) in
    (ap₂ applied (named_same x.0 y.0 (operator lt ∷ write_type (put_type l x.1) u) (operator lt ∷ write_type (put_type l y.1) v) h) q.0, q.1)
type_same (pointing p t) x y u v h = let q = type_same t x y u v (cc) in (ap (pointing p) q.0, q.1)
type_same (sign z) x y u v h = (refl, cc)
type_same no_types x y u v h = (refl, cc)
type_same (types l) x y u v h = let q = type_same l x y u v h in (ap types q.0, q.1)
type_same (last_type c t) x y u v h =
    let q = type_same t x.1 y.1 (closing x.0 (operator gt) u) (closing y.0 (operator gt) v) h in
    let r = closing_same x.0 y.0 (operator gt) u v (distinct comma_token (operator gt) refl) q.1 in
    (ap₂ last_type r.0 q.0, r.1)
type_same (more_types t l) x y u v h =
    let q = type_same t x.0 y.0 (comma_token ∷ write_type (put_type l x.1) u) (comma_token ∷ write_type (put_type l y.1) v) h in
    let r = type_same l x.1 y.1 u v (cc q.1) in
    (ap₂ more_types q.0 r.0, r.1)

-- a token that is no `(` stands first
fresh : (e : ℕ) (b c : Token) (u v : List Token) → (c ≡ left_paren → ⊥) → opened e (b ∷ u) ≡ c ∷ v → (e ≡ 0) × (b ≡ c) × (u ≡ v)
fresh zero b c u v n h = (refl, cc, cc)
fresh (suc e) b c u v n h = absurd (n (cc))

operator_open : (o : Operator) → operator o ≡ right_paren → ⊥
operator_open o = distinct (operator o) right_paren (ne_eqb (number o) 36 (λ e. omega (arith, number_below o)))

atom_closed : (x : Atom) → atom_token x ≡ left_paren → ⊥
atom_closed (path y) = distinct (name_token y) left_paren refl
atom_closed (literal y) = distinct (literal_token y) left_paren refl
atom_closed structure = distinct struct_token left_paren refl

-- an atom's token, and a member's, say the symbol
atom_same : (a : Atom) (x y : ℕ) → atom_token (atom_with x a) ≡ atom_token (atom_with y a) → atom_with x a ≡ atom_with y a
atom_same (path n) x y e = ap (λ t. path (symbol_of t)) e
atom_same (literal n) x y e = ap (λ t. literal (symbol_of t)) e
atom_same structure x y e = refl

member_same : (m : Member) (x y : ℕ) → member_token (member_with x m) ≡ member_token (member_with y m) → member_with x m ≡ member_with y m
member_same (by_name n) x y e = ap (λ t. by_name (symbol_of t)) e
member_same (by_number n) x y e = ap (λ t. by_number (symbol_of t)) e
member_same awaited x y e = refl

prefix_closed : (p : Prefix) → prefix_token p ≡ left_paren → ⊥
prefix_closed neg = distinct (operator sub) left_paren refl
prefix_closed deref = distinct (operator mul) left_paren refl
prefix_closed invert = distinct bang left_paren refl
prefix_closed ref = distinct (operator bit_and) left_paren refl
prefix_closed ref_mut = distinct and_mut left_paren refl

same : (s : Sort) (t : Expr s) → NoParens t → Same s t
same s (atom a) k = λ x y e u v h.
    let r = fresh e (atom_token (atom_with x a)) (atom_token (atom_with y a)) u v (atom_closed (atom_with y a)) h in
    (r.0, ap atom (atom_same a x y r.1), r.2)
same s (paren a) k = absurd k
same s (prefix p a) k = λ x y e u v h.
    let r = fresh e (prefix_token p) (prefix_token p) (write (parens x.0 (put a x.1)) u) (write (parens y.0 (put a y.1)) v) (prefix_closed p) h in
    let q = inner a (same one a k) x.1 y.1 x.0 y.0 u v r.2 in
    (r.0, ap (prefix p) q.0, q.1)
same s (binary o a b) k = λ x y e u v h.
    let r = before a (same one a k.0) x.1 y.1 x.0 y.0 e (operator o) (write (parens x.2 (put b x.3)) u) (write (parens y.2 (put b y.3)) v) (operator_open o) h in
    let q = inner b (same one b k.1) x.3 y.3 x.2 y.2 u v r.2 in
    (r.0, ap₂ (binary o) r.1 q.0, q.1)
same s (cast a t) k = λ x y e u v h.
    let r = before a (same one a k) x.1 y.1 x.0 y.0 e as_token (write_type (put_type t x.2) u) (write_type (put_type t y.2) v) (distinct as_token right_paren refl) h in
    let q = type_same t x.2 y.2 u v r.2 in
    (r.0, ap₂ cast r.1 q.0, q.1)
same s (member m a) k = λ x y e u v h.
    let r = before a (same one a k) x.1 y.1 x.0 y.0 e dot (member_token (member_with x.2 m) ∷ u) (member_token (member_with y.2 m) ∷ v) (distinct dot right_paren refl) h in
    (r.0, ap₂ member (member_same m x.2 y.2 (cc r.2)) r.1, cc r.2)
same s (try a) k = λ x y e u v h.
    let r = before a (same one a k) x.1 y.1 x.0 y.0 e question u v (distinct question right_paren refl) h in
    (r.0, ap try r.1, r.2)
same s (index a b) k = λ x y e u v h.
    let r = before a (same one a k.0) x.1 y.1 x.0 y.0 e left_bracket (write (parens x.2 (put b x.3)) (right_bracket ∷ u)) (write (parens y.2 (put b y.3)) (right_bracket ∷ v)) (distinct left_bracket right_paren refl) h in
    let q = inner b (same one b k.1) x.3 y.3 x.2 y.2 (right_bracket ∷ u) (right_bracket ∷ v) r.2 in
    (r.0, ap₂ index r.1 q.0, cc q.1)
same s (call a l) k = λ x y e u v h.
    let r = before a (same one a k.0) x.1 y.1 x.0 y.0 e left_paren (write (put l x.2) u) (write (put l y.2) v) (distinct left_paren right_paren refl) h in
    let q = same list l k.1 x.2 y.2 u v r.2 in
    (r.0, ap₂ call r.1 q.0, q.1)
same s (method n a l) k = λ x y e u v h.
    let r = before a (same one a k.0) x.1 y.1 x.0 y.0 e dot (name_token x.3 ∷ left_paren ∷ write (put l x.2) u) (name_token y.3 ∷ left_paren ∷ write (put l y.2) v) (distinct dot right_paren refl) h in
    let q = same list l k.1 x.2 y.2 u v (cc r.2) in
    let z = named_same x.3 y.3 (left_paren ∷ write (put l x.2) u) (left_paren ∷ write (put l y.2) v) r.2 in
    (r.0, rw (z, r.1, q.0), q.1)
same s no_arguments k = λ x y u v h. (refl, cc)
same s (arguments l) k = λ x y u v h. let q = same items l k x y u v h in (ap arguments q.0, q.1)
same s (last_argument c a) k = λ x y u v h.
    let q = inner a (same one a k) x.1 y.1 x.0 y.0 (closing x.2 right_paren u) (closing y.2 right_paren v) h in
    let r = closing_same x.2 y.2 right_paren u v (distinct comma_token right_paren refl) q.1 in
    (ap₂ last_argument r.0 q.0, r.1)
same s (more_arguments a l) k = λ x y u v h.
    let r = inner a (same one a k.0) x.1 y.1 x.0 y.0 (comma_token ∷ write (put l x.2) u) (comma_token ∷ write (put l y.2) v) h in
    let q = same items l k.1 x.2 y.2 u v (cc r.1) in
    (ap₂ more_arguments r.0 q.0, q.1)

-- Trees that write the same tokens and are e but for parentheses, commas and symbols are equal.
pub injective : (e c d : Expr one) → core c ≡ core e → core d ≡ core e → write c [] ≡ write d [] → c ≡ d
injective e c d p q h =
    let x : (n : ℕ) × (x : Counts (core e)) × (parens n (put (core e) x) ≡ c) = subst (λ t. (n : ℕ) × (x : Counts t) × (parens n (put t x) ≡ c)) p (counted one c) in
    let y : (n : ℕ) × (x : Counts (core e)) × (parens n (put (core e) x) ≡ d) = subst (λ t. (n : ℕ) × (x : Counts t) × (parens n (put t x) ≡ d)) q (counted one d) in
    let r =
    inner (core e) (same one (core e) (core_none e)) x.1 y.1 x.0 y.0 [] []
    (ap (λ z. write z []) x.2 ∙ h ∙ sym (ap (λ z. write z []) y.2)) in
    sym x.2 ∙ r.0 ∙ y.2
