-- The parser of expressions as the reader goes: what one begins with, and then one form after the other. Assumes nothing.
use mathlib.Core.Path.{◌≡◌, refl, subst, ◌∙◌}
use mathlib.Core.Bool.{Bool, true, false, ◌&&◌}
use mathlib.Core.List.{List}
use Prim.Native.Nat.{ℕ, suc, ◌≤◌}
use Rattle.token_grammar.specs.Tokens.{Token, left_paren, right_paren, right_bracket}
use Rattle.token_grammar.specs.Levels.{prefixes, kind, after}
use Rattle.token_grammar.specs.Bounds.{loosest}
use Rattle.token_grammar.specs.Types.{one}
use Rattle.token_grammar.specs.Expressions.{Expr, Member, atom, paren, prefix, binary, cast, member, index, call, method}
use Rattle.token_grammar.specs.Grammar.{Context, NONE, excluded}
use Rattle.token_grammar.specs.Parser.{Out, fail, ok, then, tail, is_first, Start, no_start, an_atom, a_prefix, a_group, start, AfterDot, no_member, a_member, after_dot, is_by_name, member_symbol, next, goes_on, type_by, expr_by, on_by, arguments_by}
use Rattle.token_grammar.specs.Next.{Next, stops, operates, casts_to, dots, calls, indexes, tries}
use Rattle.token_grammar.proofs.Complete.{dot_step, on_step, on_step_lem}
use Rattle.token_reader.specs.Pieces.{close_by, operand_by, member_by, dot_by, step_by}
use Rattle.token_reader.proofs.Tables.{stops_not}

then_then : {A B C : Type 0} (o : Out A) (k : A → List Token → Out B) (j : B → List Token → Out C) → then o (λ a r. then (k a r) j) ≡ then (then o k) j
then_then fail k j = refl
then_then (ok a r) k j = refl

then_same : {A B : Type 0} (o : Out A) (k j : A → List Token → Out B) → ((a : A) (r : List Token) → k a r ≡ j a r) → then o k ≡ then o j
then_same fail k j h = refl
then_same (ok a r) k j h = h a r

-- with the sign that closes
closed : (c : Context) (g n : ℕ) (close : Token) (whole : Expr one → Expr one) (o : Out (Expr one)) →
    then o (λ a r. elim (is_first close r) [ true ↦ on_by g c n (whole a) (tail r) | false ↦ fail ]) ≡ then (then o (close_by close whole)) (λ e r. on_by g c n e r)
closed c g n close whole o =
    then_same o _ _ (λ a r. go a r (is_first close r)) ∙ then_then o (close_by close whole) (λ e r. on_by g c n e r)
  where
    go : (a : Expr one) (r : List Token) (b : Bool) →
        elim b [ true ↦ on_by g c n (whole a) (tail r) | false ↦ fail ] ≡ then {A = Expr one} (elim b [ true ↦ ok (whole a) (tail r) | false ↦ fail ]) (λ e q. on_by g c n e q)
    go a r true = refl
    go a r false = refl

-- ---- what an expression begins with

abbrev expr_step : Context → ℕ → ℕ → List Token → Start → Out (Expr one)
expr_step c g n ts x =
    elim x [
      | no_start ↦ fail
      | an_atom y ↦ elim (excluded c (atom y)) [ true ↦ fail | false ↦ on_by g c n (atom y) ts ]
      | a_prefix p ↦ then (expr_by g c (after prefixes) ts) (λ a r. on_by g c n (prefix p a) r)
      | a_group ↦ then (expr_by g NONE loosest ts) (λ a r. elim (is_first right_paren r) [ true ↦ on_by g c n (paren a) (tail r) | false ↦ fail ])
    ]

by_operand : (c : Context) (g n : ℕ) (ts : List Token) (x : Start) → expr_step c g n ts x ≡ then (operand_by c g ts x) (λ e r. on_by g c n e r)
by_operand c g n ts no_start = refl
by_operand c g n ts (an_atom y) = go (excluded c (atom y))
  where
    go : (b : Bool) → elim b [ true ↦ fail | false ↦ on_by g c n (atom y) ts ] ≡ then {A = Expr one} (elim b [ true ↦ fail | false ↦ ok (atom y) ts ]) (λ e r. on_by g c n e r)
    go true = refl
    go false = refl
by_operand c g n ts (a_prefix p) = then_then (expr_by g c (after prefixes) ts) (λ a r. ok (prefix p a) r) (λ e r. on_by g c n e r)
by_operand c g n ts a_group = closed c g n right_paren paren (expr_by g NONE loosest ts)

pub expr_by_step : (c : Context) (g n : ℕ) (ts : List Token) → expr_by (suc g) c n ts ≡ then (operand_by c g (tail ts) (start ts)) (λ e r. on_by g c n e r)
unfolding expr_by
expr_by_step c g n ts = by_operand c g n (tail ts) (start ts)

-- ---- what it goes on with

by_member : (c : Context) (g n : ℕ) (e : Expr one) (m : Member) (ts : List Token) (b : Bool) →
    elim b [ true ↦ then (arguments_by g (tail ts)) (λ l r. on_by g c n (method (member_symbol m) e l) r) | false ↦ on_by g c n (member m e) ts ] ≡ then (member_by g e m ts b) (λ x r. on_by g c n x r)
by_member c g n e m ts true = then_then (arguments_by g (tail ts)) (λ l r. ok (method (member_symbol m) e l) r) (λ x r. on_by g c n x r)
by_member c g n e m ts false = refl

by_dot : (c : Context) (g n : ℕ) (e : Expr one) (ts : List Token) (x : AfterDot) → dot_step g c n e ts x ≡ then (dot_by g e ts x) (λ y r. on_by g c n y r)
by_dot c g n e ts no_member = refl
by_dot c g n e ts (a_member m) = by_member c g n e m (tail ts) (is_by_name m && is_first left_paren (tail ts))

by_step : (c : Context) (g n : ℕ) (e : Expr one) (ts : List Token) (x : Next) → (x ≡ stops → ⊥) → on_step g c n e ts x ≡ then (step_by c g e (tail ts) x) (λ y r. on_by g c n y r)
by_step c g n e ts stops h = absurd (h refl)
by_step c g n e ts (operates o) h = then_then (expr_by g c (after (kind o)) (tail ts)) (λ b r. ok (binary o e b) r) (λ y r. on_by g c n y r)
by_step c g n e ts casts_to h = then_then (type_by g (tail ts)) (λ t r. ok (cast e t) r) (λ y r. on_by g c n y r)
by_step c g n e ts dots h = by_dot c g n e (tail ts) (after_dot (tail ts))
by_step c g n e ts calls h = then_then (arguments_by g (tail ts)) (λ l r. ok (call e l) r) (λ y r. on_by g c n y r)
by_step c g n e ts indexes h = closed c g n right_bracket (index e) (expr_by g NONE loosest (tail ts))
by_step c g n e ts tries h = refl

pub on_by_lem : (c : Context) (g n : ℕ) (e : Expr one) (ts : List Token) → 1 ≤ n → goes_on n e (next ts) ≡ true → on_by (suc g) c n e ts ≡ then (step_by c g e (tail ts) (next ts)) (λ y r. on_by g c n y r)
on_by_lem c g n e ts h q =
    on_step_lem g c n e ts q
    ∙ by_step c g n e ts (next ts) (λ z. stops_not n e h (subst (λ x. goes_on n e x ≡ true) z q))
