-- What the reader of expressions answers at each of its ends is what the parser gives. Assumes nothing.
use mathlib.Core.Path.{◌≡◌, refl, sym, subst, ap, ap₂, ◌∙◌}
use mathlib.Core.Bool.{Bool, true, false, ◌&&◌}
use mathlib.Core.List.{List}
use Prim.Native.Nat.{ℕ, zero, suc, ◌+◌, ◌≤◌, ◌<◌}
use native.Mathlib.Omega.{arith}
use native.Mathlib.Decide.{dec_le}
use Rattle.laws.specs.Choice.{is_one_of}
use Rattle.tree.specs.Forms.{expr_await, expr_call, expr_cast, expr_index, expr_method_call, expr_struct, expr_try, link}
use Rattle.tree.specs.Trees.{Tree, none, node}
use Rattle.token_grammar.specs.Tokens.{Token, as_token, dot, left_paren, right_paren, left_bracket, right_bracket, comma_token, question, await, code, operator_of, carries}
use Rattle.token_grammar.specs.Codes.{token_of, sign_of, code_at, token_symbol_at, are_tokens}
use Rattle.token_grammar.specs.Levels.{casts, prefixes, postfixes, kind, level, after}
use Rattle.token_grammar.specs.Bounds.{past_operators, loosest}
use Rattle.token_grammar.specs.Types.{one, list, items}
use Rattle.token_grammar.specs.Expressions.{Atom, structure, Prefix, Member, by_name, by_number, awaited, Expr, atom, paren, prefix, binary, cast, member, try, index, call, method, no_arguments, arguments, last_argument, more_arguments, kind_of, ends_in_type_name, ends_in_dot_name, is_struct}
use Rattle.token_grammar.specs.Grammar.{Context, NONE, CONDITION, excluded}
use Rattle.token_grammar.specs.Bare.{bare}
use Rattle.token_grammar.specs.Parser.{Out, fail, ok, then, tail, is_first, Start, no_start, an_atom, a_prefix, a_group, start, start_by, AfterDot, no_member, a_member, after_dot, after_dot_by, is_by_name, next, AfterItem, closes, another, no_item, after_item, behind, goes_on, type_by, expr_by, on_by, arguments_by, some_arguments_by}
use Rattle.token_grammar.specs.Next.{Next, stops, operates, casts_to, dots, calls, indexes, tries, next_of}
use Rattle.token_grammar.proofs.Complete.{on_stop}
use Rattle.token_grammar.proofs.Pairs.{no_struct}
use Rattle.token_plain.specs.Trees.{label_with, label, tree_of, tree_of_type, atom_label, prefix_label, operator_label, member_label}
use Rattle.token_reader.specs.declared.piece.Piece.{Piece}
use Rattle.token_reader.specs.declared.piece.Parsed.{Parsed}
use Rattle.token_reader.specs.Tables.{past_comma, level_of, after_of, goes_on_with, operator_form, operator_detail}
use Rattle.token_reader.specs.Pieces.{many, Placed, Stored, Ready, Grew, Tells, from, Enough, IsType, TypeAt, IsExpr, IsArguments, Postfix, ExprAt, ArgumentsAt, AtomAt, PrefixedAt, close_by, GroupAt, atom_by, StructAt, operand_by, OperandAt, call_by, member_by, dot_by, step_by, StepAt, BinaryAt, CastAt, IndexAt, TryAt, MemberAt, DotAt, NamedAt, Called, CallAt}
use Rattle.token_reader.proofs.First.{there, past_tokens, code_most, no_symbol, tail_from, tail_from_next, first_there, first_other, start_at, after_dot_at, next_at}
use Rattle.token_reader.proofs.Lists.{comma_there, closed_past, closed_at, more_at, none_at}
use Rattle.token_reader.proofs.Nodes.{carried, lower, placed, grew_none, grew_wider, grew_on, grew_node}
use Rattle.token_reader.proofs.Tables.{operator_token, operator_level, operator_after, operator_labelled, goes_on_at, past_goes, form_codes, others_stop}
use Rattle.token_reader.proofs.Tells.{tells_none, tells_some, tells_then, ready_grew}
use Rattle.token_reader.proofs.Steps.{expr_by_step, on_by_lem}

-- what is answered where an expression goes on; `left` is what was read of it
pub record OnAt (c : Context) (tokens own now : List ℕ) (left : Parsed) (least : ℕ) (r : Parsed) : Type 0 where
  pub grew : r.at ≤ many tokens → Grew own now left.at left.free r.at r.free
  pub tells : (e : Expr one) → IsExpr own left e → (f : ℕ) → Enough tokens left.at 1 f → Tells (IsExpr now r) tokens r.at (on_by f c least e (from tokens left.at))

-- ---- what binds most strongly

module _ {at left : ℕ} {r : Parsed} (s : Postfix at left r) where
  is_strong : (now : List ℕ) (e : Expr one) → level postfixes ≡ level (kind_of e) → false ≡ ends_in_type_name e → false ≡ ends_in_dot_name e → Placed now left (left + 1) (tree_of (bare e)) → IsExpr now r e
  is_strong now e l t d p =
      record {
        strong = s.strong ∙ l;
        type_last = s.type_last ∙ t;
        name_last = s.name_last ∙ d;
        placed = subst (λ n. Placed now n (n + 1) (tree_of (bare e))) (sym s.left) p;
      }

  grew_strong : {own now : List ℕ} (a free : ℕ) → Grew own now a free at left → Grew own now a free r.at r.free
  grew_strong a free g = rw (s.to, s.left) g

  tells_strong : (tokens : List ℕ) (Is : Expr one → Type 0) (e : Expr one) → at ≤ many tokens → Is e → Tells Is tokens r.at (ok e (from tokens at))
  tells_strong tokens Is e h y = (omega (arith, s.to), ap (from tokens) (sym s.to), y)

-- an operand that was read before
kept_operand : {own now : List ℕ} {at free to left : ℕ} (a : Tree) → Grew own now at free to left → Placed own free (free + 1) a → Placed now left (free + 1) a
kept_operand {own} {now} {at} {free} {to} {left} a g p = lower now free left (free + 1) a g.less (carried own now free free (free + 1) a g.kept (omega arith) p)

-- ---- the sign that closes

closed_by : (close : Token) (whole : Expr one → Expr one) (a : Expr one) (r : List Token) → is_first close r ≡ true → close_by close whole a r ≡ ok (whole a) (tail r)
closed_by close whole a r e = rw (e, close_by)

closed_not : (close : Token) (whole : Expr one → Expr one) (a : Expr one) (r : List Token) → is_first close r ≡ false → close_by close whole a r ≡ fail
closed_not close whole a r e = rw (e, close_by)

module _ {tokens own mid : List ℕ} {at free : ℕ} (known : are_tokens tokens ≡ true) (inner : Parsed) (i : ExprAt NONE tokens own mid at free loosest inner) (close : Token) (whole : Expr one → Expr one) (Be : Expr one → Type 0) where
  not_closed : (to : ℕ) → (code_at tokens inner.at ≡ code close → ⊥) → many tokens < to → (g : ℕ) → Enough tokens at 0 g → Tells Be tokens to (then (expr_by g NONE loosest (from tokens at)) (close_by close whole))
  not_closed to n h g q =
      tells_then (IsExpr mid inner) Be tokens inner.at to (expr_by g NONE loosest (from tokens at)) (close_by close whole) (i.tells g q) (λ z. h)
      (λ a z y. rw (closed_not close whole a (from tokens inner.at) (first_other close tokens inner.at known n)) h)

  is_closed : (to : ℕ) → code_at tokens inner.at ≡ code close → inner.at < many tokens → ((a : Expr one) → IsExpr mid inner a → Tells Be tokens to (ok (whole a) (from tokens (inner.at + 1)))) →
      (g : ℕ) → Enough tokens at 0 g → Tells Be tokens to (then (expr_by g NONE loosest (from tokens at)) (close_by close whole))
  is_closed to e h k g q =
      tells_some (IsExpr mid inner) Be tokens inner.at to (expr_by g NONE loosest (from tokens at)) (close_by close whole) (omega arith) (i.tells g q)
      (λ a y. rw (closed_by close whole a (from tokens inner.at) (first_there close tokens inner.at known e), tail_from tokens inner.at) (k a y))

-- ---- what an expression begins with

atom_by_lem : (c : Context) (x : Atom) (ts : List Token) → excluded c (atom x) ≡ false → atom_by c x ts ≡ ok (atom x) ts
atom_by_lem c x ts h = rw (h, atom_by)

begun : (c : Context) (tokens : List ℕ) (at : ℕ) (known : are_tokens tokens ≡ true) (P : Out (Expr one) → Type 0) (g : ℕ) (x : Start) → start_by (code_at tokens at) (token_symbol_at tokens at) ≡ x → P (operand_by c g (from tokens (at + 1)) x) →
    P (operand_by c g (tail (from tokens at)) (start (from tokens at)))
begun c tokens at known P g x e p =
    subst (λ ts. P (operand_by c g ts (start (from tokens at)))) (sym (tail_from tokens at))
    (subst (λ y. P (operand_by c g (from tokens (at + 1)) y)) (sym (start_at tokens at known ∙ e)) p)

module _ {tokens own now : List ℕ} {at free : ℕ} (ready : Ready tokens own at free) where
  pub atom_stored : {form left : ℕ} {r : Parsed} → at < many tokens → Stored own now free left form 0 0 0 (token_symbol_at tokens at) → Postfix (at + 1) left r → AtomAt tokens own now at free form r
  atom_stored {form} {left} {r} h s x =
      record {
        to = x.to;
        past = omega (arith, x.to);
        grew = grew_strong x at free (grew_node at (at + 1) (omega arith) (omega arith) (grew_none own at free at (omega arith)) s);
        below = λ j q. s.below j (omega (arith, x.left));
        tells = λ y e. tells_strong x tokens (IsExpr now r) (atom y) (omega arith) (is_strong x now (atom y) refl refl refl (placed none none (atom_label y) s e ready.most refl refl));
      }

  pub operand_atom : {c : Context} {form : ℕ} {r : Parsed} (x : Atom) → start_by (code_at tokens at) (token_symbol_at tokens at) ≡ an_atom x → label_with form 0 (token_symbol_at tokens at) ≡ atom_label x → is_struct (atom x) ≡ false → AtomAt tokens own now at free form r → OperandAt c tokens own now at free r
  operand_atom {c} {form} {r} x e l f s =
      record {
        past = λ q. s.past;
        grew = λ q. s.grew;
        tells = λ g q.
            begun c tokens at ready.known (Tells (IsExpr now r) tokens r.at) g (an_atom x) e
            (subst (Tells (IsExpr now r) tokens r.at) (sym (atom_by_lem c x (from tokens (at + 1)) (no_struct c (atom x) f))) (s.tells x l));
      }

  pub operand_struct : {c : Context} {r : Parsed} → start_by (code_at tokens at) (token_symbol_at tokens at) ≡ an_atom structure → StructAt c tokens own now at free r → OperandAt c tokens own now at free r
  operand_struct {c} {r} e s =
      record { past = s.past; grew = s.grew; tells = λ g q. begun c tokens at ready.known (Tells (IsExpr now r) tokens r.at) g (an_atom structure) e s.tells }

  pub struct_excluded : {r : Parsed} → r.at ≡ many tokens + 1 → StructAt CONDITION tokens own now at free r
  struct_excluded {r} z = record { past = λ q. absurd (omega arith); grew = λ q. absurd (omega arith); tells = omega arith }

  pub struct_read : {r : Parsed} → token_symbol_at tokens at ≡ 0 → AtomAt tokens own now at free expr_struct r → StructAt NONE tokens own now at free r
  struct_read {r} z s = record { past = λ q. s.past; grew = λ q. s.grew; tells = s.tells structure (ap (label_with expr_struct 0) z) }

  pub operand_prefixed : {c : Context} {form detail : ℕ} {r : Parsed} (p : Prefix) → start_by (code_at tokens at) (token_symbol_at tokens at) ≡ a_prefix p → label form detail ≡ prefix_label p → PrefixedAt c tokens own now at free form detail r →
      OperandAt c tokens own now at free r
  operand_prefixed {c} {form} {detail} {r} p e l s =
      record { past = s.past; grew = s.grew; tells = λ g q. begun c tokens at ready.known (Tells (IsExpr now r) tokens r.at) g (a_prefix p) e (s.tells p l g q) }

  pub operand_group : {c : Context} {r : Parsed} → start_by (code_at tokens at) (token_symbol_at tokens at) ≡ a_group → GroupAt tokens own now at free r → OperandAt c tokens own now at free r
  operand_group {c} {r} e s =
      record { past = s.past; grew = s.grew; tells = λ g q. begun c tokens at ready.known (Tells (IsExpr now r) tokens r.at) g a_group e (s.tells g q) }

  pub operand_none : {c : Context} {r : Parsed} → start_by (code_at tokens at) (token_symbol_at tokens at) ≡ no_start → r.at ≡ many tokens + 1 → OperandAt c tokens own now at free r
  operand_none {c} {r} e z =
      record {
        past = λ q. absurd (omega arith);
        grew = λ q. absurd (omega arith);
        tells = λ g q. begun c tokens at ready.known (Tells (IsExpr now r) tokens r.at) g no_start e (omega arith);
      }

  pub prefixed_none : {c : Context} {form detail : ℕ} {r : Parsed} → many tokens < r.at → ExprAt c tokens own now (at + 1) free (level prefixes) r → PrefixedAt c tokens own now at free form detail r
  prefixed_none {c} {form} {detail} {r} h i =
      record {
        past = λ q. absurd (omega arith);
        grew = λ q. absurd (omega arith);
        tells = λ p e g q. tells_none (IsExpr now r) (IsExpr now r) tokens r.at r.at (expr_by g c (level prefixes) (from tokens (at + 1))) (λ a rest. ok (prefix p a) rest) h h (i.tells g q);
      }

  pub group_none : {mid : List ℕ} {r : Parsed} (inner : Parsed) → (code_at tokens inner.at ≡ code right_paren → ⊥) → ExprAt NONE tokens own mid (at + 1) free loosest inner → r.at ≡ many tokens + 1 → GroupAt tokens own now at free r
  group_none {mid} {r} inner n i z =
      record {
        past = λ q. absurd (omega arith);
        grew = λ q. absurd (omega arith);
        tells = not_closed ready.known inner i right_paren paren (IsExpr now r) r.at n (omega arith);
      }

  pub group_closed : {r : Parsed} (inner : Parsed) → code_at tokens inner.at ≡ code right_paren → ExprAt NONE tokens own now (at + 1) free loosest inner → Postfix (inner.at + 1) inner.free r → GroupAt tokens own now at free r
  group_closed {r} inner e i x =
      let b = there tokens inner.at (code right_paren) e (omega arith) in
      let w = i.grew (omega arith) in
      record {
        past = λ q. omega (arith, w.upto, x.to);
        grew = λ q. grew_strong x at free (grew_wider at (inner.at + 1) (omega arith) (omega arith) w);
        tells = is_closed ready.known inner i right_paren paren (IsExpr now r) r.at e b
            (λ a y. tells_strong x tokens (IsExpr now r) (paren a) (omega arith) (is_strong x now (paren a) refl refl refl y.placed));
      }

  -- ---- a whole expression

  pub expr_none : {c : Context} {least : ℕ} {r : Parsed} → many tokens < r.at → OperandAt c tokens own now at free r → ExprAt c tokens own now at free least r
  unfolding expr_by
  expr_none {c} {least} {r} h i = record { grew = λ q. absurd (omega arith); tells = go }
    where
      go : (f : ℕ) → Enough tokens at 0 f → Tells (IsExpr now r) tokens r.at (expr_by f c least (from tokens at))
      go zero q = h
      go (suc g) q =
          rw (expr_by_step c g least (from tokens at))
          (tells_none (IsExpr now r) (IsExpr now r) tokens r.at r.at (operand_by c g (tail (from tokens at)) (start (from tokens at))) (λ e rest. on_by g c least e rest) h h (i.tells g (omega arith)))

module _ {tokens own mid now : List ℕ} {at free : ℕ} (ready : Ready tokens own at free) where
  pub expr_on : {c : Context} {least : ℕ} {r : Parsed} (left : Parsed) → left.at ≤ many tokens → OperandAt c tokens own mid at free left → OnAt c tokens mid now left least r → ExprAt c tokens own now at free least r
  expr_on {c} {least} {r} left h i o =
      record { grew = λ q. grew_on at (omega arith) (i.grew h) (o.grew q); tells = go }
    where
      go : (f : ℕ) → Enough tokens at 0 f → Tells (IsExpr now r) tokens r.at (expr_by f c least (from tokens at))
      go zero q = absurd (omega (arith, i.past h))
      go (suc g) q =
          rw (expr_by_step c g least (from tokens at))
          (tells_some (IsExpr mid left) (IsExpr now r) tokens left.at r.at (operand_by c g (tail (from tokens at)) (start (from tokens at))) (λ e rest. on_by g c least e rest) h (i.tells g (omega arith))
          (λ e y. o.tells e y g (omega (arith, i.past h))))

  pub prefixed_stored : {c : Context} {form detail left : ℕ} (r : Parsed) → r.at ≤ many tokens → ExprAt c tokens own mid (at + 1) free (level prefixes) r → Stored mid now r.free left form detail (r.free + 1) 0 0 →
      PrefixedAt c tokens own now at free form detail (record { at = r.at; free = left; level = level prefixes; named = r.named; dotted = r.dotted })
  prefixed_stored {c} {form} {detail} {left} r h i s =
      let w = i.grew h in
      let z : Parsed = record { at = r.at; free = left; level = level prefixes; named = r.named; dotted = r.dotted } in
      record {
        past = λ q. omega (arith, w.upto);
        grew = λ q. grew_node at r.at (omega (arith, w.upto)) (omega arith) w s;
        tells = λ p e g q.
            tells_some (IsExpr mid r) (IsExpr now z) tokens r.at r.at (expr_by g c (level prefixes) (from tokens (at + 1))) (λ a rest. ok (prefix p a) rest) h (i.tells g q)
            (λ a y. (
              h,
              refl,
              record {
                strong = refl;
                type_last = y.type_last;
                name_last = y.name_last;
                placed = placed (tree_of (bare a)) none (prefix_label p) s e (omega (arith, ready.most, w.less)) y.placed refl;
              },
            ));
      }

-- ---- what it goes on with

module _ {tokens own : List ℕ} (left : Parsed) (ready : Ready tokens own left.at left.free) where
  goes : (least : ℕ) (e : Expr one) → IsExpr own left e → goes_on_with least left.level left.named left.dotted (code_at tokens left.at) ≡ goes_on least e (next (from tokens left.at))
  goes least e y =
      rw (y.strong, y.type_last, y.name_last, next_at tokens left.at) (goes_on_at least e (next_of (sign_of (code_at tokens left.at))))

  pub on_stops : {c : Context} {least : ℕ} → goes_on_with least left.level left.named left.dotted (code_at tokens left.at) ≡ false → OnAt c tokens own own left least left
  on_stops {c} {least} n = record { grew = λ q. grew_none own left.at left.free left.at (omega arith); tells = go }
    where
      go : (e : Expr one) → IsExpr own left e → (f : ℕ) → Enough tokens left.at 1 f → Tells (IsExpr own left) tokens left.at (on_by f c least e (from tokens left.at))
      go e y zero q = absurd (omega (arith, ready.within))
      go e y (suc g) q = rw (on_stop g c least e (from tokens left.at) (sym (goes least e y) ∙ n)) (ready.within, refl, y)

  pub on_none : {c : Context} {now : List ℕ} {least : ℕ} {r : Parsed} → 1 ≤ least → goes_on_with least left.level left.named left.dotted (code_at tokens left.at) ≡ true → many tokens < r.at →
      StepAt c tokens own now left r → OnAt c tokens own now left least r
  on_none {c} {now} {least} {r} l p h i = record { grew = λ q. absurd (omega arith); tells = go }
    where
      go : (e : Expr one) → IsExpr own left e → (f : ℕ) → Enough tokens left.at 1 f → Tells (IsExpr now r) tokens r.at (on_by f c least e (from tokens left.at))
      go e y zero q = absurd (omega (arith, ready.within))
      go e y (suc g) q =
          rw (on_by_lem c g least e (from tokens left.at) l (sym (goes least e y) ∙ p))
          (tells_none (IsExpr now r) (IsExpr now r) tokens r.at r.at (step_by c g e (tail (from tokens left.at)) (next (from tokens left.at))) (λ x rest. on_by g c least x rest) h h (i.tells e y g (omega arith)))

  pub on_more : {c : Context} {mid now : List ℕ} {least : ℕ} {r : Parsed} (more : Parsed) → 1 ≤ least → goes_on_with least left.level left.named left.dotted (code_at tokens left.at) ≡ true → more.at ≤ many tokens →
      StepAt c tokens own mid left more → OnAt c tokens mid now more least r → OnAt c tokens own now left least r
  on_more {c} {mid} {now} {least} {r} more l p h i o =
      record { grew = λ q. grew_on left.at (omega arith) (i.grew h) (o.grew q); tells = go }
    where
      go : (e : Expr one) → IsExpr own left e → (f : ℕ) → Enough tokens left.at 1 f → Tells (IsExpr now r) tokens r.at (on_by f c least e (from tokens left.at))
      go e y zero q = absurd (omega (arith, ready.within))
      go e y (suc g) q =
          rw (on_by_lem c g least e (from tokens left.at) l (sym (goes least e y) ∙ p))
          (tells_some (IsExpr mid more) (IsExpr now r) tokens more.at r.at (step_by c g e (tail (from tokens left.at)) (next (from tokens left.at))) (λ x rest. on_by g c least x rest) h (i.tells e y g (omega arith))
          (λ x w. o.tells x w g (omega (arith, i.past h))))

  -- ---- one form, by the token that makes it

  followed : (c : Context) (P : Out (Expr one) → Type 0) (g : ℕ) (e : Expr one) (x : Next) → next_of (sign_of (code_at tokens left.at)) ≡ x → P (step_by c g e (from tokens (left.at + 1)) x) →
      P (step_by c g e (tail (from tokens left.at)) (next (from tokens left.at)))
  followed c P g e x q p =
      subst (λ ts. P (step_by c g e ts (next (from tokens left.at)))) (sym (tail_from tokens left.at))
      (subst (λ y. P (step_by c g e (from tokens (left.at + 1)) y)) (sym (next_at tokens left.at ∙ q)) p)

  pub step_binary : {c : Context} {now : List ℕ} {r : Parsed} (n : ℕ) → n < past_operators → code_at tokens left.at ≡ n → BinaryAt c tokens own now left n r → StepAt c tokens own now left r
  step_binary {c} {now} {r} n h e s =
      record {
        past = s.past;
        grew = s.grew;
        tells = λ a y g q. followed c (Tells (IsExpr now r) tokens r.at) g a (operates (operator_of n)) (ap (λ k. next_of (sign_of k)) e ∙ ap next_of (operator_token n h)) (s.tells a y g q);
      }

  pub step_cast : {c : Context} {now : List ℕ} {r : Parsed} → code_at tokens left.at ≡ code as_token → CastAt tokens own now left r → StepAt c tokens own now left r
  unfolding token_of
  step_cast {c} {now} {r} e s =
      record { past = s.past; grew = s.grew; tells = λ a y g q. followed c (Tells (IsExpr now r) tokens r.at) g a casts_to (ap (λ k. next_of (sign_of k)) e) (s.tells a y g q) }

  pub step_dot : {c : Context} {now : List ℕ} {r : Parsed} → code_at tokens left.at ≡ code dot → DotAt tokens own now left r → StepAt c tokens own now left r
  unfolding token_of
  step_dot {c} {now} {r} e s =
      record { past = s.past; grew = s.grew; tells = λ a y g q. followed c (Tells (IsExpr now r) tokens r.at) g a dots (ap (λ k. next_of (sign_of k)) e) (s.tells a y g q) }

  pub step_call : {c : Context} {now : List ℕ} {r : Parsed} → code_at tokens left.at ≡ code left_paren → CallAt tokens own now left.at left.free expr_call 0 r → StepAt c tokens own now left r
  unfolding token_of
  step_call {c} {now} {r} e s =
      record {
        past = s.past;
        grew = s.grew;
        tells = λ a y g q.
            followed c (Tells (IsExpr now r) tokens r.at) g a calls (ap (λ k. next_of (sign_of k)) e)
            (s.tells (tree_of (bare a)) y.placed (call a) (λ l. record { strong = refl; type_last = refl; name_last = refl; tree = refl }) g q);
      }

  pub step_index : {c : Context} {now : List ℕ} {r : Parsed} → code_at tokens left.at ≡ code left_bracket → IndexAt tokens own now left r → StepAt c tokens own now left r
  unfolding token_of
  step_index {c} {now} {r} e s =
      record { past = s.past; grew = s.grew; tells = λ a y g q. followed c (Tells (IsExpr now r) tokens r.at) g a indexes (ap (λ k. next_of (sign_of k)) e) (s.tells a y g q) }

  pub step_try : {c : Context} {now : List ℕ} {r : Parsed} → code_at tokens left.at ≡ code question → TryAt tokens own now left r → StepAt c tokens own now left r
  unfolding token_of
  step_try {c} {now} {r} e s =
      record { past = λ q. s.past; grew = λ q. s.grew; tells = λ a y g q. followed c (Tells (IsExpr now r) tokens r.at) g a tries (ap (λ k. next_of (sign_of k)) e) (s.tells a y) }

  pub step_none : {c : Context} {now : List ℕ} {r : Parsed} → past_operators ≤ code_at tokens left.at → is_one_of form_codes (code_at tokens left.at) ≡ false → r.at ≡ many tokens + 1 →
      StepAt c tokens own now left r
  step_none {c} {now} {r} h e z =
      record {
        past = λ q. absurd (omega arith);
        grew = λ q. absurd (omega arith);
        tells = λ a y g q.
            followed c (Tells (IsExpr now r) tokens r.at) g a stops (others_stop (code_at tokens left.at) (code_most tokens left.at ready.known) h e) (omega arith);
      }

-- ---- one form after the other

-- no token goes on past the end
pub goes_inside : (tokens : List ℕ) (at least strength : ℕ) (t d : Bool) → 1 ≤ least → goes_on_with least strength t d (code_at tokens at) ≡ true → at < many tokens
goes_inside tokens at least strength t d h e = go (dec_le (many tokens) at)
  where
    go : Dec (many tokens ≤ at) → at < many tokens
    go (no q) = omega arith
    go (yes q) = absurd (past_goes least strength t d h (subst (λ n. goes_on_with least strength t d n ≡ true) (past_tokens tokens at q) e))

-- what was read from `first` up to `left`; where `first` is not there, nothing
pub record Under (c : Context) (tokens own now : List ℕ) (least : ℕ) (first left : Parsed) : Type 0 where
  pub none : many tokens < first.at → (left ≡ first) × (now ≡ own)
  pub grew : first.at ≤ many tokens → left.at ≤ many tokens → Grew own now first.at first.free left.at left.free
  pub goal : first.at ≤ many tokens → left.at ≤ many tokens → (end : List ℕ) (r : Parsed) → OnAt c tokens now end left least r → OnAt c tokens own end first least r
  pub lost : first.at ≤ many tokens → many tokens < left.at → OnAt c tokens own now first least left

pub under_start : (c : Context) (tokens own : List ℕ) (least : ℕ) (first : Parsed) → Under c tokens own own least first first
under_start c tokens own least first =
    record {
      none = λ h. (refl, refl);
      grew = λ h k. grew_none own first.at first.free first.at (omega arith);
      goal = λ h k end r o. o;
      lost = λ h k. absurd (omega arith);
    }

module _ {c : Context} {tokens own mid now : List ℕ} {at free least : ℕ} (ready : Ready tokens own at free) (first left : Parsed) (i : OperandAt c tokens own mid at free first) (u : Under c tokens mid now least first left) where
  -- what goes on was there
  pub under_there : left.at ≤ many tokens → first.at ≤ many tokens
  under_there h = go (dec_le first.at (many tokens))
    where
      go : Dec (first.at ≤ many tokens) → first.at ≤ many tokens
      go (yes q) = q
      go (no q) = absurd (let e = ap (λ p. p.at) (u.none (omega arith)).0 in omega (arith, e))

  pub under_ready : left.at ≤ many tokens → Ready tokens now left.at left.free
  under_ready h =
      let k = under_there h in
      ready_grew left.at (omega arith) h (ready_grew first.at (omega arith) k ready (i.grew k)) (u.grew k h)

  pub under_step : {next : List ℕ} (more : Parsed) → 1 ≤ least → goes_on_with least left.level left.named left.dotted (code_at tokens left.at) ≡ true → left.at ≤ many tokens →
      StepAt c tokens now next left more → Under c tokens mid next least first more
  under_step {next} more l p h s =
      let k = under_there h in
      let ready₂ = under_ready h in
      record {
        none = λ q. absurd (omega arith);
        grew = λ a b. grew_on first.at (omega arith) (u.grew k h) (s.grew b);
        goal = λ a b end r o. u.goal k h end r (on_more left ready₂ more l p b s o);
        lost = λ a b. u.goal k h next more (on_none left ready₂ l p b s);
      }

  pub under_end : goes_on_with least left.level left.named left.dotted (code_at tokens left.at) ≡ false → ExprAt c tokens own now at free least left
  under_end n = go (dec_le first.at (many tokens)) (dec_le left.at (many tokens))
    where
      go : Dec (first.at ≤ many tokens) → Dec (left.at ≤ many tokens) → ExprAt c tokens own now at free least left
      go (yes q) (yes h) = expr_on ready first q i (u.goal q h now left (on_stops left (under_ready h) n))
      go (yes q) (no h) = expr_on ready first q i (u.lost q (omega arith))
      go (no q) h =
          let e = u.none (omega arith) in
          subst (λ z. ExprAt c tokens own z at free least left) (sym e.1)
          (subst (λ z. ExprAt c tokens own mid at free least z) (sym e.0) (expr_none ready (omega arith) i))

-- ---- the forms

module _ {tokens own now : List ℕ} (left : Parsed) (ready : Ready tokens own left.at left.free) where
  pub binary_none : {c : Context} {n : ℕ} {r : Parsed} → n < past_operators → many tokens < r.at → ExprAt c tokens own now (left.at + 1) left.free (after_of (level_of n)) r → BinaryAt c tokens own now left n r
  binary_none {c} {n} {r} k h i =
      record {
        past = λ q. absurd (omega arith);
        grew = λ q. absurd (omega arith);
        tells = λ e y g q.
            tells_none (IsExpr now r) (IsExpr now r) tokens r.at r.at (expr_by g c (after (kind (operator_of n))) (from tokens (left.at + 1))) (λ b rest. ok (binary (operator_of n) e b) rest) h h
            (subst (λ l. Tells (IsExpr now r) tokens r.at (expr_by g c l (from tokens (left.at + 1)))) (operator_after n k) (i.tells g (omega arith)));
      }

module _ {tokens own mid now : List ℕ} (left : Parsed) (ready : Ready tokens own left.at left.free) where
  pub binary_stored : {c : Context} {n left₂ strength form detail : ℕ} (r : Parsed) → n < past_operators → strength ≡ level_of n → form ≡ operator_form n → detail ≡ operator_detail n → r.at ≤ many tokens →
      ExprAt c tokens own mid (left.at + 1) left.free (after_of (level_of n)) r → Stored mid now r.free left₂ form detail (left.free + 1) (r.free + 1) 0 →
      BinaryAt c tokens own now left n (record { at = r.at; free = left₂; level = strength; named = r.named; dotted = r.dotted })
  binary_stored {c} {n} {left₂} {strength} {form} {detail} r k l f d h i s =
      let w = i.grew h in
      let z : Parsed = record { at = r.at; free = left₂; level = strength; named = r.named; dotted = r.dotted } in
      record {
        past = λ q. omega (arith, w.upto);
        grew = λ q. grew_node left.at r.at (omega (arith, w.upto)) (omega arith) w s;
        tells = λ e y g q.
            tells_some (IsExpr mid r) (IsExpr now z) tokens r.at r.at (expr_by g c (after (kind (operator_of n))) (from tokens (left.at + 1))) (λ b rest. ok (binary (operator_of n) e b) rest) h
            (subst (λ m. Tells (IsExpr mid r) tokens r.at (expr_by g c m (from tokens (left.at + 1)))) (operator_after n k) (i.tells g (omega arith)))
            (λ b x. (
              h,
              refl,
              record {
                strong = l ∙ operator_level n k;
                type_last = x.type_last;
                name_last = x.name_last;
                placed =
                    placed (tree_of (bare e)) (tree_of (bare b)) (operator_label (operator_of n)) s (ap₂ label f d ∙ operator_labelled n k) (omega (arith, ready.most, w.less))
                    (kept_operand (tree_of (bare e)) w y.placed) x.placed;
              },
            ));
      }

  pub cast_none : {t : Piece} {r : Parsed} → many tokens < t.at → TypeAt tokens own mid (left.at + 1) left.free t → r.at ≡ many tokens + 1 → CastAt tokens own now left r
  cast_none {t} {r} h i z =
      record {
        past = λ q. absurd (omega arith);
        grew = λ q. absurd (omega arith);
        tells = λ e y g q.
            tells_none (IsType mid t) (IsExpr now r) tokens t.at r.at (type_by g (from tokens (left.at + 1))) (λ x rest. ok (cast e x) rest) h (omega arith) (i.tells g (omega arith));
      }

  pub cast_stored : {left₂ : ℕ} (t : Piece) → t.at ≤ many tokens → TypeAt tokens own mid (left.at + 1) left.free t → Stored mid now t.free left₂ expr_cast 0 (left.free + 1) (t.free + 1) 0 →
      CastAt tokens own now left (record { at = t.at; free = left₂; level = level casts; named = t.named; dotted = false })
  cast_stored {left₂} t h i s =
      let w = i.grew h in
      let z : Parsed = record { at = t.at; free = left₂; level = level casts; named = t.named; dotted = false } in
      record {
        past = λ q. omega (arith, w.upto);
        grew = λ q. grew_node left.at t.at (omega (arith, w.upto)) (omega arith) w s;
        tells = λ e y g q.
            tells_some (IsType mid t) (IsExpr now z) tokens t.at t.at (type_by g (from tokens (left.at + 1))) (λ x rest. ok (cast e x) rest) h (i.tells g (omega arith))
            (λ x u. (
              h,
              refl,
              record {
                strong = refl;
                type_last = u.ends;
                name_last = refl;
                placed =
                    placed (tree_of (bare e)) (tree_of_type x) (label expr_cast 0) s refl (omega (arith, ready.most, w.less))
                    (kept_operand (tree_of (bare e)) w y.placed) u.placed;
              },
            ));
      }

  pub index_none : {r : Parsed} (inner : Parsed) → (code_at tokens inner.at ≡ code right_bracket → ⊥) → ExprAt NONE tokens own mid (left.at + 1) left.free loosest inner → r.at ≡ many tokens + 1 → IndexAt tokens own now left r
  index_none {r} inner n i z =
      record {
        past = λ q. absurd (omega arith);
        grew = λ q. absurd (omega arith);
        tells = λ e y g q. not_closed ready.known inner i right_bracket (index e) (IsExpr now r) r.at n (omega arith) g (omega arith);
      }

  pub index_stored : {left₂ : ℕ} {r : Parsed} (inner : Parsed) → code_at tokens inner.at ≡ code right_bracket → ExprAt NONE tokens own mid (left.at + 1) left.free loosest inner →
      Stored mid now inner.free left₂ expr_index 0 (left.free + 1) (inner.free + 1) 0 → Postfix (inner.at + 1) left₂ r → IndexAt tokens own now left r
  index_stored {left₂} {r} inner c i s x =
      let b = there tokens inner.at (code right_bracket) c (omega arith) in
      let w = i.grew (omega arith) in
      record {
        past = λ q. omega (arith, w.upto, x.to);
        grew = λ q. grew_strong x left.at left.free (grew_node left.at (inner.at + 1) (omega (arith, w.upto)) (omega arith) w s);
        tells = λ e y g q.
            is_closed ready.known inner i right_bracket (index e) (IsExpr now r) r.at c b
            (λ a u.
            tells_strong x tokens (IsExpr now r) (index e a) (omega arith)
            (is_strong x now (index e a) refl refl refl
            (placed (tree_of (bare e)) (tree_of (bare a)) (label expr_index 0) s refl (omega (arith, ready.most, w.less)) (kept_operand (tree_of (bare e)) w y.placed) u.placed)))
            g
            (omega arith);
      }

module _ {tokens own now : List ℕ} (left : Parsed) (ready : Ready tokens own left.at left.free) where
  pub try_stored : {left₂ : ℕ} {r : Parsed} → left.at < many tokens → Stored own now left.free left₂ expr_try 0 (left.free + 1) 0 0 → Postfix (left.at + 1) left₂ r → TryAt tokens own now left r
  try_stored {left₂} {r} h s x =
      record {
        to = x.to;
        past = omega (arith, x.to);
        grew = grew_strong x left.at left.free (grew_node left.at (left.at + 1) (omega arith) (omega arith) (grew_none own left.at left.free left.at (omega arith)) s);
        below = λ j q. s.below j (omega (arith, x.left));
        tells = λ e y.
            tells_strong x tokens (IsExpr now r) (try e) (omega arith)
            (is_strong x now (try e) refl refl refl (placed (tree_of (bare e)) none (label expr_try 0) s refl ready.most y.placed refl));
      }

  pub member_stored : {form detail left₂ : ℕ} {dotted : Bool} → left.at + 1 < many tokens → Stored own now left.free left₂ form detail (left.free + 1) 0 (token_symbol_at tokens (left.at + 1)) →
      MemberAt tokens own now left form detail dotted (record { at = left.at + 2; free = left₂; level = level postfixes; named = false; dotted = dotted })
  member_stored {form} {detail} {left₂} {dotted} h s =
      record {
        to = refl;
        past = omega arith;
        grew = grew_node left.at (left.at + 2) (omega arith) (omega arith) (grew_none own left.at left.free left.at (omega arith)) s;
        below = λ j q. s.below j q;
        tells = λ e y m l d. (
          omega arith,
          refl,
          record {
            strong = refl;
            type_last = refl;
            name_last = d ∙ by m e;
            placed = placed (tree_of (bare e)) none (member_label m) s l ready.most y.placed refl;
          },
        );
      }
    where
      by : (m : Member) (e : Expr one) → is_by_name m ≡ ends_in_dot_name (member m e)
      by (by_name y) e = refl
      by (by_number y) e = refl
      by awaited e = refl

-- ---- behind a dot

dotted_by : (tokens : List ℕ) (left : Parsed) → are_tokens tokens ≡ true → (P : Out (Expr one) → Type 0) (g : ℕ) (e : Expr one) (x : AfterDot) → after_dot_by (code_at tokens (left.at + 1)) (token_symbol_at tokens (left.at + 1)) ≡ x →
    P (dot_by g e (from tokens (left.at + 1)) x) → P (dot_by g e (from tokens (left.at + 1)) (after_dot (from tokens (left.at + 1))))
dotted_by tokens left known P g e x q p = subst (λ y. P (dot_by g e (from tokens (left.at + 1)) y)) (sym (after_dot_at tokens (left.at + 1) known ∙ q)) p

module _ {tokens own now : List ℕ} (left : Parsed) (ready : Ready tokens own left.at left.free) where
  pub dot_named : {r : Parsed} → after_dot_by (code_at tokens (left.at + 1)) (token_symbol_at tokens (left.at + 1)) ≡ a_member (by_name (token_symbol_at tokens (left.at + 1))) → NamedAt tokens own now left r → DotAt tokens own now left r
  dot_named {r} q s =
      record {
        past = s.past;
        grew = s.grew;
        tells = λ e y g h.
            dotted_by tokens left ready.known (Tells (IsExpr now r) tokens r.at) g e (a_member (by_name (token_symbol_at tokens (left.at + 1)))) q
            (subst (λ ts. Tells (IsExpr now r) tokens r.at (member_by g e (by_name (token_symbol_at tokens (left.at + 1))) ts (is_first left_paren ts))) (sym (tail_from_next tokens left.at)) (s.tells e y g h));
      }

  pub dot_member : {form detail : ℕ} {r : Parsed} (m : Member) → is_by_name m ≡ false → after_dot_by (code_at tokens (left.at + 1)) (token_symbol_at tokens (left.at + 1)) ≡ a_member m → label_with form detail (token_symbol_at tokens (left.at + 1)) ≡ member_label m →
      MemberAt tokens own now left form detail false r → DotAt tokens own now left r
  dot_member {form} {detail} {r} m b q l s =
      record {
        past = λ h. s.past;
        grew = λ h. s.grew;
        tells = λ e y g h.
            dotted_by tokens left ready.known (Tells (IsExpr now r) tokens r.at) g e (a_member m) q
            (subst (λ ts. Tells (IsExpr now r) tokens r.at (member_by g e m ts (is_by_name m && is_first left_paren ts))) (sym (tail_from_next tokens left.at))
            (subst (λ z. Tells (IsExpr now r) tokens r.at (member_by g e m (from tokens (left.at + 2)) (z && is_first left_paren (from tokens (left.at + 2))))) (sym b) (s.tells e y m l (sym b))));
      }

  -- an await has no symbol
  pub dot_await : {r : Parsed} → code_at tokens (left.at + 1) ≡ code await → after_dot_by (code_at tokens (left.at + 1)) (token_symbol_at tokens (left.at + 1)) ≡ a_member awaited →
      MemberAt tokens own now left expr_await 0 false r → DotAt tokens own now left r
  dot_await e q s = dot_member awaited refl q (ap (label_with expr_await 0) (no_symbol tokens (left.at + 1) ready.known (ap carries e))) s

  pub dot_none : {r : Parsed} → after_dot_by (code_at tokens (left.at + 1)) (token_symbol_at tokens (left.at + 1)) ≡ no_member → r.at ≡ many tokens + 1 → DotAt tokens own now left r
  dot_none {r} q z =
      record {
        past = λ h. absurd (omega arith);
        grew = λ h. absurd (omega arith);
        tells = λ e y g h. dotted_by tokens left ready.known (Tells (IsExpr now r) tokens r.at) g e no_member q (omega arith);
      }

  pub named_member : {form detail : ℕ} {r : Parsed} → (code_at tokens (left.at + 2) ≡ code left_paren → ⊥) → label_with form detail (token_symbol_at tokens (left.at + 1)) ≡ member_label (by_name (token_symbol_at tokens (left.at + 1))) → MemberAt tokens own now left form detail true r → NamedAt tokens own now left r
  named_member {form} {detail} {r} n l s =
      record {
        past = λ h. s.past;
        grew = λ h. s.grew;
        tells = λ e y g h.
            subst (λ z. Tells (IsExpr now r) tokens r.at (member_by g e (by_name (token_symbol_at tokens (left.at + 1))) (from tokens (left.at + 2)) z)) (sym (first_other left_paren tokens (left.at + 2) ready.known n)) (s.tells e y (by_name (token_symbol_at tokens (left.at + 1))) l refl);
      }

  pub named_call : {r : Parsed} {symbol : ℕ} → symbol ≡ token_symbol_at tokens (left.at + 1) → code_at tokens (left.at + 2) ≡ code left_paren →
      CallAt tokens own now (left.at + 2) left.free expr_method_call symbol r → NamedAt tokens own now left r
  named_call {r} {symbol} z c called =
      let s = subst (λ y. CallAt tokens own now (left.at + 2) left.free expr_method_call y r) z called in
      record {
        past = λ h. omega (arith, s.past h);
        grew = λ h. grew_wider left.at r.at (omega arith) (omega arith) (s.grew h);
        tells = λ e y g h.
            subst (λ z. Tells (IsExpr now r) tokens r.at (member_by g e (by_name (token_symbol_at tokens (left.at + 1))) (from tokens (left.at + 2)) z)) (sym (first_there left_paren tokens (left.at + 2) ready.known c))
            (subst (λ ts. Tells (IsExpr now r) tokens r.at (call_by g (method (token_symbol_at tokens (left.at + 1)) e) ts)) (sym (tail_from tokens (left.at + 2)))
            (s.tells (tree_of (bare e)) y.placed (method (token_symbol_at tokens (left.at + 1)) e) (λ l. record { strong = refl; type_last = refl; name_last = refl; tree = refl }) g (omega arith)));
      }

-- ---- calls

arguments_empty : (tokens : List ℕ) (at f : ℕ) → at < many tokens → Enough tokens at 2 f → is_first right_paren (from tokens at) ≡ true → arguments_by f (from tokens at) ≡ ok no_arguments (from tokens (at + 1))
unfolding arguments_by
arguments_empty tokens at zero h q e = absurd (omega arith)
arguments_empty tokens at (suc g) h q e = rw (e, arguments_by) (ap (ok no_arguments) (tail_from tokens at))

arguments_items : (Is : Expr items → Type 0) (Be : Expr list → Type 0) (tokens : List ℕ) (at to f : ℕ) → at ≤ many tokens → Enough tokens at 2 f → is_first right_paren (from tokens at) ≡ false →
    ((g : ℕ) → Enough tokens at 1 g → Tells Is tokens to (some_arguments_by g (from tokens at))) → ((l : Expr items) → Is l → Be (arguments l)) → Tells Be tokens to (arguments_by f (from tokens at))
unfolding arguments_by
arguments_items Is Be tokens at to zero h q e t k = absurd (omega arith)
arguments_items Is Be tokens at to (suc g) h q e t k =
    rw (e, arguments_by)
    (tells_then Is Be tokens to to (some_arguments_by g (from tokens at)) (λ l r. ok (arguments l) r) (t g (omega arith)) (λ z. z) (λ l z y. (z, refl, k l y)))

-- the arguments, placed
record Listed (mid : List ℕ) (r : Piece) (l : Expr list) : Type 0 where
  placed : Placed mid r.free (r.free + 1) (tree_of (bare l))

called_strong : {form symbol at left : ℕ} {now : List ℕ} {r : Parsed} (a : Tree) (l : Expr list) (e : Expr one) → Called form symbol a l e → Postfix at left r → Placed now left (left + 1) (node (label_with form 0 symbol) a (tree_of (bare l))) → IsExpr now r e
called_strong {form} {symbol} {at} {left} {now} {r} a l e c x p =
    is_strong x now e (sym c.strong) (sym c.type_last) (sym c.name_last) (subst (λ t. Placed now left (left + 1) t) (sym c.tree) p)

module _ {tokens own now : List ℕ} {at free form symbol : ℕ} (ready : Ready tokens own at free) (here : at < many tokens) where
  pub call_empty : {left : ℕ} {r : Parsed} → code_at tokens (at + 1) ≡ code right_paren → Stored own now free left form 0 (free + 1) 0 symbol → Postfix (at + 2) left r → CallAt tokens own now at free form symbol r
  call_empty {left} {r} c s x =
      let b = there tokens (at + 1) (code right_paren) c (omega arith) in
      record {
        past = λ q. omega (arith, x.to);
        grew = λ q. grew_strong x at free (grew_node at (at + 2) (omega arith) (omega arith) (grew_none own at free at (omega arith)) s);
        tells = λ a p whole k g q.
            rw (arguments_empty tokens (at + 1) g b (omega arith) (first_there right_paren tokens (at + 1) ready.known c))
            (subst (λ n. Tells (IsExpr now r) tokens r.at (ok (whole no_arguments) (from tokens n))) (let z : at + 2 ≡ at + 1 + 1 = omega arith in z)
            (tells_strong x tokens (IsExpr now r) (whole no_arguments) (omega arith)
            (called_strong a no_arguments (whole no_arguments) (k no_arguments) x (placed a none (label_with form 0 symbol) s refl ready.most p refl))));
      }

  pub call_none : {t : Piece} {mid : List ℕ} {r : Parsed} → (code_at tokens (at + 1) ≡ code right_paren → ⊥) → many tokens < t.at → ArgumentsAt tokens own mid (at + 1) free t → r.at ≡ many tokens + 1 → CallAt tokens own now at free form symbol r
  call_none {t} {mid} {r} n h i z =
      record {
        past = λ q. absurd (omega arith);
        grew = λ q. absurd (omega arith);
        tells = λ a p whole k g q.
            tells_none (λ l. Unit {0}) (IsExpr now r) tokens t.at r.at (arguments_by g (from tokens (at + 1))) (λ l rest. ok (whole l) rest) h (omega arith)
            (arguments_items (IsArguments mid t) (λ l. Unit {0}) tokens (at + 1) t.at g (omega arith) (omega arith) (first_other right_paren tokens (at + 1) ready.known n) i.tells (λ l y. tt));
      }

  pub call_stored : {mid : List ℕ} {left : ℕ} {r : Parsed} (t : Piece) → (code_at tokens (at + 1) ≡ code right_paren → ⊥) → t.at ≤ many tokens → ArgumentsAt tokens own mid (at + 1) free t →
      Stored mid now t.free left form 0 (free + 1) (t.free + 1) symbol → Postfix t.at left r → CallAt tokens own now at free form symbol r
  call_stored {mid} {left} {r} t n h i s x =
      let w = i.grew h in
      record {
        past = λ q. omega (arith, w.upto, x.to);
        grew = λ q. grew_strong x at free (grew_node at t.at (omega (arith, w.upto)) (omega arith) w s);
        tells = λ a p whole k g q.
            tells_some (Listed mid t) (IsExpr now r) tokens t.at r.at (arguments_by g (from tokens (at + 1))) (λ l rest. ok (whole l) rest) h
            (arguments_items (IsArguments mid t) (Listed mid t) tokens (at + 1) t.at g (omega arith) (omega arith) (first_other right_paren tokens (at + 1) ready.known n) i.tells (λ l y. record { placed = y.placed }))
            (λ l y.
            tells_strong x tokens (IsExpr now r) (whole l) h
            (called_strong a l (whole l) (k l) x
            (placed a (tree_of (bare l)) (label_with form 0 symbol) s refl (omega (arith, ready.most, w.less)) (kept_operand a w p) y.placed)));
      }

-- ---- lists of arguments

abbrev arguments_step : ℕ → Expr one → List Token → AfterItem → Out (Expr items)
arguments_step g a r x =
    elim x [
      | closes comma ↦ ok (last_argument comma a) (behind comma r)
      | another ↦ then (some_arguments_by g (tail r)) (λ l q. ok (more_arguments a l) q)
      | no_item ↦ fail
    ]

module _ {tokens own mid : List ℕ} {at free : ℕ} (ready : Ready tokens own at free) (first : Parsed) (i : ExprAt NONE tokens own mid at free loosest first) {end : ℕ} (is : end ≡ past_comma tokens first.at (code right_paren)) where
  after_first : (Be : Expr items → Type 0) (to : ℕ) (x : AfterItem) → after_item right_paren (from tokens first.at) ≡ x → (many tokens < first.at → many tokens < to) →
      ((g : ℕ) → Enough tokens at 0 g → (a : Expr one) → first.at ≤ many tokens → IsExpr mid first a → Tells Be tokens to (arguments_step g a (from tokens first.at) x)) →
      (f : ℕ) → Enough tokens at 1 f → Tells Be tokens to (some_arguments_by f (from tokens at))
  unfolding some_arguments_by
  after_first Be to x p b k zero h = absurd (omega (arith, ready.within))
  after_first Be to x p b k (suc g) h =
      tells_then (IsExpr mid first) Be tokens first.at to (expr_by g NONE loosest (from tokens at)) _ (i.tells g (omega arith)) b
      (λ a z y. subst (λ x. Tells Be tokens to (arguments_step g a (from tokens first.at) x)) (sym p) (k g (omega arith) a z y))

  pub arguments_last : {now : List ℕ} {left : ℕ} → code_at tokens end ≡ code right_paren → Stored mid now first.free left link 0 (first.free + 1) 0 0 →
      ArgumentsAt tokens own now at free (record { at = end + 1; free = left; named = false })
  arguments_last {now} {left} e s =
      let b = closed_past tokens first.at right_paren (λ z. omega arith) is e in
      let l = b.0 in
      let h = b.1 in
      let w = i.grew (omega arith) in
      let d = closed_at tokens first.at right_paren (λ z. omega arith) is ready.known e in
      record {
        grew = λ q. grew_node at (end + 1) (omega (arith, w.upto)) (omega arith) w s;
        tells = after_first (IsArguments now (record { at = end + 1; free = left; named = false })) (end + 1) (closes d.0) d.1 (λ z. omega arith)
            (λ g q t z y. (omega arith, d.2, record { placed = placed (tree_of (bare t)) none (label link 0) s refl (omega (arith, ready.most, w.less)) y.placed refl }));
      }

  pub arguments_none : {now : List ℕ} {r : Piece} → (code_at tokens end ≡ code right_paren → ⊥) → (code_at tokens end ≡ code comma_token → ⊥) → r.at ≡ many tokens + 1 → ArgumentsAt tokens own now at free r
  arguments_none {now} {r} n m z =
      record {
        grew = λ q. absurd (omega arith);
        tells = after_first (IsArguments now r) r.at no_item (none_at tokens first.at right_paren (λ z. omega arith) is ready.known n m) (λ q. omega arith) (λ g q t x y. omega arith);
      }

  pub arguments_more_none : {now : List ℕ} {r : Piece} → (code_at tokens end ≡ code right_paren → ⊥) → code_at tokens end ≡ code comma_token → many tokens < r.at →
      ArgumentsAt tokens mid now (first.at + 1) first.free r → ArgumentsAt tokens own now at free r
  arguments_more_none {now} {r} n m h j =
      let b = comma_there tokens first.at right_paren (λ z. omega arith) is m in
      let w = i.grew (omega arith) in
      record {
        grew = λ q. absurd (omega arith);
        tells = after_first (IsArguments now r) r.at another (more_at tokens first.at right_paren (λ z. omega arith) is ready.known n m) (λ q. h)
            (λ g q t x y.
            rw (tail_from tokens first.at)
            (tells_none (IsArguments now r) (IsArguments now r) tokens r.at r.at (some_arguments_by g (from tokens (first.at + 1))) (λ l z. ok (more_arguments t l) z) h h (j.tells g (omega (arith, w.upto)))));
      }

  pub arguments_more : {mid₂ now : List ℕ} {left : ℕ} (r : Piece) → (code_at tokens end ≡ code right_paren → ⊥) → code_at tokens end ≡ code comma_token → r.at ≤ many tokens →
      ArgumentsAt tokens mid mid₂ (first.at + 1) first.free r → Stored mid₂ now r.free left link 0 (first.free + 1) (r.free + 1) 0 →
      ArgumentsAt tokens own now at free (record { at = r.at; free = left; named = false })
  arguments_more {mid₂} {now} {left} r n m h j s =
      let b = comma_there tokens first.at right_paren (λ z. omega arith) is m in
      let w = i.grew (omega arith) in
      let v = j.grew h in
      record {
        grew = λ q. grew_node at r.at (omega (arith, w.upto, v.upto)) (omega arith) (grew_on (at + 1) (omega arith) w v) s;
        tells = after_first (IsArguments now (record { at = r.at; free = left; named = false })) r.at another (more_at tokens first.at right_paren (λ z. omega arith) is ready.known n m) (λ q. absurd (omega arith))
            (λ g q t x y.
            rw (tail_from tokens first.at)
            (tells_some (IsArguments mid₂ r) (IsArguments now (record { at = r.at; free = left; named = false })) tokens r.at r.at (some_arguments_by g (from tokens (first.at + 1))) (λ l z. ok (more_arguments t l) z) h (j.tells g (omega (arith, w.upto)))
            (λ l u. (
              h,
              refl,
              record {
                placed =
                    placed (tree_of (bare t)) (tree_of (bare l)) (label link 0) s refl (omega (arith, ready.most, w.less, v.less))
                    (kept_operand (tree_of (bare t)) v y.placed)
                    u.placed;
              },
            ))));
      }
