-- What the parser gives fits, has the level asked for, and writes the tokens that were read. Assumes nothing.
use mathlib.Core.Path.{◌≡◌, refl, sym, subst, ap, ◌∙◌}
use mathlib.Core.Bool.{Bool, true, false, ◌&&◌}
use mathlib.Core.List.{List, ◌∷◌}
use Prim.Native.Nat.{ℕ, zero, suc, ◌≤◌}
use native.Mathlib.Omega.{arith}
use Rattle.laws.proofs.Choice.{and_true, true_not_false}
use Rattle.token_grammar.specs.Tokens.{Token, operator, as_token, name_token, dot, left_paren, right_paren, left_bracket, right_bracket, question}
use Rattle.token_grammar.specs.Levels.{prefixes, kind, after}
use Rattle.token_grammar.specs.Bounds.{loosest}
use Rattle.token_grammar.specs.Types.{Sort, one, list, items}
use Rattle.token_grammar.specs.Expressions.{Atom, Member, by_name, by_number, awaited, Expr, atom, paren, prefix, binary, cast, member, try, index, call, method, no_arguments, arguments, more_arguments, prefix_token, member_token, write}
use Rattle.token_grammar.specs.Grammar.{Context, NONE, AtLeast, excluded, Fits}
use Rattle.token_grammar.specs.Parser.{Out, fail, ok, then, tail, is_first, Start, no_start, an_atom, a_prefix, a_group, start, AfterDot, no_member, a_member, after_dot, is_by_name, member_symbol, next, AfterItem, closes, another, no_item, after_item, goes_on, type_by, expr_by, on_by, arguments_by, some_arguments_by}
use Rattle.token_grammar.specs.Next.{Next, stops, operates, casts_to, dots, calls, indexes, tries, level_at}
use Rattle.token_grammar.proofs.FirstTokens.{first_is, start_is, after_dot_is, next_is, after_item_is}
use Rattle.token_grammar.proofs.Levels.{after_high}
use Rattle.token_grammar.proofs.Answers.{Good, good_then}
use Rattle.token_grammar.proofs.Types.{TypeSound, type_sound}
use Rattle.token_grammar.proofs.Follows.{Follows, goes_level, goes_follows}
use Rattle.token_grammar.proofs.Complete.{dot_step, on_step, some_step}

abbrev pub Sound : Context → ℕ → List Token → Expr one → List Token → Type 0
Sound c n ts e r = Fits c e × AtLeast n e × (write e r ≡ ts)

abbrev pub ListSound : {s : Sort} → List Token → Expr s → List Token → Type 0
ListSound ts l r = ((c : Context) → Fits c l) × (write l r ≡ ts)

abbrev pub Sounds : ℕ → Type 0
Sounds f =
    ((c : Context) (n : ℕ) (ts : List Token) → n ≤ 14 → Good (Sound c n ts) (expr_by f c n ts))
    × ((c : Context) (n : ℕ) (e : Expr one) (ts : List Token) → AtLeast n e → Fits c e → Good (Sound c n (write e ts)) (on_by f c n e ts))
    × ((ts : List Token) → Good (ListSound {s = list} ts) (arguments_by f ts))
    × ((ts : List Token) → Good (ListSound {s = items} ts) (some_arguments_by f ts))

-- the parsers once their tests are answered
abbrev close_step : ℕ → Context → ℕ → Expr one → List Token → Bool → Out (Expr one)
close_step f c n e r y = elim y [ true ↦ on_by f c n e (tail r) | false ↦ fail ]

abbrev atom_step : ℕ → Context → ℕ → Atom → List Token → Bool → Out (Expr one)
atom_step f c n a ts y = elim y [ true ↦ fail | false ↦ on_by f c n (atom a) (tail ts) ]

abbrev expr_step : ℕ → Context → ℕ → List Token → Start → Out (Expr one)
expr_step f c n ts x =
    elim x [
      | no_start ↦ fail
      | an_atom a ↦ atom_step f c n a ts (excluded c (atom a))
      | a_prefix p ↦ then (expr_by f c (after prefixes) (tail ts)) (λ a r. on_by f c n (prefix p a) r)
      | a_group ↦ then (expr_by f NONE loosest (tail ts)) (λ a r. close_step f c n (paren a) r (is_first right_paren r))
    ]

abbrev member_step : ℕ → Context → ℕ → Expr one → Member → List Token → Bool → Out (Expr one)
member_step f c n e m us y =
    elim y [
      | true ↦ then (arguments_by f (tail us)) (λ l r. on_by f c n (method (member_symbol m) e l) r)
      | false ↦ on_by f c n (member m e) us
    ]

abbrev arguments_step : ℕ → List Token → Bool → Out (Expr list)
arguments_step f ts y = elim y [ true ↦ ok no_arguments (tail ts) | false ↦ then (some_arguments_by f ts) (λ l r. ok (arguments l) r) ]

is_name : (m : Member) → is_by_name m ≡ true → member_token m ≡ name_token (member_symbol m)
is_name (by_name y) e = refl
is_name (by_number y) e = true_not_false (sym e)
is_name awaited e = true_not_false (sym e)

module _ (f : ℕ) (ih : Sounds f) (c : Context) where
  -- to go on with e, which together with r writes ts
  onward : (n : ℕ) (ts : List Token) (e : Expr one) (r : List Token) → write e r ≡ ts → AtLeast n e → Fits c e → Good (Sound c n ts) (on_by f c n e r)
  onward n ts e r q h k = subst (λ z. Good (Sound c n z) (on_by f c n e r)) q (ih.1 c n e r h k)

  module _ (n : ℕ) (ts : List Token) (small : n ≤ 14) where
    sound_group : (a : Expr one) (r : List Token) → Fits NONE a → left_paren ∷ write a r ≡ ts → (y : Bool) → is_first right_paren r ≡ y → Good (Sound c n ts) (close_step f c n (paren a) r y)
    sound_group a r h q true e = let v = first_is right_paren r refl e in onward n ts (paren a) (tail r) (cc) (omega arith) h
    sound_group a r h q false e = tt

    sound_atom : (x : Atom) → start ts ≡ an_atom x → (y : Bool) → excluded c (atom x) ≡ y → Good (Sound c n ts) (atom_step f c n x ts y)
    sound_atom x e true z = tt
    sound_atom x e false z = onward n ts (atom x) (tail ts) (start_is ts (an_atom x) e) (omega arith) z

    sound_expr : (x : Start) → start ts ≡ x → Good (Sound c n ts) (expr_step f c n ts x)
    sound_expr no_start e = tt
    sound_expr (an_atom x) e = sound_atom x e (excluded c (atom x)) refl
    sound_expr (a_prefix p) e =
        let u : prefix_token p ∷ tail ts ≡ ts = start_is ts (a_prefix p) e in
        good_then (Sound c 14 (tail ts)) (Sound c n ts) (expr_by f c 14 (tail ts)) (λ a r. on_by f c n (prefix p a) r) (ih.0 c 14 (tail ts) (omega arith))
        (λ a r h. onward n ts (prefix p a) r (cc) small (h.1, h.0))
    sound_expr a_group e =
        let u : left_paren ∷ tail ts ≡ ts = start_is ts a_group e in
        good_then (Sound NONE loosest (tail ts)) (Sound c n ts) (expr_by f NONE loosest (tail ts)) (λ a r. close_step f c n (paren a) r (is_first right_paren r)) (ih.0 NONE loosest (tail ts) (omega arith))
        (λ a r h. sound_group a r h.0 (cc) (is_first right_paren r) refl)

  module _ (n : ℕ) (e : Expr one) (ts : List Token) (enough : AtLeast n e) (k : Fits c e) where
    abbrev S : Expr one → List Token → Type 0
    S = Sound c n (write e ts)

    sound_index : (b : Expr one) (r : List Token) → left_bracket ∷ write b r ≡ ts → AtLeast 15 e → Fits NONE b → n ≤ 15 → (y : Bool) → is_first right_bracket r ≡ y → Good S (close_step f c n (index e b) r y)
    sound_index b r q h kb hn true z =
        let v = first_is right_bracket r refl z in
        onward n (write e ts) (index e b) (tail r) (cc) hn (h, k, kb)
    sound_index b r q h kb hn false z = tt

    sound_member : (m : Member) (us : List Token) → dot ∷ member_token m ∷ us ≡ ts → AtLeast 15 e → n ≤ 15 → (y : Bool) → is_by_name m && is_first left_paren us ≡ y → Good S (member_step f c n e m us y)
    sound_member m us q h hn true z =
        let d = and_true (is_by_name m) (is_first left_paren us) z in
        let v = is_name m d.0 in
        let w = first_is left_paren us refl d.1 in
        good_then (ListSound {s = list} (tail us)) S (arguments_by f (tail us)) (λ l r. on_by f c n (method (member_symbol m) e l) r) (ih.2 (tail us))
        (λ l r g. onward n (write e ts) (method (member_symbol m) e l) r (cc) hn (h, k, g.0 c))
    sound_member m us q h hn false z = onward n (write e ts) (member m e) us (cc) hn (h, k)

    sound_dot : (us : List Token) → dot ∷ us ≡ ts → AtLeast 15 e → n ≤ 15 → (x : AfterDot) → after_dot us ≡ x → Good S (dot_step f c n e us x)
    sound_dot us q h hn no_member p = tt
    sound_dot us q h hn (a_member m) p =
        let u : member_token m ∷ tail us ≡ us = after_dot_is us (a_member m) p in
        sound_member m (tail us) (cc) h hn (is_by_name m && is_first left_paren (tail us)) refl

    sound_step : (x : Next) → next ts ≡ x → n ≤ level_at x → Follows e x → Good S (on_step f c n e ts x)
    sound_step stops q l p = (k, enough, refl)
    sound_step (operates o) q l p =
        let u : operator o ∷ tail ts ≡ ts = next_is ts (operates o) q in
        good_then (Sound c (after (kind o)) (tail ts)) S (expr_by f c (after (kind o)) (tail ts)) (λ b r. on_by f c n (binary o e b) r)
        (ih.0 c (after (kind o)) (tail ts) (omega (arith, after_high o)))
        (λ b r h. onward n (write e ts) (binary o e b) r (cc) l (p.0, h.1, p.1, k, h.0))
    sound_step casts_to q l p =
        let u : as_token ∷ tail ts ≡ ts = next_is ts casts_to q in
        good_then (TypeSound {s = one} (tail ts)) S (type_by f (tail ts)) (λ t r. on_by f c n (cast e t) r) ((type_sound f).0 (tail ts))
        (λ t r h. onward n (write e ts) (cast e t) r (cc) l (p, k))
    sound_step dots q l p = sound_dot (tail ts) (next_is ts dots q) p l (after_dot (tail ts)) refl
    sound_step calls q l p =
        let u : left_paren ∷ tail ts ≡ ts = next_is ts calls q in
        good_then (ListSound {s = list} (tail ts)) S (arguments_by f (tail ts)) (λ a r. on_by f c n (call e a) r) (ih.2 (tail ts))
        (λ a r h. onward n (write e ts) (call e a) r (cc) l (p.0, p.1, k, h.0 c))
    sound_step indexes q l p =
        let u : left_bracket ∷ tail ts ≡ ts = next_is ts indexes q in
        good_then (Sound NONE loosest (tail ts)) S (expr_by f NONE loosest (tail ts)) (λ b r. close_step f c n (index e b) r (is_first right_bracket r)) (ih.0 NONE loosest (tail ts) (omega arith))
        (λ b r h. sound_index b r (cc) p h.0 l (is_first right_bracket r) refl)
    sound_step tries q l p =
        let u : question ∷ tail ts ≡ ts = next_is ts tries q in
        onward n (write e ts) (try e) (tail ts) (cc) l (p, k)

    sound_on : (b : Bool) → goes_on n e (next ts) ≡ b → Good S (elim b [ false ↦ ok e ts | true ↦ on_step f c n e ts (next ts) ])
    sound_on true g = sound_step (next ts) refl (goes_level n e (next ts) g) (goes_follows n e (next ts) g)
    sound_on false g = (k, enough, refl)

module _ (f : ℕ) (ih : Sounds f) (ts : List Token) where
  sound_arguments : (y : Bool) → is_first right_paren ts ≡ y → Good (ListSound {s = list} ts) (arguments_step f ts y)
  sound_arguments true q = (λ c. tt, first_is right_paren ts refl q)
  sound_arguments false q =
      good_then (ListSound {s = items} ts) (ListSound {s = list} ts) (some_arguments_by f ts) (λ l r. ok (arguments l) r) (ih.3 ts) (λ l r h. h)

  sound_some : (a : Expr one) (r : List Token) → Fits NONE a → write a r ≡ ts → (x : AfterItem) → after_item right_paren r ≡ x → Good (ListSound {s = items} ts) (some_step f a r x)
  sound_some a r k h (closes comma) p = (λ c. k, ap (write a) (after_item_is right_paren r (closes comma) refl p) ∙ h)
  sound_some a r k h another p =
      let v = after_item_is right_paren r another refl p in
      good_then (ListSound {s = items} (tail r)) (ListSound {s = items} ts) (some_arguments_by f (tail r)) (λ l w. ok (more_arguments a l) w) (ih.3 (tail r))
      (λ l w g. (λ c. (k, g.0 c), cc))
  sound_some a r k h no_item p = tt

pub sound : (f : ℕ) → Sounds f
unfolding expr_by on_by arguments_by some_arguments_by
sound zero = (λ c n ts h. tt, λ c n e ts h k. tt, λ ts. tt, λ ts. tt)
sound (suc f) =
    let ih = sound f in (
      λ c n ts h. sound_expr f ih c n ts h (start ts) refl,
      λ c n e ts h k. sound_on f ih c n e ts h k (goes_on n e (next ts)) refl,
      λ ts. sound_arguments f ih ts (is_first right_paren ts) refl,
      λ ts. good_then (Sound NONE loosest ts) (ListSound {s = items} ts) (expr_by f NONE loosest ts) (λ a r. some_step f a r (after_item right_paren r)) (ih.0 NONE loosest ts (omega arith))
          (λ a r h. sound_some f ih ts a r h.0 h.2 (after_item right_paren r) refl),
    )
