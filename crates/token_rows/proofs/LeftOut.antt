-- With the pair of one row left out, a plain tree in context 0 or 3 writes what the grammar's pairs without one of them do. Assumes nothing.
use mathlib.Core.Path.{◌≡◌, refl, sym, subst, ap, ap₂, ◌∙◌}
use mathlib.Core.Bool.{Bool, true, false}
use mathlib.Core.List.{List, [], ◌∷◌}
use mathlib.Core.Logic.{inl, inr}
use Rattle.laws.specs.Choice.{pick, lookup}
use Rattle.laws.proofs.Choice.{pick_true, pick_false, true_not_false}
use Rattle.tree.specs.Forms.{link, class_of}
use Rattle.tree.specs.Trees.{Label, Tree, none, node}
use Rattle.fixup.specs.declared.context.FixupContext.{FixupContext}
use Rattle.fixup.specs.Contexts.{none_context}
use Rattle.expr.specs.declared.Handed.{Handed}
use Rattle.expr.specs.Handed.{neither}
use Rattle.expr.specs.declared.order.CalleeOrder.TheVariants.{Ours}
use Rattle.expr.specs.Expr.{hands_first, hands_second}
use Rattle.row.specs.Rows.{own_context}
use Rattle.row_walk.specs.Paths.{Branch, first, second, tree_by, handed_by}
use Rattle.token_grammar.specs.Tokens.{Token, operator, as_token, name_token, dot, left_paren, right_paren, left_bracket, right_bracket, comma_token, question}
use Rattle.token_grammar.specs.Types.{Sort, one, list, items, const_ptr, mut_ptr, shared_ref, mut_ref, infer, never, Ty, named, applied, pointing, sign, no_types, types, last_type, more_types}
use Rattle.token_grammar.specs.Expressions.{Expr, atom, paren, prefix, binary, cast, member, try, index, call, method, no_arguments, arguments, last_argument, more_arguments, prefix_token, member_token, write}
use Rattle.token_grammar.specs.Grammar.{Context}
use Rattle.token_grammar.specs.Grammar as grammar
use Rattle.token_grammar.specs.Commas.{without_commas}
use Rattle.token_grammar.proofs.Added.{add_pairs, PairAt, Pair, drop_at, drop_pair, AnyPair, drop_any}
use Rattle.token_plain.specs.Trees.{label, tree_of, tree_of_type}
use Rattle.token_plain.specs.Written.{Signs, signs, sign_lines, signs_of, within}
use Rattle.token_rows.proofs.Contexts.{begun, Calm, calm_none}
use Rattle.token_rows.proofs.Nodes.{facts}
use Rattle.token_rows.proofs.Operands.{Settled}
use Rattle.token_rows.proofs.Handed.{Operand, root, alone, prefix_first, binary_first, binary_second, cast_first, member_first, try_first, index_first, call_first, method_first, paren_first, index_second, link_first}
use Rattle.token_rows.proofs.Tokens.{marked, inside, tokens_for, inside_for, marked_other, marked_expression, own_expression, prefix_signs, operator_signs, member_signs, link_signs, types_are, InsideIs, operand_is, is}

-- ---- the tokens without the pair of the node at a path

unfoldable pub inside_but : Branch → (Handed → Tree → List Token → List Token) → FixupContext → Tree → List Token → List Token
inside_but s but x none rest = rest
inside_but first but x (node l a b) rest = inside (signs_of l b) (but (hands_first Ours x (node l a b)) a) (tokens_for (hands_second x (node l a b)) b) rest
inside_but second but x (node l a b) rest = inside (signs_of l b) (tokens_for (hands_first Ours x (node l a b)) a) (but (hands_second x (node l a b)) b) rest

unfoldable pub tokens_but : List Branch → Handed → Tree → List Token → List Token
tokens_but [] h t rest = inside_for (own_context h t) t rest
tokens_but (s ∷ p) h t rest = within (marked h t) (inside_but s (tokens_but p) (own_context h t) t) rest

-- whether the row of the node at a path has an outer pair
unfoldable pub marked_at : Handed → Tree → List Branch → Bool
marked_at h t p = marked (handed_by Ours h t p) (tree_by t p)

-- the same below a node whose own context is x
unfoldable pub marked_below : Branch → List Branch → FixupContext → Tree → Bool
marked_below s p x none = false
marked_below first p x (node l a b) = marked_at (hands_first Ours x (node l a b)) a p
marked_below second p x (node l a b) = marked_at (hands_second x (node l a b)) b p

none_marked : (h : Handed) (p : List Branch) → marked_at h none p ≡ false
unfolding marked_at
none_marked h [] = marked_other h none refl
none_marked h (s ∷ p) = marked_other h none refl

here_marked : (h : Handed) (t : Tree) → marked_at h t [] ≡ marked h t
unfolding marked_at
here_marked h none = refl
here_marked h (node l a b) = refl

below_marked : (h : Handed) (t : Tree) (s : Branch) (p : List Branch) → marked_at h t (s ∷ p) ≡ marked_below s p (own_context h t) t
unfolding marked_at marked_below
below_marked h none s p = marked_other h none refl
below_marked h (node l a b) first p = refl
below_marked h (node l a b) second p = refl

-- ---- types, and links themselves, have no pairs

unmarked : {s : Sort} (t : Ty s) (h : Handed) (p : List Branch) → marked_at h (tree_of_type t) p ≡ false
unfolding marked_at class_of pick
unmarked (named y) h [] = marked_other h _ refl
unmarked (named y) h (first ∷ p) = none_marked _ p
unmarked (named y) h (second ∷ p) = none_marked _ p
unmarked (applied y l) h [] = marked_other h _ refl
unmarked (applied y l) h (first ∷ p) = none_marked _ p
unmarked (applied y l) h (second ∷ p) = unmarked l _ p
unmarked (pointing const_ptr t) h [] = marked_other h _ refl
unmarked (pointing mut_ptr t) h [] = marked_other h _ refl
unmarked (pointing shared_ref t) h [] = marked_other h _ refl
unmarked (pointing mut_ref t) h [] = marked_other h _ refl
unmarked (pointing q t) h (first ∷ p) = unmarked t _ p
unmarked (pointing q t) h (second ∷ p) = none_marked _ p
unmarked (sign infer) h [] = marked_other h _ refl
unmarked (sign never) h [] = marked_other h _ refl
unmarked (sign x) h (first ∷ p) = none_marked _ p
unmarked (sign x) h (second ∷ p) = none_marked _ p
unmarked no_types h p = none_marked h p
unmarked (types l) h p = unmarked l h p
unmarked (last_type comma t) h [] = marked_other h _ refl
unmarked (last_type comma t) h (first ∷ p) = unmarked t _ p
unmarked (last_type comma t) h (second ∷ p) = none_marked _ p
unmarked (more_types t l) h [] = marked_other h _ refl
unmarked (more_types t l) h (first ∷ p) = unmarked t _ p
unmarked (more_types t l) h (second ∷ p) = unmarked l _ p

-- ---- by the signs of a node

module _ (x : FixupContext) (l : Label) (a b : Tree) (s : Signs) (e : signs_of l b ≡ s) (but : Handed → Tree → List Token → List Token) (end : List Token) where
  but_first : inside_but first but x (node l a b) end ≡ inside s (but (hands_first Ours x (node l a b)) a) (tokens_for (hands_second x (node l a b)) b) end
  unfolding inside_but
  but_first = ap (λ z. inside z (but (hands_first Ours x (node l a b)) a) (tokens_for (hands_second x (node l a b)) b) end) e

  but_second : inside_but second but x (node l a b) end ≡ inside s (tokens_for (hands_first Ours x (node l a b)) a) (but (hands_second x (node l a b)) b) end
  unfolding inside_but
  but_second = ap (λ z. inside z (tokens_for (hands_first Ours x (node l a b)) a) (but (hands_second x (node l a b)) b) end) e

-- ---- an operand: its own pair is left out, or one inside it

abbrev DropsAt : Expr one → Context → FixupContext → Branch → Type 0
DropsAt e k x s =
    (p : List Branch) → marked_below s p x (tree_of e) ≡ true
    → (q : Pair e k x.next_operator_can_begin_generics)
    × ((end : List Token) → inside_but s (tokens_but p) x (tree_of e) end ≡ write (without_commas (drop_pair e k x.next_operator_can_begin_generics q)) end)

abbrev DropsInside : Expr one → Type 0
DropsInside e = (k : Context) (x : FixupContext) → Calm k x → Settled x → (s : Branch) → DropsAt e k x s

abbrev DropsOperand : Context → Handed → Expr one → Bool → Bool → List Branch → Type 0
DropsOperand k h a p g path =
    (q : PairAt p k g (Pair a)) × ((rest : List Token) → tokens_but path h (tree_of a) rest ≡ write (without_commas (drop_at p k g (add_pairs a) (Pair a) (drop_pair a) q)) rest)

module _ (k : Context) (h : Handed) (a : Expr one) (g : Bool) (is_a : InsideIs a) (drops_a : DropsInside a) where
  own : (p : Bool) → Operand k h a p g → own_context h (tree_of a) ≡ pick p none_context h.fixup
  own p o = own_expression h (tree_of a) (facts a).expression ∙ ap (λ b. pick b none_context h.fixup) o.pair

  row : (p : Bool) → Operand k h a p g → marked h (tree_of a) ≡ p
  row p o = marked_expression h (tree_of a) (facts a).expression ∙ o.pair

  drop_own : (p : Bool) → Operand k h a p g → marked h (tree_of a) ≡ true → DropsOperand k h a p g []
  unfolding tokens_but
  drop_own true o m =
      (inl tt, λ rest. ap (λ x. inside_for x (tree_of a) rest) (own true o ∙ pick_true none_context h.fixup refl) ∙ is_a grammar.NONE none_context calm_none (λ e. true_not_false (sym e)) rest)
  drop_own false o m = true_not_false (sym m ∙ row false o)

  but_at : (b : Bool) (y : FixupContext) (s : Branch) (path : List Branch) (rest : List Token) → marked h (tree_of a) ≡ b → own_context h (tree_of a) ≡ y
      → tokens_but (s ∷ path) h (tree_of a) rest ≡ within b (inside_but s (tokens_but path) y (tree_of a)) rest
  unfolding tokens_but
  but_at b y s path rest m e = ap₂ (λ c z. within c (inside_but s (tokens_but path) z (tree_of a)) rest) m e

  drop_below : (p : Bool) → Operand k h a p g → (s : Branch) (path : List Branch) → marked_below s path (own_context h (tree_of a)) (tree_of a) ≡ true → DropsOperand k h a p g (s ∷ path)
  drop_below true o s path m =
      let e = own true o ∙ pick_true none_context h.fixup refl in
      let d = drops_a grammar.NONE none_context calm_none (λ e. true_not_false (sym e)) s path (subst (λ y. marked_below s path y (tree_of a) ≡ true) e m) in
      (inr d.0, λ rest. but_at true none_context s path rest (row true o) e ∙ ap (λ r. left_paren ∷ r) (d.1 (right_paren ∷ rest)))
  drop_below false o s path m =
      let e = own false o ∙ pick_false none_context h.fixup refl in
      let d = drops_a k h.fixup o.calm o.settled s path (subst (λ y. marked_below s path y (tree_of a) ≡ true) e m) in
      subst (λ f. (q : Pair a k f) × ((rest : List Token) → tokens_but (s ∷ path) h (tree_of a) rest ≡ write (without_commas (drop_pair a k f q)) rest)) o.flag
      (d.0, λ rest. but_at false h.fixup s path rest (row false o) e ∙ d.1 rest)

  drop_operand : (p : Bool) → Operand k h a p g → (path : List Branch) → marked_at h (tree_of a) path ≡ true → DropsOperand k h a p g path
  drop_operand p o [] m = drop_own p o (sym (here_marked h (tree_of a)) ∙ m)
  drop_operand p o (s ∷ path) m = drop_below p o s path (sym (below_marked h (tree_of a) s path) ∙ m)

operand_drops : {k : Context} {h : Handed} {a : Expr one} {p g : Bool} → Operand k h a p g → DropsInside a → (path : List Branch) → marked_at h (tree_of a) path ≡ true → DropsOperand k h a p g path
operand_drops {k} {h} {a} {p} {g} o drops_a path m = drop_operand k h a g (is one a) drops_a p o path m

-- ---- owner by owner

abbrev DropsList : {s : Sort} → Expr s → Context → Handed → List Branch → Type 0
DropsList l j h p =
    marked_at h (tree_of l) p ≡ true
    → (q : Pair l j false) × ((end : List Token) → tokens_but p h (tree_of l) (right_paren ∷ end) ≡ write (without_commas (drop_pair l j false q)) end)

abbrev Drops : (s : Sort) → Expr s → Type 0
Drops one e = DropsInside e
Drops list l = (j : Context) (h : Handed) (p : List Branch) → DropsList l j h p
Drops items l = (j : Context) (h : Handed) (p : List Branch) → DropsList l j h p

-- no pair where nothing stands
nothing : {A : Type 0} (h : Handed) (p : List Branch) → marked_at h none p ≡ true → A
nothing h p m = true_not_false (sym m ∙ none_marked h p)

split : (P : Branch → Type 0) → P first → P second → (s : Branch) → P s
split P a b first = a
split P a b second = b

by_path : (P : List Branch → Type 0) → P [] → ((p : List Branch) → P (first ∷ p)) → ((p : List Branch) → P (second ∷ p)) → (p : List Branch) → P p
by_path P here a b [] = here
by_path P here a b (first ∷ p) = a p
by_path P here a b (second ∷ p) = b p

-- a link has no pair
abbrev linked : Tree → Tree → Tree
linked a b = node (label link 0) a b

link_unmarked : (h : Handed) (a b : Tree) → marked h (linked a b) ≡ false
unfolding class_of pick
link_unmarked h a b = marked_other h (linked a b) refl

link_here : {A : Type 0} (h : Handed) (a b : Tree) → marked_at h (linked a b) [] ≡ true → A
link_here h a b m = true_not_false (sym m ∙ here_marked h (linked a b) ∙ link_unmarked h a b)

link_below : (h : Handed) (a b : Tree) (s : Branch) (p : List Branch) (rest : List Token)
    → tokens_but (s ∷ p) h (linked a b) rest ≡ inside_but s (tokens_but p) (own_context h (linked a b)) (linked a b) rest
unfolding tokens_but
link_below h a b s p rest = ap (λ c. within c (inside_but s (tokens_but p) (own_context h (linked a b)) (linked a b)) rest) (link_unmarked h a b)

drops : (s : Sort) (e : Expr s) → Drops s e
unfolding marked_below tokens_for signs_of sign_lines lookup pick
drops s (atom y) = λ k x c w.
    split (DropsAt (atom y) k x) (λ p m. nothing (hands_first Ours x (tree_of (atom y))) p m) (λ p m. nothing (hands_second x (tree_of (atom y))) p m)
drops s (paren a) = λ k x c w.
    split (DropsAt (paren a) k x)
    (λ p m.
    let d = operand_drops (alone a) (drops one a) p (subst (λ h. marked_at h (tree_of a) p ≡ true) (paren_first x a) m) in (
      d.0,
      λ end.
          but_first x _ _ _ (signs (left_paren ∷ []) (right_paren ∷ []) []) refl (tokens_but p) end
          ∙ ap (λ h. left_paren ∷ tokens_but p h (tree_of a) (right_paren ∷ end)) (paren_first x a)
          ∙ ap (λ r. left_paren ∷ r) (d.1 (right_paren ∷ end)),
    ))
    (λ p m. nothing (hands_second x (tree_of (paren a))) p m)
drops s (prefix y a) = λ k x c w.
    split (DropsAt (prefix y a) k x)
    (λ p m.
    let d = operand_drops (prefix_first k x c w y a) (drops one a) p m in
    (d.0, λ end. but_first x _ _ _ (signs (prefix_token y ∷ []) [] []) (prefix_signs y) (tokens_but p) end ∙ ap (λ r. prefix_token y ∷ r) (d.1 end)))
    (λ p m. nothing (hands_second x (tree_of (prefix y a))) p m)
drops s (binary o a b) = λ k x c w.
    split (DropsAt (binary o a b) k x)
    (λ p m.
    let d = operand_drops (binary_first k x c w o a b) (drops one a) p m in (
      inl d.0,
      λ end.
          but_first x _ _ _ (signs [] (operator o ∷ []) []) (operator_signs o (tree_of b)) (tokens_but p) end
          ∙ ap (λ r. tokens_but p (hands_first Ours x (tree_of (binary o a b))) (tree_of a) (operator o ∷ r)) (operand_is (binary_second k x c w o a b) (is one b) end)
          ∙ d.1 _,
    ))
    (λ p m.
    let d = operand_drops (binary_second k x c w o a b) (drops one b) p m in (
      inr d.0,
      λ end.
          but_second x _ _ _ (signs [] (operator o ∷ []) []) (operator_signs o (tree_of b)) (tokens_but p) end
          ∙ ap (λ r. tokens_for (hands_first Ours x (tree_of (binary o a b))) (tree_of a) (operator o ∷ r)) (d.1 end)
          ∙ operand_is (binary_first k x c w o a b) (is one a) _,
    ))
drops s (cast a t) = λ k x c w.
    split (DropsAt (cast a t) k x)
    (λ p m.
    let d = operand_drops (cast_first k x c w a t) (drops one a) p m in (
      d.0,
      λ end.
          but_first x _ _ _ (signs [] (as_token ∷ []) []) refl (tokens_but p) end
          ∙ ap (λ r. tokens_but p (hands_first Ours x (tree_of (cast a t))) (tree_of a) (as_token ∷ r)) (types_are t (hands_second x (tree_of (cast a t))) end)
          ∙ d.1 _,
    ))
    (λ p m. true_not_false (sym m ∙ unmarked t (hands_second x (tree_of (cast a t))) p))
drops s (member y a) = λ k x c w.
    split (DropsAt (member y a) k x)
    (λ p m.
    let d = operand_drops (member_first k x c w y a) (drops one a) p m in
    (d.0, λ end. but_first x _ _ _ (signs [] (dot ∷ member_token y ∷ []) []) (member_signs y) (tokens_but p) end ∙ d.1 _))
    (λ p m. nothing (hands_second x (tree_of (member y a))) p m)
drops s (try a) = λ k x c w.
    split (DropsAt (try a) k x)
    (λ p m.
    let d = operand_drops (try_first k x c w a) (drops one a) p m in
    (d.0, λ end. but_first x _ _ _ (signs [] (question ∷ []) []) refl (tokens_but p) end ∙ d.1 _))
    (λ p m. nothing (hands_second x (tree_of (try a))) p m)
drops s (index a b) = λ k x c w.
    split (DropsAt (index a b) k x)
    (λ p m.
    let d = operand_drops (index_first k x c w a b) (drops one a) p m in (
      inl d.0,
      λ end.
          but_first x _ _ _ (signs [] (left_bracket ∷ []) (right_bracket ∷ [])) refl (tokens_but p) end
          ∙ ap (λ h. tokens_but p (hands_first Ours x (tree_of (index a b))) (tree_of a) (left_bracket ∷ tokens_for h (tree_of b) (right_bracket ∷ end))) (index_second x a b)
          ∙ ap (λ r. tokens_but p (hands_first Ours x (tree_of (index a b))) (tree_of a) (left_bracket ∷ r)) (operand_is (alone b) (is one b) (right_bracket ∷ end))
          ∙ d.1 _,
    ))
    (λ p m.
    let d = operand_drops (alone b) (drops one b) p (subst (λ h. marked_at h (tree_of b) p ≡ true) (index_second x a b) m) in (
      inr d.0,
      λ end.
          but_second x _ _ _ (signs [] (left_bracket ∷ []) (right_bracket ∷ [])) refl (tokens_but p) end
          ∙ ap (λ h. tokens_for (hands_first Ours x (tree_of (index a b))) (tree_of a) (left_bracket ∷ tokens_but p h (tree_of b) (right_bracket ∷ end))) (index_second x a b)
          ∙ ap (λ r. tokens_for (hands_first Ours x (tree_of (index a b))) (tree_of a) (left_bracket ∷ r)) (d.1 (right_bracket ∷ end))
          ∙ operand_is (index_first k x c w a b) (is one a) _,
    ))
drops s (call a l) = λ k x c w.
    split (DropsAt (call a l) k x)
    (λ p m.
    let d = operand_drops (call_first k x c w a l) (drops one a) p m in (
      inl d.0,
      λ end.
          but_first x _ _ _ (signs [] (left_paren ∷ []) (right_paren ∷ [])) refl (tokens_but p) end
          ∙ ap (λ r. tokens_but p (hands_first Ours x (tree_of (call a l))) (tree_of a) (left_paren ∷ r)) (is list l k (hands_second x (tree_of (call a l))) end)
          ∙ d.1 _,
    ))
    (λ p m.
    let d = drops list l k (hands_second x (tree_of (call a l))) p m in (
      inr d.0,
      λ end.
          but_second x _ _ _ (signs [] (left_paren ∷ []) (right_paren ∷ [])) refl (tokens_but p) end
          ∙ ap (λ r. tokens_for (hands_first Ours x (tree_of (call a l))) (tree_of a) (left_paren ∷ r)) (d.1 end)
          ∙ operand_is (call_first k x c w a l) (is one a) _,
    ))
drops s (method y a l) = λ k x c w.
    split (DropsAt (method y a l) k x)
    (λ p m.
    let d = operand_drops (method_first k x c w y a l) (drops one a) p m in (
      inl d.0,
      λ end.
          but_first x _ _ _ (signs [] (dot ∷ name_token y ∷ left_paren ∷ []) (right_paren ∷ [])) refl (tokens_but p) end
          ∙ ap (λ r. tokens_but p (hands_first Ours x (tree_of (method y a l))) (tree_of a) (dot ∷ name_token y ∷ left_paren ∷ r)) (is list l k (hands_second x (tree_of (method y a l))) end)
          ∙ d.1 _,
    ))
    (λ p m.
    let d = drops list l k (hands_second x (tree_of (method y a l))) p m in (
      inr d.0,
      λ end.
          but_second x _ _ _ (signs [] (dot ∷ name_token y ∷ left_paren ∷ []) (right_paren ∷ [])) refl (tokens_but p) end
          ∙ ap (λ r. tokens_for (hands_first Ours x (tree_of (method y a l))) (tree_of a) (dot ∷ name_token y ∷ left_paren ∷ r)) (d.1 end)
          ∙ operand_is (method_first k x c w y a l) (is one a) _,
    ))
drops s no_arguments = λ j h p m. nothing h p m
drops s (arguments l) = λ j h p m. drops items l j h p m
drops s (last_argument comma a) = λ j h.
    let x = own_context h (tree_of (last_argument comma a)) in
    by_path (DropsList (last_argument comma a) j h) (λ m. link_here h (tree_of a) none m)
    (λ p m.
    let d = operand_drops (alone a) (drops one a) p (subst (λ k. marked_at k (tree_of a) p ≡ true) (link_first x (tree_of a) none) (sym (below_marked h (linked (tree_of a) none) first p) ∙ m)) in (
      d.0,
      λ end.
          link_below h (tree_of a) none first p (right_paren ∷ end)
          ∙ but_first x _ _ _ (signs [] [] []) refl (tokens_but p) (right_paren ∷ end)
          ∙ ap (λ k. tokens_but p k (tree_of a) (right_paren ∷ end)) (link_first x (tree_of a) none)
          ∙ d.1 (right_paren ∷ end),
    ))
    (λ p m. nothing (hands_second x (tree_of (last_argument comma a))) p (sym (below_marked h (linked (tree_of a) none) second p) ∙ m))
drops s (more_arguments a l) = λ j h.
    let t = tree_of (more_arguments a l) in
    let x = own_context h t in
    by_path (DropsList (more_arguments a l) j h) (λ m. link_here h (tree_of a) (tree_of l) m)
    (λ p m.
    let d = operand_drops (alone a) (drops one a) p (subst (λ k. marked_at k (tree_of a) p ≡ true) (link_first x (tree_of a) (tree_of l)) (sym (below_marked h t first p) ∙ m)) in (
      inl d.0,
      λ end.
          link_below h (tree_of a) (tree_of l) first p (right_paren ∷ end)
          ∙ but_first x _ _ _ (signs [] (comma_token ∷ []) []) (link_signs l) (tokens_but p) (right_paren ∷ end)
          ∙ ap (λ k. tokens_but p k (tree_of a) (comma_token ∷ tokens_for (hands_second x t) (tree_of l) (right_paren ∷ end))) (link_first x (tree_of a) (tree_of l))
          ∙ ap (λ r. tokens_but p (neither none_context (tree_of a)) (tree_of a) (comma_token ∷ r)) (is items l j (hands_second x t) end)
          ∙ d.1 _,
    ))
    (λ p m.
    let d = drops items l j (hands_second x t) p (sym (below_marked h t second p) ∙ m) in (
      inr d.0,
      λ end.
          link_below h (tree_of a) (tree_of l) second p (right_paren ∷ end)
          ∙ but_second x _ _ _ (signs [] (comma_token ∷ []) []) (link_signs l) (tokens_but p) (right_paren ∷ end)
          ∙ ap (λ k. tokens_for k (tree_of a) (comma_token ∷ tokens_but p (hands_second x t) (tree_of l) (right_paren ∷ end))) (link_first x (tree_of a) (tree_of l))
          ∙ ap (λ r. tokens_for (neither none_context (tree_of a)) (tree_of a) (comma_token ∷ r)) (d.1 end)
          ∙ operand_is (alone a) (is one a) _,
    ))

-- With a pair of the root's rows left out.
pub tokens_without : (k : Context) (e : Expr one) (p : List Branch) → marked_at (neither (begun k) (tree_of e)) (tree_of e) p ≡ true
    → (q : AnyPair k e) × ((rest : List Token) → tokens_but p (neither (begun k) (tree_of e)) (tree_of e) rest ≡ write (without_commas (drop_any k e q)) rest)
tokens_without k e p m = operand_drops (root k e) (drops one e) p m
