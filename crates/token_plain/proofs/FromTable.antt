-- The tree of an accepted plain table is that of one parse tree. Assumes nothing.
use mathlib.Core.Path.{◌≡◌, refl, sym, subst, ap, ap₂, ◌∙◌}
use mathlib.Core.Bool.{Bool, true, false, not, ◌&&◌, ◌||◌}
use mathlib.Core.List.{List, [], ◌∷◌}
use mathlib.Core.Logic.{◌⊎◌, inl, inr}
use Prim.Native.Nat.{ℕ, zero, suc, ◌+◌, ◌≤◌, ◌<◌}
use native.Mathlib.Omega.{arith}
use lib.Dec.{eqb, leb}
use borrow.Author.Tests.{eqb-true, leb-true, ne_eqb, not-false}
use mir.Val.{has_key}
use Rattle.laws.specs.Choice.{pick, lookup, is_one_of}
use Rattle.laws.proofs.Choice.{and_true, true_not_false, pick_false}
use Rattle.laws.proofs.Each.{some_none}
use Rattle.tree_places.specs.declared.place.Place.TheVariants.{Required, List as ListOf, Item, Next}
use Rattle.tree.specs.Forms.{expr_assign, expr_await, expr_binary, expr_call, expr_cast, expr_field, expr_index, expr_lit, expr_method_call, expr_paren, expr_path, expr_reference, expr_struct, expr_try, expr_unary, type_infer, type_never, type_path, type_ptr, type_reference, link, an_expression, a_type, a_link, class_of, highest_attributes, details, highest_detail, symbols, highest_symbol, allowed}
use Rattle.tree.specs.Table.{form_at, attributes_at, detail_at, first_at, second_at, symbol_at, class_at}
use Rattle.tree.specs.Trees.{Label, Tree, none, node, label_at, tree_at}
use Rattle.tree_places.specs.Places.{first_places, first_place, second_places, second_place}
use Rattle.tree_rules.specs.Refusals.{Accepted}
use Rattle.tree.proofs.Unfold.{tree_zero, unfolds}
use Rattle.tree_rules.proofs.Accepted.{Within, Fits, count_bounds, root_expression, numbers_allowed, first_fits, second_fits, first_operand, second_operand}
use Rattle.token_grammar.specs.Tokens.{Operator, number, assign, operator_of}
use Rattle.token_grammar.specs.Types.{one, list, items, TypePrefix, const_ptr, mut_ptr, shared_ref, mut_ref, infer, never, Ty, named, applied, pointing, sign, no_types, types, last_type, more_types}
use Rattle.token_grammar.specs.Expressions.{Atom, path, literal, structure, neg, deref, invert, ref, ref_mut, by_name, by_number, awaited, Expr, atom, paren, prefix, binary, cast, member, try, index, call, method, no_arguments, arguments, last_argument, more_arguments}
use Rattle.token_grammar.proofs.Tokens.{number_operator}
use Rattle.token_plain.specs.Plain.{plain_expressions, plain_types, is_plain, plain_table}
use Rattle.token_plain.specs.Trees.{label_with, label, operator_label, tree_of, tree_of_type}

-- ---- a number that is one of those listed

abbrev Each : (ℕ → Type 0) → List ℕ → Type 0
Each P [] = Unit {0}
Each P (k ∷ ks) = P k × Each P ks

one_of : (P : ℕ → Type 0) (ks : List ℕ) (x : ℕ) → Each P ks → has_key ks x ≡ true → P x
one_of P [] x h e = true_not_false (sym e)
one_of P (k ∷ ks) x h e = go (eqb k x) refl e (λ m. one_of P ks x h.1 m)
  where
    go : (b : Bool) → eqb k x ≡ b → b || has_key ks x ≡ true → (has_key ks x ≡ true → P x) → P x
    go true q e more = subst P (eqb-true k x q) h.0
    go false q e more = more e

up_to_one : (d : ℕ) → d ≤ 1 → (0 ≡ d) ⊎ (1 ≡ d)
up_to_one zero h = inl refl
up_to_one (suc zero) h = inr refl
up_to_one (suc (suc n)) h = absurd (omega arith)

up_to_two : (d : ℕ) → d ≤ 2 → (0 ≡ d) ⊎ ((1 ≡ d) ⊎ (2 ≡ d))
up_to_two zero h = inl refl
up_to_two (suc zero) h = inr (inl refl)
up_to_two (suc (suc zero)) h = inr (inr refl)
up_to_two (suc (suc (suc n))) h = absurd (omega arith)

-- ---- the parse trees at operands

module _ (cells : List ℕ) (count : ℕ) where
  abbrev AnExpr : Tree → Type 0
  AnExpr t = (e : Expr one) × (tree_of e ≡ t)

  abbrev AType : Tree → Type 0
  AType t = (y : Ty one) × (tree_of_type y ≡ t)

  -- what a node is, by its class
  record Made (i : ℕ) : Type 0 where
    expr : class_at cells i ≡ an_expression → AnExpr (tree_at cells count i)
    type : class_at cells i ≡ a_type → AType (tree_at cells count i)
    exprs : class_at cells i ≡ a_link → class_at cells (first_at cells i) ≡ an_expression → (l : Expr items) × (tree_of l ≡ tree_at cells count i)
    typed : class_at cells i ≡ a_link → class_at cells (first_at cells i) ≡ a_type → (l : Ty items) × (tree_of_type l ≡ tree_at cells count i)

  module _ (i : ℕ) (below : (o : ℕ) → Within count i o → Made o) where
    none_at : (o : ℕ) → o ≡ 0 → none ≡ tree_at cells count o
    none_at o z = rw z (sym (tree_zero cells count))

    expr_at : (o : ℕ) → Fits cells count i (Required an_expression) o → AnExpr (tree_at cells count o)
    expr_at o f = (below o f.0).expr f.1

    type_at : (o : ℕ) → Fits cells count i (Required a_type) o → AType (tree_at cells count o)
    type_at o f = (below o f.0).type f.1

    list_at : (o : ℕ) → Fits cells count i (ListOf an_expression) o → (l : Expr list) × (tree_of l ≡ tree_at cells count o)
    list_at o (inl z) = (no_arguments, none_at o z)
    list_at o (inr f) = let d = (below o f.0).exprs f.1 f.2 in (arguments d.0, d.1)

    types_at : (o : ℕ) → Fits cells count i (ListOf a_type) o → (l : Ty list) × (tree_of_type l ≡ tree_at cells count o)
    types_at o (inl z) = (no_types, none_at o z)
    types_at o (inr f) = let d = (below o f.0).typed f.1 f.2 in (types d.0, d.1)

    -- ---- a node, by its form: what stands at its places, and the parse tree that it is

    module _ (d s p q : ℕ) where
      abbrev here : ℕ → Tree
      here form = node (label_with form d s) (tree_at cells count p) (tree_at cells count q)

      abbrev Node : (Tree → Type 0) → ℕ → Type 0
      Node Is form = d ≤ highest_detail form → s ≤ highest_symbol form d → Fits cells count i (first_place form d) p → Fits cells count i (second_place form d) q → Is (here form)

      -- the node of a label that is known to be this one
      same_node : (form m y : ℕ) → m ≡ d → y ≡ s → node (label_with form m y) (tree_at cells count p) (tree_at cells count q) ≡ here form
      same_node form m y h k = ap₂ (λ n z. node (label_with form n z) (tree_at cells count p) (tree_at cells count q)) h k

      -- the node with no detail and no symbol
      bare_node : (form : ℕ) → d ≤ 0 → s ≤ 0 → node (label form 0) (tree_at cells count p) (tree_at cells count q) ≡ here form
      bare_node form h k = same_node form 0 0 (omega arith) (omega arith)

      -- ---- expressions

      closed : (x : Atom) (form y : ℕ) → tree_of (atom x) ≡ node (label_with form 0 y) none none → d ≤ 0 → y ≡ s → p ≡ 0 → q ≡ 0 → AnExpr (here form)
      closed x form y e h k u v = (atom x, e ∙ ap₂ (node (label_with form 0 y)) (none_at p u) (none_at q v) ∙ same_node form 0 y (omega arith) k)

      is_path : Node AnExpr expr_path
      unfolding highest_detail details highest_symbol symbols first_place first_places second_place second_places lookup pick
      is_path h k u v = closed (path s) expr_path s refl h refl u v

      is_lit : Node AnExpr expr_lit
      unfolding highest_detail details highest_symbol symbols first_place first_places second_place second_places lookup pick
      is_lit h k u v = closed (literal s) expr_lit s refl h refl u v

      is_struct : Node AnExpr expr_struct
      unfolding highest_detail details highest_symbol symbols first_place first_places second_place second_places lookup pick
      is_struct h k u v = closed structure expr_struct 0 refl h (omega arith) u v

      -- with one operand
      over : (wrap : Expr one → Expr one) (form m y : ℕ) → ((a : Expr one) → tree_of (wrap a) ≡ node (label_with form m y) (tree_of a) none) → m ≡ d → y ≡ s
          → Fits cells count i (Required an_expression) p → q ≡ 0 → AnExpr (here form)
      over wrap form m y e h k u v =
          let a = expr_at p u in
          (wrap a.0, e a.0 ∙ ap₂ (node (label_with form m y)) a.1 (none_at q v) ∙ same_node form m y h k)

      is_paren : Node AnExpr expr_paren
      unfolding highest_detail details highest_symbol symbols first_place first_places second_place second_places lookup pick
      is_paren h k u v = over paren expr_paren 0 0 (λ a. refl) (omega arith) (omega arith) u v

      is_try : Node AnExpr expr_try
      unfolding highest_detail details highest_symbol symbols first_place first_places second_place second_places lookup pick
      is_try h k u v = over try expr_try 0 0 (λ a. refl) (omega arith) (omega arith) u v

      is_await : Node AnExpr expr_await
      unfolding highest_detail details highest_symbol symbols first_place first_places second_place second_places lookup pick
      is_await h k u v = over (member awaited) expr_await 0 0 (λ a. refl) (omega arith) (omega arith) u v

      is_field : Node AnExpr expr_field
      unfolding highest_detail details highest_symbol symbols first_place first_places second_place second_places lookup pick
      is_field h k u v = go (up_to_one d h)
        where
          go : (0 ≡ d) ⊎ (1 ≡ d) → AnExpr (here expr_field)
          go (inl e) = over (member (by_name s)) expr_field 0 s (λ a. refl) e refl u v
          go (inr e) = over (member (by_number s)) expr_field 1 s (λ a. refl) e refl u v

      is_reference : Node AnExpr expr_reference
      unfolding highest_detail details highest_symbol symbols first_place first_places second_place second_places lookup pick
      is_reference h k u v = go (up_to_one d h)
        where
          go : (0 ≡ d) ⊎ (1 ≡ d) → AnExpr (here expr_reference)
          go (inl e) = over (prefix ref) expr_reference 0 0 (λ a. refl) e (omega arith) u v
          go (inr e) = over (prefix ref_mut) expr_reference 1 0 (λ a. refl) e (omega arith) u v

      is_unary : Node AnExpr expr_unary
      unfolding highest_detail details highest_symbol symbols first_place first_places second_place second_places lookup pick
      is_unary h k u v = go (up_to_two d h)
        where
          go : (0 ≡ d) ⊎ ((1 ≡ d) ⊎ (2 ≡ d)) → AnExpr (here expr_unary)
          go (inl e) = over (prefix deref) expr_unary 0 0 (λ a. refl) e (omega arith) u v
          go (inr (inl e)) = over (prefix invert) expr_unary 1 0 (λ a. refl) e (omega arith) u v
          go (inr (inr e)) = over (prefix neg) expr_unary 2 0 (λ a. refl) e (omega arith) u v

      -- with two
      between : (o : Operator) (form m : ℕ) → operator_label o ≡ label form m → m ≡ d → s ≤ 0
          → Fits cells count i (Required an_expression) p → Fits cells count i (Required an_expression) q → AnExpr (here form)
      between o form m e h k u v =
          let a = expr_at p u in
          let b = expr_at q v in
          (binary o a.0 b.0, ap (λ l. node l (tree_of a.0) (tree_of b.0)) e ∙ ap₂ (node (label form m)) a.1 b.1 ∙ same_node form m 0 h (omega arith))

      is_binary : Node AnExpr expr_binary
      unfolding highest_detail details highest_symbol symbols first_place first_places second_place second_places lookup pick operator_label
      is_binary h k u v =
          let n = number_operator d (omega arith) in
          between (operator_of d) expr_binary (number (operator_of d)) (pick_false _ _ (ne_eqb (number (operator_of d)) (number assign) (λ e. omega arith))) n k u v

      is_assign : Node AnExpr expr_assign
      unfolding highest_detail details highest_symbol symbols first_place first_places second_place second_places lookup pick operator_label
      is_assign h k u v = between assign expr_assign 0 refl (omega arith) k u v

      is_index : Node AnExpr expr_index
      unfolding highest_detail details highest_symbol symbols first_place first_places second_place second_places lookup pick
      is_index h k u v =
          let a = expr_at p u in
          let b = expr_at q v in
          (index a.0 b.0, ap₂ (node (label expr_index 0)) a.1 b.1 ∙ bare_node expr_index h k)

      is_cast : Node AnExpr expr_cast
      unfolding highest_detail details highest_symbol symbols first_place first_places second_place second_places lookup pick
      is_cast h k u v =
          let a = expr_at p u in
          let b = type_at q v in
          (cast a.0 b.0, ap₂ (node (label expr_cast 0)) a.1 b.1 ∙ bare_node expr_cast h k)

      is_call : Node AnExpr expr_call
      unfolding highest_detail details highest_symbol symbols first_place first_places second_place second_places lookup pick
      is_call h k u v =
          let a = expr_at p u in
          let b = list_at q v in
          (call a.0 b.0, ap₂ (node (label expr_call 0)) a.1 b.1 ∙ bare_node expr_call h k)

      is_method : Node AnExpr expr_method_call
      unfolding highest_detail details highest_symbol symbols first_place first_places second_place second_places lookup pick
      is_method h k u v =
          let a = expr_at p u in
          let b = list_at q v in
          (method s a.0 b.0, ap₂ (node (label_with expr_method_call 0 s)) a.1 b.1 ∙ same_node expr_method_call 0 s (omega arith) refl)

      expression : (form : ℕ) → is_one_of plain_expressions form ≡ true → Node AnExpr form
      expression form e =
          one_of (Node AnExpr) plain_expressions form
          (is_path, (is_lit, (is_paren, (is_unary, (is_reference, (is_binary, (is_assign, (is_cast, (is_field, (is_index, (is_call, (is_method, (is_try, (is_await, (is_struct, tt)))))))))))))))
          e

      -- ---- types

      alone : (t : Ty one) (form m y : ℕ) → tree_of_type t ≡ node (label_with form m y) none none → m ≡ d → y ≡ s → p ≡ 0 → q ≡ 0 → AType (here form)
      alone t form m y e h k u v = (t, e ∙ ap₂ (node (label_with form m y)) (none_at p u) (none_at q v) ∙ same_node form m y h k)

      is_infer : Node AType type_infer
      unfolding highest_detail details highest_symbol symbols first_place first_places second_place second_places lookup pick
      is_infer h k u v = alone (sign infer) type_infer 0 0 refl (omega arith) (omega arith) u v

      is_never : Node AType type_never
      unfolding highest_detail details highest_symbol symbols first_place first_places second_place second_places lookup pick
      is_never h k u v = alone (sign never) type_never 0 0 refl (omega arith) (omega arith) u v

      to : (y : TypePrefix) (form m : ℕ) → ((t : Ty one) → tree_of_type (pointing y t) ≡ node (label form m) (tree_of_type t) none) → m ≡ d → s ≤ 0
          → Fits cells count i (Required a_type) p → q ≡ 0 → AType (here form)
      to y form m e h k u v =
          let t = type_at p u in
          (pointing y t.0, e t.0 ∙ ap₂ (node (label form m)) t.1 (none_at q v) ∙ same_node form m 0 h (omega arith))

      is_ptr : Node AType type_ptr
      unfolding highest_detail details highest_symbol symbols first_place first_places second_place second_places lookup pick
      is_ptr h k u v = go (up_to_one d h)
        where
          go : (0 ≡ d) ⊎ (1 ≡ d) → AType (here type_ptr)
          go (inl e) = to const_ptr type_ptr 0 (λ t. refl) e k u v
          go (inr e) = to mut_ptr type_ptr 1 (λ t. refl) e k u v

      is_type_reference : Node AType type_reference
      unfolding highest_detail details highest_symbol symbols first_place first_places second_place second_places lookup pick
      is_type_reference h k u v = go (up_to_one d h)
        where
          go : (0 ≡ d) ⊎ (1 ≡ d) → AType (here type_reference)
          go (inl e) = to shared_ref type_reference 0 (λ t. refl) e k u v
          go (inr e) = to mut_ref type_reference 1 (λ t. refl) e k u v

      -- a path without arguments, and one with them
      path_one : 1 ≡ d → Fits cells count i (first_place type_path 1) p → Fits cells count i (second_place type_path 1) q → AType (here type_path)
      unfolding first_place first_places second_place second_places lookup pick
      path_one z u v = alone (named s) type_path 1 s refl z refl u v

      path_two : 2 ≡ d → Fits cells count i (first_place type_path 2) p → Fits cells count i (second_place type_path 2) q → AType (here type_path)
      unfolding first_place first_places second_place second_places lookup pick
      path_two z u v =
          let l = types_at q v in
          (applied s l.0, ap₂ (node (label_with type_path 2 s)) (none_at p u) l.1 ∙ same_node type_path 2 s z refl)

      -- "Path (1 or 2)"
      is_type_path : is_one_of (1 ∷ 2 ∷ []) d ≡ true → Node AType type_path
      is_type_path e h k u v =
          one_of (λ n. n ≡ d → AType (here type_path)) (1 ∷ 2 ∷ []) d ((λ z. path_one z (subst (λ n. Fits cells count i (first_place type_path n) p) (sym z) u) (subst (λ n. Fits cells count i (second_place type_path n) q) (sym z) v)), ((λ z. path_two z (subst (λ n. Fits cells count i (first_place type_path n) p) (sym z) u) (subst (λ n. Fits cells count i (second_place type_path n) q) (sym z) v)), tt)) e refl

      typed_form : (form : ℕ) → class_of form ≡ a_type → is_one_of plain_types form ≡ true → Node AType form
      unfolding class_of pick
      typed_form form c e =
          one_of (λ f. class_of f ≡ a_type → Node AType f) plain_types form
          ((λ c. is_ptr), ((λ c. is_type_reference), ((λ c. is_infer), ((λ c. is_never), ((λ c. absurd (omega arith)), tt)))))
          e c

      -- ---- links

      is_link : (l : Expr one) → tree_of l ≡ tree_at cells count p → d ≤ 0 → s ≤ 0
          → ((q ≡ 0) ⊎ ((more : Expr items) × (tree_of more ≡ tree_at cells count q))) → (m : Expr items) × (tree_of m ≡ here link)
      is_link a e h k (inl z) = (last_argument false a, ap₂ (node (label link 0)) e (none_at q z) ∙ bare_node link h k)
      is_link a e h k (inr l) = (more_arguments a l.0, ap₂ (node (label link 0)) e l.1 ∙ bare_node link h k)

      is_type_link : (t : Ty one) → tree_of_type t ≡ tree_at cells count p → d ≤ 0 → s ≤ 0
          → ((q ≡ 0) ⊎ ((more : Ty items) × (tree_of_type more ≡ tree_at cells count q))) → (m : Ty items) × (tree_of_type m ≡ here link)
      is_type_link a e h k (inl z) = (last_type false a, ap₂ (node (label link 0)) e (none_at q z) ∙ bare_node link h k)
      is_type_link a e h k (inr l) = (more_types a l.0, ap₂ (node (label link 0)) e l.1 ∙ bare_node link h k)

-- ---- the forms of plain nodes, by class

expression_class : (form : ℕ) → is_one_of plain_expressions form ≡ true → class_of form ≡ an_expression
unfolding class_of pick
expression_class form e =
    one_of (λ f. class_of f ≡ an_expression) plain_expressions form
    (refl, (refl, (refl, (refl, (refl, (refl, (refl, (refl, (refl, (refl, (refl, (refl, (refl, (refl, (refl, tt)))))))))))))))
    e

-- a type is one of the listed, or a path; a link is a link
types_class : (form : ℕ) → is_one_of plain_types form ≡ true → (class_of form ≡ a_type) ⊎ (form ≡ link)
unfolding class_of pick
types_class form e = one_of (λ f. (class_of f ≡ a_type) ⊎ (f ≡ link)) plain_types form (inl refl, (inl refl, (inl refl, (inl refl, (inr refl, tt))))) e

link_class : (form : ℕ) → form ≡ link → class_of form ≡ a_link
unfolding class_of pick
link_class form e = rw e

path_class : (form : ℕ) → form ≡ type_path → class_of form ≡ a_type
unfolding class_of pick
path_class form e = rw e

data PlainForm (l : Label) : Type 0 where
  expression_form : is_one_of plain_expressions l.form ≡ true → PlainForm l
  type_form : is_one_of plain_types l.form ≡ true → PlainForm l
  a_path : l.form ≡ type_path → is_one_of (1 ∷ 2 ∷ []) l.detail ≡ true → PlainForm l

plain_form : (l : Label) → is_plain l ≡ true → (l.attributes ≡ 0) × PlainForm l
unfolding is_plain
plain_form l e =
    let d = and_true (eqb l.attributes 0) _ e in
    (eqb-true l.attributes 0 d.0, go (is_one_of plain_expressions l.form) (is_one_of plain_types l.form) refl refl d.1)
  where
    go : (a b : Bool) → is_one_of plain_expressions l.form ≡ a → is_one_of plain_types l.form ≡ b
        → a || (b || (eqb l.form type_path && is_one_of (1 ∷ 2 ∷ []) l.detail)) ≡ true → PlainForm l
    go true b p q h = expression_form p
    go false true p q h = type_form q
    go false false p q h = let k = and_true (eqb l.form type_path) _ h in a_path (eqb-true l.form type_path k.0) k.1

-- ---- every node of an accepted plain table

flip : (b : Bool) → not b ≡ true → b ≡ false
flip true h = true_not_false (sym h)
flip false h = refl

module _ (context count : ℕ) (cells : List ℕ) (ok : Accepted context count cells) (plain : plain_table count cells ≡ true) where
  node_plain : (i : ℕ) → 1 ≤ i → i ≤ count → is_plain (label_at cells i) ≡ true
  unfolding plain_table
  node_plain i low high = not-false _ (some_none (λ i. not (is_plain (label_at cells i))) count (flip _ plain) i low high)

  module _ (i : ℕ) (low : 1 ≤ i) (high : i ≤ count) (below : (o : ℕ) → Within count i o → Made cells count o) where
    abbrev p : ℕ
    p = first_at cells i

    abbrev q : ℕ
    q = second_at cells i

    plain_node : PlainForm (label_at cells i)
    plain_node = (plain_form (label_at cells i) (node_plain i low high)).1

    -- the tree at a plain node
    tree_is : node (label_with (form_at cells i) (detail_at cells i) (symbol_at cells i)) (tree_at cells count p) (tree_at cells count q) ≡ tree_at cells count i
    unfolding label_at
    tree_is =
        let a : attributes_at cells i ≡ 0 = (plain_form (label_at cells i) (node_plain i low high)).0 in
        sym (unfolds cells count i low high
        ∙ rw (first_operand context count cells ok i low high, second_operand context count cells ok i low high, a))

    numbers_most : (leb (detail_at cells i) (highest_detail (form_at cells i)) ≡ true) × (leb (symbol_at cells i) (highest_symbol (form_at cells i) (detail_at cells i)) ≡ true)
    unfolding allowed
    numbers_most =
        let d = and_true (not (eqb (class_at cells i) 0)) _ (numbers_allowed context count cells ok i low high) in
        and_true (leb (detail_at cells i) (highest_detail (form_at cells i))) _ (and_true (leb (attributes_at cells i) (highest_attributes (form_at cells i))) _ d.1).1

    detail_most : detail_at cells i ≤ highest_detail (form_at cells i)
    detail_most = leb-true (detail_at cells i) (highest_detail (form_at cells i)) numbers_most.0

    symbol_most : symbol_at cells i ≤ highest_symbol (form_at cells i) (detail_at cells i)
    symbol_most = leb-true (symbol_at cells i) (highest_symbol (form_at cells i) (detail_at cells i)) numbers_most.1

    one_first : Fits cells count i (first_place (form_at cells i) (detail_at cells i)) p
    one_first = first_fits context count cells ok i low high

    one_second : Fits cells count i (second_place (form_at cells i) (detail_at cells i)) q
    one_second = second_fits context count cells ok i low high

    -- a form of one class is of no other
    not_expression : {A : Type 0} → (class_at cells i ≡ an_expression → ⊥) → is_one_of plain_expressions (form_at cells i) ≡ true → A
    not_expression h e = absurd (h (expression_class (form_at cells i) e))

    made_expr : class_at cells i ≡ an_expression → AnExpr cells count (tree_at cells count i)
    unfolding label_at
    made_expr c = go plain_node
      where
        go : PlainForm (label_at cells i) → AnExpr cells count (tree_at cells count i)
        go (expression_form e) =
            subst (AnExpr cells count) tree_is (expression cells count i below (detail_at cells i) (symbol_at cells i) p q (form_at cells i) e detail_most symbol_most one_first one_second)
        go (type_form e) = absurd (other (types_class (form_at cells i) e))
          where
            other : (class_of (form_at cells i) ≡ a_type) ⊎ (form_at cells i ≡ link) → ⊥
            other (inl k) = omega arith
            other (inr k) = let z = link_class (form_at cells i) k in omega arith
        go (a_path e k) = absurd (let z = path_class (form_at cells i) e in omega arith)

    made_type : class_at cells i ≡ a_type → AType cells count (tree_at cells count i)
    unfolding label_at
    made_type c = go plain_node
      where
        go : PlainForm (label_at cells i) → AType cells count (tree_at cells count i)
        go (expression_form e) = not_expression (λ k. omega arith) e
        go (type_form e) = subst (AType cells count) tree_is (typed_form cells count i below (detail_at cells i) (symbol_at cells i) p q (form_at cells i) c e detail_most symbol_most one_first one_second)
        go (a_path e k) =
            subst (AType cells count) tree_is
            (subst (Node cells count i below (detail_at cells i) (symbol_at cells i) p q (AType cells count)) (sym e) (is_type_path cells count i below (detail_at cells i) (symbol_at cells i) p q k) detail_most symbol_most one_first one_second)

    link_form : class_at cells i ≡ a_link → form_at cells i ≡ link
    unfolding label_at
    link_form c = go plain_node
      where
        go : PlainForm (label_at cells i) → form_at cells i ≡ link
        go (expression_form e) = not_expression (λ k. omega arith) e
        go (type_form e) = other (types_class (form_at cells i) e)
          where
            other : (class_of (form_at cells i) ≡ a_type) ⊎ (form_at cells i ≡ link) → form_at cells i ≡ link
            other (inl k) = absurd (omega arith)
            other (inr k) = k
        go (a_path e k) = absurd (let z = path_class (form_at cells i) e in omega arith)

    -- what a link holds
    record Linked : Type 0 where
      no_detail : detail_at cells i ≤ 0
      no_symbol : symbol_at cells i ≤ 0
      item : Fits cells count i Item p
      next : Fits cells count i Next q
      tree : node (label_with link (detail_at cells i) (symbol_at cells i)) (tree_at cells count p) (tree_at cells count q) ≡ tree_at cells count i

    linked : form_at cells i ≡ link → Linked
    unfolding highest_detail details highest_symbol symbols first_place first_places second_place second_places lookup pick
    linked e =
        record {
          no_detail = rw e at detail_most;
          no_symbol = rw e at symbol_most;
          item = subst (λ f. Fits cells count i (first_place f (detail_at cells i)) p) e one_first;
          next = subst (λ f. Fits cells count i (second_place f (detail_at cells i)) q) e one_second;
          tree = subst (λ f. node (label_with f (detail_at cells i) (symbol_at cells i)) (tree_at cells count p) (tree_at cells count q) ≡ tree_at cells count i) e tree_is;
        }

    made_exprs : class_at cells i ≡ a_link → class_at cells p ≡ an_expression → (l : Expr items) × (tree_of l ≡ tree_at cells count i)
    made_exprs c k =
        let w = linked (link_form c) in
        let a = (below p w.item.0).expr k in
        let l = is_link cells count i below (detail_at cells i) (symbol_at cells i) p q a.0 a.1 w.no_detail w.no_symbol (more w.next) in
        (l.0, l.1 ∙ w.tree)
      where
        more : Fits cells count i Next q → (q ≡ 0) ⊎ ((l : Expr items) × (tree_of l ≡ tree_at cells count q))
        more (inl z) = inl z
        more (inr f) = inr ((below q f.0).exprs f.1 (f.2 ∙ k))

    made_typed : class_at cells i ≡ a_link → class_at cells p ≡ a_type → (l : Ty items) × (tree_of_type l ≡ tree_at cells count i)
    made_typed c k =
        let w = linked (link_form c) in
        let a = (below p w.item.0).type k in
        let l = is_type_link cells count i below (detail_at cells i) (symbol_at cells i) p q a.0 a.1 w.no_detail w.no_symbol (more w.next) in
        (l.0, l.1 ∙ w.tree)
      where
        more : Fits cells count i Next q → (q ≡ 0) ⊎ ((l : Ty items) × (tree_of_type l ≡ tree_at cells count q))
        more (inl z) = inl z
        more (inr f) = inr ((below q f.0).typed f.1 (f.2 ∙ k))

    made_here : Made cells count i
    made_here = record { expr = made_expr; type = made_type; exprs = made_exprs; typed = made_typed }

  made : (n i : ℕ) → count < n + i → 1 ≤ i → i ≤ count → Made cells count i
  made zero i h low high = absurd (omega arith)
  made (suc n) i h low high = made_here i low high (λ o w. made n o (let l = w.0 in omega arith) (let l = w.0 in omega arith) w.1)

  -- The tree of an accepted plain table is that of a parse tree.
  pub from_table : (e : Expr one) × (tree_of e ≡ tree_at cells count 1)
  from_table =
      let k = count_bounds context count cells ok in
      (made count 1 (omega arith) (omega arith) k.0).expr (root_expression context count cells ok)
