-- The rows of the two callee orders differ at the callees of the two cases and below them, and nowhere else. Assumes nothing.
use mathlib.Core.Path.{◌≡◌, refl, sym, ap, ◌∙◌}
use mathlib.Core.Bool.{Bool, true, false, not, ◌&&◌, ◌||◌}
use mathlib.Core.List.{List, [], ◌∷◌, ◌++◌}
use Prim.Native.Nat.{ℕ}
use native.Mathlib.Omega.{arith}
use lib.Dec.{eqb}
use borrow.Author.Tests.{eq-eqb, eqb-true}
use Rattle.laws.specs.Choice.{pick, lookup}
use Rattle.laws.proofs.Choice.{true_not_false, and_true, or_false}
use Rattle.tree.specs.Forms.{expr_call}
use Rattle.tree.specs.Trees.{Label, Tree, none, node, tree_at}
use Rattle.tree_rules.proofs.Accepted.{count_bounds}
use Rattle.precedence.specs.declared.Precedence.TheVariants.{Unambiguous}
use Rattle.fixup.specs.declared.context.FixupContext.{FixupContext}
use Rattle.fixup.specs.Contexts.{none_context}
use Rattle.fixup.specs.Fixup.{parenthesize}
use Rattle.fixup_scan.specs.Scans.{leftmost_precedence}
use Rattle.fixup_subexpression.specs.Subexpressions.{leftmost_with_operator}
use Rattle.expr.specs.declared.Handed.{Handed}
use Rattle.expr.specs.declared.order.CalleeOrder.{CalleeOrder}
use Rattle.expr.specs.declared.order.CalleeOrder.TheVariants.{Crates, Ours}
use Rattle.expr.specs.Handed.{grouped_by}
use Rattle.expr.specs.Expr.{named_field, call_needs_group, first_lines, hands_first}
use Rattle.row.specs.declared.Row.{Row}
use Rattle.row.specs.Rows.{outer_pair, inner_pair, pair_by, expression_row, is_expression, row_of, own_context}
use Rattle.row_walk.specs.Walk.{contexts, context_numbered, root_handed}
use Rattle.row_walk.specs.Paths.{Branch, first, second, number_at, tree_by, handed_by, row_in}
use Rattle.row_walk.proofs.Replies.{walked}
use Rattle.row_walk.proofs.Paths.{row_on_path}
use Rattle.row_walk.proofs.Decisions.{row_expression, own_outer, own_alone}
use Rattle.row_orders.specs.Statement.{changed_callee, changed_call, below, row_at, paired, Differs, Callee, OrdersDiffer}
use Rattle.row_orders.proofs.Callees.{calling, tested, tests, Looks, looks, or_swap, group_named}

or_off : (b : Bool) → b || false ≡ b
or_off true = refl
or_off false = refl

-- ---- what a Call hands to its callee

module _ (x : FixupContext) (l : Label) (a b : Tree) where
  abbrev here : Tree
  here = node l a b

  abbrev given : CalleeOrder → Handed
  given order = grouped_by (leftmost_with_operator x a true false Unambiguous) (call_needs_group order a)

  hands_call : (order : CalleeOrder) → l.form ≡ expr_call → hands_first order x here ≡ given order
  unfolding hands_first first_lines lookup pick
  hands_call order e = rw e

  precedence_is : (order : CalleeOrder) → l.form ≡ expr_call → (hands_first order x here).precedence ≡ leftmost_precedence a (calling x)
  unfolding grouped_by
  precedence_is order e = rw (hands_call order e)

  fixup_is : (order : CalleeOrder) → l.form ≡ expr_call → (hands_first order x here).fixup ≡ calling x
  unfolding grouped_by
  fixup_is order e = rw (hands_call order e)

  given_outer : (order : CalleeOrder) → outer_pair (given order) a ≡ (tested x order a || parenthesize (calling x) a)
  unfolding outer_pair grouped_by
  given_outer order = refl

  pair_is : (order : CalleeOrder) → l.form ≡ expr_call → outer_pair (hands_first order x here) a ≡ (tested x order a || parenthesize (calling x) a)
  pair_is order e = rw (hands_call order e) (given_outer order)

  callee_of : l.form ≡ expr_call → Callee x l a b
  callee_of e =
      record {
        more = rw (pair_is Ours e, pair_is Crates e, (tests x a).more) (or_swap (tested x Crates a) (changed_callee a) (parenthesize (calling x) a));
        had_none = λ c. pair_is Crates e ∙ rw ((tests x a).had_none c, (looks x a c).no_outer);
        group = λ m c d at g. rw (pair_is Crates e) (joined (named_field a) (tested x Crates a) _ (rw at (group_named x m c d g)) (λ k. (looks x a k).no_outer));
      }
    where
      joined : (n w p : Bool) {c : Bool} → c ≡ (n && not w) → (c ≡ true → p ≡ false) → c ≡ (n && not (w || p))
      joined false w p e f = e
      joined true true p e f = e
      joined true false p e f = e ∙ sym (ap not (f e))

  -- where the callee is none of the two cases, and where there is no callee
  same_given : changed_callee a ≡ false → given Crates ≡ given Ours
  unfolding grouped_by
  same_given n = rw ((tests x a).more, n, or_off (tested x Crates a))

  same_hands : changed_call here ≡ false → hands_first Crates x here ≡ hands_first Ours x here
  unfolding hands_first first_lines lookup pick
  same_hands n = go (eqb expr_call l.form) refl
    where
      go : (c : Bool) → eqb expr_call l.form ≡ c → hands_first Crates x here ≡ hands_first Ours x here
      go true e =
          let f = sym (eqb-true expr_call l.form e) in
          hands_call Crates f ∙ same_given (rw (eq-eqb l.form expr_call f) at n) ∙ sym (hands_call Ours f)
      go false e = rw e

-- ---- paths

handed_same : (t : Tree) (p : List Branch) (h : Handed) → below t p ≡ false → handed_by Crates h t p ≡ handed_by Ours h t p
handed_same t [] h n = refl
handed_same none (s ∷ p) h n = refl
handed_same (node l a b) (first ∷ p) h n =
    let d = or_false (changed_call (node l a b)) (below a p) n in
    rw (same_hands (own_context h (node l a b)) l a b d.0) (handed_same a p _ d.1)
handed_same (node l a b) (second ∷ p) h n = handed_same b p _ n

-- a path that goes on
tree_on : (t : Tree) (q r : List Branch) → tree_by t (q ++ r) ≡ tree_by (tree_by t q) r
tree_on t [] r = refl
tree_on none (s ∷ q) [] = refl
tree_on none (s ∷ q) (z ∷ r) = refl
tree_on (node l a b) (first ∷ q) r = tree_on a q r
tree_on (node l a b) (second ∷ q) r = tree_on b q r

handed_on : (order : CalleeOrder) (t : Tree) (q r : List Branch) (h : Handed) → handed_by order h t (q ++ r) ≡ handed_by order (handed_by order h t q) (tree_by t q) r
handed_on order t [] r h = refl
handed_on order none (s ∷ q) [] h = refl
handed_on order none (s ∷ q) (z ∷ r) h = refl
handed_on order (node l a b) (first ∷ q) r h = handed_on order a q r _
handed_on order (node l a b) (second ∷ q) r h = handed_on order b q r _

-- ---- at a callee of the two cases

-- the row of a node that is handed h and has no inner pair
module _ (h : Handed) (t : Tree) (look : is_expression t ≡ true) (inner : inner_pair t ≡ false) where
  pair_in : (o : Bool) → outer_pair h t ≡ o → (row_of h t).pair ≡ pair_by o false
  unfolding expression_row
  pair_in o e = ap (λ (r : Row). r.pair) (sym (row_expression h t look)) ∙ rw (e, inner)

  row_paired : (k : Handed) → h.precedence ≡ k.precedence → h.fixup ≡ k.fixup → outer_pair h t ≡ true → row_of h t ≡ paired (row_of k t)
  unfolding expression_row
  row_paired k p f o = sym (row_expression h t look) ∙ rw (o, inner, p, f) (ap paired (row_expression k t look))

-- what stands below an outer pair is handed what it gets in a tree of its own in context 0
own_none : (t : Tree) → is_expression t ≡ true → none_context ≡ own_context (root_handed 0 t) t
unfolding context_numbered contexts lookup pick
own_none t look = own_alone t look

below_pair : (t : Tree) → is_expression t ≡ true → (h : Handed) → outer_pair h t ≡ true → (s : Branch) (r : List Branch) → handed_by Ours h t (s ∷ r) ≡ handed_by Ours (root_handed 0 t) t (s ∷ r)
below_pair none look h o s r = true_not_false (sym look)
below_pair (node l a b) look h o first r = rw (← own_outer h (node l a b) look o, ← own_none (node l a b) look)
below_pair (node l a b) look h o second r = rw (← own_outer h (node l a b) look o, ← own_none (node l a b) look)

module _ (context : ℕ) (t : Tree) (q : List Branch) where
  module _ (l : Label) (a b : Tree) (at : tree_by t q ≡ node l a b) (call : l.form ≡ expr_call) (changed : changed_callee a ≡ true) where
    abbrev own : CalleeOrder → FixupContext
    own order = own_context (handed_by order (root_handed context t) t q) (node l a b)

    abbrev to : CalleeOrder → Handed
    to order = hands_first order (own order) (node l a b)

    -- the row at a path from the callee on
    row_on : (order : CalleeOrder) (r : List Branch) → row_at order context t (q ++ (first ∷ r)) ≡ row_of (handed_by order (to order) a r) (tree_by a r)
    row_on order r = rw (tree_on t q (first ∷ r), handed_on order t q (first ∷ r) (root_handed context t), at)

    callee_at : tree_by t (q ++ (first ∷ [])) ≡ a
    callee_at = rw (tree_on t q (first ∷ []), at)

    pair_ours : outer_pair (to Ours) a ≡ true
    pair_ours = (callee_of (own Ours) l a b call).more ∙ rw ((callee_of (own Ours) l a b call).had_none changed, changed)

    look : Looks (own Ours) a
    look = looks (own Ours) a changed

    alike : below t q ≡ false → row_of (to Ours) a ≡ paired (row_of (to Crates) a)
    alike n =
        let same = handed_same t q (root_handed context t) n in
        row_paired (to Ours) a look.expression look.no_inner (to Crates)
        (rw same (precedence_is (own Ours) l a b Ours call ∙ sym (precedence_is (own Ours) l a b Crates call)))
        (rw same (fixup_is (own Ours) l a b Ours call ∙ sym (fixup_is (own Ours) l a b Crates call)))
        pair_ours

    differs_at : Differs context t q
    differs_at =
        record {
          had_none = ap (λ (r : Row). r.pair) (row_on Crates []) ∙ pair_in (to Crates) a look.expression look.no_inner false ((callee_of (own Crates) l a b call).had_none changed);
          has_one = ap (λ (r : Row). r.pair) (row_on Ours []) ∙ pair_in (to Ours) a look.expression look.no_inner true pair_ours;
          from_none = λ s r. row_on Ours (s ∷ r) ∙ rw callee_at (ap (λ (h : Handed). row_of h (tree_by a (s ∷ r))) (below_pair a look.expression (to Ours) pair_ours s r));
          only_pair = λ n. row_on Ours [] ∙ alike n ∙ sym (ap paired (row_on Crates []));
        }

  differs : (u : Tree) → tree_by t q ≡ u → changed_call u ≡ true → Differs context t q
  differs none at e = true_not_false (sym e)
  differs (node l a b) at e =
      let d = and_true (eqb l.form expr_call) (changed_callee a) e in
      differs_at l a b at (eqb-true l.form expr_call d.0) d.1

pub orders_differ : OrdersDiffer
orders_differ =
    record {
      elsewhere = λ context t p n. ap (λ (h : Handed). row_of h (tree_by t p)) (handed_same t p (root_handed context t) n);
      there = λ context t q e. differs context t q (tree_by t q) refl e;
      callees = callee_of;
      stored = λ order context count cells rows ok room p there.
          ap (λ (r : List ℕ). row_in r (number_at cells count 1 p)) (walked order context count cells rows ok room)
          ∙ row_on_path cells count context ok order 1 p (root_handed context (tree_at cells count 1)) rows (omega arith) (count_bounds context count cells ok).0 room there;
    }
