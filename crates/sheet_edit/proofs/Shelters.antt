-- Rows that an edit elsewhere leaves as they are. Assumes nothing.
use mathlib.Core.Path.{◌≡◌, refl, sym, ◌∙◌}
use mathlib.Core.Bool.{Bool, true, false, ◌||◌}
use mathlib.Core.List.{List, [], ◌∷◌}
use Prim.Native.Nat.{ℕ, ◌≤◌}
use native.Mathlib.Omega.{arith}
use lib.Dec.{eqb}
use borrow.Author.Tests.{eqb-true, ne_eqb}
use Rattle.laws.specs.Choice.{pick, lookup}
use Rattle.laws.proofs.Choice.{true_not_false}
use Rattle.tree.specs.Forms.{expr_index, expr_paren, link}
use Rattle.tree.specs.Table.{first_column, second_column}
use Rattle.tree.specs.Trees.{Label, Tree, none, node, operand_at, tree_at}
use Rattle.tree.specs.Walks.{is_there}
use Rattle.tree.proofs.Unfold.{operand_most, unfolds}
use Rattle.fixup.specs.declared.context.FixupContext.{FixupContext}
use Rattle.fixup.specs.Contexts.{none_context}
use Rattle.expr.specs.declared.Handed.{Handed}
use Rattle.expr.specs.declared.order.CalleeOrder.{CalleeOrder}
use Rattle.expr.specs.Handed.{ungrouped, neither}
use Rattle.expr.specs.Expr.{hands_first, hands_second}
use Rattle.row.specs.Rows.{is_expression, outer_pair, row_of, own_context, present, rows_of}
use Rattle.tree_rules.specs.Refusals.{Accepted}
use Rattle.tree_rules.proofs.Accepted.{count_bounds}
use Rattle.row_walk.specs.Walk.{root_handed, context_numbered, contexts}
use Rattle.row_walk.specs.Paths.{Branch, first, second, number_at, tree_by, handed_by}
use Rattle.row_walk.proofs.Local.{index_handed, item_handed, paren_handed, outer_local}
use Rattle.row_walk.proofs.Paths.{tree_at_lem, one_path}
use Rattle.tree_numbering.specs.Replaced.{replaced}
use Rattle.sheet_edit.specs.Edits.{refusal17, Edit, result}
use Rattle.sheet_edit.specs.Shelters.{shelters, passes, sheltered}
use Rattle.sheet_edit.proofs.Replaced.{node_here, named_here}

-- ---- what stands in NONE and is tested by nobody has the rows of its own tree

or_true : {A : Type 0} (a b : Bool) → (a || b) ≡ true → (a ≡ true → A) → (b ≡ true → A) → A
or_true true b e f g = f refl
or_true false b e f g = g e

module _ (l : Label) (a b : Tree) (x : FixupContext) where
  hands_first_lem : (order : CalleeOrder) → shelters l first ≡ true → hands_first order x (node l a b) ≡ neither none_context a
  hands_first_lem order e =
      or_true (eqb expr_paren l.form) _ e
      (λ p. paren_handed l a b x order (sym (eqb-true expr_paren l.form p)))
      (λ q. or_true (eqb link l.form) false q (λ p. item_handed l a b x order (sym (eqb-true link l.form p))) (λ p. true_not_false (sym p)))

  hands_second_lem : shelters l second ≡ true → hands_second x (node l a b) ≡ neither none_context b
  hands_second_lem e = index_handed l a b x (eqb-true l.form expr_index e)

-- "printed in NONE and tested by nobody" is what the root of a tree in context 0 is
root_none : (t : Tree) → root_handed 0 t ≡ neither none_context t
unfolding context_numbered contexts lookup pick
root_none t = refl

module _ (order : CalleeOrder) (h : Handed) (l : Label) (a b : Tree) where
  pub first_local : shelters l first ≡ true → rows_of order h (node l a b) ≡ present (row_of h (node l a b)) (rows_of order (root_handed 0 a) a) (rows_of order (hands_second (own_context h (node l a b)) (node l a b)) b)
  unfolding rows_of
  first_local e = rw (hands_first_lem l a b (own_context h (node l a b)) order e, root_none a)

  pub second_local : shelters l second ≡ true → rows_of order h (node l a b) ≡ present (row_of h (node l a b)) (rows_of order (hands_first order (own_context h (node l a b)) (node l a b)) a) (rows_of order (root_handed 0 b) b)
  unfolding rows_of
  second_local e = rw (hands_second_lem l a b (own_context h (node l a b)) e, root_none b)

-- the root of a tree in context 0 is printed in NONE, whether it has a pair or not
none_own : (t : Tree) → own_context (root_handed 0 t) t ≡ none_context
unfolding own_context neither ungrouped context_numbered contexts lookup pick
none_own t = go (is_expression t) (outer_pair (root_handed 0 t) t)
  where
    go : (x y : Bool) → pick x (pick y none_context none_context) none_context ≡ none_context
    go true true = refl
    go true false = refl
    go false y = refl

-- so that what stands below an outer pair has the rows that it has where the pair's expression is a tree of its own in context 0
pub pair_local : (order : CalleeOrder) (h : Handed) (l : Label) (a b : Tree) → is_expression (node l a b) ≡ true → outer_pair h (node l a b) ≡ true
    → (rows_of order h (node l a b) ≡ present (row_of h (node l a b)) (rows_of order (hands_first order none_context (node l a b)) a) (rows_of order (hands_second none_context (node l a b)) b))
    × (rows_of order (root_handed 0 (node l a b)) (node l a b) ≡ present (row_of (root_handed 0 (node l a b)) (node l a b)) (rows_of order (hands_first order none_context (node l a b)) a) (rows_of order (hands_second none_context (node l a b)) b))
unfolding rows_of
pair_local order h l a b e o = (outer_local h l a b order e o, rw (none_own (node l a b)))

-- the step at which a path enters an operand, where the operand's owner and what it is handed may differ
enter_first : (order : CalleeOrder) (l : Label) (a b d : Tree) (x y : FixupContext) (q : List Branch) → (shelters l first || passes a q) ≡ true
    → ((h k : Handed) → passes a q ≡ true → handed_by order h a q ≡ handed_by order k a q)
    → handed_by order (hands_first order x (node l a b)) a q ≡ handed_by order (hands_first order y (node l a d)) a q
enter_first order l a b d x y q e below =
    or_true (shelters l first) (passes a q) e
    (λ s. rw (hands_first_lem l a b x order s, hands_first_lem l a d y order s))
    (λ p. below _ _ p)

enter_second : (order : CalleeOrder) (l : Label) (a b c : Tree) (x y : FixupContext) (q : List Branch) → (shelters l second || passes b q) ≡ true
    → ((h k : Handed) → passes b q ≡ true → handed_by order h b q ≡ handed_by order k b q)
    → handed_by order (hands_second x (node l a b)) b q ≡ handed_by order (hands_second y (node l c b)) b q
enter_second order l a b c x y q e below =
    or_true (shelters l second) (passes b q) e
    (λ s. rw (hands_second_lem l a b x s, hands_second_lem l c b y s))
    (λ p. below _ _ p)

passes_handed : (order : CalleeOrder) (t : Tree) (q : List Branch) (h k : Handed) → passes t q ≡ true → handed_by order h t q ≡ handed_by order k t q
passes_handed order t [] h k e = true_not_false (sym e)
passes_handed order none (s ∷ q) h k e = true_not_false (sym e)
passes_handed order (node l a b) (first ∷ q) h k e = enter_first order l a b b _ _ q e (passes_handed order a q)
passes_handed order (node l a b) (second ∷ q) h k e = enter_second order l a b a _ _ q e (passes_handed order b q)

-- ---- what is replaced elsewhere

-- the tree at a path, and what it is handed, are the same in two trees
pub record Same (order : CalleeOrder) (h k : Handed) (t u : Tree) (q : List Branch) : Type 0 where
  pub tree : tree_by t q ≡ tree_by u q
  pub handed : handed_by order h t q ≡ handed_by order k u q

module _ (cells : List ℕ) (count j : ℕ) (s : Tree) where
  -- where no path leads to j, nothing is replaced
  pub nowhere : (t : Tree) (i : ℕ) → tree_at cells count i ≡ t → ((r : List Branch) → number_at cells count i r ≡ j → ⊥) → replaced cells count j s i t ≡ t
  unfolding replaced pick
  nowhere none i e n = refl
  nowhere (node l a b) i e n =
      let w = node_here cells count i l a b e in
      rw (
        ne_eqb i j (n []),
        nowhere a (operand_at cells count i first_column) w.one (λ r. n (first ∷ r)),
        nowhere b (operand_at cells count i second_column) w.two (λ r. n (second ∷ r)),
      )

  module _ (context : ℕ) (ok : Accepted context count cells) (there : 1 ≤ j) where
    pub one : (i : ℕ) (p q : List Branch) → 1 ≤ i → i ≤ count → number_at cells count i p ≡ j → number_at cells count i q ≡ j → p ≡ q
    one i p q low high e f = one_path cells count context ok i p q low high (rw e there) (e ∙ sym f)

    pub differ : {A : Type 0} (p q : List Branch) → (first ∷ p) ≡ (second ∷ q) → A
    differ p q e = absurd (let z : ◌≡◌ {A = ℕ} 0 1 = cc in omega arith)

    pub here : {A : Type 0} (r : Branch) (p : List Branch) → [] ≡ (r ∷ p) → A
    here r p e = absurd (let z : ◌≡◌ {A = ℕ} 0 1 = cc in omega arith)

    -- a node on the way, not yet the place
    opened : (l : Label) (a b : Tree) (i : ℕ) (r : Branch) (p : List Branch) → 1 ≤ i → i ≤ count → number_at cells count i (r ∷ p) ≡ j
        → replaced cells count j s i (node l a b) ≡ node l (replaced cells count j s (operand_at cells count i first_column) a) (replaced cells count j s (operand_at cells count i second_column) b)
    unfolding replaced pick
    opened l a b i r p low high at = rw (ne_eqb i j (λ z. here r p (one i [] (r ∷ p) low high z at)))

    same_there : (order : CalleeOrder) (t : Tree) (i : ℕ) (p q : List Branch) (h k : Handed) → tree_at cells count i ≡ t → number_at cells count i p ≡ j → sheltered t p q ≡ true
        → Same order h k t (replaced cells count j s i t) q
    same_there order t i [] q h k e at o = true_not_false (sym o)
    same_there order t i (r ∷ p) [] h k e at o = true_not_false (sym o)
    same_there order none i (r ∷ p) (r2 ∷ q) h k e at o = true_not_false (sym o)
    same_there order (node l a b) i (first ∷ p) (first ∷ q) h k e at o =
        let w = node_here cells count i l a b e in
        rw (opened l a b i first p w.low w.high at)
        (let d = same_there order a (operand_at cells count i first_column) p q _ _ w.one at o in record { tree = d.tree; handed = d.handed })
    same_there order (node l a b) i (second ∷ p) (second ∷ q) h k e at o =
        let w = node_here cells count i l a b e in
        rw (opened l a b i second p w.low w.high at)
        (let d = same_there order b (operand_at cells count i second_column) p q _ _ w.two at o in record { tree = d.tree; handed = d.handed })
    same_there order (node l a b) i (first ∷ p) (second ∷ q) h k e at o =
        let w = node_here cells count i l a b e in
        rw (opened l a b i first p w.low w.high at, nowhere b (operand_at cells count i second_column) w.two (λ r z. differ p r (one i (first ∷ p) (second ∷ r) w.low w.high at z)))
        (record { tree = refl; handed = enter_second order l a b _ _ _ q o (passes_handed order b q) })
    same_there order (node l a b) i (second ∷ p) (first ∷ q) h k e at o =
        let w = node_here cells count i l a b e in
        rw (opened l a b i second p w.low w.high at, nowhere a (operand_at cells count i first_column) w.one (λ r z. differ r p (sym (one i (second ∷ p) (first ∷ r) w.low w.high at z))))
        (record { tree = refl; handed = enter_first order l a b _ _ _ q o (passes_handed order a q) })

-- ---- before and after

number_most : (cells : List ℕ) (count i : ℕ) (q : List Branch) → i ≤ count → number_at cells count i q ≤ count
number_most cells count i [] h = h
number_most cells count i (first ∷ q) h = number_most cells count (operand_at cells count i first_column) q (operand_most count i _)
number_most cells count i (second ∷ q) h = number_most cells count (operand_at cells count i second_column) q (operand_most count i _)

module _ (e : Edit) (sheet : Accepted e.context e.count e.cells) (named : refusal17 e.cells e.count e.place ≡ false) where
  -- at a path of the sheet that passes an index, an item of a list or the content of a Paren that does not contain the edited place
  pub stays : (order : CalleeOrder) (p q : List Branch) → number_at e.cells e.count 1 p ≡ e.place → sheltered (tree_at e.cells e.count 1) p q ≡ true
      → Same order (root_handed e.context (tree_at e.cells e.count 1)) (root_handed e.context (result e)) (tree_at e.cells e.count 1) (result e) q
  stays order p q at o = same_there e.cells e.count e.place (tree_at e.second e.second_count 1) e.context sheet (named_here e.cells e.count e.place named).0 order (tree_at e.cells e.count 1) 1 p q _ _ refl at o

  pub stands : (q : List Branch) → 1 ≤ number_at e.cells e.count 1 q → is_there (tree_by (tree_at e.cells e.count 1) q) ≡ true
  stands q there =
      let k = (count_bounds e.context e.count e.cells sheet).0 in
      let m = number_most e.cells e.count 1 q k in
      rw (← tree_at_lem e.cells e.count 1 q (omega arith) k there, unfolds e.cells e.count (number_at e.cells e.count 1 q) there m)
