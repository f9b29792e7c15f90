-- The row of the node at a path is a function of the tree and the path, however the nodes are numbered. Assumes nothing.
use mathlib.Core.Path.{◌≡◌, refl, sym, subst, ap, ◌∙◌}
use mathlib.Core.Bool.{true, false}
use mathlib.Core.List.{List, [], ◌∷◌, ◌++◌}
use mathlib.Core.Logic.{◌⊎◌, inl, inr}
use Prim.Native.Nat.{ℕ, zero, suc, ◌+◌, ◌*◌, ◌-◌, ◌≤◌, ◌<◌}
use native.Mathlib.Omega.{arith}
use native.Mathlib.Decide.{dec_le}
use lib.ListN.{length, get_or, set, length-set}
use lib.Seq.{get_or-set_same, get_or-set_other}
use Rattle.laws.proofs.Choice.{true_not_false}
use Rattle.tree.specs.Sizes.{row_cells}
use Rattle.tree.specs.Table.{cell_at, first_column, second_column}
use Rattle.tree.specs.Trees.{Label, Tree, none, node, operand_at, tree_at}
use Rattle.tree.specs.Walks.{is_there}
use Rattle.tree_rules.specs.Refusals.{Accepted}
use Rattle.tree.proofs.Unfold.{tree_zero, tree_past, unfolds}
use Rattle.tree_rules.proofs.Accepted.{count_bounds, first_operand, second_operand, one_owner, owner_smaller}
use Rattle.expr.specs.declared.Handed.{Handed}
use Rattle.expr.specs.declared.order.CalleeOrder.{CalleeOrder}
use Rattle.expr.specs.Expr.{hands_first}
use Rattle.row.specs.declared.Row.{Row}
use Rattle.row.specs.Rows.{row_of, own_context, rows_of}
use Rattle.row_walk.specs.Walk.{root_handed, row_stored, placed}
use Rattle.row_walk.specs.Paths.{Branch, first, second, number_at, tree_by, handed_by, row_in}
use Rattle.row_walk.proofs.Placed.{length_stored, length_placed, placed_none, placed_node}
use Rattle.row_walk.proofs.Below.{Owns, Below, below_least, apart, owns, path_below, operand_most}

-- ---- one row among the cells

module _ (i : ℕ) (r : Row) (cells : List ℕ) where
  abbrev at : ℕ
  at = row_cells * (i - 1)

  -- the cells after each of the five numbers is written
  abbrev c1 : List ℕ
  c1 = set cells at r.pair

  abbrev c2 : List ℕ
  c2 = set c1 (at + 1) r.precedence

  abbrev c3 : List ℕ
  c3 = set c2 (at + 2) r.previous

  abbrev c4 : List ℕ
  c4 = set c3 (at + 3) r.next

  -- cells outside a node's five
  stored_other : (n : ℕ) → (n < at) ⊎ (at + row_cells ≤ n) → get_or (row_stored i r cells) n 0 ≡ get_or cells n 0
  unfolding row_stored
  stored_other n h =
      get_or-set_other c4 (at + 4) n r.flags 0 (off (at + 4) (omega arith) (omega arith))
      ∙ get_or-set_other c3 (at + 3) n r.next 0 (off (at + 3) (omega arith) (omega arith))
      ∙ get_or-set_other c2 (at + 2) n r.previous 0 (off (at + 2) (omega arith) (omega arith))
      ∙ get_or-set_other c1 (at + 1) n r.precedence 0 (off (at + 1) (omega arith) (omega arith))
      ∙ get_or-set_other cells at n r.pair 0 (off at (omega arith) (omega arith))
    where
      off : (m : ℕ) → at ≤ m → m < at + row_cells → n ≡ m → ⊥
      off m a b e = go h
        where
          go : (n < at) ⊎ (at + row_cells ≤ n) → ⊥
          go (inl x) = omega arith
          go (inr x) = omega arith

  row_other : (j : ℕ) → 1 ≤ i → 1 ≤ j → (i ≡ j → ⊥) → row_in (row_stored i r cells) j ≡ row_in cells j
  row_other j low there ne =
      rw (
        stored_other (row_cells * (j - 1)) (side (row_cells * (j - 1)) (omega arith) (omega arith)),
        stored_other (row_cells * (j - 1) + 1) (side (row_cells * (j - 1) + 1) (omega arith) (omega arith)),
        stored_other (row_cells * (j - 1) + 2) (side (row_cells * (j - 1) + 2) (omega arith) (omega arith)),
        stored_other (row_cells * (j - 1) + 3) (side (row_cells * (j - 1) + 3) (omega arith) (omega arith)),
        stored_other (row_cells * (j - 1) + 4) (side (row_cells * (j - 1) + 4) (omega arith) (omega arith)),
      )
    where
      side : (n : ℕ) → row_cells * (j - 1) ≤ n → n < row_cells * (j - 1) + row_cells → (n < at) ⊎ (at + row_cells ≤ n)
      side n a b = go (dec_le j i)
        where
          before : j ≤ i → (i ≡ j → ⊥) → n < at
          before h q = go' (dec_le i j)
            where
              go' : Dec (i ≤ j) → n < at
              go' (yes k) = absurd (q (omega arith))
              go' (no k) = omega arith

          go : Dec (j ≤ i) → (n < at) ⊎ (at + row_cells ≤ n)
          go (yes h) = inl (before h ne)
          go (no h) = inr (omega arith)

  row_same : 1 ≤ i → row_cells * i ≤ length cells → row_in (row_stored i r cells) i ≡ r
  unfolding row_stored
  row_same low room =
      let a : get_or (row_stored i r cells) at 0 ≡ r.pair =
      get_or-set_other c4 (at + 4) at r.flags 0 (λ e. omega arith)
      ∙ get_or-set_other c3 (at + 3) at r.next 0 (λ e. omega arith)
      ∙ get_or-set_other c2 (at + 2) at r.previous 0 (λ e. omega arith)
      ∙ get_or-set_other c1 (at + 1) at r.precedence 0 (λ e. omega arith)
      ∙ get_or-set_same cells at r.pair 0 (omega arith) in
      let b : get_or (row_stored i r cells) (at + 1) 0 ≡ r.precedence =
      get_or-set_other c4 (at + 4) (at + 1) r.flags 0 (λ e. omega arith)
      ∙ get_or-set_other c3 (at + 3) (at + 1) r.next 0 (λ e. omega arith)
      ∙ get_or-set_other c2 (at + 2) (at + 1) r.previous 0 (λ e. omega arith)
      ∙ get_or-set_same c1 (at + 1) r.precedence 0 (simp length-set (omega arith)) in
      let c : get_or (row_stored i r cells) (at + 2) 0 ≡ r.previous =
      get_or-set_other c4 (at + 4) (at + 2) r.flags 0 (λ e. omega arith)
      ∙ get_or-set_other c3 (at + 3) (at + 2) r.next 0 (λ e. omega arith)
      ∙ get_or-set_same c2 (at + 2) r.previous 0 (simp length-set (omega arith)) in
      let d : get_or (row_stored i r cells) (at + 3) 0 ≡ r.next =
      get_or-set_other c4 (at + 4) (at + 3) r.flags 0 (λ e. omega arith)
      ∙ get_or-set_same c3 (at + 3) r.next 0 (simp length-set (omega arith)) in
      let f : get_or (row_stored i r cells) (at + 4) 0 ≡ r.flags = get_or-set_same c4 (at + 4) r.flags 0 (simp length-set (omega arith)) in
      rw (a, b, c, d, f)

-- ---- the tree at a path, by the node's number

tree_here : (t : Tree) → tree_by t [] ≡ t
tree_here none = refl
tree_here (node l a b) = refl

handed_here : (order : CalleeOrder) (h : Handed) (t : Tree) → handed_by order h t [] ≡ h
handed_here order h none = refl
handed_here order h (node l a b) = refl

module _ (cells : List ℕ) (count : ℕ) where
  pub tree_at_lem : (i : ℕ) (p : List Branch) → 1 ≤ i → i ≤ count → 1 ≤ number_at cells count i p → tree_at cells count (number_at cells count i p) ≡ tree_by (tree_at cells count i) p
  tree_at_lem i [] low high h = sym (tree_here _)
  tree_at_lem i (first ∷ p) low high h =
      let w = owns cells count i first_column p low high (inl refl) h in
      tree_at_lem (operand_at cells count i first_column) p w.there (operand_most cells count w).1 h ∙ rw (unfolds cells count i low high)
  tree_at_lem i (second ∷ p) low high h =
      let w = owns cells count i second_column p low high (inr refl) h in
      tree_at_lem (operand_at cells count i second_column) p w.there (operand_most cells count w).1 h ∙ rw (unfolds cells count i low high)

  -- a path to a tree that stands leads to a node
  nowhere : {A : Type 0} (i : ℕ) (p : List Branch) → ((1 ≤ i) × (i ≤ count) → ⊥) → is_there (tree_by (tree_at cells count i) p) ≡ true → A
  nowhere i p out e = true_not_false (sym e ∙ ap (λ t. is_there (tree_by t p)) (outside (dec_le 1 i)) ∙ empty p)
    where
      outside : Dec (1 ≤ i) → tree_at cells count i ≡ none
      outside (yes low) = tree_past cells count i (past (dec_le i count))
        where
          past : Dec (i ≤ count) → count < i
          past (yes high) = absurd (out (low, high))
          past (no k) = omega arith
      outside (no k) = let z : i ≡ 0 = omega arith in rw z (tree_zero cells count)

      empty : (p : List Branch) → is_there (tree_by none p) ≡ false
      empty [] = refl
      empty (s ∷ p) = refl

  in_range : (i : ℕ) (p : List Branch) → is_there (tree_by (tree_at cells count i) p) ≡ true → (1 ≤ i) × (i ≤ count)
  in_range i p e = go (dec_le 1 i) (dec_le i count)
    where
      go : Dec (1 ≤ i) → Dec (i ≤ count) → (1 ≤ i) × (i ≤ count)
      go (yes low) (yes high) = (low, high)
      go (yes low) (no k) = nowhere i p (λ w. k w.1) e
      go (no k) d = nowhere i p (λ w. k w.0) e

  pub there_at : (i : ℕ) (p : List Branch) → is_there (tree_by (tree_at cells count i) p) ≡ true → 1 ≤ number_at cells count i p
  there_at i [] e = (in_range i [] e).0
  there_at i (first ∷ p) e =
      let r = in_range i (first ∷ p) e in
      there_at (operand_at cells count i first_column) p (rw (unfolds cells count i r.0 r.1) at e)
  there_at i (second ∷ p) e =
      let r = in_range i (second ∷ p) e in
      there_at (operand_at cells count i second_column) p (rw (unfolds cells count i r.0 r.1) at e)

  -- ---- cells of nodes that are not below a node are not written from it

  -- no path leads from node i to node j
  abbrev Apart : ℕ → ℕ → Type 0
  Apart i j = (p : List Branch) → number_at cells count i p ≡ j → ⊥

  abbrev Untouched : CalleeOrder → Tree → Type 0
  Untouched order t = (i : ℕ) → tree_at cells count i ≡ t → (h : Handed) (into : List ℕ) (j : ℕ) → 1 ≤ j → Apart i j → row_in (placed cells count i (rows_of order h (tree_at cells count i)) into) j ≡ row_in into j

  untouched_none : (order : CalleeOrder) (i : ℕ) → tree_at cells count i ≡ none → (h : Handed) (into : List ℕ) (j : ℕ) → row_in (placed cells count i (rows_of order h (tree_at cells count i)) into) j ≡ row_in into j
  untouched_none order i e h into j = ap (λ (r : List ℕ). row_in r j) (placed_none order cells count i h into e)

  untouched_node : (order : CalleeOrder) (l : Label) (a b : Tree) → Untouched order a → Untouched order b → Untouched order (node l a b)
  untouched_node order l a b below_a below_b i e h into j there far = go (dec_le 1 i) (dec_le i count)
    where
      inside : 1 ≤ i → i ≤ count → row_in (placed cells count i (rows_of order h (tree_at cells count i)) into) j ≡ row_in into j
      inside low high =
          let u = sym (unfolds cells count i low high) ∙ e in
          let ea : tree_at cells count (operand_at cells count i first_column) ≡ a = cc in
          let eb : tree_at cells count (operand_at cells count i second_column) ≡ b = cc in
          ap (λ (r : List ℕ). row_in r j) (placed_node order cells count i h into low high)
          ∙ below_b (operand_at cells count i second_column) eb _ _ j there (λ p. far (second ∷ p))
          ∙ below_a (operand_at cells count i first_column) ea _ _ j there (λ p. far (first ∷ p))
          ∙ row_other i _ into j low there (far [])

      go : Dec (1 ≤ i) → Dec (i ≤ count) → row_in (placed cells count i (rows_of order h (tree_at cells count i)) into) j ≡ row_in into j
      go (yes low) (yes high) = inside low high
      go (yes low) (no k) = untouched_none order i (tree_past cells count i (omega arith)) h into j
      go (no k) d = untouched_none order i (let z : i ≡ 0 = omega arith in rw z (tree_zero cells count)) h into j

  untouched : (order : CalleeOrder) (t : Tree) → Untouched order t
  untouched order none = λ i e h into j there far. untouched_none order i e h into j
  untouched order (node l a b) = untouched_node order l a b (untouched order a) (untouched order b)

  -- a node is not below its own operand
  not_own : (i k : ℕ) → 1 ≤ i → i ≤ count → (k ≡ first_column) ⊎ (k ≡ second_column) → Apart (operand_at cells count i k) i
  not_own i k low high place p e =
      let w = owns cells count i k p low high place (rw e low) in
      let s = operand_most cells count w in
      let b = below_least cells count (path_below cells count (operand_at cells count i k) p w.there s.1 (rw e low)) in
      omega arith

  -- ---- the row of the node at a path

  module _ (context : ℕ) (ok : Accepted context count cells) where
    pub row_on_path : (order : CalleeOrder) (i : ℕ) (p : List Branch) (h : Handed) (into : List ℕ) → 1 ≤ i → i ≤ count → row_cells * count ≤ length into → 1 ≤ number_at cells count i p
        → row_in (placed cells count i (rows_of order h (tree_at cells count i)) into) (number_at cells count i p) ≡ row_of (handed_by order h (tree_at cells count i) p) (tree_by (tree_at cells count i) p)
    row_on_path order i [] h into low high room there =
        ap (λ (r : List ℕ). row_in r i) (placed_node order cells count i h into low high)
        ∙ untouched order _ (operand_at cells count i second_column) refl _ _ i low (not_own i second_column low high (inr refl))
        ∙ untouched order _ (operand_at cells count i first_column) refl _ _ i low (not_own i first_column low high (inl refl))
        ∙ row_same i (row_of h (tree_at cells count i)) into low (omega arith)
        ∙ rw (handed_here order h (tree_at cells count i), tree_here (tree_at cells count i))
    row_on_path order i (first ∷ p) h into low high room there =
        let w = owns cells count i first_column p low high (inl refl) there in
        let s = operand_most cells count w in
        let b = path_below cells count (operand_at cells count i first_column) p w.there s.1 there in
        ap (λ (r : List ℕ). row_in r (number_at cells count (operand_at cells count i first_column) p)) (placed_node order cells count i h into low high)
        ∙ untouched order _ (operand_at cells count i second_column) refl _ _ _ there (other w b)
        ∙ row_on_path order (operand_at cells count i first_column) p _ _ w.there s.1 (rw (length_stored i (row_of h (tree_at cells count i)) into) room) there
        ∙ rw (unfolds cells count i low high)
      where
        other : Owns cells count i first_column (operand_at cells count i first_column) → Below cells count (operand_at cells count i first_column) (number_at cells count (operand_at cells count i first_column) p) → Apart (operand_at cells count i second_column) (number_at cells count (operand_at cells count i first_column) p)
        other w b q e =
            let v = owns cells count i second_column q low high (inr refl) (rw e there) in
            apart cells count context ok w v b (rw e at (path_below cells count (operand_at cells count i second_column) q v.there (operand_most cells count v).1 (rw e there)))
    row_on_path order i (second ∷ p) h into low high room there =
        let w = owns cells count i second_column p low high (inr refl) there in
        let s = operand_most cells count w in
        ap (λ (r : List ℕ). row_in r (number_at cells count (operand_at cells count i second_column) p)) (placed_node order cells count i h into low high)
        ∙ row_on_path order (operand_at cells count i second_column) p _ _ w.there s.1 (rw (length_placed cells count (operand_at cells count i first_column) (rows_of order (hands_first order (own_context h (tree_at cells count i)) (tree_at cells count i)) (tree_at cells count (operand_at cells count i first_column))) (row_stored i (row_of h (tree_at cells count i)) into), length_stored i (row_of h (tree_at cells count i)) into) room) there
        ∙ rw (unfolds cells count i low high)

    -- ---- each node is at one path

    -- from an operand to the owner, and from both operands to one node, no paths lead
    not_back : {A : Type 0} (i k : ℕ) (p : List Branch) → 1 ≤ i → i ≤ count → (k ≡ first_column) ⊎ (k ≡ second_column) → number_at cells count (operand_at cells count i k) p ≡ i → A
    not_back i k p low high place e = absurd (not_own i k low high place p e)

    not_both : {A : Type 0} (i : ℕ) (p q : List Branch) → 1 ≤ i → i ≤ count → 1 ≤ number_at cells count (operand_at cells count i first_column) p
        → number_at cells count (operand_at cells count i first_column) p ≡ number_at cells count (operand_at cells count i second_column) q → A
    not_both i p q low high there e =
        let w = owns cells count i first_column p low high (inl refl) there in
        let v = owns cells count i second_column q low high (inr refl) (rw e at there) in
        absurd (apart cells count context ok w v
        (path_below cells count (operand_at cells count i first_column) p w.there (operand_most cells count w).1 there)
        (subst (Below cells count (operand_at cells count i second_column)) (sym e) (path_below cells count (operand_at cells count i second_column) q v.there (operand_most cells count v).1 (rw e at there))))

    pub one_path : (i : ℕ) (p q : List Branch) → 1 ≤ i → i ≤ count → 1 ≤ number_at cells count i p → number_at cells count i p ≡ number_at cells count i q → p ≡ q
    one_path i [] [] low high there e = refl
    one_path i [] (first ∷ q) low high there e = not_back i first_column q low high (inl refl) (sym e)
    one_path i [] (second ∷ q) low high there e = not_back i second_column q low high (inr refl) (sym e)
    one_path i (first ∷ p) [] low high there e = not_back i first_column p low high (inl refl) e
    one_path i (second ∷ p) [] low high there e = not_back i second_column p low high (inr refl) e
    one_path i (first ∷ p) (first ∷ q) low high there e =
        let w = owns cells count i first_column p low high (inl refl) there in
        ap (λ r. first ∷ r) (one_path (operand_at cells count i first_column) p q w.there (operand_most cells count w).1 there e)
    one_path i (second ∷ p) (second ∷ q) low high there e =
        let w = owns cells count i second_column p low high (inr refl) there in
        ap (λ r. second ∷ r) (one_path (operand_at cells count i second_column) p q w.there (operand_most cells count w).1 there e)
    one_path i (first ∷ p) (second ∷ q) low high there e = not_both i p q low high there e
    one_path i (second ∷ p) (first ∷ q) low high there e = not_both i q p low high (rw e at there) (sym e)

    pub record Reached (j : ℕ) : Type 0 where
      pub path : List Branch
      pub leads : number_at cells count 1 path ≡ j

    one_more : (i : ℕ) (p : List Branch) → (number_at cells count i (p ++ (first ∷ [])) ≡ operand_at cells count (number_at cells count i p) first_column) × (number_at cells count i (p ++ (second ∷ [])) ≡ operand_at cells count (number_at cells count i p) second_column)
    one_more i [] = (refl, refl)
    one_more i (first ∷ p) = one_more (operand_at cells count i first_column) p
    one_more i (second ∷ p) = one_more (operand_at cells count i second_column) p

    -- from the path of an owner to that of its operand
    onward : (o k j : ℕ) → 1 ≤ o → o ≤ count → (k ≡ first_column) ⊎ (k ≡ second_column) → cell_at cells o k ≡ j → Reached o → Reached j
    onward o k j low high (inl e) c r = record { path = r.path ++ (first ∷ []); leads = (one_more 1 r.path).0 ∙ rw r.leads (first_operand context count cells ok o low high ∙ rw e at c) }
    onward o k j low high (inr e) c r = record { path = r.path ++ (second ∷ []); leads = (one_more 1 r.path).1 ∙ rw r.leads (second_operand context count cells ok o low high ∙ rw e at c) }

    reach : (n j : ℕ) → j ≤ n → 1 ≤ j → j ≤ count → Reached j
    reach zero j h low high = absurd (omega arith)
    reach (suc n) j h low high = go (dec_le j 1) (λ o a b c. reach n o a b c)
      where
        owned : 2 ≤ j → ((o : ℕ) → o ≤ n → 1 ≤ o → o ≤ count → Reached o) → Reached j
        owned two earlier =
            let u = one_owner context count cells ok j two high in
            let s = owner_smaller context count cells ok j u two in
            onward u.owner u.place j u.owner_low u.owner_high u.is_place u.owns (earlier u.owner (omega arith) u.owner_low u.owner_high)

        go : Dec (j ≤ 1) → ((o : ℕ) → o ≤ n → 1 ≤ o → o ≤ count → Reached o) → Reached j
        go (yes k) earlier = record { path = []; leads = omega arith }
        go (no k) earlier = owned (omega arith) earlier

    pub reached : (j : ℕ) → 1 ≤ j → j ≤ count → Reached j
    reached j low high = reach j j (omega arith) low high

-- ---- numbering does not matter

-- two accepted tables of one tree, in one context: the nodes at a path have the same row
pub renumbered : (order : CalleeOrder) (context count count' : ℕ) (cells cells' : List ℕ) → Accepted context count cells → Accepted context count' cells'
    → tree_at cells count 1 ≡ tree_at cells' count' 1
    → (into into' : List ℕ) → row_cells * count ≤ length into → row_cells * count' ≤ length into'
    → (p : List Branch) → 1 ≤ number_at cells count 1 p → 1 ≤ number_at cells' count' 1 p
    → row_in (placed cells count 1 (rows_of order (root_handed context (tree_at cells count 1)) (tree_at cells count 1)) into) (number_at cells count 1 p)
    ≡ row_in (placed cells' count' 1 (rows_of order (root_handed context (tree_at cells' count' 1)) (tree_at cells' count' 1)) into') (number_at cells' count' 1 p)
renumbered order context count count' cells cells' ok ok' e into into' room room' p there there' =
    let k = count_bounds context count cells ok in
    let k' = count_bounds context count' cells' ok' in
    row_on_path cells count context ok order 1 p (root_handed context (tree_at cells count 1)) into (omega arith) k.0 room there
    ∙ rw e (sym (row_on_path cells' count' context ok' order 1 p (root_handed context (tree_at cells' count' 1)) into' (omega arith) k'.0 room' there'))
