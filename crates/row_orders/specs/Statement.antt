-- Document 02, Paper 9: where the rows of the two callee orders differ, and where not. "Old answers that change: a numbered Field with an outer attribute gets a pair;
-- a Group gets one when the first thing below it that is no Group is a named Field and it had none. Rows below such a callee start from NONE."
use Rattle.std.specs.Prelude.{Bool, true, false, not, ◌&&◌, ◌||◌, List, [], ◌∷◌, ◌++◌, ◌≡◌, ℕ, ◌*◌, ◌≤◌, eqb, length}
use Rattle.laws.specs.Choice.{Line, line}
use Rattle.tree.specs.Sizes.{row_cells}
use Rattle.tree.specs.Forms.{expr_call, expr_field, expr_group}
use Rattle.tree.specs.Trees.{Label, Tree, none, node, tree_at}
use Rattle.tree.specs.Walks.{Ask, answer, at_root, walk}
use Rattle.tree.specs.Walks as walks
use Rattle.tree_rules.specs.Refusals.{Accepted}
use Rattle.fixup.specs.declared.context.FixupContext.{FixupContext}
use Rattle.expr.specs.declared.order.CalleeOrder.{CalleeOrder}
use Rattle.expr.specs.declared.order.CalleeOrder.TheVariants.{Crates, Ours}
use Rattle.expr.specs.Expr.{named_field, hands_first}
use Rattle.row.specs.declared.Row.{Row}
use Rattle.row.specs.Rows.{outer_pair, row_of}
use Rattle.row_walk.specs.Walk.{root_handed, walked_after}
use Rattle.row_walk.specs.Paths.{Branch, first, second, number_at, tree_by, handed_by, row_in}

-- ---- the two cases

-- what stands below Groups, whatever attributes they have: a named Field ("Field: 0 named, 1 numbered") without outer attributes ("2 some outer")
unfoldable pub bare_lines : Label → Tree → Tree → List (Line (Ask Bool))
bare_lines l a b = line (expr_field ∷ []) (answer (eqb l.detail 0 && not (eqb l.attributes 2))) ∷ line (expr_group ∷ []) walks.first ∷ []

unfoldable pub bare_field : Tree → Bool
bare_field t = walk bare_lines (λ l. false) false t

-- "a numbered Field with an outer attribute", or a Group, or Groups, over such a named Field
unfoldable pub changed_callee : Tree → Bool
changed_callee t =
    at_root (λ l a b.
    line (expr_field ∷ []) (not (eqb l.detail 0) && eqb l.attributes 2) ∷
    line (expr_group ∷ []) (bare_field a) ∷
    []) false t

-- a Call of it
abbrev pub changed_call : Tree → Bool
changed_call none = false
changed_call (node l a b) = eqb l.form expr_call && changed_callee a

-- whether a path leads to such a callee, or below one
abbrev pub below : Tree → List Branch → Bool
below t [] = false
below none (s ∷ p) = false
below (node l a b) (first ∷ p) = changed_call (node l a b) || below a p
below (node l a b) (second ∷ p) = below b p

-- ---- the rows

-- the row of the node at a path, in a callee order and one of document 01's contexts
abbrev pub row_at : CalleeOrder → ℕ → Tree → List Branch → Row
row_at order context t p = row_of (handed_by order (root_handed context t) t p) (tree_by t p)

-- the same row with the outer pair and no inner one
abbrev pub paired : Row → Row
paired r = record { pair = 1; precedence = r.precedence; previous = r.previous; next = r.next; flags = r.flags }

-- the callee of the Call at q. In our order it has the outer pair, which it had not; what is below it "starts from NONE", as in a tree of its own in context 0.
-- Where q itself is neither at nor below another such callee, nothing else of its row changes
pub record Differs (context : ℕ) (t : Tree) (q : List Branch) : Type 0 where
  pub had_none : (row_at Crates context t (q ++ (first ∷ []))).pair ≡ 0
  pub has_one : (row_at Ours context t (q ++ (first ∷ []))).pair ≡ 1
  pub from_none : (s : Branch) (r : List Branch) → row_at Ours context t (q ++ (first ∷ s ∷ r)) ≡ row_at Ours 0 (tree_by t (q ++ (first ∷ []))) (s ∷ r)
  pub only_pair : below t q ≡ false → row_at Ours context t (q ++ (first ∷ [])) ≡ paired (row_at Crates context t (q ++ (first ∷ [])))

-- what a Call does to its callee a in a context x, in words of pairs. "and it had none" is said of Groups by the Field's attributes alone:
-- of a Group over Groups over a named Field it is the same
pub record Callee (x : FixupContext) (l : Label) (a b : Tree) : Type 0 where
  pub more : outer_pair (hands_first Ours x (node l a b)) a ≡ (outer_pair (hands_first Crates x (node l a b)) a || changed_callee a)
  pub had_none : changed_callee a ≡ true → outer_pair (hands_first Crates x (node l a b)) a ≡ false
  pub group : (m : Label) (c d : Tree) → a ≡ node m c d → m.form ≡ expr_group → changed_callee a ≡ (named_field a && not (outer_pair (hands_first Crates x (node l a b)) a))

-- Of every tree, in every context: the rows of the two orders are the same at each path that leads neither to such a callee nor below one; at each such callee they
-- differ, by the pair; and these are the callees that get a pair in our order without having had one. In either order these are the rows that the walk of an accepted table stores.
pub record OrdersDiffer : Type 0 where
  pub elsewhere : (context : ℕ) (t : Tree) (p : List Branch) → below t p ≡ false → row_at Crates context t p ≡ row_at Ours context t p
  pub there : (context : ℕ) (t : Tree) (q : List Branch) → changed_call (tree_by t q) ≡ true → Differs context t q
  pub callees : (x : FixupContext) (l : Label) (a b : Tree) → l.form ≡ expr_call → Callee x l a b
  pub stored : (order : CalleeOrder) (context count : ℕ) (cells rows : List ℕ) → Accepted context count cells → row_cells * count ≤ length rows
      → (p : List Branch) → 1 ≤ number_at cells count 1 p
      → row_in (walked_after order context count cells rows) (number_at cells count 1 p) ≡ row_at order context (tree_at cells count 1) p
