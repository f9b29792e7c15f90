-- Tables that differ in operators of one class, and behind their nodes: their trees have the same pairs. Assumes nothing.
use mathlib.Core.Path.{◌≡◌, refl, sym, ap, ◌∙◌}
use mathlib.Core.Logic.{◌⊎◌, inl, inr}
use mathlib.Core.List.{List}
use Prim.Native.Nat.{ℕ, zero, suc, ◌+◌, ◌*◌, ◌-◌, ◌≤◌, ◌<◌}
use native.Mathlib.Omega.{arith}
use native.Mathlib.Decide.{dec_le, ℕ_discrete}
use lib.ListN.{length, get_or, set, replicate, length-set}
use lib.Seq.{get_or-set_same, get_or-set_other}
use Rattle.tree.specs.Sizes.{node_cells, row_cells}
use Rattle.tree.specs.Forms.{expr_binary}
use Rattle.tree.specs.Table.{cell_at, form_at, attributes_at, detail_at, first_at, second_at, symbol_at, form_column, attributes_column, detail_column, first_column, second_column}
use Rattle.tree.specs.Trees.{Tree, label_at, operand_of, operand_at, tree_to, tree_at}
use Rattle.tree.proofs.Unfold.{Standing, absent, present, standing, operand_most}
use Rattle.expr.specs.declared.order.CalleeOrder.{CalleeOrder}
use Rattle.row.specs.declared.Row.{Row}
use Rattle.row.specs.Rows as rows
use Rattle.row.specs.Rows.{Rows}
use Rattle.row_walk.specs.Walk.{row_stored, placed, tree_rows}
use Rattle.row_open.specs.Open.{with_operator, outer_in, has_outer}
use Rattle.row_walk.proofs.Alike.{SameOperator, Alike, gone, kept, other, label, all_rows_like}

-- ---- trees

-- node i in two tables
pub record NearAt (cells after : List ℕ) (i : ℕ) : Type 0 where
  pub form : form_at cells i ≡ form_at after i
  pub attributes : attributes_at cells i ≡ attributes_at after i
  pub details : (detail_at cells i ≡ detail_at after i) ⊎ ((form_at after i ≡ expr_binary) × SameOperator (detail_at cells i) (detail_at after i))
  pub first : first_at cells i ≡ first_at after i
  pub second : second_at cells i ≡ second_at after i

abbrev pub Near : ℕ → List ℕ → List ℕ → Type 0
Near count cells after = (i : ℕ) → 1 ≤ i → i ≤ count → NearAt cells after i

-- a node and its operands
near_node : (f a d o s p : ℕ) → (d ≡ o) ⊎ ((f ≡ expr_binary) × SameOperator d o) → {x y z w : Tree} → Alike x z → Alike y w → Alike (Tree.node (label f a d s) x y) (Tree.node (label f a o p) z w)
near_node f a d o s p (inl e) u v = rw e (kept f a o s p u v)
near_node f a d o s p (inr e) u v = rw e.0 (other a d o s p e.1 u v)

module _ (count : ℕ) (cells after : List ℕ) (near : Near count cells after) where
  alike_to : (n i : ℕ) → i ≤ count → Alike (tree_to cells count n i) (tree_to after count n i)
  unfolding tree_to label_at
  alike_to zero i h = gone
  alike_to (suc n) zero h = gone
  alike_to (suc n) (suc i) h =
      let r = near (suc i) (omega arith) h in
      rw (r.form, r.attributes, r.first, r.second)
      (near_node (form_at after (suc i)) (attributes_at after (suc i)) (detail_at cells (suc i)) (detail_at after (suc i)) (symbol_at cells (suc i)) (symbol_at after (suc i)) r.details
      (alike_to n (operand_at after count (suc i) first_column) (operand_most count (suc i) _))
      (alike_to n (operand_at after count (suc i) second_column) (operand_most count (suc i) _)))

  pub alike_at : (i : ℕ) → Alike (tree_at cells count i) (tree_at after count i)
  unfolding tree_at
  alike_at i = alike_to count (operand_of count 0 i) (operand_most count 0 i)

  -- ---- places: the two tables' trees have the same nodes at the same numbers

  past : (i o : ℕ) → count < i → operand_of count i o ≡ 0
  past i o h = go (operand_of count i o) (standing count i o)
    where
      go : (p : ℕ) → Standing count i o p → p ≡ 0
      go p absent = refl
      go p (present a b) = absurd (omega arith)

  module _ (k : ℕ) (same : (i : ℕ) → 1 ≤ i → i ≤ count → cell_at cells i k ≡ cell_at after i k) where
    operand_near : (i : ℕ) → operand_at cells count i k ≡ operand_at after count i k
    unfolding cell_at
    operand_near zero = refl
    operand_near (suc i) = go (dec_le (suc i) count)
      where
        go : Dec (suc i ≤ count) → operand_at cells count (suc i) k ≡ operand_at after count (suc i) k
        go (yes h) = ap (operand_of count (suc i)) (same (suc i) (omega arith) h)
        go (no h) = past (suc i) _ (omega arith) ∙ sym (past (suc i) _ (omega arith))

  placed_near : (r : Rows) (i : ℕ) (into : List ℕ) → placed cells count i r into ≡ placed after count i r into
  unfolding placed
  placed_near rows.absent i into = refl
  placed_near (rows.present r a b) i into =
      rw (operand_near first_column (λ j h l. (near j h l).first) i, operand_near second_column (λ j h l. (near j h l).second) i, placed_near a (operand_at after count i first_column) (row_stored i r into))
      (placed_near b (operand_at after count i second_column) _)

  pub rows_near : (order : CalleeOrder) (context : ℕ) (rows : List ℕ) → tree_rows order context count (tree_at cells count 1) cells rows ≡ tree_rows order context count (tree_at after count 1) after rows
  rows_near order context rows = rw (all_rows_like order context (alike_at 1), placed_near _ 1 _)

  pub has_near : (order : CalleeOrder) (context i : ℕ) → has_outer order context count cells i ≡ has_outer order context count after i
  unfolding has_outer
  has_near order context i = ap (λ (rows : List ℕ). outer_in rows i) (rows_near order context (replicate (row_cells * count) 0))

-- ---- a table with another operator

apart : (i m k : ℕ) → k < node_cells → node_cells * i + k ≡ node_cells * m + detail_column → (i ≡ m) × (k ≡ detail_column)
apart i m k h e = go (dec_le i m) (dec_le m i)
  where
    go : Dec (i ≤ m) → Dec (m ≤ i) → (i ≡ m) × (k ≡ detail_column)
    go (yes a) (yes b) = (omega arith, omega arith)
    go (yes a) (no b) = absurd (omega arith)
    go (no a) d = absurd (omega arith)

module _ (n o : ℕ) (low : 1 ≤ n) (cells : List ℕ) where
  pub put_here : node_cells * n ≤ length cells → detail_at (with_operator n o cells) n ≡ o
  unfolding with_operator cell_at
  put_here h = go n low h
    where
      go : (m : ℕ) → 1 ≤ m → node_cells * m ≤ length cells → detail_at (with_operator m o cells) m ≡ o
      go zero l h = absurd (omega arith)
      go (suc m) l h = let e : suc m - 1 ≡ m = omega arith in rw e (get_or-set_same cells (node_cells * m + detail_column) o 0 (omega arith))

  pub put_elsewhere : (i k : ℕ) → k < node_cells → (i ≡ n → k ≡ detail_column → ⊥) → cell_at (with_operator n o cells) i k ≡ cell_at cells i k
  unfolding with_operator cell_at
  put_elsewhere zero k h d = refl
  put_elsewhere (suc i) k h d =
      get_or-set_other cells (node_cells * (n - 1) + detail_column) (node_cells * i + k) o 0
      (λ e. let a = apart i (n - 1) k h e in d (omega (arith, a.0)) a.1)

  pub put_column : (i k : ℕ) → k < node_cells → (k ≡ detail_column → ⊥) → cell_at (with_operator n o cells) i k ≡ cell_at cells i k
  put_column i k h d = put_elsewhere i k h (λ e f. d f)

-- the same operator in two tables that are near
module _ (count n o : ℕ) (low : 1 ≤ n) (cells after : List ℕ) (here : node_cells * n ≤ length cells) (there : node_cells * n ≤ length after) (near : Near count cells after) where
  both : (i k : ℕ) → k < node_cells → (k ≡ detail_column → ⊥) → cell_at cells i k ≡ cell_at after i k → cell_at (with_operator n o cells) i k ≡ cell_at (with_operator n o after) i k
  both i k h d e = put_column n o low cells i k h d ∙ e ∙ sym (put_column n o low after i k h d)

  pub near_put : Near count (with_operator n o cells) (with_operator n o after)
  near_put i h k =
      let r = near i h k in
      record {
        form = both i form_column (omega arith) (λ e. omega arith) r.form;
        attributes = both i attributes_column (omega arith) (λ e. omega arith) r.attributes;
        details = go (ℕ_discrete i n) r.details;
        first = both i first_column (omega arith) (λ e. omega arith) r.first;
        second = both i second_column (omega arith) (λ e. omega arith) r.second;
      }
    where
      go : Dec (i ≡ n) → (detail_at cells i ≡ detail_at after i) ⊎ ((form_at after i ≡ expr_binary) × SameOperator (detail_at cells i) (detail_at after i))
          → (detail_at (with_operator n o cells) i ≡ detail_at (with_operator n o after) i) ⊎ ((form_at (with_operator n o after) i ≡ expr_binary) × SameOperator (detail_at (with_operator n o cells) i) (detail_at (with_operator n o after) i))
      go (yes e) d = inl (rw e (put_here n o low cells here ∙ sym (put_here n o low after there)))
      go (no e) (inl d) = inl (put_elsewhere n o low cells i detail_column (omega arith) (λ f g. e f) ∙ d ∙ sym (put_elsewhere n o low after i detail_column (omega arith) (λ f g. e f)))
      go (no e) (inr d) =
          inr (
            put_column n o low after i form_column (omega arith) (λ f. omega arith) ∙ d.0,
            rw (put_elsewhere n o low cells i detail_column (omega arith) (λ f g. e f), put_elsewhere n o low after i detail_column (omega arith) (λ f g. e f)) d.1,
          )

-- two operators of one class in one table
module _ (count n o p : ℕ) (low : 1 ≤ n) (cells : List ℕ) (here : node_cells * n ≤ length cells) (binary : form_at cells n ≡ expr_binary) (same : SameOperator o p) where
  either : (i k : ℕ) → k < node_cells → (k ≡ detail_column → ⊥) → cell_at (with_operator n o cells) i k ≡ cell_at (with_operator n p cells) i k
  either i k h d = put_column n o low cells i k h d ∙ sym (put_column n p low cells i k h d)

  pub near_class : Near count (with_operator n o cells) (with_operator n p cells)
  near_class i h k =
      record {
        form = either i form_column (omega arith) (λ e. omega arith);
        attributes = either i attributes_column (omega arith) (λ e. omega arith);
        details = go (ℕ_discrete i n);
        first = either i first_column (omega arith) (λ e. omega arith);
        second = either i second_column (omega arith) (λ e. omega arith);
      }
    where
      go : Dec (i ≡ n) → (detail_at (with_operator n o cells) i ≡ detail_at (with_operator n p cells) i) ⊎ ((form_at (with_operator n p cells) i ≡ expr_binary) × SameOperator (detail_at (with_operator n o cells) i) (detail_at (with_operator n p cells) i))
      go (yes e) =
          inr (
            rw e (put_column n p low cells n form_column (omega arith) (λ f. omega arith) ∙ binary),
            rw (e, put_here n o low cells here, put_here n p low cells here) same,
          )
      go (no e) = inl (put_elsewhere n o low cells i detail_column (omega arith) (λ f g. e f) ∙ sym (put_elsewhere n p low cells i detail_column (omega arith) (λ f g. e f)))

-- tables whose nodes' cells are the same
module _ (count : ℕ) (cells after : List ℕ) (same : (k : ℕ) → k < node_cells * count → get_or cells k 0 ≡ get_or after k 0) where
  same_cell : (i k : ℕ) → 1 ≤ i → i ≤ count → k < node_cells → cell_at cells i k ≡ cell_at after i k
  unfolding cell_at
  same_cell zero k l h m = absurd (omega arith)
  same_cell (suc i) k l h m = same (node_cells * i + k) (omega arith)

  pub near_cells : Near count cells after
  near_cells i l h =
      record {
        form = same_cell i form_column l h (omega arith);
        attributes = same_cell i attributes_column l h (omega arith);
        details = inl (same_cell i detail_column l h (omega arith));
        first = same_cell i first_column l h (omega arith);
        second = same_cell i second_column l h (omega arith);
      }

-- ---- rows in buffers of other lengths
-- the first n cells of two buffers
pub record Agree (n : ℕ) (a b : List ℕ) : Type 0 where
  pub first_long : n ≤ length a
  pub second_long : n ≤ length b
  pub cells : (k : ℕ) → k < n → get_or a k 0 ≡ get_or b k 0

agree_set : {n : ℕ} {a b : List ℕ} (j v : ℕ) → Agree n a b → Agree n (set a j v) (set b j v)
agree_set {n} {a} {b} j v g = record { first_long = simp length-set g.first_long; second_long = simp length-set g.second_long; cells = λ k h. go k h (ℕ_discrete k j) }
  where
    go : (k : ℕ) → k < n → Dec (k ≡ j) → get_or (set a j v) k 0 ≡ get_or (set b j v) k 0
    go k h (yes e) = rw e (get_or-set_same a j v 0 (omega (arith, g.first_long)) ∙ sym (get_or-set_same b j v 0 (omega (arith, g.second_long))))
    go k h (no e) = get_or-set_other a j k v 0 e ∙ g.cells k h ∙ sym (get_or-set_other b j k v 0 e)

agree_stored : {n : ℕ} {a b : List ℕ} (i : ℕ) (r : Row) → Agree n a b → Agree n (row_stored i r a) (row_stored i r b)
unfolding row_stored
agree_stored i r g = agree_set _ _ (agree_set _ _ (agree_set _ _ (agree_set _ _ (agree_set _ _ g))))

pub agree_placed : (cells : List ℕ) (count i : ℕ) (r : Rows) {n : ℕ} {a b : List ℕ} → Agree n a b → Agree n (placed cells count i r a) (placed cells count i r b)
unfolding placed
agree_placed cells count i rows.absent g = g
agree_placed cells count i (rows.present r a b) g = agree_placed cells count (operand_at cells count i second_column) b (agree_placed cells count (operand_at cells count i first_column) a (agree_stored i r g))
