-- A node's six numbers are those of its cells. Assumes nothing.
use mathlib.Core.Path.{◌≡◌, ap, ◌∙◌}
use mathlib.Core.Bool.{true, ◌||◌}
use mathlib.Core.List.{List, ◌∷◌}
use Prim.Native.Nat.{ℕ, suc, ◌+◌, ◌-◌, ◌≤◌, ◌<◌}
use native.Mathlib.Omega.{arith}
use lib.Dec.{eqb, ltb}
use lib.ListN.{length, get_or}
use Rattle.std.specs.Prelude.{None, Some}
use Rattle.file_numbers.specs.Standing.{stands_at}
use Rattle.tree.specs.Sizes.{node_cells}
use Rattle.tree.specs.Table.{cell_at, form_column, attributes_column, detail_column, first_column, second_column, symbol_column}
use Rattle.tree_source.specs.declared.Node.{Node}
use Rattle.tree_source.specs.Source.{value_in, next_in, value_at, next_at, skip, behind_header, cells_of}
use Rattle.tree_source.specs.Nodes.{NodeAt, NodeFrom}
use Rattle.tree_source.proofs.Cells.{cell_inside, cell_outside}

-- what a step reads
pub no_value : (file : List ℕ) (at : ℕ) → None ≡ stands_at file at → (0 ≡ value_at file at) × (0 ≡ next_at file at)
unfolding value_in next_in
no_value file at e = (ap value_in e, ap next_in e)

pub is_value : (file : List ℕ) (at v next : ℕ) → Some (v, next) ≡ stands_at file at → (v ≡ value_at file at) × (next ≡ next_at file at)
unfolding value_in next_in
is_value file at v next e = (ap value_in e, ap next_in e)

-- a number at a place, and the place after it
abbrev pub StepAt : List ℕ → ℕ → ℕ → ℕ → Type 0
StepAt file at v next = (v ≡ value_at file at) × (next ≡ next_at file at)

-- six numbers one after the other
pub six_from : (file : List ℕ) (at a b c d e f a' b' c' d' e' : ℕ) → StepAt file at a a' → StepAt file a' b b' → StepAt file b' c c' → StepAt file c' d d' → StepAt file d' e e' → f ≡ value_at file e'
    → NodeFrom file at (record { form = a; attributes = b; detail = c; first = d; second = e; symbol = f })
unfolding skip
six_from file at a b c d e f a' b' c' d' e' p q r s t u = record {
  form = p.0;
  attributes = q.0 ∙ rw p.1;
  detail = r.0 ∙ rw (q.1, p.1);
  first = s.0 ∙ rw (r.1, q.1, p.1);
  second = t.0 ∙ rw (s.1, r.1, q.1, p.1);
  symbol = u ∙ rw (t.1, s.1, r.1, q.1, p.1);
}

-- the six numbers from a node's place on
pub file_node : (file held : List ℕ) → (length file ≡ 0 → ⊥) → (i : ℕ) → 1 ≤ i → i ≤ length held + 1 → (n : Node) → NodeFrom file (get_or (behind_header file ∷ held) (i - 1) 0) n → NodeAt (cells_of file held) i n
unfolding skip
file_node file held some i low high n f = record {
  form = f.form ∙ go form_column (omega arith);
  attributes = f.attributes ∙ go attributes_column (omega arith);
  detail = f.detail ∙ go detail_column (omega arith);
  first = f.first ∙ go first_column (omega arith);
  second = f.second ∙ go second_column (omega arith);
  symbol = f.symbol ∙ go symbol_column (omega arith);
}
  where
    go : (k : ℕ) → k < node_cells → value_at file (skip k file (get_or (behind_header file ∷ held) (i - 1) 0)) ≡ cell_at (cells_of file held) i k
    go k h = cell_inside file held some i k low high h

-- those from the place on that is held, of a node but the first
pub other_node : (file held : List ℕ) (some : length file ≡ 0 → ⊥) (i : ℕ) → 2 ≤ i → i ≤ length held + 1 → (n : Node) → NodeFrom file (get_or held (i - 2) 0) n → NodeAt (cells_of file held) i n
other_node file held some i low high n f =
    let e : i - 1 ≡ suc (i - 2) = omega arith in
    file_node file held some i (omega arith) high n (rw e f)

-- zeros where there is no place
pub no_node : (file held : List ℕ) → (length file ≡ 0 → ⊥) → (i : ℕ) → (eqb i 0 || ltb (length held + 1) i) ≡ true → NodeAt (cells_of file held) i (record { form = 0; attributes = 0; detail = 0; first = 0; second = 0; symbol = 0 })
no_node file held some i e = record {
  form = go form_column;
  attributes = go attributes_column;
  detail = go detail_column;
  first = go first_column;
  second = go second_column;
  symbol = go symbol_column;
}
  where
    go : (k : ℕ) → 0 ≡ cell_at (cells_of file held) i k
    go k = cell_outside file held some i k e
