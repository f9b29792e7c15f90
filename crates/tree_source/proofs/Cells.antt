-- The cells of a source, number by number. Assumes nothing.
use mathlib.Core.Path.{◌≡◌, refl, sym, ap, ◌∙◌}
use mathlib.Core.Bool.{true, false, ◌||◌}
use mathlib.Core.List.{List, [], ◌∷◌, ◌++◌, append-nil, append_assoc}
use Prim.Native.Nat.{ℕ, zero, suc, ◌+◌, ◌*◌, ◌-◌, ◌≤◌, ◌<◌}
use native.Mathlib.Omega.{arith}
use native.Mathlib.Decide.{dec_lt}
use lib.Dec.{eqb, ltb}
use lib.ListN.{length, get_or, length-append, get_or-append, get_or-eq_default}
use lib.Seq.{get_or-append-add}
use borrow.Author.Tests.{eq-eqb, ne_eqb, eqb-false, ltb-true, ltb-false, lt-ltb, le-ltb}
use Rattle.laws.proofs.Choice.{pick_true, pick_false, or_false}
use Rattle.tree.specs.Sizes.{node_cells}
use Rattle.tree.specs.Table.{cell_at}
use Rattle.tree_source.specs.Source.{value_at, next_at, skip, run, runs, behind_header, cells_of}

-- ---- numbers one after the other

pub run_length : (n : ℕ) (file : List ℕ) (at : ℕ) → length (run n file at) ≡ n
unfolding run
run_length zero file at = refl
run_length (suc n) file at = ap suc (run_length n file _)

run_at : (n k : ℕ) (file : List ℕ) (at : ℕ) → k < n → get_or (run n file at) k 0 ≡ value_at file (skip k file at)
unfolding run skip
run_at zero k file at h = absurd (omega arith)
run_at (suc n) zero file at h = refl
run_at (suc n) (suc k) file at h = run_at n k file _ (omega arith)

-- one number more, behind those
pub skip_more : (n : ℕ) (file : List ℕ) (at : ℕ) → skip (suc n) file at ≡ next_at file (skip n file at)
unfolding skip
skip_more zero file at = refl
skip_more (suc n) file at = skip_more n file _

pub run_more : (n : ℕ) (file : List ℕ) (at : ℕ) → run (suc n) file at ≡ run n file at ++ value_at file (skip n file at) ∷ []
unfolding run skip
run_more zero file at = refl
run_more (suc n) file at = ap (λ (l : List ℕ). value_at file at ∷ l) (run_more n file _)

-- ---- a node from each place

runs_length : (file places : List ℕ) → length (runs file places) ≡ node_cells * length places
unfolding runs
runs_length file [] = refl
runs_length file (at ∷ places) =
    let l = runs_length file places in
    let r = run_length node_cells file at in
    simp length-append (omega arith)

pub runs_more : (file places : List ℕ) (at : ℕ) → runs file (places ++ at ∷ []) ≡ runs file places ++ run node_cells file at
unfolding runs
runs_more file [] at = append-nil (run node_cells file at)
runs_more file (p ∷ places) at = rw (runs_more file places at) (sym (append_assoc (run node_cells file p) (runs file places) (run node_cells file at)))

runs_at : (file places : List ℕ) (i k : ℕ) → k < node_cells → i < length places → get_or (runs file places) (node_cells * i + k) 0 ≡ value_at file (skip k file (get_or places i 0))
unfolding runs
runs_at file [] i k h l = absurd (omega arith)
runs_at file (at ∷ places) zero k h l =
    let r = run_length node_cells file at in
    ap (λ (j : ℕ). get_or (run node_cells file at ++ runs file places) j 0) (omega arith)
    ∙ get_or-append (run node_cells file at) (runs file places) 0 k (omega arith) ∙ run_at node_cells k file at h
runs_at file (at ∷ places) (suc i) k h l =
    let r = run_length node_cells file at in
    ap (λ (j : ℕ). get_or (run node_cells file at ++ runs file places) j 0) (omega arith)
    ∙ get_or-append-add (run node_cells file at) (runs file places) (node_cells * i + k) 0
    ∙ runs_at file places i k h (omega arith)

-- ---- the cells of a source

-- a node that has a place
pub inside : (places : List ℕ) (i : ℕ) → (eqb i 0 || ltb (length places + 1) i) ≡ false → (1 ≤ i) × (i ≤ length places + 1)
inside places i e =
    let o = or_false (eqb i 0) _ e in
    let z = eqb-false i 0 o.0 in
    (omega arith, ltb-false (length places + 1) i o.1)

module _ (file held : List ℕ) where
  pub cells_table : length file ≡ 0 → cells_of file held ≡ held
  unfolding cells_of
  cells_table e = pick_true _ _ (eq-eqb _ _ e)

  module _ (some : length file ≡ 0 → ⊥) where
    pub cells_file : cells_of file held ≡ runs file (behind_header file ∷ held)
    unfolding cells_of
    cells_file = pick_false _ _ (ne_eqb _ _ some)

    -- six cells a place
    pub cells_length : length (cells_of file held) ≡ node_cells * (length held + 1)
    cells_length =
        let l = runs_length file (behind_header file ∷ held) in
        rw cells_file (omega arith)

    -- a node that has its cells has a place
    pub has_place : (i : ℕ) → node_cells * i ≤ length (cells_of file held) → i ≤ length held + 1
    has_place i h = let l = cells_length in omega arith

    pub cell_inside : (i k : ℕ) → 1 ≤ i → i ≤ length held + 1 → k < node_cells → value_at file (skip k file (get_or (behind_header file ∷ held) (i - 1) 0)) ≡ cell_at (cells_of file held) i k
    unfolding cell_at
    cell_inside zero k h l m = absurd (omega arith)
    cell_inside (suc i) k h l m =
        let e : suc i - 1 ≡ i = omega arith in
        rw (e, cells_file) (sym (runs_at file (behind_header file ∷ held) i k m (omega arith)))

    -- node 0 and those without a place
    pub cell_outside : (i k : ℕ) → (eqb i 0 || ltb (length held + 1) i) ≡ true → 0 ≡ cell_at (cells_of file held) i k
    unfolding cell_at
    cell_outside zero k h = refl
    cell_outside (suc i) k h =
        let l = cells_length in
        let m = ltb-true (length held + 1) (suc i) (rw (ne_eqb (suc i) 0 (λ z. omega arith)) at h) in
        sym (get_or-eq_default (cells_of file held) 0 (omega arith))

    pub short_file : (count : ℕ) → ltb (length held + 1) count ≡ ltb (length (cells_of file held)) (node_cells * count)
    short_file count = go (dec_lt (length held + 1) count)
      where
        go : Dec (length held + 1 < count) → ltb (length held + 1) count ≡ ltb (length (cells_of file held)) (node_cells * count)
        go (yes h) = let l = cells_length in lt-ltb _ _ h ∙ sym (lt-ltb (length (cells_of file held)) (node_cells * count) (omega arith))
        go (no h) = let l = cells_length in le-ltb (length held + 1) count (omega arith) ∙ sym (le-ltb (length (cells_of file held)) (node_cells * count) (omega arith))
