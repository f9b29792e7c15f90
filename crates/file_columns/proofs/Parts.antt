-- A list is its parts of one length, one after the other: a table is its nodes, and numbers held in columns are their columns. Assumes nothing.
use mathlib.Core.Path.{◌≡◌, refl, sym, ◌∙◌}
use mathlib.Core.List.{List, [], ◌∷◌}
use Prim.Native.Nat.{ℕ, zero, suc, ◌+◌, ◌*◌, ◌≤◌, ◌<◌}
use native.Mathlib.Omega.{arith}
use lib.ListN.{length, get_or, take, drop, length-drop}
use lib.Seq.{take-add, take-length, get_or-drop}
use Rattle.tree.specs.Sizes.{node_cells}
use Rattle.tree.specs.Table.{cell_at, form_at, attributes_at, detail_at, first_at, second_at, symbol_at}
use Rattle.file_columns.specs.Columns.{joined}

-- the same parts make the same list
pub join_same : (g h : ℕ → List ℕ) (n : ℕ) → ((i : ℕ) → i < n → g i ≡ h i) → joined g n ≡ joined h n
unfolding joined
join_same g h zero e = refl
join_same g h (suc n) e = rw (join_same g h n (λ i l. e i (omega arith)), e n (omega arith))

-- so many parts of a list
pub parts : (w : ℕ) (l : List ℕ) (n : ℕ) → take (w * n) l ≡ joined (λ i. take w (drop (w * i) l)) n
unfolding joined
parts w l zero = let z : w * 0 ≡ 0 = omega arith in rw z
parts w l (suc n) =
    let s : w * suc n ≡ w * n + w = omega arith in
    rw (s, take-add (w * n) w l, parts w l n)

-- ---- the nodes of a table

abbrev pub node_of : List ℕ → ℕ → List ℕ
node_of cells i = form_at cells (suc i) ∷ attributes_at cells (suc i) ∷ detail_at cells (suc i) ∷ first_at cells (suc i) ∷ second_at cells (suc i) ∷ symbol_at cells (suc i) ∷ []

six : (l : List ℕ) → node_cells ≤ length l → take node_cells l ≡ get_or l 0 0 ∷ get_or l 1 0 ∷ get_or l 2 0 ∷ get_or l 3 0 ∷ get_or l 4 0 ∷ get_or l 5 0 ∷ []
six [] h = absurd (omega arith)
six (a ∷ []) h = absurd (omega arith)
six (a ∷ b ∷ []) h = absurd (omega arith)
six (a ∷ b ∷ c ∷ []) h = absurd (omega arith)
six (a ∷ b ∷ c ∷ d ∷ []) h = absurd (omega arith)
six (a ∷ b ∷ c ∷ d ∷ e ∷ []) h = absurd (omega arith)
six (a ∷ b ∷ c ∷ d ∷ e ∷ f ∷ l) h = refl

pub are_nodes : (cells : List ℕ) (n : ℕ) → node_cells * n ≤ length cells → take (node_cells * n) cells ≡ joined (node_of cells) n
unfolding cell_at
are_nodes cells n h = parts node_cells cells n ∙ join_same _ (node_of cells) n node
  where
    at : (i k : ℕ) → get_or (drop (node_cells * i) cells) k 0 ≡ get_or cells (node_cells * i + k) 0
    at i k = get_or-drop (node_cells * i) cells k 0

    node : (i : ℕ) → i < n → take node_cells (drop (node_cells * i) cells) ≡ node_of cells i
    node i l =
        let m = length-drop (node_cells * i) cells in
        six (drop (node_cells * i) cells) (omega arith) ∙ rw (at i 0, at i 1, at i 2, at i 3, at i 4, at i 5)

pub all_nodes : (cells : List ℕ) (n : ℕ) → length cells ≡ node_cells * n → cells ≡ joined (node_of cells) n
all_nodes cells n e = sym (take-length cells) ∙ rw e (are_nodes cells n (omega arith))
