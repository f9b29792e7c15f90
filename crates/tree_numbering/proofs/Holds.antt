-- A table that holds a numbering stands for the tree. Assumes nothing.
use mathlib.Core.Path.{◌≡◌, refl, sym, ap, ◌∙◌}
use mathlib.Core.List.{List, [], ◌∷◌, ◌++◌, append_assoc}
use Prim.Native.Nat.{ℕ, suc, ◌+◌, ◌*◌, ◌≤◌, ◌<◌}
use native.Mathlib.Omega.{arith}
use lib.ListN.{length, drop, get_or, length-append}
use lib.Seq.{drop-drop, drop_at, get_or-drop}
use Rattle.laws.specs.Lists.{over}
use Rattle.tree.specs.Sizes.{node_cells}
use Rattle.tree.specs.Table.{cell_at}
use Rattle.tree.specs.Trees.{Label, Tree, none, node, label_at, operand_of, tree_at}
use Rattle.tree.proofs.Unfold.{operand_in, operand_zero, tree_zero, tree_past, unfolds}
use Rattle.tree_numbering.specs.Numbered.{size, number_of, cells_from, numbered}

-- ---- six cells a node

pub length_cells : (i : ℕ) (t : Tree) → length (cells_from i t) ≡ node_cells * size t
unfolding cells_from size
length_cells i none = refl
length_cells i (node l a b) =
    let p = length_cells (suc i) a in
    let q = length_cells (suc i + size a) b in
    simp length-append (omega arith)

pub length_numbered : (t : Tree) → length (numbered t) ≡ node_cells * size t
unfolding numbered
length_numbered t = length_cells 1 t

-- ---- a table that holds the cells of a tree from node j + 1 on

-- an operand that has its number is present under it
operand_numbered : (t : Tree) (count i n : ℕ) → i < n → n + size t ≤ suc count → operand_of count i (number_of t n) ≡ number_of t n
unfolding number_of size
operand_numbered none count i n h k = operand_zero count i
operand_numbered (node l a b) count i n h k = operand_in count i n h (omega arith)

module _ (cells : List ℕ) where
  -- a place of a node, in what follows the nodes before it
  pub cell_held : (j k : ℕ) (here : List ℕ) → drop (node_cells * j) cells ≡ here → cell_at cells (suc j) k ≡ get_or here k 0
  unfolding cell_at
  cell_held j k here e = sym (get_or-drop (node_cells * j) cells k 0) ∙ rw e

  -- what follows m more nodes
  pub further : (j m n : ℕ) (before after : List ℕ) → n ≡ j + m → length before ≡ node_cells * m → drop (node_cells * j) cells ≡ before ++ after → drop (node_cells * n) cells ≡ after
  further j m n before after k l e =
      let s : node_cells * n ≡ node_cells * j + node_cells * m = omega arith in
      rw (s, ← drop-drop (node_cells * m) (node_cells * j) cells, e) (drop_at before after (node_cells * m) l)

  -- the cells of a tree from node j + 1 on
  abbrev pub Holds : ℕ → Tree → List ℕ → Type 0
  Holds j t rest = drop (node_cells * j) cells ≡ cells_from (suc j) t ++ rest

  -- a node's six cells, and where those of its operands begin
  pub record Parts (j : ℕ) (l : Label) (a b : Tree) (rest : List ℕ) : Type 0 where
    pub after : List ℕ
    pub own : drop (node_cells * j) cells ≡ l.form ∷ l.attributes ∷ l.detail ∷ number_of a (suc (suc j)) ∷ number_of b (suc (suc j) + size a) ∷ l.symbol ∷ after
    pub one : Holds (suc j) a (cells_from (suc (suc j + size a)) b ++ rest)
    pub two : Holds (suc j + size a) b rest

  pub parts : (j : ℕ) (l : Label) (a b : Tree) (rest : List ℕ) → Holds j (node l a b) rest → Parts j l a b rest
  unfolding cells_from
  parts j l a b rest e =
      let own = e ∙ ap (λ (xs : List ℕ). l.form ∷ l.attributes ∷ l.detail ∷ number_of a (suc (suc j)) ∷ number_of b (suc (suc j) + size a) ∷ l.symbol ∷ xs) (append_assoc (cells_from (suc (suc j)) a) (cells_from (suc (suc j) + size a) b) rest) in
      let p = further j 1 (suc j) (l.form ∷ l.attributes ∷ l.detail ∷ number_of a (suc (suc j)) ∷ number_of b (suc (suc j) + size a) ∷ l.symbol ∷ []) _ (omega arith) refl own in
      let s : suc (suc j) + size a ≡ suc (suc j + size a) = omega arith in
      let p' = rw s at p in
      let q = further (suc j) (size a) (suc j + size a) (cells_from (suc (suc j)) a) (cells_from (suc (suc j + size a)) b ++ rest) refl (length_cells (suc (suc j)) a) p' in
      record { after = _; own = own; one = p'; two = q }

  held_node : (l : Label) (a b : Tree) (count j x y : ℕ) (after : List ℕ) → j < count → drop (node_cells * j) cells ≡ l.form ∷ l.attributes ∷ l.detail ∷ x ∷ y ∷ l.symbol ∷ after
      → operand_of count (suc j) x ≡ x → operand_of count (suc j) y ≡ y → tree_at cells count x ≡ a → tree_at cells count y ≡ b
      → tree_at cells count (suc j) ≡ node l a b
  unfolding label_at
  held_node l a b count j x y after h e p q f g =
      unfolds cells count (suc j) (omega arith) (omega arith)
      ∙ rw (cell_held j 0 _ e, cell_held j 1 _ e, cell_held j 2 _ e, cell_held j 3 _ e, cell_held j 4 _ e, cell_held j 5 _ e, p, q, f, g)

  pub held : (t : Tree) (count j : ℕ) (rest : List ℕ) → j + size t ≤ count → Holds j t rest → tree_at cells count (number_of t (suc j)) ≡ t
  unfolding size number_of
  held none count j rest h e = tree_zero cells count
  held (node l a b) count j rest h e =
      let r = parts j l a b rest e in
      let s : suc (suc j) + size a ≡ suc (suc j + size a) = omega arith in
      held_node l a b count j (number_of a (suc (suc j))) (number_of b (suc (suc j) + size a)) _ (omega arith) r.own
      (operand_numbered a count (suc j) (suc (suc j)) (omega arith) (omega arith))
      (operand_numbered b count (suc j) (suc (suc j) + size a) (omega arith) (omega arith))
      (held a count (suc j) _ (omega arith) r.one)
      (rw s (held b count (suc j + size a) rest (omega arith) r.two))

-- ---- the whole table

pub numbered_tree : (t : Tree) (rest : List ℕ) → size t ≤ 65535 → tree_at (numbered t ++ rest) (size t) 1 ≡ t
unfolding numbered number_of size
numbered_tree none rest h = tree_past _ 0 1 (omega arith)
numbered_tree (node l a b) rest h = held (numbered (node l a b) ++ rest) (node l a b) (size (node l a b)) 0 rest (omega arith) refl

-- written over the start of a longer table
pub over_numbered : (t : Tree) (table : List ℕ) → size t ≤ 65535 → tree_at (over (numbered t) table) (size t) 1 ≡ t
unfolding over
over_numbered t table h = numbered_tree t (drop (length (numbered t)) table) h
