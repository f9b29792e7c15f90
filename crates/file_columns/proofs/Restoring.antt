-- Nodes restored one after the other. Assumes nothing.
use mathlib.Core.Path.{◌≡◌, refl, sym, ◌∙◌}
use mathlib.Core.Bool.{Bool, true, false, ◌||◌}
use mathlib.Core.List.{List, [], ◌∷◌}
use Prim.Native.Nat.{ℕ, suc, ◌+◌, ◌*◌, ◌≤◌, ◌<◌}
use native.Mathlib.Omega.{arith}
use native.Mathlib.Decide.{dec_le}
use lib.Dec.{ltb}
use lib.ListN.{length}
use borrow.Author.Tests.{lt-ltb, le-ltb}
use Rattle.laws.specs.Each.{some}
use Rattle.laws.specs.Lists.{over}
use Rattle.laws.specs.Puts.{Put}
use Rattle.laws.proofs.Choice.{or_here, or_next}
use Rattle.laws.proofs.Each.{some_more, some_found}
use Rattle.laws.proofs.Putting.{put_over}
use Rattle.tree.specs.Sizes.{node_cells}
use Rattle.tree.specs.Table.{form_column, attributes_column, detail_column, first_column, second_column, symbol_column}
use Rattle.file_columns.specs.Columns.{joined, column_at, rise, fall, rises, falls, restored_form, operand_in, restored_node, restored, most_restored, outside_form, outside, refusal19}
use Rattle.file_columns.proofs.Held.{moved_outside}
use Rattle.file_columns.proofs.Joined.{join_length, join_put_none, join_put}

shifted : (a b k : ℕ) → ltb (a + k) (b + k) ≡ ltb a b
shifted a b k = go (dec_le b a)
  where
    go : Dec (b ≤ a) → ltb (a + k) (b + k) ≡ ltb a b
    go (yes h) = le-ltb (a + k) (b + k) (omega arith) ∙ sym (le-ltb a b h)
    go (no h) = lt-ltb (a + k) (b + k) (omega arith) ∙ sym (lt-ltb a b (omega arith))

module _ (count : ℕ) (held : List ℕ) where
  abbrev node_at : ℕ → List ℕ
  node_at i = restored_node count held (suc i)

  -- an operand of node i is outside
  abbrev pub far_operand : ℕ → Bool
  far_operand i = ltb most_restored (operand_in count held first_column i) || ltb most_restored (operand_in count held second_column i)

  -- the form of node n, which is the integer between what is added and what is taken up to it
  abbrev pub Stands : ℕ → ℕ → Type 0
  Stands n form = form + falls count held n ≡ rises count held n

  pub stands_none : Stands 0 0
  unfolding rises falls
  stands_none = refl

  module _ (n form : ℕ) (s : Stands n form) where
    next_form : outside_form count held (suc n) ≡ moved_outside form (column_at count held form_column (suc n))
    unfolding outside_form rises falls
    next_form =
        let h = column_at count held form_column (suc n) in
        let a : rises count held n + rise h ≡ form + rise h + falls count held n = omega arith in
        let b : falls count held n + fall h ≡ fall h + falls count held n = omega arith in
        let d : falls count held n + fall h + most_restored ≡ fall h + most_restored + falls count held n = omega arith in
        rw (d, a, b, shifted (form + rise h) (fall h) (falls count held n), shifted (fall h + most_restored) (form + rise h) (falls count held n))

    pub stands_next : (next : ℕ) → next + fall (column_at count held form_column (suc n)) ≡ form + rise (column_at count held form_column (suc n)) → Stands (suc n) next
    unfolding rises falls
    stands_next next e = omega arith

    -- node n + 1 is outside by its form, or by an operand
    pub out_form : (n < count) → moved_outside form (column_at count held form_column (suc n)) ≡ true → refusal19 count held ≡ true
    unfolding refusal19 outside
    out_form l e = some_found (outside count held) count (suc n) (omega arith) (omega arith) (or_here _ (next_form ∙ e))

    pub out_operand : (n < count) → moved_outside form (column_at count held form_column (suc n)) ≡ false → far_operand (suc n) ≡ true → refusal19 count held ≡ true
    unfolding refusal19 outside
    out_operand l e f = some_found (outside count held) count (suc n) (omega arith) (omega arith) (or_next _ (next_form ∙ e) ∙ f)

    -- or it is not
    pub inside_more : some (outside count held) n ≡ false → moved_outside form (column_at count held form_column (suc n)) ≡ false → far_operand (suc n) ≡ false → some (outside count held) (n + 1) ≡ false
    unfolding outside
    inside_more p e f =
        let z : n + 1 ≡ suc n = omega arith in
        some_more (outside count held) n p (rw z (or_next _ (next_form ∙ e) ∙ f))

  pub is_form : (n form : ℕ) → Stands n form → form ≡ restored_form count held n
  unfolding restored_form
  is_form n form s = omega arith

  -- ---- the array

  pub restored_length : (n : ℕ) → length (joined (λ i. restored_node count held (suc i)) n) ≡ node_cells * n
  unfolding restored_node
  restored_length n = join_length node_cells node_at n (λ i. refl)

  pub nodes_none : (cells : List ℕ) → Put cells 0 (joined (λ i. restored_node count held (suc i)) 0) cells (node_cells * 0)
  nodes_none cells = join_put_none node_at cells 0

  pub nodes_more : (n form : ℕ) {before mid after : List ℕ} → Stands (suc n) form → Put before 0 (joined (λ i. restored_node count held (suc i)) n) mid (node_cells * n)
      → Put mid (node_cells * n) (form ∷ column_at count held attributes_column (suc n) ∷ column_at count held detail_column (suc n) ∷ operand_in count held first_column (suc n) ∷ operand_in count held second_column (suc n) ∷ column_at count held symbol_column (suc n) ∷ []) after (node_cells * n + node_cells)
      → Put before 0 (joined (λ i. restored_node count held (suc i)) (n + 1)) after (node_cells * (n + 1))
  unfolding restored_node
  nodes_more n form s p q =
      let z : node_cells * (n + 1) ≡ node_cells * n + node_cells = omega arith in
      rw z (join_put node_at n (n + 1) (omega arith) p (rw (is_form (suc n) form s) at q))

  pub nodes_all : (n : ℕ) {before after : List ℕ} {next : ℕ} → n ≡ count → node_cells * count ≤ length before → Put before 0 (joined (λ i. restored_node count held (suc i)) n) after next → after ≡ over (restored count held) before
  unfolding restored
  nodes_all n e room p = let l = restored_length count in put_over (rw e at p) (omega arith)

  pub none_outside : (n : ℕ) → n ≡ count → some (outside count held) n ≡ false → refusal19 count held ≡ false
  unfolding refusal19
  none_outside n e p = rw e at p

  pub none_yet : some (outside count held) 0 ≡ false
  unfolding some
  none_yet = refl
