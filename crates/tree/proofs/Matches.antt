-- What a `match` on a node's form knows of the node, for questions that a table over the forms answers. Assumes nothing.
use mathlib.Core.Path.{◌≡◌, refl, sym, ap, ◌∙◌}
use mathlib.Core.Bool.{false}
use mathlib.Core.List.{List, [], ◌∷◌}
use Prim.Native.Nat.{ℕ, zero, suc, ◌≤◌, ◌<◌}
use native.Mathlib.Omega.{arith}
use native.Mathlib.Decide.{dec_le}
use lib.Dec.{T}
use mir.Val.{has_key}
use types.Run.{OneOf}
use borrow.Author.Tests.{le-leb, lt-leb}
use Rattle.laws.specs.Choice.{Line, line, lookup}
use Rattle.laws.proofs.Choice.{pick_true, pick_false, true_not_false, true_of, of_true, and_true}
use Rattle.laws.proofs.Keys.{among, disjoint, apart, numbers_at, given_at, apart_before, apart_from, arms, arm, Missed, rest}
use Rattle.std.specs.Prelude.{Option}
use Rattle.tree.specs.Table.{form_at, first_column, second_column}
use Rattle.tree.specs.Trees.{Label, Tree, none, label_at, operand_at, tree_at}
use Rattle.tree.specs.Operands.{presence, form_in}
use Rattle.tree.specs.Walks.{Ask, answer, at_root}
use Rattle.tree.specs.Steps.{Step, ends, step_by, step_at}
use Rattle.tree.proofs.Unfold.{tree_zero, tree_past, unfolds}
use Rattle.tree.proofs.Walks.{step_in, step_out, step_past}

-- no row has the number 0
none_zero : {A : Type 0} (rows : List (Line A)) (j : ℕ) → T (apart_from rows (0 ∷ [])) → has_key (numbers_at rows j) 0 ≡ false
none_zero [] j t = refl
none_zero (line ks a ∷ rows) zero t = apart (0 ∷ []) ks 0 (of_true (and_true (disjoint (0 ∷ []) ks) (apart_from rows (0 ∷ [])) (true_of t)).0) refl
none_zero (line ks a ∷ rows) (suc j) t = none_zero rows j (of_true (and_true (disjoint (0 ∷ []) ks) (apart_from rows (0 ∷ [])) (true_of t)).1)

module _ (cells : List ℕ) (count i : ℕ) where
  abbrev pub first_at : Option ℕ
  first_at = presence (operand_at cells count i first_column)

  abbrev pub second_at : Option ℕ
  second_at = presence (operand_at cells count i second_column)

  -- a node that is there, or none
  pub form_in_lem : 1 ≤ i → i ≤ count → form_in cells count i ≡ form_at cells i
  unfolding form_in
  form_in_lem h k = pick_true _ _ (rw (le-leb 1 i h, le-leb i count k))

  form_past : 1 ≤ i → count < i → form_in cells count i ≡ 0
  unfolding form_in
  form_past h k = pick_false _ _ (rw (le-leb 1 i h, lt-leb i count k))

  form_out : i < 1 → form_in cells count i ≡ 0
  unfolding form_in
  form_out h = pick_false _ _ (rw (lt-leb 1 i h))

  pub form_none : (1 ≤ i → i ≤ count → ⊥) → form_in cells count i ≡ 0
  form_none n = go (dec_le 1 i) (dec_le i count)
    where
      go : Dec (1 ≤ i) → Dec (i ≤ count) → form_in cells count i ≡ 0
      go (yes h) (yes k) = absurd (n h k)
      go (yes h) (no k) = form_past h (omega arith)
      go (no h) d = form_out (omega arith)

  -- ---- a question that a table over the forms answers, and `other` where it has no row

  module _ {A : Type 0} (rows : Label → Tree → Tree → List (Line (Ask A))) (other : Label → A) (missing : A) where
    abbrev pub lines_at : List (Line (Ask A))
    lines_at = rows (label_at cells i) (tree_at cells count (operand_at cells count i first_column)) (tree_at cells count (operand_at cells count i second_column))

    module _ (form : ℕ) (is : form ≡ form_in cells count i) where
      step_form : 1 ≤ i → i ≤ count → step_at rows other missing cells count i ≡ step_by missing (lookup lines_at (answer (other (label_at cells i))) form) first_at second_at
      unfolding label_at
      step_form h k = step_in rows other missing cells count i h k ∙ rw (is ∙ form_in_lem h k)

      -- arm j of the table, and what the row asks
      pub form_arm : T (apart_from (arms lines_at) (0 ∷ [])) → (j : ℕ) → T (apart_before (arms lines_at) j (numbers_at (arms lines_at) j)) → OneOf (numbers_at (arms lines_at) j) form → (q : Ask A) → given_at (arms lines_at) (answer (other (label_at cells i))) j ≡ q
          → step_by missing q first_at second_at ≡ step_at rows other missing cells count i
      form_arm t j u o q g = go (dec_le 1 i) (dec_le i count)
        where
          found_j : lookup lines_at (answer (other (label_at cells i))) form ≡ q
          found_j = arm lines_at (answer (other (label_at cells i))) form j u o ∙ g

          nowhere : form ≡ 0 → step_by missing q first_at second_at ≡ step_at rows other missing cells count i
          nowhere e = true_not_false (sym (among (numbers_at (arms lines_at) j) form o) ∙ rw e (none_zero (arms lines_at) j t))

          go : Dec (1 ≤ i) → Dec (i ≤ count) → step_by missing q first_at second_at ≡ step_at rows other missing cells count i
          go (yes h) (yes k) = sym (step_form h k ∙ rw found_j)
          go (yes h) (no k) = nowhere (is ∙ form_past h (omega arith))
          go (no h) d = nowhere (is ∙ form_out (omega arith))

      -- the default arm: what `other` asks where there is a node, and `missing` where there is none
      pub form_rest : Missed (Unit {0}) (arms lines_at) form → (q : Step A) → (1 ≤ i → i ≤ count → step_by missing (answer (other (label_at cells i))) first_at second_at ≡ q) → ((1 ≤ i → i ≤ count → ⊥) → ends missing ≡ q)
          → q ≡ step_at rows other missing cells count i
      form_rest m q here gone = go (dec_le 1 i) (dec_le i count)
        where
          go : Dec (1 ≤ i) → Dec (i ≤ count) → q ≡ step_at rows other missing cells count i
          go (yes h) (yes k) = sym (step_form h k ∙ rw (rest lines_at (answer (other (label_at cells i))) form m) (here h k))
          go (yes h) (no k) = sym (step_past rows other missing cells count i h (omega arith) ∙ gone (λ a b. k b))
          go (no h) d = sym (step_out rows other missing cells count i (omega arith) ∙ gone (λ a b. h a))

  -- ---- a question that a node answers by itself, and `other` where the table has no row

  module _ {A : Type 0} (rows : Label → Tree → Tree → List (Line A)) (other : A) where
    abbrev pub root_lines : List (Line A)
    root_lines = rows (label_at cells i) (tree_at cells count (operand_at cells count i first_column)) (tree_at cells count (operand_at cells count i second_column))

    root_form : 1 ≤ i → i ≤ count → at_root rows other (tree_at cells count i) ≡ lookup root_lines other (form_in cells count i)
    unfolding at_root label_at
    root_form h k = rw (form_in_lem h k, unfolds cells count i h k)

    root_none : tree_at cells count i ≡ none → at_root rows other (tree_at cells count i) ≡ other
    unfolding at_root
    root_none e = rw e

    module _ (form : ℕ) (is : form ≡ form_in cells count i) where
      -- arm j of the table
      pub root_arm : T (apart_from (arms root_lines) (0 ∷ [])) → (j : ℕ) → T (apart_before (arms root_lines) j (numbers_at (arms root_lines) j)) → OneOf (numbers_at (arms root_lines) j) form → given_at (arms root_lines) other j ≡ at_root rows other (tree_at cells count i)
      root_arm t j u o = go (dec_le 1 i) (dec_le i count)
        where
          nowhere : form ≡ 0 → given_at (arms root_lines) other j ≡ at_root rows other (tree_at cells count i)
          nowhere e = true_not_false (sym (among (numbers_at (arms root_lines) j) form o) ∙ rw e (none_zero (arms root_lines) j t))

          go : Dec (1 ≤ i) → Dec (i ≤ count) → given_at (arms root_lines) other j ≡ at_root rows other (tree_at cells count i)
          go (yes h) (yes k) = sym (root_form h k ∙ ap (lookup root_lines other) (sym is) ∙ arm root_lines other form j u o)
          go (yes h) (no k) = nowhere (is ∙ form_past h (omega arith))
          go (no h) d = nowhere (is ∙ form_out (omega arith))

      -- the default arm
      pub root_rest : Missed (Unit {0}) (arms root_lines) form → other ≡ at_root rows other (tree_at cells count i)
      root_rest m = go (dec_le 1 i) (dec_le i count)
        where
          go : Dec (1 ≤ i) → Dec (i ≤ count) → other ≡ at_root rows other (tree_at cells count i)
          go (yes h) (yes k) = sym (root_form h k ∙ ap (lookup root_lines other) (sym is) ∙ rest root_lines other form m)
          go (yes h) (no k) = sym (root_none (tree_past cells count i (omega arith)))
          go (no h) d = sym (root_none (let z : i ≡ 0 = omega arith in rw z (tree_zero cells count)))
