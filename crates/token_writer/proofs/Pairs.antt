-- The rows of an accepted plain table: they have no inner pairs, and tokens and pairs by rows are those by places. Assumes nothing.
use mathlib.Core.Path.{◌≡◌, refl, sym, ap, ap₂, ◌∙◌}
use mathlib.Core.Bool.{Bool, true, false, not}
use mathlib.Core.List.{List, [], ◌∷◌}
use Prim.Native.Nat.{ℕ, ◌+◌, ◌*◌, ◌-◌, ◌≤◌}
use native.Mathlib.Omega.{arith}
use native.Mathlib.Decide.{dec_le}
use lib.Dec.{eqb}
use lib.ListN.{length, get_or, replicate, length-replicate}
use borrow.Author.Tests.{eqb-true, not-true, not-false}
use Rattle.bools.specs.Bits.{bit_of}
use Rattle.laws.specs.Choice.{pick, lookup, is_one_of}
use Rattle.laws.proofs.Choice.{and_true, true_not_false}
use Rattle.laws.proofs.Each.{some_none}
use Rattle.tree.specs.Sizes.{row_cells}
use Rattle.tree.specs.Forms.{expr_assign, expr_binary, expr_cast, expr_range}
use Rattle.tree.specs.Table.{first_column, second_column}
use Rattle.tree.specs.Trees.{Label, Tree, none, node, label_at, operand_at, tree_at}
use Rattle.tree.specs.Walks.{is_there, at_root}
use Rattle.tree.proofs.Unfold.{tree_past, unfolds}
use Rattle.tree_rules.specs.Refusals.{Accepted}
use Rattle.tree_rules.proofs.Accepted.{count_bounds}
use Rattle.tree_numbering.proofs.Sizes.{weigh, weighed}
use Rattle.expr.specs.declared.Handed.{Handed}
use Rattle.expr.specs.Handed.{neither}
use Rattle.expr.specs.declared.order.CalleeOrder.TheVariants.{Ours}
use Rattle.expr.specs.Expr.{hands_first, hands_second}
use Rattle.row.specs.Rows.{is_expression, outer_pair, inner_lines, inner_pair, pair_by, expression_row, zeros, row_of, own_context, rows_of}
use Rattle.row_walk.specs.Walk.{root_handed, placed}
use Rattle.row_walk.specs.Paths.{Branch, first, second, number_at, tree_by, handed_by}
use Rattle.row_walk.proofs.Paths.{tree_at_lem, there_at, row_on_path}
use Rattle.row_walk.proofs.Replies as replies
use Rattle.token_grammar.specs.Types.{one}
use Rattle.token_grammar.specs.Expressions.{Expr}
use Rattle.token_grammar.specs.Grammar.{Context, context_number}
use Rattle.token_plain.specs.Plain.{is_plain, plain_table}
use Rattle.token_plain.specs.Trees.{tree_of}
use Rattle.token_plain.specs.Written.{tokens_at, has_pair}
use Rattle.token_plain.proofs.FromTable.{from_table}
use Rattle.token_rows.proofs.Contexts.{begun}
use Rattle.token_rows.proofs.Tokens.{tokens_for}
use Rattle.token_rows.proofs.LeftOut.{marked_at}
use Rattle.token_rows.proofs.Numbers.{pair_at, tokens_from}
use Rattle.token_writer.specs.Writes.{rows_for, written, one_pair, pairs_written}
use Rattle.token_writer.specs.Levels.{place, tokens_by, pairs_by}
use Rattle.token_writer.proofs.ByLevels.{flag, pairs_for, tokens_same, pairs_same, root_same}

-- ---- a row without attributes has no inner pair

pick_same : {A : Type 0} (b : Bool) (x : A) → pick b x x ≡ x
unfolding pick
pick_same true x = refl
pick_same false x = refl

inner_none : (l : Label) (a b : Tree) → l.attributes ≡ 0 → inner_pair (node l a b) ≡ false
unfolding at_root inner_lines lookup
inner_none l a b e = rw e (pick_same (is_one_of (expr_assign ∷ expr_binary ∷ expr_cast ∷ expr_range ∷ []) l.form) false)

row_pair : (h : Handed) (t : Tree) → (row_of h t).pair ≡ pick (is_expression t) (pair_by (outer_pair h t) (inner_pair t)) 0
unfolding row_of expression_row pick
row_pair h t = go (is_expression t)
  where
    go : (x : Bool) → (pick x (expression_row h t) zeros).pair ≡ pick x (pair_by (outer_pair h t) (inner_pair t)) 0
    go true = refl
    go false = refl

pair_is_one : (h : Handed) (t : Tree) → inner_pair t ≡ false → eqb (row_of h t).pair 1 ≡ is_one_of (1 ∷ 3 ∷ []) (row_of h t).pair
unfolding pick
pair_is_one h t e = rw (row_pair h t) (go (is_expression t) (inner_pair t) e (outer_pair h t))
  where
    go : (x i : Bool) → i ≡ false → (o : Bool) → eqb (pick x (pair_by o i) 0) 1 ≡ is_one_of (1 ∷ 3 ∷ []) (pick x (pair_by o i) 0)
    go true true q o = true_not_false q
    go true false q true = refl
    go true false q false = refl
    go false i q o = refl

-- ---- from numbers to what is handed down

module _ (cells : List ℕ) (count : ℕ) (way : ℕ → ℕ) where
  weigh_marked : (t : Tree) (i : ℕ) (h : Handed) → ((p : List Branch) → is_there (tree_by t p) ≡ true → way (number_at cells count i p) ≡ bit_of (marked_at h t p))
      → weigh cells count way i t ≡ pairs_for h t
  unfolding weigh pairs_for marked_at
  weigh_marked none i h k = refl
  weigh_marked (node l a b) i h k =
      let x = own_context h (node l a b) in
      ap₂ ◌+◌ (k [] refl)
      (ap₂ ◌+◌ (weigh_marked a (operand_at cells count i first_column) (hands_first Ours x (node l a b)) (λ p e. k (first ∷ p) e))
      (weigh_marked b (operand_at cells count i second_column) (hands_second x (node l a b)) (λ p e. k (second ∷ p) e)))

-- ---- an accepted plain table

module _ (k : Context) (count : ℕ) (cells : List ℕ) (ok : Accepted (context_number k) count cells) (plain : plain_table count cells ≡ true) where
  abbrev context : ℕ
  context = context_number k

  abbrev root : Tree
  root = tree_at cells count 1

  low : 1 ≤ count
  low = (count_bounds context count cells ok).0

  abbrev pub blank : List ℕ
  blank = replicate (row_cells * count) 0

  pub room : row_cells * count ≤ length blank
  room = rw (length-replicate {A = ℕ} (row_cells * count) 0) (omega arith)

  abbrev pub rows : List ℕ
  rows = placed cells count 1 (rows_of Ours (root_handed context root) root) blank

  pub rows_are : rows_for context count cells ≡ rows
  unfolding rows_for
  rows_are = replies.rows_are Ours context count cells blank ok room

  -- ---- no attributes

  plain_at : (j : ℕ) → 1 ≤ j → j ≤ count → (label_at cells j).attributes ≡ 0
  unfolding plain_table is_plain
  plain_at j p q =
      let f = some_none (λ i. not (is_plain (label_at cells i))) count (not-true _ plain) j p q in
      eqb-true (label_at cells j).attributes 0 (and_true _ _ (not-false _ f)).0

  pub high_at : (p : List Branch) → is_there (tree_by root p) ≡ true → number_at cells count 1 p ≤ count
  high_at p e = go (dec_le (number_at cells count 1 p) count)
    where
      go : Dec (number_at cells count 1 p ≤ count) → number_at cells count 1 p ≤ count
      go (yes h) = h
      go (no h) =
          true_not_false (sym e
          ∙ ap is_there (sym (tree_at_lem cells count 1 p (omega arith) low (there_at cells count 1 p e)) ∙ tree_past cells count (number_at cells count 1 p) (omega arith)))

  inner_at : (p : List Branch) → is_there (tree_by root p) ≡ true → inner_pair (tree_by root p) ≡ false
  inner_at p e =
      let j = number_at cells count 1 p in
      let there = there_at cells count 1 p e in
      ap inner_pair (sym (tree_at_lem cells count 1 p (omega arith) low there) ∙ unfolds cells count j there (high_at p e))
      ∙ inner_none (label_at cells j) (tree_at cells count (operand_at cells count j first_column)) (tree_at cells count (operand_at cells count j second_column)) (plain_at j there (high_at p e))

  -- ---- a row whose pair is 1 is one with an outer pair

  pair_is : (p : List Branch) → is_there (tree_by root p) ≡ true → get_or (rows_for context count cells) (row_cells * (number_at cells count 1 p - 1)) 0 ≡ (row_of (handed_by Ours (root_handed context root) root p) (tree_by root p)).pair
  pair_is p e =
      ap (λ r. get_or r (row_cells * (number_at cells count 1 p - 1)) 0) rows_are
      ∙ ap (λ r. r.pair) (row_on_path cells count context ok Ours 1 p (root_handed context root) blank (omega arith) low room (there_at cells count 1 p e))

  pub as_rows : (p : List Branch) → is_there (tree_by root p) ≡ true → one_pair (rows_for context count cells) (number_at cells count 1 p) ≡ bit_of (has_pair (rows_for context count cells) (number_at cells count 1 p))
  unfolding one_pair has_pair
  as_rows p e =
      ap (λ n. bit_of (eqb n 1)) (pair_is p e)
      ∙ ap bit_of (pair_is_one (handed_by Ours (root_handed context root) root p) (tree_by root p) (inner_at p e))
      ∙ sym (ap (λ n. bit_of (is_one_of (1 ∷ 3 ∷ []) n)) (pair_is p e))

  -- ---- by places

  -- where the root stands
  abbrev pub root_place : ℕ
  root_place = place 0 false (flag k)

  abbrev tree : Expr one
  tree = (from_table context count cells ok plain).0

  tree_is : tree_of tree ≡ root
  tree_is = (from_table context count cells ok plain).1

  pub written_by_places : written context count cells ≡ tokens_by root_place root []
  unfolding written
  written_by_places =
      ap (λ r. tokens_at cells count (has_pair r) 1 root []) rows_are
      ∙ tokens_from k count cells ok blank room []
      ∙ ap (λ t. tokens_for (neither (begun k) t) t []) (sym tree_is)
      ∙ tokens_same (tree_of tree) (neither (begun k) (tree_of tree)) root_place (root_same k tree) []
      ∙ ap (λ t. tokens_by root_place t []) tree_is

  pub pairs_by_places : pairs_written context count cells ≡ pairs_by root_place root
  unfolding pairs_written
  pairs_by_places =
      sym (weighed context count cells ok (one_pair (rows_for context count cells)))
      ∙ weigh_marked cells count (one_pair (rows_for context count cells)) root 1 (neither (begun k) root)
      (λ p e. as_rows p e ∙ ap bit_of (ap (λ r. has_pair r (number_at cells count 1 p)) rows_are ∙ pair_at k count cells ok blank room p e))
      ∙ ap (λ t. pairs_for (neither (begun k) t) t) (sym tree_is)
      ∙ pairs_same (tree_of tree) (neither (begun k) (tree_of tree)) root_place (root_same k tree)
      ∙ ap (pairs_by root_place) tree_is
