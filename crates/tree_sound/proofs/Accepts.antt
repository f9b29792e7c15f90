-- A tree all of whose nodes keep the rules of a node, of at most 4,096 nodes and 128 levels, numbered, is an accepted table; and an accepted table's tree is such a tree. Assumes nothing.
use mathlib.Core.Path.{◌≡◌, refl, sym, ap, ◌∙◌}
use mathlib.Core.Bool.{Bool, false, not, ◌||◌}
use mathlib.Core.List.{List, ◌++◌}
use mathlib.Core.Logic.{inl, inr}
use Prim.Native.Nat.{ℕ, ◌+◌, ◌*◌, ◌-◌, ◌≤◌}
use native.Mathlib.Omega.{arith}
use native.Mathlib.Decide.{dec_le}
use lib.Dec.{eqb, ltb}
use lib.ListN.{length, length-append}
use borrow.Author.Tests.{eq-eqb, ne_eqb, lt-leb, le-ltb}
use Rattle.tree.specs.Sizes.{node_cells, most_nodes, most_levels}
use Rattle.laws.specs.Choice.{pick}
use Rattle.laws.specs.Each.{some}
use Rattle.laws.proofs.Choice.{or_false}
use Rattle.laws.proofs.Each.{some_none}
use Rattle.tree.specs.Forms.{an_expression}
use Rattle.tree.specs.Table.{first_at, second_at, class_at}
use Rattle.tree.specs.Trees.{Label, Tree, none, node, label_at, tree_at, levels}
use Rattle.tree.proofs.Unfold.{tree_zero, tree_past}
use Rattle.tree_places.specs.Places.{bad_operands}
use Rattle.tree_rules.specs.Refusals.{refusal3, refusal4, refusal6, refusal7, refusal8, refusal9, refusal10, refusal11, bad_numbers, misplaced, bad_order, owners, bad_owner, empty, bad_output, first_of, node_refusals, refusal, Accepted}
use Rattle.tree_rules.proofs.First.{passed}
use Rattle.tree_rules.proofs.Accepted.{first_standing, second_standing, root_expression, numbers_allowed, not_empty, count_bounds}
use Rattle.tree_numbering.specs.Numbered.{size, numbered}
use Rattle.tree_numbering.proofs.Holds.{length_numbered, numbered_tree, Holds}
use Rattle.tree_sound.proofs.Sound.{root_class, bad_label, other_operands, empty_label, output_broken, some_node, Sound}
use Rattle.tree_sound.proofs.Tables.{Stands, Ordered, node_at, class_at_lem, operands_at, output_at}
use Rattle.tree_sound.proofs.Numbers.{none_some, ordered_in, some_held, within, owners_held}

-- ---- a numbered tree

module _ (t : Tree) (rest : List ℕ) where
  abbrev table : List ℕ
  table = numbered t ++ rest

  holds : Holds table 0 t rest
  unfolding numbered
  holds = refl

  pub numbered_ordered : Ordered table (size t)
  numbered_ordered = record {
    firsts = λ i low high. (ordered_in table t (size t) 0 rest (omega arith) holds i low (omega arith)).first_stands;
    seconds = λ i low high. (ordered_in table t (size t) 0 rest (omega arith) holds i low (omega arith)).second_stands;
  }

  -- a test at some node of the table is one at some node of the tree
  module _ (f : Label → Tree → Tree → Bool) (g : ℕ → Bool)
      (agree : (i : ℕ) → 1 ≤ i → i ≤ size t → g i ≡ f (label_at table i) (tree_at table (size t) (first_at table i)) (tree_at table (size t) (second_at table i))) where
    some_numbered : some g (size t) ≡ some_node f t
    unfolding some
    some_numbered =
        let z : size t ≡ 0 + size t = omega arith in
        ap (some g) z ∙ some_held table (size t) numbered_ordered f g agree t 0 rest (omega arith) holds

  pub numbered_6 : refusal6 table (size t) ≡ some_node (λ l a b. bad_label l) t
  unfolding refusal6 bad_numbers bad_label label_at
  numbered_6 = some_numbered (λ l a b. bad_label l) (bad_numbers table) (λ i low high. refl)

  operands_7 : some (bad_operands table (size t)) (size t) ≡ some_node other_operands t
  operands_7 = some_numbered other_operands (bad_operands table (size t)) (λ i low high. operands_at table (size t) numbered_ordered i low high)

  pub numbered_9 : refusal9 table (size t) ≡ some_node (λ l a b. empty_label l) t
  unfolding refusal9 empty empty_label label_at
  numbered_9 = some_numbered (λ l a b. empty_label l) (empty table) (λ i low high. refl)

  pub numbered_10 : refusal10 table (size t) ≡ some_node (λ l a b. output_broken l a) t
  unfolding refusal10
  numbered_10 = some_numbered (λ l a b. output_broken l a) (bad_output table) (λ i low high. output_at table (size t) numbered_ordered i low high)

  not_misplaced : (i o : ℕ) → Stands (size t) i o → misplaced (size t) i o ≡ false
  unfolding misplaced
  not_misplaced i o (inl z) = rw (eq-eqb o 0 z)
  not_misplaced i o (inr w) =
      let a = w.0 in
      rw (ne_eqb o 0 (λ e. omega arith), lt-leb o i w.0, le-ltb (size t) o w.1)

  in_order : (i : ℕ) → 1 ≤ i → i ≤ size t → bad_order table (size t) i ≡ false
  unfolding bad_order
  in_order i low high =
      rw (not_misplaced i (first_at table i) (numbered_ordered.firsts i low high), not_misplaced i (second_at table i) (numbered_ordered.seconds i low high))

  one_owner : (m : ℕ) → 1 ≤ m → m ≤ size t → bad_owner table (size t) m ≡ false
  unfolding bad_owner owners
  one_owner m low high = go (dec_le m 1)
    where
      go : Dec (m ≤ 1) → bad_owner table (size t) m ≡ false
      go (yes h) = rw (eq-eqb m 1 (omega arith))
      go (no h) =
          let z : 0 + size t ≡ size t = omega arith in
          let p = rw z at (owners_held table t 0 m rest low holds) in
          let q = within table 1 (size t) m (omega arith) high in
          rw (ne_eqb m 1 (λ e. omega arith), eq-eqb (owners table (size t) m) 1 (omega arith))

  pub numbered_8 : refusal8 table (size t) ≡ false
  unfolding refusal8
  numbered_8 = rw (none_some (bad_order table (size t)) (size t) in_order, none_some (bad_owner table (size t)) (size t) one_owner)

  module _ (few : size t ≤ most_nodes) where
    whole : tree_at table (size t) 1 ≡ t
    whole = numbered_tree t rest (omega arith)

    pub numbered_11 : refusal11 table (size t) ≡ ltb most_levels (levels t)
    unfolding refusal11
    numbered_11 = rw whole

    module _ (root : root_class t ≡ an_expression) where
      some_size : 1 ≤ size t
      unfolding size
      some_size = go t root
        where
          go : (t : Tree) → root_class t ≡ an_expression → 1 ≤ size t
          go none e = absurd (omega arith)
          go (node l a b) e = omega arith

      class_of_root : class_at table 1 ≡ an_expression
      class_of_root = class_at_lem table (size t) numbered_ordered 1 some_size ∙ ap root_class whole ∙ root

      room : refusal4 (size t) (length table) ≡ false
      unfolding refusal4
      room =
          let l = length-append (numbered t) rest in
          let m = length_numbered t in
          rw (ne_eqb (size t) 0 (λ e. let s = some_size in omega arith), le-ltb most_nodes (size t) few, le-ltb (length table) (node_cells * size t) (omega arith))

      module _ (context : ℕ) (known : context ≤ 3) (keeps : Sound t) (flat : levels t ≤ most_levels) (outputs : some_node (λ l a b. output_broken l a) t ≡ false) where
        pub numbered_accepted : Accepted context (size t) table
        unfolding refusal node_refusals first_of pick refusal3 refusal7
        numbered_accepted =
            rw (
              le-ltb 3 context known,
              room,
              numbered_6,
              keeps.not6,
              class_of_root,
              operands_7,
              keeps.not7,
              numbered_8,
              numbered_9,
              keeps.not9,
              numbered_10,
              outputs,
              numbered_11,
              le-ltb most_levels (levels t) flat,
            )

-- ---- an accepted table's tree

module _ (context count : ℕ) (cells : List ℕ) (ok : Accepted context count cells) where
  pub accepted_ordered : Ordered cells count
  accepted_ordered = record {
    firsts = λ i low high. first_standing context count cells ok i low high;
    seconds = λ i low high. second_standing context count cells ok i low high;
  }

  operands_right : (i : ℕ) → 1 ≤ i → i ≤ count → bad_operands cells count i ≡ false
  unfolding refusal node_refusals refusal7
  operands_right i low high =
      let r3 = passed 3 _ _ (omega arith) ok in
      let r4 = passed 4 _ _ (omega arith) r3.1 in
      let r6 = passed 6 _ _ (omega arith) r4.1 in
      let r7 = passed 7 _ _ (omega arith) r6.1 in
      some_none (bad_operands cells count) count (or_false (not (eqb (class_at cells 1) an_expression)) _ r7.0).1 i low high

  -- what holds at no node of the table holds at no node of a tree in it
  module _ (f : Label → Tree → Tree → Bool)
      (nowhere : (i : ℕ) → 1 ≤ i → i ≤ count → f (label_at cells i) (tree_at cells count (first_at cells i)) (tree_at cells count (second_at cells i)) ≡ false) where
    no_node : (t : Tree) (i : ℕ) → tree_at cells count i ≡ t → some_node f t ≡ false
    unfolding some_node
    no_node none i e = refl
    no_node (node l a b) i e = go (dec_le 1 i) (dec_le i count) (no_node a) (no_node b)
      where
        out : tree_at cells count i ≡ none → (f l a b || (some_node f a || some_node f b)) ≡ false
        out n = absurd (let z : ◌≡◌ {A = ℕ} 0 1 = cc in omega arith)

        go : Dec (1 ≤ i) → Dec (i ≤ count) → ((i : ℕ) → tree_at cells count i ≡ a → some_node f a ≡ false) → ((i : ℕ) → tree_at cells count i ≡ b → some_node f b ≡ false)
            → (f l a b || (some_node f a || some_node f b)) ≡ false
        go (yes low) (yes high) left right =
            let n = sym (node_at cells count accepted_ordered i low high) ∙ e in
            let x : label_at cells i ≡ l = cc in
            let y : tree_at cells count (first_at cells i) ≡ a = cc in
            let z : tree_at cells count (second_at cells i) ≡ b = cc in
            rw (rw (x, y, z) at (nowhere i low high), left (first_at cells i) y, right (second_at cells i) z)
        go (yes low) (no k) left right = out (tree_past cells count i (omega arith))
        go (no k) d left right = out (let z : i ≡ 0 = omega arith in rw z (tree_zero cells count))

  output_right : (i : ℕ) → 1 ≤ i → i ≤ count → bad_output cells i ≡ false
  unfolding refusal node_refusals refusal10
  output_right i low high =
      let r3 = passed 3 _ _ (omega arith) ok in
      let r4 = passed 4 _ _ (omega arith) r3.1 in
      let r6 = passed 6 _ _ (omega arith) r4.1 in
      let r7 = passed 7 _ _ (omega arith) r6.1 in
      let r8 = passed 8 _ _ (omega arith) r7.1 in
      let r9 = passed 9 _ _ (omega arith) r8.1 in
      let r10 = passed 10 _ _ (omega arith) r9.1 in
      some_none (bad_output cells) count r10.0 i low high

  pub accepted_outputs : (i : ℕ) → some_node (λ l a b. output_broken l a) (tree_at cells count i) ≡ false
  accepted_outputs i =
      no_node (λ l a b. output_broken l a) (λ i low high. sym (output_at cells count accepted_ordered i low high) ∙ output_right i low high) (tree_at cells count i) i refl

  pub accepted_sound : (i : ℕ) → Sound (tree_at cells count i)
  unfolding bad_label empty_label label_at empty
  accepted_sound i = record {
    not6 = no_node (λ l a b. bad_label l) (λ i low high. rw (numbers_allowed context count cells ok i low high)) (tree_at cells count i) i refl;
    not7 = no_node other_operands (λ i low high. sym (operands_at cells count accepted_ordered i low high) ∙ operands_right i low high) (tree_at cells count i) i refl;
    not9 = no_node (λ l a b. empty_label l) (λ i low high. not_empty context count cells ok i low high) (tree_at cells count i) i refl;
  }

  pub accepted_root : root_class (tree_at cells count 1) ≡ an_expression
  accepted_root = sym (class_at_lem cells count accepted_ordered 1 (count_bounds context count cells ok).0) ∙ root_expression context count cells ok
