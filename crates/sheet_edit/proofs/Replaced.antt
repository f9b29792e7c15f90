-- An accepted sheet with an expression replaced by another accepted tree's breaks none of 3 and 6 to 9, whatever the numbering was. Assumes nothing.
use mathlib.Core.Path.{◌≡◌, refl, sym, ap, ◌∙◌}
use mathlib.Core.Bool.{Bool, true, false}
use mathlib.Core.List.{List, [], ◌++◌, append-nil}
use Prim.Native.Nat.{ℕ, ◌+◌, ◌≤◌}
use native.Mathlib.Omega.{arith}
use native.Mathlib.Decide.{dec_le}
use lib.Dec.{eqb, ltb}
use lib.ListN.{length, drop}
use borrow.Author.Tests.{eqb-true, ltb-false, not-false}
use Rattle.laws.specs.Choice.{pick}
use Rattle.laws.specs.Lists.{over}
use Rattle.laws.proofs.Choice.{or_false}
use Rattle.tree.specs.Sizes.{most_nodes, most_levels}
use Rattle.tree.specs.Forms.{an_expression, a_link, class_of}
use Rattle.tree.specs.Operands.{form_in}
use Rattle.tree.specs.Table.{class_at, first_column, second_column}
use Rattle.tree.specs.Trees.{Label, Tree, none, node, operand_at, tree_at, levels}
use Rattle.tree.specs.Walks.{is_there}
use Rattle.tree.proofs.Unfold.{tree_zero, tree_past, unfolds}
use Rattle.tree.proofs.Matches.{form_in_lem, form_none}
use Rattle.tree_places.specs.declared.place.Place.{Place}
use Rattle.tree_places.specs.declared.place.Place.TheVariants.{Nothing, Required, Optional, List as ListOf, Item, Next}
use Rattle.tree_places.specs.Places.{first_place, second_place}
use Rattle.tree_rules.specs.Refusals.{refusal10, refusal11, Accepted}
use Rattle.tree_rules.proofs.Accepted.{context_most}
use Rattle.tree_numbering.specs.Numbered.{size, numbered}
use Rattle.tree_numbering.specs.Replaced.{replaced}
use Rattle.sheet_edit.specs.Edits.{edited, refusal17, refusal18, Edit, result}
use Rattle.sheet_edit.specs.Statement.{EditedAccepted}
use Rattle.tree_sound.proofs.Sound.{root_class, item_class, other_list, other_present, other_at, other_operands, bad_label, empty_label, output_broken, some_node, Sound}
use Rattle.tree_sound.proofs.Tables.{class_at_lem}
use Rattle.tree_sound.proofs.Accepts.{numbered_10, numbered_11, numbered_accepted, accepted_ordered, accepted_sound, accepted_root}

-- ---- what an owner sees of an operand

pub record Alike (t u : Tree) : Type 0 where
  pub there : is_there t ≡ is_there u
  pub class : root_class t ≡ root_class u
  pub item : root_class t ≡ a_link → item_class t ≡ item_class u

module _ (f g t u : Tree) (first : Alike f g) (own : Alike t u) where
  list_alike : (class : ℕ) → other_list class t ≡ other_list class u
  list_alike class = go (eqb (root_class t) a_link) refl
    where
      go : (b : Bool) → eqb (root_class t) a_link ≡ b → other_list class t ≡ other_list class u
      go true e = rw (← own.class, ← own.item (eqb-true _ _ e))
      go false e = rw (← own.class, e)

  present_alike : (place : Place) → other_present place f t ≡ other_present place g u
  unfolding other_present
  present_alike Nothing = refl
  present_alike (Required class) = rw own.class
  present_alike (Optional class) = rw own.class
  present_alike (ListOf class) = list_alike class
  present_alike Item = rw own.class
  present_alike Next = list_alike (root_class f) ∙ rw first.class

  place_alike : (place : Place) → other_at place f t ≡ other_at place g u
  unfolding other_at
  place_alike place = rw (own.there, present_alike place)

operands_alike : (l : Label) (a b c d : Tree) → Alike a c → Alike b d → other_operands l a b ≡ other_operands l c d
unfolding other_operands
operands_alike l a b c d p q =
    rw (place_alike a c a c p p (first_place l.form l.detail), place_alike a c b d p q (second_place l.form l.detail))

-- ---- going down by the operands' numbers

module _ (cells : List ℕ) (count : ℕ) where
  -- a number at which a node stands, and its operands
  pub record Node (i : ℕ) (a b : Tree) : Type 0 where
    pub low : 1 ≤ i
    pub high : i ≤ count
    pub one : tree_at cells count (operand_at cells count i first_column) ≡ a
    pub two : tree_at cells count (operand_at cells count i second_column) ≡ b

  pub node_here : (i : ℕ) (l : Label) (a b : Tree) → tree_at cells count i ≡ node l a b → Node i a b
  node_here i l a b e = go (dec_le 1 i) (dec_le i count)
    where
      out : tree_at cells count i ≡ none → Node i a b
      out n = absurd (let z : ◌≡◌ {A = ℕ} 0 1 = cc in omega arith)

      go : Dec (1 ≤ i) → Dec (i ≤ count) → Node i a b
      go (yes low) (yes high) =
          let u = sym (unfolds cells count i low high) ∙ e in
          record { low = low; high = high; one = cc; two = cc }
      go (yes low) (no k) = out (tree_past cells count i (omega arith))
      go (no k) d = out (let z : i ≡ 0 = omega arith in rw z (tree_zero cells count))

  module _ (j : ℕ) (s : Tree) (here : root_class (tree_at cells count j) ≡ an_expression) (root : root_class s ≡ an_expression) where
    kept_class : (t : Tree) (i : ℕ) → tree_at cells count i ≡ t → root_class t ≡ root_class (replaced cells count j s i t)
    unfolding replaced pick
    kept_class none i e = refl
    kept_class (node l a b) i e = go (eqb i j) refl
      where
        go : (c : Bool) → eqb i j ≡ c → class_of l.form ≡ root_class (pick c s (node l (replaced cells count j s (operand_at cells count i first_column) a) (replaced cells count j s (operand_at cells count i second_column) b)))
        go true q = let z = eqb-true i j q in sym (ap root_class e) ∙ rw z here ∙ sym root
        go false q = refl

    is_there_lem : (u : Tree) → root_class u ≡ an_expression → true ≡ is_there u
    is_there_lem none e = absurd (omega arith)
    is_there_lem (node l a b) e = refl

    kept_alike : (t : Tree) (i : ℕ) → tree_at cells count i ≡ t → Alike t (replaced cells count j s i t)
    unfolding replaced pick
    kept_alike none i e = record { there = refl; class = refl; item = λ h. refl }
    kept_alike (node l a b) i e = go (eqb i j) refl
      where
        go : (c : Bool) → eqb i j ≡ c → Alike (node l a b) (pick c s (node l (replaced cells count j s (operand_at cells count i first_column) a) (replaced cells count j s (operand_at cells count i second_column) b)))
        go true q =
            let z = eqb-true i j q in
            let h : root_class (tree_at cells count i) ≡ an_expression = rw z here in
            let k : class_of l.form ≡ an_expression = sym (ap root_class e) ∙ h in
            record { there = is_there_lem s root; class = k ∙ sym root; item = λ h. absurd (omega arith) }
        go false q = record { there = refl; class = refl; item = λ h. kept_class a (operand_at cells count i first_column) (node_here i l a b e).one }

    -- a test that sees of the operands only what replacing keeps
    module _ (f : Label → Tree → Tree → Bool) (sees : (l : Label) (a b c d : Tree) → Alike a c → Alike b d → f l a b ≡ f l c d) (second : some_node f s ≡ false) where
      kept : (t : Tree) (i : ℕ) → tree_at cells count i ≡ t → some_node f t ≡ false → some_node f (replaced cells count j s i t) ≡ false
      unfolding replaced pick some_node
      kept none i e n = refl
      kept (node l a b) i e n =
          let w = node_here i l a b e in
          let p = or_false (f l a b) _ n in
          let q = or_false (some_node f a) (some_node f b) p.1 in
          go (eqb i j)
          (rw (
            ← sees l a b _ _ (kept_alike a (operand_at cells count i first_column) w.one) (kept_alike b (operand_at cells count i second_column) w.two),
            p.0,
            kept a (operand_at cells count i first_column) w.one q.0,
            kept b (operand_at cells count i second_column) w.two q.1,
          ))
        where
          go : (c : Bool) → some_node f (node l (replaced cells count j s (operand_at cells count i first_column) a) (replaced cells count j s (operand_at cells count i second_column) b)) ≡ false
              → some_node f (pick c s (node l (replaced cells count j s (operand_at cells count i first_column) a) (replaced cells count j s (operand_at cells count i second_column) b))) ≡ false
          go true h = second
          go false h = h

    pub edited_sound : Sound (tree_at cells count 1) → Sound s → Sound (edited cells count j s)
    edited_sound p q = record {
      not6 = kept (λ l a b. bad_label l) (λ l a b c d x y. refl) q.not6 (tree_at cells count 1) 1 refl p.not6;
      not7 = kept other_operands operands_alike q.not7 (tree_at cells count 1) 1 refl p.not7;
      not9 = kept (λ l a b. empty_label l) (λ l a b c d x y. refl) q.not9 (tree_at cells count 1) 1 refl p.not9;
    }

    pub edited_root : root_class (tree_at cells count 1) ≡ an_expression → root_class (edited cells count j s) ≡ an_expression
    edited_root p = sym (kept_class (tree_at cells count 1) 1 refl) ∙ p

-- ---- the result is accepted

-- where 17 does not apply, an expression stands at the number
pub named_here : (cells : List ℕ) (count j : ℕ) → refusal17 cells count j ≡ false → (1 ≤ j) × (j ≤ count) × (class_at cells j ≡ an_expression)
unfolding refusal17 class_of pick
named_here cells count j e = go (dec_le 1 j) (dec_le j count)
  where
    is : class_of (form_in cells count j) ≡ an_expression
    is = eqb-true _ _ (not-false _ e)

    out : (1 ≤ j → j ≤ count → ⊥) → (1 ≤ j) × (j ≤ count) × (class_at cells j ≡ an_expression)
    out n = absurd (let z : class_of 0 ≡ an_expression = rw (form_none cells count j n) at is in omega arith)

    go : Dec (1 ≤ j) → Dec (j ≤ count) → (1 ≤ j) × (j ≤ count) × (class_at cells j ≡ an_expression)
    go (yes low) (yes high) = (low, high, rw (form_in_lem cells count j low high) at is)
    go (yes low) (no k) = out (λ a b. k b)
    go (no k) d = out (λ a b. k a)

module _ (e : Edit) (sheet : Accepted e.context e.count e.cells) (other : Accepted e.second_context e.second_count e.second)
    (named : refusal17 e.cells e.count e.place ≡ false) (fits : refusal18 (result e) ≡ false) where
  expression_here : root_class (tree_at e.cells e.count e.place) ≡ an_expression
  expression_here =
      let n = named_here e.cells e.count e.place named in
      sym (class_at_lem e.cells e.count (accepted_ordered e.context e.count e.cells sheet) e.place n.1) ∙ n.2

  result_few : size (result e) ≤ most_nodes
  unfolding refusal18
  result_few = ltb-false most_nodes (size (result e)) (or_false _ _ fits).0

  result_accepted : (rest : List ℕ) → Accepted e.context (size (result e)) (numbered (result e) ++ rest)
  unfolding refusal18
  result_accepted rest =
      let s = tree_at e.second e.second_count 1 in
      let r = accepted_root e.second_context e.second_count e.second other in
      numbered_accepted (result e) rest result_few
      (edited_root e.cells e.count e.place s expression_here r (accepted_root e.context e.count e.cells sheet))
      e.context (context_most e.context e.count e.cells sheet)
      (edited_sound e.cells e.count e.place s expression_here r (accepted_sound e.context e.count e.cells sheet 1) (accepted_sound e.second_context e.second_count e.second other 1))
      flat outputs
    where
      bare : numbered (result e) ++ [] ≡ numbered (result e)
      bare = append-nil (numbered (result e))

      both : (refusal10 (numbered (result e)) (size (result e)) ≡ false) × (refusal11 (numbered (result e)) (size (result e)) ≡ false)
      both = or_false _ _ (or_false (ltb most_nodes (size (result e))) _ fits).1

      flat : levels (result e) ≤ most_levels
      flat = ltb-false most_levels (levels (result e)) (sym (numbered_11 (result e) [] result_few) ∙ rw bare both.1)

      outputs : some_node (λ l a b. output_broken l a) (result e) ≡ false
      outputs = sym (numbered_10 (result e) []) ∙ rw bare both.0

  -- written over the start of a longer table
  pub over_accepted : (cells : List ℕ) → Accepted e.context (size (result e)) (over (numbered (result e)) cells)
  unfolding over
  over_accepted cells = result_accepted (drop (length (numbered (result e))) cells)

pub edited_accepted : EditedAccepted
edited_accepted e sheet other named fits rest = result_accepted e sheet other named fits rest
