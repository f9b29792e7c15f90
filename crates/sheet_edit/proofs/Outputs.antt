-- Refusal 10 of the result: only the owner of the named node can break it. Assumes nothing.
use mathlib.Core.Path.{◌≡◌, refl, sym, ◌∙◌}
use mathlib.Core.Bool.{Bool, true, false, not, ◌&&◌, ◌||◌}
use mathlib.Core.List.{List, [], ◌∷◌}
use mathlib.Core.Logic.{◌⊎◌, inl, inr}
use Prim.Native.Nat.{ℕ, zero, suc, ◌≤◌, ◌<◌}
use native.Mathlib.Omega.{arith}
use native.Mathlib.Decide.{ℕ_discrete}
use lib.Dec.{eqb}
use borrow.Author.Tests.{eqb-true, eq-eqb, ne_eqb}
use Rattle.laws.specs.Choice.{pick}
use Rattle.laws.specs.Each.{some}
use Rattle.laws.proofs.Choice.{true_not_false, and_true, or_false}
use Rattle.laws.proofs.Each.{some_none}
use Rattle.tree.specs.Forms.{expr_closure}
use Rattle.tree.specs.Table.{form_at, detail_at, first_at, first_column, second_column}
use Rattle.tree.specs.Trees.{Label, Tree, none, node, label_at, operand_at, tree_at}
use Rattle.tree.proofs.Unfold.{unfolds}
use Rattle.tree_rules.specs.Refusals.{Accepted}
use Rattle.tree_rules.proofs.Accepted.{count_bounds, first_standing, first_operand}
use Rattle.row_walk.specs.Paths.{Branch, first, second, number_at}
use Rattle.row_walk.proofs.Below.{owns, path_below, below_least, operand_most}
use Rattle.row_walk.proofs.Paths.{reached}
use Rattle.tree_numbering.specs.Replaced.{replaced, replaced_at}
use Rattle.sheet_edit.specs.Edits.{edited}
use Rattle.sheet_edit.specs.Steps.{owns_output}
use Rattle.tree_sound.proofs.Sound.{is_plain_block, output_broken, some_node}
use Rattle.tree_sound.proofs.Accepts.{accepted_outputs}
use Rattle.sheet_edit.proofs.Replaced.{Node, node_here}
use Rattle.tree_numbering.proofs.Replaced.{after_here, after_node}

record Found (f : ℕ → Bool) (n : ℕ) : Type 0 where
  number : ℕ
  low : 1 ≤ number
  high : number ≤ n
  holds : f number ≡ true

found : (f : ℕ → Bool) (n : ℕ) → some f n ≡ true → Found f n
unfolding some
found f zero e = true_not_false (sym e)
found f (suc n) e = go (f (suc n)) refl (some f n) refl e (found f n)
  where
    go : (b : Bool) → f (suc n) ≡ b → (d : Bool) → some f n ≡ d → (d || f (suc n)) ≡ true → (some f n ≡ true → Found f n) → Found f (suc n)
    go true p d q h r = record { number = suc n; low = omega arith; high = omega arith; holds = p }
    go false p true q h r = let w = r q in let k = w.high in record { number = w.number; low = w.low; high = omega arith; holds = w.holds }
    go false p false q h r = true_not_false (sym (sym p ∙ h))

and_none : (x y : Bool) → (x && (y && false)) ≡ false
and_none true true = refl
and_none true false = refl
and_none false y = refl

or_first : (x y z : Bool) → y ≡ true → (x || (y || z)) ≡ true
or_first true y z e = refl
or_first false y z e = rw e

or_second : (x y z : Bool) → z ≡ true → (x || (y || z)) ≡ true
or_second true y z e = refl
or_second false true z e = refl
or_second false false z e = e

abbrev broken : Label → Tree → Tree → Bool
broken l a b = output_broken l a

module _ (context count : ℕ) (cells : List ℕ) (ok : Accepted context count cells) (j : ℕ) (s : Tree) where
  -- a body that is not the named node is a plain block as before
  kept_body : (t : Tree) (i : ℕ) → (i ≡ j → ⊥) → is_plain_block (replaced cells count j s i t) ≡ is_plain_block t
  unfolding replaced pick
  kept_body none i n = refl
  kept_body (node l a b) i n = rw (ne_eqb i j n)

  none_kept : (i : ℕ) → replaced cells count j s i none ≡ none
  unfolding replaced
  none_kept i = refl

  here_kept : (k : Label) (c d : Tree) (i : ℕ) → i ≡ j → replaced cells count j s i (node k c d) ≡ s
  unfolding replaced pick
  here_kept k c d i z = rw (eq-eqb i j z)

  -- ---- where no owner has a written output, or the second tree is a plain block

  module _ (fine : (some (owns_output cells j) count && not (is_plain_block s)) ≡ false) (second_fine : some_node broken s ≡ false) where
    new_body : (i : ℕ) → 1 ≤ i → i ≤ count → first_at cells i ≡ j → output_broken (label_at cells i) s ≡ false
    unfolding output_broken owns_output label_at
    new_body i low high e = go (is_plain_block s) refl
      where
        go : (c : Bool) → is_plain_block s ≡ c → (eqb (form_at cells i) expr_closure && (eqb (detail_at cells i) 1 && not (is_plain_block s))) ≡ false
        go true p = rw p (and_none (eqb (form_at cells i) expr_closure) (eqb (detail_at cells i) 1))
        go false p =
            let q : some (owns_output cells j) count ≡ false = and_drop _ (rw p at fine) in
            let r = some_none (owns_output cells j) count q i low high in
            rw p (rw (eq-eqb (first_at cells i) j e) at r)
          where
            and_drop : (x : Bool) → (x && true) ≡ false → x ≡ false
            and_drop true h = true_not_false h
            and_drop false h = refl

    body : (l : Label) (a b : Tree) (i : ℕ) → tree_at cells count i ≡ node l a b → Node cells count i a b → output_broken l a ≡ false → output_broken l (replaced cells count j s (operand_at cells count i first_column) a) ≡ false
    unfolding output_broken
    body l a b i e w n = go (ℕ_discrete (operand_at cells count i first_column) j) a w.one n
      where
        label : label_at cells i ≡ l
        label = let u = sym (unfolds cells count i w.low w.high) ∙ e in cc

        go : Dec (operand_at cells count i first_column ≡ j) → (a : Tree) → tree_at cells count (operand_at cells count i first_column) ≡ a → output_broken l a ≡ false → output_broken l (replaced cells count j s (operand_at cells count i first_column) a) ≡ false
        go (no z) a h n = rw (kept_body a (operand_at cells count i first_column) z) n
        go (yes z) none h n = rw (none_kept (operand_at cells count i first_column)) n
        go (yes z) (node k c d) h n =
            rw (here_kept k c d (operand_at cells count i first_column) z) (rw label at (new_body i w.low w.high (sym (first_operand context count cells ok i w.low w.high) ∙ z)))

    still_fine : (t : Tree) (i : ℕ) → tree_at cells count i ≡ t → some_node broken t ≡ false → some_node broken (replaced cells count j s i t) ≡ false
    unfolding replaced pick some_node
    still_fine none i e n = refl
    still_fine (node l a b) i e n =
        let w = node_here cells count i l a b e in
        let p = or_false (output_broken l a) _ n in
        let q = or_false (some_node broken a) (some_node broken b) p.1 in
        go (eqb i j)
        (rw (body l a b i e w p.0, still_fine a (operand_at cells count i first_column) w.one q.0, still_fine b (operand_at cells count i second_column) w.two q.1))
      where
        go : (c : Bool) → some_node broken (node l (replaced cells count j s (operand_at cells count i first_column) a) (replaced cells count j s (operand_at cells count i second_column) b)) ≡ false
            → some_node broken (pick c s (node l (replaced cells count j s (operand_at cells count i first_column) a) (replaced cells count j s (operand_at cells count i second_column) b))) ≡ false
        go true h = second_fine
        go false h = h

  -- ---- where an owner has one, and the second tree is none

  module _ (bare : is_plain_block s ≡ false) where
    at_owner : (i : ℕ) → 1 ≤ i → i ≤ count → 1 ≤ j → owns_output cells j i ≡ true → (i < j) × (some_node broken (replaced_at cells count j s i) ≡ true)
    unfolding owns_output some_node output_broken label_at
    at_owner i low high there h =
        let p = and_true (eqb (form_at cells i) expr_closure) _ h in
        let q = and_true (eqb (detail_at cells i) 1) _ p.1 in
        let e = eqb-true (first_at cells i) j q.1 in
        let r = range e (first_standing context count cells ok i low high) in
        let o : operand_at cells count i first_column ≡ j = first_operand context count cells ok i low high ∙ e in
        (r.0, rw (after_node cells count j s i low high (λ z. let k = r.0 in omega arith), o, after_here cells count j s j there r.1 refl, bare, p.0, q.0))
      where
        range : first_at cells i ≡ j → (first_at cells i ≡ 0) ⊎ ((i < first_at cells i) × (first_at cells i ≤ count)) → (i < j) × (j ≤ count)
        range e (inl z) = absurd (omega arith)
        range e (inr w) = let x = w.0 in let y = w.1 in (omega arith, omega arith)

    lifted : (i : ℕ) (r : List Branch) → 1 ≤ i → i ≤ count → (k : ℕ) → number_at cells count i r ≡ k → 1 ≤ k → k < j → some_node broken (replaced_at cells count j s k) ≡ true → some_node broken (replaced_at cells count j s i) ≡ true
    unfolding some_node
    lifted i [] low high k e there less h = rw e h
    lifted i (first ∷ r) low high k e there less h =
        let w = owns cells count i first_column r low high (inl refl) (rw e there) in
        let m = operand_most cells count w in
        let b = below_least cells count (path_below cells count (operand_at cells count i first_column) r w.there m.1 (rw e there)) in
        rw (after_node cells count j s i low high (λ z. let x = m.0 in let y = b.1 in omega arith))
        (or_first (output_broken (label_at cells i) (replaced_at cells count j s (operand_at cells count i first_column))) (some_node broken (replaced_at cells count j s (operand_at cells count i first_column))) (some_node broken (replaced_at cells count j s (operand_at cells count i second_column)))
        (lifted (operand_at cells count i first_column) r w.there m.1 k e there less h))
    lifted i (second ∷ r) low high k e there less h =
        let w = owns cells count i second_column r low high (inr refl) (rw e there) in
        let m = operand_most cells count w in
        let b = below_least cells count (path_below cells count (operand_at cells count i second_column) r w.there m.1 (rw e there)) in
        rw (after_node cells count j s i low high (λ z. let x = m.0 in let y = b.1 in omega arith))
        (or_second (output_broken (label_at cells i) (replaced_at cells count j s (operand_at cells count i first_column))) (some_node broken (replaced_at cells count j s (operand_at cells count i first_column))) (some_node broken (replaced_at cells count j s (operand_at cells count i second_column)))
        (lifted (operand_at cells count i second_column) r w.there m.1 k e there less h))

    now_broken : 1 ≤ j → some (owns_output cells j) count ≡ true → some_node broken (edited cells count j s) ≡ true
    now_broken there h =
        let f = found (owns_output cells j) count h in
        let o = at_owner f.number f.low f.high there f.holds in
        let r = reached cells count context ok f.number f.low f.high in
        lifted 1 r.path (omega arith) (count_bounds context count cells ok).0 f.number r.leads f.low o.0 o.1

  pub edited_output : 1 ≤ j → some_node broken s ≡ false → some_node broken (edited cells count j s) ≡ (some (owns_output cells j) count && not (is_plain_block s))
  edited_output there n = go (some (owns_output cells j) count) refl (is_plain_block s) refl
    where
      go : (b : Bool) → some (owns_output cells j) count ≡ b → (d : Bool) → is_plain_block s ≡ d → some_node broken (edited cells count j s) ≡ (some (owns_output cells j) count && not (is_plain_block s))
      go true p true q = still_fine (rw (p, q)) n (tree_at cells count 1) 1 refl (accepted_outputs context count cells ok 1) ∙ rw (p, q)
      go true p false q = now_broken q there p ∙ rw (p, q)
      go false p d q = still_fine (rw p) n (tree_at cells count 1) 1 refl (accepted_outputs context count cells ok 1) ∙ rw p
