-- The answers of `accepted::number`, and what they leave in the lent table. Assumes nothing.
use mathlib.Core.Path.{◌≡◌, sym, ◌∙◌}
use mathlib.Core.List.{List, [], ◌∷◌}
use Prim.Native.Nat.{ℕ, ◌*◌, ◌≤◌, ◌<◌}
use native.Mathlib.Omega.{arith}
use native.Mathlib.Decide.{ℕ_discrete}
use lib.Dec.{ltb}
use lib.ListN.{length}
use borrow.Author.Tests.{eq-eqb, ne_eqb, lt-ltb, le-ltb}
use Rattle.tree.specs.Sizes.{node_cells}
use Rattle.laws.specs.Lists.{over}
use Rattle.laws.proofs.Choice.{pick_true, pick_false}
use Rattle.tree.specs.Trees.{tree_at}
use Rattle.tree_rules.specs.Refusals.{refusal, refuse, first_of, Accepted}
use Rattle.tree_rules.proofs.First.{stop, skip, no_more}
use Rattle.tree_numbering.specs.Numbered.{numbered}
use Rattle.tree_numbering.specs.Accepting.{numbering_refusal12, numbering_refusal, numbered_after}

module _ (context count : ℕ) (cells out : List ℕ) where
  -- what the two clauses of the contract say of an answer and of the lent table afterwards
  abbrev pub Numbers : ℕ → List ℕ → Type 0
  Numbers r after = (r ≡ numbering_refusal context count cells (length out)) × (after ≡ numbered_after context count cells out)

  kept : (n : ℕ) → numbering_refusal context count cells (length out) ≡ n → (n ≡ 0 → ⊥) → Numbers n out
  unfolding numbered_after
  kept n e h = (sym e, sym (pick_false _ _ (ne_eqb _ 0 (λ z. h (sym e ∙ z)))))

  pub refused : (n : ℕ) → n ≡ refusal context count cells → (n ≡ 0 → ⊥) → Numbers n out
  unfolding numbering_refusal
  refused n e h = kept n (pick_false _ _ (ne_eqb _ 0 (λ z. h (e ∙ z))) ∙ sym e) h

  module _ (ok : Accepted context count cells) where
    only_12 : numbering_refusal context count cells (length out) ≡ first_of (refuse 12 (ltb (length out) (node_cells * count)) ∷ [])
    unfolding numbering_refusal numbering_refusal12
    only_12 = pick_true _ _ (eq-eqb _ 0 ok)

    pub short : length out < node_cells * count → Numbers 12 out
    short h = kept 12 (only_12 ∙ stop _ _ (lt-ltb _ _ h)) (λ z. omega arith)

    pub stored : node_cells * count ≤ length out → (after : List ℕ) → after ≡ over (numbered (tree_at cells count 1)) out → Numbers 0 after
    unfolding numbered_after
    stored h after e =
        let z = only_12 ∙ skip _ _ (le-ltb (length out) (node_cells * count) h) ∙ no_more in
        (sym z, e ∙ sym (pick_true _ _ (eq-eqb _ 0 z)))

  -- ---- for callers

  -- where nothing is refused the table is accepted, and the lent one holds the numbered tree
  pub is_accepted : 0 ≡ numbering_refusal context count cells (length out) → Accepted context count cells
  unfolding numbering_refusal
  is_accepted z = go (ℕ_discrete (refusal context count cells) 0)
    where
      go : Dec (refusal context count cells ≡ 0) → refusal context count cells ≡ 0
      go (yes e) = e
      go (no e) = absurd (e (sym (z ∙ pick_false _ _ (ne_eqb _ 0 e))))

  pub is_over : 0 ≡ numbering_refusal context count cells (length out) → numbered_after context count cells out ≡ over (numbered (tree_at cells count 1)) out
  unfolding numbered_after
  is_over z = pick_true _ _ (eq-eqb _ 0 (sym z))

  -- a refusal is the table's where there is room for every accepted one
  pub is_refusal : (Accepted context count cells → node_cells * count ≤ length out) → (n : ℕ) → n ≡ numbering_refusal context count cells (length out) → (n ≡ 0 → ⊥) → n ≡ refusal context count cells
  unfolding numbering_refusal
  is_refusal room n e h = go (ℕ_discrete (refusal context count cells) 0)
    where
      go : Dec (refusal context count cells ≡ 0) → n ≡ refusal context count cells
      go (yes z) = absurd (h (e ∙ only_12 z ∙ skip _ _ (le-ltb (length out) (node_cells * count) (room z)) ∙ no_more))
      go (no z) = e ∙ pick_false _ _ (ne_eqb _ 0 z)
