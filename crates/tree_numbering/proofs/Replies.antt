-- The answers of `renumber`, and what they leave in the lent table. Assumes nothing.
use mathlib.Core.Path.{◌≡◌, sym, ◌∙◌}
use mathlib.Core.Bool.{true, false}
use mathlib.Core.List.{List}
use Prim.Native.Nat.{ℕ, ◌+◌, ◌*◌, ◌≤◌, ◌<◌}
use native.Mathlib.Omega.{arith}
use lib.ListN.{length}
use lib.Seq.{sets}
use borrow.Author.Tests.{lt-ltb, le-ltb}
use Rattle.laws.specs.Lists.{over}
use Rattle.laws.proofs.Choice.{pick_true, pick_false, or_here, or_next}
use Rattle.tree.specs.Trees.{Tree, levels}
use Rattle.std.specs.Prelude.{Result, Ok, Err}
use Rattle.tree_numbering.specs.declared.Unfit.{Unfit}
use Rattle.tree_numbering.specs.declared.Unfit.TheVariants.{TooLarge, TooShort}
use Rattle.tree_numbering.specs.Numbered.{size, cells_from, numbered, too_large}
use Rattle.tree_numbering.specs.Renumbering.{too_short, renumbered, renumbered_after}
use Rattle.tree_numbering.proofs.Holds.{length_numbered}
use Rattle.laws.proofs.Lists.{sets_over}
use Rattle.tree.specs.Sizes.{node_cells, most_nodes, most_levels}

-- a lent table with room for a tree whose cells are stored from its start on
pub stored_over : (t : Tree) (out : List ℕ) → node_cells * size t ≤ length out → (after : List ℕ) → after ≡ sets out 0 (cells_from 1 t) → after ≡ over (numbered t) out
unfolding numbered
stored_over t out h after e = let l = length_numbered t in e ∙ sets_over (numbered t) out (omega arith)

module _ (t : Tree) (out : List ℕ) where
  -- what the two clauses of the contract say of an answer and of the lent table afterwards
  abbrev pub Renumbers : Result ℕ Unfit → List ℕ → Type 0
  Renumbers r after = (r ≡ renumbered t (length out)) × (after ≡ renumbered_after t out)

  too_large_lem : too_large t ≡ true → Renumbers (Err TooLarge) out
  unfolding renumbered renumbered_after
  too_large_lem e = (sym (pick_true _ _ e), sym (pick_true _ _ (or_here _ e)))

  pub too_many : most_nodes < size t → Renumbers (Err TooLarge) out
  unfolding too_large
  too_many h = too_large_lem (or_here _ (lt-ltb _ _ h))

  module _ (few : size t ≤ most_nodes) where
    pub too_deep : most_levels < levels t → Renumbers (Err TooLarge) out
    unfolding too_large
    too_deep h = too_large_lem (or_next _ (le-ltb _ _ few) ∙ lt-ltb _ _ h)

    module _ (flat : levels t ≤ most_levels) where
      not_large : too_large t ≡ false
      unfolding too_large
      not_large = or_next _ (le-ltb _ _ few) ∙ le-ltb _ _ flat

      pub renumbers_too_short : length out < node_cells * size t → Renumbers (Err TooShort) out
      unfolding renumbered renumbered_after too_short
      renumbers_too_short h =
          let e : too_short t (length out) ≡ true = lt-ltb _ _ h in
          (sym (pick_false _ _ not_large ∙ pick_true _ _ e), sym (pick_true _ _ (or_next _ not_large ∙ e)))

      pub all_stored : node_cells * size t ≤ length out → (n : ℕ) (after : List ℕ) → (n ≡ 0 + size t) × (after ≡ sets out 0 (cells_from 1 t)) → Renumbers (Ok n) after
      unfolding renumbered renumbered_after too_short
      all_stored h n after e =
          let s : too_short t (length out) ≡ false = le-ltb _ _ h in
          let z : n ≡ size t = e.0 ∙ omega arith in (
            rw z (sym (pick_false _ _ not_large ∙ pick_false _ _ s)),
            stored_over t out h after e.1 ∙ sym (pick_false _ _ (or_next _ not_large ∙ s)),
          )
