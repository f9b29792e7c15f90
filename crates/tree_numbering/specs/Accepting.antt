-- The tree of a table numbered anew into a lent one: the refusal, and what the lent table holds afterwards.
use Rattle.std.specs.Prelude.{Bool, List, [], ◌∷◌, ℕ, ◌*◌, eqb, ltb, length}
use Rattle.tree.specs.Sizes.{node_cells}
use Rattle.laws.specs.Choice.{pick}
use Rattle.laws.specs.Lists.{over}
use Rattle.tree.specs.Trees.{tree_at}
use Rattle.tree_rules.specs.Refusals.{refusal, refuse, first_of}
use Rattle.tree_numbering.specs.Numbered.{numbered}

-- 12. "A lent buffer is too short": six cells a node; `lent` is the lent table's length
unfoldable pub numbering_refusal12 : ℕ → ℕ → Bool
numbering_refusal12 count lent = ltb lent (node_cells * count)

-- the first that applies: the table's refusals, then 12; or 0
unfoldable pub numbering_refusal : ℕ → ℕ → List ℕ → ℕ → ℕ
numbering_refusal context count cells lent =
    pick
    (eqb (refusal context count cells) 0)
    (first_of (refuse 12 (numbering_refusal12 count lent) ∷ []))
    (refusal context count cells)

-- the lent table afterwards: on a refusal as it was; else the numbered tree over its start
unfoldable pub numbered_after : ℕ → ℕ → List ℕ → List ℕ → List ℕ
numbered_after context count cells out =
    pick (eqb (numbering_refusal context count cells (length out)) 0) (over (numbered (tree_at cells count 1)) out) out
