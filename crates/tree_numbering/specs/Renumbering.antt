-- A tree numbered anew into a lent table: the answer, and what the table holds afterwards.
use Rattle.std.specs.Prelude.{Bool, ◌||◌, List, [], ◌∷◌, ℕ, ◌*◌, ltb, length, Result, Ok, Err}
use Rattle.laws.specs.Choice.{pick}
use Rattle.laws.specs.Lists.{over}
use Rattle.tree.specs.Sizes.{node_cells}
use Rattle.tree.specs.Trees.{Tree}
use Rattle.tree.specs.declared.refusal.Refusal.{Refusal}
use Rattle.tree.specs.declared.refusal.Refusal.TheVariants as refusal
use Rattle.tree_numbering.specs.declared.Unfit.{Unfit}
use Rattle.tree_numbering.specs.declared.Unfit.TheVariants.{TooLarge, TooShort}
use Rattle.tree_numbering.specs.Numbered.{size, numbered, too_large}

-- six cells a node; `cells` is the lent table's length
unfoldable pub too_short : Tree → ℕ → Bool
too_short t cells = ltb cells (node_cells * size t)

unfoldable pub renumbered : Tree → ℕ → Result ℕ Unfit
renumbered t cells = pick (too_large t) (Err TooLarge) (pick (too_short t cells) (Err TooShort) (Ok (size t)))

-- where it is refused, the lent table keeps its contents; otherwise the cells past the nodes keep theirs
unfoldable pub renumbered_after : Tree → List ℕ → List ℕ
renumbered_after t out = pick (too_large t || too_short t (length out)) out (over (numbered t) out)

-- the refusals 16 and 12
abbrev pub refusal_of : Unfit → Refusal
refusal_of TooLarge = refusal.TooLarge
refusal_of TooShort = refusal.Short

-- "When an answer is an enum, a definition gives this paper's number and values for each of its cases." The reply number, 0 for done, and behind it the value
abbrev pub renumbered_in_numbers : Result ℕ Unfit → List ℕ
renumbered_in_numbers (Err TooLarge) = 16 ∷ []
renumbered_in_numbers (Err TooShort) = 12 ∷ []
renumbered_in_numbers (Ok n) = 0 ∷ n ∷ []
