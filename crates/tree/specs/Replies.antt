-- The enum of the refusals, with the reply numbers of documents 01 and 02.
use Rattle.std.specs.Prelude.{◌≡◌, ℕ, ◌<◌, ◌⊎◌, List, [], ◌∷◌, eqb, Result, Ok, Err, MatchResult}
use Rattle.laws.specs.Choice.{pick, Line, line, lookup}
use Rattle.tree.specs.declared.refusal.Refusal.{Refusal}
use Rattle.tree.specs.declared.refusal.Refusal.TheVariants.{FileTooLong, Header, Context, Count, Body, Numbers, Operands, Order, Empty, Output, Depth, Short, NotPlain, Tokens, NoReading, TooLarge, NoExpression, Replaced, Columns, Entries, EntryNode, EntryEnds}

abbrev pub number_of : Refusal → ℕ
number_of FileTooLong = 1
number_of Header = 2
number_of Context = 3
number_of Count = 4
number_of Body = 5
number_of Numbers = 6
number_of Operands = 7
number_of Order = 8
number_of Empty = 9
number_of Output = 10
number_of Depth = 11
number_of Short = 12
number_of NotPlain = 13
number_of Tokens = 14
number_of NoReading = 15
number_of TooLarge = 16
number_of NoExpression = 17
number_of Replaced = 18
number_of Columns = 19
number_of Entries = 20
number_of EntryNode = 21
number_of EntryEnds = 22

abbrev pub Decodes : ℕ → Result Refusal ℕ → Type 0
Decodes n r = MatchResult r (λ e. number_of e ≡ n) (λ m. (m ≡ n) × ((n ≡ 0) ⊎ (22 < n)))

unfoldable pub refusals : List (Line Refusal)
refusals =
    line (1 ∷ []) FileTooLong ∷
    line (2 ∷ []) Header ∷
    line (3 ∷ []) Context ∷
    line (4 ∷ []) Count ∷
    line (5 ∷ []) Body ∷
    line (6 ∷ []) Numbers ∷
    line (7 ∷ []) Operands ∷
    line (8 ∷ []) Order ∷
    line (9 ∷ []) Empty ∷
    line (10 ∷ []) Output ∷
    line (11 ∷ []) Depth ∷
    line (12 ∷ []) Short ∷
    line (13 ∷ []) NotPlain ∷
    line (14 ∷ []) Tokens ∷
    line (15 ∷ []) NoReading ∷
    line (16 ∷ []) TooLarge ∷
    line (17 ∷ []) NoExpression ∷
    line (18 ∷ []) Replaced ∷
    line (19 ∷ []) Columns ∷
    line (20 ∷ []) Entries ∷
    line (21 ∷ []) EntryNode ∷
    line (22 ∷ []) EntryEnds ∷
    []

-- "0 means done. Otherwise the first that applies is returned": what a reply number says, with a value where it is done
unfoldable pub replied : {A : Type 0} → ℕ → A → Result A Refusal
replied n a = pick (eqb n 0) (Ok a) (Err (lookup refusals EntryEnds n))
