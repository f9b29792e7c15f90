-- What stands at a place of a file.
use Rattle.std.specs.Prelude.{List, [], ◌∷◌, ℕ, suc, ◌+◌, drop, Option, Some, None}
use Rattle.laws.specs.Choice.{pick}
use Rattle.file_numbers.specs.Numbers.{followed, value_of, malformed}

-- the number that starts at a place, with the place after it; none where it is malformed
unfoldable pub stands_at : List ℕ → ℕ → Option (ℕ × ℕ)
stands_at file at = pick (malformed (drop at file)) None (Some (value_of (drop at file), at + suc (followed (drop at file))))

-- "When an answer is an enum, a definition gives this paper's number and values for each of its cases." A malformed number is 2 in the header and 5 in the body
abbrev pub standing_in_numbers : ℕ → Option (ℕ × ℕ) → List ℕ
standing_in_numbers refusal None = refusal ∷ []
standing_in_numbers refusal (Some (value, next)) = 0 ∷ value ∷ next ∷ []
