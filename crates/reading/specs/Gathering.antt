-- What the program's private functions say of each other. Nothing here is to be believed.
use Rattle.std.specs.Prelude.{◌≡◌, List, ℕ, ◌≤◌, length, take}
use Rattle.reading.specs.Text.{numbers_in, tokens_in}

-- the cells of the tokens of a file from a place on stand at the start of a buffer, r of them
pub record Gathered (file : List ℕ) (start : ℕ) (old new : List ℕ) (r : ℕ) : Type 0 where
  pub few : r ≤ length file
  pub cells : take r new ≡ tokens_in (numbers_in file start)
  pub room : length new ≡ length old
