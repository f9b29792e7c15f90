-- What the functions that add to a text say of the buffer.
use Rattle.std.specs.Prelude.{◌≡◌, List, ◌++◌, ℕ, ◌+◌, min, max, length, take}
use Rattle.std.proofs.lemmas.List.Edits.{sets}

-- `more` stands in a buffer from `end` on, as far as there is room, and r is the place behind it; all else is as before
pub record Grown (before : List ℕ) (end : ℕ) (more after : List ℕ) (r : ℕ) : Type 0 where
  pub cells : after ≡ sets before end more
  pub ends : r ≡ min (end + length more) (max end (length before))
  pub room : length after ≡ length before

-- the same where there is room for all of it: a text that stood at the start of a buffer, up to `end`, has grown by `more`
-- and now ends at r
pub record Added (before : List ℕ) (end : ℕ) (more after : List ℕ) (r : ℕ) : Type 0 where
  pub text : take r after ≡ take end before ++ more
  pub ends : r ≡ end + length more
  pub room : length after ≡ length before
