-- The reader's reply for a tree that is numbered anew has the numbers of that answer. Assumes nothing.
use mathlib.Core.Path.{◌≡◌, refl}
use Rattle.std.specs.Prelude.{ℕ, Result, Ok, Err}
use Rattle.tree_numbering.specs.declared.Unfit.{Unfit}
use Rattle.tree_numbering.specs.declared.Unfit.TheVariants.{TooLarge, TooShort}
use Rattle.tree_numbering.specs.Renumbering.{renumbered_in_numbers}
use Rattle.token_reader.specs.Reading.{reply_in_numbers}
use Rattle.token_reader.specs.Pieces.{reply_of}

pub same_numbers : (r : Result ℕ Unfit) → reply_in_numbers (reply_of r) ≡ renumbered_in_numbers r
unfolding reply_of
same_numbers (Err TooLarge) = refl
same_numbers (Err TooShort) = refl
same_numbers (Ok n) = refl
