-- What the private functions of comparing say of each other. Nothing here is to be believed.
use Rattle.std.specs.Prelude.{List, ℕ, drop}
use Rattle.file_loader.specs.Several.{Numbers, numbers_of}

-- so many numbers from a place on
abbrev pub run : List ℕ → ℕ → ℕ → Numbers
run file at n = numbers_of n (drop at file)
