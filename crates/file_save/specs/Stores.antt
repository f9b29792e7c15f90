-- What the private functions of saving say of each other. Nothing here is to be believed.
use Rattle.std.specs.Prelude.{List, ◌≡◌, ℕ, ◌+◌, ◌<◌, length, Option, Some, None}

-- the most bytes of a node of an accepted table: one for each of form, attributes and detail, two for each operand, three for the symbol
abbrev pub node_bytes : ℕ
node_bytes = 10

-- what bytes leave of so many
abbrev pub Leaves : List ℕ → ℕ → Option ℕ → Type 0
Leaves bytes room None = room < length bytes
Leaves bytes room (Some left) = left + length bytes ≡ room
