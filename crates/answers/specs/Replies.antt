-- An answer as one number: the refusal times 65,536, or the value; of two values the first times 8,192, which is above every count.
-- The writer's in 64 bits: the refusal times 2^32, or the pairs times 65,536 and the tokens.
use Rattle.std.specs.Prelude.{◌≡◌, List, [], ◌∷◌, ℕ, ◌+◌, ◌*◌, Result}
use Rattle.tree.specs.declared.refusal.Refusal.{Refusal}
use Rattle.token_reader.specs.Reading.{Answers, reply_in_numbers}

-- values one behind the other, after what stands before them; `base` is above each
abbrev pub joined : ℕ → ℕ → List ℕ → ℕ
joined base before [] = before
joined base before (value ∷ values) = joined base (base * before + value) values

-- of a reply number and the values behind it
abbrev pub one_number : List ℕ → ℕ
one_number [] = 0
one_number (reply ∷ values) = 65536 * reply + joined 8192 0 values

-- document 02, Paper 14: "The count of pairs written is given beside the tokens"
abbrev pub wide_number : List ℕ → ℕ
wide_number [] = 0
wide_number (reply ∷ values) = 65536 * 65536 * reply + joined 65536 0 values

-- the number of a reply that the reader gives, with what it leaves in the table
pub record ReadNumber (context : ℕ) (codes table : List ℕ) (number : ℕ) (after : List ℕ) : Type 0 where
  pub reply : Result ℕ Refusal
  pub answers : Answers context codes table reply after
  pub is : number ≡ one_number (reply_in_numbers reply)
