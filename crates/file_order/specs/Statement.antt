-- Document 02, Paper 2: what is promised of the order. "It is total, and equal only for equal files."
use Rattle.std.specs.Prelude.{◌≡◌, List, ◌⊎◌, ℕ, ◌<◌, get_or, Ok}
use Rattle.std.specs.declared.cmp.Ordering.TheVariants.{Less, Equal, Greater}
use Rattle.file_order.specs.Orders.{checks_of, compared}

-- each is a byte; what lies outside the list reads as 0
pub record OfBytes (file : List ℕ) : Type 0 where
  pub byte : (k : ℕ) → get_or file k 0 < 256

abbrev pub IsBefore : List ℕ → List ℕ → Type 0
IsBefore first second = compared first second ≡ Ok Less

pub record TotalOrder : Type 0 where
  -- equal only for equal bytes, and for those always
  pub equal_only : (first second : List ℕ) → OfBytes first → OfBytes second → compared first second ≡ Ok Equal → first ≡ second
  pub equal_self : (file : List ℕ) → checks_of file ≡ 0 → compared file file ≡ Ok Equal
  -- antisymmetric: before one way is after the other way
  pub before_after : (first second : List ℕ) → IsBefore first second → compared second first ≡ Ok Greater
  pub after_before : (first second : List ℕ) → compared first second ≡ Ok Greater → IsBefore second first
  pub transitive : (first second third : List ℕ) → IsBefore first second → IsBefore second third → IsBefore first third
  -- any two accepted files are one before the other, or equal
  pub total : (first second : List ℕ) → OfBytes first → OfBytes second → checks_of first ≡ 0 → checks_of second ≡ 0
      → IsBefore first second ⊎ ((first ≡ second) ⊎ IsBefore second first)
