-- Whether a reader goes on, by what is done next. Assumes nothing.
use Rattle.std.proofs.Common.{◌≡◌, Bool, true, false, not, sym, refl, ap, ◌∙◌, ◌⊎◌, inl, inr, arith}
use denote.Enum.Bare.{sameb}
use Rattle.laws.proofs.Choice.{true_not_false}
use Rattle.token_reader.specs.contracts.piece.Mode.{the_type}
use Rattle.token_reader.specs.declared.piece.Mode.{Mode}
use Rattle.token_reader.specs.declared.piece.Mode.TheVariants as mode
use Rattle.token_reader.specs.Kinds.{WANTED, READ, ENDED, mode_number}

pub goes : (m : Mode) {b : Bool} → b ≡ not (sameb the_type m mode.Ended) → b ≡ true → mode_number m ≡ ENDED → ⊥
goes mode.Wanted e t z = absurd (omega arith)
goes mode.Read e t z = absurd (omega arith)
goes mode.Listed e t z = absurd (omega arith)
goes mode.Ended e t z = true_not_false (sym t ∙ e)

pub stops : (m : Mode) {b : Bool} → b ≡ not (sameb the_type m mode.Ended) → b ≡ false → mode_number m ≡ ENDED
stops mode.Wanted e f = true_not_false (sym e ∙ f)
stops mode.Read e f = true_not_false (sym e ∙ f)
stops mode.Listed e f = true_not_false (sym e ∙ f)
stops mode.Ended e f = refl

-- the two that come last
pub late : {m : Mode} → (m ≡ mode.Listed) ⊎ (m ≡ mode.Ended) → (mode_number m ≡ WANTED → ⊥) × (mode_number m ≡ READ → ⊥)
late (inl e) = let q = ap mode_number e in (λ z. omega (arith, q, z), λ z. omega (arith, q, z))
late (inr e) = let q = ap mode_number e in (λ z. omega (arith, q, z), λ z. omega (arith, q, z))
