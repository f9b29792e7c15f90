-- What a reply number says, as a refusal or a value. Assumes nothing.
use mathlib.Core.Path.{◌≡◌, refl, sym, ap}
use Prim.Native.Nat.{ℕ}
use native.Mathlib.Omega.{arith}
use borrow.Author.Tests.{eq-eqb}
use Rattle.std.specs.Prelude.{Result, Ok, Err, IsErrAnd}
use Rattle.std.specs.Result.{IsErr}
use Rattle.std.proofs.lemmas.Grind.{common_steps}
use Rattle.laws.specs.Choice.{pick, lookup}
use Rattle.laws.proofs.Choice.{pick_true}
use Rattle.tree.specs.declared.refusal.Refusal.{Refusal}
use Rattle.tree.specs.declared.refusal.Refusal.TheVariants.{FileTooLong, Header, Context, Count, Body, Numbers, Operands, Order, Empty, Output, Depth, Short, NotPlain, Tokens, NoReading, TooLarge, NoExpression, Replaced, Columns, Entries, EntryNode, EntryEnds}
use Rattle.tree.specs.Replies.{number_of, refusals, replied}

-- each refusal is what its number says
number_said : {A : Type 0} (e : Refusal) (a : A) → Err e ≡ replied (number_of e) a
unfolding replied refusals lookup pick
number_said FileTooLong a = refl
number_said Header a = refl
number_said Context a = refl
number_said Count a = refl
number_said Body a = refl
number_said Numbers a = refl
number_said Operands a = refl
number_said Order a = refl
number_said Empty a = refl
number_said Output a = refl
number_said Depth a = refl
number_said Short a = refl
number_said NotPlain a = refl
number_said Tokens a = refl
number_said NoReading a = refl
number_said TooLarge a = refl
number_said NoExpression a = refl
number_said Replaced a = refl
number_said Columns a = refl
number_said Entries a = refl
number_said EntryNode a = refl
number_said EntryEnds a = refl

pub refused_by : {A : Type 0} (n : ℕ) (e : Refusal) (a : A) → n ≡ number_of e → Err e ≡ replied n a
refused_by n e a p = rw p (number_said e a)

pub done_by : {A : Type 0} (n : ℕ) (a : A) → n ≡ 0 → Ok a ≡ replied n a
unfolding replied
done_by n a e = sym (pick_true _ _ (eq-eqb n 0 e))

-- a value says that nothing is refused
pub said_ok : {A : Type 0} (n : ℕ) (a v : A) → Ok v ≡ replied n a → (n ≡ 0) × (v ≡ a)
unfolding replied pick
said_ok n a v e = (grind (arith, common_steps, e), grind (arith, common_steps, e))

-- a refusal is the same for each value, and it is one
pub said_err : {A : Type 0} (B : Type 0) (n : ℕ) (a : A) (b : B) (e : Refusal) → Err e ≡ replied n a → (Err e ≡ replied n b) × (n ≡ 0 → ⊥)
unfolding replied pick
said_err B n a b e h = (grind (arith, common_steps, h), λ z. grind (arith, common_steps, h, z))

-- a refusal that `?` passes on
pub passed_up : {A : Type 0} (r : Result A Refusal) (e : Refusal) → IsErr r → IsErrAnd r (λ x. x ≡ e) → r ≡ Err e
passed_up (Ok a) e i h = absurd h
passed_up (Err x) e i h = ap Err h
