-- What calls ask of their callers. Assumes nothing.
use mathlib.Core.List.{List}
use Prim.Native.Nat.{ℕ, ◌<◌}
use borrow.Fn.Kinds.{ParamKind, In}
use borrow.Fn.PlainCycle.{Measures, is, falls, and}

-- the answer to a call of a function that has no `requires`
pub free : {A B : Type 0} → A → B → Unit {0}
free a b = tt

-- a function of a cycle of calls: what it is given where its measure is t, and what it asks where it is called below t
module _ (n : ℕ) (ps : List (ParamKind n)) (μ : Measures n ps ℕ) (Pre : In n ps) (t : ℕ) where
  abbrev pub given_at : In n ps
  given_at = and n ps (is n ps μ t) Pre

  abbrev pub given_below : In n ps
  given_below = and n ps (falls n ps ◌<◌ μ t) Pre
