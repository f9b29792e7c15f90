-- The answers for the operators are the Rust Reference's table: its levels, and its associativity. Assumes nothing.
use mathlib.Core.Path.{◌≡◌, refl, sym, ap₂, ◌∙◌}
use Prim.Native.Nat.{ℕ, ◌<◌}
use native.Mathlib.Omega.{arith}
use lib.Dec.{T, eqb}
use lib.ListN.{length}
use borrow.Author.Tests.{ne_eqb}
use Rattle.laws.specs.Choice.{pick, lookup}
use Rattle.laws.proofs.Choice.{alike, alike_same}
use Rattle.laws.proofs.Each.{all, all_at}
use Rattle.precedence.specs.declared.Lean.{Lean}
use Rattle.precedence.specs.declared.Lean.TheVariants.{Left, Right, Neither}
use Rattle.precedence.specs.declared.Binding.{Binding}
use Rattle.precedence.specs.Precedences.{below, lean_number, operators, binop_binding, binding_of, of_binop}
use Rattle.precedence.specs.Reference.{strong_first, place_in, weaker, associativity}

-- eleven levels
pub eleven_levels : length strong_first ≡ 11
unfolding strong_first
eleven_levels = refl

-- one operator's level is below another's exactly where the Reference has it weaker
pub levels_agree : (a b : ℕ) → a < 30 → b < 30 → below (binding_of a).level (binding_of b).level ≡ weaker a b
unfolding binding_of operators lookup pick weaker place_in strong_first
levels_agree a b h k =
    alike_same (below (binding_of a).level (binding_of b).level) (weaker a b)
    (all_at (λ m. alike (below (binding_of a).level (binding_of m).level) (weaker a m)) 30
    (all_at (λ n. all (λ m. alike (below (binding_of n).level (binding_of m).level) (weaker n m)) 30) 30 tt a h)
    b
    k)

pub equal_leans : (s r : Lean) → T (eqb (lean_number s) (lean_number r)) → s ≡ r
equal_leans Left Left t = refl
equal_leans Left Right t = absurd t
equal_leans Left Neither t = absurd t
equal_leans Right Left t = absurd t
equal_leans Right Right t = refl
equal_leans Right Neither t = absurd t
equal_leans Neither Left t = absurd t
equal_leans Neither Right t = absurd t
equal_leans Neither Neither t = refl

-- each leans as the Reference's associativity says
pub leans_agree : (a : ℕ) → a < 30 → (binding_of a).lean ≡ associativity a
unfolding binding_of operators lookup pick associativity strong_first
leans_agree a h =
    equal_leans (binding_of a).lean (associativity a)
    (all_at (λ n. eqb (lean_number (binding_of n).lean) (lean_number (associativity n))) 30 tt a h)

-- ---- the operators of Binary

pub binop_binding_lem : (op : ℕ) → op < 28 → binding_of op ≡ binop_binding op
unfolding binding_of lookup pick
binop_binding_lem op h = rw (ne_eqb 28 op (λ e. omega arith), ne_eqb 29 op (λ e. omega arith))

-- of_binop gives the levels of the Reference
pub binop_levels : (a b : ℕ) → a < 28 → b < 28 → below (of_binop a) (of_binop b) ≡ weaker a b
unfolding of_binop
binop_levels a b h k =
    sym (ap₂ (λ (p q : Binding). below p.level q.level) (binop_binding_lem a h) (binop_binding_lem b k))
    ∙ levels_agree a b (omega arith) (omega arith)
