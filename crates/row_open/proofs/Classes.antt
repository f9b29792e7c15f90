-- The classes of operators: what is asked of an operator is the same in each. Assumes nothing.
use mathlib.Core.Path.{◌≡◌, sym, ap, ap₂, ◌∙◌}
use mathlib.Core.Bool.{Bool, true, false, ◌&&◌}
use Prim.Native.Nat.{ℕ, suc, ◌-◌, ◌≤◌}
use native.Mathlib.Omega.{arith}
use lib.Dec.{T, eqb, leb}
use lib.ListN.{length}
use borrow.Author.Tests.{eqb-true, leb-true, eq-eqb}
use Rattle.laws.specs.Choice.{pick, lookup}
use Rattle.laws.proofs.Choice.{true_not_false, true_of, of_true, and_true, alike, alike_same}
use Rattle.laws.proofs.Each.{all, all_at}
use Rattle.precedence.specs.declared.Precedence.{Precedence}
use Rattle.precedence.specs.declared.Lean.{Lean}
use Rattle.precedence.specs.Precedences.{rank_of, lean_number, binding, operators, binop_binding, of_binop}
use Rattle.precedence.proofs.Levels.{equal_leans}
use Rattle.row_pack.specs.FromCells.{of_rank}
use Rattle.row_pack.proofs.Cells.{of_rank_lem}
use Rattle.expr.specs.Expr.{can_begin_expr, can_begin_generics}
use Rattle.row_open.specs.Open.{last_binary}
use Rattle.row_open.specs.Statement.{SameClass}
use Rattle.row_open.specs.Steps.{previous, is_new, news}
use Rattle.row_walk.proofs.Alike.{SameOperator}

-- the second where the first holds
abbrev follows : Bool → Bool → Bool
follows true b = b
follows false b = true

-- whether what is asked of two operators is the same
abbrev same_level : ℕ → ℕ → Bool
same_level o p = eqb (rank_of (binop_binding o).level) (rank_of (binop_binding p).level)

abbrev same_lean : ℕ → ℕ → Bool
same_lean o p = eqb (lean_number (binop_binding o).lean) (lean_number (binop_binding p).lean)

abbrev same_begin : ℕ → ℕ → Bool
same_begin o p = alike (can_begin_expr o) (can_begin_expr p) && alike (can_begin_generics o) (can_begin_generics p)

equal_levels : (p q : Precedence) → rank_of p ≡ rank_of q → p ≡ q
equal_levels p q e = sym (of_rank_lem p) ∙ ap of_rank e ∙ of_rank_lem q

from_test : (o p : ℕ) → T (same_level o p && (same_lean o p && same_begin o p)) → SameOperator o p
from_test o p t =
    let a = and_true (same_level o p) (same_lean o p && same_begin o p) (true_of t) in
    let b = and_true (same_lean o p) (same_begin o p) a.1 in
    let c = and_true (alike (can_begin_expr o) (can_begin_expr p)) (alike (can_begin_generics o) (can_begin_generics p)) b.1 in
    record {
      binding = ap₂ (λ (l : Precedence) (n : Lean). binding l n) (equal_levels _ _ (eqb-true _ _ a.0)) (equal_leans _ _ (of_true b.0));
      begins = alike_same _ _ (of_true c.0);
      generics = alike_same _ _ (of_true c.1);
    }

-- an operator and the one before it in its class
pub previous_same : (o : ℕ) → o ≤ last_binary → SameOperator (previous o) o
unfolding previous operators lookup pick can_begin_expr can_begin_generics
previous_same o h = from_test (previous o) o (all_at (λ k. same_level (previous k) k && (same_lean (previous k) k && same_begin (previous k) k)) 28 tt o (omega arith))

pub previous_most : (o : ℕ) → o ≤ last_binary → previous o ≤ o
unfolding previous lookup pick
previous_most o h = leb-true _ _ (true_of (all_at (λ k. leb (previous k) k) 28 tt o (omega arith)))

-- operators of one level lean the same way
one_lean : (o p : ℕ) → o ≤ last_binary → p ≤ last_binary → same_level o p ≡ true → T (same_lean o p)
unfolding operators lookup pick
one_lean o p h k e =
    by (same_level o p) (same_lean o p) e (all_at (λ m. follows (same_level o m) (same_lean o m)) 28 (all_at (λ n. all (λ m. follows (same_level n m) (same_lean n m)) 28) 28 tt o (omega arith)) p (omega arith))
  where
    by : (a b : Bool) → a ≡ true → T (follows a b) → T b
    by true b f t = t
    by false b f t = true_not_false (sym f)

-- operators that agree in level, and in the two tests of their tokens
pub class_operator : (o p : ℕ) → o ≤ last_binary → p ≤ last_binary → SameClass o p → SameOperator o p
unfolding of_binop
class_operator o p h k c =
    let l : same_level o p ≡ true = eq-eqb _ _ (ap rank_of c.level) in
    record {
      binding = ap₂ (λ (l : Precedence) (n : Lean). binding l n) c.level (equal_leans _ _ (one_lean o p h k l));
      begins = c.begins;
      generics = c.generics;
    }

-- no range of operators meets more than 14 classes: at most 2,744 walks for three entries
pub fourteen_classes : (lowest highest : ℕ) → lowest ≤ last_binary → highest ≤ last_binary → length (news lowest lowest (suc highest - lowest)) ≤ 14
unfolding news is_new previous lookup pick
fourteen_classes lowest highest h k =
    leb-true _ _ (true_of (all_at (λ m. leb (length (news lowest lowest (suc m - lowest))) 14) 28 (all_at (λ n. all (λ m. leb (length (news n n (suc m - n))) 14) 28) 28 tt lowest (omega arith)) highest (omega arith)))
