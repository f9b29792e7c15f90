-- scan_right along the right spine of a tree: what it answers at a node, by the answer of the next one. Assumes nothing.
use mathlib.Core.Path.{◌≡◌, refl, sym, ap, ◌∙◌}
use mathlib.Core.Bool.{Bool, true, false, not}
use Prim.Native.Nat.{ℕ}
use Rattle.laws.specs.Choice.{pick}
use Rattle.laws.proofs.Choice.{pick_true, pick_false, true_not_false}
use Rattle.tree.specs.Trees.{Tree, none, node}
use Rattle.tree.specs.Walks.{is_there, at_root}
use Rattle.precedence.specs.declared.Precedence.{Precedence}
use Rattle.fixup.specs.declared.context.FixupContext.{FixupContext}
use Rattle.fixup.specs.Fixup.{parenthesize}
use Rattle.fixup_scan.specs.declared.Scan.{Scan}
use Rattle.fixup_scan.specs.declared.Scan.TheVariants.{Consume}
use Rattle.fixup_scan.specs.declared.arm.Arm.{Arm}
use Rattle.fixup_scan.specs.declared.arm.Arm.TheVariants.{Assign, Binary, Prefix, Range, Break, Return, Closure, Let, Group, Closed}
use Rattle.fixup_scan.specs.Scans.{consume_by, scan_right, rightmost_precedence}
use Rattle.fixup_scan.specs.Arms.{arm_of, operand_by, leaf_scan, visit_by, scan_by}
use Rattle.fixup_scan.specs.Linear.{onwards}
use Rattle.fixup_scan.proofs.Arms.{back, is_early, asked, closed_is, arms_agree}

-- ---- induction along the spine

-- whether an arm goes on with an operand at all
abbrev pub goes_on : Arm → Bool
goes_on Assign = true
goes_on (Binary q) = true
goes_on Prefix = true
goes_on Range = true
goes_on (Break lost) = true
goes_on Return = true
goes_on Closure = false
goes_on Let = true
goes_on Group = true
goes_on Closed = false

operand_goes_on : (arm : Arm) (a b : Tree) → is_there (operand_by arm none a b) ≡ true → goes_on arm ≡ true
operand_goes_on Assign a b e = refl
operand_goes_on (Binary q) a b e = refl
operand_goes_on Prefix a b e = refl
operand_goes_on Range a b e = refl
operand_goes_on (Break lost) a b e = refl
operand_goes_on Return a b e = refl
operand_goes_on Closure a b e = e
operand_goes_on Let a b e = refl
operand_goes_on Group a b e = refl
operand_goes_on Closed a b e = e

pub there_goes_on : (t : Tree) → is_there (onwards t) ≡ true → goes_on (arm_of t) ≡ true
unfolding onwards
there_goes_on none e = true_not_false (sym e)
there_goes_on (node l a b) e = operand_goes_on (arm_of (node l a b)) a b e

operand_has : (P : Tree → Type 0) (arm : Arm) (a b : Tree) → P a → P b → is_there (operand_by arm none a b) ≡ true → P (operand_by arm none a b)
operand_has P Assign a b p q e = q
operand_has P (Binary r) a b p q e = q
operand_has P Prefix a b p q e = p
operand_has P Range a b p q e = q
operand_has P (Break lost) a b p q e = p
operand_has P Return a b p q e = p
operand_has P Closure a b p q e = true_not_false (sym e)
operand_has P Let a b p q e = p
operand_has P Group a b p q e = p
operand_has P Closed a b p q e = true_not_false (sym e)

pub along : (P : Tree → Type 0) → ((t : Tree) → (is_there (onwards t) ≡ true → P (onwards t)) → P t) → (t : Tree) → P t
unfolding onwards
along P step none = step none (λ e. true_not_false (sym e))
along P step (node l a b) = step (node l a b) (operand_has P (arm_of (node l a b)) a b (along P step a) (along P step b))

-- ---- one node

pub scan_along : (t : Tree) (x : FixupContext) (p : Precedence) (f b : ℕ)
    → scan_right t x p f b ≡ pick (parenthesize x t) (consume_by p x.next_operator) (scan_by (arm_of t) (onwards t) (scan_right (onwards t)) x p f b)
unfolding scan_right onwards arm_of at_root
scan_along none x p f b = ap (pick (parenthesize x none) (consume_by p x.next_operator)) (closed_is x p f b (scan_right none))
scan_along (node l c d) x p f b = ap (pick (parenthesize x (node l c d)) (consume_by p x.next_operator)) (arms_agree x p f b l c d)

abbrev pub after : Arm → Tree → FixupContext → Precedence → ℕ → ℕ → Scan
after arm o x p f b = back arm p x.next_operator (asked arm (scan_right o) x p f b) (rightmost_precedence o (visit_by arm x p f b).context)

abbrev pub body : Arm → Tree → FixupContext → Precedence → ℕ → ℕ → Scan
body arm o x p f b = pick (is_early arm x p f b) Consume (after arm o x p f b)

module _ (t : Tree) (x : FixupContext) (p : Precedence) (f b : ℕ) where
  pub at_grouped : parenthesize x t ≡ true → scan_right t x p f b ≡ consume_by p x.next_operator
  at_grouped g = scan_along t x p f b ∙ pick_true _ _ g

  module _ (bare : parenthesize x t ≡ false) where
    pub at_leaf : is_there (onwards t) ≡ false → scan_right t x p f b ≡ leaf_scan (arm_of t) x.next_operator_can_begin_expr p x.next_operator
    unfolding scan_by
    at_leaf e = scan_along t x p f b ∙ pick_false _ _ bare ∙ pick_true _ _ (ap not e)

    pub at_inner : is_there (onwards t) ≡ true → scan_right t x p f b ≡ body (arm_of t) (onwards t) x p f b
    unfolding scan_by rightmost_precedence
    at_inner e = scan_along t x p f b ∙ pick_false _ _ bare ∙ pick_false _ _ (ap not e)

-- two questions to one tree in one context: a relation of their answers, by where the scan ends
module _ (t : Tree) (x : FixupContext) (p : Precedence) (f b : ℕ) (q : Precedence) (g c : ℕ) (R : Scan → Scan → Type 0) where
  pub both_scans :
      R (consume_by p x.next_operator) (consume_by q x.next_operator)
      → R (leaf_scan (arm_of t) x.next_operator_can_begin_expr p x.next_operator) (leaf_scan (arm_of t) x.next_operator_can_begin_expr q x.next_operator)
      → (is_there (onwards t) ≡ true → goes_on (arm_of t) ≡ true → R (body (arm_of t) (onwards t) x p f b) (body (arm_of t) (onwards t) x q g c))
      → R (scan_right t x p f b) (scan_right t x q g c)
  both_scans grouped leaf inner = go (parenthesize x t) refl (is_there (onwards t)) refl
    where
      go : (d : Bool) → parenthesize x t ≡ d → (e : Bool) → is_there (onwards t) ≡ e → R (scan_right t x p f b) (scan_right t x q g c)
      go true d there h = rw (at_grouped t x p f b d, at_grouped t x q g c d) grouped
      go false d true h = rw (at_inner t x p f b d h, at_inner t x q g c d h) (inner h (there_goes_on t h))
      go false d false h = rw (at_leaf t x p f b d h, at_leaf t x q g c d h) leaf
