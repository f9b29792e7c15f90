-- The right spine of a tree is no longer than its levels, but for a link at its end. Assumes nothing.
use mathlib.Core.Path.{◌≡◌, refl, sym}
use mathlib.Core.Bool.{Bool, true, false}
use Prim.Native.Nat.{ℕ, ◌+◌, ◌≤◌, ◌<◌, max}
use native.Mathlib.Omega.{arith}
use lib.Dec.{eqb, leb}
use borrow.Author.Tests.{leb-true, leb-false}
use Rattle.laws.specs.Choice.{pick, lookup}
use Rattle.laws.proofs.Choice.{true_not_false}
use Rattle.tree.specs.Forms.{a_link, class_of}
use Rattle.tree.specs.Trees.{Label, Tree, none, node, own_level, levels}
use Rattle.tree.specs.Walks.{is_there, at_root}
use Rattle.fixup_scan.specs.declared.arm.Arm.{Arm}
use Rattle.fixup_scan.specs.declared.arm.Arm.TheVariants.{Assign, Binary, Prefix, Range, Break, Return, Closure, Let, Group, Closed}
use Rattle.fixup_scan.specs.Arms.{arm_lines, arm_of, operand_by}
use Rattle.fixup_scan.specs.Linear.{onwards, spine}
use Rattle.fixup_scan.proofs.Spine.{goes_on, there_goes_on, along}
use Rattle.fixup_scan.proofs.Linear.{spine_along}

-- 56 is the one link
pub link_form : (form : ℕ) → eqb (class_of form) a_link ≡ true → form ≡ 56
unfolding class_of pick
link_form form e = go (eqb form 0) (leb form 40) (leb form 55) refl (leb form 56) refl e
  where
    go : (a b c : Bool) → leb form 55 ≡ c → (d : Bool) → leb form 56 ≡ d → eqb (pick a 0 (pick b 1 (pick c 2 (pick d 3 0)))) 3 ≡ true → form ≡ 56
    go true b c p d q e = true_not_false (sym e)
    go false true c p d q e = true_not_false (sym e)
    go false false true p d q e = true_not_false (sym e)
    go false false false p true q e = let m = leb-false form 55 p in let n = leb-true form 56 q in omega arith
    go false false false p false q e = true_not_false (sym e)

-- a node that goes on with an operand is a level
level_of : (l : Label) (a b : Tree) → goes_on (arm_of (node l a b)) ≡ true → own_level l.form ≡ 1
unfolding own_level arm_of arm_lines at_root lookup pick
level_of l a b g = go (eqb (class_of l.form) a_link) refl
  where
    go : (e : Bool) → eqb (class_of l.form) a_link ≡ e → ◌≡◌ {A = ℕ} (pick e 0 1) 1
    go true e = true_not_false (sym (rw (link_form l.form e) at g))
    go false e = refl

-- the operand is one of the two
operand_levels : (arm : Arm) (a b : Tree) → levels (operand_by arm none a b) ≤ max (levels a) (levels b)
unfolding levels
operand_levels Assign a b = omega arith
operand_levels (Binary q) a b = omega arith
operand_levels Prefix a b = omega arith
operand_levels Range a b = omega arith
operand_levels (Break lost) a b = omega arith
operand_levels Return a b = omega arith
operand_levels Closure a b = omega arith
operand_levels Let a b = omega arith
operand_levels Group a b = omega arith
operand_levels Closed a b = omega arith

-- each node of the right spine has fewer levels than the one before
pub fewer_levels : (t : Tree) → is_there (onwards t) ≡ true → levels (onwards t) < levels t
unfolding levels onwards
fewer_levels none e = true_not_false (sym e)
fewer_levels (node l a b) e =
    let own = level_of l a b (there_goes_on (node l a b) e) in
    let m = operand_levels (arm_of (node l a b)) a b in
    omega arith

absent_spine : (t : Tree) → is_there t ≡ false → spine t ≡ 0
unfolding spine
absent_spine none e = refl
absent_spine (node l a b) e = true_not_false e

abbrev Short : Tree → Type 0
Short t = spine t ≤ 1 + levels t

-- one node more
longer : (t : Tree) → (is_there (onwards t) ≡ true → Short (onwards t)) → Short t
unfolding spine levels
longer none ih = omega arith
longer (node l a b) ih = rw (spine_along l a b) (go (is_there (onwards (node l a b))) refl)
  where
    go : (e : Bool) → is_there (onwards (node l a b)) ≡ e → 1 + spine (onwards (node l a b)) ≤ 1 + levels (node l a b)
    go true e = let h = ih e in let d = fewer_levels (node l a b) e in omega arith
    go false e = let z = absent_spine (onwards (node l a b)) e in omega arith

pub spine_levels : (t : Tree) → Short t
spine_levels = along Short longer
