-- `tree_rules::refusal::levels_at` meets its contract. Assumes nothing.
use native.Mathlib.Omega.{arith}
use Rattle.laws.proofs.Calls.{free}
use Rattle.tree_rules.proofs.Depth.{operand_cell, levels_from, levels_fit}
use borrow.Author.Rules.{rules}
use Rattle.tree_rules.proofs.refusal.levels_at.Goals as goal

pub bounds-below-first : goal.bounds-below-first
bounds-below-first c = rw (c.from-first.ensures, c.operand_of.ensures, c.node_at-numbers.ensures.first) (operand_cell _ _ _ _ c.requires.3 c.requires.2 _)

pub bounds-below-second : goal.bounds-below-second
bounds-below-second c = rw (c.from-second.ensures, c.operand_of-2.ensures, c.node_at-numbers.ensures.second) (operand_cell _ _ _ _ c.requires.3 c.requires.2 _)

pub overflow_add-result : goal.overflow_add-result
overflow_add-result c =
    rw (c.level_of.ensures, c.max.ensures, c.from-first.ensures, c.from-second.ensures, c.operand_of.ensures, c.operand_of-2.ensures, c.node_at-numbers.ensures.form, c.node_at-numbers.ensures.first, c.node_at-numbers.ensures.second)
    (record { fits = omega (arith, levels_fit _ _ _ _ c.requires.3 c.requires.2 c.requires.0 c.requires.1) })

pub returns : goal.returns
returns c =
    rw (c.level_of.ensures, c.max.ensures, c.from-first.ensures, c.from-second.ensures, c.operand_of.ensures, c.operand_of-2.ensures, c.node_at-numbers.ensures.form, c.node_at-numbers.ensures.first, c.node_at-numbers.ensures.second)
    (levels_from _ _ _ _ c.requires.3 c.requires.2 c.requires.0 c.requires.1)
