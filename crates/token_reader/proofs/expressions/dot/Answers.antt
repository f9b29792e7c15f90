-- `token_reader::expressions::dot` meets its contract. Assumes nothing.
use mathlib.Core.Path.{refl, sym, ap, ◌∙◌}
use Prim.Native.Nat.{◌+◌}
use native.Mathlib.Omega.{arith}
use Rattle.laws.proofs.Keys.{arm, rest}
use Rattle.token_grammar.specs.Tokens.{numbered_member, await, code}
use Rattle.token_grammar.specs.Codes.{token_symbol_at}
use Rattle.token_grammar.specs.Expressions.{by_number}
use Rattle.token_grammar.specs.Parser.{no_member, after_dot_lines, after_dot_by}
use Rattle.token_reader.specs.Turns.{lost, step}
use Rattle.token_reader.proofs.First.{there}
use Rattle.token_reader.proofs.ExprEnds.{step_dot, dot_member, dot_await, dot_none}
use Rattle.token_reader.proofs.expressions.dot.Goals as goal

pub member-requires : goal.member-requires
member-requires c = (c.requires.0.ready, there c.args.tokens.now (c.args.s.left.at + 1) (code (numbered_member 0)) (sym c.code_at.ensures ∙ c.in-44.is) (omega arith))

pub member-requires-in-45 : goal.member-requires-in-45
member-requires-in-45 c = (c.requires.0.ready, there c.args.tokens.now (c.args.s.left.at + 1) (code await) (sym c.code_at.ensures ∙ c.in-45.is) (omega arith))

pub returns-in-44 : goal.returns-in-44
returns-in-44 c =
    let k = sym c.code_at.ensures ∙ c.in-44.is in
    let h = there c.args.tokens.now (c.args.s.left.at + 1) (code (numbered_member 0)) k (omega arith) in
    step _ (step_dot _ c.requires.0.ready c.requires.1 (dot_member _ c.requires.0.ready (by_number _) refl (arm (after_dot_lines (token_symbol_at c.args.tokens.now (c.args.s.left.at + 1))) no_member _ 1 tt k) refl c.member.ensures)) (omega arith) (λ j q. c.member.ensures.below j (omega arith)) c.came.ensures

pub returns-in-45 : goal.returns-in-45
returns-in-45 c =
    let k = sym c.code_at.ensures ∙ c.in-45.is in
    let h = there c.args.tokens.now (c.args.s.left.at + 1) (code await) k (omega arith) in
    step _ (step_dot _ c.requires.0.ready c.requires.1 (dot_await _ c.requires.0.ready k (arm (after_dot_lines (token_symbol_at c.args.tokens.now (c.args.s.left.at + 1))) no_member _ 2 tt k) c.member-in-45.ensures)) (omega arith) (λ j q. c.member-in-45.ensures.below j (omega arith)) c.came-in-45.ensures

pub returns-in_default : goal.returns-in_default
returns-in_default c = lost (step_dot _ c.requires.0.ready c.requires.1 (dot_none _ c.requires.0.ready (sym (ap (λ n. after_dot_by n (token_symbol_at c.args.tokens.now (c.args.s.left.at + 1))) c.code_at.ensures) ∙ rest (after_dot_lines (token_symbol_at c.args.tokens.now (c.args.s.left.at + 1))) no_member _ c.in_default.in_default-own.rest) c.failed.ensures.past)) c.failed.ensures
