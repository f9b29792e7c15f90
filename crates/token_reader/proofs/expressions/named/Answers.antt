-- `token_reader::expressions::named` meets its contract. Assumes nothing.
use mathlib.Core.Path.{refl, sym, ◌∙◌}
use Prim.Native.Nat.{◌+◌}
use native.Mathlib.Omega.{arith}
use Rattle.laws.proofs.Keys.{arm}
use Rattle.laws.proofs.Choice.{pick_true}
use Rattle.token_grammar.specs.Tokens.{name_token, left_paren, code}
use Rattle.token_grammar.specs.Codes.{token_symbol_at}
use Rattle.token_grammar.specs.Parser.{no_member, after_dot_lines}
use Rattle.token_reader.specs.Turns.{a_method, step}
use Rattle.token_reader.proofs.First.{there}
use Rattle.token_reader.proofs.ExprEnds.{step_dot, dot_named, named_member, named_call}
use Rattle.token_reader.proofs.expressions.named.Goals as goal

pub member-requires : goal.member-requires
member-requires c = (c.requires.0.ready, there c.args.tokens.now (c.args.s.left.at + 1) (code (name_token 0)) c.requires.2 (omega arith))

pub returns-then-code_at-ne-LEFT_PAREN : goal.returns-then-code_at-ne-LEFT_PAREN
returns-then-code_at-ne-LEFT_PAREN c =
    let h = there c.args.tokens.now (c.args.s.left.at + 1) (code (name_token 0)) c.requires.2 (omega arith) in
    step _ (step_dot _ c.requires.0.ready c.requires.1 (dot_named _ c.requires.0.ready (arm (after_dot_lines (token_symbol_at c.args.tokens.now (c.args.s.left.at + 1))) no_member _ 0 tt c.requires.2) (named_member _ c.requires.0.ready (λ z. c.if-code_at-ne-LEFT_PAREN.true (c.code_at.ensures ∙ z)) refl c.member.ensures))) (omega arith) (λ j q. c.member.ensures.below j (omega arith)) c.came.ensures

pub call-requires : goal.call-requires
call-requires c =
    let e = sym c.code_at.ensures ∙ c.if-code_at-ne-LEFT_PAREN.false in
    let i = there c.args.tokens.now (c.args.s.left.at + 2) (code left_paren) e (omega arith) in (
      c.requires.0,
      a_method refl,
      sym (pick_true _ _ refl),
      record {
        from = omega arith;
        inside = i;
        steps = λ own now r rd q. step_dot _ rd c.requires.1 (dot_named _ rd (arm (after_dot_lines (token_symbol_at c.args.tokens.now (c.args.s.left.at + 1))) no_member _ 0 tt c.requires.2) (named_call _ rd c.symbol_at-symbol.ensures e q));
      },
    )
