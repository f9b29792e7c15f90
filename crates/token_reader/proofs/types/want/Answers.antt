-- `token_reader::types::want` meets its contract. Assumes nothing.
use mathlib.Core.Path.{refl, sym, ap, ◌∙◌}
use native.Mathlib.Omega.{arith}
use Rattle.laws.proofs.Keys.{arm, rest}
use Rattle.token_grammar.specs.Tokens.{bit_and, number, bang, and_mut, star_const, star_mut, underscore, code}
use Rattle.token_grammar.specs.Codes.{token_symbol_at}
use Rattle.token_grammar.specs.Types.{const_ptr, mut_ptr, shared_ref, mut_ref, infer, never}
use Rattle.token_grammar.specs.Parser.{no_type, type_start_lines, type_start_by}
use Rattle.token_reader.specs.Waiting.{absent, whole, points}
use Rattle.token_reader.proofs.First.{there}
use Rattle.token_reader.proofs.TypeEnds.{type_sign}
use Rattle.token_reader.proofs.types.want.Goals as goal

pub wait-requires : goal.wait-requires
wait-requires c =
    let h = there c.args.tokens.now c.args.s.at (number bit_and) (sym c.code_at.ensures ∙ c.in-8.is) (omega arith) in
    omega (arith, c.requires.deep, c.requires.ready.cells)

pub sign-requires : goal.sign-requires
sign-requires c = (c.requires, there c.args.tokens.now c.args.s.at (code bang) (sym c.code_at.ensures ∙ c.in-29.is) (omega arith))

pub wait-requires-in-30 : goal.wait-requires-in-30
wait-requires-in-30 c =
    let h = there c.args.tokens.now c.args.s.at (code and_mut) (sym c.code_at.ensures ∙ c.in-30.is) (omega arith) in
    omega (arith, c.requires.deep, c.requires.ready.cells)

pub wait-requires-in-41 : goal.wait-requires-in-41
wait-requires-in-41 c =
    let h = there c.args.tokens.now c.args.s.at (code star_const) (sym c.code_at.ensures ∙ c.in-41.is) (omega arith) in
    omega (arith, c.requires.deep, c.requires.ready.cells)

pub wait-requires-in-42 : goal.wait-requires-in-42
wait-requires-in-42 c =
    let h = there c.args.tokens.now c.args.s.at (code star_mut) (sym c.code_at.ensures ∙ c.in-42.is) (omega arith) in
    omega (arith, c.requires.deep, c.requires.ready.cells)

pub sign-requires-in-43 : goal.sign-requires-in-43
sign-requires-in-43 c = (c.requires, there c.args.tokens.now c.args.s.at (code underscore) (sym c.code_at.ensures ∙ c.in-43.is) (omega arith))

pub returns-in-8 : goal.returns-in-8
returns-in-8 c =
    let k = sym c.code_at.ensures ∙ c.in-8.is in
    points shared_ref _ _ (there c.args.tokens.now c.args.s.at (number bit_and) k (omega arith)) (arm (type_start_lines (token_symbol_at c.args.tokens.now c.args.s.at)) no_type _ 0 tt k) refl c.wait.ensures.0 c.wait.ensures.1

pub returns-in-29 : goal.returns-in-29
returns-in-29 c =
    let k = sym c.code_at.ensures ∙ c.in-29.is in
    let h = there c.args.tokens.now c.args.s.at (code bang) k (omega arith) in
    whole (type_sign c.requires.ready never h (arm (type_start_lines (token_symbol_at c.args.tokens.now c.args.s.at)) no_type _ 1 tt k) refl c.sign.ensures.0) (omega arith) (omega arith) c.sign.ensures.1 c.sign.ensures.3 c.sign.ensures.4

pub returns-in-30 : goal.returns-in-30
returns-in-30 c =
    let k = sym c.code_at.ensures ∙ c.in-30.is in
    points mut_ref _ _ (there c.args.tokens.now c.args.s.at (code and_mut) k (omega arith)) (arm (type_start_lines (token_symbol_at c.args.tokens.now c.args.s.at)) no_type _ 2 tt k) refl c.wait-in-30.ensures.0 c.wait-in-30.ensures.1

pub returns-in-41 : goal.returns-in-41
returns-in-41 c =
    let k = sym c.code_at.ensures ∙ c.in-41.is in
    points const_ptr _ _ (there c.args.tokens.now c.args.s.at (code star_const) k (omega arith)) (arm (type_start_lines (token_symbol_at c.args.tokens.now c.args.s.at)) no_type _ 4 tt k) refl c.wait-in-41.ensures.0 c.wait-in-41.ensures.1

pub returns-in-42 : goal.returns-in-42
returns-in-42 c =
    let k = sym c.code_at.ensures ∙ c.in-42.is in
    points mut_ptr _ _ (there c.args.tokens.now c.args.s.at (code star_mut) k (omega arith)) (arm (type_start_lines (token_symbol_at c.args.tokens.now c.args.s.at)) no_type _ 5 tt k) refl c.wait-in-42.ensures.0 c.wait-in-42.ensures.1

pub returns-in-43 : goal.returns-in-43
returns-in-43 c =
    let k = sym c.code_at.ensures ∙ c.in-43.is in
    let h = there c.args.tokens.now c.args.s.at (code underscore) k (omega arith) in
    whole (type_sign c.requires.ready infer h (arm (type_start_lines (token_symbol_at c.args.tokens.now c.args.s.at)) no_type _ 6 tt k) refl c.sign-in-43.ensures.0) (omega arith) (omega arith) c.sign-in-43.ensures.1 c.sign-in-43.ensures.3 c.sign-in-43.ensures.4

pub returns-in_default : goal.returns-in_default
returns-in_default c = absent (sym (ap (λ n. type_start_by n (token_symbol_at c.args.tokens.now c.args.s.at)) c.code_at.ensures) ∙ rest (type_start_lines (token_symbol_at c.args.tokens.now c.args.s.at)) no_type _ c.in_default.in_default-own.rest) c.failed.ensures.0 c.failed.ensures.1 c.failed.ensures.2 refl
