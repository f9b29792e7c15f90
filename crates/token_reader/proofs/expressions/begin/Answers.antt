-- `token_reader::expressions::begin` meets its contract. Assumes nothing.
use mathlib.Core.Path.{refl, sym, ap, ◌∙◌}
use native.Mathlib.Omega.{arith}
use Rattle.laws.proofs.Keys.{arm, rest}
use Rattle.token_grammar.specs.Tokens.{sub, mul, bit_and, number, bang, and_mut, name_token, literal_token, left_paren, code}
use Rattle.token_grammar.specs.Codes.{token_symbol_at}
use Rattle.token_grammar.specs.Expressions.{path, literal, neg, deref, invert, ref, ref_mut}
use Rattle.token_grammar.specs.Parser.{no_start, start_lines, start_by}
use Rattle.token_reader.specs.Turns.{absent, whole, prefixed, grouped}
use Rattle.token_reader.proofs.First.{there}
use Rattle.token_reader.proofs.ExprEnds.{operand_atom, operand_none}
use Rattle.token_reader.proofs.expressions.begin.Goals as goal

pub prefix-requires : goal.prefix-requires
prefix-requires c =
    let h = there c.args.tokens.now c.args.s.left.at (number sub) (sym c.code_at.ensures ∙ c.in-1.is) (omega arith) in
    (omega (arith, c.requires.deep, c.requires.ready.cells), omega (arith, c.requires.ready.short))

pub prefix-requires-in-2 : goal.prefix-requires-in-2
prefix-requires-in-2 c =
    let h = there c.args.tokens.now c.args.s.left.at (number mul) (sym c.code_at.ensures ∙ c.in-2.is) (omega arith) in
    (omega (arith, c.requires.deep, c.requires.ready.cells), omega (arith, c.requires.ready.short))

pub prefix-requires-in-8 : goal.prefix-requires-in-8
prefix-requires-in-8 c =
    let h = there c.args.tokens.now c.args.s.left.at (number bit_and) (sym c.code_at.ensures ∙ c.in-8.is) (omega arith) in
    (omega (arith, c.requires.deep, c.requires.ready.cells), omega (arith, c.requires.ready.short))

pub prefix-requires-in-29 : goal.prefix-requires-in-29
prefix-requires-in-29 c =
    let h = there c.args.tokens.now c.args.s.left.at (code bang) (sym c.code_at.ensures ∙ c.in-29.is) (omega arith) in
    (omega (arith, c.requires.deep, c.requires.ready.cells), omega (arith, c.requires.ready.short))

pub prefix-requires-in-30 : goal.prefix-requires-in-30
prefix-requires-in-30 c =
    let h = there c.args.tokens.now c.args.s.left.at (code and_mut) (sym c.code_at.ensures ∙ c.in-30.is) (omega arith) in
    (omega (arith, c.requires.deep, c.requires.ready.cells), omega (arith, c.requires.ready.short))

pub atom-requires : goal.atom-requires
atom-requires c = (c.requires.ready, there c.args.tokens.now c.args.s.left.at (code (name_token 0)) (sym c.code_at.ensures ∙ c.in-32.is) (omega arith))

pub atom-requires-in-33 : goal.atom-requires-in-33
atom-requires-in-33 c = (c.requires.ready, there c.args.tokens.now c.args.s.left.at (code (literal_token 0)) (sym c.code_at.ensures ∙ c.in-33.is) (omega arith))

pub wait-requires : goal.wait-requires
wait-requires c =
    let h = there c.args.tokens.now c.args.s.left.at (code left_paren) (sym c.code_at.ensures ∙ c.in-35.is) (omega arith) in
    omega (arith, c.requires.deep, c.requires.ready.cells)

pub returns-in-1 : goal.returns-in-1
returns-in-1 c =
    let k = sym c.code_at.ensures ∙ c.in-1.is in
    prefixed neg _ _ (there c.args.tokens.now c.args.s.left.at (number sub) k (omega arith)) (arm (start_lines (token_symbol_at c.args.tokens.now c.args.s.left.at)) no_start _ 0 tt k) refl c.prefix.ensures.0 c.prefix.ensures.1

pub returns-in-2 : goal.returns-in-2
returns-in-2 c =
    let k = sym c.code_at.ensures ∙ c.in-2.is in
    prefixed deref _ _ (there c.args.tokens.now c.args.s.left.at (number mul) k (omega arith)) (arm (start_lines (token_symbol_at c.args.tokens.now c.args.s.left.at)) no_start _ 1 tt k) refl c.prefix-in-2.ensures.0 c.prefix-in-2.ensures.1

pub returns-in-8 : goal.returns-in-8
returns-in-8 c =
    let k = sym c.code_at.ensures ∙ c.in-8.is in
    prefixed ref _ _ (there c.args.tokens.now c.args.s.left.at (number bit_and) k (omega arith)) (arm (start_lines (token_symbol_at c.args.tokens.now c.args.s.left.at)) no_start _ 2 tt k) refl c.prefix-in-8.ensures.0 c.prefix-in-8.ensures.1

pub returns-in-29 : goal.returns-in-29
returns-in-29 c =
    let k = sym c.code_at.ensures ∙ c.in-29.is in
    prefixed invert _ _ (there c.args.tokens.now c.args.s.left.at (code bang) k (omega arith)) (arm (start_lines (token_symbol_at c.args.tokens.now c.args.s.left.at)) no_start _ 3 tt k) refl c.prefix-in-29.ensures.0 c.prefix-in-29.ensures.1

pub returns-in-30 : goal.returns-in-30
returns-in-30 c =
    let k = sym c.code_at.ensures ∙ c.in-30.is in
    prefixed ref_mut _ _ (there c.args.tokens.now c.args.s.left.at (code and_mut) k (omega arith)) (arm (start_lines (token_symbol_at c.args.tokens.now c.args.s.left.at)) no_start _ 4 tt k) refl c.prefix-in-30.ensures.0 c.prefix-in-30.ensures.1

pub returns-in-32 : goal.returns-in-32
returns-in-32 c =
    let k = sym c.code_at.ensures ∙ c.in-32.is in
    let h = there c.args.tokens.now c.args.s.left.at (code (name_token 0)) k (omega arith) in
    whole _ (operand_atom c.requires.ready (path _) (arm (start_lines (token_symbol_at c.args.tokens.now c.args.s.left.at)) no_start _ 5 tt k) refl refl c.atom.ensures) (omega arith) (λ j q. c.atom.ensures.below j (omega arith)) c.came.ensures

pub returns-in-33 : goal.returns-in-33
returns-in-33 c =
    let k = sym c.code_at.ensures ∙ c.in-33.is in
    let h = there c.args.tokens.now c.args.s.left.at (code (literal_token 0)) k (omega arith) in
    whole _ (operand_atom c.requires.ready (literal _) (arm (start_lines (token_symbol_at c.args.tokens.now c.args.s.left.at)) no_start _ 6 tt k) refl refl c.atom-in-33.ensures) (omega arith) (λ j q. c.atom-in-33.ensures.below j (omega arith)) c.came-in-33.ensures

pub returns-in-35 : goal.returns-in-35
returns-in-35 c =
    let k = sym c.code_at.ensures ∙ c.in-35.is in
    grouped (there c.args.tokens.now c.args.s.left.at (code left_paren) k (omega arith)) (arm (start_lines (token_symbol_at c.args.tokens.now c.args.s.left.at)) no_start _ 7 tt k) c.wait.ensures.0 c.wait.ensures.1

pub returns-in_default : goal.returns-in_default
returns-in_default c = absent (operand_none c.requires.ready (sym (ap (λ n. start_by n (token_symbol_at c.args.tokens.now c.args.s.left.at)) c.code_at.ensures) ∙ rest (start_lines (token_symbol_at c.args.tokens.now c.args.s.left.at)) no_start _ c.in_default.in_default-own.rest) c.failed.ensures.past) c.failed.ensures
