-- `token_reader::types::path` meets its contract. Assumes nothing.
use mathlib.Core.Path.{refl, sym, ◌∙◌}
use Prim.Native.Nat.{◌+◌}
use native.Mathlib.Omega.{arith}
use Rattle.token_grammar.specs.Tokens.{gt, number, name_token, code}
use Rattle.token_grammar.specs.Codes.{token_symbol_at}
use Rattle.token_grammar.specs.Parser.{no_type, type_start_lines}
use Rattle.laws.proofs.Keys.{arm}
use Rattle.token_reader.specs.Waiting.{whole, applies}
use Rattle.token_reader.proofs.First.{there}
use Rattle.token_reader.proofs.TypeEnds.{type_at_path, path_named, path_empty}
use Rattle.token_reader.proofs.types.path.Goals as goal

pub store_named-free-requires : goal.store_named-free-requires
store_named-free-requires c = let h = there c.args.tokens.now c.args.s.at (code (name_token 0)) c.requires.1 (omega arith) in (omega (arith, c.requires.0.deep), c.requires.0.ready.cells)

pub returns-then-code_at-ne-LT : goal.returns-then-code_at-ne-LT
returns-then-code_at-ne-LT c =
    let h = there c.args.tokens.now c.args.s.at (code (name_token 0)) c.requires.1 (omega arith) in
    rw c.came.ensures
    (whole (type_at_path c.requires.0.ready h (arm (type_start_lines (token_symbol_at c.args.tokens.now c.args.s.at)) no_type _ 3 tt c.requires.1) (path_named c.requires.0.ready h (λ z. c.if-code_at-ne-LT.true (c.code_at.ensures ∙ z)) c.store_named-free.ensures)) (omega arith) (omega arith) (λ j q. c.store_named-free.ensures.below j (omega arith)) refl refl)

pub store_named-free-requires-then-code_at-eq-GT : goal.store_named-free-requires-then-code_at-eq-GT
store_named-free-requires-then-code_at-eq-GT c = let h = there c.args.tokens.now c.args.s.at (code (name_token 0)) c.requires.1 (omega arith) in (omega (arith, c.requires.0.deep), c.requires.0.ready.cells)

pub returns-then-code_at-eq-GT : goal.returns-then-code_at-eq-GT
returns-then-code_at-eq-GT c =
    let h = there c.args.tokens.now c.args.s.at (code (name_token 0)) c.requires.1 (omega arith) in
    let g = sym c.code_at-2.ensures ∙ c.if-code_at-eq-GT.true in
    let i = there c.args.tokens.now (c.args.s.at + 2) (number gt) g (omega arith) in
    rw c.came-then-code_at-eq-GT.ensures
    (whole (type_at_path c.requires.0.ready h (arm (type_start_lines (token_symbol_at c.args.tokens.now c.args.s.at)) no_type _ 3 tt c.requires.1) (path_empty c.requires.0.ready h (sym c.code_at.ensures ∙ c.if-code_at-ne-LT.false) g c.store_named-free-then-code_at-eq-GT.ensures)) (omega arith) (omega arith) (λ j q. c.store_named-free-then-code_at-eq-GT.ensures.below j (omega arith)) refl refl)

pub wait-requires : goal.wait-requires
wait-requires c = let h = there c.args.tokens.now c.args.s.at (code (name_token 0)) c.requires.1 (omega arith) in omega (arith, c.requires.0.deep, c.requires.0.ready.cells)

pub returns : goal.returns
returns c =
    let h = there c.args.tokens.now c.args.s.at (code (name_token 0)) c.requires.1 (omega arith) in
    applies h (arm (type_start_lines (token_symbol_at c.args.tokens.now c.args.s.at)) no_type _ 3 tt c.requires.1) (sym c.code_at.ensures ∙ c.if-code_at-ne-LT.false) (λ z. c.if-code_at-eq-GT.false (c.code_at-2.ensures ∙ z)) (rw c.symbol_at-symbol.ensures at c.wait.ensures.0) c.wait.ensures.1
