-- prettyplease's fixup.rs: what a node looks like from outside, `matches!` on an expression.
use Rattle.std.specs.Prelude.{Bool, true, false, not, ◌&&◌, [], ◌∷◌, eqb}
use Rattle.laws.specs.Choice.{line}
use Rattle.tree.specs.Forms.{expr_block, expr_break, expr_cast, expr_closure, expr_let, expr_path, expr_range, expr_return, expr_struct, expr_yield}
use Rattle.tree.specs.Trees.{Tree}
use Rattle.tree.specs.Walks.{is_there, at_root}
use Rattle.classify.specs.Classify.{trailing_path}

-- ---- for parenthesize

-- Expr::Let(_)
unfoldable pub is_let : Tree → Bool
is_let t = at_root (λ l a b. line (expr_let ∷ []) true ∷ []) false t

-- Expr::Struct(_)
unfoldable pub is_struct : Tree → Bool
is_struct t = at_root (λ l a b. line (expr_struct ∷ []) true ∷ []) false t

-- Return or Yield without a value
unfoldable pub is_bare_return : Tree → Bool
is_bare_return t = at_root (λ l a b. line (expr_return ∷ expr_yield ∷ []) (not (is_there a)) ∷ []) false t

-- Break without a value, Path, Range without an end
unfoldable pub is_open_ended : Tree → Bool
is_open_ended t = at_root (λ l a b. line (expr_break ∷ []) (not (is_there a)) ∷ line (expr_path ∷ []) true ∷ line (expr_range ∷ []) (not (is_there b)) ∷ []) false t

-- a Block without attributes and without a label
unfoldable pub is_plain_block : Tree → Bool
is_plain_block t = at_root (λ l a b. line (expr_block ∷ []) (eqb l.attributes 0 && eqb l.detail 0) ∷ []) false t

-- ---- for precedence

-- Break, Return or Yield without a value
unfoldable pub is_bare_jump : Tree → Bool
is_bare_jump t = at_root (λ l a b. line (expr_break ∷ expr_return ∷ expr_yield ∷ []) (not (is_there a)) ∷ []) false t

-- "expressions that extend to the end of current statement or group"; a Range without a start
unfoldable pub is_open_ahead : Tree → Bool
is_open_ahead t = at_root (λ l a b. line (expr_break ∷ expr_closure ∷ expr_let ∷ expr_return ∷ expr_yield ∷ []) true ∷ line (expr_range ∷ []) (not (is_there a)) ∷ []) false t

-- a Cast whose type ends in a path without arguments
unfoldable pub is_cast_to_path : Tree → Bool
is_cast_to_path t = at_root (λ l a b. line (expr_cast ∷ []) (trailing_path b) ∷ []) false t
