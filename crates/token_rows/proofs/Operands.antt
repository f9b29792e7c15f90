-- Left and right operands of plain owners in contexts 0 and 3: the scans change no precedence. Assumes nothing.
use mathlib.Core.Path.{◌≡◌, refl, sym, ◌∙◌}
use mathlib.Core.Bool.{Bool, true, false, not, ◌&&◌, ◌||◌}
use Prim.Native.Nat.{ℕ, ◌≤◌, ◌<◌}
use native.Mathlib.Omega.{arith}
use lib.Dec.{eqb, leb, ltb}
use borrow.Author.Tests.{eqb-true, eqb-false, ltb-true, leb-true, le-ltb, lt-leb}
use Rattle.laws.specs.Choice.{pick, lookup}
use Rattle.laws.proofs.Choice.{pick_false, true_not_false}
use Rattle.tree.specs.Walks.{at_root}
use Rattle.precedence.specs.declared.Precedence.{Precedence}
use Rattle.precedence.specs.declared.Precedence.TheVariants as rank
use Rattle.precedence.specs.Precedences.{rank_of, below, at_most, same, of_binop}
use Rattle.fixup.specs.declared.context.FixupContext.{FixupContext}
use Rattle.fixup.specs.Fixup.{effective, left_of_binary, scan_left_lines, scan_left}
use Rattle.fixup_scan.specs.Scans.{loose, scanned, right_by, scan_right, rightmost_precedence, bails_out, leftmost_precedence}
use Rattle.fixup_scan.specs.Arms.{not_consume}
use Rattle.token_grammar.specs.Tokens.{number}
use Rattle.token_grammar.specs.Levels.{kind, level}
use Rattle.token_grammar.specs.Types.{one}
use Rattle.token_grammar.specs.Expressions.{Expr, atom, paren, prefix, binary, cast, member, try, index, call, method, kind_of}
use Rattle.token_grammar.specs.Grammar.{Context}
use Rattle.token_grammar.proofs.Added.{strength}
use Rattle.token_grammar.proofs.Levels.{binop_level}
use Rattle.token_plain.specs.Trees.{operator_label, tree_of}
use Rattle.token_rows.proofs.Contexts.{Calm}
use Rattle.token_rows.proofs.Nodes.{Operating, assigning, operating, operated, effective_is}
use Rattle.token_rows.proofs.Scans.{consumes_left}

-- ---- left operands: scan_right consumes

pub left_is : (k : Context) (e : Expr one) (x : FixupContext) → Calm k x → 1 ≤ rank_of x.next_operator → leftmost_precedence (tree_of e) x ≡ effective x (tree_of e)
unfolding leftmost_precedence bails_out
left_is k e x c h = rw (consumes_left k e x c h) (off (not x.next_operator_can_begin_expr || same x.next_operator rank.Range))
  where
    off : (b : Bool) → pick (b && false) rank.Unambiguous (effective x (tree_of e)) ≡ effective x (tree_of e)
    off true = pick_false _ _ refl
    off false = pick_false _ _ refl

-- ---- right operands: where the scan would matter, scan_left does not hold

-- an operand of rank d behind an operator of rank p passes rightmost_subexpression_precedence's first test
record Passes (p d : ℕ) : Type 0 where
  up_to : d ≤ p
  no_assign : p ≡ 1 → d < p
  no_prefix : p ≡ 14 → d < p

passes : (p d : ℕ) → pick (eqb p 1 || (eqb p 5 || eqb p 14)) (ltb d p) (leb d p) ≡ true → Passes p d
unfolding pick
passes p d h = go (eqb p 1) (eqb p 5) (eqb p 14) refl refl h
  where
    strictly : ltb d p ≡ true → Passes p d
    strictly k = let l = ltb-true d p k in record { up_to = omega arith; no_assign = λ q. l; no_prefix = λ q. l }

    go : (a b c : Bool) → eqb p 1 ≡ a → eqb p 14 ≡ c → pick (a || (b || c)) (ltb d p) (leb d p) ≡ true → Passes p d
    go true b c u v k = strictly k
    go false true c u v k = strictly k
    go false false true u v k = strictly k
    go false false false u v k = record { up_to = leb-true d p k; no_assign = λ q. absurd (eqb-false p 1 u q); no_prefix = λ q. absurd (eqb-false p 14 v q) }

module _ (x : FixupContext) (high : rank_of x.previous_operator ≤ 14) where
  abbrev p : ℕ
  p = rank_of x.previous_operator

  -- forms from prefixes upward do not pass
  strong : {A : Type 0} (d : ℕ) → 14 ≤ d → Passes p d → A
  strong d h k =
      let m = k.up_to in
      let z = k.no_prefix (omega arith) in
      absurd (omega arith)

  left_of_binary_lem : (q : Precedence) → Passes p (rank_of q) → left_of_binary x.previous_operator q ≡ false
  unfolding left_of_binary pick
  left_of_binary_lem q k = go (same q rank.Assign) refl
    where
      go : (b : Bool) → same q rank.Assign ≡ b → pick b (at_most x.previous_operator rank.Assign) (below x.previous_operator q) ≡ false
      go true e =
          let one = eqb-true (rank_of q) 1 e in
          let m = k.up_to in
          let z : (p ≡ 1 → ⊥) = λ w. let s = k.no_assign w in omega arith in
          lt-leb p 1 (omega arith)
      go false e = le-ltb p (rank_of q) k.up_to

  scan_left_not : (e : Expr one) → Passes p (level (kind_of e)) → scan_left (tree_of e) x ≡ false
  unfolding scan_left scan_left_lines at_root lookup pick operator_label left_of_binary kind
  scan_left_not (atom y) k = strong 15 (omega arith) k
  scan_left_not (paren a) k = strong 15 (omega arith) k
  scan_left_not (prefix q a) k = strong 14 (omega arith) k
  scan_left_not (binary o a b) k = go (operated o)
    where
      go : Operating o → scan_left (tree_of (binary o a b)) x ≡ false
      go (assigning e) = rw e (left_of_binary_lem rank.Assign (rw e at k))
      go (operating h e) = rw e (left_of_binary_lem (of_binop (number o)) (rw (binop_level o h) k))
  scan_left_not (cast a t) k = le-ltb p 13 k.up_to
  scan_left_not (member m a) k = strong 15 (omega arith) k
  scan_left_not (try a) k = strong 15 (omega arith) k
  scan_left_not (index a b) k = strong 15 (omega arith) k
  scan_left_not (call a l) k = strong 15 (omega arith) k
  scan_left_not (method y a l) k = strong 15 (omega arith) k

-- without `<` or `<<` behind it the strength is the level
pub strength_off : (g : Bool) (e : Expr one) → g ≡ false → strength g e ≡ level (kind_of e)
unfolding strength pick
strength_off g e h = rw h

loose_passes : (x : FixupContext) (d : Precedence) → loose x d ≡ true → Passes (rank_of x.previous_operator) (rank_of d)
unfolding loose
loose_passes x d h = passes (rank_of x.previous_operator) (rank_of d) h

-- before `<` and `<<` the second test fails
abbrev pub Settled : FixupContext → Type 0
Settled x = x.next_operator_can_begin_generics ≡ true → scanned x ≡ false

pub right_is : (e : Expr one) (x : FixupContext) → Settled x → rank_of x.previous_operator ≤ 14 → rightmost_precedence (tree_of e) x ≡ effective x (tree_of e)
unfolding rightmost_precedence right_by
right_is e x settled high = go (scanned x) (loose x (effective x (tree_of e))) refl refl
  where
    off : (b : Bool) → pick (b && false) rank.Prefix (effective x (tree_of e)) ≡ effective x (tree_of e)
    off true = pick_false _ _ refl
    off false = pick_false _ _ refl

    go : (s l : Bool) → scanned x ≡ s → loose x (effective x (tree_of e)) ≡ l
        → pick ((l && s) && (not_consume (scan_right (tree_of e) x x.previous_operator 1 0) && scan_left (tree_of e) x)) rank.Prefix (effective x (tree_of e)) ≡ effective x (tree_of e)
    go s false u v = pick_false _ _ refl
    go false true u v = pick_false _ _ refl
    go true true u v = rw (scan_left_not x high e passed) (off (not_consume (scan_right (tree_of e) x x.previous_operator 1 0)))
      where
        plainly : (g : Bool) → x.next_operator_can_begin_generics ≡ g → rank_of (effective x (tree_of e)) ≡ level (kind_of e)
        plainly true w = true_not_false (sym u ∙ settled w)
        plainly false w = effective_is x e ∙ strength_off x.next_operator_can_begin_generics e w

        passed : Passes (rank_of x.previous_operator) (level (kind_of e))
        passed = rw (plainly x.next_operator_can_begin_generics refl) at (loose_passes x (effective x (tree_of e)) v)
