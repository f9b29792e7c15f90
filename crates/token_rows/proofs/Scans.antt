-- scan_right on plain trees in contexts 0 and 3: it never fails, and of a left operand it consumes. Assumes nothing.
use mathlib.Core.Path.{◌≡◌, refl, sym, subst, ap, ◌∙◌}
use mathlib.Core.Bool.{Bool, true, false, not, ◌&&◌, ◌||◌}
use Prim.Native.Nat.{ℕ, ◌≤◌, ◌<◌}
use lib.Dec.{T, eqb}
use borrow.Author.Tests.{lt-ltb}
use Rattle.laws.specs.Choice.{pick, lookup}
use Rattle.laws.proofs.Choice.{pick_true, pick_false}
use Rattle.tree.specs.Forms.{expr_binary}
use Rattle.tree.specs.Trees.{Label, Tree, none, node}
use Rattle.tree.specs.Walks.{is_there, at_root}
use Rattle.precedence.specs.declared.Precedence.{Precedence}
use Rattle.precedence.specs.declared.Precedence.TheVariants as rank
use Rattle.precedence.specs.Precedences.{rank_of, below, same, of_binop}
use Rattle.fixup.specs.declared.context.FixupContext.{FixupContext}
use Rattle.fixup.specs.Fixup.{parenthesize}
use Rattle.fixup_scan.specs.declared.Scan.{Scan}
use Rattle.fixup_scan.specs.declared.Scan.TheVariants.{Fail, Bailout, Consume}
use Rattle.fixup_scan.specs.declared.arm.Arm.{Arm}
use Rattle.fixup_scan.specs.declared.arm.Arm.TheVariants.{Assign, Binary, Prefix, Closed}
use Rattle.fixup_scan.specs.Scans.{binds, consumes, consume_by, right_by, scan_right}
use Rattle.fixup_scan.specs.Arms.{arm_lines, arm_of, operand_by, closed_scan, early, visit_by, leave_bailout, leave_by, settle_by, finish, scan_by}
use Rattle.fixup_scan.specs.Linear.{onwards}
use Rattle.fixup_scan.proofs.Spine.{scan_along}
use Rattle.token_grammar.specs.Tokens.{Operator, number}
use Rattle.token_grammar.specs.Tokens as token
use Rattle.token_grammar.specs.Levels.{kind, level}
use Rattle.token_grammar.specs.Types.{one}
use Rattle.token_grammar.specs.Expressions.{Atom, path, literal, structure, Prefix as Prefixes, neg, deref, invert, ref, ref_mut, Member, by_name, by_number, awaited, Expr, atom, paren, prefix, binary, cast, member, try, index, call, method, is_struct}
use Rattle.token_grammar.specs.Grammar.{Context}
use Rattle.token_grammar.proofs.Tokens.{of_operators, each_operator}
use Rattle.token_grammar.proofs.Levels.{binop_level}
use Rattle.token_grammar.proofs.Pairs.{no_struct}
use Rattle.token_plain.specs.Trees.{label, operator_label, tree_of}
use Rattle.token_rows.proofs.Contexts.{Calm, calm_parenthesize, calm_rightmost}
use Rattle.token_rows.proofs.Nodes.{Operating, assigning, operating, operated, facts}

-- ---- the arms of plain expressions: all others are closed, for all to see

atom_arm : (x : Atom) → arm_of (tree_of (atom x)) ≡ Closed
unfolding arm_of arm_lines at_root lookup pick
atom_arm (path y) = refl
atom_arm (literal y) = refl
atom_arm structure = refl

member_arm : (m : Member) (a : Expr one) → arm_of (tree_of (member m a)) ≡ Closed
unfolding arm_of arm_lines at_root lookup pick
member_arm (by_name y) a = refl
member_arm (by_number y) a = refl
member_arm awaited a = refl

prefix_arm : (p : Prefixes) (a : Expr one) → arm_of (tree_of (prefix p a)) ≡ Prefix
unfolding arm_of arm_lines at_root lookup pick
prefix_arm neg a = refl
prefix_arm deref a = refl
prefix_arm invert a = refl
prefix_arm ref a = refl
prefix_arm ref_mut a = refl

assign_arm : (o : Operator) (a b : Expr one) → o ≡ token.assign → arm_of (tree_of (binary o a b)) ≡ Assign
unfolding arm_of arm_lines at_root lookup pick operator_label
assign_arm o a b e = rw e

binary_arm : (o : Operator) (a b : Expr one) → operator_label o ≡ label expr_binary (number o) → arm_of (tree_of (binary o a b)) ≡ Binary (of_binop (number o))
unfolding arm_of arm_lines at_root lookup pick
binary_arm o a b e = rw e

-- ---- answers that are not Fail. Only a Range or a Let before it could make a closed form answer Fail

abbrev NotFail : Scan → Type 0
NotFail Fail = ⊥
NotFail Bailout = Unit {0}
NotFail Consume = Unit {0}

pub record Fine (p : Precedence) : Type 0 where
  pub no_range : same p rank.Range ≡ false
  pub no_let : same p rank.Let ≡ false

not_true : (b : Bool) → T (not b) → b ≡ false
not_true true h = absurd h
not_true false h = refl

fine_binop : (o : Operator) → number o < 28 → Fine (of_binop (number o))
unfolding kind lookup pick
fine_binop o h = record { no_range = rw (binop_level o h) (off 2 tt); no_let = rw (binop_level o h) (off 5 tt) }
  where
    off : (n : ℕ) → T (of_operators (λ p. not (eqb (level (kind p)) n))) → eqb (level (kind o)) n ≡ false
    off n t = not_true (eqb (level (kind o)) n) (each_operator (λ p. not (eqb (level (kind p)) n)) t o)

closed_is : (p next : Precedence) → Fine p → closed_scan p next ≡ consume_by p next
unfolding closed_scan
closed_is p next f = rw (f.no_range, f.no_let) (off (same next rank.Assign || same next rank.Range))
  where
    off : (b : Bool) → pick ((b && false) || false) Fail (consume_by p next) ≡ consume_by p next
    off true = pick_false _ _ refl
    off false = pick_false _ _ refl

by_not_fail : (p next : Precedence) → NotFail (consume_by p next)
unfolding consume_by pick
by_not_fail p next = go (consumes p next)
  where
    go : (b : Bool) → NotFail (pick b Consume Bailout)
    go true = tt
    go false = tt

-- ---- one step of the scan

module _ (l : Label) (a b : Tree) (x : FixupContext) (p : Precedence) (fine : Fine p) (fail bailout : ℕ) where
  abbrev here : Tree
  here = node l a b

  -- an arm with its operand
  scan_arm : (arm : Arm) → arm_of here ≡ arm → parenthesize x here ≡ false → scan_right here x p fail bailout ≡ scan_by arm (operand_by arm none a b) (scan_right (operand_by arm none a b)) x p fail bailout
  unfolding onwards
  scan_arm arm e quiet = scan_along here x p fail bailout ∙ pick_false _ _ quiet ∙ rw e

  -- whether a closed form has a pair of its own or not
  scan_closed : arm_of here ≡ Closed → scan_right here x p fail bailout ≡ consume_by p x.next_operator
  unfolding scan_by scan_right pick
  scan_closed e = go (parenthesize x here) refl
    where
      go : (b : Bool) → parenthesize x here ≡ b → scan_right here x p fail bailout ≡ consume_by p x.next_operator
      go true q = pick_true _ _ q
      go false q = scan_arm Closed e q ∙ closed_is p x.next_operator fine

  -- with an operand whose scan does not fail, the answer is Consume, or what the arm makes of Bailout
  scan_on : (P : Scan → Type 0) (arm : Arm) → arm_of here ≡ arm → parenthesize x here ≡ false → is_there (operand_by arm none a b) ≡ true
      → (let v = visit_by arm x p fail bailout in NotFail (scan_right (operand_by arm none a b) v.context v.precedence v.fail_offset v.bailout_offset))
      → P Consume → ((settled : Scan) → P (finish (leave_bailout arm p x.next_operator) settled))
      → P (scan_right here x p fail bailout)
  unfolding scan_by
  scan_on P arm e quiet there well consume bail =
      let v = visit_by arm x p fail bailout in
      let scans = scan_right (operand_by arm none a b) in
      subst P (sym (scan_arm arm e quiet ∙ pick_false _ _ (ap not there)))
      (by (early arm x.next_operator (consumes p x.next_operator) fail bailout) (scans v.context v.precedence v.fail_offset v.bailout_offset) well
      (settle_by arm p x.next_operator (right_by (operand_by arm none a b) scans v.context)))
    where
      by : (b : Bool) (s : Scan) → NotFail s → (settled : Scan) → P (pick b Consume (finish (leave_by arm p x.next_operator s) settled))
      by true s h settled = subst P (sym (pick_true _ _ refl)) consume
      by false Fail h settled = absurd h
      by false Bailout h settled = subst P (sym (pick_false _ _ refl)) (bail settled)
      by false Consume h settled = subst P (sym (pick_false _ _ refl)) consume

-- a plain expression that is no Struct has no pair of its own
quiet : (k : Context) (e : Expr one) (x : FixupContext) → Calm k x → is_struct e ≡ false → parenthesize x (tree_of e) ≡ false
quiet k e x c h = calm_parenthesize k x e c ∙ no_struct k e h

-- ---- scan_right answers Consume, or what the precedence alone says

answers : (P : Scan → Type 0) (k : Context) (e : Expr one) (x : FixupContext) → Calm k x → (p : Precedence) → Fine p → (fail bailout : ℕ)
    → P Consume → P (consume_by p x.next_operator) → P (scan_right (tree_of e) x p fail bailout)
unfolding arm_of arm_lines at_root lookup pick
answers P k (atom y) x c p f m n u v = subst P (sym (scan_closed _ _ _ x p f m n (atom_arm y))) v
answers P k (paren a) x c p f m n u v = subst P (sym (scan_closed _ _ _ x p f m n refl)) v
answers P k (prefix q a) x c p f m n u v =
    scan_on _ _ _ x p f m n P Prefix (prefix_arm q a) (quiet k (prefix q a) x c refl) (facts a).there
    (answers NotFail k a _ (calm_rightmost k x c rank.Prefix) p f _ _ tt (by_not_fail p x.next_operator)) u (λ s. v)
answers P k (binary o a b) x c p f m n u v = go (operated o) (λ y d q g i j. answers NotFail k b y d q g i j tt (by_not_fail q y.next_operator))
  where
    go : Operating o
        → ((y : FixupContext) → Calm k y → (q : Precedence) → Fine q → (i j : ℕ) → NotFail (scan_right (tree_of b) y q i j))
        → P (scan_right (tree_of (binary o a b)) x p m n)
    go (assigning e) below =
        scan_on _ _ _ x p f m n P Assign (assign_arm o a b e) (quiet k (binary o a b) x c refl) (facts b).there
        (below _ (calm_rightmost k x c rank.Assign) rank.Assign (record { no_range = refl; no_let = refl }) _ _) u (λ s. u)
    go (operating h e) below =
        scan_on _ _ _ x p f m n P (Binary (of_binop (number o))) (binary_arm o a b e) (quiet k (binary o a b) x c refl) (facts b).there
        (below _ (calm_rightmost k x c (of_binop (number o))) (of_binop (number o)) (fine_binop o h) _ _) u (λ s. v)
answers P k (cast a t) x c p f m n u v = subst P (sym (scan_closed _ _ _ x p f m n refl)) v
answers P k (member y a) x c p f m n u v = subst P (sym (scan_closed _ _ _ x p f m n (member_arm y a))) v
answers P k (try a) x c p f m n u v = subst P (sym (scan_closed _ _ _ x p f m n refl)) v
answers P k (index a b) x c p f m n u v = subst P (sym (scan_closed _ _ _ x p f m n refl)) v
answers P k (call a l) x c p f m n u v = subst P (sym (scan_closed _ _ _ x p f m n refl)) v
answers P k (method y a l) x c p f m n u v = subst P (sym (scan_closed _ _ _ x p f m n refl)) v

-- of a left operand, before any operator, it consumes
pub consumes_left : (k : Context) (e : Expr one) (x : FixupContext) → Calm k x → 1 ≤ rank_of x.next_operator → scan_right (tree_of e) x rank.Jump 0 0 ≡ Consume
unfolding consume_by consumes binds pick
consumes_left k e x c h =
    answers (λ s. s ≡ Consume) k e x c rank.Jump (record { no_range = refl; no_let = refl }) 0 0 refl (rw (lt-ltb 0 (rank_of x.next_operator) h))
