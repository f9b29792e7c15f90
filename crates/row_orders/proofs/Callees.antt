-- What the two callee orders hand to a callee. Assumes nothing.
use mathlib.Core.Path.{◌≡◌, refl, sym, ◌∙◌}
use mathlib.Core.Bool.{Bool, true, false, not, ◌&&◌, ◌||◌}
use Prim.Native.Nat.{ℕ}
use lib.Dec.{eqb}
use borrow.Author.Tests.{eqb-true}
use Rattle.laws.specs.Choice.{pick, lookup}
use Rattle.laws.proofs.Choice.{true_not_false}
use Rattle.tree.specs.Forms.{expr_field, expr_group, class_of}
use Rattle.tree.specs.Trees.{Label, Tree, none, node}
use Rattle.tree.specs.Walks.{follow, walk, at_root}
use Rattle.precedence.specs.declared.Precedence.TheVariants.{Jump, Prefix, Unambiguous}
use Rattle.precedence.specs.Precedences as precedences
use Rattle.precedence.specs.Precedences.{prefix_attrs, of_lines, closed_by, precedence_of}
use Rattle.classify.specs.Classify.{comma_lines, requires_comma, requires_semi}
use Rattle.fixup_look.specs.Looks.{is_let, is_struct, is_plain_block, is_bare_jump}
use Rattle.fixup.specs.declared.context.FixupContext.{FixupContext}
use Rattle.fixup.specs.Contexts.{with_operator}
use Rattle.fixup.specs.Fixup.{parenthesize, effective}
use Rattle.fixup_scan.specs.Scans.{bails_out, leftmost_precedence}
use Rattle.expr.specs.declared.order.CalleeOrder.{CalleeOrder}
use Rattle.expr.specs.declared.order.CalleeOrder.TheVariants.{Crates, Ours}
use Rattle.expr.specs.Expr.{callee_lines, named_field, call_needs_group}
use Rattle.row.specs.Rows.{inner_lines, inner_pair, is_expression}
use Rattle.row_orders.specs.Statement.{bare_lines, bare_field, changed_callee}

-- ---- tests

and_false : (b : Bool) → b && false ≡ false
and_false true = refl
and_false false = refl

or_both : (b n : Bool) → b || n ≡ b || (n && not b)
or_both true n = refl
or_both false true = refl
or_both false false = refl

pub or_swap : (g c p : Bool) → (g || c) || p ≡ (g || p) || c
or_swap true c p = refl
or_swap false true true = refl
or_swap false true false = refl
or_swap false false true = refl
or_swap false false false = refl

-- ---- below Groups

-- whether precedence asks for a pair round a callee
abbrev weak : Tree → Bool
weak t = precedences.below (precedence_of t) Unambiguous

-- by the form of a node: a Field, a Group, another
data Kind (m : Label) : Type 0 where
  field : m.form ≡ expr_field → Kind m
  group : m.form ≡ expr_group → Kind m
  other : eqb expr_field m.form ≡ false → eqb expr_group m.form ≡ false → Kind m

kind : (m : Label) → Kind m
kind m = go (eqb expr_field m.form) refl (eqb expr_group m.form) refl
  where
    go : (f : Bool) → eqb expr_field m.form ≡ f → (g : Bool) → eqb expr_group m.form ≡ g → Kind m
    go true e g k = field (sym (eqb-true expr_field m.form e))
    go false e true k = group (sym (eqb-true expr_group m.form k))
    go false e false k = other e k

field_weak : (attributes : ℕ) → precedences.below (prefix_attrs attributes) Unambiguous ≡ eqb attributes 2
unfolding prefix_attrs pick
field_weak attributes = go (eqb attributes 2)
  where
    go : (b : Bool) → precedences.below (pick b Prefix Unambiguous) Unambiguous ≡ b
    go true = refl
    go false = refl

bare_is : (t : Tree) → bare_field t ≡ (named_field t && not (weak t))
unfolding bare_field bare_lines named_field callee_lines precedence_of walk follow of_lines closed_by class_of lookup pick
bare_is none = refl
bare_is (node m a b) = go (kind m) (bare_is a)
  where
    go : Kind m → bare_field a ≡ (named_field a && not (weak a)) → bare_field (node m a b) ≡ (named_field (node m a b) && not (weak (node m a b)))
    go (field e) h = rw (e, field_weak m.attributes)
    go (group e) h = rw e h
    go (other f g) h = rw (f, g)

-- what looks like no block from outside
bare_comma : (t : Tree) → bare_field t ≡ true → requires_comma t ≡ true
unfolding bare_field bare_lines requires_comma comma_lines walk follow lookup pick
bare_comma none e = true_not_false (sym e)
bare_comma (node m a b) e = go (kind m) (bare_comma a) e
  where
    go : Kind m → (bare_field a ≡ true → requires_comma a ≡ true) → bare_field (node m a b) ≡ true → requires_comma (node m a b) ≡ true
    go (field k) h e = rw k
    go (group k) h e = rw k (h (rw k at e))
    go (other f g) h e = true_not_false (sym (rw (f, g) at e))

-- ---- the callee

module _ (x : FixupContext) where
  -- the context that a Call hands to its callee
  abbrev pub calling : FixupContext
  calling = with_operator x true false Unambiguous

  -- precedence in it looks at the callee alone
  left_is : (t : Tree) → leftmost_precedence t calling ≡ pick (is_bare_jump t) Jump (precedence_of t)
  unfolding leftmost_precedence bails_out effective pick
  left_is t = refl

  abbrev pub tested : CalleeOrder → Tree → Bool
  tested order t = call_needs_group order t (leftmost_precedence t calling)

  -- the test of our order is the crate's, or the callee is one of the two cases, which the crate's passes over
  pub record Tests (t : Tree) : Type 0 where
    pub more : tested Ours t ≡ (tested Crates t || changed_callee t)
    pub had_none : changed_callee t ≡ true → tested Crates t ≡ false

  by_tests : (t : Tree) (c o k : Bool) → tested Crates t ≡ c → tested Ours t ≡ o → changed_callee t ≡ k → o ≡ (c || k) → (k ≡ true → c ≡ false) → Tests t
  by_tests t c o k ec eo ek p q = record { more = rw (ec, eo, ek) p; had_none = λ e. ec ∙ q (sym ek ∙ e) }

  module _ (m : Label) (a b : Tree) where
    abbrev here : Tree
    here = node m a b

    field_left : m.form ≡ expr_field → precedences.below (leftmost_precedence here calling) Unambiguous ≡ eqb m.attributes 2
    unfolding is_bare_jump precedence_of at_root walk follow of_lines closed_by class_of lookup pick
    field_left e = rw (left_is here, e) (field_weak m.attributes)

    field_tests : m.form ≡ expr_field → Tests here
    unfolding call_needs_group named_field callee_lines changed_callee at_root walk follow lookup pick
    field_tests e =
        by_tests here (eqb m.detail 0) (eqb m.attributes 2 || eqb m.detail 0) (not (eqb m.detail 0) && eqb m.attributes 2)
        (rw e) (rw (field_left e, e)) (rw e) (more (eqb m.detail 0) (eqb m.attributes 2)) (none (eqb m.detail 0) (eqb m.attributes 2))
      where
        more : (d o : Bool) → o || d ≡ d || (not d && o)
        more true true = refl
        more true false = refl
        more false true = refl
        more false false = refl

        none : (d o : Bool) → not d && o ≡ true → d ≡ false
        none true o e = true_not_false (sym e)
        none false o e = refl

    group_left : m.form ≡ expr_group → precedences.below (leftmost_precedence here calling) Unambiguous ≡ weak a
    unfolding is_bare_jump precedence_of at_root walk follow of_lines lookup pick
    group_left e = rw (left_is here, e)

    group_tests : m.form ≡ expr_group → Tests here
    unfolding call_needs_group named_field callee_lines changed_callee at_root walk follow lookup pick
    group_tests e =
        by_tests here (weak a) (weak a || named_field a) (named_field a && not (weak a))
        (rw (group_left e, e)) (rw (group_left e, e)) (rw e (bare_is a)) (or_both (weak a) (named_field a)) (none (named_field a) (weak a))
      where
        none : (n w : Bool) → n && not w ≡ true → w ≡ false
        none true true e = true_not_false (sym e)
        none true false e = refl
        none false w e = true_not_false (sym e)

    other_tests : eqb expr_field m.form ≡ false → eqb expr_group m.form ≡ false → Tests here
    unfolding call_needs_group named_field callee_lines changed_callee at_root walk follow lookup pick
    other_tests f g =
        let w = precedences.below (leftmost_precedence here calling) Unambiguous in
        by_tests here w (w || false) false
        (rw f) (rw (f, g)) (rw (f, g)) refl (λ e. true_not_false (sym e))

  pub tests : (t : Tree) → Tests t
  unfolding call_needs_group named_field changed_callee at_root walk
  tests none = record { more = refl; had_none = λ e. true_not_false (sym e) }
  tests (node m a b) = go (kind m)
    where
      go : Kind m → Tests (node m a b)
      go (field e) = field_tests m a b e
      go (group e) = group_tests m a b e
      go (other f g) = other_tests m a b f g

  -- of a Group, in the paper's words: a named Field is the first thing below that is no Group, and the crate's test passes over it
  pub group_named : (m : Label) (a b : Tree) → m.form ≡ expr_group → changed_callee (node m a b) ≡ (named_field (node m a b) && not (tested Crates (node m a b)))
  unfolding call_needs_group named_field callee_lines changed_callee at_root walk follow lookup pick
  group_named m a b e = rw (group_left m a b e, e) (bare_is a)

  -- ---- its pairs

  -- one of the two cases is an expression without an inner pair, and nothing that parenthesize asks for
  pub record Looks (t : Tree) : Type 0 where
    pub expression : is_expression t ≡ true
    pub no_inner : inner_pair t ≡ false
    pub no_outer : parenthesize calling t ≡ false

  no_pair : (t : Tree) → requires_semi t ≡ true → requires_comma t ≡ true → is_let t ≡ false → is_struct t ≡ false → is_plain_block t ≡ false → parenthesize calling t ≡ false
  unfolding parenthesize
  no_pair t semi comma no_let no_struct no_block = rw (semi, comma, no_let, no_struct, no_block) (simp and_false)

  pub looks : (t : Tree) → changed_callee t ≡ true → Looks t
  unfolding changed_callee requires_semi requires_comma comma_lines is_let is_struct is_plain_block inner_lines at_root walk follow class_of lookup pick
  looks none e = true_not_false (sym e)
  looks (node m a b) e = go (kind m)
    where
      go : Kind m → Looks (node m a b)
      go (field k) = record { expression = rw k; no_inner = rw k; no_outer = no_pair (node m a b) (rw k) (rw k) (rw k) (rw k) (rw k) }
      go (group k) =
          let c = bare_comma a (rw k at e) in
          record { expression = rw k; no_inner = rw k; no_outer = no_pair (node m a b) (rw (k, c)) (rw (k, c)) (rw k) (rw k) (rw k) }
      go (other f g) = true_not_false (sym (rw (f, g) at e))
