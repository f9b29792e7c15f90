-- The levels and leans: they are those of the operators' answers and of the Reference, and what the rule of level and lean gives. Assumes nothing.
use mathlib.Core.Path.{◌≡◌, refl, sym, subst, ap, ap₂, ◌∙◌}
use mathlib.Core.Bool.{Bool, true, false, not, ◌||◌}
use mathlib.Core.List.{List, [], ◌∷◌}
use Prim.Native.Nat.{ℕ, ◌≤◌, ◌<◌}
use native.Mathlib.Omega.{arith}
use lib.Dec.{T, eqb, leb, ltb, eqb→eq, leb→le, ltb→lt}
use lib.ListN.{get_or}
use borrow.Author.Tests.{le-leb}
use Rattle.laws.specs.Choice.{pick, lookup}
use Rattle.precedence.specs.declared.Precedence.TheVariants.{Cast, Prefix, Unambiguous}
use Rattle.precedence.specs.declared.Precedence.TheVariants.{Assign as AssignPrecedence}
use Rattle.precedence.specs.declared.Lean.{Lean}
use Rattle.precedence.specs.declared.Lean.TheVariants.{Left, Right, Neither}
use Rattle.precedence.specs.declared.Binding.{Binding}
use Rattle.precedence.specs.Precedences.{rank_of, lean_number, operators, binding_of, of_binop}
use Rattle.precedence.specs.Reference.{weaker, associativity}
use Rattle.precedence.proofs.Levels.{levels_agree, equal_leans, leans_agree, binop_binding_lem}
use Rattle.token_grammar.specs.Tokens.{Operator, assign, number}
use Rattle.token_grammar.specs.Levels.{Kind, assignments, ors, ands, comparisons, bit_ors, bit_xors, bit_ands, shifts, sums, products, casts, prefixes, postfixes, kind, level, leans_left, leans_right, before, after}
use Rattle.token_grammar.proofs.Tokens.{all_in, all_in_lem, each_operator, of_operators, number_below}

-- ---- the same levels and leans elsewhere: an operator's answer, and the Reference

pub operator_level : (o : Operator) → rank_of (binding_of (number o)).level ≡ level (kind o)
unfolding binding_of operators lookup pick kind
operator_level o =
    eqb→eq (rank_of (binding_of (number o)).level) (level (kind o)) (each_operator (λ x. eqb (rank_of (binding_of (number x)).level) (level (kind x))) tt o)

-- the lean that the two tests of a kind say
abbrev lean_by : Bool → Bool → Lean
lean_by true right = Left
lean_by false true = Right
lean_by false false = Neither

pub operator_lean : (o : Operator) → (binding_of (number o)).lean ≡ lean_by (leans_left (kind o)) (leans_right (kind o))
unfolding binding_of operators lookup pick kind
operator_lean o =
    equal_leans (binding_of (number o)).lean (lean_by (leans_left (kind o)) (leans_right (kind o)))
    (each_operator (λ x. eqb (lean_number (binding_of (number x)).lean) (lean_number (lean_by (leans_left (kind x)) (leans_right (kind x))))) tt o)

-- of_binop, which gives nothing for `=`
pub binop_level : (o : Operator) → number o < number assign → rank_of (of_binop (number o)) ≡ level (kind o)
unfolding of_binop
binop_level o h = sym (ap (λ (b : Binding). rank_of b.level) (binop_binding_lem (number o) h)) ∙ operator_level o

pub form_levels : (rank_of AssignPrecedence ≡ level (kind assign)) × (rank_of Cast ≡ level casts) × (rank_of Prefix ≡ level prefixes) × (rank_of Unambiguous ≡ level postfixes)
unfolding kind lookup pick
form_levels = (refl, refl, refl, refl)

-- one operator's level is below another's exactly where the Reference has it weaker, and each leans as its associativity says
pub reference_order : (o p : Operator) → ltb (level (kind o)) (level (kind p)) ≡ weaker (number o) (number p)
reference_order o p =
    sym (ap₂ ltb (operator_level o) (operator_level p))
    ∙ levels_agree (number o) (number p) (omega (arith, number_below o)) (omega (arith, number_below p))

pub reference_lean : (o : Operator) → associativity (number o) ≡ lean_by (leans_left (kind o)) (leans_right (kind o))
reference_lean o = sym (leans_agree (number o) (omega (arith, number_below o))) ∙ operator_lean o

-- ---- what the rule of level and lean gives

-- the kinds, each at the place that its level numbers; places that are no level repeat a kind
abbrev by_level : List Kind
by_level = assignments ∷ assignments ∷ ors ∷ ors ∷ ands ∷ comparisons ∷ comparisons ∷ bit_ors ∷ bit_xors ∷ bit_ands ∷ shifts ∷ sums ∷ products ∷ casts ∷ prefixes ∷ postfixes ∷ []

at_level : (k : Kind) → get_or by_level (level k) postfixes ≡ k
at_level assignments = refl
at_level ors = refl
at_level ands = refl
at_level comparisons = refl
at_level bit_ors = refl
at_level bit_xors = refl
at_level bit_ands = refl
at_level shifts = refl
at_level sums = refl
at_level products = refl
at_level casts = refl
at_level prefixes = refl
at_level postfixes = refl

-- a rule for every kind is one computed test
each_kind : (p : Kind → Bool) → T (all_in p by_level) → T (p postfixes) → (k : Kind) → T (p k)
each_kind p h d k = subst (λ x. T (p x)) (at_level k) (all_in_lem p postfixes by_level d h (level k))

pub level_before : (k : Kind) → level k ≤ before k
level_before k = leb→le (level k) (before k) (each_kind (λ x. leb (level x) (before x)) tt tt k)

pub after_positive : (k : Kind) → 0 < after k
after_positive k = ltb→lt 0 (after k) (each_kind (λ x. ltb 0 (after x)) tt tt k)

-- no plain form has the level of the crate's Range, against which the crate tests the left operand of an assignment
pub no_range : (k : Kind) → level k ≤ 2 → level k < 2
no_range k h = ltb→lt (level k) 2 (rw (le-leb (level k) 2 h) at (each_kind (λ x. not (leb (level x) 2) || ltb (level x) 2) tt tt k))

-- What may follow an expression of kind k is not taken by an operand at its end.
pub stays : (k j : Kind) → before j ≤ level k → level j < after k
stays k j h =
    ltb→lt (level j) (after k)
    (rw (le-leb (before j) (level k) h) at
    (each_kind (λ x. not (leb (before x) (level k)) || ltb (level x) (after k))
    (each_kind (λ y. all_in (λ x. not (leb (before x) (level y)) || ltb (level x) (after y)) by_level) tt tt k)
    (each_kind (λ y. not (leb 15 (level y)) || ltb 15 (after y)) tt tt k)
    j))

-- the kinds of operators
pub operator_le : (f g : Kind → ℕ) → T (of_operators (λ o. leb (f (kind o)) (g (kind o)))) → (o : Operator) → f (kind o) ≤ g (kind o)
operator_le f g h o = leb→le (f (kind o)) (g (kind o)) (each_operator (λ x. leb (f (kind x)) (g (kind x))) h o)

pub operator_low : (o : Operator) → 1 ≤ level (kind o)
unfolding kind lookup pick
operator_low = operator_le (λ k. 1) level tt

pub operator_high : (o : Operator) → level (kind o) ≤ 12
unfolding kind lookup pick
operator_high = operator_le level (λ k. 12) tt

pub after_low : (o : Operator) → level (kind o) ≤ after (kind o)
unfolding kind lookup pick
after_low = operator_le level after tt

pub after_high : (o : Operator) → after (kind o) ≤ 13
unfolding kind lookup pick
after_high = operator_le after (λ k. 13) tt

pub before_low : (o : Operator) → 2 ≤ before (kind o)
unfolding kind lookup pick
before_low = operator_le (λ k. 2) before tt

pub before_high : (o : Operator) → before (kind o) ≤ 12
unfolding kind lookup pick
before_high = operator_le before (λ k. 12) tt
