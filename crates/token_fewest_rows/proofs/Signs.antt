-- A way's tokens have a `(` for each of its pairs, and one for each Call, MethodCall and Paren. Assumes nothing.
use mathlib.Core.Path.{◌≡◌, refl, sym, ap, ◌∙◌}
use mathlib.Core.Bool.{Bool, true, false, ◌||◌}
use mathlib.Core.List.{List, [], ◌∷◌, ◌++◌}
use mathlib.Core.Logic.{◌⊎◌, inl, inr}
use Prim.Native.Nat.{ℕ, zero, suc, ◌+◌, ◌-◌}
use native.Mathlib.Omega.{arith}
use lib.Dec.{T, eqb}
use mir.Val.{has_key}
use Rattle.bools.specs.Bits.{bit_of}
use Rattle.laws.specs.Choice.{pick, Line, line, lookup}
use Rattle.laws.proofs.Choice.{true_not_false}
use Rattle.laws.proofs.Keys.{numbers_at, given_at, apart_before, within, inside, found}
use Rattle.tree.specs.Forms.{expr_call, expr_method_call, expr_paren}
use Rattle.tree.specs.Table.{first_column, second_column}
use Rattle.tree.specs.Trees.{Label, Tree, none, node, operand_at}
use Rattle.tree.specs.Walks.{is_there}
use Rattle.tree_numbering.proofs.Sizes.{weigh}
use Rattle.token_grammar.specs.Tokens.{Token, operator, sub, mul, bit_and, bang, and_mut, name_token, right_paren, comma_token, star_const, star_mut, numbered_member, cells_of, operator_of}
use Rattle.token_plain.specs.Written.{Signs, signs, by_detail, sign_lines, signs_of}
use Rattle.token_fewest.specs.Openings.{openings}
use Rattle.token_fewest.proofs.Tokens.{opening, operator_opening}
use Rattle.token_fewest_rows.specs.Statement.{round, tokens_with, own_openings}

append_openings : (s t : List Token) → openings (cells_of (s ++ t)) ≡ openings (cells_of s) + openings (cells_of t)
append_openings [] t = omega arith
append_openings (x ∷ s) t = omega (arith, append_openings s t)

round_openings : (n k : ℕ) (f : List Token → List Token) → ((r : List Token) → openings (cells_of (f r)) ≡ k + openings (cells_of r)) → (r : List Token) → openings (cells_of (round n f r)) ≡ n + k + openings (cells_of r)
round_openings zero k f h r = omega (arith, h r)
round_openings (suc n) k f h r = omega (arith, round_openings n k f h (right_paren ∷ r))

-- ---- the `(` among a node's own signs

own : Signs → ℕ
own s = openings (cells_of s.before) + (openings (cells_of s.between) + openings (cells_of s.behind))

-- what holds of all that a table gives for numbers that are none of ks
module _ {A : Type 0} (P : A → Type 0) where
  by_test : (b : Bool) (x y : A) → P x → P y → P (pick b x y)
  unfolding pick
  by_test true x y p q = p
  by_test false x y p q = q

  module _ (ks : List ℕ) where
    abbrev EachBut : List (Line A) → Type 0
    EachBut [] = Unit {0}
    EachBut (line ns a ∷ lines) = (P a ⊎ T (within ns ks)) × EachBut lines

    in_lines : (lines : List (Line A)) (other : A) (n : ℕ) → has_key ks n ≡ false → EachBut lines → P other → P (lookup lines other n)
    unfolding lookup pick
    in_lines [] other n e h o = o
    in_lines (line ns a ∷ lines) other n e h o = go (has_key ns n) refl h.0 (in_lines lines other n e h.1 o)
      where
        go : (b : Bool) → has_key ns n ≡ b → P a ⊎ T (within ns ks) → P (lookup lines other n) → P (pick b a (lookup lines other n))
        go true p (inl q) r = q
        go true p (inr q) r = true_not_false (sym (inside ns ks n q p) ∙ e)
        go false p q r = r

abbrev opens : List ℕ
opens = expr_call ∷ expr_method_call ∷ expr_paren ∷ []

module _ (detail symbol : ℕ) (more : Bool) (n : ℕ) where
  abbrev given : Signs
  given = lookup (sign_lines detail symbol more) (signs [] [] []) n

  at : (j k : ℕ) → T (within (k ∷ []) (numbers_at (sign_lines detail symbol more) j)) → T (apart_before (sign_lines detail symbol more) j (k ∷ [])) → own (given_at (sign_lines detail symbol more) (signs [] [] []) j) ≡ 1
      → eqb k n ≡ true → own given ≡ 1
  at j k p q h e = ap own (found (sign_lines detail symbol more) (signs [] [] []) j (k ∷ []) n p q (rw e)) ∙ h

  one_own : has_key opens n ≡ true → own given ≡ 1
  unfolding sign_lines own
  one_own e = go (eqb expr_call n) refl (eqb expr_method_call n) refl (eqb expr_paren n) refl e
    where
      go : (x : Bool) → eqb expr_call n ≡ x → (y : Bool) → eqb expr_method_call n ≡ y → (z : Bool) → eqb expr_paren n ≡ z → x || (y || (z || false)) ≡ true → own given ≡ 1
      go true p y q z r h = at 10 expr_call tt tt refl p
      go false p true q z r h = at 11 expr_method_call tt tt refl q
      go false p false q true r h = at 2 expr_paren tt tt refl r
      go false p false q false r h = true_not_false (sym h)

  -- a token that is one of two, neither of which is a `(`
  neither : (b : Bool) (t u : Token) → opening t ≡ 0 → opening u ≡ 0 → opening (pick b t u) ≡ 0
  neither = by_test (λ t. opening t ≡ 0)

  none_own : has_key opens n ≡ false → own given ≡ 0
  unfolding sign_lines own
  none_own e =
      let two = neither (eqb detail 0) in
      in_lines (λ s. own s ≡ 0) opens (sign_lines detail symbol more) (signs [] [] []) n e (
        inl refl,
        (
          inl refl,
          (
            inr tt,
            (
              inl (omega (arith, two (operator mul) (by_detail (detail - 1) bang (operator sub)) refl (neither (eqb (detail - 1) 0) bang (operator sub) refl refl))),
              (
                inl (omega (arith, two (operator bit_and) and_mut refl refl)),
                (
                  inl (omega (arith, operator_opening (operator_of detail))),
                  (
                    inl refl,
                    (
                      inl refl,
                      (
                        inl (omega (arith, two (name_token symbol) (numbered_member symbol) refl refl)),
                        (
                          inl refl,
                          (
                            inr tt,
                            (
                              inr tt,
                              (
                                inl refl,
                                (
                                  inl refl,
                                  (
                                    inl (by_test (λ s. own s ≡ 0) (eqb detail 2) _ _ refl refl),
                                    (
                                      inl (omega (arith, two star_const star_mut refl refl)),
                                      (
                                        inl refl,
                                        (
                                          inl refl,
                                          (
                                            inl (by_test (λ ts. own (signs [] ts []) ≡ 0) more (comma_token ∷ []) [] refl refl),
                                            (inl refl, tt),
                                          ),
                                        ),
                                      ),
                                    ),
                                  ),
                                ),
                              ),
                            ),
                          ),
                        ),
                      ),
                    ),
                  ),
                ),
              ),
            ),
          ),
        ),
      ) refl

own_is : (l : Label) (b : Tree) → own (signs_of l b) ≡ bit_of (has_key opens l.form)
unfolding signs_of
own_is l b = go (has_key opens l.form) refl
  where
    go : (x : Bool) → has_key opens l.form ≡ x → own (signs_of l b) ≡ bit_of x
    go true e = one_own l.detail l.symbol (is_there b) l.form e
    go false e = none_own l.detail l.symbol (is_there b) l.form e

-- ---- a way's tokens

module _ (cells : List ℕ) (count : ℕ) (way : ℕ → ℕ) where
  pub with_openings : (t : Tree) (i : ℕ) (rest : List Token) → openings (cells_of (tokens_with cells count way i t rest)) ≡ weigh cells count way i t + own_openings t + openings (cells_of rest)
  unfolding tokens_with weigh own
  with_openings none i rest = omega arith
  with_openings (node l a b) i rest =
      let s = signs_of l b in
      let j = operand_at cells count i first_column in
      let k = operand_at cells count i second_column in
      let inner = own s + (weigh cells count way j a + own_openings a + (weigh cells count way k b + own_openings b)) in
      let r = round_openings (way i) inner (λ end. s.before ++ tokens_with cells count way j a (s.between ++ tokens_with cells count way k b (s.behind ++ end))) (λ end.
      omega (
        arith,
        append_openings s.before (tokens_with cells count way j a (s.between ++ tokens_with cells count way k b (s.behind ++ end))),
        with_openings a j (s.between ++ tokens_with cells count way k b (s.behind ++ end)),
        append_openings s.between (tokens_with cells count way k b (s.behind ++ end)),
        with_openings b k (s.behind ++ end),
        append_openings s.behind end,
      )) rest in
      omega (arith, own_is l b)
