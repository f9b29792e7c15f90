-- The first refusal that applies. Assumes nothing.
use mathlib.Core.Path.{◌≡◌, refl, sym, ◌∙◌}
use mathlib.Core.Bool.{Bool, true, false}
use mathlib.Core.List.{List, [], ◌∷◌}
use Prim.Native.Nat.{ℕ, zero, suc, ◌<◌}
use native.Mathlib.Omega.{arith}
use lib.Dec.{eqb}
use lib.ListN.{take}
use borrow.Author.Tests.{eq-eqb, ne_eqb, eqb-true, eqb-false}
use Rattle.laws.specs.Choice.{pick}
use Rattle.laws.proofs.Choice.{pick_true, pick_false, pick_zero}
use Rattle.tree_rules.specs.Refusals.{Refusal, refuse, first_of, refusal, refusal_then, Accepted}

-- one that applies is the answer
pub stop : (n : ℕ) (rs : List Refusal) {b : Bool} → b ≡ true → first_of (refuse n b ∷ rs) ≡ n
unfolding first_of
stop n rs e = pick_true _ _ e

-- one that does not is passed over
pub skip : (n : ℕ) (rs : List Refusal) {b : Bool} → b ≡ false → first_of (refuse n b ∷ rs) ≡ first_of rs
unfolding first_of
skip n rs e = pick_false _ _ e

pub no_more : first_of [] ≡ 0
unfolding first_of
no_more = refl

-- where the answer is 0, the first does not apply, and neither does one of the others
pub passed : (n : ℕ) (b : Bool) (rs : List Refusal) → 0 < n → first_of (refuse n b ∷ rs) ≡ 0 → (b ≡ false) × (first_of rs ≡ 0)
unfolding first_of
passed n b rs h e = pick_zero b n (first_of rs) h e

-- one of the first k that applies is the answer
pub first_taken : (k : ℕ) (rs : List Refusal) → (first_of (take k rs) ≡ 0 → ⊥) → first_of rs ≡ first_of (take k rs)
unfolding first_of
first_taken zero rs n = absurd (n refl)
first_taken (suc k) [] n = refl
first_taken (suc k) (r ∷ rs) n = go r.applies refl (first_taken k rs)
  where
    go : (b : Bool) → r.applies ≡ b → ((first_of (take k rs) ≡ 0 → ⊥) → first_of rs ≡ first_of (take k rs)) → pick r.applies r.number (first_of rs) ≡ pick r.applies r.number (first_of (take k rs))
    go true e more = pick_true _ _ e ∙ sym (pick_true _ _ e)
    go false e more = pick_false _ _ e ∙ more (λ z. n (pick_false _ _ e ∙ z)) ∙ sym (pick_false _ _ e)

-- where none of 6 to 10 applies, those after them are left
pub none_taken : (a b c d e : Bool) (rs : List Refusal) → first_of (refuse 6 a ∷ refuse 7 b ∷ refuse 8 c ∷ refuse 9 d ∷ refuse 10 e ∷ []) ≡ 0 → first_of (refuse 6 a ∷ refuse 7 b ∷ refuse 8 c ∷ refuse 9 d ∷ refuse 10 e ∷ rs) ≡ first_of rs
none_taken a b c d e rs z =
    let p6 = passed 6 a _ (omega arith) z in
    let p7 = passed 7 b _ (omega arith) p6.1 in
    let p8 = passed 8 c _ (omega arith) p7.1 in
    let p9 = passed 9 d _ (omega arith) p8.1 in
    let p10 = passed 10 e _ (omega arith) p9.1 in
    skip 6 _ p6.0 ∙ skip 7 _ p7.0 ∙ skip 8 _ p8.0 ∙ skip 9 _ p9.0 ∙ skip 10 _ p10.0

-- ---- a table's refusals, then others

module _ (context count : ℕ) (cells : List ℕ) (others : ℕ) where
  pub table_refused : (r : ℕ) → r ≡ refusal context count cells → (r ≡ 0 → ⊥) → r ≡ refusal_then context count cells others
  unfolding refusal_then
  table_refused r q n = q ∙ sym (pick_false _ _ (ne_eqb (refusal context count cells) 0 (λ z. n (q ∙ z))))

  pub table_passed : Accepted context count cells → refusal_then context count cells others ≡ others
  unfolding refusal_then
  table_passed ok = pick_true _ _ (eq-eqb (refusal context count cells) 0 ok)

  pub none_applied : refusal_then context count cells others ≡ 0 → Accepted context count cells × (others ≡ 0)
  unfolding refusal_then
  none_applied z = go (eqb (refusal context count cells) 0) refl
    where
      go : (b : Bool) → eqb (refusal context count cells) 0 ≡ b → Accepted context count cells × (others ≡ 0)
      go true e = (eqb-true _ _ e, sym (pick_true _ _ e) ∙ z)
      go false e = absurd (eqb-false _ _ e (sym (pick_false _ _ e) ∙ z))
