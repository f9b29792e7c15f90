-- The tables of the code give what the grammar says of the token that a code stands for. Assumes nothing.
use mathlib.Core.Path.{◌≡◌, sym, ap, ◌∙◌}
use mathlib.Core.Bool.{Bool, true, false}
use Prim.Native.Nat.{ℕ, ◌≤◌, ◌<◌}
use native.Mathlib.Omega.{arith}
use native.Mathlib.Decide.{dec_le}
use lib.Dec.{eqb, eqb→eq}
use lib.ListN.{get_or-eq_default}
use Rattle.laws.specs.Choice.{pick, lookup}
use Rattle.laws.proofs.Choice.{alike, alike_same}
use Rattle.laws.proofs.Each.{all_at}
use Rattle.laws.proofs.Keys.{past_rows}
use Rattle.tree.specs.Sizes.{list_end}
use Rattle.token_grammar.specs.Tokens.{Token, await, all_operators}
use Rattle.token_grammar.specs.Codes.{spelled, token_of, sign_of}
use Rattle.token_grammar.specs.Levels.{kind}
use Rattle.token_grammar.specs.Grammar.{opens_arguments}
use Rattle.token_grammar.specs.Next.{next_of, level_at}
use Rattle.token_follow.specs.Follow.{before_at, barred_at}
use Rattle.token_follow.specs.Tables.{level_lines, past_lines, level_past, level_of, before_of, barred_lines, barred}

-- from `list_end` on a code stands for no token, and nothing goes on
past_token : (n : ℕ) → list_end ≤ n → sign_of n ≡ await
unfolding token_of
past_token n h = get_or-eq_default (spelled 0 all_operators) await h

past_level : (n : ℕ) → list_end ≤ n → level_of n ≡ 0
unfolding level_of level_past level_lines past_lines
past_level n h = past_rows level_lines (level_past n) list_end n tt h ∙ past_rows past_lines 0 list_end n tt h

-- what holds of each code below `list_end`, and of the others, holds of all
each_code : {A : Type 0} (f : ℕ → A) (g : Token → A) → ((n : ℕ) → n < list_end → f n ≡ g (sign_of n)) → ((n : ℕ) → list_end ≤ n → f n ≡ g await) → (n : ℕ) → f n ≡ g (sign_of n)
each_code f g below above n = go (dec_le list_end n)
  where
    go : Dec (list_end ≤ n) → f n ≡ g (sign_of n)
    go (yes h) = above n h ∙ ap g (sym (past_token n h))
    go (no h) = below n (omega arith)

pub level_at_lem : (n : ℕ) → level_of n ≡ level_at (next_of (sign_of n))
unfolding token_of level_of level_past level_lines past_lines kind lookup pick
level_at_lem = each_code level_of (λ t. level_at (next_of t)) below past_level
  where
    below : (n : ℕ) → n < list_end → level_of n ≡ level_at (next_of (sign_of n))
    below n h = eqb→eq (level_of n) (level_at (next_of (sign_of n))) (all_at (λ m. eqb (level_of m) (level_at (next_of (sign_of m)))) list_end tt n h)

pub before_at_lem : (n : ℕ) → before_of (level_at (next_of (sign_of n))) ≡ before_at (next_of (sign_of n))
unfolding token_of before_of level_of level_past level_lines past_lines kind lookup pick
before_at_lem n = ap before_of (sym (level_at_lem n)) ∙ each_code (λ m. before_of (level_of m)) (λ t. before_at (next_of t)) below above n
  where
    below : (n : ℕ) → n < list_end → before_of (level_of n) ≡ before_at (next_of (sign_of n))
    below n h = eqb→eq (before_of (level_of n)) (before_at (next_of (sign_of n))) (all_at (λ m. eqb (before_of (level_of m)) (before_at (next_of (sign_of m)))) list_end tt n h)

    above : (n : ℕ) → list_end ≤ n → before_of (level_of n) ≡ 0
    above n h = ap before_of (past_level n h)

pub barred_at_lem : (t d : Bool) (n : ℕ) → barred t d n ≡ barred_at t d (next_of (sign_of n))
unfolding token_of barred opens_arguments lookup pick
barred_at_lem t d = each_code (barred t d) (λ u. barred_at t d (next_of u)) (below t d) above
  where
    below : (t d : Bool) (n : ℕ) → n < list_end → barred t d n ≡ barred_at t d (next_of (sign_of n))
    below true true n h = alike_same (barred true true n) (barred_at true true (next_of (sign_of n))) (all_at (λ m. alike (barred true true m) (barred_at true true (next_of (sign_of m)))) list_end tt n h)
    below true false n h = alike_same (barred true false n) (barred_at true false (next_of (sign_of n))) (all_at (λ m. alike (barred true false m) (barred_at true false (next_of (sign_of m)))) list_end tt n h)
    below false true n h = alike_same (barred false true n) (barred_at false true (next_of (sign_of n))) (all_at (λ m. alike (barred false true m) (barred_at false true (next_of (sign_of m)))) list_end tt n h)
    below false false n h = alike_same (barred false false n) (barred_at false false (next_of (sign_of n))) (all_at (λ m. alike (barred false false m) (barred_at false false (next_of (sign_of m)))) list_end tt n h)

    above : (n : ℕ) → list_end ≤ n → barred t d n ≡ false
    above n h = past_rows (barred_lines t d) false list_end n tt h
