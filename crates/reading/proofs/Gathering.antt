-- The numbers of a file, one behind the other. Assumes nothing.
use mathlib.Core.Path.{◌≡◌, refl, sym, ap, ◌∙◌}
use mathlib.Core.Bool.{Bool, true, false}
use mathlib.Core.List.{List, [], ◌∷◌, ◌++◌, append_assoc, append-nil}
use Prim.Native.Nat.{ℕ, zero, suc, ◌+◌, ◌-◌, ◌≤◌, ◌<◌}
use native.Mathlib.Omega.{arith}
use lib.ListN.{length, take, drop, set, length-set}
use lib.Seq.{take-suc-set}
use borrow.Author.Tests.{le-leb, lt-leb}
use Rattle.laws.specs.Choice.{pick}
use Rattle.laws.proofs.Choice.{pick_true, pick_false}
use Rattle.std.specs.Prelude.{Option, None, Some}
use Rattle.file_numbers.specs.Numbers.{followed, value_of, malformed}
use Rattle.file_numbers.specs.Standing.{stands_at}
use Rattle.reading.specs.Text.{Numbers, broken, numbers, before, numbers_from, numbers_in, tokens_in}
use Rattle.reading.specs.Gathering.{Gathered}

-- several numbers before others
abbrev pub behind : List ℕ → Numbers → Numbers
behind l broken = broken
behind l (numbers ns) = numbers (l ++ ns)

behind_none : (x : Numbers) → x ≡ behind [] x
behind_none broken = refl
behind_none (numbers ns) = refl

behind_one : (l : List ℕ) (n : ℕ) (x : Numbers) → behind l (before n x) ≡ behind (l ++ (n ∷ [])) x
behind_one l n broken = refl
behind_one l n (numbers ns) = ap numbers (sym (append_assoc l (n ∷ []) ns))

abbrev by : ℕ → List ℕ → Option (ℕ × ℕ) → Numbers
by most file x = elim x [ None ↦ broken | Some p ↦ before p.0 (numbers_from most file p.1) ]

one_more : (most : ℕ) (file : List ℕ) (at : ℕ) → at < length file → numbers_from (suc most) file at ≡ by most file (stands_at file at)
unfolding numbers_from
one_more most file at h = pick_false _ _ (lt-leb (length file) at h)

no_more : (most : ℕ) (file : List ℕ) (at : ℕ) → length file ≤ at → numbers_from most file at ≡ numbers []
unfolding numbers_from
no_more zero file at h = refl
no_more (suc most) file at h = pick_true _ _ (le-leb (length file) at h)

-- the place after a number
place : Option (ℕ × ℕ) → ℕ
place None = 0
place (Some p) = p.1

-- a number has a byte at least
pub further : (file : List ℕ) (at n next : ℕ) → Some (n, next) ≡ stands_at file at → at < next
unfolding stands_at pick place
further file at n next e = go (malformed (drop at file)) e
  where
    go : (b : Bool) → ◌≡◌ {A = Option (ℕ × ℕ)} (Some (n, next)) (pick b None (Some (value_of (drop at file), at + suc (followed (drop at file))))) → at < next
    go true q = absurd (let z : ◌≡◌ {A = ℕ} 0 1 = cc in omega arith)
    go false q = let z : next ≡ at + suc (followed (drop at file)) = ap place q in omega arith

-- what was gathered so far
pub record Until (file : List ℕ) (start : ℕ) (old new : List ℕ) (at count : ℕ) : Type 0 where
  pub few : count ≤ at
  pub within : count ≤ length file
  pub left : numbers_in file start ≡ behind (take count new) (numbers_from (length file - count) file at)
  pub room : length new ≡ length old

pub until_start : (file : List ℕ) (start : ℕ) (old : List ℕ) → Until file start old old start 0
until_start file start old =
    let e : length file ≡ length file - 0 = omega arith in
    record {
      few = omega arith;
      within = omega arith;
      left = behind_none (numbers_in file start) ∙ ap (λ n. behind [] (numbers_from n file start)) e;
      room = refl;
    }

module _ {file : List ℕ} {start : ℕ} {old new : List ℕ} {at count : ℕ} (u : Until file start old new at count) where
  step : at < length file → numbers_in file start ≡ behind (take count new) (by (length file - suc count) file (stands_at file at))
  step h =
      let e : length file - count ≡ suc (length file - suc count) = omega (arith, u.few) in
      u.left ∙ ap (λ n. behind (take count new) (numbers_from n file at)) e ∙ ap (behind (take count new)) (one_more (length file - suc count) file at h)

  pub until_bad : at < length file → None ≡ stands_at file at → numbers_in file start ≡ broken
  until_bad h e = step h ∙ ap (λ x. behind (take count new) (by (length file - suc count) file x)) (sym e)

  pub until_next : (n next : ℕ) → at < length file → count < length new → Some (n, next) ≡ stands_at file at → Until file start old (set new count n) next (count + 1)
  until_next n next h k e =
      let s : count + 1 ≡ suc count = omega arith in
      record {
        few = omega (arith, u.few, further file at n next e);
        within = omega (arith, u.few);
        left =
            step h
            ∙ ap (λ x. behind (take count new) (by (length file - suc count) file x)) (sym e)
            ∙ behind_one (take count new) n (numbers_from (length file - suc count) file next)
            ∙ rw s (ap (λ l. behind l (numbers_from (length file - suc count) file next)) (sym (take-suc-set new count n k)));
        room = length-set new count n ∙ u.room;
      }

  whole : length file ≤ at → numbers_in file start ≡ numbers (take count new)
  whole h = u.left ∙ ap (behind (take count new)) (no_more (length file - count) file at h) ∙ ap numbers (append-nil (take count new))

  pub gathered : length file ≤ at → Gathered file start old new count
  gathered h = record { few = u.within; cells = ap tokens_in (sym (whole h)); room = u.room }

  -- a cell by itself
  pub gathered_bad : at < length file → 0 < length new → None ≡ stands_at file at → Gathered file start old (set new 0 0) 1
  gathered_bad h k e =
      record {
        few = omega arith;
        cells = take-suc-set new 0 0 k ∙ ap tokens_in (sym (until_bad h e));
        room = length-set new 0 0 ∙ u.room;
      }
