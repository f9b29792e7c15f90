-- Laws of the lines of codes and symbols. Assumes nothing.
use mathlib.Core.Path.{◌≡◌, refl, sym, subst, ap, ◌∙◌}
use mathlib.Core.List.{List, [], ◌∷◌, ◌++◌, append_assoc, append-nil}
use Prim.Native.Nat.{ℕ, zero, suc, ◌+◌, ◌*◌, ◌/◌, ◌≤◌, ◌<◌}
use native.Mathlib.Omega.{arith}
use lib.ListN.{length, drop, get_or, length-append, length-drop}
use lib.Seq.{drop-cons}
use Rattle.tree.specs.Sizes.{token_cells, most_tokens}
use Rattle.text.specs.Numbers.{space, decimal, spaced}
use Rattle.text.specs.Growth.{Grown}
use Rattle.text.proofs.Growing.{grown_none, grown_more}
use Rattle.text.proofs.Digits.{length_decimal}
use Rattle.text.proofs.Spaces.{spaced_most, ok_most}
use Rattle.tokens.specs.Text.{parted, evens, listed}

nothing : (l : List ℕ) → length l ≡ 0 → l ≡ []
nothing [] h = refl
nothing (n ∷ ns) h = absurd (omega arith)

-- nothing is left past the end
pub evens_none : (numbers : List ℕ) (from : ℕ) → length numbers ≤ from → evens (drop from numbers) ≡ []
evens_none numbers from h = ap evens (nothing (drop from numbers) (let e = length-drop from numbers in omega arith))

pub evens_next : (numbers : List ℕ) (from : ℕ) → from < length numbers → evens (drop from numbers) ≡ get_or numbers from 0 ∷ evens (drop (from + 2) numbers)
evens_next numbers from h =
    ap evens (drop-cons numbers from 0 h) ∙ go (drop (suc from) numbers) refl
  where
    go : (l : List ℕ) → drop (suc from) numbers ≡ l → evens (get_or numbers from 0 ∷ l) ≡ get_or numbers from 0 ∷ evens (drop (from + 2) numbers)
    go [] e =
        let z : length (drop (suc from) numbers) ≡ 0 = ap length e in
        ap (λ r. get_or numbers from 0 ∷ r) (sym (evens_none numbers (from + 2) (let d = length-drop (suc from) numbers in omega arith)))
    go (m ∷ ms) e =
        let s : from + 2 ≡ suc (suc from) = omega arith in
        let z : suc (length ms) ≡ length (drop (suc from) numbers) = sym (ap length e) in
        let d = drop-cons numbers (suc from) 0 (let k = length-drop (suc from) numbers in omega arith) in
        rw s (let q : ms ≡ drop (suc (suc from)) numbers = cc in ap (λ r. get_or numbers from 0 ∷ evens r) q)

pub spaced_next : (numbers : List ℕ) (from : ℕ) → from < length numbers → spaced (evens (drop from numbers)) ≡ (space ∷ decimal (get_or numbers from 0)) ++ spaced (evens (drop (from + 2) numbers))
unfolding spaced
spaced_next numbers from h = ap spaced (evens_next numbers from h)

pub parted_next : (numbers : List ℕ) (from : ℕ) → from < length numbers → parted (evens (drop from numbers)) ≡ decimal (get_or numbers from 0) ++ spaced (evens (drop (from + 2) numbers))
unfolding parted
parted_next numbers from h = ap parted (evens_next numbers from h)

pub parted_none : (numbers : List ℕ) (from : ℕ) → length numbers ≤ from → parted (evens (drop from numbers)) ≡ []
unfolding parted
parted_none numbers from h = ap parted (evens_none numbers from h)

pub spaced_none : (numbers : List ℕ) (from : ℕ) → length numbers ≤ from → spaced (evens (drop from numbers)) ≡ []
unfolding spaced
spaced_none numbers from h = ap spaced (evens_none numbers from h)

-- ---- how many bytes

-- a number of 16 bits and a space take at most six bytes
abbrev Small : List ℕ → Type 0
Small numbers = (i : ℕ) → get_or numbers i 0 ≤ 65535

parted_most : (numbers : List ℕ) → Small numbers → length (parted numbers) ≤ 6 * length numbers
unfolding parted
parted_most [] h = omega arith
parted_most (n ∷ ns) h =
    let first = length_decimal n (h 0) in
    let others = spaced_most ns (λ i. h (suc i)) in
    rw length-append (omega arith)

evens_small : (numbers : List ℕ) → Small numbers → Small (evens numbers)
evens_small [] h i = h i
evens_small (n ∷ []) h i = h i
evens_small (n ∷ m ∷ ns) h zero = h 0
evens_small (n ∷ m ∷ ns) h (suc i) = evens_small ns (λ j. h (suc (suc j))) i

drop_small : (numbers : List ℕ) → Small numbers → Small (drop 1 numbers)
drop_small [] h i = h i
drop_small (n ∷ ns) h i = h (suc i)

-- the two columns of a list have its numbers
length_evens : (numbers : List ℕ) → length (evens numbers) + length (evens (drop 1 numbers)) ≡ length numbers
length_evens [] = refl
length_evens (n ∷ []) = omega arith
length_evens (n ∷ m ∷ []) = omega arith
length_evens (n ∷ m ∷ k ∷ ns) = omega (arith, length_evens (k ∷ ns))

pub listed_most : (cells : List ℕ) → length cells ≤ token_cells * most_tokens → Small cells → length (listed cells) ≤ 9 + 6 * (token_cells * most_tokens) + 2
unfolding listed
listed_most cells h fit =
    let head = ok_most (length cells / token_cells) (omega arith) in
    let codes = parted_most (evens cells) (evens_small cells fit) in
    let symbols = parted_most (evens (drop 1 cells)) (evens_small (drop 1 cells) (drop_small cells fit)) in
    let both = length_evens cells in
    simp length-append (omega arith)

-- ---- a column, number by number

-- what was printed of it up to `done`, and what is left
pub record Every (before : List ℕ) (end : ℕ) (numbers : List ℕ) (from done : ℕ) (after : List ℕ) (at : ℕ) : Type 0 where
  pub printed : List ℕ
  pub grown : Grown before end printed after at
  pub left : printed ++ spaced (evens (drop done numbers)) ≡ spaced (evens (drop from numbers))

pub every_start : (before : List ℕ) (end : ℕ) (numbers : List ℕ) (from : ℕ) → Every before end numbers from from before end
every_start before end numbers from = record { printed = []; grown = grown_none before end; left = refl }

module _ {before : List ℕ} {end : ℕ} {numbers : List ℕ} {from done : ℕ} {after : List ℕ} {at : ℕ} (e : Every before end numbers from done after at) where
  pub every_next : {mid last : List ℕ} {next to : ℕ} → done < length numbers → Grown after at (space ∷ []) mid next → Grown mid next (decimal (get_or numbers done 0)) last to → Every before end numbers from (done + 2) last to
  every_next h p q =
      record {
        printed = e.printed ++ (space ∷ decimal (get_or numbers done 0));
        grown = grown_more e.grown (grown_more p q);
        left =
            append_assoc e.printed (space ∷ decimal (get_or numbers done 0)) (spaced (evens (drop (done + 2) numbers)))
            ∙ ap (λ l. e.printed ++ l) (sym (spaced_next numbers done h))
            ∙ e.left;
      }

  pub every_end : length numbers ≤ done → Grown before end (spaced (evens (drop from numbers))) after at
  every_end h =
      subst (λ l. Grown before end l after at)
      (sym (ap (λ l. e.printed ++ l) (spaced_none numbers done h) ∙ append-nil e.printed) ∙ e.left)
      e.grown
