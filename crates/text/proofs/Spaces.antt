-- Laws of numbers with a space before each, and of lines. Assumes nothing.
use mathlib.Core.Path.{◌≡◌, refl, ◌∙◌}
use mathlib.Core.List.{List, [], ◌∷◌, ◌++◌, append_assoc, append-nil}
use Prim.Native.Nat.{ℕ, zero, suc, ◌+◌, ◌*◌, ◌≤◌, ◌<◌}
use native.Mathlib.Omega.{arith}
use lib.ListN.{length, take, drop, get_or, length-append, length-take}
use lib.Seq.{take-suc, get_or-drop}
use Rattle.text.specs.Numbers.{space, decimal, spaced, line, headed, ok_line, no_line}
use Rattle.text.proofs.Digits.{length_decimal}

pub spaced_append : (s t : List ℕ) → spaced (s ++ t) ≡ spaced s ++ spaced t
unfolding spaced
spaced_append [] t = refl
spaced_append (n ∷ s) t = rw (spaced_append s t, append_assoc)

-- one number more
pub spaced_next : (numbers : List ℕ) (j : ℕ) → j < length numbers → spaced (take (j + 1) numbers) ≡ spaced (take j numbers) ++ (space ∷ decimal (get_or numbers j 0))
unfolding spaced
spaced_next numbers j h =
    let e : j + 1 ≡ suc j = omega arith in
    rw (e, take-suc numbers j 0 h) (spaced_append (take j numbers) (get_or numbers j 0 ∷ []) ∙ rw (append-nil (decimal (get_or numbers j 0))))

-- ---- how many bytes

-- numbers of 16 bits take at most six bytes each
pub spaced_most : (numbers : List ℕ) → ((i : ℕ) → get_or numbers i 0 ≤ 65535) → length (spaced numbers) ≤ 6 * length numbers
unfolding spaced
spaced_most [] h = omega arith
spaced_most (n ∷ numbers) h =
    let first = length_decimal n (h 0) in
    let others = spaced_most numbers (λ i. h (suc i)) in
    rw length-append (omega arith)

below_take : (most n : ℕ) (l : List ℕ) → ((i : ℕ) → get_or l i 0 ≤ most) → (i : ℕ) → get_or (take n l) i 0 ≤ most
below_take most zero l h i = omega arith
below_take most (suc n) [] h i = omega arith
below_take most (suc n) (x ∷ l) h zero = h 0
below_take most (suc n) (x ∷ l) h (suc i) = below_take most n l (λ j. h (suc j)) i

-- a line of a number and so many more, of 16 bits, takes at most six bytes for each, where these stand in a table from `from` on
pub line_most : (width n : ℕ) (cells : List ℕ) (from : ℕ) → n ≤ 65535 → ((i : ℕ) → get_or cells i 0 ≤ 65535) → length (line n (take width (drop from cells))) ≤ 6 * (width + 1)
unfolding line
line_most width n cells from h fit =
    let digits = length_decimal n h in
    let most = spaced_most (take width (drop from cells)) (below_take 65535 width (drop from cells) (λ i. rw get_or-drop (fit (from + i)))) in
    let few = length-take width (drop from cells) in
    simp length-append (omega arith)

headed_most : (a b n : ℕ) → n ≤ 65535 → length (headed a b n) ≤ 9
unfolding headed
headed_most a b n h = let digits = length_decimal n h in rw length-append (omega arith)

pub ok_most : (n : ℕ) → n ≤ 65535 → length (ok_line n) ≤ 9
ok_most n h = headed_most 111 107 n h

pub no_most : (n : ℕ) → n ≤ 65535 → length (no_line n) ≤ 9
no_most n h = headed_most 110 111 n h
