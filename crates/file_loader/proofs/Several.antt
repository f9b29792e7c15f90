-- Several numbers, one after the other. Assumes nothing.
use mathlib.Core.Path.{◌≡◌, refl, sym, ap, ◌∙◌}
use mathlib.Core.Bool.{Bool, true, false}
use mathlib.Core.List.{List, [], ◌∷◌, ◌++◌, append-nil}
use Prim.Native.Nat.{ℕ, zero, suc, ◌+◌, ◌*◌, ◌≤◌, ◌<◌}
use native.Mathlib.Omega.{arith}
use lib.ListN.{length, take, drop, length-drop}
use lib.Seq.{drop-drop}
use borrow.Author.Tests.{leb-false}
use Rattle.laws.proofs.Choice.{pick_true, pick_false, or_false, true_not_false}
use Rattle.tree.specs.Sizes.{node_cells}
use Rattle.std.specs.Prelude.{None, Some}
use Rattle.file_numbers.specs.Numbers.{followed, value_of, rest_of, malformed}
use Rattle.file_numbers.specs.Standing.{stands_at}
use Rattle.tree_source.specs.Source.{value_in, next_in, skip, run, runs}
use Rattle.tree_source.proofs.Cells.{skip_more, run_more, runs_more}
use Rattle.tree_source.proofs.Nodes.{is_value}
use Rattle.file_loader.specs.Reads.{Passed}
use Rattle.file_loader.specs.Several.{Numbers, broken, numbers, prepend, numbers_of, is_broken}

-- ---- what stands at a place

module _ (file : List ℕ) (at : ℕ) where
  pub number_bad : None ≡ stands_at file at → malformed (drop at file) ≡ true
  unfolding stands_at
  number_bad e = go (malformed (drop at file)) refl
    where
      go : (b : Bool) → malformed (drop at file) ≡ b → malformed (drop at file) ≡ true
      go true h = h
      go false h = absurd (let q = e ∙ pick_false _ _ h in let z : ◌≡◌ {A = ℕ} 0 1 = cc in omega arith)

  -- a value: the number there is well formed and has it, and the bytes after it are those from the next place on
  pub record Stands (v next : ℕ) : Type 0 where
    pub formed : malformed (drop at file) ≡ false
    pub value : value_of (drop at file) ≡ v
    pub rest : rest_of (drop at file) ≡ drop next file

  pub number_good : (v next : ℕ) → Some (v, next) ≡ stands_at file at → Stands v next
  unfolding stands_at rest_of value_in next_in
  number_good v next e = go (malformed (drop at file)) refl
    where
      go : (b : Bool) → malformed (drop at file) ≡ b → Stands v next
      go true h = absurd (let q = e ∙ pick_true _ _ h in let z : ◌≡◌ {A = ℕ} 0 1 = cc in omega arith)
      go false h =
          let q = e ∙ pick_false _ _ h in
          let n : next ≡ at + suc (followed (drop at file)) = ap next_in q in
          record { formed = h; value = sym (ap value_in q); rest = drop-drop (suc (followed (drop at file))) at file ∙ rw (← n) }

-- ---- one number more

pub one_more : (n : ℕ) (bytes : List ℕ) → malformed bytes ≡ false → numbers_of (suc n) bytes ≡ prepend (value_of bytes) (numbers_of n (rest_of bytes))
unfolding numbers_of
one_more n bytes e = pick_false _ _ e

none_more : (n : ℕ) (bytes : List ℕ) → malformed bytes ≡ true → numbers_of (suc n) bytes ≡ broken
unfolding numbers_of
none_more n bytes e = pick_true _ _ e

-- the first of several numbers that are well formed
pub data Taken (bytes : List ℕ) (n : ℕ) (vs r : List ℕ) : Type 0 where
  taken : (ws : List ℕ) → malformed bytes ≡ false → numbers_of n (rest_of bytes) ≡ numbers ws r → vs ≡ value_of bytes ∷ ws → Taken bytes n vs r

pub apart : (n : ℕ) (bytes vs r : List ℕ) → numbers_of (suc n) bytes ≡ numbers vs r → Taken bytes n vs r
unfolding prepend
apart n bytes vs r e = go (malformed bytes) refl
  where
    further : malformed bytes ≡ false → (x : Numbers) → numbers_of n (rest_of bytes) ≡ x → prepend (value_of bytes) x ≡ numbers vs r → Taken bytes n vs r
    further h broken p q = absurd (let z : ◌≡◌ {A = ℕ} 0 1 = cc in omega arith)
    further h (numbers ws s) p q = taken ws h (let z : s ≡ r = cc in p ∙ rw z) (cc)

    go : (b : Bool) → malformed bytes ≡ b → Taken bytes n vs r
    go true h = absurd (let q = sym (none_more n bytes h) ∙ e in let z : ◌≡◌ {A = ℕ} 0 1 = cc in omega arith)
    go false h = further h (numbers_of n (rest_of bytes)) refl (sym (one_more n bytes h) ∙ e)

-- after k numbers another one
numbers_more : (k : ℕ) (bytes vs r : List ℕ) → numbers_of k bytes ≡ numbers vs r → malformed r ≡ false → numbers_of (suc k) bytes ≡ numbers (vs ++ value_of r ∷ []) (rest_of r)
unfolding numbers_of prepend
numbers_more zero bytes vs r e h =
    let a : bytes ≡ r = cc in
    let b : vs ≡ [] = cc in
    rw (a, b) (one_more 0 r h)
numbers_more (suc k) bytes vs r e h = go (apart k bytes vs r e) (λ ws p. numbers_more k (rest_of bytes) ws r p h)
  where
    go : Taken bytes k vs r → ((ws : List ℕ) → numbers_of k (rest_of bytes) ≡ numbers ws r → numbers_of (suc k) (rest_of bytes) ≡ numbers (ws ++ value_of r ∷ []) (rest_of r))
        → numbers_of (suc (suc k)) bytes ≡ numbers (vs ++ value_of r ∷ []) (rest_of r)
    go (taken ws m p q) ih = one_more (suc k) bytes m ∙ rw (ih ws p, q)

-- after k numbers the one that stands at the place after them
pub numbers_next : (k : ℕ) (bytes vs file : List ℕ) (at v next : ℕ) → numbers_of k bytes ≡ numbers vs (drop at file) → Some (v, next) ≡ stands_at file at → numbers_of (suc k) bytes ≡ numbers (vs ++ v ∷ []) (drop next file)
numbers_next k bytes vs file at v next e n =
    let s = number_good file at v next n in
    numbers_more k bytes vs (drop at file) e s.formed ∙ rw (s.value, s.rest)

-- after k numbers one that is malformed
pub numbers_stop : (k n : ℕ) (bytes vs r : List ℕ) → k < n → numbers_of k bytes ≡ numbers vs r → malformed r ≡ true → numbers_of n bytes ≡ broken
unfolding numbers_of prepend
numbers_stop k zero bytes vs r l e h = absurd (omega arith)
numbers_stop zero (suc n) bytes vs r l e h = let a : bytes ≡ r = cc in rw a (none_more n r h)
numbers_stop (suc k) (suc n) bytes vs r l e h = go (apart k bytes vs r e) (λ ws p. numbers_stop k n (rest_of bytes) ws r (omega arith) p h)
  where
    go : Taken bytes k vs r → ((ws : List ℕ) → numbers_of k (rest_of bytes) ≡ numbers ws r → numbers_of n (rest_of bytes) ≡ broken) → numbers_of (suc n) bytes ≡ broken
    go (taken ws m p q) ih = one_more n bytes m ∙ rw (ih ws p)

-- so many numbers are so many
pub numbers_length : (k : ℕ) (bytes vs r : List ℕ) → numbers_of k bytes ≡ numbers vs r → length vs ≡ k
unfolding numbers_of
numbers_length zero bytes vs r e = let b : vs ≡ [] = cc in rw b
numbers_length (suc k) bytes vs r e = go (apart k bytes vs r e) (λ ws p. numbers_length k (rest_of bytes) ws r p)
  where
    go : Taken bytes k vs r → ((ws : List ℕ) → numbers_of k (rest_of bytes) ≡ numbers ws r → length ws ≡ k) → length vs ≡ suc k
    go (taken ws m p q) ih = rw q (ap suc (ih ws p))

-- ---- several, and several more

pub numbers_append : (k n m : ℕ) (bytes vs r ws q : List ℕ) → m ≡ k + n → numbers_of k bytes ≡ numbers vs r → numbers_of n r ≡ numbers ws q → numbers_of m bytes ≡ numbers (vs ++ ws) q
unfolding numbers_of prepend
numbers_append zero n m bytes vs r ws q l e f =
    let a : bytes ≡ r = cc in
    let b : vs ≡ [] = cc in
    let d : m ≡ n = omega arith in
    rw (a, b, d) f
numbers_append (suc k) n zero bytes vs r ws q l e f = absurd (omega arith)
numbers_append (suc k) n (suc m) bytes vs r ws q l e f = go (apart k bytes vs r e) (λ us p. numbers_append k n m (rest_of bytes) us r ws q (omega arith) p f)
  where
    go : Taken bytes k vs r → ((us : List ℕ) → numbers_of k (rest_of bytes) ≡ numbers us r → numbers_of m (rest_of bytes) ≡ numbers (us ++ ws) q) → numbers_of (suc m) bytes ≡ numbers (vs ++ ws) q
    go (taken us h p z) ih = one_more m bytes h ∙ rw (ih us p, z)

-- where some are malformed, more are
pub broken_more : (n m : ℕ) (bytes : List ℕ) → n ≤ m → numbers_of n bytes ≡ broken → numbers_of m bytes ≡ broken
unfolding numbers_of prepend
broken_more zero m bytes l e = absurd (let z : ◌≡◌ {A = ℕ} 0 1 = cc in omega arith)
broken_more (suc n) zero bytes l e = absurd (omega arith)
broken_more (suc n) (suc m) bytes l e = go (malformed bytes) refl (broken_more n m (rest_of bytes) (omega arith))
  where
    further : (x : Numbers) → numbers_of n (rest_of bytes) ≡ x → prepend (value_of bytes) x ≡ broken → numbers_of n (rest_of bytes) ≡ broken
    further broken p q = p
    further (numbers ws s) p q = absurd (let z : ◌≡◌ {A = ℕ} 0 1 = cc in omega arith)

    go : (b : Bool) → malformed bytes ≡ b → (numbers_of n (rest_of bytes) ≡ broken → numbers_of m (rest_of bytes) ≡ broken) → numbers_of (suc m) bytes ≡ broken
    go true h ih = none_more m bytes h
    go false h ih = one_more m bytes h ∙ rw (ih (further (numbers_of n (rest_of bytes)) refl (sym (one_more n bytes h) ∙ e)))

pub numbers_break : (k n m : ℕ) (bytes vs r : List ℕ) → k + n ≤ m → numbers_of k bytes ≡ numbers vs r → numbers_of n r ≡ broken → numbers_of m bytes ≡ broken
unfolding numbers_of prepend
numbers_break zero n m bytes vs r l e f = let a : bytes ≡ r = cc in rw a (broken_more n m r (omega arith) f)
numbers_break (suc k) n zero bytes vs r l e f = absurd (omega arith)
numbers_break (suc k) n (suc m) bytes vs r l e f = go (apart k bytes vs r e) (λ us p. numbers_break k n m (rest_of bytes) us r (omega arith) p f)
  where
    go : Taken bytes k vs r → ((us : List ℕ) → numbers_of k (rest_of bytes) ≡ numbers us r → numbers_of m (rest_of bytes) ≡ broken) → numbers_of (suc m) bytes ≡ broken
    go (taken us h p z) ih = one_more m bytes h ∙ rw (ih us p)

-- where numbers are well formed, there are bytes
pub some_left : (n at : ℕ) (file vs r : List ℕ) → 1 ≤ n → numbers_of n (drop at file) ≡ numbers vs r → at < length file
unfolding malformed
some_left zero at file vs r l e = absurd (omega arith)
some_left (suc n) at file vs r l e = go (apart n (drop at file) vs r e)
  where
    go : Taken (drop at file) n vs r → at < length file
    go (taken ws h p q) =
        let a = leb-false (length (drop at file)) (followed (drop at file)) (or_false _ _ h).0 in
        let l = length-drop at file in
        omega arith

-- ---- the numbers that a source has

-- so many have been read, up to a place
abbrev pub ReadTo : ℕ → List ℕ → ℕ → ℕ → Type 0
ReadTo k file from at = (numbers_of k (drop from file) ≡ numbers (run k file from) (drop at file)) × (at ≡ skip k file from)

pub read_none : (file : List ℕ) (from : ℕ) → ReadTo 0 file from from
unfolding numbers_of run skip
read_none file from = (refl, refl)

pub read_next : (k : ℕ) (file : List ℕ) (from at v next : ℕ) → ReadTo k file from at → Some (v, next) ≡ stands_at file at → ReadTo (suc k) file from next
read_next k file from at v next r n =
    let i = is_value file at v next n in (
      numbers_next k (drop from file) (run k file from) file at v next r.0 n ∙ rw (run_more k file from, ← r.1, ← i.0),
      i.1 ∙ rw (skip_more k file from, ← r.1),
    )

pub read_stop : (k n : ℕ) (file : List ℕ) (from at : ℕ) → k < n → ReadTo k file from at → None ≡ stands_at file at → numbers_of n (drop from file) ≡ broken
read_stop k n file from at l r e = numbers_stop k n (drop from file) _ _ l r.0 (number_bad file at e)

-- one node more
pub runs_next : (k : ℕ) (file : List ℕ) (from at : ℕ) (places : List ℕ) (next : ℕ) → numbers_of (node_cells * suc k) (drop from file) ≡ numbers (runs file (from ∷ places)) (drop at file)
    → Passed file at node_cells (Some next) → numbers_of (node_cells * suc (suc k)) (drop from file) ≡ numbers (runs file (from ∷ places ++ at ∷ [])) (drop next file)
runs_next k file from at places next e f =
    numbers_append (node_cells * suc k) node_cells (node_cells * suc (suc k)) (drop from file) _ (drop at file) _ (drop next file) (omega arith) e f
    ∙ rw (runs_more file (from ∷ places) at)

-- the first node
pub runs_first : (file : List ℕ) (from : ℕ) (places r : List ℕ) → numbers_of node_cells (drop from file) ≡ numbers (run node_cells file from) r → numbers_of (node_cells * suc 0) (drop from file) ≡ numbers (runs file (from ∷ take 0 places)) r
unfolding runs
runs_first file from places r e = e ∙ rw (append-nil (run node_cells file from))

-- ---- what the steps answer

pub not_broken : {A : Type 0} (x : Numbers) → is_broken x ≡ false → x ≡ broken → A
unfolding is_broken
not_broken x e f = true_not_false (sym (ap is_broken f) ∙ e)
