-- The numbers of a tree that keeps the rules of a node are below 65,536, and take at most ten bytes a node. Assumes nothing.
use mathlib.Core.Path.{◌≡◌, sym}
use mathlib.Core.Bool.{Bool, true, false, not, ◌&&◌}
use mathlib.Core.List.{List, [], ◌∷◌, ◌++◌}
use Prim.Native.Nat.{ℕ, suc, ◌+◌, ◌*◌, ◌≤◌, ◌<◌}
use native.Mathlib.Omega.{arith}
use Rattle.std.specs.Prelude.{count_by, cond}
use Rattle.std.proofs.lemmas.List.Sums.{sum_by-cons}
use native.Mathlib.Decide.{dec_le}
use lib.Dec.{T, eqb, leb}
use lib.ListN.{length, length-append}
use borrow.Author.Tests.{leb-true, le-leb, lt-leb, ne_eqb, not-false}
use Rattle.laws.specs.Choice.{pick, is_one_of, lookup}
use Rattle.laws.proofs.Choice.{true_of, true_not_false, and_true, or_false}
use Rattle.laws.proofs.Each.{all, all_at}
use Rattle.tree.specs.Sizes.{most_symbol}
use Rattle.tree.specs.Forms.{expr_field, expr_lit, expr_method_call, expr_path, type_path, class_of, highest_attributes, details, highest_detail, symbols, highest_symbol, allowed}
use Rattle.tree.specs.Trees.{Label, Tree, none, node}
use Rattle.tree_numbering.specs.Numbered.{size, number_of, cells_from}
use Rattle.tree_sound.proofs.Sound.{bad_label, some_node}
use Rattle.file_bytes.specs.Bytes.{bytes_of, all_bytes}
use Rattle.file_bytes.proofs.Below.{AllBelow, below_none, below_more, below_append}
use Rattle.file_bytes.proofs.Numbers.{one_of, two_of, some_bytes}
use Rattle.file_bytes.proofs.Several.{all_append}
use Rattle.file_save.specs.Stores.{node_bytes}

-- ---- labels

-- a number that is no form has no class
no_class : (form : ℕ) → 56 < form → class_of form ≡ 0
unfolding class_of pick
no_class form h = rw (ne_eqb form 0 (λ e. omega arith), lt-leb form 40 (omega arith), lt-leb form 55 (omega arith), lt-leb form 56 h)

few_forms : (form : ℕ) → not (eqb (class_of form) 0) ≡ true → form < 57
few_forms form e = go (dec_le form 56)
  where
    go : Dec (form ≤ 56) → form < 57
    go (yes h) = omega arith
    go (no h) = true_not_false (sym (rw (no_class form (omega arith)) at e))

-- one test for the numbers of every form
few_numbers : ℕ → Bool
few_numbers form = leb (highest_attributes form) 127 && leb (highest_detail form) 127

few_numbers_lem : T (all few_numbers 57)
unfolding few_numbers highest_attributes highest_detail details lookup class_of pick
few_numbers_lem = tt

most_symbol_lem : (form detail : ℕ) → highest_symbol form detail ≤ most_symbol
unfolding highest_symbol symbols lookup pick
most_symbol_lem form detail = go (is_one_of (expr_field ∷ expr_lit ∷ expr_method_call ∷ expr_path ∷ []) form) (is_one_of (type_path ∷ []) form) (eqb detail 0)
  where
    go : (a b d : Bool) → pick a most_symbol (pick b (pick d 0 most_symbol) 0) ≤ most_symbol
    go true b d = omega arith
    go false true true = omega arith
    go false true false = omega arith
    go false false d = omega arith

pub record Small (l : Label) : Type 0 where
  pub form : l.form < 57
  pub attributes : l.attributes < 128
  pub detail : l.detail < 128
  pub symbol : l.symbol < 65536

pub small_label : (l : Label) → bad_label l ≡ false → Small l
unfolding bad_label allowed few_numbers
small_label l e =
    let a = and_true (not (eqb (class_of l.form) 0)) _ (not-false _ e) in
    let b = and_true (leb l.attributes (highest_attributes l.form)) _ a.1 in
    let d = and_true (leb l.detail (highest_detail l.form)) _ b.1 in
    let f = few_forms l.form a.0 in
    let t = and_true (leb (highest_attributes l.form) 127) _ (true_of (all_at few_numbers 57 few_numbers_lem l.form f)) in
    let p = leb-true l.attributes (highest_attributes l.form) b.0 in
    let q = leb-true l.detail (highest_detail l.form) d.0 in
    let r = leb-true (highest_attributes l.form) 127 t.0 in
    let s = leb-true (highest_detail l.form) 127 t.1 in
    let u = leb-true l.symbol (highest_symbol l.form l.detail) d.1 in
    let v = most_symbol_lem l.form l.detail in
    record { form = omega arith; attributes = omega arith; detail = omega arith; symbol = omega arith }

-- ---- trees

number_most : (t : Tree) (n : ℕ) → number_of t n ≤ n
unfolding number_of
number_most none n = omega arith
number_most (node l a b) n = omega arith

pub small_cells : (t : Tree) (i : ℕ) → i + size t < 65536 → some_node (λ l a b. bad_label l) t ≡ false → AllBelow 65536 (cells_from i t)
unfolding size cells_from some_node
small_cells none i h e = below_none (omega arith)
small_cells (node l a b) i h e =
    let d = or_false (bad_label l) _ e in
    let f = or_false (some_node (λ l a b. bad_label l) a) _ d.1 in
    let s = small_label l d.0 in
    let p = number_most a (suc i) in
    let q = number_most b (suc i + size a) in
    below_more l.form (omega (arith, s.form))
    (below_more l.attributes (omega (arith, s.attributes))
    (below_more l.detail (omega (arith, s.detail))
    (below_more (number_of a (suc i)) (omega arith)
    (below_more (number_of b (suc i + size a)) (omega arith)
    (below_more l.symbol s.symbol
    (below_append (cells_from (suc i) a) (cells_from (suc i + size a) b) (small_cells a (suc i) (omega arith) f.0) (small_cells b (suc i + size a) (omega arith) f.1)))))))

-- ---- their bytes

pub bytes_one : (n : ℕ) → n < 128 → length (bytes_of n) ≡ 1
bytes_one n h = rw (one_of n h)

pub bytes_two : (n : ℕ) → n < 16384 → length (bytes_of n) ≤ 2
bytes_two n h = go (dec_le 128 n)
  where
    go : Dec (128 ≤ n) → length (bytes_of n) ≤ 2
    go (yes l) = rw (two_of n l h) (omega arith)
    go (no l) = rw (one_of n (omega arith)) (omega arith)

pub few_bytes : (t : Tree) (i : ℕ) → i + size t < 16384 → some_node (λ l a b. bad_label l) t ≡ false → length (all_bytes (cells_from i t)) ≤ node_bytes * size t
unfolding size cells_from some_node all_bytes
few_bytes none i h e = omega arith
few_bytes (node l a b) i h e =
    let d = or_false (bad_label l) _ e in
    let f = or_false (some_node (λ l a b. bad_label l) a) _ d.1 in
    let s = small_label l d.0 in
    let m = number_most a (suc i) in
    let n = number_most b (suc i + size a) in
    let p = bytes_one l.form (omega (arith, s.form)) in
    let q = bytes_one l.attributes s.attributes in
    let r = bytes_one l.detail s.detail in
    let u = bytes_two (number_of a (suc i)) (omega arith) in
    let v = bytes_two (number_of b (suc i + size a)) (omega arith) in
    let w = some_bytes l.symbol in
    let x = few_bytes a (suc i) (omega arith) f.0 in
    let y = few_bytes b (suc i + size a) (omega arith) f.1 in
    rw (all_append (cells_from (suc i) a) (cells_from (suc i + size a) b)) (simp length-append (omega (arith, w.1)))

-- numbers of 128 and above take three bytes at most, and others one
pub longer_bytes : (ns : List ℕ) → length (all_bytes ns) ≤ length ns + 2 * count_by (λ n. leb 128 n) ns
unfolding all_bytes
longer_bytes [] = omega arith
longer_bytes (n ∷ ns) = rw (sum_by-cons (λ (m : ℕ). cond (leb 128 m) 1 0) n ns) (go (dec_le 128 n) (longer_bytes ns))
  where
    long : length (bytes_of n ++ all_bytes ns) ≡ length (bytes_of n) + length (all_bytes ns)
    long = length-append (bytes_of n) (all_bytes ns)

    go : Dec (128 ≤ n) → length (all_bytes ns) ≤ length ns + 2 * count_by (λ m. leb 128 m) ns → length (bytes_of n ++ all_bytes ns) ≤ suc (length ns) + 2 * (cond (leb 128 n) 1 0 + count_by (λ m. leb 128 m) ns)
    go (yes h) i = let l = long in let b = (some_bytes n).1 in rw (le-leb 128 n h) (omega arith)
    go (no h) i = let l = long in let b = bytes_one n (omega arith) in rw (lt-leb 128 n (omega arith)) (omega arith)
