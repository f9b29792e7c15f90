-- A number that starts where three bytes are left, by these bytes. Assumes nothing.
use mathlib.Core.Path.{◌≡◌, refl, sym, ap, ◌∙◌}
use mathlib.Core.Bool.{Bool, true, false}
use mathlib.Core.List.{List}
use Prim.Native.Nat.{ℕ, ◌+◌, ◌*◌, ◌-◌, ◌≤◌, ◌<◌}
use native.Mathlib.Omega.{arith}
use lib.ListN.{length, get_or}
use borrow.Author.Tests.{lt-ltb, le-ltb}
use Rattle.laws.proofs.Choice.{true_not_false}
use Rattle.std.specs.Prelude.{None, Some}
use Rattle.file_numbers.specs.Standing.{stands_at}
use Rattle.file_numbers.proofs.Groups.{one_byte, zero_second, two_bytes, zero_third, high_third, three_bytes}
use Rattle.tree_source.specs.Source.{value_at, next_at}
use Rattle.tree_source.specs.declared.Node.{Node}
use Rattle.std.specs.Prelude.{Option, None, Some}
use Rattle.tree_source.specs.Nodes.{NodeFrom, QuickFrom, is_slow, quick_bytes}
use Rattle.tree_source.proofs.Nodes.{no_value, is_value, six_from}

-- the value of the number at a place, and the place after it, which is near
abbrev pub NearAt : List ℕ → ℕ → ℕ → ℕ → Type 0
NearAt file at v next = (v ≡ value_at file at) × (next ≡ next_at file at) × (next ≤ at + 3)

-- where only the place is asked for
pub place_near : (file : List ℕ) (at v next : ℕ) → NearAt file at v next → (next ≡ next_at file at) × (next ≤ at + 3)
place_near file at v next n = (n.1, n.2)

near : (file : List ℕ) (at v k : ℕ) → k ≤ 3 → Some (v, at + k) ≡ stands_at file at → NearAt file at v (at + k)
near file at v k h e = let i = is_value file at v (at + k) e in (i.0, i.1, omega arith)

none : (file : List ℕ) (at : ℕ) → None ≡ stands_at file at → NearAt file at 0 0
none file at e = let i = no_value file at e in (i.0, i.1, omega arith)

module _ (file : List ℕ) (at : ℕ) (room : at + 2 < length file) (low : ℕ) (is_low : low ≡ get_or file at 0) where
  pub near_one : low < 128 → NearAt file at low (at + 1)
  near_one h = near file at low 1 (omega arith) (one_byte file at low is_low (omega arith) h)

  module _ (on : 128 ≤ low) (low_byte : low < 256) (middle : ℕ) (is_middle : middle ≡ get_or file (at + 1) 0) where
    pub near_zero_second : middle ≡ 0 → NearAt file at 0 0
    near_zero_second z = none file at (zero_second file at low is_low (omega arith) on low_byte middle is_middle (omega arith) z)

    pub near_two : (middle ≡ 0 → ⊥) → middle < 128 → NearAt file at (low - 128 + 128 * middle) (at + 2)
    near_two z h = near file at _ 2 (omega arith) (two_bytes file at low is_low (omega arith) on low_byte middle is_middle (omega arith) z h)

    module _ (on' : 128 ≤ middle) (middle_byte : middle < 256) (high : ℕ) (is_high : high ≡ get_or file (at + 2) 0) where
      pub near_zero_third : high ≡ 0 → NearAt file at 0 0
      near_zero_third z = none file at (zero_third file at low is_low (omega arith) on low_byte middle is_middle (omega arith) on' middle_byte high is_high (omega arith) z)

      pub near_high_third : 3 < high → NearAt file at 0 0
      near_high_third h = none file at (high_third file at low is_low (omega arith) on low_byte middle is_middle (omega arith) on' middle_byte high is_high (omega arith) h)

      pub near_three : (high ≡ 0 → ⊥) → high ≤ 3 → NearAt file at (low - 128 + 128 * (middle - 128) + 16384 * high) (at + 3)
      near_three z h = near file at _ 3 (omega arith) (three_bytes file at low is_low (omega arith) on low_byte middle is_middle (omega arith) on' middle_byte high is_high (omega arith) z h)

-- three numbers of a byte each, where a node has room
module _ (file : List ℕ) (at a b c : ℕ) (room : at + 12 ≤ length file) (is_a : a ≡ get_or file at 0) (is_b : b ≡ get_or file (at + 1) 0) (is_c : c ≡ get_or file (at + 2) 0) (small : a + b + c ≤ 127) where
  pub small_form : Some (a, at + 1) ≡ stands_at file at
  small_form = one_byte file at a is_a (omega arith) (omega arith)

  pub small_attributes : Some (b, at + 2) ≡ stands_at file (at + 1)
  small_attributes = let e : at + 1 + 1 ≡ at + 2 = omega arith in rw e at (one_byte file (at + 1) b is_b (omega arith) (omega arith))

  pub small_detail : Some (c, at + 3) ≡ stands_at file (at + 2)
  small_detail = let e : at + 2 + 1 ≡ at + 3 = omega arith in rw e at (one_byte file (at + 2) c is_c (omega arith) (omega arith))

  -- and three that are near
  pub quick_node : (d e f d' e' f' : ℕ) → NearAt file (at + 3) d d' → NearAt file d' e e' → NearAt file e' f f' → NodeFrom file at (record { form = a; attributes = b; detail = c; first = d; second = e; symbol = f })
  quick_node d e f d' e' f' p q r = six_from file at _ _ _ _ _ _ _ _ _ _ _ (is_value _ _ _ _ small_form) (is_value _ _ _ _ small_attributes) (is_value _ _ _ _ small_detail) (p.0, p.1) (q.0, q.1) r.0

-- where the numbers from a place on are quickly read, and where they are not
module _ (file : List ℕ) (at : ℕ) where
  pub slow_short : length file < at + quick_bytes → is_slow file at ≡ true
  unfolding is_slow
  slow_short h = rw (lt-ltb (length file) (at + quick_bytes) h)

  module _ (room : at + quick_bytes ≤ length file) (a b c : ℕ) (is_a : a ≡ get_or file at 0) (is_b : b ≡ get_or file (at + 1) 0) (is_c : c ≡ get_or file (at + 2) 0) where
    pub slow_large : 127 < a + b + c → is_slow file at ≡ true
    unfolding is_slow
    slow_large h = rw (le-ltb (length file) (at + quick_bytes) room, sym is_a, sym is_b, sym is_c) (lt-ltb 127 (a + b + c) h)

    pub quick_small : a + b + c ≤ 127 → is_slow file at ≡ false
    unfolding is_slow
    quick_small h = rw (le-ltb (length file) (at + quick_bytes) room, sym is_a, sym is_b, sym is_c) (le-ltb 127 (a + b + c) h)

  pub read_slowly : is_slow file at ≡ true → QuickFrom file at None
  read_slowly s = record { quick = λ q. true_not_false (sym s ∙ q); slow = λ _. refl }

  pub read_quickly : (n : Node) → is_slow file at ≡ false → NodeFrom file at n → QuickFrom file at (Some n)
  read_quickly n q f = record { quick = λ _. f; slow = λ s. true_not_false (sym s ∙ q) }

  -- a node that was quickly read
  pub node_read : (n : Node) → QuickFrom file at (Some n) → NodeFrom file at n
  node_read n r = go (is_slow file at) refl
    where
      go : (b : Bool) → is_slow file at ≡ b → NodeFrom file at n
      go false q = r.quick q
      go true s = true_not_false (r.slow s)
