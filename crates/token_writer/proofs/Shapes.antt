-- Nodes of the forms that have their own way: names, literals, Binaries and links. Assumes nothing.
use mathlib.Core.Path.{◌≡◌, refl, sym, ap, ◌∙◌}
use mathlib.Core.Bool.{Bool, true, false, ◌&&◌}
use mathlib.Core.List.{List, [], ◌∷◌}
use Prim.Native.Nat.{ℕ, zero, suc, ◌+◌, ◌*◌, ◌-◌, ◌%◌, ◌≤◌, ◌<◌}
use native.Mathlib.Omega.{arith}
use lib.Dec.{eqb, ltb, leb}
use lib.ListN.{length, get_or, set}
use borrow.Author.Tests.{lt-ltb, le-ltb, eqb-true}
use Rattle.laws.specs.Choice.{pick, lookup}
use Rattle.laws.specs.Puts.{Put}
use Rattle.laws.proofs.Choice.{pick_true, pick_false, and_true}
use Rattle.tree.specs.Sizes.{node_cells}
use Rattle.tree.specs.Forms.{expr_path, expr_lit, expr_binary, link}
use Rattle.tree.specs.Table.{cell_at, form_at, detail_at, first_at, second_at, symbol_at, first_column, second_column}
use Rattle.tree.specs.Trees.{Tree, none, label_at, operand_of, operand_at, tree_at}
use Rattle.tree.specs.Walks.{is_there}
use Rattle.tree.proofs.Unfold.{operand_most, tree_zero, unfolds}
use Rattle.token_grammar.specs.Tokens.{Token, operator, name_token, literal_token, comma_token, left_paren, right_paren, number, code, cells_of, operator_of}
use Rattle.token_grammar.proofs.Tokens.{number_below}
use Rattle.token_grammar.specs.Levels.{kind, level}
use Rattle.token_plain.specs.Written.{signs, comma, sign_lines, signs_of}
use Rattle.token_writer.specs.Levels.{opening, lowest_in, opens_in, condition_in, closed, strength_lines, strength_of, needs_by, needs, first_lines, first_by, second_lines, second_by, kept, first_from, second_from}
use Rattle.token_writer.specs.Tasks.{task_step, task_of, between_task, code_task, signs_at, cells_by, pairs_at, enter_work, laid_three, Turned, TurnedOnly}
use Rattle.token_writer.proofs.Tasks.{enter_cells, enter_pairs, some_work}
use Rattle.token_writer.proofs.Tokens.{paired, cells_none, pairs_none, cells_parts, pairs_parts}
use Rattle.token_writer.proofs.Turns.{room_before, turned_three, turned_pair, turned_one}

-- a cell of a node that the table has
pub cell_is : (cells : List ℕ) (i k : ℕ) → 1 ≤ i → get_or cells (node_cells * (i - 1) + k) 0 ≡ cell_at cells i k
unfolding cell_at
cell_is cells zero k h = absurd (omega arith)
cell_is cells (suc i) k h = let e : suc i - 1 ≡ i = omega arith in rw e

off : (b : Bool) → b && false ≡ false
off true = refl
off false = refl

never_weak : (p : ℕ) → ltb closed (p % opening) ≡ false
never_weak p = le-ltb closed (p % opening) (omega arith)

module _ (cells : List ℕ) (count i p : ℕ) (b : Tree) where
  -- ---- a Binary

  pub binary_needs : form_at cells i ≡ expr_binary → needs p (label_at cells i) b ≡ ltb (level (kind (operator_of (detail_at cells i)))) (p % opening)
  unfolding needs needs_by strength_of strength_lines lookup pick label_at lowest_in
  binary_needs f = rw (f, off (condition_in p))

  pub binary_signs : form_at cells i ≡ expr_binary → signs_of (label_at cells i) b ≡ signs [] (operator (operator_of (detail_at cells i)) ∷ []) []
  unfolding signs_of sign_lines lookup pick label_at
  binary_signs f = rw f

  -- ---- a link

  pub link_needs : form_at cells i ≡ link → needs p (label_at cells i) b ≡ false
  unfolding needs needs_by strength_of strength_lines lookup pick label_at lowest_in
  link_needs f = rw (f, off (condition_in p)) (never_weak p)

  pub link_signs : form_at cells i ≡ link → signs_of (label_at cells i) b ≡ signs [] (comma (is_there b)) []
  unfolding signs_of sign_lines lookup pick label_at
  link_signs f = rw f

  -- ---- a name or a literal

  pub name_needs : form_at cells i ≡ expr_path → needs p (label_at cells i) b ≡ false
  unfolding needs needs_by strength_of strength_lines lookup pick label_at lowest_in
  name_needs f = rw (f, off (condition_in p)) (never_weak p)

  pub literal_needs : form_at cells i ≡ expr_lit → needs p (label_at cells i) b ≡ false
  unfolding needs needs_by strength_of strength_lines lookup pick label_at lowest_in
  literal_needs f = rw (f, off (condition_in p)) (never_weak p)

  pub name_signs : form_at cells i ≡ expr_path → signs_of (label_at cells i) b ≡ signs (name_token (symbol_at cells i) ∷ []) [] []
  unfolding signs_of sign_lines lookup pick label_at
  name_signs f = rw f

  pub literal_signs : form_at cells i ≡ expr_lit → signs_of (label_at cells i) b ≡ signs (literal_token (symbol_at cells i) ∷ []) [] []
  unfolding signs_of sign_lines lookup pick label_at
  literal_signs f = rw f

-- ---- what a Binary and a link hand down

module _ (cells : List ℕ) (i p detail : ℕ) (d : detail ≡ detail_at cells i) (f : form_at cells i ≡ expr_binary) (pair opens condition : Bool) (o : opens ≡ kept pair (opens_in p)) (c : condition ≡ kept pair (condition_in p)) where
  pub binary_ahead : (n : ℕ) → n ≡ lookup (first_lines opens condition detail) 0 expr_binary → n ≡ first_from p pair (label_at cells i)
  unfolding first_by label_at
  binary_ahead n e = e ∙ rw (o, c, d, f)

  pub binary_after : (n : ℕ) → n ≡ lookup (second_lines opens condition detail) 0 expr_binary → n ≡ second_from p pair (label_at cells i)
  unfolding second_by label_at
  binary_after n e = e ∙ rw (o, c, d, f)

module _ (cells : List ℕ) (i p : ℕ) (f : form_at cells i ≡ link) (pair : Bool) where
  pub link_ahead : 0 ≡ first_from p pair (label_at cells i)
  unfolding first_by first_lines lookup pick label_at
  link_ahead = rw f

  pub link_after : 0 ≡ second_from p pair (label_at cells i)
  unfolding second_by second_lines lookup pick label_at
  link_after = rw f

-- ---- a pair takes two cells at least

pub pair_room : (cells : List ℕ) (count i p : ℕ) (low : 1 ≤ i) (high : i ≤ count) (at lent : ℕ) → paired cells count p i low high ≡ true → at + length (cells_by cells count p i) ≤ lent → at + 2 ≤ lent
unfolding pick
pair_room cells count i p low high at lent e h = let r = rw e at (room_before cells count i p low high at lent h) in omega arith

-- ---- a name or a literal is one token

module _ (cells : List ℕ) (count i p : ℕ) (low : 1 ≤ i) (high : i ≤ count) where
  one_token : paired cells count p i low high ≡ false → (t : Token) → signs_at cells count i ≡ signs (t ∷ []) [] [] → tree_at cells count (operand_at cells count i first_column) ≡ none → tree_at cells count (operand_at cells count i second_column) ≡ none
      → cells_by cells count p i ≡ cells_of (t ∷ [])
  unfolding pick
  one_token e t s a b =
      cells_parts cells count p i low high
      ∙ rw (cells_none cells count _ (operand_at cells count i first_column) a, cells_none cells count _ (operand_at cells count i second_column) b, s, e)

-- ---- a Binary, as it is entered

module _ (cells : List ℕ) (count i p : ℕ) (here : p < between_task) (low : 1 ≤ i) (high : i ≤ count) (fits : count < task_step) (f : form_at cells i ≡ expr_binary) (stack : List ℕ) (depth : ℕ) (room : depth + enter_work cells count i ≤ length stack)
    (detail : ℕ) (d : detail ≡ detail_at cells i) (c : ℕ) (code_is : c ≡ number (operator_of detail)) (first second : ℕ) (fo : first ≡ operand_at cells count i first_column) (so : second ≡ operand_at cells count i second_column) (strength : ℕ) (st : strength ≡ level (kind (operator_of detail))) where
  abbrev pair : Bool
  pair = paired cells count p i low high

  own_signs : signs_at cells count i ≡ signs [] (operator (operator_of detail) ∷ []) []
  own_signs = binary_signs cells count i p (tree_at cells count (operand_at cells count i second_column)) f ∙ ap (λ n. signs [] (operator (operator_of n) ∷ []) []) (sym d)

  own_cells : cells_of (operator (operator_of detail) ∷ []) ≡ c ∷ 0 ∷ []
  own_cells = ap (λ n. n ∷ 0 ∷ []) (sym code_is)

  pub small_code : c < code_task
  small_code = let b = number_below (operator_of detail) in omega arith

  by_strength : (b : Bool) → ltb strength (p % opening) ≡ b → pair ≡ b
  by_strength b h = binary_needs cells count i p (tree_at cells count (operand_at cells count i second_column)) f ∙ ap (λ n. ltb n (p % opening)) (ap (λ n. level (kind (operator_of n))) (sym d) ∙ sym st) ∙ h

  pub doubled : strength < p % opening → pair ≡ true
  doubled h = by_strength true (lt-ltb strength (p % opening) h)

  abbrev Laid : List ℕ → ℕ → ℕ → ℕ → List ℕ → Type 0
  Laid under above ahead after new_stack = new_stack ≡ laid_three under above (task_of second after) (task_of 0 (code_task + c)) (task_of first ahead)

  laid_same : (under : List ℕ) (above ahead after : ℕ) (new_stack : List ℕ) → ahead ≡ first_from p pair (label_at cells i) → after ≡ second_from p pair (label_at cells i) → Laid under above ahead after new_stack
      → new_stack ≡ laid_three under above (task_of (operand_at cells count i second_column) (second_from p pair (label_at cells i))) (task_of 0 (code_task + c)) (task_of (operand_at cells count i first_column) (first_from p pair (label_at cells i)))
  laid_same under above ahead after new_stack e g l = l ∙ rw (e, g, fo, so)

  pub binary_pair : strength < p % opening → (ahead after : ℕ) → ahead ≡ lookup (first_lines false false detail) 0 expr_binary → after ≡ lookup (second_lines false false detail) 0 expr_binary
      → (under : List ℕ) (above : ℕ) → under ≡ set stack depth (task_of 0 (code_task + code right_paren)) → above ≡ 1 + depth → (new_stack : List ℕ) → Laid under above ahead after new_stack → (top : ℕ) → top ≡ 3 + above
      → (tokens last : List ℕ) (at next : ℕ) → Put tokens at (code left_paren ∷ 0 ∷ []) last next → Turned cells count (task_of i p) stack depth tokens at new_stack last (record { depth = top; at = next; pairs = 1 })
  binary_pair h ahead after e g under above u v new_stack l top t tokens last at next put =
      let off = kept_on pair (doubled h) in
      turned_pair cells count i p here low high fits (operator (operator_of detail) ∷ []) own_signs stack depth room c own_cells small_code under above u v (doubled h) new_stack
      (laid_same under above ahead after new_stack (binary_ahead cells i p detail d f pair false false (off (opens_in p)) (off (condition_in p)) ahead e) (binary_after cells i p detail d f pair false false (off (opens_in p)) (off (condition_in p)) after g) l)
      top t tokens last at next put
    where
      kept_on : (b : Bool) → b ≡ true → (flag : Bool) → false ≡ kept b flag
      kept_on b e flag = sym (pick_true false flag e)

  pub binary_plain : p % opening ≤ strength → (opens condition : Bool) → opens ≡ opens_in p → condition ≡ condition_in p → (ahead after : ℕ) → ahead ≡ lookup (first_lines opens condition detail) 0 expr_binary → after ≡ lookup (second_lines opens condition detail) 0 expr_binary
      → (new_stack : List ℕ) → Laid stack depth ahead after new_stack → (top : ℕ) → top ≡ 3 + depth → (at : ℕ) → TurnedOnly cells count (task_of i p) stack depth at new_stack (record { depth = top; at = at; pairs = 0 })
  binary_plain h opens condition o k ahead after e g new_stack l top t at =
      let single : pair ≡ false = by_strength false (le-ltb strength (p % opening) h) in
      turned_three cells count i p here low high fits (operator (operator_of detail) ∷ []) own_signs stack depth room c own_cells small_code single new_stack
      (laid_same stack depth ahead after new_stack (binary_ahead cells i p detail d f pair opens condition (o ∙ kept_off pair single (opens_in p)) (k ∙ kept_off pair single (condition_in p)) ahead e) (binary_after cells i p detail d f pair opens condition (o ∙ kept_off pair single (opens_in p)) (k ∙ kept_off pair single (condition_in p)) after g) l)
      top t at
    where
      kept_off : (b : Bool) → b ≡ false → (flag : Bool) → flag ≡ kept b flag
      kept_off b e flag = sym (pick_false false flag e)

-- ---- a link, as it is entered

module _ (cells : List ℕ) (count i p : ℕ) (here : p < between_task) (low : 1 ≤ i) (high : i ≤ count) (fits : count < task_step) (f : form_at cells i ≡ link) (stack : List ℕ) (depth : ℕ) (room : depth + enter_work cells count i ≤ length stack)
    (first second : ℕ) (fo : first ≡ operand_at cells count i first_column) (so : second ≡ operand_at cells count i second_column) where
  abbrev link_tree : Tree
  link_tree = tree_at cells count (operand_at cells count i second_column)

  link_signs_at : (b : Bool) → is_there link_tree ≡ b → signs_at cells count i ≡ signs [] (comma b) []
  link_signs_at b e = link_signs cells count i p link_tree f ∙ ap (λ x. signs [] (comma x) []) e

  link_single : paired cells count p i low high ≡ false
  link_single = link_needs cells count i p link_tree f

  pub link_last : second ≡ 0 → (new_stack : List ℕ) → new_stack ≡ set stack depth (task_of first 0) → (top : ℕ) → top ≡ 1 + depth → (at : ℕ) → TurnedOnly cells count (task_of i p) stack depth at new_stack (record { depth = top; at = at; pairs = 0 })
  unfolding pick
  link_last z new_stack e top t at =
      let absent : link_tree ≡ none = ap (tree_at cells count) (sym so ∙ z) ∙ tree_zero cells count in
      turned_one cells count i p here low high fits [] (link_signs_at false (ap is_there absent)) stack depth room refl link_single absent new_stack
      (e ∙ rw (fo, ← link_ahead cells i p f (paired cells count p i low high)))
      top t at

  pub link_more : (second ≡ 0 → ⊥) → (new_stack : List ℕ) → new_stack ≡ laid_three stack depth (task_of second 0) (task_of 0 (code_task + code comma_token)) (task_of first 0) → (top : ℕ) → top ≡ 3 + depth → (at : ℕ) → TurnedOnly cells count (task_of i p) stack depth at new_stack (record { depth = top; at = at; pairs = 0 })
  unfolding pick
  link_more n new_stack e top t at =
      let present : is_there link_tree ≡ true = there_some cells count (operand_at cells count i second_column) (λ z. n (so ∙ z)) (operand_most count i (cell_at cells i second_column)) in
      turned_three cells count i p here low high fits (comma_token ∷ []) (link_signs_at true present) stack depth room (code comma_token) refl (omega arith) link_single new_stack
      (e ∙ rw (fo, so, ← link_ahead cells i p f (paired cells count p i low high), ← link_after cells i p f (paired cells count p i low high)))
      top t at
    where
      there_some : (cells : List ℕ) (count o : ℕ) → (o ≡ 0 → ⊥) → o ≤ count → is_there (tree_at cells count o) ≡ true
      there_some cells count o n h = ap is_there (unfolds cells count o (omega arith) h)

-- ---- a name or a literal, as it is entered

absent_operand : (cells : List ℕ) (count i k : ℕ) → cell_at cells i k ≡ 0 → tree_at cells count (operand_at cells count i k) ≡ none
unfolding operand_of
absent_operand cells count i k e = ap (tree_at cells count) (ap (operand_of count i) e ∙ same (ltb i 0 && leb 0 count) 0) ∙ tree_zero cells count
  where
    same : (b : Bool) (n : ℕ) → pick b n n ≡ n
    same true n = pick_true n n refl
    same false n = pick_false n n refl

module _ (cells : List ℕ) (count i p : ℕ) (here : p < between_task) (low : 1 ≤ i) (high : i ≤ count) (fits : count < task_step) (bare : eqb (first_at cells i) 0 && eqb (second_at cells i) 0 ≡ true) where
  no_first : tree_at cells count (operand_at cells count i first_column) ≡ none
  no_first = absent_operand cells count i first_column (eqb-true (first_at cells i) 0 (and_true (eqb (first_at cells i) 0) (eqb (second_at cells i) 0) bare).0)

  no_second : tree_at cells count (operand_at cells count i second_column) ≡ none
  no_second = absent_operand cells count i second_column (eqb-true (second_at cells i) 0 (and_true (eqb (first_at cells i) 0) (eqb (second_at cells i) 0) bare).1)

  abbrev behind : Tree
  behind = tree_at cells count (operand_at cells count i second_column)

  -- c is the token's code
  pub record Bare (c : ℕ) : Type 0 where
    pub single : paired cells count p i low high ≡ false
    pub cells_are : cells_by cells count p i ≡ c ∷ symbol_at cells i ∷ []

  pub bare_name : form_at cells i ≡ expr_path → Bare (code (name_token 0))
  bare_name f =
      let s = name_needs cells count i p behind f in
      record { single = s; cells_are = one_token cells count i p low high s (name_token (symbol_at cells i)) (name_signs cells count i p behind f) no_first no_second }

  pub bare_literal : form_at cells i ≡ expr_lit → Bare (code (literal_token 0))
  bare_literal f =
      let s = literal_needs cells count i p behind f in
      record { single = s; cells_are = one_token cells count i p low high s (literal_token (symbol_at cells i)) (literal_signs cells count i p behind f) no_first no_second }

  module _ (c : ℕ) (b : Bare c) where
    pub bare_room : (at lent : ℕ) → at + length (cells_by cells count p i) ≤ lent → at + 2 ≤ lent
    bare_room at lent h = let r = rw b.cells_are at h in omega arith

    pub bare_turned : (stack : List ℕ) (depth : ℕ) (tokens last : List ℕ) (at next : ℕ) → Put tokens at (c ∷ symbol_at cells i ∷ []) last next
        → Turned cells count (task_of i p) stack depth tokens at stack last (record { depth = depth; at = next; pairs = 0 })
    bare_turned stack depth tokens last at next put =
        let small : i < task_step = omega arith in
        let m : pairs_at cells count p i ≡ 0 = pairs_parts cells count p i low high ∙ rw (b.single, pairs_none cells count (first_from p false (label_at cells i)) (operand_at cells count i first_column) no_first, pairs_none cells count (second_from p false (label_at cells i)) (operand_at cells count i second_column) no_second) in
        record {
          first = c ∷ symbol_at cells i ∷ [];
          puts = put;
          same = rw (enter_cells cells count i p small here, b.cells_are);
          pairs = rw (enter_pairs cells count i p small here, m);
          less = let w = some_work cells count (task_of i p) in omega arith;
          room = refl;
        }
