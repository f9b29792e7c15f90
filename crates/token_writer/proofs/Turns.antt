-- Turns: what each kind of task puts and leaves. Assumes nothing.
use mathlib.Core.Path.{◌≡◌, refl, sym, ap, ap₂, ◌∙◌}
use mathlib.Core.Bool.{Bool, true, false, not, ◌&&◌}
use mathlib.Core.List.{List, [], ◌∷◌, ◌++◌, append_assoc, append-nil}
use Prim.Native.Nat.{ℕ, ◌+◌, ◌-◌, ◌≤◌, ◌<◌}
use native.Mathlib.Omega.{arith}
use lib.Dec.{eqb}
use lib.ListN.{length, set, length-set, length-append}
use borrow.Author.Tests.{ne_eqb}
use Rattle.bools.specs.Bits.{bit_of}
use Rattle.laws.specs.Choice.{pick, lookup}
use Rattle.laws.specs.Puts.{Put}
use Rattle.laws.proofs.Choice.{pick_false}
use Rattle.laws.proofs.Putting.{put_none, put_more}
use Rattle.tree.specs.Table.{cell_at, form_column, detail_column, first_column, second_column, symbol_at}
use Rattle.tree.specs.Trees.{Label, none, label_at, operand_at, tree_at}
use Rattle.tree.proofs.Unfold.{operand_most}
use Rattle.token_grammar.specs.Tokens.{assign, Token, left_paren, right_paren, code, cells_of, operator_of}
use Rattle.token_grammar.specs.Levels.{casts, prefixes, postfixes, kind, level, before}
use Rattle.token_plain.specs.Written.{signs}
use Rattle.token_grammar.specs.Grammar.{opens_arguments}
use Rattle.token_writer.specs.declared.signs.Few.{Few}
use Rattle.token_writer.specs.declared.signs.Signs.{Signs}
use Rattle.token_writer.specs.Puts.{spelled, symbol_lines, symbol_on, cells_with, Spells, one_if}
use Rattle.token_writer.specs.Levels.{opening, callable, place, lowest_after, first_lines, first_by, second_lines, second_by, kept, opens_in, condition_in, first_from, second_from}
use Rattle.token_writer.specs.Tasks.{task_step, task_of, between_task, behind_task, last_task, signs_at, cells_by, pairs_at, closing, code_task, sign_cells, own_cells, task_cells, task_pairs, enter_work, task_work, waiting_cells, waiting_pairs, waiting_work, laid, laid_three, waiting, Turned, TurnedOnly}
use Rattle.token_writer.proofs.Bounds.{in_table}
use Rattle.token_writer.proofs.ByLevels.{left_low, right_low}
use Rattle.token_writer.proofs.Spelling.{one_if_lem}
use Rattle.token_writer.proofs.Tasks.{own_sign, own_code, enter_some, enter_cells, enter_pairs, enter_work_lem, cells_of_sign, sign_pairs, sign_work, pile_push, pile_laid, pile_three, some_work}
use Rattle.token_writer.proofs.Tokens.{one_of, cells_none, pairs_none, paired, first_cells, second_cells, cells_parts, pairs_parts, work_parts}

-- ---- what is handed down is a place

place_small : (n : ℕ) → n < opening → (g c : Bool) → place n g c < between_task
place_small n h true true = omega arith
place_small n h true false = omega arith
place_small n h false true = omega arith
place_small n h false false = omega arith

module _ (g c : Bool) (l : Label) where
  first_small : first_by g c l < between_task
  unfolding first_by first_lines
  first_small =
      in_table (λ p. p < between_task) (first_lines g c l.detail) 0 l.form (
        place_small (before (kind (operator_of l.detail))) (omega (arith, left_low (operator_of l.detail))) (opens_arguments (operator_of l.detail)) c,
        (
          place_small (before (kind assign)) (omega (arith, left_low assign)) false c,
          (
            place_small (before casts) (omega arith) false c,
            (
              place_small (level prefixes) (omega arith) g c,
              (
                place_small (before postfixes) (omega arith) false c,
                (place_small callable (omega arith) false c, tt),
              ),
            ),
          ),
        ),
      )
      (omega arith)

  second_small : second_by g c l < between_task
  unfolding second_by second_lines
  second_small =
      in_table (λ p. p < between_task) (second_lines g c l.detail) 0 l.form (
        place_small (lowest_after (operator_of l.detail)) (omega (arith, right_low (operator_of l.detail))) g c,
        (place_small (lowest_after assign) (omega (arith, right_low assign)) g c, tt),
      )
      (omega arith)

-- ---- signs

module _ (cells : List ℕ) (count i : ℕ) where
  pub sign_between : sign_cells cells count between_task i ≡ cells_of (signs_at cells count i).between
  unfolding sign_cells pick
  sign_between = refl

  pub sign_last : (b : Bool) → sign_cells cells count (pick b last_task behind_task) i ≡ cells_of (signs_at cells count i).behind ++ cells_of (closing b)
  unfolding sign_cells pick
  sign_last true = refl
  sign_last false = refl

  sign_task : (b : Bool) → between_task ≤ pick b last_task behind_task
  unfolding pick
  sign_task true = omega arith
  sign_task false = omega arith

  sign_below : (b : Bool) → pick b last_task behind_task < code_task
  unfolding pick
  sign_below true = omega arith
  sign_below false = omega arith

-- ---- an operand that is absent

module _ (cells : List ℕ) (count i p : ℕ) (here : p < between_task) (small : i < task_step) where
  pub turned_none : tree_at cells count i ≡ none → (stack : List ℕ) (depth : ℕ) (tokens : List ℕ) (at : ℕ)
      → Turned cells count (task_of i p) stack depth tokens at stack tokens (record { depth = depth; at = at; pairs = 0 })
  turned_none e stack depth tokens at =
      record {
        first = [];
        puts = put_none tokens at;
        same = rw (enter_cells cells count i p small here, cells_none cells count p i e);
        pairs = rw (enter_pairs cells count i p small here, pairs_none cells count p i e);
        less = let w = some_work cells count (task_of i p) in omega arith;
        room = refl;
      }

-- ---- a sign

module _ (cells : List ℕ) (count i what : ℕ) (no_place : between_task ≤ what) (small : i < task_step) where
  pub turned_sign : (stack : List ℕ) (depth : ℕ) (tokens : List ℕ) (at : ℕ) (after : List ℕ) (next : ℕ) → Put tokens at (own_cells cells count what i) after next
      → Turned cells count (task_of i what) stack depth tokens at stack after (record { depth = depth; at = next; pairs = 0 })
  turned_sign stack depth tokens at after next p =
      record {
        first = own_cells cells count what i;
        puts = p;
        same = rw (cells_of_sign cells count i what small no_place);
        pairs = rw (sign_pairs cells count i what small no_place);
        less = let w = some_work cells count (task_of i what) in omega arith;
        room = refl;
      }

-- ---- a node

module _ (cells : List ℕ) (count i p : ℕ) (here : p < between_task) (low : 1 ≤ i) (high : i ≤ count) (fits : count < task_step) where
  abbrev q : Bool
  q = paired cells count p i low high

  abbrev l : Label
  l = label_at cells i

  abbrev first_task : ℕ
  first_task = task_of (operand_at cells count i first_column) (first_from p q l)

  abbrev second_task : ℕ
  second_task = task_of (operand_at cells count i second_column) (second_from p q l)

  abbrev end_task : ℕ
  end_task = task_of i (pick q last_task behind_task)

  first_fits : operand_at cells count i first_column < task_step
  first_fits = let m = operand_most count i (cell_at cells i first_column) in omega arith

  second_fits : operand_at cells count i second_column < task_step
  second_fits = let m = operand_most count i (cell_at cells i second_column) in omega arith

  first_place : first_from p q l < between_task
  first_place = first_small (kept q (opens_in p)) (kept q (condition_in p)) l

  second_place : second_from p q l < between_task
  second_place = second_small (kept q (opens_in p)) (kept q (condition_in p)) l

  module _ (stack : List ℕ) (depth : ℕ) (room : depth + enter_work cells count i ≤ length stack) where
    abbrev after : List ℕ
    after = waiting cells count i p q stack depth

    four : 4 + depth ≤ length stack
    unfolding enter_work
    four = let w = work_parts cells count p i low high in omega arith

    abbrev later : List ℕ
    later =
        first_cells cells count p i low high
        ++ (cells_of (signs_at cells count i).between
        ++ (second_cells cells count p i low high ++ ((cells_of (signs_at cells count i).behind ++ cells_of (closing q)) ++ waiting_cells cells count stack depth)))

    waits_cells : waiting_cells cells count after (4 + depth) ≡ later
    waits_cells =
        pile_laid (λ task r. task_cells cells count task ++ r) [] stack depth end_task second_task (task_of i between_task) first_task four
        ∙ rw (enter_cells cells count (operand_at cells count i first_column) (first_from p q l) first_fits first_place, cells_of_sign cells count i between_task (omega arith) (omega arith), own_sign cells count i between_task (omega arith), sign_between cells count i, enter_cells cells count (operand_at cells count i second_column) (second_from p q l) second_fits second_place, cells_of_sign cells count i (pick q last_task behind_task) (omega arith) (sign_task cells count i q), own_sign cells count i (pick q last_task behind_task) (sign_below cells count i q), sign_last cells count i q)

    waits_pairs : waiting_pairs cells count after (4 + depth)
        ≡ pairs_at cells count (first_from p q l) (operand_at cells count i first_column)
        + (0 + (pairs_at cells count (second_from p q l) (operand_at cells count i second_column) + (0 + waiting_pairs cells count stack depth)))
    waits_pairs =
        pile_laid (λ task r. task_pairs cells count task + r) 0 stack depth end_task second_task (task_of i between_task) first_task four
        ∙ rw (enter_pairs cells count (operand_at cells count i first_column) (first_from p q l) first_fits first_place, sign_pairs cells count i between_task (omega arith) (omega arith), enter_pairs cells count (operand_at cells count i second_column) (second_from p q l) second_fits second_place, sign_pairs cells count i (pick q last_task behind_task) (omega arith) (sign_task cells count i q))

    waits_work : waiting_work cells count after (4 + depth)
        ≡ enter_work cells count (operand_at cells count i first_column)
        + (1 + (enter_work cells count (operand_at cells count i second_column) + (1 + waiting_work cells count stack depth)))
    waits_work =
        pile_laid (λ task r. task_work cells count task + r) 0 stack depth end_task second_task (task_of i between_task) first_task four
        ∙ rw (enter_work_lem cells count (operand_at cells count i first_column) (first_from p q l) first_fits first_place, sign_work cells count i between_task (omega arith) (omega arith), enter_work_lem cells count (operand_at cells count i second_column) (second_from p q l) second_fits second_place, sign_work cells count i (pick q last_task behind_task) (omega arith) (sign_task cells count i q))

    pub turned_node : (new_stack : List ℕ) → new_stack ≡ after → (tokens mid last : List ℕ) (at inner next top bit : ℕ) → Put tokens at (cells_of (one_of q left_paren)) mid inner → Put mid inner (cells_of (signs_at cells count i).before) last next → top ≡ 4 + depth → bit ≡ bit_of q
        → Turned cells count (task_of i p) stack depth tokens at new_stack last (record { depth = top; at = next; pairs = bit })
    turned_node new_stack e tokens mid last at inner next top bit u v t b =
        record {
          first = cells_of (one_of q left_paren) ++ cells_of (signs_at cells count i).before;
          puts = put_more u v;
          same =
              ap (λ r. r ++ waiting_cells cells count stack depth) (enter_cells cells count i p (omega arith) here ∙ cells_parts cells count p i low high)
              ∙ parts
              ∙ sym (ap (λ r. (cells_of (one_of q left_paren) ++ cells_of (signs_at cells count i).before) ++ r) waits);
          pairs = rw (e, t, b, enter_pairs cells count i p (omega arith) here, waits_pairs, pairs_parts cells count p i low high) (omega arith);
          less = rw (e, t, enter_work_lem cells count i p (omega arith) here, waits_work) (let w = work_parts cells count p i low high in omega arith);
          room = rw e (simp length-set);
        }
      where
        waits : waiting_cells cells count new_stack top ≡ later
        waits = rw (e, t) waits_cells

        parts : (cells_of (one_of q left_paren)
            ++ (cells_of (signs_at cells count i).before
            ++ (first_cells cells count p i low high ++ (cells_of (signs_at cells count i).between ++ (second_cells cells count p i low high ++ (cells_of (signs_at cells count i).behind ++ cells_of (closing q)))))))
            ++ waiting_cells cells count stack depth
            ≡ (cells_of (one_of q left_paren) ++ cells_of (signs_at cells count i).before) ++ later
        parts = simp append_assoc

-- ---- what a node leaves, as it is laid on the stack

kept_by : (pair flag : Bool) → flag && not pair ≡ kept pair flag
unfolding pick
kept_by true true = refl
kept_by true false = refl
kept_by false true = refl
kept_by false false = refl

module _ (cells : List ℕ) (count i p : ℕ) (pair : Bool) where
  pub wait_laid : (form detail : ℕ) → form ≡ cell_at cells i form_column → detail ≡ cell_at cells i detail_column → (opens condition : Bool) → opens ≡ (opens_in p && not pair) → condition ≡ (condition_in p && not pair)
      → (first second ahead behind last : ℕ) → first ≡ operand_at cells count i first_column → second ≡ operand_at cells count i second_column
      → ahead ≡ lookup (first_lines opens condition detail) 0 form → behind ≡ lookup (second_lines opens condition detail) 0 form → last ≡ pick pair last_task behind_task
      → (stack : List ℕ) (depth : ℕ) → laid stack depth (task_of i last) (task_of second behind) (task_of i between_task) (task_of first ahead) ≡ waiting cells count i p pair stack depth
  unfolding first_by second_by label_at
  wait_laid form detail f d opens condition o c first second ahead behind last e g a b l stack depth =
      rw (a, b, l, e, g, o, c, kept_by pair (opens_in p), kept_by pair (condition_in p), f, d)

-- ---- what is put when a node is entered

module _ (cells : List ℕ) (count i p : ℕ) (low : 1 ≤ i) (high : i ≤ count) where
  pub room_before : (at lent : ℕ) → at + length (cells_by cells count p i) ≤ lent
      → at + (length (cells_of (one_of (paired cells count p i low high) left_paren)) + length (cells_of (signs_at cells count i).before)) ≤ lent
  room_before at lent h = let e = ap length (cells_parts cells count p i low high) in let f = simp length-append at e in omega arith

  pub open_cells : (pair : Bool) → pair ≡ paired cells count p i low high → (few : Few) → few ≡ one_if pair (code left_paren) → (y : ℕ) → cells_with y (spelled few) ≡ cells_of (one_of (paired cells count p i low high) left_paren)
  unfolding symbol_on symbol_lines lookup pick
  open_cells pair e few f y = rw (f, e) (one_if_lem y (paired cells count p i low high) left_paren refl)

  pub four_free : (depth lent : ℕ) → depth + enter_work cells count i ≤ lent → 4 + depth ≤ lent
  four_free depth lent h = let w = work_parts cells count p i low high in let a = some_enter (operand_at cells count i first_column) in let b = some_enter (operand_at cells count i second_column) in omega arith
    where
      some_enter : (j : ℕ) → 1 ≤ enter_work cells count j
      some_enter j = enter_some cells count j

module _ (cells : List ℕ) (count i : ℕ) (y : ℕ) (symbol : y ≡ symbol_at cells i) (s : Signs) (spells : Spells (symbol_at cells i) s (signs_at cells count i)) where
  pub before_cells : cells_with y (spelled s.before) ≡ cells_of (signs_at cells count i).before
  before_cells = rw symbol spells.before

  pub between_cells : (what : ℕ) → what ≡ between_task → cells_with y (spelled s.between) ≡ sign_cells cells count what i
  between_cells what e = rw (symbol, e) (spells.between ∙ sym (sign_between cells count i))

  pub behind_cells : (what : ℕ) → (what ≡ between_task → ⊥) → (few : Few) → few ≡ one_if (eqb what last_task) (code right_paren) → sign_cells cells count what i ≡ cells_with y (spelled s.behind) ++ cells_with y (spelled few)
  unfolding sign_cells symbol_on symbol_lines lookup pick
  behind_cells what n few f =
      let b : cells_with y (spelled s.behind) ≡ cells_of (signs_at cells count i).behind = rw symbol spells.behind in
      let r : cells_with y (spelled few) ≡ cells_of (closing (eqb what last_task)) = rw f (one_if_lem y (eqb what last_task) right_paren refl) in
      pick_false _ _ (ne_eqb what between_task n) ∙ sym (ap₂ ◌++◌ b r)

-- ---- owners whose only own tokens stand between their operands

module _ (cells : List ℕ) (count i p : ℕ) (here : p < between_task) (low : 1 ≤ i) (high : i ≤ count) (fits : count < task_step) (ts : List Token) (own : signs_at cells count i ≡ signs [] ts []) (stack : List ℕ) (depth : ℕ) (room : depth + enter_work cells count i ≤ length stack) where
  abbrev pair : Bool
  pair = q cells count i p here low high fits

  abbrev one : ℕ
  one = first_task cells count i p here low high fits

  abbrev two : ℕ
  two = second_task cells count i p here low high fits

  abbrev fs : List ℕ
  fs = first_cells cells count p i low high

  abbrev ss : List ℕ
  ss = second_cells cells count p i low high

  amid_cells : task_cells cells count (task_of i p) ≡ cells_of (one_of pair left_paren) ++ (fs ++ (cells_of ts ++ (ss ++ cells_of (closing pair))))
  amid_cells = enter_cells cells count i p (omega arith) here ∙ cells_parts cells count p i low high ∙ rw own

  one_cells : task_cells cells count one ≡ fs
  one_cells = enter_cells cells count (operand_at cells count i first_column) _ (first_fits cells count i p here low high fits) (first_place cells count i p here low high fits)

  two_cells : task_cells cells count two ≡ ss
  two_cells = enter_cells cells count (operand_at cells count i second_column) _ (second_fits cells count i p here low high fits) (second_place cells count i p here low high fits)

  own_pairs : task_pairs cells count (task_of i p) ≡ bit_of pair + (task_pairs cells count one + task_pairs cells count two)
  own_pairs =
      enter_pairs cells count i p (omega arith) here
      ∙ pairs_parts cells count p i low high
      ∙ sym (rw (enter_pairs cells count (operand_at cells count i first_column) _ (first_fits cells count i p here low high fits) (first_place cells count i p here low high fits), enter_pairs cells count (operand_at cells count i second_column) _ (second_fits cells count i p here low high fits) (second_place cells count i p here low high fits)))

  own_work : task_work cells count (task_of i p) ≡ task_work cells count one + (task_work cells count two + 3)
  own_work =
      rw (enter_work_lem cells count i p (omega arith) here, enter_work_lem cells count (operand_at cells count i first_column) (first_from p pair (label_at cells i)) (first_fits cells count i p here low high fits) (first_place cells count i p here low high fits), enter_work_lem cells count (operand_at cells count i second_column) (second_from p pair (label_at cells i)) (second_fits cells count i p here low high fits) (second_place cells count i p here low high fits))
      (work_parts cells count p i low high)

  fourth : 4 + depth ≤ length stack
  fourth = four cells count i p here low high fits stack depth room

  -- one code between them
  module _ (c : ℕ) (code_is : cells_of ts ≡ c ∷ 0 ∷ []) (small : c < code_task) where
    abbrev amid : ℕ
    amid = task_of 0 (code_task + c)

    code_cells : task_cells cells count amid ≡ c ∷ 0 ∷ []
    code_cells = cells_of_sign cells count 0 (code_task + c) (omega arith) (omega arith) ∙ own_code cells count 0 (code_task + c) (omega arith) ∙ (let e : code_task + c - code_task ≡ c = omega arith in rw e)

    code_pairs : task_pairs cells count amid ≡ 0
    code_pairs = sign_pairs cells count 0 (code_task + c) (omega arith) (omega arith)

    code_work : task_work cells count amid ≡ 1
    code_work = sign_work cells count 0 (code_task + c) (omega arith) (omega arith)

    plain_cells : pair ≡ false → task_cells cells count (task_of i p) ≡ fs ++ ((c ∷ 0 ∷ []) ++ (ss ++ []))
    unfolding pick
    plain_cells unpaired = amid_cells ∙ rw (unpaired, code_is)

    pub turned_three : pair ≡ false → (new_stack : List ℕ) → new_stack ≡ laid_three stack depth two amid one → (top : ℕ) → top ≡ 3 + depth → (at : ℕ)
        → TurnedOnly cells count (task_of i p) stack depth at new_stack (record { depth = top; at = at; pairs = 0 })
    turned_three unpaired new_stack e top t at tokens =
        let cs : waiting_cells cells count new_stack top ≡ fs ++ ((c ∷ 0 ∷ []) ++ (ss ++ waiting_cells cells count stack depth)) = rw (e, t) (pile_three (λ task r. task_cells cells count task ++ r) [] stack depth two amid one (omega (arith, fourth)) ∙ rw (one_cells, code_cells, two_cells)) in
        let ps : waiting_pairs cells count new_stack top ≡ task_pairs cells count one + (task_pairs cells count amid + (task_pairs cells count two + waiting_pairs cells count stack depth)) = rw (e, t) (pile_three (λ task r. task_pairs cells count task + r) 0 stack depth two amid one (omega (arith, fourth))) in
        let ws : waiting_work cells count new_stack top ≡ task_work cells count one + (task_work cells count amid + (task_work cells count two + waiting_work cells count stack depth)) = rw (e, t) (pile_three (λ task r. task_work cells count task + r) 0 stack depth two amid one (omega (arith, fourth))) in
        let b : bit_of pair ≡ 0 = rw unpaired in
        record {
          first = [];
          puts = put_none tokens at;
          same = ap (λ r. r ++ waiting_cells cells count stack depth) (plain_cells unpaired) ∙ simp (append_assoc, append-nil) (sym cs);
          pairs = omega (arith, own_pairs, code_pairs);
          less = omega (arith, own_work, code_work);
          room = rw e (simp length-set);
        }

    -- with a pair round it
    module _ (after : List ℕ) (above : ℕ) (pushed : after ≡ set stack depth (task_of 0 (code_task + code right_paren))) (up : above ≡ 1 + depth) where
      close_cells : task_cells cells count (task_of 0 (code_task + code right_paren)) ≡ code right_paren ∷ 0 ∷ []
      close_cells = cells_of_sign cells count 0 (code_task + code right_paren) (omega arith) (omega arith) ∙ own_code cells count 0 (code_task + code right_paren) (omega arith)

      close_pairs : task_pairs cells count (task_of 0 (code_task + code right_paren)) ≡ 0
      close_pairs = sign_pairs cells count 0 (code_task + code right_paren) (omega arith) (omega arith)

      close_work : task_work cells count (task_of 0 (code_task + code right_paren)) ≡ 1
      close_work = sign_work cells count 0 (code_task + code right_paren) (omega arith) (omega arith)

      long : length after ≡ length stack
      long = rw pushed (simp length-set)

      paired_cells : pair ≡ true → task_cells cells count (task_of i p) ≡ (code left_paren ∷ 0 ∷ []) ++ (fs ++ ((c ∷ 0 ∷ []) ++ (ss ++ (code right_paren ∷ 0 ∷ []))))
      unfolding pick
      paired_cells doubled = amid_cells ∙ rw (doubled, code_is)

      pub turned_pair : pair ≡ true → (new_stack : List ℕ) → new_stack ≡ laid_three after above two amid one → (top : ℕ) → top ≡ 3 + above → (tokens last : List ℕ) (at next : ℕ) → Put tokens at (code left_paren ∷ 0 ∷ []) last next
          → Turned cells count (task_of i p) stack depth tokens at new_stack last (record { depth = top; at = next; pairs = 1 })
      turned_pair doubled new_stack e top t tokens last at next put =
          let close = task_of 0 (code_task + code right_paren) in
          let z : depth < length stack = omega (arith, fourth) in
          let cs : waiting_cells cells count new_stack top ≡ fs ++ ((c ∷ 0 ∷ []) ++ (ss ++ ((code right_paren ∷ 0 ∷ []) ++ waiting_cells cells count stack depth))) = rw (e, t) (pile_three (λ task r. task_cells cells count task ++ r) [] after above two amid one (omega (arith, fourth, long)) ∙ rw (one_cells, code_cells, two_cells, pushed, pile_push (λ task r. task_cells cells count task ++ r) [] stack depth close above z (omega arith), close_cells)) in
          let ps : waiting_pairs cells count new_stack top ≡ task_pairs cells count one + (task_pairs cells count amid + (task_pairs cells count two + (task_pairs cells count close + waiting_pairs cells count stack depth))) = rw (e, t) (pile_three (λ task r. task_pairs cells count task + r) 0 after above two amid one (omega (arith, fourth, long)) ∙ rw (pushed, pile_push (λ task r. task_pairs cells count task + r) 0 stack depth close above z (omega arith))) in
          let ws : waiting_work cells count new_stack top ≡ task_work cells count one + (task_work cells count amid + (task_work cells count two + (task_work cells count close + waiting_work cells count stack depth))) = rw (e, t) (pile_three (λ task r. task_work cells count task + r) 0 after above two amid one (omega (arith, fourth, long)) ∙ rw (pushed, pile_push (λ task r. task_work cells count task + r) 0 stack depth close above z (omega arith))) in
          let b : bit_of pair ≡ 1 = rw doubled in
          record {
            first = code left_paren ∷ 0 ∷ [];
            puts = put;
            same = ap (λ r. r ++ waiting_cells cells count stack depth) (paired_cells doubled) ∙ simp append_assoc (sym (ap (λ r. (code left_paren ∷ 0 ∷ []) ++ r) cs));
            pairs = omega (arith, own_pairs, code_pairs, close_pairs);
            less = omega (arith, own_work, code_work, close_work);
            room = rw e (simp length-set long);
          }

  -- nothing between them, and no second
  pub turned_one : cells_of ts ≡ [] → pair ≡ false → tree_at cells count (operand_at cells count i second_column) ≡ none → (new_stack : List ℕ) → new_stack ≡ set stack depth one → (top : ℕ) → top ≡ 1 + depth → (at : ℕ)
      → TurnedOnly cells count (task_of i p) stack depth at new_stack (record { depth = top; at = at; pairs = 0 })
  turned_one nothing unpaired absent new_stack e top t at tokens =
      let z : depth < length stack = omega (arith, fourth) in
      let cs : waiting_cells cells count new_stack top ≡ fs ++ waiting_cells cells count stack depth = rw e (pile_push (λ task r. task_cells cells count task ++ r) [] stack depth one top z (omega arith) ∙ rw one_cells) in
      let ps : waiting_pairs cells count new_stack top ≡ task_pairs cells count one + waiting_pairs cells count stack depth = rw e (pile_push (λ task r. task_pairs cells count task + r) 0 stack depth one top z (omega arith)) in
      let ws : waiting_work cells count new_stack top ≡ task_work cells count one + waiting_work cells count stack depth = rw e (pile_push (λ task r. task_work cells count task + r) 0 stack depth one top z (omega arith)) in
      let b : bit_of pair ≡ 0 = rw unpaired in
      let empty = cells_none cells count (second_from p pair (label_at cells i)) (operand_at cells count i second_column) absent in
      let free = enter_pairs cells count (operand_at cells count i second_column) (second_from p pair (label_at cells i)) (second_fits cells count i p here low high fits) (second_place cells count i p here low high fits) ∙ pairs_none cells count (second_from p pair (label_at cells i)) (operand_at cells count i second_column) absent in
      record {
        first = [];
        puts = put_none tokens at;
        same = ap (λ r. r ++ waiting_cells cells count stack depth) (alone_cells nothing unpaired empty) ∙ simp append-nil (sym cs);
        pairs = omega (arith, own_pairs);
        less = omega (arith, own_work);
        room = rw e (simp length-set);
      }
    where
      alone_cells : cells_of ts ≡ [] → pair ≡ false → ss ≡ [] → task_cells cells count (task_of i p) ≡ fs ++ []
      alone_cells n o s = amid_cells ∙ rw (s, n, o) (rw (pick_false {b = false} (left_paren ∷ []) [] refl, pick_false {b = false} (right_paren ∷ []) [] refl))
