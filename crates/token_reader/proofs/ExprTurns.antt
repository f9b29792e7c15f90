-- What waits for an expression in the reader's own table, and that each turn of the reader of expressions brings it on: in the end the expression is what the parser gives. Assumes nothing.
use mathlib.Core.Path.{◌≡◌, refl, sym, subst, ap, ◌∙◌}
use mathlib.Core.Bool.{Bool, true, false}
use mathlib.Core.List.{List, [], ◌∷◌}
use Prim.Native.Nat.{ℕ, ◌+◌, ◌*◌, ◌-◌, ◌≤◌, ◌<◌}
use native.Mathlib.Omega.{arith}
use lib.Dec.{eqb}
use lib.ListN.{length}
use Rattle.bools.specs.Bits.{bit_of}
use Rattle.tree.specs.Sizes.{node_cells, list_end}
use Rattle.tree.specs.Forms.{expr_index}
use Rattle.token_grammar.specs.Tokens.{right_paren, left_bracket, right_bracket, comma_token, code}
use Rattle.token_grammar.specs.Codes.{code_at, token_symbol_at}
use Rattle.token_grammar.specs.Levels.{prefixes, level}
use Rattle.token_grammar.specs.Bounds.{past_operators, loosest}
use Rattle.token_grammar.specs.Expressions.{Prefix}
use Rattle.token_grammar.specs.Grammar.{Context, NONE}
use Rattle.token_grammar.specs.Parser.{Out, fail, ok, tail, a_prefix, a_group, start_by, next}
use Rattle.token_plain.specs.Trees.{label, prefix_label}
use Rattle.token_reader.specs.declared.piece.Piece.{Piece}
use Rattle.token_reader.specs.declared.piece.Parsed.{Parsed}
use Rattle.token_reader.specs.declared.piece.Reading.{Reading}
use Rattle.token_reader.specs.Tables.{past_comma, level_of, after_of, goes_on_with, operator_form, operator_detail}
use Rattle.token_reader.specs.Pieces.{many, stands_in, Kept, Stored, Ready, Tells, from, IsExpr, step_by, Postfix, ExprAt, ArgumentsAt, OperandAt, StepAt}
use Rattle.token_reader.specs.Kinds.{WANTED, READ, LISTED, ENDED, mode_number, PREFIX, GROUP, BINARY, INDEX, CALL, METHOD, ARGUMENT}
use Rattle.token_reader.specs.declared.piece.Mode.TheVariants as mode
use Rattle.token_reader.specs.Waiting.{what_at, one_at, two_at, least_at, place_at, Laid, Stays}
use Rattle.token_reader.specs.Turns.{IsCall, a_call, a_method, call_form, Turnable, begins, pop_to, Lost, Wanted, absent, whole, prefixed, grouped, Calling, Stepped, lost, step, operates, indexes, calls, top_at, one_on, two_on, IsItem, Took, ungrouped, operated, indexed, unindexed, last, another, unclosed, Gone, on, all, part, Listed, more, called, Turned, wanting, going, listing}
use Rattle.token_reader.proofs.First.{there, past_tokens}
use Rattle.token_reader.proofs.Lists.{closed_past, comma_there, passed_none}
use Rattle.token_reader.proofs.Tables.{after_least}
use Rattle.token_reader.proofs.Tells.{ready_on, ready_grew}
use Rattle.token_reader.proofs.ExprEnds.{operand_prefixed, operand_group, goes_inside, prefixed_none, prefixed_stored, group_none, group_closed, Under, under_start, under_ready, under_there, under_step, under_end, step_binary, step_index, binary_none, binary_stored, index_none, index_stored, call_none, call_stored, arguments_last, arguments_none, arguments_more_none, arguments_more}

-- what waits, with the table, the place and the free nodes at which its expression began, the lowest level and the place it had, and what was read of it
pub record Begin : Type 0 where
  pub own : List ℕ
  pub at : ℕ
  pub free : ℕ
  pub least : ℕ
  pub condition : Bool

-- what was read of it: what it begins with, with the table then, and all up to now
pub record Read : Type 0 where
  pub mid : List ℕ
  pub first : Parsed
  pub now : List ℕ
  pub left : Parsed

pub data Waiter : Type 0 where
  prefix : (b : Begin) (form detail : ℕ) → Waiter
  group : (b : Begin) → Waiter
  binary : (b : Begin) (d : Read) (code : ℕ) → Waiter
  index : (b : Begin) (d : Read) → Waiter
  call : (b : Begin) (d : Read) (to what symbol : ℕ) → Waiter
  argument : (b : Begin) (mid : List ℕ) (first : Parsed) → Waiter

abbrev what_of : Waiter → ℕ
what_of (prefix b form detail) = PREFIX
what_of (group b) = GROUP
what_of (binary b d code) = BINARY
what_of (index b d) = INDEX
what_of (call b d to what symbol) = what
what_of (argument b mid first) = ARGUMENT

abbrev one_of : Waiter → ℕ
one_of (prefix b form detail) = form
one_of (group b) = 0
one_of (binary b d code) = d.left.free + 1
one_of (index b d) = d.left.free + 1
one_of (call b d to what symbol) = d.left.free + 1
one_of (argument b mid first) = first.free + 1

abbrev two_of : Waiter → ℕ
two_of (prefix b form detail) = detail
two_of (group b) = 0
two_of (binary b d code) = code
two_of (index b d) = 0
two_of (call b d to what symbol) = symbol
two_of (argument b mid first) = 0

abbrev begin_of : Waiter → Begin
begin_of (prefix b form detail) = b
begin_of (group b) = b
begin_of (binary b d code) = b
begin_of (index b d) = b
begin_of (call b d to what symbol) = b
begin_of (argument b mid first) = b

-- what wants a list
abbrev IsList : List Waiter → Type 0
IsList [] = ⊥
IsList (prefix b form detail ∷ ws) = ⊥
IsList (group b ∷ ws) = ⊥
IsList (binary b d code ∷ ws) = ⊥
IsList (index b d ∷ ws) = ⊥
IsList (call b d to what symbol ∷ ws) = Unit {0}
IsList (argument b mid first ∷ ws) = Unit {0}

-- ---- the table as it is now: nothing but its free nodes is another
abbrev Alike : List ℕ → List ℕ → ℕ → Type 0
Alike own now free = Kept own now free × (length now ≡ length own)

module _ (tokens own₀ : List ℕ) (at₀ free₀ least₀ : ℕ) (condition₀ : Bool) where
  -- where it began to be read there was room for all
  abbrev Begun : List Waiter → Begin → Type 0
  Begun ws b = Ready tokens b.own b.at b.free × (length ws + many tokens ≤ b.at + b.free) × (1 ≤ b.least)

  -- what was read of it, and it goes on
  pub record Going (b : Begin) (d : Read) : Type 0 where
    pub operand : OperandAt (stands_in b.condition) tokens b.own d.mid b.at b.free d.first
    pub under : Under (stands_in b.condition) tokens d.mid d.now b.least d.first d.left
    pub goes : goes_on_with b.least d.left.level d.left.named d.left.dotted (code_at tokens d.left.at) ≡ true
    pub inside : d.left.at < many tokens

  abbrev begin_at : List ℕ → ℕ → ℕ → ℕ → Bool → Begin
  begin_at own at free least condition = record { own = own; at = at; free = free; least = least; condition = condition }

  -- for which expression it waits
  abbrev Waits : List Waiter → Begin → Type 0
  Waits [] x = (x.own ≡ own₀) × (x.at ≡ at₀) × (x.free ≡ free₀) × (x.least ≡ least₀) × (x.condition ≡ condition₀)
  Waits (prefix b form detail ∷ ws) x =
      Waits ws b × Begun ws b × ((p : Prefix) × (start_by (code_at tokens b.at) (token_symbol_at tokens b.at) ≡ a_prefix p) × (label form detail ≡ prefix_label p))
      × Alike b.own x.own b.free × (x.at ≡ b.at + 1) × (x.free ≡ b.free) × (x.least ≡ level prefixes) × (x.condition ≡ b.condition)
  Waits (group b ∷ ws) x =
      Waits ws b × Begun ws b × (start_by (code_at tokens b.at) (token_symbol_at tokens b.at) ≡ a_group)
      × Alike b.own x.own b.free × (x.at ≡ b.at + 1) × (x.free ≡ b.free) × (x.least ≡ loosest) × (x.condition ≡ false)
  Waits (binary b d n ∷ ws) x =
      Waits ws b × Begun ws b × Going b d × (code_at tokens d.left.at ≡ n) × (n < past_operators)
      × Alike d.now x.own d.left.free × (x.at ≡ d.left.at + 1) × (x.free ≡ d.left.free) × (x.least ≡ after_of (level_of n)) × (x.condition ≡ b.condition)
  Waits (index b d ∷ ws) x =
      Waits ws b × Begun ws b × Going b d × (code_at tokens d.left.at ≡ code left_bracket)
      × Alike d.now x.own d.left.free × (x.at ≡ d.left.at + 1) × (x.free ≡ d.left.free) × (x.least ≡ loosest) × (x.condition ≡ false)
  Waits (call b d to what symbol ∷ ws) x =
      Waits ws b × Begun ws b × Going b d × IsCall what
      × Calling tokens (stands_in b.condition) d.left to (call_form what) symbol × (code_at tokens (to + 1) ≡ code right_paren → ⊥)
      × Alike d.now x.own d.left.free × (x.at ≡ to + 1) × (x.free ≡ d.left.free) × (x.least ≡ loosest) × (x.condition ≡ false)
  Waits (argument b mid first ∷ ws) x =
      Waits ws b × Begun ws b × IsList ws × (b.least ≡ loosest) × (b.condition ≡ false) × ExprAt (stands_in false) tokens b.own mid b.at b.free loosest first
      × (code_at tokens (past_comma tokens first.at (code right_paren)) ≡ code right_paren → ⊥) × (code_at tokens (past_comma tokens first.at (code right_paren)) ≡ code comma_token)
      × Alike mid x.own first.free × (x.at ≡ first.at + 1) × (x.free ≡ first.free) × (x.least ≡ loosest) × (x.condition ≡ false)

  abbrev Held : List Waiter → List ℕ → Type 0
  Held [] own = Unit {0}
  Held (w ∷ ws) own =
      (what_at own (length ws) ≡ what_of w) × (one_at own (length ws) ≡ one_of w) × (two_at own (length ws) ≡ two_of w)
      × (least_at own (length ws) ≡ (begin_of w).least) × (place_at own (length ws) ≡ bit_of (begin_of w).condition) × Held ws own

  held_stays : (own now : List ℕ) (ws : List Waiter) → Stays own now (length ws) → Held ws own → Held ws now
  held_stays own now [] s h = tt
  held_stays own now (w ∷ ws) s h = (
    s (node_cells * length ws) (omega arith) ∙ h.0,
    s (node_cells * length ws + 1) (omega arith) ∙ h.1,
    s (node_cells * length ws + 2) (omega arith) ∙ h.2,
    s (node_cells * length ws + 3) (omega arith) ∙ h.3,
    s (node_cells * length ws + 4) (omega arith) ∙ h.4,
    held_stays own now ws (λ j q. s j (omega arith)) h.5,
  )

  -- ---- what is there for another table that is alike

  expr_alike : {c : Context} {own mid now : List ℕ} {at free least : ℕ} {r : Parsed} → Alike own mid free → ExprAt c tokens mid now at free least r → ExprAt c tokens own now at free least r
  expr_alike k t =
      record {
        grew = λ q. let g = t.grew q in record { upto = g.upto; room = g.room; less = g.less; kept = λ j h. g.kept j h ∙ k.0 j h; same = g.same ∙ k.1 };
        tells = t.tells;
      }

  arguments_alike : {own mid now : List ℕ} {at free : ℕ} {r : Piece} → Alike own mid free → ArgumentsAt tokens mid now at free r → ArgumentsAt tokens own now at free r
  arguments_alike k t =
      record {
        grew = λ q. let g = t.grew q in record { upto = g.upto; room = g.room; less = g.less; kept = λ j h. g.kept j h ∙ k.0 j h; same = g.same ∙ k.1 };
        tells = t.tells;
      }

  ready_alike : {own now : List ℕ} {at free : ℕ} → Alike own now free → Ready tokens own at free → Ready tokens now at free
  ready_alike k r = record { short = r.short; known = r.known; cells = omega (arith, r.cells, k.1); room = r.room; most = r.most; within = r.within }

  laid_alike : {own now : List ℕ} {depth what one two least place free : ℕ} → depth < free → Laid own now depth what one two least place → Alike own now free
  laid_alike h l = (λ j q. l.behind j (omega arith), l.same)

  -- ---- what was read of one that waits

  going_ready : (b : Begin) (d : Read) → Ready tokens b.own b.at b.free → Going b d → Ready tokens d.now d.left.at d.left.free
  going_ready b d r g = under_ready r d.first d.left g.operand g.under (let h = g.inside in omega arith)

  -- a form that follows ends the expression where nothing is behind it
  step_ends : (b : Begin) (d : Read) {now : List ℕ} (r : Parsed) → Ready tokens b.own b.at b.free → 1 ≤ b.least → Going b d → StepAt (stands_in b.condition) tokens d.now now d.left r →
      goes_on_with b.least r.level r.named r.dotted (code_at tokens r.at) ≡ false → ExprAt (stands_in b.condition) tokens b.own now b.at b.free b.least r
  step_ends b d r rd l g s n =
      under_end rd d.first r g.operand (under_step rd d.first d.left g.operand g.under r l g.goes (let h = g.inside in omega arith) s) n

  -- and what it begins with
  operand_ends : (b : Begin) {now : List ℕ} (r : Parsed) → Ready tokens b.own b.at b.free → OperandAt (stands_in b.condition) tokens b.own now b.at b.free r →
      goes_on_with b.least r.level r.named r.dotted (code_at tokens r.at) ≡ false → ExprAt (stands_in b.condition) tokens b.own now b.at b.free b.least r
  operand_ends b {now} r rd i n = under_end rd r r i (under_start (stands_in b.condition) tokens now b.least r) n

  -- nothing goes on past the end
  past_stops : (least : ℕ) (r : Parsed) → 1 ≤ least → r.at ≡ many tokens + 1 → goes_on_with least r.level r.named r.dotted (code_at tokens r.at) ≡ false
  past_stops least r h z = go (goes_on_with least r.level r.named r.dotted (code_at tokens r.at)) refl
    where
      go : (b : Bool) → goes_on_with least r.level r.named r.dotted (code_at tokens r.at) ≡ b → b ≡ false
      go false e = refl
      go true e = let i = goes_inside tokens r.at least r.level r.named r.dotted h e in absurd (omega arith)

  -- ---- where there is no expression, or no list, there is none for what waits

  -- a place past the end has no sign
  past_sign : (at n : ℕ) → at ≡ many tokens + 1 → n < list_end → code_at tokens at ≡ n → ⊥
  past_sign at n z h e = let p = past_tokens tokens at (omega arith) in omega (arith, p, e)

  abbrev no_piece : Parsed → Piece
  no_piece r = record { at = r.at; free = r.free; named = false }

  -- a list whose first item is not there
  first_none : {own now : List ℕ} {at free : ℕ} (r : Parsed) → Ready tokens own at free → r.at ≡ many tokens + 1 → ExprAt NONE tokens own now at free loosest r → ArgumentsAt tokens own now at free (no_piece r)
  first_none r rd z t =
      let p = passed_none tokens r.at (code right_paren) (past_sign r.at (code comma_token) z (omega arith)) in
      arguments_none rd r t refl (λ q. past_sign r.at (code right_paren) z (omega arith) (sym (ap (code_at tokens) p) ∙ q)) (λ q. past_sign r.at (code comma_token) z (omega arith) (sym (ap (code_at tokens) p) ∙ q)) z

  prefix_lost : (ws : List Waiter) (b x : Begin) (form detail : ℕ) {now : List ℕ} (r : Parsed) → Waits (prefix b form detail ∷ ws) x → r.at ≡ many tokens + 1 → ExprAt (stands_in x.condition) tokens x.own now x.at x.free x.least r →
      ExprAt (stands_in b.condition) tokens b.own now b.at b.free b.least r
  prefix_lost ws b x form detail r w z t =
      operand_ends b r w.1.0 (operand_prefixed w.1.0 w.2.0 w.2.1 w.2.2 (prefixed_none w.1.0 (omega arith) (expr_alike w.3 (rw (w.4, w.5, w.6, w.7) at t)))) (past_stops b.least r w.1.2 z)

  group_lost : (ws : List Waiter) (b x : Begin) {now : List ℕ} (r : Parsed) → Waits (group b ∷ ws) x → r.at ≡ many tokens + 1 → ExprAt (stands_in x.condition) tokens x.own now x.at x.free x.least r →
      ExprAt (stands_in b.condition) tokens b.own now b.at b.free b.least r
  group_lost ws b x r w z t =
      operand_ends b r w.1.0 (operand_group w.1.0 w.2 (group_none w.1.0 r (past_sign r.at (code right_paren) z (omega arith)) (expr_alike w.3 (rw (w.4, w.5, w.6, w.7) at t)) z)) (past_stops b.least r w.1.2 z)

  binary_lost : (ws : List Waiter) (b x : Begin) (d : Read) (n : ℕ) {now : List ℕ} (r : Parsed) → Waits (binary b d n ∷ ws) x → r.at ≡ many tokens + 1 → ExprAt (stands_in x.condition) tokens x.own now x.at x.free x.least r →
      ExprAt (stands_in b.condition) tokens b.own now b.at b.free b.least r
  binary_lost ws b x d n r w z t =
      let rd = going_ready b d w.1.0 w.2 in
      step_ends b d r w.1.0 w.1.2 w.2 (step_binary d.left rd n w.4 w.3 (binary_none d.left rd w.4 (omega arith) (expr_alike w.5 (rw (w.6, w.7, w.8, w.9) at t)))) (past_stops b.least r w.1.2 z)

  index_lost : (ws : List Waiter) (b x : Begin) (d : Read) {now : List ℕ} (r : Parsed) → Waits (index b d ∷ ws) x → r.at ≡ many tokens + 1 → ExprAt (stands_in x.condition) tokens x.own now x.at x.free x.least r →
      ExprAt (stands_in b.condition) tokens b.own now b.at b.free b.least r
  index_lost ws b x d r w z t =
      let rd = going_ready b d w.1.0 w.2 in
      step_ends b d r w.1.0 w.1.2 w.2 (step_index d.left rd w.3 (index_none d.left rd r (past_sign r.at (code right_bracket) z (omega arith)) (expr_alike w.4 (rw (w.5, w.6, w.7, w.8) at t)) z)) (past_stops b.least r w.1.2 z)

  call_lost : (ws : List Waiter) (b x : Begin) (d : Read) (to what symbol : ℕ) {now : List ℕ} (r : Parsed) → Waits (call b d to what symbol ∷ ws) x → r.at ≡ many tokens + 1 → ArgumentsAt tokens x.own now x.at x.free (no_piece r) →
      ExprAt (stands_in b.condition) tokens b.own now b.at b.free b.least r
  call_lost ws b x d to what symbol r w z t =
      let rd = going_ready b d w.1.0 w.2 in
      let k = w.4.inside in
      step_ends b d r w.1.0 w.1.2 w.2 (w.4.steps d.now _ r rd (call_none (ready_on to w.4.from (omega arith) rd) w.4.inside w.5 (omega arith) (arguments_alike w.6 (rw (w.7, w.8) at t)) z)) (past_stops b.least r w.1.2 z)

  argument_lost : (ws : List Waiter) (b x : Begin) (mid : List ℕ) (first : Parsed) {now : List ℕ} (r : Parsed) → Waits (argument b mid first ∷ ws) x → r.at ≡ many tokens + 1 → ArgumentsAt tokens x.own now x.at x.free (no_piece r) →
      ArgumentsAt tokens b.own now b.at b.free (no_piece r)
  argument_lost ws b x mid first r w z t = arguments_more_none w.1.0 first w.5 refl w.6 w.7 (omega arith) (arguments_alike w.8 (rw (w.9, w.10) at t))

  mutual
    no_expr : (ws : List Waiter) (x : Begin) {now : List ℕ} (r : Parsed) → Waits ws x → Ready tokens x.own x.at x.free → r.at ≡ many tokens + 1 → ExprAt (stands_in x.condition) tokens x.own now x.at x.free x.least r →
        ExprAt (stands_in condition₀) tokens own₀ now at₀ free₀ least₀ r
    no_expr [] x r w rd z t = rw (w.0, w.1, w.2, w.3, w.4) at t
    no_expr (prefix b form detail ∷ ws) x r w rd z t = no_expr ws b r w.0 w.1.0 z (prefix_lost ws b x form detail r w z t)
    no_expr (group b ∷ ws) x r w rd z t = no_expr ws b r w.0 w.1.0 z (group_lost ws b x r w z t)
    no_expr (binary b d n ∷ ws) x r w rd z t = no_expr ws b r w.0 w.1.0 z (binary_lost ws b x d n r w z t)
    no_expr (index b d ∷ ws) x r w rd z t = no_expr ws b r w.0 w.1.0 z (index_lost ws b x d r w z t)
    no_expr (call b d to what symbol ∷ ws) x r w rd z t = no_expr ws b r w.0 w.1.0 z (call_lost ws b x d to what symbol r w z (first_none r rd z (rw (w.9, w.10) at t)))
    no_expr (argument b mid first ∷ ws) x r w rd z t = no_list ws b r w.0 w.2 z (argument_lost ws b x mid first r w z (first_none r rd z (rw (w.11, w.12) at t)))

    no_list : (ws : List Waiter) (x : Begin) {now : List ℕ} (r : Parsed) → Waits ws x → IsList ws → r.at ≡ many tokens + 1 → ArgumentsAt tokens x.own now x.at x.free (no_piece r) → ExprAt (stands_in condition₀) tokens own₀ now at₀ free₀ least₀ r
    no_list [] x r w i z t = absurd i
    no_list (prefix b form detail ∷ ws) x r w i z t = absurd i
    no_list (group b ∷ ws) x r w i z t = absurd i
    no_list (binary b d n ∷ ws) x r w i z t = absurd i
    no_list (index b d ∷ ws) x r w i z t = absurd i
    no_list (call b d to what symbol ∷ ws) x r w i z t = no_expr ws b r w.0 w.1.0 z (call_lost ws b x d to what symbol r w z t)
    no_list (argument b mid first ∷ ws) x r w i z t = no_list ws b r w.0 w.2 z (argument_lost ws b x mid first r w z t)

  -- ---- what is known between turns

  abbrev begin_on : List ℕ → Reading → Begin
  begin_on own s = begin_at own s.left.at s.left.free s.least s.condition

  -- what was read of an expression up to now
  pub record Reads (b : Begin) (own : List ℕ) (left : Parsed) : Type 0 where
    pub mid : List ℕ
    pub first : Parsed
    pub operand : OperandAt (stands_in b.condition) tokens b.own mid b.at b.free first
    pub under : Under (stands_in b.condition) tokens mid own b.least first left

  pub data On (own : List ℕ) (s : Reading) : Type 0 where
    wanted : (ws : List Waiter) → length ws ≡ s.depth → Held ws own → Waits ws (begin_on own s) → Begun ws (begin_on own s) → mode_number s.mode ≡ WANTED → On own s
    read : (ws : List Waiter) (b : Begin) → length ws ≡ s.depth → Held ws own → Waits ws b → Begun ws b → b.least ≡ s.least → b.condition ≡ s.condition → Reads b own s.left → s.left.at ≤ many tokens → mode_number s.mode ≡ READ → On own s
    listed : (ws : List Waiter) (b : Begin) → length ws ≡ s.depth → Held ws own → Waits ws b → Begun ws b → IsList ws → ArgumentsAt tokens b.own own b.at b.free (no_piece s.left) → s.left.at ≤ many tokens → mode_number s.mode ≡ LISTED → On own s
    ended : ExprAt (stands_in condition₀) tokens own₀ own at₀ free₀ least₀ s.left → mode_number s.mode ≡ ENDED → On own s

  pub on_start : (s : Reading) → Ready tokens own₀ at₀ free₀ → 1 ≤ least₀ → s ≡ record { left = begins at₀ free₀; depth = 0; mode = mode.Wanted; least = least₀; condition = condition₀ } → On own₀ s
  on_start s rd l e = rw e (wanted [] refl tt (refl, refl, refl, refl, refl) (rd, omega (arith, rd.room), l) refl)

  pub on_end : {own : List ℕ} {s : Reading} → On own s → mode_number s.mode ≡ ENDED → ExprAt (stands_in condition₀) tokens own₀ own at₀ free₀ least₀ s.left
  on_end (wanted ws l h w b m) e = absurd (omega arith)
  on_end (read ws b l h w bg el ec rd k m) e = absurd (omega arith)
  on_end (listed ws b l h w bg i t k m) e = absurd (omega arith)
  on_end (ended t m) e = t

  lists_wait : (ws : List Waiter) → IsList ws → 1 ≤ length ws
  lists_wait [] i = absurd i
  lists_wait (w ∷ ws) i = omega arith

  reads_ready : (b : Begin) {own : List ℕ} {left : Parsed} → Ready tokens b.own b.at b.free → Reads b own left → left.at ≤ many tokens → Ready tokens own left.at left.free × (b.at + b.free ≤ left.at + left.free)
  reads_ready b {own} {left} rd d k =
      let f = under_there rd d.first left d.operand d.under k in
      (under_ready rd d.first left d.operand d.under k, omega (arith, (d.operand.grew f).room, (d.under.grew f k).room))

  pub on_turnable : {own : List ℕ} {s : Reading} → On own s → (mode_number s.mode ≡ ENDED → ⊥) → Turnable tokens own s
  on_turnable (wanted ws l h w b m) n = record { able = record { ready = b.0; deep = omega (arith, b.1) }; least = λ q. b.2; listed = λ p q. absurd (p m) }
  on_turnable {own} {s} (read ws b l h w bg el ec d k m) n =
      let r = reads_ready b bg.0 d k in
      record { able = record { ready = r.0; deep = omega (arith, bg.1, r.1) }; least = λ q. omega (arith, bg.2); listed = λ p q. absurd (q m) }
  on_turnable {own} {s} (listed ws b l h w bg i t k m) n =
      let g = t.grew k in
      record { able = record { ready = ready_grew s.left.at (omega arith) k bg.0 g; deep = omega (arith, bg.1, g.room) }; least = λ q. absurd (q m); listed = λ p q. let j = lists_wait ws i in omega arith }
  on_turnable (ended t m) n = absurd (n m)

  -- ---- one more waits

  laid_held : (own now : List ℕ) (ws : List Waiter) (w : Waiter) {depth : ℕ} → length ws ≡ depth → Laid own now depth (what_of w) (one_of w) (two_of w) (begin_of w).least (bit_of (begin_of w).condition) → Held ws own → Held (w ∷ ws) now
  laid_held own now ws w l la h =
      let a = subst (λ n. Laid own now n (what_of w) (one_of w) (two_of w) (begin_of w).least (bit_of (begin_of w).condition)) (sym l) la in
      (a.what_is, a.one_is, a.two_is, a.least_is, a.place_is, held_stays own now ws a.before h)

  begun_on : (own now : List ℕ) (ws : List Waiter) (w : Waiter) {at free : ℕ} (to least : ℕ) (c : Bool) → at < to → to ≤ many tokens → 1 ≤ least → Alike own now free → Ready tokens own at free → length ws + many tokens ≤ at + free → Begun (w ∷ ws) (begin_at now to free least c)
  begun_on own now ws w to least c h k l a rd d = (ready_on to (omega arith) k (ready_alike a rd), omega arith, l)

  -- ---- a node is stored

  stored_held : (own now : List ℕ) (ws : List Waiter) {free left form detail first second symbol : ℕ} → length ws ≤ left → Stored own now free left form detail first second symbol → Held ws own → Held ws now
  stored_held own now ws k st h = held_stays own now ws (λ j q. st.below j (omega arith)) h

  bit_back : (b : Bool) → eqb (bit_of b) 1 ≡ b
  bit_back true = refl
  bit_back false = refl

  call_not : {what n : ℕ} → IsCall what → what ≡ n → (n ≡ CALL → ⊥) → (n ≡ METHOD → ⊥) → ⊥
  call_not (a_call e) q c m = c (sym q ∙ e)
  call_not (a_method e) q c m = m (sym q ∙ e)

  -- what wants a list wants what is not in a condition
  list_loose : (ws : List Waiter) (x : Begin) → IsList ws → Waits ws x → (x.least ≡ loosest) × (x.condition ≡ false)
  list_loose [] x i w = absurd i
  list_loose (prefix b form detail ∷ ws) x i w = absurd i
  list_loose (group b ∷ ws) x i w = absurd i
  list_loose (binary b d n ∷ ws) x i w = absurd i
  list_loose (index b d ∷ ws) x i w = absurd i
  list_loose (call b d to what symbol ∷ ws) x i w = (w.9, w.10)
  list_loose (argument b mid first ∷ ws) x i w = (w.11, w.12)

  -- whether a list is wanted is told by what waits
  is_list : (own : List ℕ) (ws : List Waiter) {depth : ℕ} → length ws ≡ depth → 1 ≤ depth → Held ws own → IsItem (what_at own (depth - 1)) → IsList ws
  is_list own [] l i h n = absurd (omega arith)
  is_list own (prefix b form detail ∷ ws) {depth} l i h n = let e : length ws ≡ depth - 1 = omega arith in absurd (n.0 (rw e at h.0))
  is_list own (group b ∷ ws) {depth} l i h n = let e : length ws ≡ depth - 1 = omega arith in absurd (n.1 (rw e at h.0))
  is_list own (binary b d m ∷ ws) {depth} l i h n = let e : length ws ≡ depth - 1 = omega arith in absurd (n.2 (rw e at h.0))
  is_list own (index b d ∷ ws) {depth} l i h n = let e : length ws ≡ depth - 1 = omega arith in absurd (n.3 (rw e at h.0))
  is_list own (call b d to what symbol ∷ ws) l i h n = tt
  is_list own (argument b mid first ∷ ws) l i h n = tt

  -- what was read of an expression up to now, for one that waits
  abbrev read_of : (b : Begin) (own : List ℕ) (s : Reading) → Reads b own s.left → Read
  read_of b own s d = record { mid = d.mid; first = d.first; now = own; left = s.left }

  going_on : (b : Begin) (own : List ℕ) (s : Reading) (d : Reads b own s.left) → b.least ≡ s.least → 1 ≤ b.least → goes_on_with s.least s.left.level s.left.named s.left.dotted (code_at tokens s.left.at) ≡ true → Going b (read_of b own s d)
  going_on b own s d el bl g =
      record {
        operand = d.operand;
        under = d.under;
        goes = subst (λ n. goes_on_with n s.left.level s.left.named s.left.dotted (code_at tokens s.left.at) ≡ true) (sym el) g;
        inside = goes_inside tokens s.left.at s.least s.left.level s.left.named s.left.dotted (omega arith) g;
      }

  waiting_of : {own now : List ℕ} {depth what one two least least₂ : ℕ} {c c₂ : Bool} → least₂ ≡ least → c₂ ≡ c → Laid own now depth what one two least (bit_of c) → Laid own now depth what one two least₂ (bit_of c₂)
  waiting_of e f la = rw (e, f) la

  step_of : {own now : List ℕ} {c c₂ : Bool} {left r : Parsed} → c₂ ≡ c → StepAt (stands_in c) tokens own now left r → StepAt (stands_in c₂) tokens own now left r
  step_of f t = rw f t

  -- the lowest level and the place of what waits
  pops : (own : List ℕ) (s : Reading) (ws : List Waiter) (v : Waiter) → s.depth - 1 ≡ length ws → Held (v ∷ ws) own → ((begin_of v).least ≡ least_at own (s.depth - 1)) × ((begin_of v).condition ≡ eqb (place_at own (s.depth - 1)) 1)
  pops own s ws v e h = (rw e (sym h.3), rw e (sym (ap (λ n. eqb n 1) h.4 ∙ bit_back (begin_of v).condition)))

  -- what nothing waits for is the whole
  whole_of : (b : Begin) (now : List ℕ) (r : Parsed) → Waits [] b → ExprAt (stands_in b.condition) tokens b.own now b.at b.free b.least r → ExprAt (stands_in condition₀) tokens own₀ now at₀ free₀ least₀ r
  whole_of b now r w t = rw (w.0, w.1, w.2, w.3, w.4) at t

  module _ (own now : List ℕ) (s r : Reading) where
    on_wanted : (ws : List Waiter) → length ws ≡ s.depth → Held ws own → Waits ws (begin_on own s) → Begun ws (begin_on own s) → Wanted tokens own now s r → On now r
    on_wanted ws l h w b (absent t lo) =
        ended (no_expr ws (begin_on own s) r.left w b.0 lo.past (operand_ends (begin_on own s) r.left b.0 t (past_stops s.least r.left b.2 lo.past))) lo.over
    on_wanted ws l h w b (whole left t k st e) =
        subst (λ y. On now y) (sym e)
        (read ws (begin_on own s) l (held_stays own now ws (subst (λ n. Stays own now n) (sym l) st) h) w b refl refl (record { mid = now; first = left; operand = t; under = under_start (stands_in s.condition) tokens now s.least left }) k refl)
    on_wanted ws l h w b (prefixed p form detail hh st lb la e) =
        let a = laid_alike {free = s.left.free} (omega (arith, b.1)) la in
        subst (λ y. On now y) (sym e)
        (wanted (prefix (begin_on own s) form detail ∷ ws) (omega arith) (laid_held own now ws (prefix (begin_on own s) form detail) l la h) (w, b, (p, st, lb), a, refl, refl, refl, refl)
        (begun_on own now ws (prefix (begin_on own s) form detail) (s.left.at + 1) (level prefixes) s.condition (omega arith) (omega arith) (omega arith) a b.0 b.1) refl)
    on_wanted ws l h w b (grouped hh st la e) =
        let a = laid_alike {free = s.left.free} (omega (arith, b.1)) la in
        subst (λ y. On now y) (sym e)
        (wanted (group (begin_on own s) ∷ ws) (omega arith) (laid_held own now ws (group (begin_on own s)) l la h) (w, b, st, a, refl, refl, refl, refl)
        (begun_on own now ws (group (begin_on own s)) (s.left.at + 1) loosest false (omega arith) (omega arith) (omega arith) a b.0 b.1) refl)

    -- ---- an expression goes on, or ends

    on_stepped : (ws : List Waiter) (b : Begin) → length ws ≡ s.depth → Held ws own → Waits ws b → Begun ws b → b.least ≡ s.least → b.condition ≡ s.condition → Reads b own s.left → s.left.at ≤ many tokens →
        goes_on_with s.least s.left.level s.left.named s.left.dotted (code_at tokens s.left.at) ≡ true → Stepped tokens own now s r → On now r
    on_stepped ws b l h w bg el ec d k g (lost t lo) =
        ended (no_expr ws b r.left w bg.0 lo.past (step_ends b (read_of b own s d) r.left bg.0 bg.2 (going_on b own s d el bg.2 g) (step_of ec t) (past_stops b.least r.left bg.2 lo.past))) lo.over
    on_stepped ws b l h w bg el ec d k g (step left t k₂ st e) =
        subst (λ y. On now y) (sym e)
        (read ws b l (held_stays own now ws (subst (λ n. Stays own now n) (sym l) st) h) w bg el ec
        (record { mid = d.mid; first = d.first; operand = d.operand; under = under_step bg.0 d.first s.left d.operand d.under left bg.2 (going_on b own s d el bg.2 g).goes k (step_of ec t) }) k₂ refl)
    on_stepped ws b l h w bg el ec d k g (operates n c m la e) =
        let z = reads_ready b bg.0 d k in
        let x = going_on b own s d el bg.2 g in
        let i = x.inside in
        let a = laid_alike {free = s.left.free} (omega (arith, bg.1, z.1)) la in
        subst (λ y. On now y) (sym e)
        (wanted (binary b (read_of b own s d) n ∷ ws) (omega arith) (laid_held own now ws (binary b (read_of b own s d) n) l (waiting_of el ec la) h) (w, bg, x, c, m, a, refl, refl, refl, sym ec)
        (begun_on own now ws (binary b (read_of b own s d) n) (s.left.at + 1) (after_of (level_of n)) s.condition (omega arith) (omega arith) (after_least n m) a z.0 (omega (arith, bg.1, z.1))) refl)
    on_stepped ws b l h w bg el ec d k g (indexes c la e) =
        let z = reads_ready b bg.0 d k in
        let x = going_on b own s d el bg.2 g in
        let i = x.inside in
        let a = laid_alike {free = s.left.free} (omega (arith, bg.1, z.1)) la in
        subst (λ y. On now y) (sym e)
        (wanted (index b (read_of b own s d) ∷ ws) (omega arith) (laid_held own now ws (index b (read_of b own s d)) l (waiting_of el ec la) h) (w, bg, x, c, a, refl, refl, refl, refl)
        (begun_on own now ws (index b (read_of b own s d)) (s.left.at + 1) loosest false (omega arith) (omega arith) (omega arith) a z.0 (omega (arith, bg.1, z.1))) refl)
    on_stepped ws b l h w bg el ec d k g (calls to what symbol ic cg nr la e) =
        let z = reads_ready b bg.0 d k in
        let x = going_on b own s d el bg.2 g in
        let f = cg.from in
        let j = cg.inside in
        let a = laid_alike {free = s.left.free} (omega (arith, bg.1, z.1)) la in
        subst (λ y. On now y) (sym e)
        (wanted (call b (read_of b own s d) to what symbol ∷ ws) (omega arith) (laid_held own now ws (call b (read_of b own s d) to what symbol) l (waiting_of el ec la) h)
        (w, bg, x, ic, subst (λ q. Calling tokens (stands_in q) s.left to (call_form what) symbol) (sym ec) cg, nr, a, refl, refl, refl, refl)
        (begun_on own now ws (call b (read_of b own s d) to what symbol) (to + 1) loosest false (omega arith) (omega arith) (omega arith) a z.0 (omega (arith, bg.1, z.1))) refl)

    -- ---- what waits takes it

    on_prefix : (vs : List Waiter) (b : Begin) → length vs ≡ s.depth → 1 ≤ s.depth → Held vs own → Waits vs b → ExprAt (stands_in b.condition) tokens b.own own b.at b.free b.least s.left → s.left.at ≤ many tokens → s.depth + many tokens ≤ s.left.at + s.left.free → top_at own s ≡ PREFIX → (left : ℕ) → Stored own now s.left.free left (one_on own s) (two_on own s) (s.left.free + 1) 0 0 → r ≡ pop_to own s (record { at = s.left.at; free = left; level = level prefixes; named = s.left.named; dotted = s.left.dotted }) → On now r
    on_prefix [] b l y h w t k rm c left st x = absurd (omega arith)
    on_prefix (prefix q form detail ∷ ws) b l y h w t k rm c left st x =
        let e : s.depth - 1 ≡ length ws = omega arith in
        let u = rw (e, h.1, h.2) at st in
        let f = u.fewer in
        let z = pops own s ws (prefix q form detail) e h in
        subst (λ v. On now v) (sym x)
        (read ws q (omega arith) (stored_held own now ws (omega arith) u h.5) w.0 w.1 z.0 z.1
        (record {
          mid = now;
          first = (record { at = s.left.at; free = left; level = level prefixes; named = s.left.named; dotted = s.left.dotted });
          operand = operand_prefixed w.1.0 w.2.0 w.2.1 w.2.2 (prefixed_stored w.1.0 s.left k (expr_alike w.3 (rw (w.4, w.5, w.6, w.7) at t)) u);
          under = under_start (stands_in q.condition) tokens now q.least (record { at = s.left.at; free = left; level = level prefixes; named = s.left.named; dotted = s.left.dotted });
        }) k refl)
    on_prefix (group q ∷ ws) b l y h w t k rm c left st x = let e : s.depth - 1 ≡ length ws = omega arith in let z = sym h.0 ∙ (rw e at c) in absurd (omega arith)
    on_prefix (binary q d n ∷ ws) b l y h w t k rm c left st x = let e : s.depth - 1 ≡ length ws = omega arith in let z = sym h.0 ∙ (rw e at c) in absurd (omega arith)
    on_prefix (index q d ∷ ws) b l y h w t k rm c left st x = let e : s.depth - 1 ≡ length ws = omega arith in let z = sym h.0 ∙ (rw e at c) in absurd (omega arith)
    on_prefix (call q d to what symbol ∷ ws) b l y h w t k rm c left st x = let e : s.depth - 1 ≡ length ws = omega arith in absurd (call_not w.3 (sym h.0 ∙ rw e at c) (λ z. omega arith) (λ z. omega arith))
    on_prefix (argument q mid first ∷ ws) b l y h w t k rm c left st x = let e : s.depth - 1 ≡ length ws = omega arith in let z = sym h.0 ∙ (rw e at c) in absurd (omega arith)

    on_group : (vs : List Waiter) (b : Begin) → length vs ≡ s.depth → 1 ≤ s.depth → Held vs own → Waits vs b → ExprAt (stands_in b.condition) tokens b.own own b.at b.free b.least s.left → s.left.at ≤ many tokens → s.depth + many tokens ≤ s.left.at + s.left.free → top_at own s ≡ GROUP → (left : Parsed) → code_at tokens s.left.at ≡ code right_paren → Postfix (s.left.at + 1) s.left.free left → now ≡ own → r ≡ pop_to own s left → On now r
    on_group [] b l y h w t k rm c left cc px u x = absurd (omega arith)
    on_group (prefix q form detail ∷ ws) b l y h w t k rm c left cc px u x = let e : s.depth - 1 ≡ length ws = omega arith in let z = sym h.0 ∙ (rw e at c) in absurd (omega arith)
    on_group (group q ∷ ws) b l y h w t k rm c left cc px u x =
        let e : s.depth - 1 ≡ length ws = omega arith in
        let i = there tokens s.left.at (code right_paren) cc (omega arith) in
        let z = pops own s ws (group q) e h in
        subst (λ v. On now v) (sym x)
        (subst (λ v. On v (pop_to own s left)) (sym u)
        (read ws q (omega arith) h.5 w.0 w.1 z.0 z.1
        (record {
          mid = own;
          first = left;
          operand = operand_group w.1.0 w.2 (group_closed w.1.0 s.left cc (expr_alike w.3 (rw (w.4, w.5, w.6, w.7) at t)) px);
          under = under_start (stands_in q.condition) tokens own q.least left;
        }) (omega (arith, px.to)) refl))
    on_group (binary q d n ∷ ws) b l y h w t k rm c left cc px u x = let e : s.depth - 1 ≡ length ws = omega arith in let z = sym h.0 ∙ (rw e at c) in absurd (omega arith)
    on_group (index q d ∷ ws) b l y h w t k rm c left cc px u x = let e : s.depth - 1 ≡ length ws = omega arith in let z = sym h.0 ∙ (rw e at c) in absurd (omega arith)
    on_group (call q d to what symbol ∷ ws) b l y h w t k rm c left cc px u x = let e : s.depth - 1 ≡ length ws = omega arith in absurd (call_not w.3 (sym h.0 ∙ rw e at c) (λ z. omega arith) (λ z. omega arith))
    on_group (argument q mid first ∷ ws) b l y h w t k rm c left cc px u x = let e : s.depth - 1 ≡ length ws = omega arith in let z = sym h.0 ∙ (rw e at c) in absurd (omega arith)

    off_group : (vs : List Waiter) (b : Begin) → length vs ≡ s.depth → 1 ≤ s.depth → Held vs own → Waits vs b → ExprAt (stands_in b.condition) tokens b.own own b.at b.free b.least s.left → s.left.at ≤ many tokens → s.depth + many tokens ≤ s.left.at + s.left.free → top_at own s ≡ GROUP → (code_at tokens s.left.at ≡ code right_paren → ⊥) → Lost tokens r → On now r
    off_group [] b l y h w t k rm c m lo = absurd (omega arith)
    off_group (prefix q form detail ∷ ws) b l y h w t k rm c m lo = let e : s.depth - 1 ≡ length ws = omega arith in let z = sym h.0 ∙ (rw e at c) in absurd (omega arith)
    off_group (group q ∷ ws) b l y h w t k rm c m lo =
        ended (no_expr ws q r.left w.0 w.1.0 lo.past (operand_ends q r.left w.1.0 (operand_group w.1.0 w.2 (group_none w.1.0 s.left m (expr_alike w.3 (rw (w.4, w.5, w.6, w.7) at t)) lo.past)) (past_stops q.least r.left w.1.2 lo.past))) lo.over
    off_group (binary q d n ∷ ws) b l y h w t k rm c m lo = let e : s.depth - 1 ≡ length ws = omega arith in let z = sym h.0 ∙ (rw e at c) in absurd (omega arith)
    off_group (index q d ∷ ws) b l y h w t k rm c m lo = let e : s.depth - 1 ≡ length ws = omega arith in let z = sym h.0 ∙ (rw e at c) in absurd (omega arith)
    off_group (call q d to what symbol ∷ ws) b l y h w t k rm c m lo = let e : s.depth - 1 ≡ length ws = omega arith in absurd (call_not w.3 (sym h.0 ∙ rw e at c) (λ z. omega arith) (λ z. omega arith))
    off_group (argument q mid first ∷ ws) b l y h w t k rm c m lo = let e : s.depth - 1 ≡ length ws = omega arith in let z = sym h.0 ∙ (rw e at c) in absurd (omega arith)

    on_binary : (vs : List Waiter) (b : Begin) → length vs ≡ s.depth → 1 ≤ s.depth → Held vs own → Waits vs b → ExprAt (stands_in b.condition) tokens b.own own b.at b.free b.least s.left → s.left.at ≤ many tokens → s.depth + many tokens ≤ s.left.at + s.left.free → top_at own s ≡ BINARY → (left : ℕ) → Stored own now s.left.free left (operator_form (two_on own s)) (operator_detail (two_on own s)) (one_on own s) (s.left.free + 1) 0 → r ≡ pop_to own s (record { at = s.left.at; free = left; level = level_of (two_on own s); named = s.left.named; dotted = s.left.dotted }) → On now r
    on_binary [] b l y h w t k rm c left st x = absurd (omega arith)
    on_binary (prefix q form detail ∷ ws) b l y h w t k rm c left st x = let e : s.depth - 1 ≡ length ws = omega arith in let z = sym h.0 ∙ (rw e at c) in absurd (omega arith)
    on_binary (group q ∷ ws) b l y h w t k rm c left st x = let e : s.depth - 1 ≡ length ws = omega arith in let z = sym h.0 ∙ (rw e at c) in absurd (omega arith)
    on_binary (binary q d n ∷ ws) b l y h w t k rm c left st x =
        let e : s.depth - 1 ≡ length ws = omega arith in
        let two : two_on own s ≡ n = rw e h.2 in
        let one : one_on own s ≡ d.left.free + 1 = rw e h.1 in
        let u = rw (two, one) at st in
        let f = u.fewer in
        let g = w.2 in
        let rd = going_ready q d w.1.0 g in
        let z = pops own s ws (binary q d n) e h in
        let v = rw two at x in
        subst (λ a. On now a) (sym v)
        (read ws q (omega arith) (stored_held own now ws (omega arith) u h.5) w.0 w.1 z.0 z.1
        (record {
          mid = d.mid;
          first = d.first;
          operand = g.operand;
          under =
              under_step w.1.0 d.first d.left g.operand g.under (record { at = s.left.at; free = left; level = level_of n; named = s.left.named; dotted = s.left.dotted }) w.1.2 g.goes (let i = g.inside in omega arith)
              (step_binary d.left rd n w.4 w.3 (binary_stored d.left rd s.left w.4 refl refl refl k (expr_alike w.5 (rw (w.6, w.7, w.8, w.9) at t)) u));
        }) k refl)
    on_binary (index q d ∷ ws) b l y h w t k rm c left st x = let e : s.depth - 1 ≡ length ws = omega arith in let z = sym h.0 ∙ (rw e at c) in absurd (omega arith)
    on_binary (call q d to what symbol ∷ ws) b l y h w t k rm c left st x = let e : s.depth - 1 ≡ length ws = omega arith in absurd (call_not w.3 (sym h.0 ∙ rw e at c) (λ z. omega arith) (λ z. omega arith))
    on_binary (argument q mid first ∷ ws) b l y h w t k rm c left st x = let e : s.depth - 1 ≡ length ws = omega arith in let z = sym h.0 ∙ (rw e at c) in absurd (omega arith)

    on_index : (vs : List Waiter) (b : Begin) → length vs ≡ s.depth → 1 ≤ s.depth → Held vs own → Waits vs b → ExprAt (stands_in b.condition) tokens b.own own b.at b.free b.least s.left → s.left.at ≤ many tokens → s.depth + many tokens ≤ s.left.at + s.left.free → top_at own s ≡ INDEX → (left₂ : ℕ) (left : Parsed) → code_at tokens s.left.at ≡ code right_bracket → Stored own now s.left.free left₂ expr_index 0 (one_on own s) (s.left.free + 1) 0 → Postfix (s.left.at + 1) left₂ left → r ≡ pop_to own s left → On now r
    on_index [] b l y h w t k rm c left₂ left cc st px x = absurd (omega arith)
    on_index (prefix q form detail ∷ ws) b l y h w t k rm c left₂ left cc st px x = let e : s.depth - 1 ≡ length ws = omega arith in let z = sym h.0 ∙ (rw e at c) in absurd (omega arith)
    on_index (group q ∷ ws) b l y h w t k rm c left₂ left cc st px x = let e : s.depth - 1 ≡ length ws = omega arith in let z = sym h.0 ∙ (rw e at c) in absurd (omega arith)
    on_index (binary q d n ∷ ws) b l y h w t k rm c left₂ left cc st px x = let e : s.depth - 1 ≡ length ws = omega arith in let z = sym h.0 ∙ (rw e at c) in absurd (omega arith)
    on_index (index q d ∷ ws) b l y h w t k rm c left₂ left cc st px x =
        let e : s.depth - 1 ≡ length ws = omega arith in
        let u = rw (e, h.1) at st in
        let f = u.fewer in
        let g = w.2 in
        let i = there tokens s.left.at (code right_bracket) cc (omega arith) in
        let rd = going_ready q d w.1.0 g in
        let z = pops own s ws (index q d) e h in
        subst (λ a. On now a) (sym x)
        (read ws q (omega arith) (stored_held own now ws (omega arith) u h.5) w.0 w.1 z.0 z.1
        (record {
          mid = d.mid;
          first = d.first;
          operand = g.operand;
          under =
              under_step w.1.0 d.first d.left g.operand g.under left w.1.2 g.goes (let j = g.inside in omega arith)
              (step_index d.left rd w.3 (index_stored d.left rd s.left cc (expr_alike w.4 (rw (w.5, w.6, w.7, w.8) at t)) u px));
        }) (omega (arith, px.to)) refl)
    on_index (call q d to what symbol ∷ ws) b l y h w t k rm c left₂ left cc st px x = let e : s.depth - 1 ≡ length ws = omega arith in absurd (call_not w.3 (sym h.0 ∙ rw e at c) (λ z. omega arith) (λ z. omega arith))
    on_index (argument q mid first ∷ ws) b l y h w t k rm c left₂ left cc st px x = let e : s.depth - 1 ≡ length ws = omega arith in let z = sym h.0 ∙ (rw e at c) in absurd (omega arith)

    off_index : (vs : List Waiter) (b : Begin) → length vs ≡ s.depth → 1 ≤ s.depth → Held vs own → Waits vs b → ExprAt (stands_in b.condition) tokens b.own own b.at b.free b.least s.left → s.left.at ≤ many tokens → s.depth + many tokens ≤ s.left.at + s.left.free → top_at own s ≡ INDEX → (code_at tokens s.left.at ≡ code right_bracket → ⊥) → Lost tokens r → On now r
    off_index [] b l y h w t k rm c m lo = absurd (omega arith)
    off_index (prefix q form detail ∷ ws) b l y h w t k rm c m lo = let e : s.depth - 1 ≡ length ws = omega arith in let z = sym h.0 ∙ (rw e at c) in absurd (omega arith)
    off_index (group q ∷ ws) b l y h w t k rm c m lo = let e : s.depth - 1 ≡ length ws = omega arith in let z = sym h.0 ∙ (rw e at c) in absurd (omega arith)
    off_index (binary q d n ∷ ws) b l y h w t k rm c m lo = let e : s.depth - 1 ≡ length ws = omega arith in let z = sym h.0 ∙ (rw e at c) in absurd (omega arith)
    off_index (index q d ∷ ws) b l y h w t k rm c m lo =
        let rd = going_ready q d w.1.0 w.2 in
        ended (no_expr ws q r.left w.0 w.1.0 lo.past (step_ends q d r.left w.1.0 w.1.2 w.2 (step_index d.left rd w.3 (index_none d.left rd s.left m (expr_alike w.4 (rw (w.5, w.6, w.7, w.8) at t)) lo.past)) (past_stops q.least r.left w.1.2 lo.past))) lo.over
    off_index (call q d to what symbol ∷ ws) b l y h w t k rm c m lo = let e : s.depth - 1 ≡ length ws = omega arith in absurd (call_not w.3 (sym h.0 ∙ rw e at c) (λ z. omega arith) (λ z. omega arith))
    off_index (argument q mid first ∷ ws) b l y h w t k rm c m lo = let e : s.depth - 1 ≡ length ws = omega arith in let z = sym h.0 ∙ (rw e at c) in absurd (omega arith)

    on_took : (ws : List Waiter) (b : Begin) → length ws ≡ s.depth → 1 ≤ s.depth → Held ws own → Waits ws b → Begun ws b → b.least ≡ s.least → b.condition ≡ s.condition →
        ExprAt (stands_in b.condition) tokens b.own own b.at b.free b.least s.left → s.left.at ≤ many tokens → s.depth + many tokens ≤ s.left.at + s.left.free → Took tokens own now s r → On now r
    on_took ws b l y h w bg el ec t k rm (prefixed left c st x) = on_prefix ws b l y h w t k rm c left st x
    on_took ws b l y h w bg el ec t k rm (grouped left c cc px u x) = on_group ws b l y h w t k rm c left cc px u x
    on_took ws b l y h w bg el ec t k rm (ungrouped c m lo) = off_group ws b l y h w t k rm c m lo
    on_took ws b l y h w bg el ec t k rm (operated left c st x) = on_binary ws b l y h w t k rm c left st x
    on_took ws b l y h w bg el ec t k rm (indexed left₂ left c cc st px x) = on_index ws b l y h w t k rm c left₂ left cc st px x
    on_took ws b l y h w bg el ec t k rm (unindexed c m lo) = off_index ws b l y h w t k rm c m lo
    on_took ws b l y h w bg el ec t k rm (last end left n is e st x) =
        let i = is_list own ws l y h n in
        let z = list_loose ws b i w in
        let p = closed_past tokens s.left.at right_paren (λ q. omega arith) is e in
        let p₀ = p.0 in
        let p₁ = p.1 in
        let f = st.fewer in
        subst (λ v. On now v) (sym x)
        (listed ws b l (stored_held own now ws (omega arith) st h) w bg i (arguments_last bg.0 s.left (rw (z.0, z.1) at t) is e st) (omega arith) refl)
    on_took ws b l y h w bg el ec t k rm (another end n is ng cm la x) =
        let i = is_list own ws l y h n in
        let z = list_loose ws b i w in
        let p = comma_there tokens s.left.at right_paren (λ q. omega arith) is cm in
        let v = t.grew k in
        let a = laid_alike {free = s.left.free} (omega arith) la in
        subst (λ u. On now u) (sym x)
        (wanted (argument b own s.left ∷ ws) (omega arith) (laid_held own now ws (argument b own s.left) l (waiting_of el ec la) h)
        (w, bg, i, z.0, z.1, rw (z.0, z.1) at t, rw is at ng, rw is at cm, a, refl, refl, refl, refl)
        (begun_on own now ws (argument b own s.left) (s.left.at + 1) loosest false (omega arith) (omega arith) (omega arith) a (ready_grew s.left.at (omega arith) k bg.0 v) (omega arith)) refl)
    on_took ws b l y h w bg el ec t k rm (unclosed end n is ng cm lo) =
        let i = is_list own ws l y h n in
        let z = list_loose ws b i w in
        ended (no_list ws b r.left w i lo.past (arguments_none bg.0 s.left (rw (z.0, z.1) at t) is ng cm lo.past)) lo.over

    on_gone : (ws : List Waiter) (b : Begin) → length ws ≡ s.depth → Held ws own → Waits ws b → Begun ws b → b.least ≡ s.least → b.condition ≡ s.condition → Reads b own s.left → s.left.at ≤ many tokens → Gone tokens own now s r → On now r
    on_gone ws b l h w bg el ec d k (on g t) = on_stepped ws b l h w bg el ec d k g t
    on_gone [] b l h w bg el ec d k (all n z e y m u) =
        let t = under_end bg.0 d.first s.left d.operand d.under (subst (λ a. goes_on_with a s.left.level s.left.named s.left.dotted (code_at tokens s.left.at) ≡ false) (sym el) n) in
        ended (subst (λ a. ExprAt (stands_in condition₀) tokens own₀ now at₀ free₀ least₀ a) (sym e) (subst (λ a. ExprAt (stands_in condition₀) tokens own₀ a at₀ free₀ least₀ s.left) (sym u) (whole_of b own s.left w t))) m
    on_gone (v ∷ ws) b l h w bg el ec d k (all n z e y m u) = absurd (omega arith)
    on_gone ws b l h w bg el ec d k (part n z x) =
        let v = reads_ready b bg.0 d k in
        on_took ws b l z h w bg el ec (under_end bg.0 d.first s.left d.operand d.under (subst (λ a. goes_on_with a s.left.level s.left.named s.left.dotted (code_at tokens s.left.at) ≡ false) (sym el) n)) k (omega (arith, bg.1, v.1)) x

    on_listed : (ws : List Waiter) (b : Begin) → length ws ≡ s.depth → Held ws own → Waits ws b → Begun ws b → IsList ws → ArgumentsAt tokens b.own own b.at b.free (no_piece s.left) → s.left.at ≤ many tokens → Listed tokens own now s r → On now r
    on_listed [] b l h w bg i t k x = absurd i
    on_listed (prefix q form detail ∷ ws) b l h w bg i t k x = absurd i
    on_listed (group q ∷ ws) b l h w bg i t k x = absurd i
    on_listed (binary q d n ∷ ws) b l h w bg i t k x = absurd i
    on_listed (index q d ∷ ws) b l h w bg i t k x = absurd i
    on_listed (call q d to what symbol ∷ ws) b l h w bg i t k (more left c st x) =
        let e : s.depth - 1 ≡ length ws = omega arith in absurd (call_not w.3 (sym h.0 ∙ rw e at c) (λ z. omega arith) (λ z. omega arith))
    on_listed (call q d to what symbol ∷ ws) b l h w bg i t k (called left₂ left c st px x) =
        let e : s.depth - 1 ≡ length ws = omega arith in
        let u = rw (e, h.0, h.1, h.2) at st in
        let f = u.fewer in
        let g = w.2 in
        let v = t.grew k in
        let rd = going_ready q d w.1.0 g in
        let j = w.4.inside in
        let z = pops own s ws (call q d to what symbol) e h in
        subst (λ a. On now a) (sym x)
        (read ws q (omega arith) (stored_held own now ws (omega (arith, bg.1, v.room)) u h.5) w.0 w.1 z.0 z.1
        (record {
          mid = d.mid;
          first = d.first;
          operand = g.operand;
          under =
              under_step w.1.0 d.first d.left g.operand g.under left w.1.2 g.goes (let m = g.inside in omega arith)
              (w.4.steps d.now now left rd (call_stored (ready_on to w.4.from (omega arith) rd) w.4.inside (no_piece s.left) w.5 k (arguments_alike w.6 (rw (w.7, w.8) at t)) u px));
        }) (omega (arith, px.to)) refl)
    on_listed (argument q mid first ∷ ws) b l h w bg i t k (more left c st x) =
        let e : s.depth - 1 ≡ length ws = omega arith in
        let u = rw (e, h.1) at st in
        let f = u.fewer in
        let v = t.grew k in
        subst (λ a. On now a) (sym x)
        (listed ws q (omega arith) (stored_held own now ws (omega (arith, bg.1, v.room)) u h.5) w.0 w.1 w.2
        (arguments_more w.1.0 first w.5 refl (no_piece s.left) w.6 w.7 k (arguments_alike w.8 (rw (w.9, w.10) at t)) u) k refl)
    on_listed (argument q mid first ∷ ws) b l h w bg i t k (called left₂ left c st px x) = let e : length ws ≡ s.depth - 1 = omega arith in absurd (c (rw e at h.0))

    pub on_turned : On own s → (mode_number s.mode ≡ ENDED → ⊥) → Turned tokens own now s r → On now r
    on_turned (wanted ws l h w b m) n (wanting e t) = on_wanted ws l h w b t
    on_turned (wanted ws l h w b m) n (going e t) = absurd (omega arith)
    on_turned (wanted ws l h w b m) n (listing p q t) = absurd (p m)
    on_turned (read ws b l h w bg el ec d k m) n (wanting e x) = absurd (omega arith)
    on_turned (read ws b l h w bg el ec d k m) n (going e x) = on_gone ws b l h w bg el ec d k x
    on_turned (read ws b l h w bg el ec d k m) n (listing p q x) = absurd (q m)
    on_turned (listed ws b l h w bg i t k m) n (wanting e x) = absurd (omega arith)
    on_turned (listed ws b l h w bg i t k m) n (going e x) = absurd (omega arith)
    on_turned (listed ws b l h w bg i t k m) n (listing p q x) = on_listed ws b l h w bg i t k x
    on_turned (ended t m) n x = absurd (n m)

-- ---- each turn leaves less to do

abbrev pub left_to_do : List ℕ → Reading → ℕ
left_to_do tokens s = 4 * (many tokens + 1 - s.left.at) + 2 * s.depth + (ENDED - mode_number s.mode)

-- what is not there is not there by another answer
tells_lost : {A : Type 0} (Is Be : A → Type 0) (tokens : List ℕ) (to to₂ : ℕ) (o : Out A) → many tokens < to → many tokens < to₂ → Tells Is tokens to o → Tells Be tokens to₂ o
tells_lost Is Be tokens to to₂ fail h k t = k
tells_lost Is Be tokens to to₂ (ok a q) h k t = absurd (omega (arith, t.0))

pub step_lost : {c : Context} {tokens own now now₂ : List ℕ} {left : Parsed} (x r : Parsed) → many tokens < x.at → r.at ≡ many tokens + 1 → StepAt c tokens own now left x → StepAt c tokens own now₂ left r
step_lost {c} {tokens} {own} {now} {now₂} {left} x r h z s =
    record { past = λ q. absurd (omega arith); grew = λ q. absurd (omega arith); tells = λ e y g q. tells_lost (IsExpr now x) (IsExpr now₂ r) tokens x.at r.at (step_by c g e (tail (from tokens left.at)) (next (from tokens left.at))) h (omega arith) (s.tells e y g q) }

lost_less : {tokens : List ℕ} (s : Reading) {r : Reading} → s.left.at ≤ many tokens → Lost tokens r → left_to_do tokens r < left_to_do tokens s
lost_less s k lo = let a = lo.past in let b = lo.none in let c = lo.over in omega arith

module _ {tokens own now : List ℕ} {s r : Reading} (within : s.left.at ≤ many tokens) where
  less_wanted : mode_number s.mode ≡ WANTED → Wanted tokens own now s r → left_to_do tokens r < left_to_do tokens s
  less_wanted e (absent t lo) = lost_less s within lo
  less_wanted e (whole left t k st z) = let p = t.past k in rw z (omega arith)
  less_wanted e (prefixed p form detail hh st lb la z) = rw z (omega arith)
  less_wanted e (grouped hh st la z) = rw z (omega arith)

  less_stepped : mode_number s.mode ≡ READ → s.left.at < many tokens → Stepped tokens own now s r → left_to_do tokens r < left_to_do tokens s
  less_stepped e i (lost t lo) = lost_less s within lo
  less_stepped e i (step left t k st z) = let p = t.past k in rw z (omega arith)
  less_stepped e i (operates n c m la z) = rw z (omega arith)
  less_stepped e i (indexes c la z) = rw z (omega arith)
  less_stepped e i (calls to what symbol ic cg nr la z) = let f = cg.from in let j = cg.inside in rw z (omega arith)

  less_took : mode_number s.mode ≡ READ → 1 ≤ s.depth → Took tokens own now s r → left_to_do tokens r < left_to_do tokens s
  less_took e y (prefixed left c st z) = rw z (omega arith)
  less_took e y (grouped left c cc px u z) = let p = px.to in rw z (omega arith)
  less_took e y (ungrouped c n lo) = lost_less s within lo
  less_took e y (operated left c st z) = rw z (omega arith)
  less_took e y (indexed left₂ left c cc st px z) = let p = px.to in rw z (omega arith)
  less_took e y (unindexed c n lo) = lost_less s within lo
  less_took e y (last end left n is g st z) =
      let p = closed_past tokens s.left.at right_paren (λ q. omega arith) is g in
      let p₀ = p.0 in
      let p₁ = p.1 in
      rw z (omega arith)
  less_took e y (another end n is ng cm la z) = let p = comma_there tokens s.left.at right_paren (λ q. omega arith) is cm in rw z (omega arith)
  less_took e y (unclosed end n is ng cm lo) = lost_less s within lo

  less_gone : 1 ≤ s.least → mode_number s.mode ≡ READ → Gone tokens own now s r → left_to_do tokens r < left_to_do tokens s
  less_gone l e (on g t) = less_stepped e (goes_inside tokens s.left.at s.least s.left.level s.left.named s.left.dotted l g) t
  less_gone l e (all n z q y m u) = let a = ap (λ (x : Parsed). x.at) q in omega arith
  less_gone l e (part n y x) = less_took e y x

  less_listed : 1 ≤ s.depth → mode_number s.mode ≡ LISTED → Listed tokens own now s r → left_to_do tokens r < left_to_do tokens s
  less_listed y e (more left c st z) = rw z (omega arith)
  less_listed y e (called left₂ left c st px z) = let p = px.to in rw z (omega arith)

others_list : {tokens own₀ own : List ℕ} {at₀ free₀ least₀ : ℕ} {condition₀ : Bool} {s : Reading} → On tokens own₀ at₀ free₀ least₀ condition₀ own s → (mode_number s.mode ≡ ENDED → ⊥) → (mode_number s.mode ≡ WANTED → ⊥) → (mode_number s.mode ≡ READ → ⊥) → mode_number s.mode ≡ LISTED
others_list (wanted ws l h w b m) n p q = absurd (p m)
others_list (read ws b l h w bg el ec d k m) n p q = absurd (q m)
others_list (listed ws b l h w bg i t k m) n p q = m
others_list (ended t m) n p q = absurd (n m)

pub on_less : {tokens own₀ own now : List ℕ} {at₀ free₀ least₀ : ℕ} {condition₀ : Bool} {s r : Reading} → On tokens own₀ at₀ free₀ least₀ condition₀ own s → (mode_number s.mode ≡ ENDED → ⊥) → Turned tokens own now s r → left_to_do tokens r < left_to_do tokens s
on_less o n (wanting e t) = let v = on_turnable _ _ _ _ _ _ o n in less_wanted v.able.ready.within e t
on_less o n (going e t) = let v = on_turnable _ _ _ _ _ _ o n in less_gone v.able.ready.within (v.least (λ q. let z = sym e ∙ q in omega arith)) e t
on_less o n (listing p q t) = let v = on_turnable _ _ _ _ _ _ o n in less_listed v.able.ready.within (v.listed p q) (others_list o n p q) t
