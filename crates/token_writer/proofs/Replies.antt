-- The replies of `write`, and what they leave in the buffer. Assumes nothing.
use mathlib.Core.Path.{◌≡◌, refl, sym, ap, ap₂, subst, ◌∙◌}
use mathlib.Core.Bool.{Bool, true, false, not, ◌||◌}
use mathlib.Core.List.{List, []}
use Prim.Native.Nat.{ℕ, ◌*◌, ◌/◌, ◌≤◌, ◌<◌}
use native.Mathlib.Omega.{arith}
use lib.Dec.{eqb}
use lib.ListN.{length}
use borrow.Author.Tests.{eq-eqb, ne_eqb, lt-ltb, le-ltb, eqb-true}
use Rattle.std.specs.Prelude.{Result, Ok, Err}
use Rattle.laws.specs.Choice.{pick, lookup}
use Rattle.tree.specs.declared.refusal.Refusal.{Refusal}
use Rattle.tree.specs.Replies.{refusals, replied}
use Rattle.laws.specs.Lists.{over}
use Rattle.laws.proofs.Choice.{pick_true, pick_false, or_here, or_next, true_not_false}
use Rattle.tree.specs.Sizes.{node_cells, token_cells, tokens_per_node, most_nodes, most_tokens}
use Rattle.tree.specs.Trees.{tree_at}
use Rattle.tree_rules.specs.Refusals.{first_of, refusal, Accepted}
use Rattle.tree_rules.proofs.Accepted.{count_bounds}
use Rattle.tree_numbering.proofs.Sizes.{size_accepted}
use Rattle.token_grammar.specs.Tokens.{cells_of}
use Rattle.token_grammar.specs.Grammar.{Context, NONE, CONDITION, context_number}
use Rattle.token_plain.specs.Plain.{plain_table}
use Rattle.token_writer.specs.declared.Written.{Written}
use Rattle.token_writer.specs.Levels.{place, tokens_by, pairs_by}
use Rattle.token_writer.specs.Tasks.{cells_by, pairs_at, enter_work, root_in, tasks_for}
use Rattle.token_writer.specs.Writes.{takes_context, written, pairs_written, write_refusal12, refusal13, write_refusal, counted, answered, tokens_after}
use Rattle.tree.specs.declared.refusal.Refusal.TheVariants.{Short, NotPlain, EntryEnds}
use Rattle.token_writer.proofs.Replied.{replied_err, refused_any}
use Rattle.token_writer.proofs.Bounds.{tokens_bound, pairs_most}
use Rattle.token_writer.proofs.ByLevels.{flag}
use Rattle.token_writer.proofs.Pairs.{written_by_places, pairs_by_places}
use Rattle.token_writer.proofs.Tokens.{length_cells}

-- ---- a context that is taken

taken_context : (context : ℕ) → takes_context context ≡ true → (k : Context) × (context_number k ≡ context)
unfolding takes_context
taken_context context h = go (eqb (context_number NONE) context) (eqb (context_number CONDITION) context) refl refl h
  where
    go : (a b : Bool) → eqb (context_number NONE) context ≡ a → eqb (context_number CONDITION) context ≡ b → a || (b || false) ≡ true → (k : Context) × (context_number k ≡ context)
    go true b u v h = (NONE, eqb-true (context_number NONE) context u)
    go false true u v h = (CONDITION, eqb-true (context_number CONDITION) context v)
    go false false u v h = true_not_false (sym h)

root_place : (k : Context) → root_in (context_number k) ≡ place 0 false (flag k)
root_place NONE = refl
root_place CONDITION = refl

-- so what is written and counted by places is what the rows say
abbrev ByPlaces : ℕ → ℕ → List ℕ → Type 0
ByPlaces context count cells =
    (cells_by cells count (root_in context) 1 ≡ cells_of (written context count cells)) × (pairs_at cells count (root_in context) 1 ≡ pairs_written context count cells)

in_context_by : (k : Context) (count : ℕ) (cells : List ℕ) → Accepted (context_number k) count cells → plain_table count cells ≡ true → ByPlaces (context_number k) count cells
unfolding cells_by
in_context_by k count cells ok plain = (
  ap (λ p. cells_of (tokens_by p (tree_at cells count 1) [])) (root_place k) ∙ sym (ap cells_of (written_by_places k count cells ok plain)),
  ap (λ p. pairs_by p (tree_at cells count 1)) (root_place k) ∙ sym (pairs_by_places k count cells ok plain),
)

by_places : (context count : ℕ) (cells : List ℕ) → takes_context context ≡ true → Accepted context count cells → plain_table count cells ≡ true → ByPlaces context count cells
by_places context count cells taken =
    let t = taken_context context taken in
    subst (λ c. Accepted c count cells → plain_table count cells ≡ true → ByPlaces c count cells) t.1 (in_context_by t.0 count cells)

-- ---- the replies

module _ (context count : ℕ) (cells tokens : List ℕ) where
  -- what the two clauses of the contract say of a reply and of the buffer afterwards
  abbrev pub Answers : Result Written Refusal → List ℕ → Type 0
  Answers r after = (r ≡ answered context count cells (length tokens)) × (after ≡ tokens_after context count cells tokens)

  -- a refusal leaves the buffer as it was
  refuses : (r : Result Written Refusal) (n : ℕ) (w : Written) → r ≡ replied n w → n ≡ write_refusal context count cells (length tokens) → (n ≡ 0 → ⊥) → Answers r tokens
  unfolding answered tokens_after replied
  refuses r n w x e z =
      let f : eqb n 0 ≡ false = ne_eqb n 0 z in
      let g : eqb (write_refusal context count cells (length tokens)) 0 ≡ false = rw (← e) f in
      (x ∙ pick_false _ _ f ∙ ap (λ m. Err (lookup refusals EntryEnds m)) e ∙ sym (pick_false _ _ g), sym (pick_false _ _ g))

  pub refused : (e : Refusal) → Err e ≡ replied {A = Unit {0}} (refusal context count cells) tt → Answers (Err e) tokens
  unfolding write_refusal
  refused e h =
      let n = replied_err _ _ e h in
      refuses (Err e) (refusal context count cells) (counted 0 0) (refused_any {B = Written} _ _ _ e h) (sym (pick_false _ _ (ne_eqb _ 0 n))) n

  module _ (accepted : refusal context count cells ≡ 0) where
    after : write_refusal context count cells (length tokens) ≡ pick (write_refusal12 count (length tokens)) 12 (pick (refusal13 context count cells) 13 0)
    unfolding write_refusal first_of
    after = pick_true _ _ (eq-eqb _ 0 accepted)

    pub short : length tokens < token_cells * tokens_per_node * count → Answers (Err Short) tokens
    unfolding write_refusal12 replied refusals lookup pick
    short h = refuses (Err Short) 12 (counted 0 0) refl (sym (after ∙ pick_true _ _ (lt-ltb _ _ h))) (λ z. omega arith)

    module _ (fits : token_cells * tokens_per_node * count ≤ length tokens) where
      behind12 : write_refusal context count cells (length tokens) ≡ pick (refusal13 context count cells) 13 0
      unfolding write_refusal12
      behind12 = after ∙ pick_false _ _ (le-ltb _ _ fits)

      pub in_context : takes_context context ≡ false → Answers (Err NotPlain) tokens
      unfolding refusal13 replied refusals lookup pick
      in_context h = refuses (Err NotPlain) 13 (counted 0 0) refl (sym (behind12 ∙ pick_true 13 0 (or_here _ (ap not h)))) (λ z. omega arith)

      module _ (taken : takes_context context ≡ true) where
        is13 : refusal13 context count cells ≡ not (plain_table count cells)
        unfolding refusal13
        is13 = or_next _ (ap not taken)

        pub not_plain : plain_table count cells ≡ false → Answers (Err NotPlain) tokens
        unfolding replied refusals lookup pick
        not_plain h = refuses (Err NotPlain) 13 (counted 0 0) refl (sym (behind12 ∙ pick_true 13 0 (is13 ∙ ap not h))) (λ z. omega arith)

        module _ (plain : plain_table count cells ≡ true) where
          pub not_refused : write_refusal context count cells (length tokens) ≡ 0
          not_refused = behind12 ∙ pick_false 13 0 (is13 ∙ ap not plain)

          -- what `write_plain` asks for
          pub plainly : (enter_work cells count 1 ≤ tasks_for count)
              × (count ≤ most_nodes)
              × (pairs_at cells count (root_in context) 1 ≤ most_nodes)
              × (length (cells_by cells count (root_in context) 1) ≤ length tokens)
              × (length (cells_by cells count (root_in context) 1) ≤ token_cells * most_tokens)
              × (node_cells * count ≤ length cells)
          unfolding enter_work
          plainly =
              let nodes = size_accepted context count cells accepted in
              let bounds = count_bounds context count cells accepted in
              let most = tokens_bound context count cells accepted in
              let long = ap length (by_places context count cells taken accepted plain).0 ∙ length_cells (written context count cells) in (
                omega arith,
                bounds.1,
                omega (arith, bounds.1, pairs_most (tree_at cells count 1) (root_in context)),
                omega (arith, most.0),
                omega (arith, most.1),
                bounds.2,
              )

          pub done : (r : Written) (last : List ℕ) → r ≡ counted (pairs_at cells count (root_in context) 1) (length (cells_by cells count (root_in context) 1) / token_cells) → last ≡ over (cells_by cells count (root_in context) 1) tokens → Answers (Ok r) last
          unfolding answered tokens_after replied
          done r last e f =
              let z = eq-eqb _ 0 not_refused in
              let by = by_places context count cells taken accepted plain in
              let long = length_cells (written context count cells) in
              let n : length (cells_of (written context count cells)) / token_cells ≡ length (written context count cells) = omega arith in
              (ap Ok (e ∙ ap₂ counted by.1 (ap (λ c. length c / token_cells) by.0 ∙ n)) ∙ sym (pick_true _ _ z), f ∙ ap (λ c. over c tokens) by.0 ∙ sym (pick_true _ _ z))
