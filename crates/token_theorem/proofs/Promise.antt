-- The promise holds. Assumes nothing.
use mathlib.Core.Path.{◌≡◌, refl, sym, subst, ap, ap₂, ◌∙◌}
use mathlib.Core.Bool.{true, false, not}
use mathlib.Core.List.{List, []}
use Prim.Native.Nat.{ℕ, ◌*◌, ◌≤◌}
use native.Mathlib.Omega.{arith}
use lib.ListN.{length}
use borrow.Author.Tests.{le-ltb, eq-eqb}
use Rattle.laws.specs.Choice.{pick}
use Rattle.laws.specs.Lists.{over}
use Rattle.laws.proofs.Choice.{pick_true, pick_false, true_of, or_next}
use Rattle.tree.specs.Sizes.{node_cells, token_cells, tokens_per_node, most_nodes, most_tokens}
use Rattle.tree.specs.Trees.{Tree, tree_at}
use Rattle.tree.specs.Erase.{erase}
use Rattle.tree.specs.Walks.{is_there}
use Rattle.tree.proofs.Unfold.{unfolds}
use Rattle.tree_rules.specs.Refusals.{refusal3, Accepted}
use Rattle.tree_rules.proofs.Accepted.{count_bounds, levels_bound}
use Rattle.expr.specs.Handed.{neither}
use Rattle.row_walk.specs.Paths.{Branch, number_at, tree_by}
use Rattle.row_walk.proofs.Paths.{tree_at_lem, there_at, one_path, reached}
use Rattle.token_grammar.specs.Tokens.{Token, cells_of}
use Rattle.token_grammar.specs.Codes.{are_tokens}
use Rattle.token_grammar.specs.Types.{one}
use Rattle.token_grammar.specs.Expressions.{Expr, write}
use Rattle.token_grammar.specs.Grammar.{Context, NONE, CONDITION, context_number}
use Rattle.token_grammar.specs.Commas.{without_commas, NoLastComma}
use Rattle.token_grammar.proofs.Added.{add_all, AnyPair, drop_any}
use Rattle.token_grammar.proofs.Commas.{none_last as fine_tokens}
use Rattle.token_grammar.proofs.Contexts.{all_same}
use Rattle.token_grammar.proofs.Tokens.{cells_are}
use Rattle.token_plain.specs.Plain.{plain_table}
use Rattle.token_plain.specs.Trees.{tree_of, without_parens}
use Rattle.token_plain.specs.Written.{tokens_at, has_pair, but_at}
use Rattle.token_plain.specs.Reads.{Reads}
use Rattle.token_plain.proofs.FromTable.{from_table}
use Rattle.token_plain.proofs.Readings.{one_reading, reads_back, needed as pair_needed}
use Rattle.tree_numbering.specs.Numbered.{size, numbered, too_large}
use Rattle.tree_numbering.proofs.Owners.{in_context_0}
use Rattle.tree_numbering.proofs.Sizes.{size_accepted}
use Rattle.tree_numbering.proofs.Holds.{over_numbered}
use Rattle.file_loader.specs.Files.{count_in, cells_in}
use Rattle.file_loader.proofs.Files.{accepted_file}
use Rattle.token_rows.proofs.Contexts.{begun}
use Rattle.token_rows.proofs.Tokens.{tokens_for, tokens_are}
use Rattle.token_rows.proofs.LeftOut.{tokens_but, marked_at, tokens_without}
use Rattle.token_rows.proofs.Numbers.{pair_at, tokens_from, tokens_leaving}
use Rattle.std.specs.Prelude.{Result, Ok}
use Rattle.tree.specs.declared.refusal.Refusal.{Refusal}
use Rattle.tree.specs.Replies.{replied}
use Rattle.token_writer.specs.Writes.{rows_for, written, pairs_written, takes_context, counted, answered, tokens_after}
use Rattle.token_writer.proofs.Bounds.{tokens_bound}
use Rattle.token_writer.proofs.Pairs as writer
use Rattle.token_writer.proofs.Replies.{not_refused}
use Rattle.token_writer.proofs.Tokens.{length_cells}
use Rattle.token_reader.specs.Reading.{read_refusal12, read_refusal13, refusal14, count_or_large, read_table, context_of, AnswersIn, Answers}
use Rattle.token_theorem.specs.Statement.{meant, Added, written_but, Removed, Promise, FilePromise, WritesNone, NoStruct, SameTokens}
use Rattle.token_theorem.proofs.LeftOut.{removed}
use Rattle.token_theorem.proofs.Structs.{structless}
use Rattle.token_theorem.proofs.Smaller.{size_without, not_large}

-- ---- the contexts that writer and reader take

taken : (k : Context) → takes_context (context_number k) ≡ true
unfolding takes_context
taken NONE = refl
taken CONDITION = refl

inside : (k : Context) {tokens table after : List ℕ} {reply : Result ℕ Refusal} → Answers (context_number k) tokens table reply after → AnswersIn k tokens table reply after
unfolding refusal3 read_refusal13 context_of pick
inside NONE a = a.inside refl refl
inside CONDITION a = a.inside refl refl

-- ---- an accepted plain table

module _ (k : Context) (count : ℕ) (cells : List ℕ) (ok : Accepted (context_number k) count cells) (plain : plain_table count cells ≡ true) where
  abbrev context : ℕ
  context = context_number k

  pub bounds : (1 ≤ count) × (count ≤ most_nodes) × (node_cells * count ≤ length cells)
  bounds = count_bounds context count cells ok

  -- ---- the writer

  stores : (tokens : List ℕ) → token_cells * tokens_per_node * count ≤ length tokens
      → (answered context count cells (length tokens) ≡ Ok (counted (pairs_written context count cells) (length (written context count cells))))
      × (tokens_after context count cells tokens ≡ over (cells_of (written context count cells)) tokens)
  unfolding answered tokens_after replied
  stores tokens room = let e = eq-eqb _ 0 (not_refused context count cells tokens ok room (taken k) plain) in (pick_true _ _ e, pick_true _ _ e)

  abbrev pub root : Tree
  root = tree_at cells count 1

  -- by any parse tree of the table's tree
  pub written_by : (e : Expr one) → tree_of e ≡ root → written context count cells ≡ write (without_commas (add_all k e)) []
  unfolding written
  written_by e is =
      ap (λ r. tokens_at cells count (has_pair r) 1 root []) (writer.rows_are k count cells ok plain)
      ∙ tokens_from k count cells ok (writer.blank k count cells ok plain) (writer.room k count cells ok plain) []
      ∙ ap (λ t. tokens_for (neither (begun k) t) t []) (sym is)
      ∙ tokens_are k e []

  abbrev tree : Expr one
  tree = (from_table context count cells ok plain).0

  tree_is : tree_of tree ≡ root
  tree_is = (from_table context count cells ok plain).1

  written_is : written context count cells ≡ write (without_commas (add_all k tree)) []
  written_is = written_by tree tree_is

  -- ---- readings

  reads : Reads k (cells_of (written context count cells)) (meant count cells)
  reads = rw written_is (subst (Reads k (cells_of (write (without_commas (add_all k tree)) []))) (ap without_parens tree_is) (reads_back k tree))

  none_last : NoLastComma (cells_of (written context count cells))
  none_last = rw written_is (fine_tokens (add_all k tree))

  only : (t : Tree) → Reads k (cells_of (written context count cells)) t → t ≡ meant count cells
  only t r = one_reading r reads

  -- ---- the reader

  within_limits : too_large (meant count cells) ≡ false
  within_limits = not_large root (let n = size_accepted context count cells ok in omega (arith, bounds.1)) (levels_bound context count cells ok)

  known : refusal14 (cells_of (written context count cells)) ≡ false
  unfolding refusal14
  known =
      let k : are_tokens (cells_of (written context count cells)) ≡ true = true_of (cells_are (written context count cells)) in
      or_next (not (are_tokens (cells_of (written context count cells)))) (le-ltb (token_cells * most_tokens) (length (cells_of (written context count cells))) (omega (arith, length_cells (written context count cells), (tokens_bound context count cells ok).1)))
      ∙ ap not k

  returned : (table after : List ℕ) (reply : Result ℕ Refusal) → node_cells * most_nodes ≤ length table → Answers context (cells_of (written context count cells)) table reply after
      → (reply ≡ Ok (size (meant count cells))) × (after ≡ over (numbered (meant count cells)) table)
  unfolding count_or_large read_table read_refusal12
  returned table after reply long a =
      let r = (inside k a).read (le-ltb (length table) (node_cells * most_nodes) long) known (meant count cells) reads in
      (r.0 ∙ pick_false _ _ within_limits, r.1 ∙ pick_false _ _ within_limits)

  -- what is stored stands for the tree
  pub returned_tree : (table : List ℕ) → tree_at (over (numbered (meant count cells)) table) (size (meant count cells)) 1 ≡ meant count cells
  returned_tree table = over_numbered (meant count cells) table (omega (arith, size_without root, size_accepted context count cells ok, bounds.1))

  -- ---- a pair left out

  module _ (j : ℕ) (added : Added k count cells j) where
    abbrev path : List Branch
    path = (reached cells count context ok j added.0 added.1).path

    leads : number_at cells count 1 path ≡ j
    leads = (reached cells count context ok j added.0 added.1).leads

    at_path : tree_at cells count j ≡ tree_by root path
    at_path = ap (tree_at cells count) (sym leads) ∙ tree_at_lem cells count 1 path (omega arith) bounds.0 (rw leads added.0)

    there : is_there (tree_by root path) ≡ true
    there = ap is_there (sym at_path ∙ unfolds cells count j added.0 added.1)

    left_out : Removed (written_but k j count cells j) (written context count cells) (written_but k j count cells 1)
    unfolding written
    left_out =
        rw at_path
        (removed cells count (has_pair (rows_for context count cells)) j added.2 path root 1 there leads
        (λ p e z. one_path cells count context ok 1 p path (omega arith) bounds.0 (there_at cells count 1 p e) (z ∙ sym leads)) [])

    on_row : marked_at (neither (begun k) (tree_of tree)) (tree_of tree) path ≡ true
    on_row =
        ap (λ t. marked_at (neither (begun k) t) t path) tree_is
        ∙ sym (pair_at k count cells ok (writer.blank k count cells ok plain) (writer.room k count cells ok plain) path there)
        ∙ ap₂ has_pair (sym (writer.rows_are k count cells ok plain)) leads
        ∙ added.2

    without : (q : AnyPair k tree) × ((rest : List Token) → tokens_but path (neither (begun k) (tree_of tree)) (tree_of tree) rest ≡ write (without_commas (drop_any k tree q)) rest)
    without = tokens_without k tree path on_row

    but_is : written_but k j count cells 1 ≡ write (without_commas (drop_any k tree without.0)) []
    but_is =
        ap (λ r. tokens_at cells count (but_at j (has_pair r)) 1 root []) (writer.rows_are k count cells ok plain)
        ∙ ap (λ n. tokens_at cells count (but_at n (has_pair (writer.rows k count cells ok plain))) 1 root []) (sym leads)
        ∙ tokens_leaving k count cells ok (writer.blank k count cells ok plain) (writer.room k count cells ok plain) path there []
        ∙ ap (λ t. tokens_but path (neither (begun k) t) t []) (sym tree_is)
        ∙ without.1 []

    needed : (t : Tree) → Reads k (cells_of (written_but k j count cells 1)) t → erase t ≡ erase (meant count cells) → ⊥
    needed t r e = pair_needed k tree without.0 t (subst (λ ts. Reads k (cells_of ts) t) but_is r) (e ∙ ap (λ u. erase (without_parens u)) (sym tree_is))

pub promise : Promise
promise k count cells ok plain =
    record {
      stores = stores k count cells ok plain;
      reads = reads k count cells ok plain;
      only = only k count cells ok plain;
      returned = returned k count cells ok plain;
      left_out = left_out k count cells ok plain;
      needed = needed k count cells ok plain;
    }

pub file_promise : FilePromise
file_promise k file lent e at plain =
    promise k (count_in file) (cells_in file) (subst (λ c. Accepted c (count_in file) (cells_in file)) at (accepted_file file lent e)) plain

pub writes_none : WritesNone
writes_none k count cells ok plain = none_last k count cells ok plain

-- ---- a tree without a Struct

pub same_tokens : SameTokens
same_tokens k count cells ok plain free =
    let e = tree k count cells ok plain in
    let is = tree_is k count cells ok plain in
    written_is k count cells ok plain
    ∙ ap (λ x. write (without_commas x) []) (all_same k e (structless e (subst NoStruct (sym is) free)))
    ∙ sym (written_by NONE count cells (in_context_0 (context_number k) count cells ok) plain e is)
