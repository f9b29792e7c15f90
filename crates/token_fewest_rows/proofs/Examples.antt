-- Tables that the checker computes: one where another way has as many pairs, and one in a condition where fewer do. Assumes nothing.
use mathlib.Core.Path.{◌≡◌, refl, ap, ◌∙◌}
use mathlib.Core.Bool.{true}
use mathlib.Core.List.{List, [], ◌∷◌}
use Prim.Native.Nat.{ℕ}
use native.Mathlib.Omega.{arith}
use lib.Dec.{eqb}
use Rattle.bools.specs.Bits.{bit_of}
use Rattle.laws.specs.Choice.{pick, lookup, is_one_of}
use Rattle.laws.specs.Each.{some}
use Rattle.tree.specs.Forms.{expr_binary, expr_cast, expr_path, expr_struct, type_path, class_of, highest_attributes, details, highest_detail, symbols, highest_symbol, allowed}
use Rattle.tree.specs.Table.{cell_at}
use Rattle.tree.specs.Trees.{label_at, operand_of, tree_to, tree_at, own_level, levels}
use Rattle.tree.specs.Walks.{follow, walk, at_root}
use Rattle.tree_places.specs.Places.{first_places, first_place, second_places, second_place, wrong_class, wrong_list, wrong_item, wrong_next, wrong_at, bad_operands}
use Rattle.tree_rules.specs.Refusals.{refusal3, refusal4, bad_numbers, refusal6, refusal7, misplaced, bad_order, owners, bad_owner, refusal8, empty, refusal9, plain_block, bad_output, refusal10, refusal11, first_of, node_refusals, refusal, Accepted}
use Rattle.tree_numbering.specs.Sums.{sum}
use Rattle.token_grammar.specs.Tokens.{add, eq, lt, number, operator_of, cells_of}
use Rattle.token_grammar.specs.Levels.{kind}
use Rattle.token_grammar.specs.Types.{one, named}
use Rattle.token_grammar.specs.Expressions.{path, structure, Expr, atom, paren, binary, cast, write}
use Rattle.token_grammar.specs.Grammar.{Context, NONE, CONDITION, context_number, opens_arguments}
use Rattle.token_grammar.specs.Commas.{without_commas}
use Rattle.token_grammar.proofs.Added.{strength, add_all}
use Rattle.token_plain.specs.Plain.{is_plain, plain_table}
use Rattle.token_plain.specs.Trees.{operator_label, tree_of, without_parens}
use Rattle.token_plain.specs.Written.{sign_lines, signs_of}
use Rattle.token_plain.specs.Reads.{Reads}
use Rattle.token_writer.specs.Writes.{written, pairs_written}
use Rattle.token_theorem.proofs.Promise as promised
use Rattle.token_fewest.specs.Openings.{openings}
use Rattle.token_fewest_rows.specs.Statement.{tokens_with, cells_with}
use Rattle.token_fewest_rows.proofs.Counted.{way_openings, pairs_counted}

-- what is written for a table of e is a way's tokens: it has the way's pairs
module _ (k : Context) (count : ℕ) (cells : List ℕ) (ok : Accepted (context_number k) count cells) (plain : plain_table count cells ≡ true) (e : Expr one) (is : tree_of e ≡ tree_at cells count 1) where
  by_way : (way : ℕ → ℕ) → cells_of (write (without_commas (add_all k e)) []) ≡ cells_with count cells way
      → (cells_of (written (context_number k) count cells) ≡ cells_with count cells way) × (pairs_written (context_number k) count cells ≡ sum way count)
  by_way way q =
      let w = ap cells_of (promised.written_by k count cells ok plain e is) ∙ q in
      (w, omega (arith, ap openings w, pairs_counted k count cells ok plain, way_openings k count cells ok plain way))

-- ---- the tables

-- a Path with a symbol, and a Binary with its operands
abbrev name : ℕ → List ℕ → List ℕ
name y rest = expr_path ∷ 0 ∷ 0 ∷ 0 ∷ 0 ∷ y ∷ rest

abbrev operated : ℕ → ℕ → ℕ → List ℕ → List ℕ
operated o i j rest = expr_binary ∷ 0 ∷ o ∷ i ∷ j ∷ 0 ∷ rest

-- x + a as T < b, where node 2 is the sum and node 5 the cast; and x == S + S, where node 3 is the sum
abbrev compared : List ℕ
compared = operated (number lt) 2 3 (operated (number add) 4 5 (name 2 (name 0 (expr_cast ∷ 0 ∷ 0 ∷ 6 ∷ 7 ∷ 0 ∷ name 1 (type_path ∷ 0 ∷ 1 ∷ 0 ∷ 0 ∷ 3 ∷ [])))))

abbrev structs : List ℕ
structs = operated (number eq) 2 3 (name 0 (operated (number add) 4 5 (expr_struct ∷ 0 ∷ 0 ∷ 0 ∷ 0 ∷ 0 ∷ expr_struct ∷ 0 ∷ 0 ∷ 0 ∷ 0 ∷ 0 ∷ [])))

pub taken : Accepted (context_number NONE) 7 compared × (plain_table 7 compared ≡ true) × Accepted (context_number CONDITION) 5 structs × (plain_table 5 structs ≡ true)
unfolding pick lookup some class_of highest_attributes details highest_detail symbols highest_symbol allowed first_places first_place second_places second_place wrong_class wrong_list wrong_item wrong_next wrong_at refusal3 refusal4 bad_numbers refusal6 bad_operands refusal7 misplaced bad_order owners bad_owner refusal8 empty refusal9 plain_block bad_output refusal10 refusal11 first_of node_refusals refusal cell_at label_at operand_of tree_to tree_at own_level levels follow walk at_root is_plain plain_table
taken = (refl, refl, refl, refl)

-- one pair, round node i; and one round each of two nodes
abbrev round_node : ℕ → ℕ → ℕ
round_node i j = bit_of (eqb i j)

abbrev round_both : ℕ → ℕ → ℕ → ℕ
round_both h i j = bit_of (is_one_of (h ∷ i ∷ []) j)

-- ---- "Another may have as many, for instance round `x + a as T` left of `<`, where we put the pair round the cast."

abbrev sum_of_cast : Expr one
sum_of_cast = binary add (atom (path 0)) (cast (atom (path 1)) (named 3))

pub round_cast : (cells_of (written (context_number NONE) 7 compared) ≡ cells_with 7 compared (round_node 5)) × (pairs_written (context_number NONE) 7 compared ≡ 1)
unfolding pick lookup opens_arguments kind strength cell_at label_at operand_of tree_to tree_at operator_label tokens_with sign_lines signs_of operator_of
round_cast = by_way NONE 7 compared taken.0 taken.1 (binary lt sum_of_cast (atom (path 2))) refl (round_node 5) refl

-- the other, round the sum, reads back,
pub other_reads : Reads NONE (cells_with 7 compared (round_node 2)) (tree_at compared 7 1)
unfolding pick lookup opens_arguments kind cell_at label_at operand_of tree_to tree_at operator_label without_parens tokens_with sign_lines signs_of operator_of
other_reads =
    record {
      parsed = binary lt (paren sum_of_cast) (atom (path 2));
      fit = (omega arith, omega arith, refl, (omega arith, omega arith, refl, refl, (omega arith, refl)), refl);
      whole = refl;
      same = refl;
    }

-- has as many, and is not ours
pub other_as_many : sum (round_node 2) 7 ≡ 1
other_as_many = refl

pub other_differs : cells_with 7 compared (round_node 2) ≡ cells_with 7 compared (round_node 5) → ⊥
unfolding pick lookup cell_at label_at operand_of tree_to tree_at tokens_with sign_lines signs_of operator_of
other_differs e = let z = ap openings (ap first_token e) in omega arith
  where
    first_token : List ℕ → List ℕ
    first_token [] = []
    first_token (n ∷ cells) = n ∷ 0 ∷ []

-- ---- "In context 3 fewer can do, since one pair round a sum of two Structs replaces two"

-- we write x == (S) + (S)
pub two_written : (cells_of (written (context_number CONDITION) 5 structs) ≡ cells_with 5 structs (round_both 4 5)) × (pairs_written (context_number CONDITION) 5 structs ≡ 2)
unfolding pick lookup opens_arguments kind strength cell_at label_at operand_of tree_to tree_at operator_label tokens_with sign_lines signs_of operator_of
two_written = by_way CONDITION 5 structs taken.2 taken.3 (binary eq (atom (path 0)) (binary add (atom structure) (atom structure))) refl (round_both 4 5) refl

-- x == (S + S) reads back, with one
pub one_does : Reads CONDITION (cells_with 5 structs (round_node 3)) (tree_at structs 5 1) × (sum (round_node 3) 5 ≡ 1)
unfolding pick lookup opens_arguments kind cell_at label_at operand_of tree_to tree_at operator_label without_parens tokens_with sign_lines signs_of operator_of
one_does = (
  record {
    parsed = binary eq (atom (path 0)) (paren (binary add (atom structure) (atom structure)));
    fit = (omega arith, omega arith, refl, refl, (omega arith, omega arith, refl, refl, refl));
    whole = refl;
    same = refl;
  },
  refl,
)
