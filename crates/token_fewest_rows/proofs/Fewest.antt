-- Of all ways of putting pairs round the nodes of an accepted plain table outside conditions, the rows' has the fewest. Assumes nothing.
use mathlib.Core.Path.{◌≡◌, sym, subst, ap, ◌∙◌}
use mathlib.Core.Bool.{true}
use mathlib.Core.List.{List}
use Prim.Native.Nat.{ℕ, ◌≤◌}
use native.Mathlib.Omega.{arith}
use Rattle.tree.specs.Trees.{tree_at}
use Rattle.tree_rules.specs.Refusals.{Accepted}
use Rattle.tree_numbering.specs.Sums.{sum}
use Rattle.token_grammar.specs.Tokens.{cells_of}
use Rattle.token_grammar.specs.Grammar.{NONE, context_number}
use Rattle.token_grammar.specs.Bare.{bare}
use Rattle.token_plain.specs.Plain.{plain_table}
use Rattle.token_plain.specs.Reads.{Reads}
use Rattle.token_plain.proofs.Parens.{without_bare}
use Rattle.token_writer.specs.Writes.{pairs_written}
use Rattle.token_theorem.proofs.Promise as promised
use Rattle.token_fewest.specs.Openings.{openings}
use Rattle.token_fewest.proofs.Tokens as grammar
use Rattle.token_fewest_rows.specs.Statement.{cells_with, ours, FewestPairs}
use Rattle.token_fewest_rows.proofs.Counted.{among, way_openings, counted}
use Rattle.token_fewest_rows.proofs.Every.{every}

module _ (count : ℕ) (cells : List ℕ) (ok : Accepted (context_number NONE) count cells) (plain : plain_table count cells ≡ true) where
  -- A parse tree's bare tree is the table's, so that what is written is written for it.
  fewest_tokens : (list : List ℕ) → Reads NONE list (tree_at cells count 1) → openings (ours count cells) ≤ openings list
  fewest_tokens list r =
      let e = bare r.parsed in
      let same = promised.written_by NONE count cells ok plain e (sym (without_bare r.parsed) ∙ r.same) in
      omega (arith, ap (λ ts. openings (cells_of ts)) same, ap openings r.whole, grammar.fewest_tokens r.parsed r.fit)

  fewest : (way : ℕ → ℕ) → Reads NONE (cells_with count cells way) (tree_at cells count 1) → pairs_written (context_number NONE) count cells ≤ sum way count
  fewest way r = omega (arith, fewest_tokens (cells_with count cells way) r, way_openings NONE count cells ok plain way, counted NONE count cells ok plain)

pub fewest_pairs : FewestPairs
fewest_pairs count cells ok plain bared =
    record {
      fewest = fewest count cells ok plain;
      among = among NONE count cells ok plain;
      reads = subst (Reads NONE (ours count cells)) bared (promised.promise NONE count cells ok plain).reads;
      fewest_tokens = fewest_tokens count cells ok plain;
      every = every count cells ok plain;
    }
