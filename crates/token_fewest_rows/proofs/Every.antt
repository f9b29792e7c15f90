-- Each token list that reads as a table's tree is that of a way, but for commas after last items. Assumes nothing.
use mathlib.Core.Path.{◌≡◌, refl, sym, subst, ap, ◌∙◌}
use mathlib.Core.Bool.{true}
use mathlib.Core.List.{List, [], ◌∷◌}
use Prim.Native.Nat.{ℕ, zero, suc, ◌≤◌}
use native.Mathlib.Omega.{arith}
use native.Mathlib.Decide.{dec_le}
use Rattle.laws.specs.Choice.{pick, lookup}
use Rattle.laws.proofs.Choice.{true_not_false}
use Rattle.tree.specs.Forms.{link}
use Rattle.tree.specs.Table.{first_column, second_column}
use Rattle.tree.specs.Trees.{Label, Tree, none, node, operand_at, tree_at}
use Rattle.tree.specs.Walks.{is_there}
use Rattle.tree_rules.specs.Refusals.{Accepted}
use Rattle.row_walk.specs.Paths.{Branch, first, second, number_at, tree_by}
use Rattle.row_walk.proofs.Paths.{there_at, one_path, reached}
use Rattle.token_grammar.specs.Tokens.{Token, operator, lt, gt, as_token, name_token, dot, left_paren, right_paren, left_bracket, right_bracket, comma_token, question, cells_of}
use Rattle.token_grammar.specs.Types.{Sort, one, list, items, Ty, named, applied, pointing, sign, no_types, types, last_type, more_types, type_prefix_token, write_type}
use Rattle.token_grammar.specs.Expressions.{Expr, atom, paren, prefix, binary, cast, member, try, index, call, method, no_arguments, arguments, last_argument, more_arguments, prefix_token, member_token, write}
use Rattle.token_grammar.specs.Grammar.{NONE, context_number}
use Rattle.token_grammar.specs.Commas.{without_type_commas, without_commas, CommasPut, ended}
use Rattle.token_grammar.specs.Bare.{bare}
use Rattle.token_grammar.proofs.Commas.{puts}
use Rattle.token_plain.specs.Plain.{plain_table}
use Rattle.token_plain.specs.Trees.{label, prefix_label, operator_label, member_label, tree_of, tree_of_type}
use Rattle.token_plain.specs.Written.{Signs, signs, sign_lines, signs_of}
use Rattle.token_plain.specs.Reads.{Reads}
use Rattle.token_plain.proofs.Parens.{without_bare}
use Rattle.token_rows.proofs.Tokens.{inside, atom_signs, prefix_signs, operator_signs, member_signs, link_signs, type_prefix_signs, type_sign_signs, type_link_signs}
use Rattle.token_rows.proofs.Numbers.{inside_by}
use Rattle.token_fewest_rows.specs.Statement.{round, tokens_with, cells_with}
use Rattle.token_writer.proofs.Pairs.{high_at}

-- ---- pairs by paths

abbrev nowhere : List Branch → ℕ
nowhere p = 0

-- one pair more round the root
abbrev more : (List Branch → ℕ) → List Branch → ℕ
more f [] = suc (f [])
more f (s ∷ p) = f (s ∷ p)

-- none round the root
abbrev below : (List Branch → ℕ) → (List Branch → ℕ) → List Branch → ℕ
below f g [] = 0
below f g (first ∷ p) = f p
below f g (second ∷ p) = g p

-- how many a parse tree has round each node of its bare tree
abbrev pairs_at : {s : Sort} → Expr s → List Branch → ℕ
pairs_at (atom x) p = nowhere p
pairs_at (paren a) p = more (pairs_at a) p
pairs_at (prefix x a) p = below (pairs_at a) nowhere p
pairs_at (binary o a b) p = below (pairs_at a) (pairs_at b) p
pairs_at (cast a t) p = below (pairs_at a) nowhere p
pairs_at (member m a) p = below (pairs_at a) nowhere p
pairs_at (try a) p = below (pairs_at a) nowhere p
pairs_at (index a b) p = below (pairs_at a) (pairs_at b) p
pairs_at (call a l) p = below (pairs_at a) (pairs_at l) p
pairs_at (method y a l) p = below (pairs_at a) (pairs_at l) p
pairs_at no_arguments p = nowhere p
pairs_at (arguments l) p = pairs_at l p
pairs_at (last_argument comma a) p = below (pairs_at a) nowhere p
pairs_at (more_arguments a l) p = below (pairs_at a) (pairs_at l) p

-- ---- the tokens with them

tokens_by : (List Branch → ℕ) → Tree → List Token → List Token
tokens_by f none rest = rest
tokens_by f (node l a b) rest = round (f []) (inside (signs_of l b) (tokens_by (λ p. f (first ∷ p)) a) (tokens_by (λ p. f (second ∷ p)) b)) rest

by_signs : (f g : List Branch → ℕ) (l : Label) (a b : Tree) (s : Signs) → signs_of l b ≡ s → (rest : List Token) → tokens_by (below f g) (node l a b) rest ≡ inside s (tokens_by f a) (tokens_by g b) rest
unfolding tokens_by
by_signs f g l a b s e rest = ap (λ z. inside z (tokens_by f a) (tokens_by g b) rest) e

-- what closes a list of types stands behind its tree
abbrev closed : Sort → List Token → List Token
closed one rest = rest
closed list rest = operator gt ∷ rest
closed items rest = operator gt ∷ rest

types_made : {s : Sort} (t : Ty s) (rest : List Token) → tokens_by nowhere (tree_of_type t) (closed s rest) ≡ write_type (without_type_commas t) rest
unfolding tokens_by signs_of sign_lines lookup pick
types_made (named y) rest = refl
types_made (applied y l) rest = ap (λ r. name_token y ∷ operator lt ∷ r) (types_made l rest)
types_made (pointing p t) rest =
    ap (λ s. inside s (tokens_by nowhere (tree_of_type t)) (tokens_by nowhere none) rest) (type_prefix_signs p) ∙ ap (λ r. type_prefix_token p ∷ r) (types_made t rest)
types_made (sign x) rest = ap (λ s. inside s (tokens_by nowhere none) (tokens_by nowhere none) rest) (type_sign_signs x)
types_made no_types rest = refl
types_made (types l) rest = types_made l rest
types_made (last_type comma t) rest = types_made t (operator gt ∷ rest)
types_made (more_types t l) rest =
    ap (λ s. inside s (tokens_by nowhere (tree_of_type t)) (tokens_by nowhere (tree_of_type l)) (operator gt ∷ rest)) (type_link_signs l)
    ∙ types_made t (comma_token ∷ tokens_by nowhere (tree_of_type l) (operator gt ∷ rest))
    ∙ ap (λ r. write_type (without_type_commas t) (comma_token ∷ r)) (types_made l rest)

-- a parse tree's bare tree has a node
there : (e : Expr one) → is_there (tree_of (bare e)) ≡ true
there (atom x) = refl
there (paren a) = there a
there (prefix p a) = refl
there (binary o a b) = refl
there (cast a t) = refl
there (member m a) = refl
there (try a) = refl
there (index a b) = refl
there (call a l) = refl
there (method y a l) = refl

by_more : (f : List Branch → ℕ) (t : Tree) → is_there t ≡ true → (rest : List Token) → tokens_by (more f) t rest ≡ left_paren ∷ tokens_by f t (right_paren ∷ rest)
unfolding tokens_by
by_more f none e rest = true_not_false (sym e)
by_more f (node l a b) e rest = refl

abbrev Made : (s : Sort) → Expr s → Type 0
Made one e = (rest : List Token) → tokens_by (pairs_at e) (tree_of (bare e)) rest ≡ write (without_commas e) rest
Made list l = (rest : List Token) → tokens_by (pairs_at l) (tree_of (bare l)) (right_paren ∷ rest) ≡ write (without_commas l) rest
Made items l = (rest : List Token) → tokens_by (pairs_at l) (tree_of (bare l)) (right_paren ∷ rest) ≡ write (without_commas l) rest

made : (s : Sort) (e : Expr s) → Made s e
unfolding tokens_by signs_of sign_lines lookup pick
made s (atom x) = λ rest. ap (λ z. inside z (tokens_by nowhere none) (tokens_by nowhere none) rest) (atom_signs x)
made s (paren a) = λ rest. by_more (pairs_at a) (tree_of (bare a)) (there a) rest ∙ ap (λ r. left_paren ∷ r) (made one a (right_paren ∷ rest))
made s (prefix p a) = λ rest. by_signs (pairs_at a) nowhere (prefix_label p) (tree_of (bare a)) none (signs (prefix_token p ∷ []) [] []) (prefix_signs p) rest ∙ ap (λ r. prefix_token p ∷ r) (made one a rest)
made s (binary o a b) = λ rest.
    by_signs (pairs_at a) (pairs_at b) (operator_label o) (tree_of (bare a)) (tree_of (bare b)) (signs [] (operator o ∷ []) []) (operator_signs o (tree_of (bare b))) rest
    ∙ made one a (operator o ∷ tokens_by (pairs_at b) (tree_of (bare b)) rest)
    ∙ ap (λ r. write (without_commas a) (operator o ∷ r)) (made one b rest)
made s (cast a t) = λ rest. made one a (as_token ∷ tokens_by nowhere (tree_of_type t) rest) ∙ ap (λ r. write (without_commas a) (as_token ∷ r)) (types_made t rest)
made s (member m a) = λ rest. by_signs (pairs_at a) nowhere (member_label m) (tree_of (bare a)) none (signs [] (dot ∷ member_token m ∷ []) []) (member_signs m) rest ∙ made one a (dot ∷ member_token m ∷ rest)
made s (try a) = λ rest. made one a (question ∷ rest)
made s (index a b) = λ rest.
    made one a (left_bracket ∷ tokens_by (pairs_at b) (tree_of (bare b)) (right_bracket ∷ rest)) ∙ ap (λ r. write (without_commas a) (left_bracket ∷ r)) (made one b (right_bracket ∷ rest))
made s (call a l) = λ rest.
    made one a (left_paren ∷ tokens_by (pairs_at l) (tree_of (bare l)) (right_paren ∷ rest)) ∙ ap (λ r. write (without_commas a) (left_paren ∷ r)) (made list l rest)
made s (method y a l) = λ rest.
    made one a (dot ∷ name_token y ∷ left_paren ∷ tokens_by (pairs_at l) (tree_of (bare l)) (right_paren ∷ rest)) ∙ ap (λ r. write (without_commas a) (dot ∷ name_token y ∷ left_paren ∷ r)) (made list l rest)
made s no_arguments = λ rest. refl
made s (arguments l) = λ rest. made items l rest
made s (last_argument comma a) = λ rest. made one a (right_paren ∷ rest)
made s (more_arguments a l) = λ rest.
    by_signs (pairs_at a) (pairs_at l) (label link 0) (tree_of (bare a)) (tree_of (bare l)) (signs [] (comma_token ∷ []) []) (link_signs (bare l)) (right_paren ∷ rest)
    ∙ made one a (comma_token ∷ tokens_by (pairs_at l) (tree_of (bare l)) (right_paren ∷ rest))
    ∙ ap (λ r. write (without_commas a) (comma_token ∷ r)) (made items l rest)

-- ---- from paths to numbers

module _ (cells : List ℕ) (count : ℕ) (way : ℕ → ℕ) where
  round_by : (n : ℕ) {f g : List Token → List Token} → ((r : List Token) → f r ≡ g r) → (rest : List Token) → round n f rest ≡ round n g rest
  round_by zero h rest = h rest
  round_by (suc n) h rest = ap (λ r. left_paren ∷ r) (round_by n h (right_paren ∷ rest))

  by_numbers : (t : Tree) (i : ℕ) (f : List Branch → ℕ) → ((p : List Branch) → is_there (tree_by t p) ≡ true → way (number_at cells count i p) ≡ f p) → (rest : List Token) → tokens_with cells count way i t rest ≡ tokens_by f t rest
  unfolding tokens_with tokens_by
  by_numbers none i f k rest = refl
  by_numbers (node l a b) i f k rest =
      ap (λ n. round n (inside (signs_of l b) (tokens_with cells count way (operand_at cells count i first_column) a) (tokens_with cells count way (operand_at cells count i second_column) b)) rest) (k [] refl)
      ∙ round_by (f [])
      (inside_by (signs_of l b)
      (by_numbers a (operand_at cells count i first_column) (λ p. f (first ∷ p)) (λ p e. k (first ∷ p) e))
      (by_numbers b (operand_at cells count i second_column) (λ p. f (second ∷ p)) (λ p e. k (second ∷ p) e)))
      rest

module _ (count : ℕ) (cells : List ℕ) (ok : Accepted (context_number NONE) count cells) (plain : plain_table count cells ≡ true) where
  module _ (f : List Branch → ℕ) where
    -- what f gives at the path that leads to node j
    at_node : (j : ℕ) → Dec (1 ≤ j) → Dec (j ≤ count) → ℕ
    at_node j (yes low) (yes high) = f (reached cells count (context_number NONE) ok j low high).path
    at_node j (yes low) (no high) = 0
    at_node j (no low) high = 0

    way : ℕ → ℕ
    way j = at_node j (dec_le 1 j) (dec_le j count)

    way_at : (p : List Branch) → is_there (tree_by (tree_at cells count 1) p) ≡ true → way (number_at cells count 1 p) ≡ f p
    unfolding at_node way
    way_at p e = go (dec_le 1 (number_at cells count 1 p)) (dec_le (number_at cells count 1 p) count)
      where
        low : 1 ≤ number_at cells count 1 p
        low = there_at cells count 1 p e

        high : number_at cells count 1 p ≤ count
        high = high_at NONE count cells ok plain p e

        go : (a : Dec (1 ≤ number_at cells count 1 p)) (b : Dec (number_at cells count 1 p ≤ count)) → at_node (number_at cells count 1 p) a b ≡ f p
        go (yes l) (yes h) =
            let r = reached cells count (context_number NONE) ok (number_at cells count 1 p) l h in
            let there : 1 ≤ number_at cells count 1 r.path = omega (arith, r.leads) in
            ap f (one_path cells count (context_number NONE) ok 1 r.path p (omega arith) (omega arith) there r.leads)
        go (yes l) (no h) = absurd (h high)
        go (no l) b = absurd (l low)

  pub every : (tokens : List ℕ) → Reads NONE tokens (tree_at cells count 1) → (way : ℕ → ℕ) × CommasPut (cells_with count cells way) tokens
  every tokens r =
      let e = r.parsed in
      let root : tree_at cells count 1 ≡ tree_of (bare e) = sym r.same ∙ without_bare e in
      let w = way (pairs_at e) in
      let same = by_numbers cells count w (tree_at cells count 1) 1 (pairs_at e) (way_at (pairs_at e)) [] ∙ ap (λ t. tokens_by (pairs_at e) t []) root ∙ made one e [] in
      (w, subst (λ c. CommasPut (cells_of c) tokens) (sym same) (subst (CommasPut (cells_of (write (without_commas e) []))) r.whole (puts e [] [] ended)))
