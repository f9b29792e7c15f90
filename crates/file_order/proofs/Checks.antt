-- What the checks of a file say of its header and its nodes. Assumes nothing.
use mathlib.Core.Path.{◌≡◌, sym, ◌∙◌}
use mathlib.Core.List.{List, [], ◌∷◌}
use Prim.Native.Nat.{ℕ, ◌*◌, ◌≤◌, ◌<◌}
use native.Mathlib.Omega.{arith}
use lib.Dec.{ltb}
use lib.ListN.{drop}
use borrow.Author.Tests.{eq-eqb, ne_eqb, lt-ltb, le-ltb}
use Rattle.tree.specs.Sizes.{node_cells}
use Rattle.laws.specs.Choice.{pick}
use Rattle.laws.proofs.Choice.{pick_true, pick_false}
use Rattle.file_loader.specs.Several.{broken, numbers, values_in}
use Rattle.file_loader.specs.Files.{header, context_in, count_in, body, cells_in, refusal2}
use Rattle.file_loader.proofs.Several.{not_broken}
use Rattle.file_loader.proofs.Files.{begun, Passes, file_passes}
use Rattle.std.specs.declared.cmp.Ordering.{Ordering}
use Rattle.std.specs.declared.cmp.Ordering.TheVariants.{Less, Greater}
use Rattle.std.specs.Prelude.{Ok, Err}
use Rattle.tree.specs.declared.refusal.Refusal.{Refusal}
use Rattle.tree.specs.Replies.{replied}
use Rattle.file_loader.specs.declared.Header.{Header}
use Rattle.file_loader.proofs.Replied.{done_by, said_err}
use Rattle.file_order.specs.Orders.{most_cells, key_of, in_order, checks_of, compare_refusal, compared}
use Rattle.file_order.specs.Heads.{run}
use Rattle.file_order.proofs.Runs.{Formed}

-- ---- a file that is accepted

-- the header of a file, and the place of its nodes
pub record HeadOf (file : List ℕ) (head : Header) : Type 0 where
  pub is_context : head.context ≡ context_in file
  pub is_count : head.count ≡ count_in file
  pub is_body : body file ≡ run file head.body (node_cells * head.count)

module _ (file : List ℕ) (ok : checks_of file ≡ 0) where
  fine : Passes file most_cells
  unfolding checks_of
  fine = (file_passes file most_cells ok).0

  -- its header is read
  pub no_header : {A : Type 0} → header file ≡ broken → A
  unfolding refusal2
  no_header e = not_broken (header file) fine.headed e

  pub head_is : (h : Header) → header file ≡ numbers (h.context ∷ h.count ∷ []) (drop h.body file) → HeadOf file h
  head_is h e =
      let b = begun file h.context h.count h.body fine.short e in
      record { is_context = sym b.is_context; is_count = sym b.is_count; is_body = b.is_body }

  -- the nodes' numbers, from their place on
  pub nodes_formed : (h : Header) → HeadOf file h → Formed (run file h.body (node_cells * h.count))
  nodes_formed h e = rw e.is_body at fine.formed

  pub nodes_are : (h : Header) → HeadOf file h → cells_in file ≡ values_in (run file h.body (node_cells * h.count))
  unfolding cells_in
  nodes_are h e = rw e.is_body

-- ---- two files that are accepted, by their headers and their nodes

module _ (first second : List ℕ) (one two : Header) (p : HeadOf first one) (q : HeadOf second two) where
  by_contexts : in_order (key_of first) (key_of second) ≡ pick (ltb one.context two.context) Less (pick (ltb two.context one.context) Greater (in_order (cells_in first) (cells_in second)))
  unfolding key_of in_order
  by_contexts = rw (p.is_context, q.is_context)

  pub context_before : one.context < two.context → Less ≡ in_order (key_of first) (key_of second)
  context_before h = sym (by_contexts ∙ pick_true _ _ (lt-ltb one.context two.context h))

  pub context_after : two.context < one.context → Greater ≡ in_order (key_of first) (key_of second)
  context_after h = sym (by_contexts ∙ pick_false _ _ (le-ltb one.context two.context (omega arith)) ∙ pick_true _ _ (lt-ltb two.context one.context h))

  pub by_nodes : checks_of first ≡ 0 → checks_of second ≡ 0 → two.context ≤ one.context → one.context ≤ two.context → (r : Ordering)
      → r ≡ in_order (values_in (run first one.body (node_cells * one.count))) (values_in (run second two.body (node_cells * two.count)))
      → r ≡ in_order (key_of first) (key_of second)
  by_nodes ok fine h j r e =
      e
      ∙ sym
      (by_contexts
      ∙ pick_false _ _ (le-ltb one.context two.context h)
      ∙ pick_false _ _ (le-ltb two.context one.context j)
      ∙ rw (nodes_are first ok one p, nodes_are second fine two q))

-- ---- what is answered

module _ (first second : List ℕ) where
  pub first_refused : {B : Type 0} (b : B) (e : Refusal) → Err e ≡ replied (checks_of first) b → Err e ≡ compared first second
  unfolding compared compare_refusal
  first_refused b e h =
      let s = said_err Ordering (checks_of first) b (in_order (key_of first) (key_of second)) e h in
      rw (pick_false (checks_of second) (checks_of first) (ne_eqb (checks_of first) 0 s.1)) s.0

  module _ (ok : checks_of first ≡ 0) where
    pub second_refused : {B : Type 0} (b : B) (e : Refusal) → Err e ≡ replied (checks_of second) b → Err e ≡ compared first second
    unfolding compared compare_refusal
    second_refused b e h =
        rw (pick_true (checks_of second) (checks_of first) (eq-eqb (checks_of first) 0 ok))
        (said_err Ordering (checks_of second) b (in_order (key_of first) (key_of second)) e h).0

    pub both_accepted : checks_of second ≡ 0 → (r : Ordering) → r ≡ in_order (key_of first) (key_of second) → Ok r ≡ compared first second
    unfolding compared compare_refusal
    both_accepted fine r e =
        rw (e, pick_true (checks_of second) (checks_of first) (eq-eqb (checks_of first) 0 ok)) (done_by (checks_of second) (in_order (key_of first) (key_of second)) fine)
