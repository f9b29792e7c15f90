-- The computed edits answer as they should. Assumes nothing.
use mathlib.Core.Path.{◌≡◌, refl}
use mathlib.Core.Bool.{true}
use Rattle.laws.specs.Choice.{pick, lookup}
use Rattle.laws.specs.Each.{some}
use Rattle.tree.specs.Forms.{class_of, highest_attributes, details, highest_detail, symbols, highest_symbol, allowed}
use Rattle.tree_places.specs.Places.{first_places, first_place, second_places, second_place, wrong_class, wrong_list, wrong_item, wrong_next, wrong_at, bad_operands}
use Rattle.tree_rules.specs.Refusals.{refusal_then, refusal3, refusal4, bad_numbers, refusal6, refusal7, misplaced, bad_order, owners, bad_owner, refusal8, empty, refusal9, plain_block, bad_output, refusal10, refusal11, first_of, node_refusals, refusal}
use Rattle.tree.specs.Table.{cell_at}
use Rattle.tree.specs.Trees.{label_at, operand_of, tree_to, tree_at, own_level, levels}
use Rattle.tree.specs.Walks.{follow, walk, at_root}
use Rattle.precedence.specs.Precedences.{operators, of_binop, prefix_attrs, of_lines, closed_by, precedence_of}
use Rattle.classify.specs.Classify.{comma_lines, requires_comma, requires_semi, last_type_in_path, path_lines, trailing_path, label_lines, leading_label}
use Rattle.fixup_look.specs.Looks.{is_let, is_struct, is_bare_return, is_open_ended, is_plain_block, is_bare_jump, is_open_ahead, is_cast_to_path}
use Rattle.fixup.specs.Fixup.{parenthesize, effective, left_of_binary, scan_left_lines, scan_left}
use Rattle.fixup_scan.specs.Scans.{loose, scanned, right_by, binds, consumes, consume_by, assign, binary, prefix, range, jump, bare_jump, lets, closed, scan_lines, scan_right, rightmost_precedence, bails_out, leftmost_precedence}
use Rattle.expr.specs.Expr.{can_begin_expr, can_begin_generics, left_needs_group, right_needs_group, binary_left, binary_right, callee_lines, named_field, call_needs_group, first_lines, hands_first, second_lines, hands_second}
use Rattle.expr.specs.Handed.{grouped_by, ungrouped, neither}
use Rattle.row_pack.specs.Cells.{of_bits, flags_of}
use Rattle.row.specs.Rows.{outer_pair, inner_lines, expression_row, row_of, own_context, rows_of}
use Rattle.row_walk.specs.Walk.{contexts, context_numbered, row_stored, placed, decide_refusal12, decided, rows_after}
use Rattle.tree.specs.Operands.{form_in}
use Rattle.laws.specs.Lists.{over}
use Rattle.tree_numbering.specs.Numbered.{size, number_of, cells_from, numbered}
use Rattle.tree_numbering.specs.Replaced.{replaced}
use Rattle.sheet_edit.specs.Edits.{refusal17, refusal18, edit_refusal12, edit_refusal, result_table, result_rows}
use Rattle.sheet_edit.specs.Cases.{all_hold}

pub computed : all_hold ≡ true
unfolding pick lookup some class_of highest_attributes details highest_detail symbols highest_symbol allowed first_places first_place second_places second_place wrong_class wrong_list wrong_item wrong_next wrong_at refusal3 refusal4 bad_numbers refusal6 bad_operands refusal7 misplaced bad_order owners bad_owner refusal8 empty refusal9 plain_block bad_output refusal10 refusal11 first_of node_refusals refusal cell_at label_at operand_of tree_to tree_at own_level levels follow walk at_root operators of_binop prefix_attrs of_lines closed_by precedence_of comma_lines requires_comma requires_semi last_type_in_path path_lines trailing_path label_lines leading_label parenthesize effective left_of_binary scan_left_lines scan_left binds consumes consume_by loose scanned right_by scan_right rightmost_precedence bails_out leftmost_precedence can_begin_expr can_begin_generics left_needs_group right_needs_group binary_left binary_right callee_lines named_field call_needs_group first_lines hands_first second_lines hands_second grouped_by ungrouped neither of_bits flags_of outer_pair inner_lines expression_row row_of own_context rows_of contexts context_numbered row_stored placed decide_refusal12 decided rows_after assign binary prefix range jump bare_jump lets closed scan_lines is_let is_struct is_bare_return is_open_ended is_plain_block is_bare_jump is_open_ahead is_cast_to_path form_in over size number_of cells_from numbered replaced refusal_then refusal17 refusal18 edit_refusal12 edit_refusal result_table result_rows
computed = refl
