-- prettyplease's fixup.rs: FixupContext's constructors, and the contexts that it hands down.
use Rattle.std.specs.Prelude.{Bool, true, false, not, ◌&&◌, ◌||◌}
use Rattle.precedence.specs.declared.Precedence.{Precedence}
use Rattle.precedence.specs.declared.Precedence.TheVariants.{Jump, Unambiguous}
use Rattle.fixup.specs.declared.context.FixupContext.{FixupContext}

-- NONE, but for the flags that new_stmt, new_match_arm and new_condition set; new_condition sets two
abbrev pub new_context : Bool → Bool → Bool → FixupContext
new_context stmt arm condition = record {
  previous_operator = Jump;
  next_operator = Jump;
  stmt = stmt;
  leftmost_subexpression_in_stmt = false;
  match_arm = arm;
  leftmost_subexpression_in_match_arm = false;
  condition = condition;
  rightmost_subexpression_in_condition = condition;
  leftmost_subexpression_in_optional_operand = false;
  next_operator_can_begin_expr = false;
  next_operator_can_continue_expr = false;
  next_operator_can_begin_generics = false;
}

-- FixupContext::NONE
abbrev pub none_context : FixupContext
none_context = new_context false false false

-- FixupContext::new_stmt
abbrev pub new_stmt : FixupContext
new_stmt = new_context true false false

-- FixupContext::new_match_arm
abbrev pub new_match_arm : FixupContext
new_match_arm = new_context false true false

-- FixupContext::new_condition
abbrev pub new_condition : FixupContext
new_condition = new_context false false true

-- the context of leftmost_subexpression_with_operator. Here and below, a field of x as it is stands for `..self`
abbrev pub with_operator : FixupContext → Bool → Bool → Precedence → FixupContext
with_operator x begins generics next = record {
  previous_operator = x.previous_operator;
  next_operator = next;
  stmt = false;
  leftmost_subexpression_in_stmt = x.stmt || x.leftmost_subexpression_in_stmt;
  match_arm = false;
  leftmost_subexpression_in_match_arm = x.match_arm || x.leftmost_subexpression_in_match_arm;
  condition = x.condition;
  rightmost_subexpression_in_condition = false;
  leftmost_subexpression_in_optional_operand = x.leftmost_subexpression_in_optional_operand;
  next_operator_can_begin_expr = begins;
  next_operator_can_continue_expr = true;
  next_operator_can_begin_generics = generics;
}

-- the context of leftmost_subexpression_with_dot
abbrev pub with_dot : FixupContext → FixupContext
with_dot x = record {
  previous_operator = x.previous_operator;
  next_operator = Unambiguous;
  stmt = x.stmt || x.leftmost_subexpression_in_stmt;
  leftmost_subexpression_in_stmt = false;
  match_arm = x.match_arm || x.leftmost_subexpression_in_match_arm;
  leftmost_subexpression_in_match_arm = false;
  condition = x.condition;
  rightmost_subexpression_in_condition = false;
  leftmost_subexpression_in_optional_operand = x.leftmost_subexpression_in_optional_operand;
  next_operator_can_begin_expr = false;
  next_operator_can_continue_expr = true;
  next_operator_can_begin_generics = false;
}

-- rightmost_subexpression_fixup
abbrev pub rightmost : FixupContext → Bool → Bool → Precedence → FixupContext
rightmost x reset optional previous = record {
  previous_operator = previous;
  next_operator = x.next_operator;
  stmt = false;
  leftmost_subexpression_in_stmt = false;
  match_arm = false;
  leftmost_subexpression_in_match_arm = false;
  condition = x.condition && not reset;
  rightmost_subexpression_in_condition = x.rightmost_subexpression_in_condition;
  leftmost_subexpression_in_optional_operand = x.condition && optional;
  next_operator_can_begin_expr = x.next_operator_can_begin_expr;
  next_operator_can_continue_expr = x.next_operator_can_continue_expr;
  next_operator_can_begin_generics = x.next_operator_can_begin_generics;
}
