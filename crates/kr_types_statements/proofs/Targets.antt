-- The rules on writes see of the target only whether it is a variable.
use Rattle.std.proofs.Common.{◌≡◌, ap}
use Rattle.std.specs.Prelude.{Bool, not}
use Rattle.kr_ast.specs.declared.node.BinaryOperator.{BinaryOperator}
use Rattle.kr_classes_table.specs.Table.{is_assignable}
use Rattle.kr_types_meaning.specs.Promotion.{is_number}
use Rattle.kr_types_meaning.specs.Rules.{Typed, Fits, Value, ask, is_broken, is_code, is_variable, operator_rule, step_rule, assignment_rule, compound_rule}
use Rattle.kr_types_meaning.specs.Scopes.{Scope}
use Rattle.kr_types_meaning.specs.Typing.{on_one, on_two}

pub step_target : (s : Scope) (a b x : Typed) → is_variable a ≡ is_variable b → on_one (step_rule s a) x ≡ on_one (step_rule s b) x
step_target s a b x e = ap (λ (v : Bool). on_one (λ t. ask (is_number t) 18 (ask v 19 (ask (is_code s.part) 39 (Fits (Value t))))) x) e

pub assignment_target : (s : Scope) (a b x y : Typed) → is_variable a ≡ is_variable b → on_two (assignment_rule s a) x y ≡ on_two (assignment_rule s b) x y
assignment_target s a b x y e = ap (λ (v : Bool). on_two (λ to from. ask (is_assignable s.table from to) 16 (ask v 19 (ask (is_code s.part) 39 (Fits (Value to))))) x y) e

pub compound_target : (s : Scope) (o : BinaryOperator) (a b x y : Typed) → is_variable a ≡ is_variable b → on_two (compound_rule s o a) x y ≡ on_two (compound_rule s o b) x y
compound_target s o a b x y e = ap (λ (v : Bool). on_two (λ to from. ask (not (is_broken (operator_rule s o to from))) 17 (ask v 19 (ask (is_code s.part) 39 (Fits (Value to))))) x y) e
