-- The rules of types don't look at the result of the method, but for that of `\result`.
use Rattle.std.proofs.Common.{◌≡◌, ℕ, Bool, true, false, List, [], ◌∷◌, Option, Some, None, refl, ap}
use Rattle.std.specs.Prelude.{◌&&◌, ◌||◌, not, option_and_then, if◌then◌else◌}
use Rattle.kr_ast.specs.declared.node.UnaryOperator.{UnaryOperator}
use Rattle.kr_ast.specs.declared.node.UnaryOperator.TheVariants as unaries
use Rattle.kr_ast.specs.declared.node.BinaryOperator.{BinaryOperator}
use Rattle.kr_ast.specs.Tree as trees
use Rattle.kr_ast.specs.Tree.{Tree}
use Rattle.kr_classes_table.specs.Types.{JavaType, ClassType, ArrayType, SetType, ListType}
use Rattle.kr_classes_table.specs.Table.{Parameter, Method, method_named, constructor_parameters}
use Rattle.kr_types_meaning.specs.declared.operators.OperatorKind.{OperatorKind}
use Rattle.kr_types_meaning.specs.declared.operators.OperatorKind.TheVariants.{Equality}
use Rattle.kr_types_meaning.specs.Scopes.{Scope, Meant, LocalName, FieldName, NoName, class_before, super_class}
use Rattle.kr_types_meaning.specs.Rules.{Typed, Judgement, Fits, Breaks, Value, ask, takes, is_code, is_broken, arguments_fit, result_rule, arguments_rule, call_rule, static_rule, above_rule, super_rule, method_rule, collection_rule, object_call_rule, creation_fits, creation_rule, operator_rule, written_rule, compound_rule, access_rule, name_rule, kind_of, kind_rule}
use Rattle.kr_types_meaning.specs.Typing.{operand}
use Rattle.kr_run_method.specs.Results.{without_result}

pub class_same : (s : Scope) (e : Tree) → class_before (without_result s) e ≡ class_before s e
class_same s (trees.Variable p n) = refl
class_same s _ = refl

pub operand_same : (o : UnaryOperator) (s : Scope) → operand o (without_result s) ≡ without_result (operand o s)
operand_same unaries.Minus s = refl
operand_same unaries.Plus s = refl
operand_same unaries.Complement s = refl
operand_same unaries.Not s = refl

module _ (s : Scope) where
  abbrev there : Scope
  there = without_result s

  pub name_same : (m : Meant) → name_rule there m ≡ name_rule s m
  name_same (LocalName k t) = refl
  name_same (FieldName f) = refl
  name_same NoName = refl

  arguments_fit_same : (ts : List JavaType) (ps : List Parameter) → arguments_fit there ts ps ≡ arguments_fit s ts ps
  arguments_fit_same [] [] = refl
  arguments_fit_same (t ∷ ts) (p ∷ ps) = ap (λ (x : Bool). takes s p.type t && x) (arguments_fit_same ts ps)
  arguments_fit_same [] (p ∷ ps) = refl
  arguments_fit_same (t ∷ ts) [] = refl

  arguments_same : (ts : List JavaType) (m : Method) → arguments_rule there ts m ≡ arguments_rule s ts m
  arguments_same ts m = ap (λ (x : Bool). ask x 24 (result_rule s m)) (arguments_fit_same ts m.parameters)

  pub call_same : (m : Option Method) (ts : List JavaType) → call_rule there m ts ≡ call_rule s m ts
  call_same None ts = refl
  call_same (Some m) ts = ap (λ (x : Judgement). ask (m.is_static || not s.is_static) 5 x) (arguments_same ts m)

  pub static_same : (m : Option Method) (ts : List JavaType) → static_rule there m ts ≡ static_rule s m ts
  static_same None ts = refl
  static_same (Some m) ts = ap (λ (x : Judgement). ask m.is_static 24 x) (arguments_same ts m)

  above_same : (m : Option Method) (ts : List JavaType) → above_rule there m ts ≡ above_rule s m ts
  above_same None ts = refl
  above_same (Some m) ts = ap (λ (x : Judgement). if m.is_static then Breaks 33 else x) (arguments_same ts m)

  pub super_same : (n : List ℕ) (ts : List JavaType) → super_rule there n ts ≡ super_rule s n ts
  super_same n ts = ap (λ (x : Judgement). ask (not s.is_static) 5 x) (above_same (option_and_then (λ c. method_named s.table c n) (super_class s)) ts)

  method_same : (m : Option Method) (ts : List JavaType) → method_rule there m ts ≡ method_rule s m ts
  method_same None ts = refl
  method_same (Some m) ts = arguments_same ts m

  collection_same : (is_list : Bool) (t : JavaType) (n : List ℕ) (ts : List JavaType) → collection_rule there is_list t n ts ≡ collection_rule s is_list t n ts
  collection_same is_list t n [] = refl
  collection_same is_list t n (x ∷ []) = refl
  collection_same is_list t n (x ∷ y ∷ xs) = refl

  pub object_call_same : (n : List ℕ) (t : JavaType) (ts : List JavaType) → object_call_rule there n t ts ≡ object_call_rule s n t ts
  object_call_same n (ClassType c) ts = method_same (method_named s.table c n) ts
  object_call_same n (SetType t) ts = collection_same false t n ts
  object_call_same n (ListType t) ts = collection_same true t n ts
  object_call_same n _ ts = refl

  pub access_same : (n : List ℕ) (t : JavaType) → access_rule there n t ≡ access_rule s n t
  access_same n (ClassType c) = refl
  access_same n (ArrayType t) = refl
  access_same n _ = refl

  fits_same : (t : JavaType) (ts : List JavaType) → creation_fits there t ts ≡ creation_fits s t ts
  fits_same (ClassType c) ts = arguments_fit_same ts (constructor_parameters s.table c)
  fits_same (SetType t) ts = refl
  fits_same (ListType t) ts = refl
  fits_same _ ts = refl

  pub creation_same : (t : JavaType) (ts : List JavaType) → creation_rule there t ts ≡ creation_rule s t ts
  creation_same t ts = ap (λ (x : Bool). ask x 26 (ask (is_code s.part) 39 (Fits (Value t)))) (fits_same t ts)

  kind_same : (o : OperatorKind) (t u : JavaType) → kind_rule there o t u ≡ kind_rule s o t u
  kind_same Equality t u = refl
  kind_same _ t u = refl

  pub operator_same : (o : BinaryOperator) (t u : JavaType) → operator_rule there o t u ≡ operator_rule s o t u
  operator_same o t u = kind_same (kind_of o) t u

  pub compound_same : (o : BinaryOperator) (x : Typed) (t u : JavaType) → compound_rule there o x t u ≡ compound_rule s o x t u
  compound_same o x t u = ap (λ (v : Judgement). ask (not (is_broken v)) 17 (written_rule s x t)) (operator_same o t u)
