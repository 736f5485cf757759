-- The kinds of types that the typing rules give.
use Rattle.std.proofs.Common.{◌≡◌, ℕ, Bool, true, false, List, [], ◌∷◌, length, Option, Some, None, refl, ap, ◌∙◌}
use Rattle.std.specs.Prelude.{◌&&◌, ◌||◌, not, bytes_eq, codes, option_and_then, if◌then◌else◌}
use Rattle.std.proofs.lemmas.Bool.{and_parts, or_right}
use Rattle.kr_ast.specs.declared.node.UnaryOperator.{UnaryOperator}
use Rattle.kr_ast.specs.declared.node.UnaryOperator.TheVariants as unaries
use Rattle.kr_ast.specs.declared.node.BinaryOperator.{BinaryOperator}
use Rattle.kr_classes_table.specs.Numbers.{Width, wider}
use Rattle.kr_classes_table.specs.Types.{JavaType, NumberType, int_type, BooleanType, VoidType, ClassType, ArrayType, SetType, ListType, is_known, is_element, is_void}
use Rattle.kr_classes_table.specs.Table.{Field, Method, field_named, method_named, is_assignable, are_related}
use Rattle.kr_classes_table.specs.Constants.{constant_only, or_else, outer_class, field_meant}
use Rattle.kr_types_meaning.specs.declared.operators.OperatorKind.{OperatorKind}
use Rattle.kr_types_meaning.specs.declared.operators.OperatorKind.TheVariants.{Arithmetic, Shift, Comparison, Equality, Bitwise, Logical}
use Rattle.kr_types_meaning.specs.Scopes.{Scope, Local, LocalName, meant_by, meant, static_only, method_meant, super_class}
use Rattle.kr_types_meaning.specs.Rules as rules
use Rattle.kr_types_meaning.specs.Promotion.{promoted, promoted_alone, is_number}
use Rattle.kr_types_meaning.specs.Rules.{Typed, Value, Variable, Values, Untyped, Judgement, Fits, Breaks, ask, gives, variable_of, number_rule, this_rule, name_rule, unary_rule, operator_rule, choice_rule, cast_rule, instance_rule, written_rule, is_broken, assignment_rule, compound_rule, step_rule, field_rule, access_rule, constant_rule, element_rule, result_rule, arguments_rule, call_rule, static_rule, above_rule, super_rule, collection_rule, method_rule, object_call_rule, creation_fits, creation_rule, array_creation_rule, result_value_rule, old_rule, is_statement, of_promoted, both_boolean, kind_of, kind_rule}
use Rattle.kr_laws_types.specs.Types.{is_variable_type, is_result_type, is_inferred, is_value_type, is_expression_type, AreVariables, HasVariables}

-- ---- a node's type

abbrev pub AreValues : List JavaType → Type 0
AreValues [] = Unit {0}
AreValues (t ∷ ts) = (is_value_type t ≡ true) × AreValues ts

-- of an expression that may be written or not, and that is a statement or not
abbrev pub Good : Bool → Bool → Typed → Type 0
Good place statement Untyped = Unit {0}
Good place statement (Value t) = is_expression_type statement t ≡ true
Good place statement (Variable t) = (place ≡ true) × (is_variable_type t ≡ true)
Good place statement (Values ts) = ⊥

abbrev pub Fine : Bool → Bool → Judgement → Type 0
Fine place statement (Fits x) = Good place statement x
Fine place statement (Breaks r) = Unit {0}

pub fine_ask : (place statement : Bool) (b : Bool) (r : ℕ) (v : Judgement) → (b ≡ true → Fine place statement v) → Fine place statement (ask b r v)
fine_ask place statement true r v h = h refl
fine_ask place statement false r v h = tt

fine_if : (place statement : Bool) (b : Bool) (v w : Judgement) → Fine place statement v → Fine place statement w → Fine place statement (if b then v else w)
fine_if place statement true v w h k = h
fine_if place statement false v w h k = k

-- ---- kinds of types

pub variable_value : (t : JavaType) → is_variable_type t ≡ true → is_value_type t ≡ true
variable_value (NumberType w) e = refl
variable_value BooleanType e = refl
variable_value (ClassType c) e = refl
variable_value (ArrayType t) e = e
variable_value (SetType t) e = or_right (is_inferred t) _ e
variable_value (ListType t) e = or_right (is_inferred t) _ e
variable_value _ e = absurd (cc (e))

pub variable_known : (t : JavaType) → is_variable_type t ≡ true → is_known t ≡ true
variable_known (NumberType w) e = refl
variable_known BooleanType e = refl
variable_known (ClassType c) e = refl
variable_known (ArrayType t) e = variable_known t e
variable_known (SetType t) e = let r = and_parts (is_element t) (is_variable_type t) e in ap (λ (b : Bool). b && is_element t) (variable_known t r.1) ∙ r.0
variable_known (ListType t) e = let r = and_parts (is_element t) (is_variable_type t) e in ap (λ (b : Bool). b && is_element t) (variable_known t r.1) ∙ r.0
variable_known _ e = absurd (cc (e))

pub value_expression : (b : Bool) (t : JavaType) → is_value_type t ≡ true → is_expression_type b t ≡ true
value_expression true t e = or_right (is_void t) (is_value_type t) e
value_expression false t e = e

pub result_known : (t : JavaType) → is_result_type t ≡ true → is_known t ≡ true
result_known VoidType e = refl
result_known (NumberType w) e = refl
result_known BooleanType e = refl
result_known (ClassType c) e = refl
result_known (ArrayType t) e = variable_known (ArrayType t) e
result_known (SetType t) e = variable_known (SetType t) e
result_known (ListType t) e = variable_known (ListType t) e
result_known _ e = absurd (cc (e))

-- a result where there is one, and none only as a statement
result_expression : (b : Bool) (t : JavaType) → is_result_type t ≡ true → (not (is_void t) || b) ≡ true → is_expression_type b t ≡ true
result_expression true t e q = go (is_void t) e
  where
    go : (v : Bool) → (v || is_variable_type t) ≡ true → (v || is_value_type t) ≡ true
    go true e = refl
    go false e = variable_value t e
result_expression false t e q = go (is_void t) e q
  where
    go : (v : Bool) → (v || is_variable_type t) ≡ true → (not v || false) ≡ true → is_value_type t ≡ true
    go true e q = absurd (cc (q))
    go false e q = variable_value t e

good_value : (place b : Bool) (t : JavaType) → is_value_type t ≡ true → Fine place b (Fits (Value t))
good_value place b t e = value_expression b t e

good_int : (place b : Bool) → Fine place b (Fits (Value int_type))
good_int place b = value_expression b int_type refl

good_number : (place b : Bool) (w : Width) → Fine place b (Fits (Value (NumberType w)))
good_number place b w = value_expression b (NumberType w) refl

good_boolean : (place b : Bool) → Fine place b (Fits (Value BooleanType))
good_boolean place b = value_expression b BooleanType refl

-- a number's type is that of an expression
fine_alone : (b : Bool) (a : JavaType) (r : ℕ) → Fine false b (of_promoted (promoted_alone a) r)
fine_alone b (NumberType w) r = good_number false b w
fine_alone b _ r = tt

fine_promoted : (b : Bool) (a c : JavaType) (r : ℕ) → Fine false b (of_promoted (promoted a c) r)
fine_promoted b (NumberType v) (NumberType w) r = good_number false b (wider v w)
fine_promoted b _ c r = tt

good_known : (place b : Bool) (t : JavaType) → is_expression_type b t ≡ true → Fine place b (gives t)
good_known place b t e = go (is_known t)
  where
    go : (k : Bool) → Good place b (if k then Value t else Untyped)
    go true = e
    go false = tt

good_variable : (b : Bool) (t : JavaType) → is_variable_type t ≡ true → Fine true b (Fits (variable_of t))
good_variable b t e = go (is_known t)
  where
    go : (k : Bool) → Good true b (if k then Variable t else Untyped)
    go true = (refl, e)
    go false = tt

-- ---- members

abbrev FieldGood : Option Field → Type 0
FieldGood None = Unit {0}
FieldGood (Some f) = is_variable_type f.type ≡ true

abbrev MethodGood : Option Method → Type 0
MethodGood None = Unit {0}
MethodGood (Some m) = is_result_type m.result ≡ true

module _ (s : Scope) (has : HasVariables s.table) where
  field_good : (c : ℕ) (n : List ℕ) → FieldGood (field_named s.table c n)
  field_good c n = go (field_named s.table c n) refl
    where
      go : (x : Option Field) → field_named s.table c n ≡ x → FieldGood x
      go None e = tt
      go (Some f) e = has.fields c n f e

  method_good : (c : ℕ) (n : List ℕ) → MethodGood (method_named s.table c n)
  method_good c n = go (method_named s.table c n) refl
    where
      go : (x : Option Method) → method_named s.table c n ≡ x → MethodGood x
      go None e = tt
      go (Some m) e = has.results c n m e

  only_constant : (x : Option Field) → FieldGood x → FieldGood (option_and_then constant_only x)
  only_constant None h = tt
  only_constant (Some f) h = go f.is_static
    where
      go : (b : Bool) → FieldGood (if b then Some f else None)
      go true = h
      go false = tt

  only_static : (x : Option Method) → MethodGood x → MethodGood (option_and_then static_only x)
  only_static None h = tt
  only_static (Some m) h = go m.is_static
    where
      go : (b : Bool) → MethodGood (if b then Some m else None)
      go true = h
      go false = tt

  either_field : (x y : Option Field) → FieldGood x → FieldGood y → FieldGood (or_else x y)
  either_field (Some f) y h k = h
  either_field None y h k = k

  either_method : (x y : Option Method) → MethodGood x → MethodGood y → MethodGood (or_else x y)
  either_method (Some f) y h k = h
  either_method None y h k = k

  meant_good : (n : List ℕ) → FieldGood (field_meant s.table s.class n)
  meant_good n = either_field (field_named s.table s.class n) _ (field_good s.class n) (outer (outer_class s.table s.class))
    where
      outer : (o : Option ℕ) → FieldGood (option_and_then (λ c. option_and_then constant_only (field_named s.table c n)) o)
      outer None = tt
      outer (Some c) = only_constant (field_named s.table c n) (field_good c n)

  call_good : (n : List ℕ) → MethodGood (method_meant s n)
  call_good n = either_method (method_named s.table s.class n) _ (method_good s.class n) (outer (outer_class s.table s.class))
    where
      outer : (o : Option ℕ) → MethodGood (option_and_then (λ c. option_and_then static_only (method_named s.table c n)) o)
      outer None = tt
      outer (Some c) = only_static (method_named s.table c n) (method_good c n)

  abbrev FineHere : Bool → Judgement → Type 0
  FineHere place v = Fine place (is_statement s.role) v

  -- ---- rules

  name_fine : (ls : List Local) (f : Option Field) (n : List ℕ) → AreVariables ls → FieldGood f → FineHere true (name_rule s (meant_by ls f n))
  name_fine [] None n h k = tt
  name_fine [] (Some f) n h k =
      fine_if true (is_statement s.role) f.is_static (gives f.type) (ask (not s.is_static) 5 (Fits (variable_of f.type))) (good_known true (is_statement s.role) f.type (value_expression (is_statement s.role) f.type (variable_value f.type k)))
      (fine_ask true (is_statement s.role) (not s.is_static) 5 (Fits (variable_of f.type)) (λ q. good_variable (is_statement s.role) f.type k))
  name_fine (l ∷ ls) f n h k = go (bytes_eq l.name n) (name_fine ls f n h.1 k)
    where
      go : (b : Bool) → FineHere true (name_rule s (meant_by ls f n)) → FineHere true (name_rule s (if b then LocalName (length ls) l.type else meant_by ls f n))
      go true r = good_variable (is_statement s.role) l.type h.0
      go false r = r

  pub variable_fine : (n : List ℕ) → AreVariables s.locals → FineHere true (name_rule s (meant s n))
  variable_fine n h = name_fine s.locals (field_meant s.table s.class n) n h (meant_good n)

  field_fine : (f : Option Field) → FieldGood f → FineHere true (field_rule f)
  field_fine None k = tt
  field_fine (Some f) k = fine_ask true (is_statement s.role) (not f.is_static) 22 (Fits (variable_of f.type)) (λ q. good_variable (is_statement s.role) f.type k)

  pub access_fine : (n : List ℕ) (t : JavaType) → FineHere true (access_rule s n t)
  access_fine n (ClassType c) = field_fine (field_named s.table c n) (field_good c n)
  access_fine n (ArrayType t) = fine_ask true (is_statement s.role) (bytes_eq n (codes "length")) 22 (Fits (Value int_type)) (λ q. good_int true (is_statement s.role))
  access_fine n _ = tt

  pub constant_fine : (c : ℕ) (n : List ℕ) → FineHere true (constant_rule (field_named s.table c n))
  constant_fine c n = go (field_named s.table c n) (field_good c n)
    where
      go : (f : Option Field) → FieldGood f → FineHere true (constant_rule f)
      go None k = tt
      go (Some f) k = fine_ask true (is_statement s.role) f.is_static 22 (gives f.type) (λ q. good_known true (is_statement s.role) f.type (value_expression (is_statement s.role) f.type (variable_value f.type k)))

  arguments_fine : (ts : List JavaType) (m : Method) → is_result_type m.result ≡ true → FineHere false (arguments_rule s ts m)
  arguments_fine ts m k =
      fine_ask false (is_statement s.role) (rules.arguments_fit s ts m.parameters) 24 (result_rule s m)
      (λ q. fine_ask false (is_statement s.role) (not (is_void m.result) || is_statement s.role) 32 (gives m.result) (λ r. good_known false (is_statement s.role) m.result (result_expression (is_statement s.role) m.result k r)))

  call_fine : (m : Option Method) (ts : List JavaType) → MethodGood m → FineHere false (call_rule s m ts)
  call_fine None ts k = tt
  call_fine (Some m) ts k = fine_ask false (is_statement s.role) (m.is_static || not s.is_static) 5 (arguments_rule s ts m) (λ q. arguments_fine ts m k)

  pub own_call_fine : (n : List ℕ) (ts : List JavaType) → FineHere false (call_rule s (method_meant s n) ts)
  own_call_fine n ts = call_fine (method_meant s n) ts (call_good n)

  static_fine : (m : Option Method) (ts : List JavaType) → MethodGood m → FineHere false (static_rule s m ts)
  static_fine None ts k = tt
  static_fine (Some m) ts k = fine_ask false (is_statement s.role) m.is_static 24 (arguments_rule s ts m) (λ q. arguments_fine ts m k)

  pub class_call_fine : (c : ℕ) (n : List ℕ) (ts : List JavaType) → FineHere false (static_rule s (method_named s.table c n) ts)
  class_call_fine c n ts = static_fine (method_named s.table c n) ts (method_good c n)

  above_fine : (m : Option Method) (ts : List JavaType) → MethodGood m → FineHere false (above_rule s m ts)
  above_fine None ts k = tt
  above_fine (Some m) ts k = fine_if false (is_statement s.role) m.is_static (Breaks 33) (arguments_rule s ts m) tt (arguments_fine ts m k)

  pub super_fine : (n : List ℕ) (ts : List JavaType) → FineHere false (super_rule s n ts)
  super_fine n ts = fine_ask false (is_statement s.role) (not s.is_static) 5 _ (λ q. above_fine (option_and_then (λ c. method_named s.table c n) (super_class s)) ts (above (super_class s)))
    where
      above : (c : Option ℕ) → MethodGood (option_and_then (λ c. method_named s.table c n) c)
      above None = tt
      above (Some c) = method_good c n

  -- the members' type of a collection is one of variables where it is one of objects
  member_good : (t : JavaType) → (is_inferred t || (is_element t && is_variable_type t)) ≡ true → is_element t ≡ true → is_value_type t ≡ true
  member_good (ClassType c) h e = refl
  member_good (ArrayType t) h e = h
  member_good _ h e = absurd (cc (e))

  collection_fine : (is_list : Bool) (t : JavaType) (n : List ℕ) (ts : List JavaType) → (is_inferred t || (is_element t && is_variable_type t)) ≡ true → FineHere false (collection_rule s is_list t n ts)
  collection_fine is_list t n [] h =
      fine_if false (is_statement s.role) (bytes_eq n (codes "size")) (Fits (Value int_type)) _ (good_int false (is_statement s.role))
      (fine_if false (is_statement s.role) (bytes_eq n (codes "isEmpty")) (Fits (Value BooleanType)) _ (good_boolean false (is_statement s.role))
      (fine_ask false (is_statement s.role) (bytes_eq n (codes "removeFirst") && is_list && is_element t) 25 (Fits (Value t)) (λ q. good_value false (is_statement s.role) t (member_good t h (and_parts (bytes_eq n (codes "removeFirst") && is_list) (is_element t) q).1))))
  collection_fine is_list t n (x ∷ []) h =
      fine_if false (is_statement s.role) (bytes_eq n (codes "add")) _ _ (fine_ask false (is_statement s.role) (is_assignable s.table x t) 25 (Fits (Value BooleanType)) (λ q. good_boolean false (is_statement s.role)))
      (fine_ask false (is_statement s.role) ((bytes_eq n (codes "contains") || bytes_eq n (codes "remove")) && Rattle.kr_classes_table.specs.Types.is_reference x && not (Rattle.kr_classes_table.specs.Types.is_collection x)) 25 (Fits (Value BooleanType)) (λ q. good_boolean false (is_statement s.role)))
  collection_fine is_list t n (x ∷ y ∷ xs) h = tt

  method_fine : (m : Option Method) (ts : List JavaType) → MethodGood m → FineHere false (method_rule s m ts)
  method_fine None ts k = tt
  method_fine (Some m) ts k = arguments_fine ts m k

  pub object_call_fine : (n : List ℕ) (t : JavaType) (ts : List JavaType) → is_value_type t ≡ true → FineHere false (object_call_rule s n t ts)
  object_call_fine n (ClassType c) ts h = method_fine (method_named s.table c n) ts (method_good c n)
  object_call_fine n (SetType t) ts h = collection_fine false t n ts h
  object_call_fine n (ListType t) ts h = collection_fine true t n ts h
  object_call_fine n _ ts h = tt

  kind_fine : (o : OperatorKind) (a b : JavaType) → FineHere false (kind_rule s o a b)
  kind_fine Arithmetic a b = fine_promoted (is_statement s.role) a b 7
  kind_fine Shift a b = fine_ask false (is_statement s.role) _ 8 (of_promoted (promoted_alone a) 8) (λ q. fine_alone (is_statement s.role) a 8)
  kind_fine Comparison a b = fine_ask false (is_statement s.role) _ 9 (Fits (Value BooleanType)) (λ q. good_boolean false (is_statement s.role))
  kind_fine Equality a b = fine_ask false (is_statement s.role) _ 10 (Fits (Value BooleanType)) (λ q. good_boolean false (is_statement s.role))
  kind_fine Bitwise a b = fine_if false (is_statement s.role) (both_boolean a b) (Fits (Value BooleanType)) (of_promoted (promoted a b) 11) (good_boolean false (is_statement s.role)) (fine_promoted (is_statement s.role) a b 11)
  kind_fine Logical a b = fine_ask false (is_statement s.role) _ 12 (Fits (Value BooleanType)) (λ q. good_boolean false (is_statement s.role))

  pub operator_fine : (o : BinaryOperator) (a b : JavaType) → is_value_type a ≡ true → FineHere false (operator_rule s o a b)
  operator_fine o a b h = kind_fine (kind_of o) a b

  pub unary_fine : (o : UnaryOperator) (t : JavaType) → FineHere false (unary_rule o t)
  unary_fine unaries.Not t = fine_ask false (is_statement s.role) (rules.is_boolean t) 13 (Fits (Value BooleanType)) (λ q. good_boolean false (is_statement s.role))
  unary_fine unaries.Plus t = fine_alone (is_statement s.role) t 14
  unary_fine unaries.Minus t = fine_alone (is_statement s.role) t 14
  unary_fine unaries.Complement t = fine_alone (is_statement s.role) t 14

  pub element_fine : (t i : JavaType) → is_value_type t ≡ true → FineHere true (element_rule t i)
  element_fine (ArrayType t) i h = fine_ask true (is_statement s.role) (rules.is_int i) 23 (Fits (Variable t)) (λ q. (refl, h))
  element_fine _ i h = tt

  written_fine : (x : Typed) (t : JavaType) → is_value_type t ≡ true → FineHere false (written_rule s x t)
  written_fine x t h = fine_ask false (is_statement s.role) (rules.is_variable x) 19 _ (λ q. fine_ask false (is_statement s.role) (rules.is_code s.part) 39 (Fits (Value t)) (λ r. good_value false (is_statement s.role) t h))

  pub assignment_fine : (x : Typed) (t u : JavaType) → is_value_type t ≡ true → FineHere false (assignment_rule s x t u)
  assignment_fine x t u h = fine_ask false (is_statement s.role) (is_assignable s.table u t) 16 _ (λ q. written_fine x t h)

  pub compound_fine : (o : BinaryOperator) (x : Typed) (t u : JavaType) → is_value_type t ≡ true → FineHere false (compound_rule s o x t u)
  compound_fine o x t u h = fine_ask false (is_statement s.role) (not (is_broken (operator_rule s o t u))) 17 _ (λ q. written_fine x t h)

  pub step_fine : (x : Typed) (t : JavaType) → is_value_type t ≡ true → FineHere false (step_rule s x t)
  step_fine x t h = fine_ask false (is_statement s.role) (is_number t) 18 _ (λ q. written_fine x t h)

  pub choice_fine : (c a b : JavaType) → is_value_type a ≡ true → is_value_type b ≡ true → FineHere false (choice_rule s c a b)
  choice_fine c a b h k = fine_ask false (is_statement s.role) (rules.is_boolean c && are_related s.table a b) 15 _ (λ q. value_expression (is_statement s.role) _ (go (is_assignable s.table a b)))
    where
      go : (x : Bool) → is_value_type (if x then b else a) ≡ true
      go true = k
      go false = h

  pub cast_fine : (to from : JavaType) → is_value_type to ≡ true → FineHere false (cast_rule s to from)
  cast_fine to from h = fine_ask false (is_statement s.role) _ 20 (Fits (Value to)) (λ q. good_value false (is_statement s.role) to h)

  pub instance_fine : (from to : JavaType) → FineHere false (instance_rule s from to)
  instance_fine from to = fine_ask false (is_statement s.role) _ 21 (Fits (Value BooleanType)) (λ q. good_boolean false (is_statement s.role))

  pub number_fine : (w : Width) (n : ℕ) → FineHere false (number_rule s w n)
  number_fine w n = fine_ask false (is_statement s.role) _ 6 (Fits (Value (NumberType w))) (λ q. good_number false (is_statement s.role) w)

  pub this_fine : FineHere false (this_rule s)
  this_fine = fine_ask false (is_statement s.role) _ 5 (Fits (Value (ClassType s.class))) (λ q. good_value false (is_statement s.role) (ClassType s.class) refl)

  pub result_fine : is_result_type s.result ≡ true → FineHere false (result_value_rule s)
  result_fine h = fine_ask false (is_statement s.role) _ 38 (gives s.result) (λ q. good_known false (is_statement s.role) s.result (result_expression (is_statement s.role) s.result h (kept (not (is_void s.result)) (and_parts _ (not (is_void s.result)) (and_parts _ (not s.is_in_old) q).0).1)))
    where
      kept : (b : Bool) → b ≡ true → (b || is_statement s.role) ≡ true
      kept true e = refl
      kept false e = absurd (cc (e))

  pub old_fine : (t : JavaType) → is_value_type t ≡ true → FineHere false (old_rule s t)
  old_fine t h = fine_ask false (is_statement s.role) _ 38 (Fits (Value t)) (λ q. good_value false (is_statement s.role) t h)

  pub creation_fine : (t : JavaType) (ts : List JavaType) → (creation_fits s t ts ≡ true → is_value_type t ≡ true) → FineHere false (creation_rule s t ts)
  creation_fine t ts h = fine_ask false (is_statement s.role) (creation_fits s t ts) 26 _ (λ q. fine_ask false (is_statement s.role) (rules.is_code s.part) 39 (Fits (Value t)) (λ r. good_value false (is_statement s.role) t (h q)))

  pub array_creation_fine : (t n : JavaType) → is_variable_type t ≡ true → FineHere false (array_creation_rule s t n)
  array_creation_fine t n h = fine_ask false (is_statement s.role) (rules.is_int n) 27 _ (λ q. fine_ask false (is_statement s.role) (rules.is_code s.part) 39 (Fits (Value (ArrayType t))) (λ r. good_value false (is_statement s.role) (ArrayType t) h))
