-- In a contract no expression is a new collection, whose members' type is open.
use Rattle.std.proofs.Common.{◌≡◌, ℕ, Bool, true, false, not, ◌&&◌, ◌||◌, nat_lt, List, [], ◌∷◌, Option, Some, None, refl, ap}
use Rattle.std.specs.Prelude.{bytes_eq, codes, if◌then◌else◌, option_and_then}
use Rattle.kr_base.specs.declared.place.Place.{Place}
use Rattle.kr_ast.specs.declared.node.UnaryOperator.{UnaryOperator}
use Rattle.kr_ast.specs.declared.node.UnaryOperator.TheVariants as unaries
use Rattle.kr_ast.specs.declared.node.BinaryOperator.{BinaryOperator}
use Rattle.kr_ast.specs.Tree as trees
use Rattle.kr_ast.specs.Tree.{Tree}
use Rattle.kr_classes_table.specs.Numbers.{Width, Bits32, Bits64, half}
use Rattle.kr_classes_table.specs.Types.{JavaType, NumberType, int_type, BooleanType, NullType, ClassType, ArrayType, SetType, ListType, InferredType, is_known, is_element, is_void, is_collection, is_reference}
use Rattle.kr_classes_table.specs.Table.{Field, Method, field_named, method_named, is_assignable, are_related}
use Rattle.kr_classes_table.specs.Rules.{Fault}
use Rattle.kr_types_meaning.specs.declared.operators.OperatorKind.{OperatorKind}
use Rattle.kr_types_meaning.specs.declared.operators.OperatorKind.TheVariants.{Arithmetic, Shift, Comparison, Equality, Bitwise, Logical}
use Rattle.kr_types_meaning.specs.Scopes.{Scope, Meant, LocalName, FieldName, NoName, value, in_old, meant, method_meant, class_before, super_class}
use Rattle.kr_types_meaning.specs.Promotion.{promoted, promoted_alone, is_number, are_numbers}
use Rattle.kr_types_meaning.specs.Rules.{Typed, Value, Variable, Values, Untyped, Judgement, Fits, Breaks, ask, gives, variable_of, number_rule, this_rule, name_rule, unary_rule, operator_rule, choice_rule, cast_rule, instance_rule, written_rule, assignment_rule, compound_rule, step_rule, field_rule, access_rule, constant_rule, element_rule, result_rule, arguments_rule, call_rule, static_rule, above_rule, super_rule, collection_rule, method_rule, object_call_rule, creation_rule, array_creation_rule, result_value_rule, old_rule, is_code, is_statement, is_ensuring, is_after_body, is_under_minus, is_int, is_boolean, both_boolean, related_references, arguments_fit, is_variable, is_broken, creation_fits, of_promoted, kind_of, kind_rule}
use Rattle.kr_types_meaning.specs.Typing.{Judged, judge, on_one, on_list, field_of, method_of, operand, judged}
use Rattle.kr_laws_types.specs.Types.{is_variable_type, is_result_type, is_value_type, AreVariables, HasVariables}
use Rattle.kr_laws_types.specs.Shapes.{Expression, IsCode}
use Rattle.kr_laws_types.specs.Expressions.{plain}
use Rattle.kr_laws_types.proofs.Given.{Good}
use Rattle.kr_laws_types.proofs.Expressions.{good}
use Rattle.kr_laws_safety.specs.Claims.{is_target}

-- ---- open types

abbrev pub is_open : JavaType → Bool
is_open (SetType InferredType) = true
is_open (ListType InferredType) = true
is_open t = false

known_closed : (t : JavaType) → is_known t ≡ true → is_open t ≡ false
known_closed (SetType InferredType) e = absurd (cc (e))
known_closed (ListType InferredType) e = absurd (cc (e))
known_closed (SetType _) e = refl
known_closed (ListType _) e = refl
known_closed _ e = refl

variable_closed : (t : JavaType) → is_variable_type t ≡ true → is_open t ≡ false
variable_closed (SetType InferredType) e = absurd (cc (e))
variable_closed (ListType InferredType) e = absurd (cc (e))
variable_closed (SetType _) e = refl
variable_closed (ListType _) e = refl
variable_closed _ e = refl

element_closed : (t : JavaType) → is_element t ≡ true → is_open t ≡ false
element_closed (ClassType c) e = refl
element_closed (ArrayType u) e = refl
element_closed _ e = absurd (cc (e))

-- values of a type that isn't open are used as their own
pub closed_target : (t : JavaType) → is_value_type t ≡ true → is_open t ≡ false → is_target t ≡ true
closed_target NullType e c = refl
closed_target (NumberType w) e c = refl
closed_target BooleanType e c = refl
closed_target (ClassType k) e c = refl
closed_target (ArrayType u) e c = e
closed_target (SetType InferredType) e c = absurd (cc (c))
closed_target (ListType InferredType) e c = absurd (cc (c))
closed_target (SetType _) e c = e
closed_target (ListType _) e c = e
closed_target _ e c = absurd (cc (e))

-- ---- nodes and rules

abbrev pub Closed : Typed → Type 0
Closed (Value t) = is_open t ≡ false
Closed (Variable t) = is_open t ≡ false
Closed x = Unit {0}

abbrev Gives : Judgement → Type 0
Gives (Fits x) = Closed x
Gives (Breaks r) = Unit {0}

judged_closed : (p : Place) (v : Judgement) (below : List Fault) → Gives v → Closed (judge p v below).typed
judged_closed p (Fits x) below h = h
judged_closed p (Breaks r) below h = tt

asked : (b : Bool) (r : ℕ) (v : Judgement) → (b ≡ true → Gives v) → Gives (ask b r v)
asked true r v h = h refl
asked false r v h = tt

on_any : (f : JavaType → Judgement) (x : Typed) → ((t : JavaType) → Gives (f t)) → Gives (on_one f x)
on_any f (Value t) h = h t
on_any f (Variable t) h = h t
on_any f (Values ts) h = tt
on_any f Untyped h = tt

on_closed : (f : JavaType → Judgement) (x : Typed) → Closed x → ((t : JavaType) → is_open t ≡ false → Gives (f t)) → Gives (on_one f x)
on_closed f (Value t) c h = h t c
on_closed f (Variable t) c h = h t c
on_closed f (Values ts) c h = tt
on_closed f Untyped c h = tt

on_all : (f : List JavaType → Judgement) (x : Typed) → ((ts : List JavaType) → Gives (f ts)) → Gives (on_list f x)
on_all f (Values ts) h = h ts
on_all f (Value t) h = tt
on_all f (Variable t) h = tt
on_all f Untyped h = tt

known_given : (t : JavaType) → Gives (gives t)
known_given t = go (is_known t) refl
  where
    go : (b : Bool) → is_known t ≡ b → Closed (if b then Value t else Untyped)
    go true e = known_closed t e
    go false e = tt

known_varies : (t : JavaType) → Gives (Fits (variable_of t))
known_varies t = go (is_known t) refl
  where
    go : (b : Bool) → is_known t ≡ b → Closed (if b then Variable t else Untyped)
    go true e = known_closed t e
    go false e = tt

either : (b : Bool) (v w : Judgement) → Gives v → Gives w → Gives (if b then v else w)
either true v w h k = h
either false v w h k = k

named : (s : Scope) (m : Meant) → Gives (name_rule s m)
named s (LocalName k t) = known_varies t
named s (FieldName f) = either f.is_static (gives f.type) (ask (not s.is_static) 5 (Fits (variable_of f.type))) (known_given f.type) (asked (not s.is_static) 5 (Fits (variable_of f.type)) (λ e. known_varies f.type))
named s NoName = tt

int_asked : (b : Bool) (r : ℕ) → Gives (ask b r (Fits (Value int_type)))
int_asked true r = refl
int_asked false r = tt

boolean_asked : (b : Bool) (r : ℕ) → Gives (ask b r (Fits (Value BooleanType)))
boolean_asked true r = refl
boolean_asked false r = tt

number : (s : Scope) (w : Width) (n : ℕ) → Gives (number_rule s w n)
number s w n = asked (nat_lt n (half w) || is_under_minus s.role) 6 (Fits (Value (NumberType w))) (λ e. refl)

this_value : (s : Scope) → Gives (this_rule s)
this_value s = asked (not s.is_static) 5 (Fits (Value (ClassType s.class))) (λ e. refl)

alone_given : (a : JavaType) (r : ℕ) → Gives (of_promoted (promoted_alone a) r)
alone_given (NumberType w) r = refl
alone_given _ r = tt

promoted_given : (a b : JavaType) (r : ℕ) → Gives (of_promoted (promoted a b) r)
promoted_given (NumberType v) (NumberType w) r = refl
promoted_given _ b r = tt

unary : (o : UnaryOperator) (t : JavaType) → Gives (unary_rule o t)
unary unaries.Not t = boolean_asked (is_boolean t) 13
unary unaries.Plus t = alone_given t 14
unary unaries.Minus t = alone_given t 14
unary unaries.Complement t = alone_given t 14

binary : (s : Scope) (o : OperatorKind) (a b : JavaType) → Gives (kind_rule s o a b)
binary s Arithmetic a b = promoted_given a b 7
binary s Shift a b = asked (is_number b) 8 (of_promoted (promoted_alone a) 8) (λ e. alone_given a 8)
binary s Comparison a b = boolean_asked (are_numbers a b) 9
binary s Equality a b = boolean_asked (are_numbers a b || both_boolean a b || related_references s a b) 10
binary s Bitwise a b = either (both_boolean a b) (Fits (Value BooleanType)) (of_promoted (promoted a b) 11) refl (promoted_given a b 11)
binary s Logical a b = boolean_asked (both_boolean a b) 12

choice : (s : Scope) (c a b : JavaType) → is_open a ≡ false → is_open b ≡ false → Gives (choice_rule s c a b)
choice s c a b h k = asked (is_boolean c && are_related s.table a b) 15 (Fits (Value (if is_assignable s.table a b then b else a))) (λ e. go (is_assignable s.table a b))
  where
    go : (x : Bool) → is_open (if x then b else a) ≡ false
    go true = k
    go false = h

instance : (s : Scope) (from to : JavaType) → Gives (instance_rule s from to)
instance s from to = boolean_asked (is_element to && related_references s from to) 21

-- a cast gives no collection
cast_closed : (s : Scope) (to from : JavaType) → (are_numbers to from || both_boolean to from || (related_references s from to && not (is_collection to) && not (is_collection from))) ≡ true → is_open to ≡ false
cast_closed s (SetType t) from e = absurd (none (related_references s from (SetType t)) (not (is_collection from)) e)
  where
    none : (a b : Bool) → (a && false && b) ≡ true → ⊥
    none true b e = cc (e)
    none false b e = cc (e)
cast_closed s (ListType t) from e = absurd (none (related_references s from (ListType t)) (not (is_collection from)) e)
  where
    none : (a b : Bool) → (a && false && b) ≡ true → ⊥
    none true b e = cc (e)
    none false b e = cc (e)
cast_closed s _ from e = refl

cast : (s : Scope) (to from : JavaType) → Gives (cast_rule s to from)
cast s to from = asked (are_numbers to from || both_boolean to from || (related_references s from to && not (is_collection to) && not (is_collection from))) 20 (Fits (Value to)) (cast_closed s to from)

-- a contract writes and creates nothing
uncoded : (b : Bool) (r : ℕ) (t : JavaType) → b ≡ false → Gives (ask b r (Fits (Value t)))
uncoded true r t c = absurd (cc (c))
uncoded false r t c = tt

unwritten : (s : Scope) (x : Typed) (t : JavaType) → is_code s.part ≡ false → Gives (written_rule s x t)
unwritten s x t c = asked (is_variable x) 19 (ask (is_code s.part) 39 (Fits (Value t))) (λ e. uncoded (is_code s.part) 39 t c)

assigned : (s : Scope) (x : Typed) (to from : JavaType) → is_code s.part ≡ false → Gives (assignment_rule s x to from)
assigned s x to from c = asked (is_assignable s.table from to) 16 (written_rule s x to) (λ e. unwritten s x to c)

compounded : (s : Scope) (o : BinaryOperator) (x : Typed) (to from : JavaType) → is_code s.part ≡ false → Gives (compound_rule s o x to from)
compounded s o x to from c = asked (not (is_broken (operator_rule s o to from))) 17 (written_rule s x to) (λ e. unwritten s x to c)

stepped : (s : Scope) (x : Typed) (to : JavaType) → is_code s.part ≡ false → Gives (step_rule s x to)
stepped s x to c = asked (is_number to) 18 (written_rule s x to) (λ e. unwritten s x to c)

created : (s : Scope) (t : JavaType) (ts : List JavaType) → is_code s.part ≡ false → Gives (creation_rule s t ts)
created s t ts c = asked (creation_fits s t ts) 26 (ask (is_code s.part) 39 (Fits (Value t))) (λ e. uncoded (is_code s.part) 39 t c)

array_created : (s : Scope) (t n : JavaType) → is_code s.part ≡ false → Gives (array_creation_rule s t n)
array_created s t n c = asked (is_int n) 27 (ask (is_code s.part) 39 (Fits (Value (ArrayType t)))) (λ e. uncoded (is_code s.part) 39 (ArrayType t) c)

result_value : (s : Scope) → Gives (result_value_rule s)
result_value s = asked (is_ensuring s.part && not (is_void s.result) && not s.is_in_old) 38 (gives s.result) (λ e. known_given s.result)

old_value : (s : Scope) (t : JavaType) → is_open t ≡ false → Gives (old_rule s t)
old_value s t f = asked (is_after_body s.part && not s.is_in_old) 38 (Fits (Value t)) (λ e. f)

field : (f : Option Field) → Gives (field_rule f)
field None = tt
field (Some f) = asked (not f.is_static) 22 (Fits (variable_of f.type)) (λ e. known_varies f.type)

access : (s : Scope) (n : List ℕ) (t : JavaType) → Gives (access_rule s n t)
access s n (ClassType c) = field (field_named s.table c n)
access s n (ArrayType t) = int_asked (bytes_eq n (codes "length")) 22
access s n _ = tt

constant : (f : Option Field) → Gives (constant_rule f)
constant None = tt
constant (Some f) = asked f.is_static 22 (gives f.type) (λ e. known_given f.type)

arguments : (s : Scope) (ts : List JavaType) (m : Method) → Gives (arguments_rule s ts m)
arguments s ts m = asked (arguments_fit s ts m.parameters) 24 (result_rule s m) (λ e. asked (not (is_void m.result) || is_statement s.role) 32 (gives m.result) (λ f. known_given m.result))

own_call : (s : Scope) (m : Option Method) (ts : List JavaType) → Gives (call_rule s m ts)
own_call s None ts = tt
own_call s (Some m) ts = asked (m.is_static || not s.is_static) 5 (arguments_rule s ts m) (λ e. arguments s ts m)

class_call : (s : Scope) (m : Option Method) (ts : List JavaType) → Gives (static_rule s m ts)
class_call s None ts = tt
class_call s (Some m) ts = asked m.is_static 24 (arguments_rule s ts m) (λ e. arguments s ts m)

above : (s : Scope) (m : Option Method) (ts : List JavaType) → Gives (above_rule s m ts)
above s None ts = tt
above s (Some m) ts = either m.is_static (Breaks 33) (arguments_rule s ts m) tt (arguments s ts m)

super_call : (s : Scope) (n : List ℕ) (ts : List JavaType) → Gives (super_rule s n ts)
super_call s n ts = asked (not s.is_static) 5 (above_rule s (option_and_then (λ c. method_named s.table c n) (super_class s)) ts) (λ e. above s (option_and_then (λ c. method_named s.table c n) (super_class s)) ts)

last_true : (a b c : Bool) → (a && b && c) ≡ true → c ≡ true
last_true true true c e = e
last_true true false c e = absurd (cc (e))
last_true false b c e = absurd (cc (e))

of_collection : (s : Scope) (is_list : Bool) (t : JavaType) (n : List ℕ) (ts : List JavaType) → Gives (collection_rule s is_list t n ts)
of_collection s is_list t n [] =
    let first = ask (bytes_eq n (codes "removeFirst") && is_list && is_element t) 25 (Fits (Value t)) in
    either (bytes_eq n (codes "size")) (Fits (Value int_type)) (if bytes_eq n (codes "isEmpty") then Fits (Value BooleanType) else first) refl
    (either (bytes_eq n (codes "isEmpty")) (Fits (Value BooleanType)) first refl
    (asked (bytes_eq n (codes "removeFirst") && is_list && is_element t) 25 (Fits (Value t)) (λ e. element_closed t (last_true (bytes_eq n (codes "removeFirst")) is_list (is_element t) e))))
of_collection s is_list t n (x ∷ []) =
    let fits = (bytes_eq n (codes "contains") || bytes_eq n (codes "remove")) && is_reference x && not (is_collection x) in
    either (bytes_eq n (codes "add")) (ask (is_assignable s.table x t) 25 (Fits (Value BooleanType))) (ask fits 25 (Fits (Value BooleanType))) (boolean_asked (is_assignable s.table x t) 25) (boolean_asked fits 25)
of_collection s is_list t n (x ∷ y ∷ ts) = tt

of_method : (s : Scope) (m : Option Method) (ts : List JavaType) → Gives (method_rule s m ts)
of_method s None ts = tt
of_method s (Some m) ts = arguments s ts m

object_call : (s : Scope) (n : List ℕ) (t : JavaType) (ts : List JavaType) → Gives (object_call_rule s n t ts)
object_call s n (ClassType c) ts = of_method s (method_named s.table c n) ts
object_call s n (SetType t) ts = of_collection s false t n ts
object_call s n (ListType t) ts = of_collection s true t n ts
object_call s n _ ts = tt

accessed : (s : Scope) (p : Place) (n : List ℕ) (c : Option ℕ) (x : Judged) → Closed (field_of s p n c x).typed
accessed s p n (Some c) x = judged_closed p _ [] (constant (field_named s.table c n))
accessed s p n None x = judged_closed p _ x.faults (on_any (access_rule s n) x.typed (access s n))

called : (s : Scope) (p : Place) (n : List ℕ) (c : Option ℕ) (x y : Judged) → Closed (method_of s p n c x y).typed
called s p n (Some c) x y = judged_closed p _ y.faults (on_all _ y.typed (class_call s (method_named s.table c n)))
called s p n None x y = judged_closed p _ _ (on_any _ x.typed (λ t. on_all _ y.typed (object_call s n t)))

-- an element is of a type of variables
element : (place b : Bool) (x : Typed) → Good place b x → ((t : JavaType) → x ≡ Value t → ⊥) → Closed x
element place b (Value t) h n = absurd (n t refl)
element place b (Variable t) h n = variable_closed t h.1
element place b (Values ts) h n = tt
element place b Untyped h n = tt

no_value : (p : Place) (v : Judgement) (below : List Fault) → ((t : JavaType) → v ≡ Fits (Value t) → ⊥) → (t : JavaType) → (judge p v below).typed ≡ Value t → ⊥
no_value p (Fits x) below h t e = h t (ap Fits e)
no_value p (Breaks r) below h t e = cc (e)

no_element : (x y : Typed) (t : JavaType) → on_one (λ a. on_one (element_rule a) y) x ≡ Fits (Value t) → ⊥
no_element x y t e = outer x e
  where
    rule : (a i : JavaType) → element_rule a i ≡ Fits (Value t) → ⊥
    rule (ArrayType u) i e = go (is_int i) e
      where
        go : (b : Bool) → ask b 23 (Fits (Variable u)) ≡ Fits (Value t) → ⊥
        go true e = cc (e)
        go false e = cc (e)
    rule _ i e = cc (e)

    inner : (a : JavaType) (y : Typed) → on_one (element_rule a) y ≡ Fits (Value t) → ⊥
    inner a (Value u) e = rule a u e
    inner a (Variable u) e = rule a u e
    inner a (Values ts) e = cc (e)
    inner a Untyped e = cc (e)

    outer : (x : Typed) → on_one (λ a. on_one (element_rule a) y) x ≡ Fits (Value t) → ⊥
    outer (Value a) e = inner a y e
    outer (Variable a) e = inner a y e
    outer (Values ts) e = cc (e)
    outer Untyped e = cc (e)

-- a scope whose names have types of variables
abbrev pub IsNamed : Scope → Type 0
IsNamed s = HasVariables s.table × AreVariables s.locals × (is_result_type s.result ≡ true)

module _ (arrays : List JavaType) (olds : Place → Option JavaType) where
  pub closed : (s : Scope) (e : Tree) → is_code s.part ≡ false → IsNamed s → IsCode arrays olds (Expression false) (plain s) e → Closed (judged s e).typed
  unfolding judged
  closed s trees.Nil c k h = absurd (cc (h))
  closed s (trees.Number p n) c k h = judged_closed p (number_rule s Bits32 n) [] (number s Bits32 n)
  closed s (trees.LongNumber p n) c k h = judged_closed p (number_rule s Bits64 n) [] (number s Bits64 n)
  closed s (trees.Truth p b) c k h = refl
  closed s (trees.Null p) c k h = refl
  closed s (trees.This p) c k h = judged_closed p (this_rule s) [] (this_value s)
  closed s (trees.Variable p n) c k h = judged_closed p _ [] (named s (meant s n))
  closed s (trees.FieldAccess p e n) c k h = accessed s p n (class_before s e) (judged (value s) e)
  closed s (trees.ArrayAccess p a i) c k h =
      element true (is_statement s.role) _ (good arrays olds (Expression false) s (trees.ArrayAccess p a i) k h refl)
      (λ t q. no_value p _ _ (no_element (judged (value s) a).typed (judged (value s) i).typed) t q)
  closed s (trees.Call p n es) c k h = judged_closed p _ _ (on_all _ (judged (value s) es).typed (own_call s (method_meant s n)))
  closed s (trees.MethodCall p e n es) c k h = called s p n (class_before s e) (judged (value s) e) (judged (value s) es)
  closed s (trees.SuperCall p n es) c k h = judged_closed p _ _ (on_all _ (judged (value s) es).typed (super_call s n))
  closed s (trees.ObjectCreation p t es) c k h = judged_closed p _ _ (on_any _ (judged s t).typed (λ u. on_all _ (judged (value s) es).typed (λ ts. created s u ts c)))
  closed s (trees.ArrayCreation p t e) c k h = judged_closed p _ _ (on_any _ (judged s t).typed (λ u. on_any _ (judged (value s) e).typed (λ n. array_created s u n c)))
  closed s (trees.Unary p o e) c k h = judged_closed p _ _ (on_any _ (judged (operand o s) e).typed (unary o))
  closed s (trees.Step p o e) c k h = judged_closed p _ _ (on_any _ (judged (value s) e).typed (λ t. stepped s (judged (value s) e).typed t c))
  closed s (trees.Binary p o a b) c k h = judged_closed p _ _ (on_any _ (judged (value s) a).typed (λ t. on_any _ (judged (value s) b).typed (binary s (kind_of o) t)))
  closed s (trees.InstanceOf p e t) c k h = judged_closed p _ _ (on_any _ (judged (value s) e).typed (λ u. on_any _ (judged s t).typed (λ v. instance s u v)))
  closed s (trees.Conditional p x a b) c k h =
      judged_closed p _ _ (on_any _ (judged (value s) x).typed (λ t. on_closed _ (judged (value s) a).typed (closed (value s) a c k h.1) (λ u f. on_closed _ (judged (value s) b).typed (closed (value s) b c k h.2) (λ v g. choice s t u v f g))))
  closed s (trees.Cast p t e) c k h = judged_closed p _ _ (on_any _ (judged s t).typed (λ u. on_any _ (judged (value s) e).typed (cast s u)))
  closed s (trees.Assignment p a b) c k h = judged_closed p _ _ (on_any _ (judged (value s) a).typed (λ t. on_any _ (judged (value s) b).typed (λ u. assigned s (judged (value s) a).typed t u c)))
  closed s (trees.CompoundAssignment p o a b) c k h = judged_closed p _ _ (on_any _ (judged (value s) a).typed (λ t. on_any _ (judged (value s) b).typed (λ u. compounded s o (judged (value s) a).typed t u c)))
  closed s (trees.Result p) c k h = judged_closed p (result_value_rule s) [] (result_value s)
  closed s (trees.Old p e) c k h = judged_closed p _ _ (on_closed _ (judged (in_old s) e).typed (closed (in_old s) e c k h.1) (λ t f. old_value s t f))
  closed s _ c k h = absurd h
