-- An expression without broken nodes has a type.
use Rattle.std.proofs.Common.{◌≡◌, ℕ, Bool, true, false, List, [], ◌∷◌, ◌++◌, length, Option, Some, None, refl, sym, ap, subst}
use Rattle.std.specs.Prelude.{◌&&◌, ◌||◌, not, nat_lt, bytes_eq, codes, option_and_then, if◌then◌else◌}
use Rattle.kr_base.specs.declared.place.Place.{Place}
use Rattle.kr_ast.specs.declared.node.UnaryOperator.{UnaryOperator}
use Rattle.kr_ast.specs.declared.node.UnaryOperator.TheVariants as unaries
use Rattle.kr_ast.specs.Tree as trees
use Rattle.kr_ast.specs.Tree.{Tree}
use Rattle.kr_classes_table.specs.Numbers.{Bits32, Bits64, half}
use Rattle.kr_classes_table.specs.Types.{JavaType, NumberType, int_type, BooleanType, NullType, ClassType, ArrayType, SetType, ListType, InferredType, AppliedType, is_known, is_element, is_void}
use Rattle.kr_classes_table.specs.Rules.{Fault}
use Rattle.kr_classes_table.specs.Table.{Table, Field, Method, applied, field_named, method_named, is_assignable}
use Rattle.kr_classes_table.specs.Constants.{constant_only, or_else, outer_class, field_meant}
use Rattle.kr_types_meaning.specs.declared.operators.OperatorKind.{OperatorKind}
use Rattle.kr_types_meaning.specs.declared.operators.OperatorKind.TheVariants.{Arithmetic, Shift, Comparison, Equality, Bitwise, Logical}
use Rattle.kr_types_meaning.specs.Scopes.{Scope, Local, LocalName, written, value, in_old, meant_by, meant, class_before, static_only, method_meant, super_class}
use Rattle.kr_types_meaning.specs.Promotion.{promoted, promoted_alone, is_number}
use Rattle.kr_types_meaning.specs.Rules.{Typed, Value, Variable, Values, Untyped, Judgement, Fits, Breaks, ask, gives, typed_as, variable_of, type_rule, diamond_rule, array_rule, number_rule, this_rule, name_rule, unary_rule, operator_rule, choice_rule, cast_rule, instance_rule, written_rule, is_broken, assignment_rule, compound_rule, step_rule, field_rule, access_rule, constant_rule, element_rule, result_rule, arguments_rule, call_rule, static_rule, above_rule, super_rule, collection_rule, method_rule, object_call_rule, creation_rule, array_creation_rule, result_value_rule, old_rule, of_promoted, both_boolean, kind_of, kind_rule}
use Rattle.kr_types_meaning.specs.Typing.{Judged, judge, on_one, on_two, on_list, joined, field_of, method_of, operand, judged, type_in}
use Rattle.kr_laws_types.specs.DerivedExpressions.{IsWritten, IsCreated, Shaped}
use Rattle.kr_laws_types.specs.Typed.{AreKnown, AreTypesKnown}
use Rattle.kr_base.proofs.ListLemmas.{push_is_some}

abbrev pub HasType : Typed → Type 0
HasType x = (t : JavaType) × (type_in x ≡ Some t)

-- a rule that gives a type where it isn't broken
pub record Gives (v : Judgement) : Type 0 where
  type : (x : Typed) → v ≡ Fits x → HasType x

pub fits_same : (x y : Typed) → Fits x ≡ Fits y → x ≡ y
fits_same x y e = ap inside e
  where
    inside : Judgement → Typed
    inside (Fits z) = z
    inside (Breaks r) = x

gives_value : (t : JavaType) → Gives (Fits (Value t))
gives_value t = record { type = λ x e. (t, ap type_in (sym (fits_same (Value t) x e))) }

gives_variable : (t : JavaType) → Gives (Fits (Variable t))
gives_variable t = record { type = λ x e. (t, ap type_in (sym (fits_same (Variable t) x e))) }

gives_none : (r : ℕ) → Gives (Breaks r)
gives_none r = record { type = λ x e. absurd (cc (e)) }

gives_ask : (b : Bool) (r : ℕ) (v : Judgement) → Gives v → Gives (ask b r v)
gives_ask true r v h = h
gives_ask false r v h = gives_none r

gives_promoted : (t : Option JavaType) (r : ℕ) → Gives (of_promoted t r)
gives_promoted (Some t) r = gives_value t
gives_promoted None r = gives_none r

pub gives_if : (b : Bool) (v w : Judgement) → Gives v → Gives w → Gives (if b then v else w)
gives_if true v w h k = h
gives_if false v w h k = k

gives_known : (t : JavaType) → is_known t ≡ true → Gives (Fits (typed_as t))
gives_known t e = subst (λ (b : Bool). Gives (Fits (if b then Value t else Untyped))) (sym e) (gives_value t)

varies_known : (t : JavaType) → is_known t ≡ true → Gives (Fits (variable_of t))
varies_known t e = subst (λ (b : Bool). Gives (Fits (if b then Variable t else Untyped))) (sym e) (gives_variable t)

-- ---- parts

pub below_none : (p : Place) (v : Judgement) (below : List Fault) → (judge p v below).faults ≡ [] → below ≡ []
below_none p (Fits x) below e = e
below_none p (Breaks r) below e = absurd (push_is_some below (record { place = p; rule = r }) e)

judge_type : (p : Place) (v : Judgement) (below : List Fault) → Gives v → (judge p v below).faults ≡ [] → HasType (judge p v below).typed
judge_type p (Fits x) below h e = h.type x refl
judge_type p (Breaks r) below h e = absurd (push_is_some below (record { place = p; rule = r }) e)

pub front_none : {A : Type 0} (xs ys : List A) → xs ++ ys ≡ [] → xs ≡ []
front_none [] ys e = refl
front_none (x ∷ xs) ys e = absurd (cc (e))

pub back_none : {A : Type 0} (xs ys : List A) → xs ++ ys ≡ [] → ys ≡ []
back_none [] ys e = e
back_none (x ∷ xs) ys e = absurd (cc (e))

one_gives : (f : JavaType → Judgement) (x : Typed) → HasType x → ((t : JavaType) → Gives (f t)) → Gives (on_one f x)
one_gives f (Value t) h g = g t
one_gives f (Variable t) h g = g t
one_gives f (Values ts) h g = absurd (cc (h.1))
one_gives f Untyped h g = absurd (cc (h.1))

abbrev HasTypes : Typed → Type 0
HasTypes x = (ts : List JavaType) × (x ≡ Values ts)

list_gives : (f : List JavaType → Judgement) (x : Typed) → HasTypes x → ((ts : List JavaType) → Gives (f ts)) → Gives (on_list f x)
list_gives f x h g = subst (λ (y : Typed). Gives (on_list f y)) (sym h.1) (g h.0)

joined_types : (x y : Typed) → HasType x → HasTypes y → HasTypes (joined x y)
joined_types (Value t) y h k = subst (λ (z : Typed). HasTypes (joined (Value t) z)) (sym k.1) (t ∷ k.0, refl)
joined_types (Variable t) y h k = subst (λ (z : Typed). HasTypes (joined (Variable t) z)) (sym k.1) (t ∷ k.0, refl)
joined_types (Values ts) y h k = absurd (cc (h.1))
joined_types Untyped y h k = absurd (cc (h.1))

-- ---- types that are written

type_gives : (t : JavaType) → Gives (type_rule t)
type_gives t = gives_ask (is_known t) 1 (Fits (Value t)) (gives_value t)

pub written_type : (s : Scope) (t : Tree) → IsWritten t → (judged s t).faults ≡ [] → HasType (judged s t).typed
unfolding judged
written_type s (trees.PrimitiveType p k) h e = judge_type p _ [] (type_gives (written s (trees.PrimitiveType p k))) e
written_type s (trees.NamedType p n) h e = judge_type p _ [] (type_gives (written s (trees.NamedType p n))) e
written_type s (trees.QualifiedType p o n) h e = judge_type p _ [] (type_gives (written s (trees.QualifiedType p o n))) e
written_type s (trees.GenericType p k a) h e =
    let v = on_one (λ t. type_rule (applied (written s k) t)) (judged s a).typed in
    judge_type p v (judged s a).faults (one_gives (λ t. type_rule (applied (written s k) t)) (judged s a).typed (written_type s a h.1 (below_none p v (judged s a).faults e)) (λ t. type_gives (applied (written s k) t))) e
written_type s (trees.ArrayType p a) h e =
    let v = on_one array_rule (judged s a).typed in
    judge_type p v (judged s a).faults (one_gives array_rule (judged s a).typed (written_type s a h (below_none p v (judged s a).faults e)) (λ t. gives_value (ArrayType t))) e
written_type s _ h e = absurd h

diamond_gives : (t : JavaType) → Gives (diamond_rule t)
diamond_gives (SetType t) = gives_value (SetType t)
diamond_gives (ListType t) = gives_value (ListType t)
diamond_gives (AppliedType (ClassType c) t) = gives_value (AppliedType (ClassType c) t)
diamond_gives _ = gives_none 1

created_type : (s : Scope) (t : Tree) → IsCreated t → (judged s t).faults ≡ [] → HasType (judged s t).typed
unfolding judged
created_type s (trees.DiamondType p k) h e = judge_type p _ [] (diamond_gives (applied (written s k) InferredType)) e
created_type s (trees.PrimitiveType p k) h e = written_type s (trees.PrimitiveType p k) h e
created_type s (trees.NamedType p n) h e = written_type s (trees.NamedType p n) h e
created_type s (trees.QualifiedType p o n) h e = written_type s (trees.QualifiedType p o n) h e
created_type s (trees.GenericType p k a) h e = written_type s (trees.GenericType p k a) h e
created_type s (trees.ArrayType p a) h e = written_type s (trees.ArrayType p a) h e
created_type s _ h e = absurd h

-- ---- rules

abbrev FieldKnown : Option Field → Type 0
FieldKnown None = Unit {0}
FieldKnown (Some f) = is_known f.type ≡ true

abbrev MethodKnown : Option Method → Type 0
MethodKnown None = Unit {0}
MethodKnown (Some m) = is_known m.result ≡ true

module _ (s : Scope) (known : AreTypesKnown s.table) where
  field_known : (c : ℕ) (n : List ℕ) → FieldKnown (field_named s.table c n)
  field_known c n = go (field_named s.table c n) refl
    where
      go : (x : Option Field) → field_named s.table c n ≡ x → FieldKnown x
      go None e = tt
      go (Some f) e = known.fields c n f e

  method_known : (c : ℕ) (n : List ℕ) → MethodKnown (method_named s.table c n)
  method_known c n = go (method_named s.table c n) refl
    where
      go : (x : Option Method) → method_named s.table c n ≡ x → MethodKnown x
      go None e = tt
      go (Some m) e = known.results c n m e

  only_constant : (x : Option Field) → FieldKnown x → FieldKnown (option_and_then constant_only x)
  only_constant None h = tt
  only_constant (Some f) h = go f.is_static
    where
      go : (b : Bool) → FieldKnown (if b then Some f else None)
      go true = h
      go false = tt

  only_static : (x : Option Method) → MethodKnown x → MethodKnown (option_and_then static_only x)
  only_static None h = tt
  only_static (Some m) h = go m.is_static
    where
      go : (b : Bool) → MethodKnown (if b then Some m else None)
      go true = h
      go false = tt

  either_field : (x y : Option Field) → FieldKnown x → FieldKnown y → FieldKnown (or_else x y)
  either_field (Some f) y h k = h
  either_field None y h k = k

  either_method : (x y : Option Method) → MethodKnown x → MethodKnown y → MethodKnown (or_else x y)
  either_method (Some f) y h k = h
  either_method None y h k = k

  meant_known : (n : List ℕ) → FieldKnown (field_meant s.table s.class n)
  meant_known n = either_field (field_named s.table s.class n) _ (field_known s.class n) (outer (outer_class s.table s.class))
    where
      outer : (o : Option ℕ) → FieldKnown (option_and_then (λ c. option_and_then constant_only (field_named s.table c n)) o)
      outer None = tt
      outer (Some c) = only_constant (field_named s.table c n) (field_known c n)

  call_known : (n : List ℕ) → MethodKnown (method_meant s n)
  call_known n = either_method (method_named s.table s.class n) _ (method_known s.class n) (outer (outer_class s.table s.class))
    where
      outer : (o : Option ℕ) → MethodKnown (option_and_then (λ c. option_and_then static_only (method_named s.table c n)) o)
      outer None = tt
      outer (Some c) = only_static (method_named s.table c n) (method_known c n)

  name_gives : (ls : List Local) (f : Option Field) (n : List ℕ) → AreKnown ls → FieldKnown f → Gives (name_rule s (meant_by ls f n))
  name_gives [] None n h k = gives_none 3
  name_gives [] (Some f) n h k = gives_if f.is_static (gives f.type) (ask (not s.is_static) 5 (Fits (variable_of f.type))) (gives_known f.type k) (gives_ask (not s.is_static) 5 (Fits (variable_of f.type)) (varies_known f.type k))
  name_gives (l ∷ ls) f n h k = go (bytes_eq l.name n) (name_gives ls f n h.1 k)
    where
      go : (b : Bool) → Gives (name_rule s (meant_by ls f n)) → Gives (name_rule s (if b then LocalName (length ls) l.type else meant_by ls f n))
      go true r = varies_known l.type h.0
      go false r = r

  field_gives : (f : Option Field) → FieldKnown f → Gives (field_rule f)
  field_gives None k = gives_none 22
  field_gives (Some f) k = gives_ask (not f.is_static) 22 (Fits (variable_of f.type)) (varies_known f.type k)

  access_gives : (n : List ℕ) (t : JavaType) → Gives (access_rule s n t)
  access_gives n (ClassType c) = field_gives (field_named s.table c n) (field_known c n)
  access_gives n (ArrayType t) = gives_ask (bytes_eq n (codes "length")) 22 (Fits (Value int_type)) (gives_value int_type)
  access_gives n _ = gives_none 22

  constant_gives : (f : Option Field) → FieldKnown f → Gives (constant_rule f)
  constant_gives None k = gives_none 22
  constant_gives (Some f) k = gives_ask f.is_static 22 (gives f.type) (gives_known f.type k)

  arguments_gives : (ts : List JavaType) (m : Method) → is_known m.result ≡ true → Gives (arguments_rule s ts m)
  arguments_gives ts m k = gives_ask (Rattle.kr_types_meaning.specs.Rules.arguments_fit s ts m.parameters) 24 (result_rule s m) (gives_ask (not (is_void m.result) || Rattle.kr_types_meaning.specs.Rules.is_statement s.role) 32 (gives m.result) (gives_known m.result k))

  call_gives : (m : Option Method) (ts : List JavaType) → MethodKnown m → Gives (call_rule s m ts)
  call_gives None ts k = gives_none 24
  call_gives (Some m) ts k = gives_ask (m.is_static || not s.is_static) 5 (arguments_rule s ts m) (arguments_gives ts m k)

  static_gives : (m : Option Method) (ts : List JavaType) → MethodKnown m → Gives (static_rule s m ts)
  static_gives None ts k = gives_none 24
  static_gives (Some m) ts k = gives_ask m.is_static 24 (arguments_rule s ts m) (arguments_gives ts m k)

  above_gives : (m : Option Method) (ts : List JavaType) → MethodKnown m → Gives (above_rule s m ts)
  above_gives None ts k = gives_none 33
  above_gives (Some m) ts k = gives_if m.is_static (Breaks 33) (arguments_rule s ts m) (gives_none 33) (arguments_gives ts m k)

  super_gives : (n : List ℕ) (ts : List JavaType) → Gives (super_rule s n ts)
  super_gives n ts = gives_ask (not s.is_static) 5 _ (above_gives (option_and_then (λ c. method_named s.table c n) (super_class s)) ts (above (super_class s)))
    where
      above : (c : Option ℕ) → MethodKnown (option_and_then (λ c. method_named s.table c n) c)
      above None = tt
      above (Some c) = method_known c n

  collection_gives : (is_list : Bool) (t : JavaType) (n : List ℕ) (ts : List JavaType) → Gives (collection_rule s is_list t n ts)
  collection_gives is_list t n [] =
      gives_if (bytes_eq n (codes "size")) (Fits (Value int_type)) _ (gives_value int_type) (gives_if (bytes_eq n (codes "isEmpty")) (Fits (Value BooleanType)) _ (gives_value BooleanType) (gives_ask (bytes_eq n (codes "removeFirst") && is_list && is_element t) 25 (Fits (Value t)) (gives_value t)))
  collection_gives is_list t n (x ∷ []) =
      gives_if (bytes_eq n (codes "add")) _ _ (gives_ask (is_assignable s.table x t) 25 (Fits (Value BooleanType)) (gives_value BooleanType))
      (gives_ask ((bytes_eq n (codes "contains") || bytes_eq n (codes "remove")) && Rattle.kr_classes_table.specs.Types.is_reference x && not (Rattle.kr_classes_table.specs.Types.is_collection x)) 25 (Fits (Value BooleanType)) (gives_value BooleanType))
  collection_gives is_list t n (x ∷ y ∷ xs) = gives_none 25

  method_gives : (m : Option Method) (ts : List JavaType) → MethodKnown m → Gives (method_rule s m ts)
  method_gives None ts k = gives_none 24
  method_gives (Some m) ts k = arguments_gives ts m k

  object_call_gives : (n : List ℕ) (t : JavaType) (ts : List JavaType) → Gives (object_call_rule s n t ts)
  object_call_gives n (ClassType c) ts = method_gives (method_named s.table c n) ts (method_known c n)
  object_call_gives n (SetType t) ts = collection_gives false t n ts
  object_call_gives n (ListType t) ts = collection_gives true t n ts
  object_call_gives n _ ts = gives_none 24

  kind_gives : (o : OperatorKind) (a b : JavaType) → Gives (kind_rule s o a b)
  kind_gives Arithmetic a b = gives_promoted (promoted a b) 7
  kind_gives Shift a b = gives_ask _ 8 (of_promoted (promoted_alone a) 8) (gives_promoted (promoted_alone a) 8)
  kind_gives Comparison a b = gives_ask _ 9 (Fits (Value BooleanType)) (gives_value BooleanType)
  kind_gives Equality a b = gives_ask _ 10 (Fits (Value BooleanType)) (gives_value BooleanType)
  kind_gives Bitwise a b = gives_if (both_boolean a b) (Fits (Value BooleanType)) (of_promoted (promoted a b) 11) (gives_value BooleanType) (gives_promoted (promoted a b) 11)
  kind_gives Logical a b = gives_ask _ 12 (Fits (Value BooleanType)) (gives_value BooleanType)

  written_gives : (x : Typed) (t : JavaType) → Gives (written_rule s x t)
  written_gives x t = gives_ask (Rattle.kr_types_meaning.specs.Rules.is_variable x) 19 _ (gives_ask (Rattle.kr_types_meaning.specs.Rules.is_code s.part) 39 (Fits (Value t)) (gives_value t))

unary_gives : (o : UnaryOperator) (t : JavaType) → Gives (unary_rule o t)
unary_gives unaries.Not t = gives_ask (Rattle.kr_types_meaning.specs.Rules.is_boolean t) 13 (Fits (Value BooleanType)) (gives_value BooleanType)
unary_gives unaries.Plus t = gives_promoted (promoted_alone t) 14
unary_gives unaries.Minus t = gives_promoted (promoted_alone t) 14
unary_gives unaries.Complement t = gives_promoted (promoted_alone t) 14

element_gives : (t i : JavaType) → Gives (element_rule t i)
element_gives (ArrayType t) i = gives_ask (Rattle.kr_types_meaning.specs.Rules.is_int i) 23 (Fits (Variable t)) (gives_variable t)
element_gives _ i = gives_none 23

-- two parts and their faults
two_type : (p : Place) (f : JavaType → JavaType → Judgement) (x y : Judged) → ((t u : JavaType) → Gives (f t u)) → (x.faults ≡ [] → HasType x.typed) → (y.faults ≡ [] → HasType y.typed) → (judge p (on_two f x.typed y.typed) (x.faults ++ y.faults)).faults ≡ [] → HasType (judge p (on_two f x.typed y.typed) (x.faults ++ y.faults)).typed
two_type p f x y g h k e =
    let below = below_none p (on_two f x.typed y.typed) (x.faults ++ y.faults) e in
    judge_type p (on_two f x.typed y.typed) (x.faults ++ y.faults) (one_gives (λ a. on_one (f a) y.typed) x.typed (h (front_none x.faults y.faults below)) (λ t. one_gives (f t) y.typed (k (back_none x.faults y.faults below)) (λ u. g t u))) e

one_type : (p : Place) (f : JavaType → Judgement) (x : Judged) → ((t : JavaType) → Gives (f t)) → (x.faults ≡ [] → HasType x.typed) → (judge p (on_one f x.typed) x.faults).faults ≡ [] → HasType (judge p (on_one f x.typed) x.faults).typed
one_type p f x g h e = judge_type p (on_one f x.typed) x.faults (one_gives f x.typed (h (below_none p (on_one f x.typed) x.faults e)) g) e

list_type : (p : Place) (f : List JavaType → Judgement) (x : Judged) → ((ts : List JavaType) → Gives (f ts)) → (x.faults ≡ [] → HasTypes x.typed) → (judge p (on_list f x.typed) x.faults).faults ≡ [] → HasType (judge p (on_list f x.typed) x.faults).typed
list_type p f x g h e = judge_type p (on_list f x.typed) x.faults (list_gives f x.typed (h (below_none p (on_list f x.typed) x.faults e)) g) e

one_and_list_type : (p : Place) (f : JavaType → List JavaType → Judgement) (x y : Judged) → ((t : JavaType) (ts : List JavaType) → Gives (f t ts)) → (x.faults ≡ [] → HasType x.typed) → (y.faults ≡ [] → HasTypes y.typed)
    → (judge p (on_one (λ a. on_list (f a) y.typed) x.typed) (x.faults ++ y.faults)).faults ≡ [] → HasType (judge p (on_one (λ a. on_list (f a) y.typed) x.typed) (x.faults ++ y.faults)).typed
one_and_list_type p f x y g h k e =
    let v = on_one (λ a. on_list (f a) y.typed) x.typed in
    let below = below_none p v (x.faults ++ y.faults) e in
    judge_type p v (x.faults ++ y.faults) (one_gives (λ a. on_list (f a) y.typed) x.typed (h (front_none x.faults y.faults below)) (λ t. list_gives (f t) y.typed (k (back_none x.faults y.faults below)) (λ ts. g t ts))) e

three_type : (p : Place) (f : JavaType → JavaType → JavaType → Judgement) (x y z : Judged) → ((t u r : JavaType) → Gives (f t u r)) → (x.faults ≡ [] → HasType x.typed) → (y.faults ≡ [] → HasType y.typed) → (z.faults ≡ [] → HasType z.typed)
    → (judge p (on_one (λ a. on_two (f a) y.typed z.typed) x.typed) (x.faults ++ y.faults ++ z.faults)).faults ≡ [] → HasType (judge p (on_one (λ a. on_two (f a) y.typed z.typed) x.typed) (x.faults ++ y.faults ++ z.faults)).typed
three_type p f x y z g h k l e =
    let v = on_one (λ a. on_two (f a) y.typed z.typed) x.typed in
    let below = below_none p v (x.faults ++ y.faults ++ z.faults) e in
    let front = front_none (x.faults ++ y.faults) z.faults below in
    judge_type p v (x.faults ++ y.faults ++ z.faults)
    (one_gives (λ a. on_two (f a) y.typed z.typed) x.typed (h (front_none x.faults y.faults front)) (λ t. one_gives (λ a. on_one (f t a) z.typed) y.typed (k (back_none x.faults y.faults front)) (λ u. one_gives (f t u) z.typed (l (back_none (x.faults ++ y.faults) z.faults below)) (λ r. g t u r)))) e

abbrev Claim : Bool → Typed → Type 0
Claim true x = HasTypes x
Claim false x = HasType x

-- a scope whose names have known types; the parts of an expression have it too
record IsKnownScope (s : Scope) : Type 0 where
  table : AreTypesKnown s.table
  locals : AreKnown s.locals
  result : is_known s.result ≡ true

accessed_type : (s : Scope) (k : IsKnownScope s) (p : Place) (n : List ℕ) (c : Option ℕ) (x : Judged) → (x.faults ≡ [] → HasType x.typed) → (field_of s p n c x).faults ≡ [] → HasType (field_of s p n c x).typed
accessed_type s k p n (Some c) x h e = judge_type p (constant_rule (field_named s.table c n)) [] (constant_gives s k.table (field_named s.table c n) (field_known s k.table c n)) e
accessed_type s k p n None x h e = one_type p (Rattle.kr_types_meaning.specs.Rules.access_rule s n) x (access_gives s k.table n) h e

called_type : (s : Scope) (k : IsKnownScope s) (p : Place) (n : List ℕ) (c : Option ℕ) (x y : Judged) → (x.faults ≡ [] → HasType x.typed) → (y.faults ≡ [] → HasTypes y.typed) → (method_of s p n c x y).faults ≡ [] → HasType (method_of s p n c x y).typed
called_type s k p n (Some c) x y h g e = list_type p (static_rule s (method_named s.table c n)) y (λ ts. static_gives s k.table (method_named s.table c n) ts (method_known s k.table c n)) g e
called_type s k p n None x y h g e = one_and_list_type p (object_call_rule s n) x y (object_call_gives s k.table n) h g e

known_part : (s : Scope) → IsKnownScope s → IsKnownScope (value s)
known_part s k = record { table = k.table; locals = k.locals; result = k.result }

known_old : (s : Scope) → IsKnownScope s → IsKnownScope (in_old s)
known_old s k = record { table = k.table; locals = k.locals; result = k.result }

known_operand : (o : UnaryOperator) (s : Scope) → IsKnownScope s → IsKnownScope (operand o s)
known_operand unaries.Minus s k = record { table = k.table; locals = k.locals; result = k.result }
known_operand unaries.Plus s k = known_part s k
known_operand unaries.Complement s k = known_part s k
known_operand unaries.Not s k = known_part s k

-- an expression leaves its scope
after_shaped : (s : Scope) (e : Tree) → Shaped false e → Rattle.kr_types_meaning.specs.Scopes.after s e ≡ s
after_shaped s (trees.Number p n) h = refl
after_shaped s (trees.LongNumber p n) h = refl
after_shaped s (trees.Truth p b) h = refl
after_shaped s (trees.Null p) h = refl
after_shaped s (trees.This p) h = refl
after_shaped s (trees.Variable p n) h = refl
after_shaped s (trees.FieldAccess p e n) h = refl
after_shaped s (trees.ArrayAccess p a i) h = refl
after_shaped s (trees.Call p n es) h = refl
after_shaped s (trees.MethodCall p e n es) h = refl
after_shaped s (trees.SuperCall p n es) h = refl
after_shaped s (trees.ObjectCreation p t es) h = refl
after_shaped s (trees.ArrayCreation p t e) h = refl
after_shaped s (trees.Unary p o e) h = refl
after_shaped s (trees.Step p o e) h = refl
after_shaped s (trees.Binary p o a b) h = refl
after_shaped s (trees.InstanceOf p e t) h = refl
after_shaped s (trees.Conditional p c a b) h = refl
after_shaped s (trees.Cast p t e) h = refl
after_shaped s (trees.Assignment p a b) h = refl
after_shaped s (trees.CompoundAssignment p o a b) h = refl
after_shaped s (trees.Result p) h = refl
after_shaped s (trees.Old p e) h = refl
after_shaped s _ h = absurd h

typed : (l : Bool) (s : Scope) (e : Tree) → IsKnownScope s → Shaped l e → (judged s e).faults ≡ [] → Claim l (judged s e).typed
unfolding judged
typed true s trees.Nil k h f = ([], refl)
typed true s (trees.Cons a b) k h f =
    let e = after_shaped s a h.0 in
    joined_types (judged s a).typed (judged (Rattle.kr_types_meaning.specs.Scopes.after s a) b).typed (typed false s a k h.0 (front_none (judged s a).faults _ f))
    (typed true (Rattle.kr_types_meaning.specs.Scopes.after s a) b (subst IsKnownScope (sym e) k) h.1 (back_none (judged s a).faults _ f))
typed true s _ k h f = absurd h
typed false s (trees.Number p n) k h f = judge_type p (number_rule s Bits32 n) [] (gives_ask (nat_lt n (half Bits32) || Rattle.kr_types_meaning.specs.Rules.is_under_minus s.role) 6 (Fits (Value (NumberType Bits32))) (gives_value (NumberType Bits32))) f
typed false s (trees.LongNumber p n) k h f = judge_type p (number_rule s Bits64 n) [] (gives_ask (nat_lt n (half Bits64) || Rattle.kr_types_meaning.specs.Rules.is_under_minus s.role) 6 (Fits (Value (NumberType Bits64))) (gives_value (NumberType Bits64))) f
typed false s (trees.Truth p b) k h f = (BooleanType, refl)
typed false s (trees.Null p) k h f = (NullType, refl)
typed false s (trees.This p) k h f = judge_type p (this_rule s) [] (gives_ask (not s.is_static) 5 (Fits (Value (ClassType s.class))) (gives_value (ClassType s.class))) f
typed false s (trees.Variable p n) k h f = judge_type p (name_rule s (meant s n)) [] (name_gives s k.table s.locals (field_meant s.table s.class n) n k.locals (meant_known s k.table n)) f
typed false s (trees.FieldAccess p e n) k h f = accessed_type s k p n (class_before s e) (judged (value s) e) (λ g. typed false (value s) e (known_part s k) h g) f
typed false s (trees.ArrayAccess p a i) k h f = two_type p element_rule (judged (value s) a) (judged (value s) i) element_gives (λ g. typed false (value s) a (known_part s k) h.0 g) (λ g. typed false (value s) i (known_part s k) h.1 g) f
typed false s (trees.Call p n es) k h f = list_type p (call_rule s (method_meant s n)) (judged (value s) es) (λ ts. call_gives s k.table (method_meant s n) ts (call_known s k.table n)) (λ g. typed true (value s) es (known_part s k) h g) f
typed false s (trees.MethodCall p e n es) k h f = called_type s k p n (class_before s e) (judged (value s) e) (judged (value s) es) (λ g. typed false (value s) e (known_part s k) h.0 g) (λ g. typed true (value s) es (known_part s k) h.1 g) f
typed false s (trees.SuperCall p n es) k h f = list_type p (super_rule s n) (judged (value s) es) (super_gives s k.table n) (λ g. typed true (value s) es (known_part s k) h g) f
typed false s (trees.ObjectCreation p t es) k h f =
    one_and_list_type p (creation_rule s) (judged s t) (judged (value s) es) (λ u ts. gives_ask (Rattle.kr_types_meaning.specs.Rules.creation_fits s u ts) 26 _ (gives_ask (Rattle.kr_types_meaning.specs.Rules.is_code s.part) 39 (Fits (Value u)) (gives_value u))) (created_type s t h.0) (λ g. typed true (value s) es (known_part s k) h.1 g) f
typed false s (trees.ArrayCreation p t e) k h f =
    two_type p (array_creation_rule s) (judged s t) (judged (value s) e) (λ u r. gives_ask (Rattle.kr_types_meaning.specs.Rules.is_int r) 27 _ (gives_ask (Rattle.kr_types_meaning.specs.Rules.is_code s.part) 39 (Fits (Value (ArrayType u))) (gives_value (ArrayType u)))) (written_type s t h.0) (λ g. typed false (value s) e (known_part s k) h.1 g) f
typed false s (trees.Unary p o e) k h f = one_type p (unary_rule o) (judged (operand o s) e) (unary_gives o) (λ g. typed false (operand o s) e (known_operand o s k) h g) f
typed false s (trees.Step p o e) k h f = one_type p (step_rule s (judged (value s) e).typed) (judged (value s) e) (λ t. gives_ask (is_number t) 18 _ (written_gives s k.table (judged (value s) e).typed t)) (λ g. typed false (value s) e (known_part s k) h g) f
typed false s (trees.Binary p o a b) k h f = two_type p (operator_rule s o) (judged (value s) a) (judged (value s) b) (kind_gives s k.table (kind_of o)) (λ g. typed false (value s) a (known_part s k) h.0 g) (λ g. typed false (value s) b (known_part s k) h.1 g) f
typed false s (trees.InstanceOf p e t) k h f =
    two_type p (instance_rule s) (judged (value s) e) (judged s t) (λ u r. gives_ask (is_element r && Rattle.kr_types_meaning.specs.Rules.related_references s u r) 21 (Fits (Value BooleanType)) (gives_value BooleanType)) (λ g. typed false (value s) e (known_part s k) h.0 g) (written_type s t h.1) f
typed false s (trees.Conditional p c a b) k h f =
    three_type p (choice_rule s) (judged (value s) c) (judged (value s) a) (judged (value s) b)
    (λ t u r. gives_ask (Rattle.kr_types_meaning.specs.Rules.is_boolean t && Rattle.kr_classes_table.specs.Table.are_related s.table u r) 15 (Fits (Value (if is_assignable s.table u r then r else u))) (gives_value (if is_assignable s.table u r then r else u)))
    (λ g. typed false (value s) c (known_part s k) h.0 g) (λ g. typed false (value s) a (known_part s k) h.1 g) (λ g. typed false (value s) b (known_part s k) h.2 g) f
typed false s (trees.Cast p t e) k h f = two_type p (cast_rule s) (judged s t) (judged (value s) e) (λ u r. gives_ask _ 20 (Fits (Value u)) (gives_value u)) (written_type s t h.0) (λ g. typed false (value s) e (known_part s k) h.1 g) f
typed false s (trees.Assignment p a b) k h f =
    two_type p (assignment_rule s (judged (value s) a).typed) (judged (value s) a) (judged (value s) b) (λ t u. gives_ask (is_assignable s.table u t) 16 _ (written_gives s k.table (judged (value s) a).typed t)) (λ g. typed false (value s) a (known_part s k) h.0 g) (λ g. typed false (value s) b (known_part s k) h.1 g) f
typed false s (trees.CompoundAssignment p o a b) k h f =
    two_type p (compound_rule s o (judged (value s) a).typed) (judged (value s) a) (judged (value s) b) (λ t u. gives_ask (not (is_broken (operator_rule s o t u))) 17 _ (written_gives s k.table (judged (value s) a).typed t)) (λ g. typed false (value s) a (known_part s k) h.1 g) (λ g. typed false (value s) b (known_part s k) h.2 g) f
typed false s (trees.Result p) k h f = judge_type p (result_value_rule s) [] (gives_ask (Rattle.kr_types_meaning.specs.Rules.is_ensuring s.part && not (is_void s.result) && not s.is_in_old) 38 (gives s.result) (gives_known s.result k.result)) f
typed false s (trees.Old p e) k h f = one_type p (old_rule s) (judged (in_old s) e) (λ t. gives_ask (Rattle.kr_types_meaning.specs.Rules.is_after_body s.part && not s.is_in_old) 38 (Fits (Value t)) (gives_value t)) (λ g. typed false (in_old s) e (known_old s k) h g) f
typed false s _ k h f = absurd h

pub has_type : (s : Scope) (e : Tree) → AreTypesKnown s.table → AreKnown s.locals → is_known s.result ≡ true → Shaped false e → (judged s e).faults ≡ [] → HasType (judged s e).typed
has_type s e known locals result h f = typed false s e (record { table = known; locals = locals; result = result }) h f
