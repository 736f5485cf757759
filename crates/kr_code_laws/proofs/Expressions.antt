-- An expression's resolved form does what the expression does.
use Rattle.std.proofs.Common.{◌≡◌, ℕ, Bool, true, false, List, Option, Some, None, refl, sym, ap, ◌∙◌}
use Rattle.std.specs.Prelude.{pos, negsuc, nat_lt, if◌then◌else◌}
use Rattle.kr_ast.specs.declared.node.BinaryOperator.{BinaryOperator}
use Rattle.kr_ast.specs.declared.node.BinaryOperator.TheVariants as operators
use Rattle.kr_ast.specs.Tree as trees
use Rattle.kr_ast.specs.Tree.{Tree}
use Rattle.kr_value.specs.declared.value.Value.{Value}
use Rattle.kr_value.specs.declared.value.Value.TheVariants.{Int, Bool as Truth, Null, Ref as Reference}
use Rattle.kr_classes_table.specs.Types.{JavaType, NumberType, ClassType, ArrayType, SetType, ListType}
use Rattle.kr_classes_table.specs.Table.{Field, Method, items}
use Rattle.kr_classes_table.specs.Arrays.{array_number}
use Rattle.kr_classes_table.specs.Constants.{constant_of}
use Rattle.kr_types_meaning.specs.Scopes.{Scope, Meant, LocalName, FieldName, NoName, written, meant, class_before}
use Rattle.kr_mean.specs.declared.kind.Kind.TheVariants.{ArrayTooLong}
use Rattle.kr_mean.specs.declared.kind.Stop.TheVariants.{Trapped, Stuck}
use Rattle.kr_mean.specs.Program.{Program, default_of, overriding}
use Rattle.kr_mean.specs.Steps.{Run, say, give, stop, given, ◌>>=◌, ◌>>◌, get_this, read_local, element, class_or_null, class_of, load_field, store, store_element}
use Rattle.kr_classes_table.specs.Numbers.{Width}
use Rattle.kr_mean.specs.declared.operations.BinaryOperation.{BinaryOperation}
use Rattle.kr_types_meaning.specs.Promotion.{is_number}
use Rattle.kr_mean.specs.Operators.{operated, binary_operation, compound_operation, step_operation}
use Rattle.kr_mean.specs.Meaning as means
use Rattle.kr_mean.specs.Meaning.{Parts, Target, Change, values_of, constant, read_name, own_call, called, method_call, create, create_array, binary, cast, primitive_cast, instance, target_of, assigned, changed, compound, stepped, width_at, width_of, value_of, value, unbounded}
use Rattle.kr_code.specs.declared.code.Code.{Code}
use Rattle.kr_code.specs.declared.expression.Callee.TheVariants as callees
use Rattle.kr_code.specs.declared.expression.Variable.{Variable}
use Rattle.kr_code.specs.declared.expression.Expression.{Expression}
use Rattle.kr_code.specs.declared.expression.Expression.TheVariants as expressions
use Rattle.kr_code.specs.Collections.{call_named}
use Rattle.kr_code.specs.Tables.{listed, method_at}
use Rattle.kr_code.specs.Doing as doings
use Rattle.kr_code.specs.Doing.{Doing, values_at, run_on, array_of}
use Rattle.kr_code.specs.Steps.{load_named, store_field, store_item, cast_to}
use Rattle.kr_code.specs.Resolved as resolved
use Rattle.kr_code.specs.Resolved.{Numbering, IsPart, AreParts, IsVariable, IsMethod, IsExpression, is_junction, is_uncreatable, is_no_expression, constant_meant, AreTables}
use Rattle.kr_code_laws.specs.Laws.{doing_of}
use Rattle.kr_code_laws.proofs.Agreeing.{Agree, then_same, choose_same}
use Rattle.kr_code_laws.proofs.Lookups.{loads, stores, stores_item, casts, instances}
use Rattle.kr_code_laws.proofs.Collections.{collects, creates_set, creates_list}
use Rattle.kr_code_laws.proofs.Calls.{value_part, values_parts, method_runs, dispatched, creates}

module _ (program : Program) (code : Code) (n : Numbering) (tables : AreTables program code n) where
  abbrev d : Doing
  d = doing_of program n

  abbrev p : Parts
  p = unbounded program

  part : (s : Scope) (t : Tree) (i : ℕ) → IsPart n s t i → Agree (d.value i) (p.value s t)
  part = value_part program code n tables

  parts : (s : Scope) (ts : List Tree) (is : List ℕ) → AreParts n s ts is → Agree (values_at d is) (values_of p s ts)
  parts = values_parts program code n tables

  -- a field by the number of its name
  load_same : (k : ℕ) (x : List ℕ) → n.name k ≡ x → (o : Value) → Agree (load_named code k o) (load_field program x o)
  load_same k x e o state = loads program code n tables k o state ∙ ap (λ (y : List ℕ). load_field program y o state) e

  store_same : (k : ℕ) (f : Field) → n.field k ≡ f → (o v : Value) → Agree (store_field code k o v) (store program f o v)
  store_same k f e o v state = stores program code n tables k o v state ∙ ap (λ (y : Field). store program y o v state) e

  item_same : (k : ℕ) (t : JavaType) → n.type k ≡ ArrayType t → (o i v : Value) → Agree (store_item code k o i v) (store_element program t o i v)
  item_same = stores_item program code n tables

  -- ---- variables

  assigned_same : (s : Scope) (t : Target) (x : Variable) → IsVariable n s t x → (m m' : Run Value) → Agree m m' → Agree (doings.assigned code d x m) (assigned program p s t m')
  assigned_same s t x resolved.unknown m m' q = λ state. refl
  assigned_same s t x (resolved.local k) m m' q = then_same m m' _ _ q (λ v state. refl)
  assigned_same s t x (resolved.own f name field e g) m m' q = then_same m m' _ _ q (λ v. then_same get_this get_this _ _ (λ state. refl) (λ o. then_same (store_field code field o v) (store program f o v) _ _ (store_same field f g o v) (λ u state. refl)))
  assigned_same s t x (resolved.of e f i name field h j g) m m' q =
      then_same (d.value i) (p.value s e) _ _ (part s e i h) (λ o. then_same m m' _ _ q (λ v. then_same (store_field code field o v) (store program f o v) _ _ (store_same field f g o v) (λ u state. refl)))
  assigned_same s t x (resolved.element a b y i j k h g e) m m' q =
      then_same (d.value i) (p.value s a) _ _ (part s a i h) (λ o. then_same (d.value j) (p.value s b) _ _ (part s b j g) (λ l. then_same m m' _ _ q (λ v. then_same (store_item code k o l v) (store_element program y o l v) _ _ (item_same k y e o l v) (λ u state. refl))))

  changed_same : (s : Scope) (t : Target) (x : Variable) → IsVariable n s t x → (f f' : Value → Run Change) → ((v : Value) → Agree (f v) (f' v)) → Agree (doings.changed code d x f) (changed program p s t f')
  changed_same s t x resolved.unknown f f' q = λ state. refl
  changed_same s t x (resolved.local k) f f' q = then_same (read_local k) (read_local k) _ _ (λ state. refl) (λ v. then_same (f v) (f' v) _ _ (q v) (λ c state. refl))
  changed_same s t x (resolved.own y name field e g) f f' q =
      then_same get_this get_this _ _ (λ state. refl) (λ o. then_same (load_named code name o) (load_field program y.name o) _ _ (load_same name y.name e o) (λ v. then_same (f v) (f' v) _ _ (q v) (λ c. then_same (store_field code field o c.new) (store program y o c.new) _ _ (store_same field y g o c.new) (λ u state. refl))))
  changed_same s t x (resolved.of e y i name field h j g) f f' q =
      then_same (d.value i) (p.value s e) _ _ (part s e i h) (λ o. then_same (load_named code name o) (load_field program y.name o) _ _ (load_same name y.name j o) (λ v. then_same (f v) (f' v) _ _ (q v) (λ c. then_same (store_field code field o c.new) (store program y o c.new) _ _ (store_same field y g o c.new) (λ u state. refl))))
  changed_same s t x (resolved.element a b y i j k h g e) f f' q =
      then_same (d.value i) (p.value s a) _ _ (part s a i h) (λ o. then_same (d.value j) (p.value s b) _ _ (part s b j g) (λ l. then_same (element o l) (element o l) _ _ (λ state. refl) (λ v.
      then_same (f v) (f' v) _ _ (q v) (λ c. then_same (store_item code k o l c.new) (store_element program y o l c.new) _ _ (item_same k y e o l c.new) (λ u state. refl)))))

  compound_same : (o : BinaryOperation) (m m' : Run Value) → Agree m m' → (v : Value) → Agree (compound o m v) (compound o m' v)
  compound_same o m m' q v = then_same m m' _ _ q (λ w state. refl)

  -- ---- names

  constant_same : (s : Scope) (f : Option Field) (v : Value) → constant_meant s f ≡ Some v → Agree (give v) (constant s f)
  constant_same s f v e state = ap (λ (x : Option Value). given x state) (sym e)

  no_constant_same : (s : Scope) (f : Option Field) → constant_meant s f ≡ None → Agree (stop Stuck) (constant s f)
  no_constant_same s f e state = ap (λ (x : Option Value). given x state) (sym e)

  static_name : (s : Scope) (f : Field) (m : Run Value) → f.is_static ≡ true → Agree m (constant s (Some f)) → Agree m (read_name program s (FieldName f))
  static_name s f m e q state = q state ∙ ap (λ (b : Bool). (if b then constant s (Some f) else (get_this >>= load_field program f.name)) state) (sym e)

  own_name : (s : Scope) (f : Field) (k : ℕ) → f.is_static ≡ false → n.name k ≡ f.name → Agree (get_this >>= load_named code k) (read_name program s (FieldName f))
  own_name s f k e g state = then_same get_this get_this _ _ (λ x. refl) (λ o. load_same k f.name g o) state ∙ ap (λ (b : Bool). (if b then constant s (Some f) else (get_this >>= load_field program f.name)) state) (sym e)

  -- ---- calls

  run_on_same : (m : Method) (k : ℕ) → IsMethod code n m k → (o : Value) (vs : List Value) → Agree (run_on code d k o vs) (class_of o >>= (λ class. means.run_method program p o vs (overriding program m class)))
  run_on_same m k h o vs = then_same (class_of o) (class_of o) _ _ (λ state. refl) (λ class. dispatched program code n tables m k h o vs class)

  static_own : (m : Method) (k : ℕ) → IsMethod code n m k → m.is_static ≡ true → (vs : List Value) → Agree (doings.run_method code d Null vs (method_at code k)) (own_call program p vs (Some m))
  static_own m k h e vs state = method_runs program code n tables m k h Null vs state ∙ ap (λ (b : Bool). (if b then means.run_method program p Null vs (Some m) else (get_this >>= (λ o. class_of o >>= (λ class. means.run_method program p o vs (overriding program m class))))) state) (sym e)

  virtual_own : (m : Method) (k : ℕ) → IsMethod code n m k → m.is_static ≡ false → (vs : List Value) → Agree (get_this >>= (λ o. run_on code d k o vs)) (own_call program p vs (Some m))
  virtual_own m k h e vs state = then_same get_this get_this _ _ (λ x. refl) (λ o. run_on_same m k h o vs) state ∙ ap (λ (b : Bool). (if b then means.run_method program p Null vs (Some m) else (get_this >>= (λ o. class_of o >>= (λ class. means.run_method program p o vs (overriding program m class))))) state) (sym e)

  virtual_on : (m : Method) (k : ℕ) → IsMethod code n m k → m.is_static ≡ false → (x : List ℕ) (o : Value) (vs : List Value) → Agree (run_on code d k o vs) (called program p x o vs (Some m))
  virtual_on m k h e x o vs = then_same (class_of o) (class_of o) _ _ (λ state. refl) (λ class state. dispatched program code n tables m k h o vs class state ∙ ap (λ (b : Bool). (if b then means.run_method program p Null vs (Some m) else means.run_method program p o vs (overriding program m class)) state) (sym e))

  static_on : (m : Method) (k : ℕ) → IsMethod code n m k → m.is_static ≡ true → (x : List ℕ) (o : Value) (vs : List Value) → Agree (class_of o >> doings.run_method code d Null vs (method_at code k)) (called program p x o vs (Some m))
  static_on m k h e x o vs = then_same (class_of o) (class_of o) _ _ (λ state. refl) (λ class state. method_runs program code n tables m k h Null vs state ∙ ap (λ (b : Bool). (if b then means.run_method program p Null vs (Some m) else means.run_method program p o vs (overriding program m class)) state) (sym e))

  arrays_same : (t : JavaType) (v : Value) → Agree (array_of (array_number program.arrays (ArrayType t)) (default_of t) v) (create_array program t v)
  arrays_same t (Int (pos k)) state = go (nat_lt 64 k)
    where
      made : (x : Option ℕ) → doings.new_array k x (default_of t) state ≡ means.make_array t k x state
      made None = refl
      made (Some y) = refl

      go : (b : Bool) → (if b then stop (Trapped ArrayTooLong) else doings.new_array k (array_number program.arrays (ArrayType t)) (default_of t)) state ≡ (if b then stop (Trapped ArrayTooLong) else means.make_array t k (array_number program.arrays (ArrayType t))) state
      go true = refl
      go false = made (array_number program.arrays (ArrayType t))
  arrays_same t (Int (negsuc k)) state = refl
  arrays_same t (Truth b) state = refl
  arrays_same t Null state = refl
  arrays_same t (Reference o) state = refl

  uncreatable : (t : JavaType) → is_uncreatable t ≡ true → (vs : List Value) → Agree (stop Stuck) (create program p t vs)
  uncreatable (ClassType c) e vs state = absurd (cc (e))
  uncreatable (SetType t) e vs state = absurd (cc (e))
  uncreatable (ListType t) e vs state = absurd (cc (e))
  uncreatable _ e vs state = refl

  -- a cast to a type that isn't a number's
  unconverted : (t : JavaType) → is_number t ≡ false → (m : Run Value) → Agree m (primitive_cast t m)
  unconverted (NumberType w) e m state = absurd (cc (e))
  unconverted _ e m state = refl

  binary_same : (width : Width) (o : BinaryOperator) → is_junction o ≡ false → (m m' k k' : Run Value) → Agree m m' → Agree k k' → Agree (m >>= (λ v. k >>= (λ w. say (operated (binary_operation width o) v w)))) (binary width o m' k')
  binary_same width operators.And e m m' k k' q r = absurd (cc (e))
  binary_same width operators.Or e m m' k k' q r = absurd (cc (e))
  binary_same width o e m m' k k' q r = then_same m m' _ _ q (λ v. then_same k k' _ _ r (λ w state. refl))

  -- ---- all

  named_same : (s : Scope) (x : List ℕ) (y : Meant) (m : Run Value) → meant s x ≡ y → Agree m (read_name program s y) → Agree m (read_name program s (meant s x))
  named_same s x y m e q state = q state ∙ ap (λ (z : Meant). read_name program s z state) (sym e)

  accessed_same : (s : Scope) (e : Tree) (x : List ℕ) (c : Option ℕ) (m : Run Value) → class_before s e ≡ c → Agree m (means.access program p s e x c) → Agree m (means.access program p s e x (class_before s e))
  accessed_same s e x c m g q state = q state ∙ ap (λ (z : Option ℕ). means.access program p s e x z state) (sym g)

  called_same : (s : Scope) (e : Tree) (x : List ℕ) (es : List Tree) (c : Option ℕ) (m : Run Value) → class_before s e ≡ c → Agree m (method_call program p s e x es c) → Agree m (method_call program p s e x es (class_before s e))
  called_same s e x es c m g q state = q state ∙ ap (λ (z : Option ℕ). method_call program p s e x es z state) (sym g)

  pub expression_same : (s : Scope) (t : Tree) (x : Expression) → IsExpression program code n s t x → Agree (doings.value_done code d x) (value_of program p s t)
  expression_same s t x (resolved.number r k) = λ state. refl
  expression_same s t x (resolved.long_number r k) = λ state. refl
  expression_same s t x (resolved.truth r b) = λ state. refl
  expression_same s t x (resolved.null r) = λ state. refl
  expression_same s t x (resolved.this r) = λ state. refl
  expression_same s t x (resolved.local r y k u e) = named_same s y (LocalName k u) (read_local k) e (λ state. refl)
  expression_same s t x (resolved.constant r y f v e g h) = named_same s y (FieldName f) (give v) e (static_name s f (give v) g (constant_same s (Some f) v h))
  expression_same s t x (resolved.no_constant r y f e g h) = named_same s y (FieldName f) (stop Stuck) e (static_name s f (stop Stuck) g (no_constant_same s (Some f) h))
  expression_same s t x (resolved.own_field r y f k e g h) = named_same s y (FieldName f) (get_this >>= load_named code k) e (own_name s f k g h)
  expression_same s t x (resolved.no_name r y e) = named_same s y NoName (stop Stuck) e (λ state. refl)
  expression_same s t x (resolved.class_constant r e y c v g h) = accessed_same s e y (Some c) (give v) g (constant_same s (constant_of s.table (Some c) y) v h)
  expression_same s t x (resolved.no_class_constant r e y c g h) = accessed_same s e y (Some c) (stop Stuck) g (no_constant_same s (constant_of s.table (Some c) y) h)
  expression_same s t x (resolved.field_of r e y i k g h j) = accessed_same s e y None (d.value i >>= load_named code k) g (then_same (d.value i) (p.value s e) _ _ (part s e i h) (λ o. load_same k y j o))
  expression_same s t x (resolved.element r a b i j h g) = then_same (d.value i) (p.value s a) _ _ (part s a i h) (λ o. then_same (d.value j) (p.value s b) _ _ (part s b j g) (λ k state. refl))
  expression_same s t x (resolved.no_call r y es ns e h) = then_same (values_at d (listed code ns)) (values_of p s (items es)) _ _ (parts s (items es) (listed code ns) h) (λ vs state. ap (λ (z : Option Method). own_call program p vs z state) (sym e))
  expression_same s t x (resolved.static_call r y es m k ns e g h j) =
      then_same (values_at d (listed code ns)) (values_of p s (items es)) _ _ (parts s (items es) (listed code ns) j) (λ vs state. static_own m k h g vs state ∙ ap (λ (z : Option Method). own_call program p vs z state) (sym e))
  expression_same s t x (resolved.own_call r y es m k ns e g h j) =
      then_same (values_at d (listed code ns)) (values_of p s (items es)) _ _ (parts s (items es) (listed code ns) j) (λ vs state. virtual_own m k h g vs state ∙ ap (λ (z : Option Method). own_call program p vs z state) (sym e))
  expression_same s t x (resolved.class_call r e y es c m k ns g h i j) =
      called_same s e y (items es) (Some c) (doings.call code d (callees.Static k) (listed code ns)) g
      (then_same (values_at d (listed code ns)) (values_of p s (items es)) _ _ (parts s (items es) (listed code ns) j) (λ vs state. method_runs program code n tables m k i Null vs state ∙ ap (λ (z : Option Method). means.run_method program p Null vs z state) (sym h)))
  expression_same s t x (resolved.no_class_call r e y es c ns g h j) =
      called_same s e y (items es) (Some c) (doings.call code d callees.Unknown (listed code ns)) g
      (then_same (values_at d (listed code ns)) (values_of p s (items es)) _ _ (parts s (items es) (listed code ns) j) (λ vs state. ap (λ (z : Option Method). means.run_method program p Null vs z state) (sym h)))
  expression_same s t x (resolved.call_on r e y es i m k ns g h f l a j) =
      called_same s e y (items es) None (doings.value_done code d (expressions.CallOn i k ns)) g
      (then_same (d.value i) (p.value s e) _ _ (part s e i a) (λ o. then_same (values_at d (listed code ns)) (values_of p s (items es)) _ _ (parts s (items es) (listed code ns) j) (λ vs state. virtual_on m k l f y o vs state ∙ ap (λ (z : Option Method). called program p y o vs z state) (sym h))))
  expression_same s t x (resolved.static_call_on r e y es i m k ns g h f l a j) =
      called_same s e y (items es) None (doings.value_done code d (expressions.StaticCallOn i k ns)) g
      (then_same (d.value i) (p.value s e) _ _ (part s e i a) (λ o. then_same (values_at d (listed code ns)) (values_of p s (items es)) _ _ (parts s (items es) (listed code ns) j) (λ vs state. static_on m k l f y o vs state ∙ ap (λ (z : Option Method). called program p y o vs z state) (sym h))))
  expression_same s t x (resolved.collection_call r e y es i ns g h a j) =
      called_same s e y (items es) None (doings.value_done code d (expressions.CallCollection i (call_named y) ns)) g
      (then_same (d.value i) (p.value s e) _ _ (part s e i a) (λ o. then_same (values_at d (listed code ns)) (values_of p s (items es)) _ _ (parts s (items es) (listed code ns) j) (λ vs state. collects y o vs state ∙ ap (λ (z : Option Method). called program p y o vs z state) (sym h))))
  expression_same s t x (resolved.super_call r y es m k ns e h j) =
      then_same get_this get_this _ _ (λ state. refl) (λ o. then_same (values_at d (listed code ns)) (values_of p s (items es)) _ _ (parts s (items es) (listed code ns) j) (λ vs state. method_runs program code n tables m k h o vs state ∙ ap (λ (z : Option Method). means.run_method program p o vs z state) (sym e)))
  expression_same s t x (resolved.no_super_call r y es ns e j) =
      then_same get_this get_this _ _ (λ state. refl) (λ o. then_same (values_at d (listed code ns)) (values_of p s (items es)) _ _ (parts s (items es) (listed code ns) j) (λ vs state. ap (λ (z : Option Method). means.run_method program p o vs z state) (sym e)))
  expression_same s t x (resolved.creation r u es c k ns e g j) =
      then_same (values_at d (listed code ns)) (values_of p s (items es)) _ _ (parts s (items es) (listed code ns) j) (λ vs state. creates program code n tables c k g vs state ∙ ap (λ (z : JavaType). create program p z vs state) (sym e))
  expression_same s t x (resolved.new_set r u es y ns e j) =
      then_same (values_at d (listed code ns)) (values_of p s (items es)) _ _ (parts s (items es) (listed code ns) j) (λ vs state. creates_set program p y vs state ∙ ap (λ (z : JavaType). create program p z vs state) (sym e))
  expression_same s t x (resolved.new_list r u es y ns e j) =
      then_same (values_at d (listed code ns)) (values_of p s (items es)) _ _ (parts s (items es) (listed code ns) j) (λ vs state. creates_list program p y vs state ∙ ap (λ (z : JavaType). create program p z vs state) (sym e))
  expression_same s t x (resolved.no_creation r u es ns e j) = then_same (values_at d (listed code ns)) (values_of p s (items es)) _ _ (parts s (items es) (listed code ns) j) (λ vs. uncreatable (written s u) e vs)
  expression_same s t x (resolved.array r u e i h) = then_same (d.value i) (p.value s e) _ _ (part s e i h) (λ v. arrays_same (written s u) v)
  expression_same s t x (resolved.unary r o e i h) = then_same (d.value i) (p.value s e) _ _ (part s e i h) (λ v state. refl)
  expression_same s t x (resolved.conjunction r a b i j h g) = then_same (d.value i) (p.value s a) _ _ (part s a i h) (λ v. choose_same v _ _ _ _ (part s b j g) (λ state. refl))
  expression_same s t x (resolved.disjunction r a b i j h g) = then_same (d.value i) (p.value s a) _ _ (part s a i h) (λ v. choose_same v _ _ _ _ (λ state. refl) (part s b j g))
  expression_same s t x (resolved.binary r o a b i j e h g) = binary_same (width_of s o a b) o e (d.value i) (p.value s a) (d.value j) (p.value s b) (part s a i h) (part s b j g)
  expression_same s t x (resolved.instance r e u i k h g) =
      then_same (d.value i) (p.value s e) _ _ (part s e i h) (λ v. then_same (class_or_null v) (class_or_null v) _ _ (λ state. refl) (λ class state. ap (λ (z : Value). give z state) (instances program code n tables k class ∙ ap (λ (z : JavaType). instance program z class) g)))
  expression_same s t x (resolved.conditional r c a b i j k h g l) = then_same (d.value i) (p.value s c) _ _ (part s c i h) (λ v. choose_same v _ _ _ _ (part s a j g) (part s b k l))
  expression_same s t x (resolved.number_cast r u e w i b ty h) = λ state.
      then_same (d.value i) (p.value s e) _ _ (part s e i h) (λ v y. refl) state
      ∙ ap (λ (z : JavaType). primitive_cast z (p.value s e) state) (sym ty)
      ∙ ap (λ (z : Bool). (if z then primitive_cast (written s u) (p.value s e) else (p.value s e >>= (λ v. class_or_null v >>= cast program (written s u) v))) state) (sym b)
  expression_same s t x (resolved.primitive_cast r u e k i b none ty h) = λ state.
      part s e i h state ∙ unconverted (written s u) none (p.value s e) state
      ∙ ap (λ (z : Bool). (if z then primitive_cast (written s u) (p.value s e) else (p.value s e >>= (λ v. class_or_null v >>= cast program (written s u) v))) state) (sym b)
  expression_same s t x (resolved.cast r u e k i b g h) = λ state.
      then_same (d.value i) (p.value s e) (λ v. class_or_null v >>= cast_to code k v) (λ v. class_or_null v >>= cast program (written s u) v) (part s e i h) (λ v. then_same (class_or_null v) (class_or_null v) _ _ (λ y. refl) (λ class y. casts program code n tables k v class y ∙ ap (λ (z : JavaType). cast program z v class y) g)) state
      ∙ ap (λ (z : Bool). (if z then primitive_cast (written s u) (p.value s e) else (p.value s e >>= (λ v. class_or_null v >>= cast program (written s u) v))) state) (sym b)
  expression_same s t x (resolved.assignment r a e y i h g) = assigned_same s (target_of s a) y h (d.value i) (p.value s e) (part s e i g)
  expression_same s t x (resolved.compound r o a e y i h g) = let c = compound_operation (width_at s a) (width_of s o a e) o in changed_same s (target_of s a) y h (compound c (d.value i)) (compound c (p.value s e)) (λ v. compound_same c (d.value i) (p.value s e) (part s e i g) v)
  expression_same s t x (resolved.step r o a y h) = let c = step_operation (width_at s a) o in changed_same s (target_of s a) y h (stepped c) (stepped c) (λ v state. refl)
  expression_same s t x (resolved.result r) = λ state. refl
  expression_same s t x (resolved.old r e) = λ state. refl
  expression_same s t x (resolved.other u e) = others u e
    where
      others : (u : Tree) → is_no_expression u ≡ true → Agree (stop Stuck) (value_of program p s u)
      others (trees.Number q k) e state = absurd (cc (e))
      others (trees.LongNumber q k) e state = absurd (cc (e))
      others (trees.Truth q b) e state = absurd (cc (e))
      others (trees.Null q) e state = absurd (cc (e))
      others (trees.This q) e state = absurd (cc (e))
      others (trees.Variable q y) e state = absurd (cc (e))
      others (trees.FieldAccess q a y) e state = absurd (cc (e))
      others (trees.ArrayAccess q a i) e state = absurd (cc (e))
      others (trees.Call q y es) e state = absurd (cc (e))
      others (trees.MethodCall q a y es) e state = absurd (cc (e))
      others (trees.SuperCall q y es) e state = absurd (cc (e))
      others (trees.ObjectCreation q a es) e state = absurd (cc (e))
      others (trees.ArrayCreation q a b) e state = absurd (cc (e))
      others (trees.Unary q o a) e state = absurd (cc (e))
      others (trees.Step q o a) e state = absurd (cc (e))
      others (trees.Binary q o a b) e state = absurd (cc (e))
      others (trees.InstanceOf q a b) e state = absurd (cc (e))
      others (trees.Conditional q a b c) e state = absurd (cc (e))
      others (trees.Cast q a b) e state = absurd (cc (e))
      others (trees.Assignment q a b) e state = absurd (cc (e))
      others (trees.CompoundAssignment q o a b) e state = absurd (cc (e))
      others (trees.Result q) e state = absurd (cc (e))
      others (trees.Old q a) e state = absurd (cc (e))
      others _ e state = refl
