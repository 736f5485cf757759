-- Between crates: what typing gives of a whole program: of each field, constant, method, constructor and initial value what runs
-- rely on.
use Rattle.std.specs.Prelude.{◌≡◌, ℕ, true, false, List, [], ◌∷◌, map, Option, Some, None}
use Rattle.kr_base.specs.declared.place.Place.{Place}
use Rattle.kr_ast.specs.Tree as trees
use Rattle.kr_ast.specs.Tree.{Tree}
use Rattle.kr_value.specs.declared.value.Value.{Value}
use Rattle.kr_value.specs.declared.object.Class.TheVariants.{Object}
use Rattle.kr_classes_table.specs.Types.{JavaType}
use Rattle.kr_classes_table.specs.Table.{Table, Field, Parameter, Method, Constructor, super_of, line_of, is_below, is_assignable, field_named, method_named, constructor_parameters}
use Rattle.kr_classes_table.specs.Constants.{known_value}
use Rattle.kr_types_meaning.specs.Scopes.{Scope, after, super_parameters}
use Rattle.kr_types_meaning.specs.Typing.{judged, type_in}
use Rattle.kr_laws_types.specs.Types.{is_variable_type, is_result_type}
use Rattle.kr_laws_types.specs.Shapes.{Expression, Expressions, Statement, IsCode}
use Rattle.kr_laws_types.specs.Expressions.{plain}
use Rattle.kr_mean.specs.Program.{Program, overriding, class_scope, method_scope, constructor_scope, constructor_of, declared_fields}
use Rattle.kr_laws_safety.specs.Fits.{IsOf}
use Rattle.kr_laws_safety.specs.Steps.{HasField}

-- the types of `\old`s by their places
abbrev pub Olds : Type 0
Olds = Place → Option JavaType

abbrev pub AreAllVariables : List JavaType → Type 0
AreAllVariables [] = Unit {0}
AreAllVariables (t ∷ ts) = (is_variable_type t ≡ true) × AreAllVariables ts

abbrev pub types_in : List Parameter → List JavaType
types_in ps = map (λ p. p.type) ps

-- statements in order without broken nodes, each in the scope that those before it leave
abbrev pub AreUnbroken : List JavaType → Olds → Scope → List Tree → Type 0
AreUnbroken arrays olds s [] = Unit {0}
AreUnbroken arrays olds s (t ∷ ts) = IsCode arrays olds (Statement true) (plain s) t × ((judged s t).faults ≡ []) × AreUnbroken arrays olds (after s t) ts

-- a field that a class or an ancestor declares: its objects have it, and a constant has a value of its type
pub record IsField (program : Program) (c : ℕ) (n : List ℕ) (f : Field) : Type 0 where
  pub name : f.name ≡ n
  pub type : is_variable_type f.type ≡ true
  pub below : is_below program.table c f.class ≡ true
  pub instance : f.is_static ≡ false → HasField program c f.name f.type
  pub constant : f.is_static ≡ true → (v : Value) × (known_value program.values (Some f) ≡ Some v) × IsOf program.table [] f.type v

pub record IsMethod (program : Program) (m : Method) : Type 0 where
  pub parameters : AreAllVariables (types_in m.parameters)
  pub result : is_result_type m.result ≡ true
  pub body : (olds : Olds) → AreUnbroken program.arrays olds (method_scope program m) m.body

-- the method k that objects of the class d run where m is called
pub record Overrides (program : Program) (d : ℕ) (m k : Method) : Type 0 where
  pub found : overriding program m (Object d) ≡ Some k
  pub method : IsMethod program k
  pub instance : k.is_static ≡ false
  pub below : is_below program.table d k.class ≡ true
  pub parameters : types_in k.parameters ≡ types_in m.parameters
  pub result : is_assignable program.table k.result m.result ≡ true

-- the arguments of the superclass's constructor fit; where there is no call it takes none
abbrev pub CallsSuper : List JavaType → Olds → Scope → Tree → Type 0
CallsSuper arrays olds s (trees.ConstructorCall p es) = IsCode arrays olds Expressions s es × ((judged s (trees.ConstructorCall p es)).faults ≡ [])
CallsSuper arrays olds s t = super_parameters s ≡ []

pub record IsConstructor (program : Program) (c : ℕ) (k : Constructor) : Type 0 where
  pub parameters : AreAllVariables (types_in k.parameters)
  pub taken : constructor_parameters program.table c ≡ k.parameters
  pub call : (olds : Olds) → CallsSuper program.arrays olds (constructor_scope program c k) k.call
  pub body : (olds : Olds) → AreUnbroken program.arrays olds (constructor_scope program c k) k.body

-- a constructor, or none and the implied one, which takes nothing and gives nothing to the superclass's
abbrev pub IsConstructed : Program → ℕ → Option Constructor → Type 0
IsConstructed program c (Some k) = IsConstructor program c k
IsConstructed program c None = (constructor_parameters program.table c ≡ []) × (super_parameters (class_scope program c) ≡ [])

-- a field's initial value, which may be absent, is assignable to it
pub record IsInitialised (program : Program) (c : ℕ) (f : Field) : Type 0 where
  pub class : f.class ≡ c
  pub has : HasField program c f.name f.type
  pub variable : is_variable_type f.type ≡ true
  pub code : (olds : Olds) → IsCode program.arrays olds (Expression true) (class_scope program f.class) f.initial
  pub unbroken : (judged (class_scope program f.class) f.initial).faults ≡ []
  pub fits : (t : JavaType) → type_in (judged (class_scope program f.class) f.initial).typed ≡ Some t → is_assignable program.table t f.type ≡ true

abbrev pub AreInitialised : Program → ℕ → List Field → Type 0
AreInitialised program c [] = Unit {0}
AreInitialised program c (f ∷ fs) = IsInitialised program c f × AreInitialised program c fs

-- a whole line of classes, each before its superclass
abbrev pub first_class : List ℕ → Option ℕ
first_class [] = None
first_class (c ∷ cs) = Some c

abbrev pub IsLine : Table → List ℕ → Type 0
IsLine table [] = Unit {0}
IsLine table (c ∷ cs) = (super_of table c ≡ first_class cs) × IsLine table cs

pub record IsClass (program : Program) (c : ℕ) : Type 0 where
  pub line : IsLine program.table (line_of program.table c)
  -- its objects begin with fields of types of variables
  pub fields : AreAllVariables (Rattle.kr_laws_safety.specs.Steps.field_types program c)
  pub constructed : IsConstructed program c (constructor_of program c)
  pub initialised : AreInitialised program c (declared_fields program c)

-- The properties of a program that runs rely on. Typing gives them: rule by rule, of every class.
pub record IsTypedProgram (program : Program) : Type 0 where
  pub below : (c d e : ℕ) → is_below program.table c d ≡ true → is_below program.table d e ≡ true → is_below program.table c e ≡ true
  pub fields : (c : ℕ) (n : List ℕ) (f : Field) → field_named program.table c n ≡ Some f → IsField program c n f
  pub methods : (c : ℕ) (n : List ℕ) (m : Method) → method_named program.table c n ≡ Some m → IsMethod program m × (is_below program.table c m.class ≡ true)
  pub overridden : (c : ℕ) (n : List ℕ) (m : Method) (d : ℕ) → method_named program.table c n ≡ Some m → m.is_static ≡ false → is_below program.table d c ≡ true → (k : Method) × Overrides program d m k
  pub classes : (c : ℕ) → IsClass program c
