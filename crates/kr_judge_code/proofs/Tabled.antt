-- The tables of the code.
use Rattle.std.proofs.Common.{◌≡◌, refl, sym, ap, ◌∙◌, ℕ, ◌<◌, ◌≤◌, false, List, length, map, get_or, subst, arith, ◌⊎◌, inl, inr, Option, Some, None}
use Rattle.std.proofs.lemmas.Option.{slice_get_cases}
use Rattle.kr_value.specs.declared.object.Class.{Class}
use Rattle.kr_value.specs.declared.object.Class.TheVariants as classes
use Rattle.kr_classes_table.specs.Types.{JavaType, ArrayType}
use Rattle.kr_classes_table.specs.Table.{Field, Method, fields_of}
use Rattle.kr_mean.specs.declared.kind.Kind.{Kind}
use Rattle.kr_mean.specs.declared.kind.Kind.TheVariants.{NullPointerException, ArithmeticException, ArrayIndexOutOfBoundsException, NegativeArraySizeException, ClassCastException, NoSuchElementException, Thrown, NoReturn, ArrayTooLong}
use Rattle.kr_mean.specs.Program.{default_of, overriding, is_of_type}
use Rattle.kr_mean.specs.Thrown.{class_of_kind, step_kinds}
use Rattle.kr_code.specs.declared.code.Code.{Code}
use Rattle.kr_code.specs.declared.code.ClassCode.{ClassCode}
use Rattle.kr_code.specs.Resolved.{AreTables, IsMaybeMethod, IsMethod, Numbering}
use Rattle.kr_code.specs.Tables.{cell, class_at, class_in_kind, defaults_in, is_instance, is_numbered, method_in, spot_in}
use Rattle.kr_classes_names.specs.Types.{type_at}
use Rattle.kr_types.specs.declared.program.Program.{Program}
use Rattle.kr_code_members.specs.Nodes.{table, run_program}
use Rattle.kr_classes_members.specs.Rosters.{all_methods, method_numbered}
use Rattle.kr_code_lowering.specs.Origins.{Final, numbering_of}
use Rattle.kr_code_lowering.proofs.Called.{there}
use Rattle.kr_code_bodies.specs.declared.tables.Tables.{Tables}
use Rattle.kr_code_bodies.specs.Tabled.{AreTabled, IsOverrider}
use Rattle.kr_code_bodies.specs.Made.{AreBodies}
use Rattle.kr_code_bodies.proofs.Lines.{fields_past}

-- the code has these tables
pub record HasTables (code : Code) (t : Tables) : Type 0 where
  pub positions : code.positions.items ≡ t.positions.items
  pub spots : code.spots.items ≡ t.spots.items
  pub dispatch : code.dispatch.items ≡ t.dispatch.items
  pub instances : code.instances.items ≡ t.instances.items
  pub array_types : code.array_types.items ≡ t.array_types.items
  pub trap_classes : code.trap_classes.items ≡ t.trap_classes.items

module _ (p : Program) (arrays : List ℕ) (final : Final) (t : Tables) (tabled : AreTabled p.trees.items p.table.types (map (type_at p.table.types) arrays) final.names t)
    (code : Code) (has : HasTables code t) (methods : length code.methods.items ≡ length (all_methods (table p))) (count : length code.classes.items ≡ length (table p).classes) (bodies : AreBodies (run_program p arrays) code (numbering_of p final)) where
  abbrev n : Numbering
  n = numbering_of p final

  traps : code.trap_classes.items ≡ map (class_of_kind (run_program p arrays)) step_kinds
  traps = has.trap_classes ∙ tabled.traps

  spots_are : (k : ℕ) (class : Class) → spot_in code k class ≡ Rattle.kr_mean.specs.Program.spot_of_field (run_program p arrays) (n.field k) class
  spots_are k (classes.Object c) = ap (λ rows. cell None rows k c) has.spots ∙ tabled.spots k c
  spots_are k _ = refl

  maybe : (k c : ℕ) (o : Option ℕ) → IsOverrider p.trees.items (method_numbered (table p) k) c o → IsMaybeMethod code n (overriding (run_program p arrays) (n.method k) (classes.Object c)) o
  maybe k c None w = subst (λ (m : Option Method). IsMaybeMethod code n m None) w.shown tt
  maybe k c (Some j) w =
      let h : j < length code.methods.items = omega (arith, methods, w.within) in
      let made = there code.methods.items j h in
      let is : IsMethod code n (method_numbered (table p) j) j = record { is = refl; body = made.0; there = made.1 } in
      subst (λ (m : Option Method). IsMaybeMethod code n m (Some j)) w.shown is

  dispatch_is : (k : ℕ) (class : Class) → IsMaybeMethod code n (overriding (run_program p arrays) (n.method k) class) (method_in code k class)
  dispatch_is k (classes.Object c) = maybe k c (cell None code.dispatch.items k c) (subst (λ rows. IsOverrider p.trees.items (method_numbered (table p) k) c (cell None rows k c)) (sym has.dispatch) (tabled.dispatch k c))
  dispatch_is k _ = tt

  no_class : (ty : JavaType) → is_of_type (run_program p arrays) ty classes.Set ≡ false
  no_class (ArrayType u) = refl
  no_class _ = refl

  no_class' : (ty : JavaType) → is_of_type (run_program p arrays) ty classes.List ≡ false
  no_class' (ArrayType u) = refl
  no_class' _ = refl

  instances_are : (k : ℕ) (class : Class) → is_instance code k class ≡ is_of_type (run_program p arrays) (n.type k) class
  instances_are k (classes.Object c) = ap (λ rows. cell false rows k c) has.instances ∙ tabled.instances k c
  instances_are k (classes.Array j) = ap (λ ns. is_numbered k (get_or ns j None)) has.array_types ∙ tabled.array_types j k
  instances_are k classes.Set = sym (no_class (n.type k))
  instances_are k classes.List = sym (no_class' (n.type k))

  traps_are : (k : Kind) → class_in_kind code k ≡ class_of_kind (run_program p arrays) k
  traps_are NullPointerException = ap (λ cs. get_or cs 0 None) traps
  traps_are ArithmeticException = ap (λ cs. get_or cs 1 None) traps
  traps_are ArrayIndexOutOfBoundsException = ap (λ cs. get_or cs 2 None) traps
  traps_are NegativeArraySizeException = ap (λ cs. get_or cs 3 None) traps
  traps_are ClassCastException = ap (λ cs. get_or cs 4 None) traps
  traps_are NoSuchElementException = ap (λ cs. get_or cs 5 None) traps
  traps_are (Thrown c) = refl
  traps_are NoReturn = refl
  traps_are ArrayTooLong = refl

  -- past the last class there are no fields
  defaults_are : (c : ℕ) → defaults_in code (class_at code c) ≡ map (λ f. default_of f.type) (fields_of (table p) c)
  defaults_are c = go (slice_get_cases code.classes.items c).1
    where
      go : ((k : ClassCode) × (c < length code.classes.items) × (class_at code c ≡ Some k) × (get_or code.classes.items c k ≡ k)) ⊎ ((length code.classes.items ≤ c) × (class_at code c ≡ None)) → defaults_in code (class_at code c) ≡ map (λ f. default_of f.type) (fields_of (table p) c)
      go (inl w) = ap (defaults_in code) w.2 ∙ (bodies.classes c w.0 w.2).defaults
      go (inr w) = ap (defaults_in code) w.1 ∙ sym (ap (map (λ (f : Field). default_of f.type)) (fields_past (table p) c (omega (arith, w.0, count))))

  pub tables_are : AreTables (run_program p arrays) code n
  tables_are = record {
    length_name = tabled.length_name;
    positions = λ k c. ap (λ rows. cell None rows k c) has.positions ∙ tabled.positions k c;
    spots = spots_are;
    dispatch = dispatch_is;
    defaults = defaults_are;
    traps = traps_are;
    instances = instances_are;
    methods = bodies.methods;
    classes = bodies.classes;
    lines = bodies.lines;
  }
