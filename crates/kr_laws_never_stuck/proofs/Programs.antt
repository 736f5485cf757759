-- Typing of a whole program.
use Rattle.std.proofs.Common.{◌≡◌, refl, sym, ap, ◌∙◌, subst, inl, inr, ◌⊎◌, ℕ, suc, Bool, true, false, List, [], ◌∷◌, ◌++◌, Option, Some, None}
use Rattle.std.specs.Prelude.{map, flat_map, reverse, is_some, bytes_eq, option_to_list, option_and_then, drop, if◌then◌else◌}
use Rattle.std.proofs.lemmas.List.{append-nil}
use Rattle.kr_ast.specs.Tree as trees
use Rattle.kr_ast.specs.Tree.{Tree}
use Rattle.kr_classes_table.specs.Types.{JavaType}
use Rattle.kr_classes_table.specs.Table.{Table, Class, Field, Method, Constructor, items, fields_in, methods_in, constructors_in, headings_of, table_of, class_at, line_of, own_fields, own_methods, is_instance, fields_of, field_named, method_named, constructor_parameters, is_below}
use Rattle.kr_classes_table.specs.Rules.{class_fault, break_if, repeated}
use Rattle.kr_types_meaning.specs.Scopes.{Scope, super_parameters}
use Rattle.kr_types_meaning.specs.Typing.{judge, judged, type_in, class_rule, has_constructor, IsWellTyped}
use Rattle.kr_laws_types.specs.Derivation.{MayCallSuper}
use Rattle.kr_laws_types.specs.Types.{is_variable_type}
use Rattle.kr_laws_types.specs.Shapes.{Expression, IsCode}
use Rattle.kr_mean.specs.Program.{Program, program_with, class_scope, method_scope, constructor_scope, first, constructor_of, declared_fields}
use Rattle.kr_mean.specs.Purity.{IsOneOf}
use Rattle.kr_laws_safety.specs.Steps.{field_types}
use Rattle.kr_laws_safety.specs.Typed.{Olds, AreAllVariables, IsField, IsMethod, Overrides, CallsSuper, IsConstructed, IsInitialised, AreInitialised, IsTypedProgram}
use Rattle.kr_laws_never_stuck.specs.ClassRules.{FollowsClassRules}
use Rattle.kr_laws_never_stuck.proofs.Unbroken.{unbroken}
use Rattle.kr_laws_never_stuck.proofs.Declared.{one_split, one_part, no_more, found_one, own_has}
use Rattle.kr_laws_never_stuck.proofs.Overriding.{class_rules}
use Rattle.kr_classes_table.proofs.Tables.{table_law}
use Rattle.kr_laws_never_stuck.specs.WellTyped.{AreApart, AreFiles, WellTypedProgramsLaw, RunsLaw}
use Rattle.kr_laws_safety.proofs.Runs.{predicate_unstuck}
use Rattle.kr_laws_safety.proofs.Verdicts.{testable}
use Rattle.kr_laws_never_stuck.proofs.Shaped.{AreStatements, AreSuperArguments, HasCode}
use Rattle.kr_laws_never_stuck.proofs.Coded.{has_code}
use Rattle.kr_classes_table.specs.Arrays.{array_types_of}
use Rattle.kr_laws_never_stuck.proofs.Files.{IsGoodAt, class_good_at}
use Rattle.kr_laws_never_stuck.proofs.Members.{member_of, statements_unbroken, IsGoodMethod, method_good, IsGoodConstructor, constructor_good, none_implied}
use Rattle.kr_laws_never_stuck.proofs.Initials.{expression_same, IsGoodField, field_good, declaring_constant, IsGoodConstant, constant_good}
use Rattle.kr_value.specs.declared.value.Value.{Value}
use Rattle.kr_laws_never_stuck.proofs.Evaluated.{IsConstantOf, constant_kept, AreKnown, evaluated_kept, Gives, IsAlone, all_known}
use Rattle.kr_classes_table.specs.Constants.{constant_in, constant_only, constants_in, placed, in_order, evaluated, is_constant, value_at, known_value, values_of}
use Rattle.kr_classes_table.specs.Rules.{is_earlier}
use Rattle.kr_laws_types.specs.Types.{HasVariables}
use Rattle.kr_laws_types.specs.Expressions.{plain, IsTyped}
use Rattle.kr_laws_types.proofs.Expressions.{is_typed}
use Rattle.kr_laws_runs.proofs.Respects.{AllOf, all_both}
use Rattle.kr_laws_safety.proofs.Targets.{widened}
use Rattle.kr_laws_safety.proofs.Creations.{is_nil, nil_is, present}
use Rattle.kr_laws_runs.proofs.Overriders.{one_front}
use Rattle.kr_base.proofs.ListLemmas.{append_is_nil}

-- ---- lists

-- instance fields among fields
instance_of : (f : Field) (fs : List Field) → IsOneOf f (flat_map is_instance fs) → IsOneOf f fs × (f.is_static ≡ false)
instance_of f [] h = absurd h
instance_of f (x ∷ fs) h = go (one_split f (is_instance x) (flat_map is_instance fs) h) (instance_of f fs)
  where
    one : (b : Bool) → x.is_static ≡ b → IsOneOf f (if b then [] else x ∷ []) → IsOneOf f (x ∷ fs) × (f.is_static ≡ false)
    one true q h = absurd h
    one false q (inl i) = (inl i, ap (λ (z : Field). z.is_static) (sym i) ∙ q)
    one false q (inr i) = absurd i

    go : IsOneOf f (is_instance x) ⊎ IsOneOf f (flat_map is_instance fs) → (IsOneOf f (flat_map is_instance fs) → IsOneOf f fs × (f.is_static ≡ false)) → IsOneOf f (x ∷ fs) × (f.is_static ≡ false)
    go (inl i) r = one x.is_static refl i
    go (inr i) r = let y = r i in (inr y.0, y.1)

all_variables : (fs : List Field) → ((f : Field) → IsOneOf f fs → is_variable_type f.type ≡ true) → AreAllVariables (map (λ f. f.type) fs)
all_variables [] h = tt
all_variables (f ∷ fs) h = (h f (inl refl), all_variables fs (λ g i. h g (inr i)))

all_initialised : (program : Program) (c : ℕ) (fs : List Field) → ((f : Field) → IsOneOf f fs → IsInitialised program c f) → AreInitialised program c fs
all_initialised program c [] h = tt
all_initialised program c (f ∷ fs) h = (h f (inl refl), all_initialised program c fs (λ g i. h g (inr i)))

none_behind : (ks : List Constructor) → flat_map (λ (k : Constructor). break_if true 4 k.place) ks ≡ [] → ks ≡ []
none_behind [] e = refl
none_behind (k ∷ ks) e = absurd (cc (e))

calls : (arrays : List JavaType) (olds : Olds) (s : Scope) (t : Tree) → MayCallSuper t → AreSuperArguments arrays olds s t → (judged s t).faults ≡ [] → (t ≡ trees.Nil → super_parameters s ≡ []) → CallsSuper arrays olds s t
calls arrays olds s trees.Nil h a f e = e refl
calls arrays olds s (trees.ConstructorCall p es) h a f e = (a, f)
calls arrays olds s _ h a f e = absurd h

module _ (files : List Tree) (arrays : List JavaType) (shapes : AreFiles files) (faults : class_fault (table_of files) ≡ None) (typed : IsWellTyped files) (code : HasCode (program_with (table_of files) arrays)) (apart : AreApart (table_of files)) where
  abbrev t : Table
  t = table_of files

  abbrev program : Program
  program = program_with (table_of files) arrays

  follows : FollowsClassRules program
  follows = class_rules files arrays faults

  good : (c : ℕ) (d : Class) → class_at t.classes c ≡ Some d → IsGoodAt files c d
  good c d q = class_good_at files shapes faults typed c d q

  -- ---- the members of a class

  good_field : (c : ℕ) (d : Class) → class_at t.classes c ≡ Some d → (f : Field) → IsOneOf f d.fields → IsGoodField (class_scope program c) c f
  unfolding table_of
  good_field c d q f i =
      let g = good c d q in
      let here = subst (λ (ms : List Tree). IsOneOf f (flat_map (fields_in (headings_of files) c) ms)) g.members (subst (λ (x : Class). IsOneOf f x.fields) g.is i) in
      let m = member_of _ (fields_in (headings_of files) c) f (items g.tree) g.all here in
      field_good (class_scope program c) c f m.0 refl m.1.0 m.1.1 m.2

  good_method : (c : ℕ) (d : Class) → class_at t.classes c ≡ Some d → (x : Method) → IsOneOf x d.methods → IsGoodMethod (class_scope program c) t.headings c x
  unfolding table_of
  good_method c d q x i =
      let g = good c d q in
      let here = subst (λ (ms : List Tree). IsOneOf x (flat_map (methods_in (headings_of files) c) ms)) g.members (subst (λ (y : Class). IsOneOf x y.methods) g.is i) in
      let m = member_of _ (methods_in (headings_of files) c) x (items g.tree) g.all here in
      method_good (class_scope program c) c x m.0 refl m.1.0 m.1.1 m.2

  good_constructor : (c : ℕ) (d : Class) → class_at t.classes c ≡ Some d → (k : Constructor) → IsOneOf k d.constructors → IsGoodConstructor (class_scope program c) k
  unfolding table_of
  good_constructor c d q k i =
      let g = good c d q in
      let here = subst (λ (ms : List Tree). IsOneOf k (flat_map (constructors_in (headings_of files)) ms)) g.members (subst (λ (y : Class). IsOneOf k y.constructors) g.is i) in
      let m = member_of _ (constructors_in (headings_of files)) k (items g.tree) g.all here in
      constructor_good (class_scope program c) k m.0 refl m.1.0 m.1.1 m.2

  -- ---- fields

  own_in : (c : ℕ) (f : Field) → IsOneOf f (own_fields t c) → (d : Class) × (class_at t.classes c ≡ Some d) × IsOneOf f d.fields
  own_in c f h = go (class_at t.classes c) refl h
    where
      go : (x : Option Class) → class_at t.classes c ≡ x → IsOneOf f (flat_map (λ d. d.fields) (option_to_list x)) → (d : Class) × (class_at t.classes c ≡ Some d) × IsOneOf f d.fields
      go None e h = absurd h
      go (Some d) e h = (d, e, no_more f d.fields h)

  own_good : (c : ℕ) (f : Field) → IsOneOf f (own_fields t c) → IsGoodField (class_scope program c) c f
  own_good c f h = let d = own_in c f h in good_field c d.0 d.1 f d.2

  field_variables : (c : ℕ) → AreAllVariables (field_types program c)
  field_variables c = all_variables (fields_of t c) (λ f i. variable f (instance_of f (flat_map (own_fields t) (reverse (line_of t c))) i).0)
    where
      variable : (f : Field) → IsOneOf f (flat_map (own_fields t) (reverse (line_of t c))) → is_variable_type f.type ≡ true
      variable f i = let part = one_part f (own_fields t) (reverse (line_of t c)) i in (own_good part.0 f part.2).type

  initialised : (c : ℕ) (f : Field) → IsOneOf f (declared_fields program c) → IsInitialised program c f
  initialised c f i =
      let own = instance_of f (own_fields t c) i in
      let d = own_in c f own.0 in
      let g = good_field c d.0 d.1 f d.2 in
      let at = λ (olds : Olds). code.initials c d.0 f d.1 d.2 olds (class_scope program c) refl refl in
      let same = expression_same arrays (λ p. None) (Expression true) (record (class_scope program c) { is_static = false; declaring = Rattle.kr_types_meaning.specs.Scopes.Fields; declared = f.type }) (class_scope program c) f.initial (at (λ p. None)) refl in
      record {
        class = g.class;
        has = own_has t (unbroken t faults) (table_law files faults) program refl c f own.0 own.1;
        variable = g.type;
        code = λ olds. subst (λ (k : ℕ). IsCode arrays olds (Expression true) (class_scope program k) f.initial) (sym g.class) (at olds);
        unbroken = subst (λ (k : ℕ). (judged (class_scope program k) f.initial).faults ≡ []) (sym g.class) (ap (λ (x : _). x.faults) same ∙ g.unbroken own.1);
        fits = λ u r. g.fits own.1 u (ap (λ (x : _). type_in x.typed) (sym same) ∙ (ap (λ (k : ℕ). type_in (judged (class_scope program k) f.initial).typed) (sym g.class) ∙ r));
      }

  -- ---- methods

  method_in : (c : ℕ) (m : Method) → IsOneOf m (own_methods t c) → IsMethod program m
  method_in c m h = go (class_at t.classes c) refl h
    where
      made : (d : Class) → class_at t.classes c ≡ Some d → IsOneOf m d.methods → IsMethod program m
      made d q i =
          let g = good_method c d q m i in
          record {
            parameters = g.parameters;
            result = g.result;
            body = λ olds. subst (λ (ts : List Tree). Rattle.kr_laws_safety.specs.Typed.AreUnbroken arrays olds (method_scope program m) ts) (sym g.body)
                (statements_unbroken arrays olds (method_scope program m) g.tree (subst (λ (ts : List Tree). AreStatements arrays olds (method_scope program m) ts) g.body (code.bodies c d m q i olds))
                (subst (λ (k : ℕ). (judged (record (class_scope program k) { is_static = m.is_static; result = m.result; locals = (method_scope program m).locals }) g.tree).faults ≡ []) (sym g.class) g.unbroken));
          }

      go : (x : Option Class) → class_at t.classes c ≡ x → IsOneOf m (flat_map (λ d. d.methods) (option_to_list x)) → IsMethod program m
      go None e h = absurd h
      go (Some d) e h = made d e (no_more m d.methods h)

  method : (c : ℕ) (n : List ℕ) (m : Method) → method_named t c n ≡ Some m → IsMethod program m
  method c n m q = let part = one_part m (own_methods t) (line_of t c) (found_one (λ (y : Method). bytes_eq y.name n) m (flat_map (own_methods t) (line_of t c)) q).0 in method_in part.0 m part.2

  overrides : (c : ℕ) (n : List ℕ) (m : Method) (d : ℕ) → method_named t c n ≡ Some m → m.is_static ≡ false → is_below t d c ≡ true → (k : Method) × Overrides program d m k
  overrides c n m d q static b =
      let k = follows.overridden c n m d q static b in
      (k.0, record { found = k.1.found; method = method d m.name k.0 k.1.named; instance = k.1.instance; below = k.1.below; parameters = k.1.parameters; result = k.1.result })

  -- ---- constants

  good_constant : (c : ℕ) (d : Class) → class_at t.classes c ≡ Some d → (f : Field) → IsOneOf f d.fields → f.is_static ≡ true → IsGoodConstant (class_scope program c) c f
  unfolding table_of
  good_constant c d q f i static =
      let g = good c d q in
      let here = subst (λ (ms : List Tree). IsOneOf f (flat_map (fields_in (headings_of files) c) ms)) g.members (subst (λ (x : Class). IsOneOf f x.fields) g.is i) in
      let m = member_of _ (fields_in (headings_of files) c) f (items g.tree) g.all here in
      constant_good (class_scope program c) c f m.0 static m.1.0 m.1.1 m.2

  variables : HasVariables t
  variables = record { fields = λ c n f q. let part = one_part f (own_fields t) (line_of t c) (found_one (λ (y : Field). bytes_eq y.name n) f (flat_map (own_fields t) (line_of t c)) q).0 in (own_good part.0 f part.2).type; results = λ c n m q. (method c n m q).result }

  -- the scope of a constant's value
  abbrev inside : ℕ → Field → Bool → Scope
  inside c g final = declaring_constant final g.type (class_scope program c)

  -- the expression of a constant has a type
  constant_typed : (c : ℕ) (d : Class) (q : class_at t.classes c ≡ Some d) (g : Field) (i : IsOneOf g d.fields) (static : g.is_static ≡ true) → is_nil g.initial ≡ false → IsTyped (inside c g (good_constant c d q g i static).final) g.initial
  constant_typed c d q g i static present' =
      let k = good_constant c d q g i static in
      let s = inside c g k.final in
      is_typed arrays (λ p. None) s g.initial variables tt refl (present arrays (λ p. None) (plain s) g.initial (code.initials c d g q i (λ p. None) (plain s) refl refl) present') k.unbroken

  gives : (c : ℕ) (d : Class) → class_at t.classes c ≡ Some d → (g : Field) → IsOneOf g d.fields → g.is_static ≡ true → Gives t follows.below g
  unfolding evaluated
  gives c d q g i static known v k m e = go (is_nil g.initial) refl
    where
      absent : (z : Tree) → z ≡ trees.Nil → evaluated t known g.class z ≡ Some v → ⊥
      absent z n e = cc (ap (evaluated t known g.class) (sym n) ∙ e)

      go : (b : Bool) → is_nil g.initial ≡ b → IsConstantOf t g.type v
      go true n = absurd (absent g.initial (nil_is g.initial n) e)
      go false n =
          let z = good_constant c d q g i static in
          let x = constant_typed c d q g i static n in
          widened t follows.below [] x.type g.type v (z.fits x.type x.known).0
          (evaluated_kept t follows.below known c (inside c g z.final) g.initial x.type v k (refl, refl, refl, refl) x.known (ap (λ (n : ℕ). is_constant t known n g.initial) (sym z.class) ∙ m) (ap (λ (n : ℕ). evaluated t known n g.initial) (sym z.class) ∙ e))

  alone : (c : ℕ) (d : Class) → class_at t.classes c ≡ Some d → (g : Field) → IsOneOf g d.fields → IsAlone t follows.below g
  alone c d q g i h k same =
      let part = one_part h (own_fields t) (line_of t k.0) (found_one (λ (y : Field). bytes_eq y.name k.1) h (flat_map (own_fields t) (line_of t k.0)) k.2).0 in
      let own = subst (λ (x : Option Class). IsOneOf g (flat_map (λ d. d.fields) (option_to_list x))) (sym q) (one_front g d.fields [] i) in
      ap (λ (x : Field). x.type) (apart c part.0 g h own part.2 same)

  -- all constants, in whatever order
  abbrev IsFine : Field → Type 0
  IsFine g = IsAlone t follows.below g × Gives t follows.below g

  constants_fine : (ds : List Class) → ((c : ℕ) (d : Class) → class_at ds c ≡ Some d → (g : Field) → IsOneOf g d.fields → g.is_static ≡ true → IsFine g) → AllOf IsFine (flat_map constants_in ds)
  constants_fine [] h = tt
  constants_fine (d ∷ ds) h = all_both IsFine (constants_in d) (flat_map constants_in ds) (of_class d.fields (λ g i. h 0 d refl g i)) (constants_fine ds (λ c. h (suc c)))
    where
      of_class : (fs : List Field) → ((g : Field) → IsOneOf g fs → g.is_static ≡ true → IsFine g) → AllOf IsFine (flat_map (λ f. option_to_list (constant_only f)) fs)
      of_class [] h = tt
      of_class (f ∷ fs) h = all_both IsFine (option_to_list (constant_only f)) (flat_map (λ f. option_to_list (constant_only f)) fs) (one f.is_static refl) (of_class fs (λ g i. h g (inr i)))
        where
          one : (b : Bool) → f.is_static ≡ b → AllOf IsFine (option_to_list (if b then Some f else None))
          one true e = (h f (inl refl) e, tt)
          one false e = tt

  placed_fine : (f : Field) (gs : List Field) → IsFine f → AllOf IsFine gs → AllOf IsFine (placed f gs)
  placed_fine f [] h k = (h, tt)
  placed_fine f (g ∷ gs) h k = go (is_earlier f.place g.place) (placed_fine f gs h k.1)
    where
      go : (b : Bool) → AllOf IsFine (placed f gs) → AllOf IsFine (if b then f ∷ g ∷ gs else g ∷ placed f gs)
      go true r = (h, k)
      go false r = (k.0, r)

  ordered_fine : (fs : List Field) → AllOf IsFine fs → AllOf IsFine (in_order fs)
  ordered_fine [] h = tt
  ordered_fine (f ∷ fs) h = placed_fine f (in_order fs) h.0 (ordered_fine fs h.1)

  all_alone : (fs : List Field) → AllOf IsFine fs → AllOf (IsAlone t follows.below) fs
  all_alone [] h = tt
  all_alone (f ∷ fs) h = (h.0.0, all_alone fs h.1)

  all_give : (fs : List Field) → AllOf IsFine fs → AllOf (Gives t follows.below) fs
  all_give [] h = tt
  all_give (f ∷ fs) h = (h.0.1, all_give fs h.1)

  values_known : AreKnown t follows.below (values_of t)
  unfolding values_of
  values_known =
      let fs = in_order (flat_map constants_in t.classes) in
      let fine = ordered_fine (flat_map constants_in t.classes) (constants_fine t.classes (λ c d q g i static. (alone c d q g i, gives c d q g i static))) in
      all_known t follows.below [] fs (λ h v k e. absurd (cc (e))) (all_alone fs fine) (all_give fs fine)

  -- the value of a constant
  constant_value : (c : ℕ) (n : List ℕ) (f : Field) → field_named t c n ≡ Some f → f.is_static ≡ true → (v : Value) × (known_value program.values (Some f) ≡ Some v) × IsConstantOf t f.type v
  constant_value c n f q static =
      let part = one_part f (own_fields t) (line_of t c) (found_one (λ (y : Field). bytes_eq y.name n) f (flat_map (own_fields t) (line_of t c)) q).0 in
      let d = own_in part.0 f part.2 in
      found (value_at (values_of t) f.place) refl (some part.0 d.0 d.1 d.2)
    where
      some : (e : ℕ) (d : Class) → class_at t.classes e ≡ Some d → IsOneOf f d.fields → is_some (value_at (values_of t) f.place) ≡ true
      some e d p i = go (is_nil f.initial) refl
        where
          go : (b : Bool) → is_nil f.initial ≡ b → is_some (value_at (values_of t) f.place) ≡ true
          go true m = (good_constant e d p f i static).absent (nil_is f.initial m)
          go false m = let x = constant_typed e d p f i static m in ((good_constant e d p f i static).fits x.type x.known).1

      found : (o : Option Value) → value_at (values_of t) f.place ≡ o → is_some (value_at (values_of t) f.place) ≡ true → (v : Value) × (known_value program.values (Some f) ≡ Some v) × IsConstantOf t f.type v
      found (Some v) e s = let i = values_known f v (c, n, q, static) e in (v, ap (λ (x : Option Value). option_and_then constant_in x) e ∙ constant_kept t f.type v i, i)
      found None e s = absurd (cc (ap is_some e, s))

  field : (c : ℕ) (n : List ℕ) (f : Field) → field_named t c n ≡ Some f → IsField program c n f
  field c n f q =
      let x = follows.fields c n f q in
      let part = one_part f (own_fields t) (line_of t c) (found_one (λ (y : Field). bytes_eq y.name n) f (flat_map (own_fields t) (line_of t c)) q).0 in
      record { name = x.name; type = (own_good part.0 f part.2).type; below = x.below; instance = x.instance; constant = λ e. constant_value c n f q e }

  -- ---- constructors

  constructed : (c : ℕ) → IsConstructed program c (constructor_of program c)
  constructed c = go (class_at t.classes c) refl
    where
      taken : (d : Class) → class_at t.classes c ≡ Some d → (ks : List Constructor) → d.constructors ≡ ks → constructor_parameters t c ≡ flat_map (λ k. k.parameters) ks
      taken d q ks e = ap (λ (x : Option Class). flat_map (λ k. k.parameters) (flat_map (λ d. d.constructors) (option_to_list x))) q ∙ (ap (λ (x : List Constructor). flat_map (λ k. k.parameters) x) (append-nil d.constructors) ∙ ap (λ (x : List Constructor). flat_map (λ k. k.parameters) x) e)

      none_made : (d : Class) → class_at t.classes c ≡ Some d → d.constructors ≡ [] → has_constructor (class_scope program c) ≡ false
      none_made d q e =
          ap (λ (x : Option Class). elim (flat_map (λ d. d.constructors) (option_to_list x)) as (λ y. Bool) [ [] ↦ false | k ∷ ks ↦ true ]) q
          ∙ ap (λ (x : List Constructor). elim (x ++ []) as (λ y. Bool) [ [] ↦ false | k ∷ ks ↦ true ]) e

      by : (d : Class) → class_at t.classes c ≡ Some d → (ks : List Constructor) → d.constructors ≡ ks → IsConstructed program c (first ks)
      by d q [] e =
          let g = good c d q in
          let rule = subst (λ (b : Bool). (judge g.heading.place (class_rule b (class_scope program c)) (judged (class_scope program c) g.tree).faults).faults ≡ []) (none_made d q e) g.rule in
          (taken d q [] e, none_implied (class_scope program c) g.heading.place (judged (class_scope program c) g.tree).faults rule)
      by d q (k ∷ ks) e =
          let names = map (λ (x : Field). x.name) (flat_map (own_fields t) (Rattle.kr_classes_table.specs.Table.ancestors t c)) in
          let four = (append_is_nil (repeated 4 names (map (λ f. (f.name, f.place)) d.fields)) (flat_map (λ k. break_if true 4 k.place) (drop 1 d.constructors)) ((unbroken t faults).C4 c d q)).1 in
          let alone = none_behind ks (subst (λ (xs : List Constructor). flat_map (λ (k : Constructor). break_if true 4 k.place) (drop 1 xs) ≡ []) e four) in
          let i : IsOneOf k d.constructors = subst (λ (xs : List Constructor). IsOneOf k xs) (sym e) (inl refl) in
          let g = good_constructor c d q k i in
          record {
            parameters = g.parameters;
            taken = taken d q (k ∷ ks) e ∙ (ap (λ (xs : List Constructor). k.parameters ++ flat_map (λ k. k.parameters) xs) alone ∙ append-nil k.parameters);
            call = λ olds. calls arrays olds (constructor_scope program c k) k.call g.shape (code.constructors c d k q i olds).0 g.called g.implied;
            body = λ olds. subst (λ (ts : List Tree). Rattle.kr_laws_safety.specs.Typed.AreUnbroken arrays olds (constructor_scope program c k) ts) (sym g.body)
                (statements_unbroken arrays olds (constructor_scope program c k) g.tree (subst (λ (ts : List Tree). AreStatements arrays olds (constructor_scope program c k) ts) g.body (code.constructors c d k q i olds).1) g.unbroken);
          }

      go : (x : Option Class) → class_at t.classes c ≡ x → IsConstructed program c (option_and_then (λ d. first d.constructors) (class_at t.classes c))
      go None e =
          subst (λ (x : Option Class). IsConstructed program c (option_and_then (λ d. first d.constructors) x)) (sym e)
          (ap (λ (x : Option Class). flat_map (λ k. k.parameters) (flat_map (λ d. d.constructors) (option_to_list x))) e, ap (λ (x : Option Class). flat_map (constructor_parameters t) (option_to_list (option_and_then (λ d. d.super) x))) e)
      go (Some d) e = subst (λ (x : Option Class). IsConstructed program c (option_and_then (λ d. first d.constructors) x)) (sym e) (by d e d.constructors refl)

  pub well_typed_program : IsTypedProgram program
  well_typed_program = record {
    below = follows.below;
    fields = field;
    methods = λ c n m q. (method c n m q, follows.methods c n m q);
    overridden = overrides;
    classes = λ c. record { line = follows.lines c; fields = field_variables c; constructed = constructed c; initialised = all_initialised program c (declared_fields program c) (initialised c) };
  }

pub well_typed : WellTypedProgramsLaw
well_typed files more shapes faults typed apart = well_typed_program files (array_types_of files ++ more) shapes faults typed (has_code files more shapes) apart

-- ---- its runs

pub never_stuck : RunsLaw
never_stuck files more problem e shapes faults typed apart contracts formed domains vector is =
    let facts = subst IsTypedProgram (sym e) (well_typed files more shapes faults typed apart) in
    record { candidate = predicate_unstuck problem facts contracts formed domains vector is; tests = testable problem facts contracts formed domains vector is }
