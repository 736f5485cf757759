-- The classes and fields of an accepted problem have names.
use Rattle.std.proofs.Common.{◌≡◌, ℕ, zero, suc, ◌<◌, Bool, true, false, List, [], ◌∷◌, ◌++◌, length, get_or, refl, sym, ap, subst, ◌∙◌}
use Rattle.std.specs.Prelude.{Option, Some, None, flat_map, map, MatchOption, nat_lt, codes, if◌then◌else◌}
use Rattle.std.specs.List.{AllByRecursion}
use Rattle.kr_ast.specs.Tree.{Tree}
use Rattle.kr_base.specs.declared.refusal.Fault.{Fault as FaultOf}
use Rattle.kr_base.proofs.ListLemmas.{append_is_nil}
use Rattle.kr_classes_table.specs.Arrays.{array_types_of, arrays_in, once}
use Rattle.kr_classes_table.specs.Numbers.{Bits32, Bits64}
use Rattle.kr_classes_table.specs.Rules.{Fault}
use Rattle.kr_classes_table.specs.Table.{Field, Heading, Table, fields_of, headings_of, number_of, table_of}
use Rattle.kr_classes_table.specs.Types.{JavaType, NumberType, BooleanType, NullType, VoidType, ClassType, ArrayType, SetType, ListType, InferredType, UnknownType, AppliedType}
use Rattle.kr_emit_meaning.specs.declared.refusal.ElementRule.TheVariants.{Elements as UnnamedElements}
use Rattle.kr_emit_meaning.specs.Buildable.{E1, E2, E3, array_elements, build_fault, construction_at, element_of, elements_at, elements_fault, first_of, is_named, name_at, rank_of}
use Rattle.kr_emit_meaning.specs.Builders.{heading_at, no_heading}
use Rattle.kr_emit_meaning.specs.declared.refusal.ElementRule.{ElementRule}
use Rattle.kr_emit_laws.specs.Printable.{IsClassName, IsElementName, IsIdentifier}
use Rattle.kr_emit_laws.specs.Syntax.{NestedName, PrimitiveName, SimpleName, TypeName, class_name, element_name, named_in}
use Rattle.kr_emit_laws.specs.Writable.{HasNames, HasTypeName}
use Rattle.kr_fin.specs.Least as by
use Rattle.kr_fin.specs.Least.{IsLeast}
use Rattle.kr_fin.proofs.Leasts.{least_of_all}
use Rattle.kr_fin.specs.declared.document.ArrayBound.{ArrayBound}
use Rattle.kr_fin.specs.declared.document.Count.{Count}
use Rattle.kr_fin.specs.declared.document.FinDoc.{FinDoc}
use Rattle.kr_classes_table.specs.Rules.{least}
use Rattle.kr_mean.specs.Problem.{Problem, ClassDomain, domain_at, no_objects}
use Rattle.kr_mean.specs.Program.{Program}
use Rattle.kr_mean.specs.declared.mode.Mode.{Mode}
use Rattle.kr_shard_laws.specs.Names as shards
use Rattle.kr_shard_laws.specs.Names.{AreNamed}
use Rattle.kr_shard_laws.proofs.Accepted.{HasParts, parts}
use Rattle.kr_shard_laws.proofs.Fields.{of_objects}
use Rattle.kr_laws_never_stuck.specs.Apart.{all_fields}
use Rattle.kr_space_meaning.specs.Bounds.{Setting, array_class_domain, bounded, classed, declared, declared_by, domains_of, object_domain, problem_in, problem_of, setting_of}
use Rattle.kr_space_meaning.proofs.Each.{each_always, each_at, each_flat, each_mapped, each_of_both, each_weaker}
use Rattle.kr_value.specs.declared.object.Class.{Class}
use Rattle.kr_value.specs.declared.object.Class.TheVariants as classes
use Rattle.kr_emit_laws.proofs.Ranges.{InRange, IsBelow, number_of_below, outer_below, types_range}

-- ---- arrays of elements with names

none_there : (a : Option Fault) (b : Option Fault) (c : Option (FaultOf ElementRule)) → first_of (construction_at a) (first_of (name_at b) (elements_at c)) ≡ None → c ≡ None
none_there None None None e = refl
none_there None None (Some f) e = absurd (cc e)
none_there None (Some g) c e = absurd (cc e)
none_there (Some g) b c e = absurd (cc e)

elements_named : (problem : Problem) → build_fault problem ≡ None → E3 problem ≡ []
unfolding build_fault
elements_named problem e =
    let none : by.least rank_of (E3 problem) ≡ None = none_there (least (E1 problem)) (least (E2 problem)) (by.least rank_of (E3 problem)) e in
    subst (λ (o : Option (FaultOf ElementRule)). MatchOption o (E3 problem ≡ []) (IsLeast rank_of (E3 problem))) none (least_of_all rank_of (E3 problem))

-- what is broken by elements that have a name or not
abbrev unnamed : Bool → List ℕ → List (FaultOf ElementRule)
unnamed b name = if b then [] else record { rule = UnnamedElements; item = codes "arrays." ++ name } ∷ []

none_each : {X Y : Type 0} (f : X → List Y) (xs : List X) → flat_map f xs ≡ [] → AllByRecursion (λ (x : X). f x ≡ []) xs
none_each f [] e = tt
none_each f (x ∷ xs) e = let both = append_is_nil (f x) (flat_map f xs) e in (both.0, none_each f xs both.1)

-- ---- classes

mine : (text : List ℕ) → shards.IsIdentifier text → IsIdentifier text
mine text h = record { named = h.name; other = h.own }

module _ (hs : List Heading) (names : AllByRecursion (λ (h : Heading). shards.IsIdentifier h.name) hs) (outers : AllByRecursion (λ (h : Heading). IsBelow (length hs) h.outer) hs) where
  heading_named : (c : ℕ) → c < length hs → IsIdentifier (heading_at hs c).name
  heading_named c l = mine (heading_at hs c).name (each_at (λ (h : Heading). shards.IsIdentifier h.name) hs c no_heading names l)

  class_named : (c : ℕ) → c < length hs → IsClassName (class_name hs c)
  class_named c l = go (heading_at hs c).outer (each_at (λ (h : Heading). IsBelow (length hs) h.outer) hs c no_heading outers l)
    where
      go : (o : Option ℕ) → IsBelow (length hs) o → IsClassName (named_in hs o (heading_at hs c).name)
      go None b = heading_named c l
      go (Some o) b = (heading_named o b, heading_named c l)

  element_named : (t : JavaType) → is_named t ≡ true → InRange (length hs) t → IsElementName (element_name hs t)
  element_named (NumberType Bits32) e i = tt
  element_named (NumberType Bits64) e i = tt
  element_named BooleanType e i = tt
  element_named (ClassType c) e i = weaker (class_name hs c) (class_named c i)
    where
      weaker : (t : TypeName) → IsClassName t → IsElementName t
      weaker (PrimitiveName k) h = absurd h
      weaker (SimpleName n) h = h
      weaker (NestedName o n) h = h
  element_named NullType e i = absurd (cc e)
  element_named VoidType e i = absurd (cc e)
  element_named (ArrayType t) e i = absurd (cc e)
  element_named (SetType t) e i = absurd (cc e)
  element_named (ListType t) e i = absurd (cc e)
  element_named InferredType e i = absurd (cc e)
  element_named (UnknownType o n) e i = absurd (cc e)
  element_named (AppliedType t u) e i = absurd (cc e)

  -- ---- domains

  element_range : (m : ℕ) (t : JavaType) → InRange m t → InRange m (element_of t)
  element_range m (ArrayType t) i = i
  element_range m (NumberType w) i = tt
  element_range m BooleanType i = tt
  element_range m (ClassType c) i = tt
  element_range m NullType i = tt
  element_range m VoidType i = tt
  element_range m (SetType t) i = tt
  element_range m (ListType t) i = tt
  element_range m InferredType i = tt
  element_range m (UnknownType o n) i = tt
  element_range m (AppliedType t u) i = tt

  -- a class of the headings, or an array
  abbrev IsRanged : Class → Type 0
  IsRanged (classes.Object c) = c < length hs
  IsRanged class = Unit {0}

  type_named : (program : Program) (name : List ℕ) (class : Class) → program.table.headings ≡ hs → AllByRecursion (InRange (length hs)) program.arrays → elements_fault program name class ≡ [] → IsRanged class
      → HasTypeName program class
  type_named program name (classes.Object c) e r f i = subst (λ (xs : List Heading). IsClassName (class_name xs c)) (sym e) (class_named c i)
  type_named program name (classes.Array k) e r f i = go (is_named (array_elements program k)) refl f
    where
      at : InRange (length hs) (get_or program.arrays k VoidType)
      at = all_at program.arrays k r
        where
          all_at : (ts : List JavaType) (k : ℕ) → AllByRecursion (InRange (length hs)) ts → InRange (length hs) (get_or ts k VoidType)
          all_at [] k h = tt
          all_at (t ∷ ts) zero h = h.0
          all_at (t ∷ ts) (suc k) h = all_at ts k h.1

      go : (b : Bool) → is_named (array_elements program k) ≡ b → unnamed b name ≡ [] → HasTypeName program (classes.Array k)
      go true n q =
          subst (λ (xs : List Heading). IsElementName (element_name xs (array_elements program k))) (sym e) (element_named (array_elements program k) n (element_range (length hs) (get_or program.arrays k VoidType) at))
      go false n q = absurd (cc q)
  type_named program name classes.Set e r f i = tt
  type_named program name classes.List e r f i = tt

  -- object domains are of classes that there are
  declared_ranged : (counts : List Count) → AllByRecursion (λ (o : ℕ × Count). o.0 < length hs) (declared hs counts)
  declared_ranged counts = each_flat (λ (o : ℕ × Count). o.0 < length hs) (declared_by hs) counts (each_always (λ (c : Count). AllByRecursion (λ (o : ℕ × Count). o.0 < length hs) (declared_by hs c)) counts one)
    where
      named : (c : Count) (x : Option ℕ) → number_of hs c.class ≡ x → AllByRecursion (λ (o : ℕ × Count). o.0 < length hs) (classed x c)
      named c None e = tt
      named c (Some k) e = (number_of_below hs c.class k e, tt)

      tested : (c : Count) (b : Bool) → AllByRecursion (λ (o : ℕ × Count). o.0 < length hs) (if b then classed (number_of hs c.class) c else [])
      tested c true = named c (number_of hs c.class) refl
      tested c false = tt

      one : (c : Count) → AllByRecursion (λ (o : ℕ × Count). o.0 < length hs) (declared_by hs c)
      one c = tested c (nat_lt 0 c.count)

  domains_ranged : (setting : Setting) → setting.objects ≡ declared hs setting.document.objects → AllByRecursion (λ (d : ClassDomain). IsRanged d.class) (domains_of setting)
  domains_ranged setting e =
      each_of_both (λ (d : ClassDomain). IsRanged d.class) (map (object_domain setting) setting.objects) (map (array_class_domain setting) setting.arrays)
      (each_mapped (λ (d : ClassDomain). IsRanged d.class) (object_domain setting) setting.objects
      (subst (λ (os : List (ℕ × Count)). AllByRecursion (λ (o : ℕ × Count). o.0 < length hs) os) (sym e) (declared_ranged setting.document.objects)))
      (each_mapped (λ (d : ClassDomain). IsRanged d.class) (array_class_domain setting) setting.arrays (each_always (λ (a : JavaType × ArrayBound). Unit {0}) setting.arrays (λ a. tt)))

-- ---- an accepted problem

-- its array types
arrays_are : (files : List Tree) (document : FinDoc) (mode : Mode)
    → (problem_of files document mode).program.arrays ≡ once [] (array_types_of files ++ flat_map (λ (a : JavaType × ArrayBound). arrays_in a.0) (bounded (headings_of files) document.arrays))
unfolding problem_in setting_of table_of
arrays_are files document mode = refl

pub headings_are : (files : List Tree) → (table_of files).headings ≡ headings_of files
unfolding table_of
headings_are files = refl

pub problem_named : (files : List Tree) (document : FinDoc) (mode : Mode) → AreNamed files → build_fault (problem_of files document mode) ≡ None → HasNames (problem_of files document mode)
problem_named files document mode names e =
    let problem = problem_of files document mode in
    let hs = headings_of files in
    let p : HasParts files document mode = parts files document mode in
    let setting = setting_of files document in
    let outers = outer_below files in
    let headings : problem.program.table.headings ≡ hs = ap (λ (t : Table). t.headings) p.table ∙ headings_are files in
    let objects : setting.objects ≡ declared hs setting.document.objects = p.objects ∙ ap (λ (xs : List Heading). declared xs setting.document.objects) p.headings in
    let ranged : AllByRecursion (λ (d : ClassDomain). IsRanged hs names.classes outers d.class) problem.domains =
    subst (λ (ds : List ClassDomain). AllByRecursion (λ (d : ClassDomain). IsRanged hs names.classes outers d.class) ds) (sym p.domains) (domains_ranged hs names.classes outers setting objects) in
    let unbroken = none_each (λ (d : ClassDomain). elements_fault problem.program d.name d.class) problem.domains (elements_named problem e) in
    let types = subst (AllByRecursion (InRange (length hs))) (sym (arrays_are files document mode)) (types_range files document.arrays) in
    record {
      classes = λ d l.
          type_named hs names.classes outers problem.program (domain_at problem d).name (domain_at problem d).class headings types
          (each_at (λ (x : ClassDomain). elements_fault problem.program x.name x.class ≡ []) problem.domains d no_objects unbroken l)
          (each_at (λ (x : ClassDomain). IsRanged hs names.classes outers x.class) problem.domains d no_objects ranged l);
      fields = λ c.
          each_weaker (λ (f : Field). shards.IsIdentifier f.name) (λ (f : Field). IsIdentifier f.name) (fields_of problem.program.table c) (λ f h. mine f.name h)
          (of_objects (λ (f : Field). shards.IsIdentifier f.name) problem.program.table c (subst (λ (t : Table). AllByRecursion (λ (f : Field). shards.IsIdentifier f.name) (all_fields t)) (sym p.table) names.fields));
    }
