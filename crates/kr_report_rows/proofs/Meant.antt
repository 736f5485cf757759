-- What is written by names is what the definition says.
use Rattle.std.proofs.Common.{◌≡◌, ℕ, Bool, true, false, List, [], ◌∷◌, ◌++◌, refl, sym, ap, ◌∙◌}
use Rattle.std.specs.Prelude.{unwrap_or, Option, Some, flat_map, codes, if◌then◌else◌, None}
use Rattle.kr_classes_table.specs.Table.{Table}
use Rattle.kr_value.specs.declared.object.Class.{Class}
use Rattle.kr_value.specs.declared.object.Class.TheVariants.{Object, Array, Set, List as ListClass}
use Rattle.kr_value.specs.declared.object.Spot.TheVariants.{Field, Length, Element}
use Rattle.kr_value.specs.declared.value.Value.{Value}
use Rattle.kr_mean.specs.Heaps.{is_owner}
use Rattle.kr_mean.specs.Places.{SlotPlace, This, Parameter, At}
use Rattle.kr_mean.specs.Problem.{Problem, DomainObject, domain_at, slot_at}
use Rattle.kr_space_layout.specs.Bounds.{Bounds, bare, problem_with}
use Rattle.kr_report.specs.Texts.{field_names, in_brackets, in_parentheses, joined_by, object_name, object_text, objects_named, parameter_text, part_text, parts_of, tested_parameters}
use Rattle.kr_report_rows.specs.Parts.{argument_named, class_in, entry_named, number_in, object_named, parameter_named, part_named, spot_in}

flat_map_same : {X Y : Type 0} (f g : X → List Y) → ((x : X) → f x ≡ g x) → (xs : List X) → flat_map f xs ≡ flat_map g xs
flat_map_same f g h [] = refl
flat_map_same f g h (x ∷ xs) = ap (λ l. l ++ flat_map f xs) (h x) ∙ ap (λ l. g x ++ l) (flat_map_same f g h xs)

module _ (problem : Problem) where
  part_same : (class : Class) (c : Bool) (place : SlotPlace) (v : Value) → part_named problem (field_names problem.program.table class) v (if c then spot_in place else None) ≡ (if c then part_text problem class v place else [])
  part_same class true This v = refl
  part_same class true (Parameter i) v = refl
  part_same class true (At o (Field f)) v = refl
  part_same class true (At o Length) v = refl
  part_same class true (At o (Element i)) v = refl
  part_same class false place v = refl

  argument_same : (place : SlotPlace) (v : Value) → argument_named problem (tested_parameters problem) v (number_in place) ≡ parameter_text problem v place
  argument_same This v = refl
  argument_same (Parameter i) v = refl
  argument_same (At o spot) v = refl

  parts_same : (structure : List (ℕ × Value)) (o : DomainObject) → flat_map (entry_named problem (field_names problem.program.table (domain_at problem o.domain).class) o) structure ≡ parts_of problem structure o
  parts_same structure o =
      flat_map_same (entry_named problem (field_names problem.program.table (domain_at problem o.domain).class) o)
      (λ (p : ℕ × Value). if is_owner o (slot_at problem p.0).owner then part_text problem (domain_at problem o.domain).class p.1 (slot_at problem p.0).place else [])
      (λ p. part_same (domain_at problem o.domain).class (is_owner o (slot_at problem p.0).owner) (slot_at problem p.0).place p.1)
      structure

  arguments_same : (structure : List (ℕ × Value)) → flat_map (parameter_named problem (tested_parameters problem)) structure ≡ flat_map (λ (p : ℕ × Value). parameter_text problem p.1 (slot_at problem p.0).place) structure
  arguments_same structure =
      flat_map_same (parameter_named problem (tested_parameters problem)) (λ (p : ℕ × Value). parameter_text problem p.1 (slot_at problem p.0).place)
      (λ p. argument_same (slot_at problem p.0).place p.1)
      structure

  pub object_same : (structure : List (ℕ × Value)) (o : DomainObject) → object_named problem (field_names problem.program.table (domain_at problem o.domain).class) structure o ≡ object_text problem structure o
  object_same structure o = ap (λ (ts : List (List ℕ)). object_name problem o ++ in_brackets (domain_at problem o.domain).class (joined_by (codes ",") ts)) (parts_same structure o)

  module _ (b : Bounds) (laid : problem ≡ problem_with problem.program b) (structure : List (ℕ × Value)) where
    pub object_laid : (names : List (List ℕ)) (o : DomainObject) → names ≡ field_names problem.program.table (domain_at (bare b) o.domain).class → object_named (bare b) names structure o ≡ object_text problem structure o
    object_laid names o e =
        ap (λ (p : Problem). object_named p names structure o) (sym laid)
        ∙ (ap (λ (ns : List (List ℕ)). object_named problem ns structure o) (e ∙ ap (λ (p : Problem). field_names problem.program.table (domain_at p o.domain).class) (sym laid))
        ∙ object_same structure o)

    pub arguments_laid : (names : List (List ℕ)) → names ≡ tested_parameters problem → in_parentheses (flat_map (parameter_named (bare b) names) structure) ≡ in_parentheses (flat_map (λ (p : ℕ × Value). parameter_text problem p.1 (slot_at problem p.0).place) structure)
    arguments_laid names e =
        ap (λ (p : Problem). in_parentheses (flat_map (parameter_named p names) structure)) (sym laid)
        ∙ (ap (λ (ns : List (List ℕ)). in_parentheses (flat_map (parameter_named problem ns) structure)) e
        ∙ ap in_parentheses (arguments_same structure))

    pub named_laid : objects_named (bare b) structure ≡ objects_named problem structure
    named_laid = ap (λ (p : Problem). objects_named p structure) (sym laid)

-- ---- the fields of a class

pub no_names : (table : Table) (class : Class) → class_in class ≡ None → [] ≡ field_names table class
no_names table (Object c) e = absurd (cc (e))
no_names table (Array t) e = refl
no_names table Set e = refl
no_names table ListClass e = refl

pub class_is : (class : Class) (n : ℕ) → class_in class ≡ Some n → Object n ≡ class
class_is (Object c) n e = ap (λ (o : Option ℕ). Object (unwrap_or o 0)) (sym e)
class_is (Array t) n e = absurd (cc (e))
class_is Set n e = absurd (cc (e))
class_is ListClass n e = absurd (cc (e))
