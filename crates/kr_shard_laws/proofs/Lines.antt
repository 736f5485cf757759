-- The text of a structure is one line, and it isn't empty.
use Rattle.std.proofs.Common.{ℕ, zero, suc, ◌<◌, Bool, true, false, List, [], ◌∷◌, ◌++◌, map, length, get_or, refl, arith, decimal, length-append}
use Rattle.std.specs.Prelude.{codes, flat_map, filter, not, if◌then◌else◌}
use Rattle.std.specs.List.{AllByRecursion}
use Rattle.kr_value.specs.declared.object.Class.{Class}
use Rattle.kr_value.specs.declared.object.Class.TheVariants.{Object, Array, Set, List as ListClass}
use Rattle.kr_value.specs.declared.object.Spot.{Spot}
use Rattle.kr_value.specs.declared.object.Spot.TheVariants.{Field, Length, Element}
use Rattle.kr_value.specs.declared.value.Value.{Value}
use Rattle.kr_value.specs.declared.value.Value.TheVariants.{Int, Bool as Truth, Null, Ref as Reference}
use Rattle.kr_classes_table.specs.Table.{Field as TableField, fields_of}
use Rattle.kr_mean.specs.Heaps.{distinct, is_owner, is_same_object}
use Rattle.kr_mean.specs.Places.{SlotPlace, This, Parameter, At}
use Rattle.kr_mean.specs.Problem.{Problem, ClassDomain, DomainObject, all_objects, domain_at, no_objects, slot_at}
use Rattle.kr_report.specs.Texts.{behind, field_names, in_brackets, in_parentheses, joined_by, no_domain_object, object_name, object_text, objects_in, objects_named, parameter_text, part_text, parts_of, spot_text, structure_text, tested_parameters, value_text}
use Rattle.kr_shard_laws.proofs.Bytes.{without_append}
use Rattle.kr_shard_laws.specs.Entries.{MakesLines}
use Rattle.kr_shard_laws.proofs.Numbers.{IsLine, number_line, signed_line}

abbrev AreLines : List (List ℕ) → Type 0
AreLines texts = AllByRecursion IsLine texts

-- ---- texts of texts

both_lines : (xs ys : List (List ℕ)) → AreLines xs → AreLines ys → AreLines (xs ++ ys)
both_lines [] ys h k = k
both_lines (x ∷ xs) ys h k = (h.0, both_lines xs ys h.1 k)

flat_lines : {A : Type 0} (f : A → List (List ℕ)) (xs : List A) → ((x : A) → AreLines (f x)) → AreLines (flat_map f xs)
flat_lines f [] h = tt
flat_lines f (x ∷ xs) h = both_lines (f x) (flat_map f xs) (h x) (flat_lines f xs h)

map_lines : {A : Type 0} (f : A → List ℕ) (xs : List A) → ((x : A) → IsLine (f x)) → AreLines (map f xs)
map_lines f [] h = tt
map_lines f (x ∷ xs) h = (h x, map_lines f xs h)

behind_line : (between : List ℕ) (texts : List (List ℕ)) → IsLine between → AreLines texts → IsLine (behind between texts)
behind_line between [] b h = tt
behind_line between (t ∷ ts) b h = without_append 10 (between ++ t) (behind between ts) (without_append 10 between t b h.0) (behind_line between ts b h.1)

joined_line : (between : List ℕ) (texts : List (List ℕ)) → IsLine between → AreLines texts → IsLine (joined_by between texts)
joined_line between [] b h = tt
joined_line between (t ∷ ts) b h = without_append 10 t (behind between ts) h.0 (behind_line between ts b h.1)

line_at : (texts : List (List ℕ)) (k : ℕ) → AreLines texts → IsLine (get_or texts k [])
line_at [] k h = tt
line_at (t ∷ ts) zero h = h.0
line_at (t ∷ ts) (suc k) h = line_at ts k h.1

-- a text between two that have no line feed
around_line : (front text end : List ℕ) → IsLine front → IsLine text → IsLine end → IsLine (front ++ text ++ end)
around_line front text end f h e = without_append 10 (front ++ text) end (without_append 10 front text f h) e

brackets_line : (class : Class) (text : List ℕ) → IsLine text → IsLine (in_brackets class text)
brackets_line (Array t) text h = around_line (codes "[") text (codes "]") (refl, tt) h (refl, tt)
brackets_line (Object c) text h = around_line (codes "{") text (codes "}") (refl, tt) h (refl, tt)
brackets_line Set text h = around_line (codes "{") text (codes "}") (refl, tt) h (refl, tt)
brackets_line ListClass text h = around_line (codes "{") text (codes "}") (refl, tt) h (refl, tt)

parentheses_line : (texts : List (List ℕ)) → AreLines texts → IsLine (in_parentheses texts)
parentheses_line [] h = tt
parentheses_line (t ∷ ts) h = around_line (codes "(") (joined_by (codes ",") (t ∷ ts)) (codes ") ") (refl, tt) (joined_line (codes ",") (t ∷ ts) (refl, tt) h) (refl, (refl, tt))

-- ---- what is named

domain_line : (domains : List ClassDomain) (d : ℕ) → AllByRecursion (λ x. IsLine x.name) domains → IsLine (get_or domains d no_objects).name
domain_line [] d h = tt
domain_line (x ∷ xs) zero h = h.0
domain_line (x ∷ xs) (suc d) h = domain_line xs d h.1

module _ (problem : Problem) (has : MakesLines problem) where
  object_line : (o : DomainObject) → IsLine (object_name problem o)
  object_line o = around_line (domain_at problem o.domain).name (codes "#") (decimal o.number) (domain_line problem.domains o.domain has.domains) (refl, tt) (number_line o.number)

  value_line : (v : Value) → IsLine (value_text problem v)
  value_line (Int n) = signed_line n
  value_line (Truth true) = (refl, (refl, (refl, (refl, tt))))
  value_line (Truth false) = (refl, (refl, (refl, (refl, (refl, tt)))))
  value_line Null = (refl, (refl, (refl, (refl, tt))))
  value_line (Reference o) = object_line (get_or (all_objects problem) o no_domain_object)

  -- `name=value`
  named_line : (name : List ℕ) (v : Value) → IsLine name → IsLine (name ++ codes "=" ++ value_text problem v)
  named_line name v h = around_line name (codes "=") (value_text problem v) h (refl, tt) (value_line v)

  parameters_line : (i : ℕ) → IsLine (get_or (tested_parameters problem) i [])
  parameters_line i = line_at (tested_parameters problem) i has.parameters

  parameter_lines : (v : Value) (place : SlotPlace) → AreLines (parameter_text problem v place)
  parameter_lines v (Parameter i) = (named_line (get_or (tested_parameters problem) i []) v (parameters_line i), tt)
  parameter_lines v This = tt
  parameter_lines v (At o spot) = tt

  fields_lines : (class : Class) → AreLines (field_names problem.program.table class)
  fields_lines (Object c) = names (fields_of problem.program.table c) (has.fields c)
    where
      names : (fs : List TableField) → AllByRecursion (λ f. IsLine f.name) fs → AreLines (map (λ f. f.name) fs)
      names [] h = tt
      names (f ∷ fs) h = (h.0, names fs h.1)
  fields_lines (Array t) = tt
  fields_lines Set = tt
  fields_lines ListClass = tt

  spot_lines : (class : Class) (v : Value) (spot : Spot) → AreLines (spot_text problem class v spot)
  spot_lines class v (Field f) = (named_line (get_or (field_names problem.program.table class) f []) v (line_at (field_names problem.program.table class) f (fields_lines class)), tt)
  spot_lines class v Length = tt
  spot_lines class v (Element i) = (value_line v, tt)

  part_lines : (class : Class) (v : Value) (place : SlotPlace) → AreLines (part_text problem class v place)
  part_lines class v This = tt
  part_lines class v (Parameter i) = tt
  part_lines class v (At o spot) = spot_lines class v spot

  -- ---- structures

  parts_lines : (structure : List (ℕ × Value)) (o : DomainObject) → AreLines (parts_of problem structure o)
  parts_lines structure o =
      flat_lines (λ (p : ℕ × Value). if is_owner o (slot_at problem p.0).owner then part_text problem (domain_at problem o.domain).class p.1 (slot_at problem p.0).place else []) structure
      (λ p. chosen (is_owner o (slot_at problem p.0).owner) (part_text problem (domain_at problem o.domain).class p.1 (slot_at problem p.0).place) (part_lines (domain_at problem o.domain).class p.1 (slot_at problem p.0).place))
    where
      chosen : (b : Bool) (texts : List (List ℕ)) → AreLines texts → AreLines (if b then texts else [])
      chosen true texts h = h
      chosen false texts h = tt

  text_line : (structure : List (ℕ × Value)) (o : DomainObject) → IsLine (object_text problem structure o)
  text_line structure o =
      let parts = joined_by (codes ",") (parts_of problem structure o) in
      let class = (domain_at problem o.domain).class in
      without_append 10 (object_name problem o) (in_brackets class parts) (object_line o) (brackets_line class parts (joined_line (codes ",") (parts_of problem structure o) (refl, tt) (parts_lines structure o)))

  pub structure_line : (structure : List (ℕ × Value)) → IsLine (structure_text problem structure)
  unfolding structure_text
  structure_line structure =
      let parameters = flat_map (λ (p : ℕ × Value). parameter_text problem p.1 (slot_at problem p.0).place) structure in
      let objects = map (object_text problem structure) (objects_named problem structure) in
      without_append 10 (in_parentheses parameters) (joined_by (codes " ") objects)
      (parentheses_line parameters (flat_lines (λ (p : ℕ × Value). parameter_text problem p.1 (slot_at problem p.0).place) structure (λ p. parameter_lines p.1 (slot_at problem p.0).place)))
      (joined_line (codes " ") objects (refl, tt) (map_lines (object_text problem structure) (objects_named problem structure) (text_line structure)))

-- ---- a structure with an object has a text

name_some : (problem : Problem) (o : DomainObject) → 0 < length (object_name problem o)
name_some problem o =
    let name = (domain_at problem o.domain).name in
    omega (arith, length-append (name ++ codes "#") (decimal o.number), length-append name (codes "#"))

pub structure_some : (problem : Problem) (s o : ℕ) (rest : List (ℕ × Value)) → 0 < length (structure_text problem ((s, Reference o) ∷ rest))
unfolding structure_text
structure_some problem s o rest =
    let structure : List (ℕ × Value) = (s, Reference o) ∷ rest in
    let first = get_or (all_objects problem) o no_domain_object in
    let others = filter (λ (y : DomainObject). not (is_same_object first y)) (distinct is_same_object (flat_map (λ (p : ℕ × Value). objects_in problem p.1) rest)) in
    let brackets = in_brackets (domain_at problem first.domain).class (joined_by (codes ",") (parts_of problem structure first)) in
    let front = in_parentheses (flat_map (λ (p : ℕ × Value). parameter_text problem p.1 (slot_at problem p.0).place) structure) in
    let more = behind (codes " ") (map (object_text problem structure) others) in
    omega (
      arith,
      length-append front (object_text problem structure first ++ more),
      length-append (object_text problem structure first) more,
      length-append (object_name problem first) brackets,
      name_some problem first,
    )
