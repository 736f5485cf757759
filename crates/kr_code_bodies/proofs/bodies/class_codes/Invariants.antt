use Rattle.std.proofs.Common.{◌≡◌, ◌≤◌, ℕ, List, length, Some}
use Rattle.std.specs.Prelude.{slice_get}
use Rattle.kr_classes_names.specs.ListedTypes.{IsGrown}
use Rattle.kr_code_members.specs.Nodes.{table}
use Rattle.kr_code.specs.declared.code.ClassCode.{ClassCode}
use Rattle.kr_classes_members.specs.Rosters.{fields_of_class, first_of}
use Rattle.kr_code_bodies.specs.Made.{AddsInitialisers, IsClassMade}
use Rattle.kr_code_bodies.proofs.bodies.class_codes.Given as goal

abbrev pub invariant-loop-class : goal.invariant-loop-class
invariant-loop-class l = record {
  room : length l.values.items ≤ 4294967295;
  number : l.field ≡ first_of fields_of_class (table l.program) l.class;
  nodes : AddsInitialisers l.initial.nodes.items l.nodes.items;
  grown : IsGrown l.initial.links l.links;
  count : length l.classes.items ≡ l.class;
  made : (arrays : List ℕ) (names : List (List ℕ)) (c : ℕ) (k : ClassCode) → slice_get l.classes.items c ≡ Some k → IsClassMade l.program arrays names l.links l.nodes.items l.values.items c k;
}
