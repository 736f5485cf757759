-- Between crates: a test's row, worked out by the definition.
use Rattle.std.specs.Prelude.{◌≡◌, ℕ, false, List, [], ◌∷◌, Some, None, codes, pos, negsuc}
use Rattle.kr_base.specs.declared.place.Place.{Place}
use Rattle.kr_ast.specs.Tree.{Nil}
use Rattle.kr_classes_table.specs.Table.{Class, Field, Method}
use Rattle.kr_classes_table.specs.Types.{JavaType, ClassType, int_type, VoidType}
use Rattle.kr_mean.specs.Problem.{Problem, ClassDomain}
use Rattle.kr_mean.specs.declared.kind.Verdict.TheVariants.{Ensures}
use Rattle.kr_mean.specs.declared.mode.Mode.TheVariants.{Method as Testing}
use Rattle.kr_mean.specs.declared.row.Row.{Row}
use Rattle.kr_value.specs.declared.object.Class.TheVariants.{Object}
use Rattle.kr_value.specs.declared.object.Spot.TheVariants as spots
use Rattle.kr_value.specs.declared.value.Value.TheVariants.{Int, Null, Ref as Reference}
use Rattle.kr_report.specs.Texts.{row_text}

abbrev pub start : Place
start = record { file = 0; line = 1; col = 1 }

abbrev pub a_field : List ℕ → JavaType → Field
a_field name type = record { class = 0; name = name; place = start; is_static = false; is_final = false; type = type; initial = Nil }

-- `class A { int v; A next; void m(int x, A y) {} }`
abbrev pub a_method : Method
a_method = record {
  class = 0;
  name = codes "m";
  place = start;
  is_static = false;
  parameters = record { name = codes "x"; place = start; type = int_type } ∷ record { name = codes "y"; place = start; type = ClassType 0 } ∷ [];
  result = VoidType;
  contracts = [];
  body = [];
}

abbrev pub a_class : Class
a_class = record {
  name = codes "A";
  place = start;
  outer = None;
  extended = Nil;
  super = None;
  fields = a_field (codes "v") int_type ∷ a_field (codes "next") (ClassType 0) ∷ [];
  methods = a_method ∷ [];
  constructors = [];
}

-- two objects of it, and its method under test
abbrev pub a_domain : ClassDomain
a_domain = record { name = codes "A"; class = Object 0; count = 2; spots = record { spot = spots.Field 0; domain = [] } ∷ record { spot = spots.Field 1; domain = [] } ∷ [] }

abbrev pub a_problem : Problem
a_problem = record {
  program = record { table = record { headings = []; classes = a_class ∷ [] }; values = []; arrays = [] };
  root = 0;
  mode = Testing (codes "m");
  parameters = [] ∷ [] ∷ [];
  fuel = 1;
  domains = a_domain ∷ [];
}

abbrev pub a_row : Row
a_row = record {
  key = 0 ∷ 1 ∷ 2 ∷ [];
  structure = (0, Reference 0) ∷ (1, Int (negsuc 1)) ∷ (2, Reference 1) ∷ (3, Int (pos 1)) ∷ (4, Null) ∷ (5, Int (pos 2)) ∷ (6, Reference 0) ∷ [];
  verdict = Some (Ensures 2);
}

-- its key, its verdict, its parameters, and each object once
abbrev pub WorkedRow : Type 0
WorkedRow = row_text a_problem a_row ≡ codes "0.1.2 ensures 2 (x=-2,y=A#1) A#0{v=1,next=null} A#1{v=2,next=A#0}\n"
