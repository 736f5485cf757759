-- Between crates: builders, worked out by the definition.
use Rattle.std.specs.Prelude.{◌≡◌, ℕ, true, false, List, [], ◌∷◌, Some, None, codes, pos, negsuc}
use Rattle.kr_base.specs.declared.place.Place.{Place}
use Rattle.kr_ast.specs.Tree.{Nil, Number, Tree, Unary, Variable}
use Rattle.kr_ast.specs.declared.node.UnaryOperator.TheVariants.{Minus, Plus}
use Rattle.kr_classes_table.specs.Table.{Class, Constructor, Field, Heading}
use Rattle.kr_classes_table.specs.Types.{ArrayType, BooleanType, ClassType, JavaType, int_type, long_type}
use Rattle.kr_mean.specs.Problem.{ClassDomain, Problem}
use Rattle.kr_mean.specs.declared.mode.Mode.TheVariants.{List as Listing}
use Rattle.kr_mean.specs.declared.row.Row.{Row}
use Rattle.kr_value.specs.declared.object.Class.TheVariants.{Array, Object}
use Rattle.kr_value.specs.declared.object.Spot.TheVariants as spots
use Rattle.kr_value.specs.declared.value.Value.TheVariants.{Int, Bool as Truth, Null, Ref as Reference}
use Rattle.kr_emit_meaning.specs.Buildable.{ClassName, Construction, Elements, build_fault}
use Rattle.kr_emit_meaning.specs.Builders.{builder_text}

abbrev pub at : ℕ → ℕ → Place
at line col = record { file = 0; line = line; col = col }

abbrev pub a_field : List ℕ → JavaType → Tree → Field
a_field name type initial = record { class = 0; name = name; place = at 1 13; is_static = false; is_final = false; type = type; initial = initial }

abbrev pub a_class : List ℕ → List Field → List Constructor → Class
a_class name fields constructors = record { name = name; place = at 1 7; outer = None; extended = Nil; super = None; fields = fields; methods = []; constructors = constructors }

abbrev pub a_heading : List ℕ → Heading
a_heading name = record { name = name; place = at 1 7; outer = None; extended = Nil; members = [] }

abbrev pub a_problem : List Heading → List Class → List JavaType → List ClassDomain → Problem
a_problem headings classes arrays domains = record {
  program = record { table = record { headings = headings; classes = classes }; values = []; arrays = arrays };
  root = 0;
  mode = Listing;
  parameters = [];
  fuel = 1;
  domains = domains;
}

-- ---- `class N { N next; .. }` with two objects

abbrev pub nodes : List Constructor → Tree → Problem
nodes constructors initial =
    a_problem (a_heading (codes "N") ∷ []) (a_class (codes "N") (a_field (codes "next") (ClassType 0) initial ∷ []) constructors ∷ []) []
    (record { name = codes "N"; class = Object 0; count = 2; spots = record { spot = spots.Field 0; domain = [] } ∷ [] } ∷ [])

abbrev pub two_nodes : Row
two_nodes = record { key = 0 ∷ 2 ∷ 0 ∷ []; structure = (0, Reference 0) ∷ (1, Reference 1) ∷ (2, Null) ∷ []; verdict = None }

-- the first is created, and then the second; each field is set after that
abbrev pub WorkedNodes : Type 0
WorkedNodes = builder_text (nodes [] Nil) two_nodes 0 ≡ codes "  // 0.2.0\n  static N b0() {\n    N o0 = new N();\n    N o1 = new N();\n    o0.next = o1;\n    o1.next = null;\n    return o0;\n  }\n"

-- ---- `class Outer { static class A { long w; boolean b; int[] ns; long[] ws; A[] as; .. } }`, an object and an array of each type

abbrev pub kinds : Problem
kinds =
    a_problem (a_heading (codes "Outer") ∷ record (a_heading (codes "A")) { outer = Some 0 } ∷ [])
    (a_class (codes "Outer") [] []
    ∷ a_class (codes "A") (a_field (codes "w") long_type Nil ∷ a_field (codes "b") BooleanType Nil ∷ a_field (codes "ns") (ArrayType int_type) Nil ∷ a_field (codes "ws") (ArrayType long_type) Nil ∷ a_field (codes "as") (ArrayType (ClassType 1)) Nil ∷ []) []
    ∷ [])
    (ArrayType int_type ∷ ArrayType long_type ∷ ArrayType (ClassType 1) ∷ [])
    (record {
      name = codes "A";
      class = Object 1;
      count = 1;
      spots = record { spot = spots.Field 0; domain = [] } ∷ record { spot = spots.Field 1; domain = [] } ∷ record { spot = spots.Field 2; domain = [] } ∷ record { spot = spots.Field 3; domain = [] }
          ∷ record { spot = spots.Field 4; domain = [] } ∷ [];
    }
    ∷ record { name = codes "int[]"; class = Array 0; count = 1; spots = record { spot = spots.Length; domain = [] } ∷ record { spot = spots.Element 0; domain = [] } ∷ [] }
    ∷ record { name = codes "long[]"; class = Array 1; count = 1; spots = record { spot = spots.Length; domain = [] } ∷ record { spot = spots.Element 0; domain = [] } ∷ [] }
    ∷ record { name = codes "A[]"; class = Array 2; count = 1; spots = record { spot = spots.Length; domain = [] } ∷ record { spot = spots.Element 0; domain = [] } ∷ [] }
    ∷ [])

abbrev pub a_kind : Row
a_kind = record {
  key = 0 ∷ [];
  structure = (0, Reference 0) ∷ (1, Int (negsuc 6)) ∷ (2, Truth true) ∷ (3, Reference 1) ∷ (4, Reference 2) ∷ (5, Reference 3) ∷ (6, Int (pos 0)) ∷ (8, Int (pos 1)) ∷ (9, Int (pos 5)) ∷ (10, Int (pos 1)) ∷ (11, Reference 0) ∷ [];
  verdict = None;
}

-- a nested class by both names, arrays with their lengths, a letter at each number of a `long`
abbrev pub WorkedKinds : Type 0
WorkedKinds =
    builder_text kinds a_kind 12
    ≡ codes "  // 0\n  static Outer.A b12() {\n    Outer.A o0 = new Outer.A();\n    int[] o1 = new int[0];\n    long[] o2 = new long[1];\n    Outer.A[] o3 = new Outer.A[1];\n    o0.w = -7L;\n    o0.b = true;\n    o0.ns = o1;\n    o0.ws = o2;\n    o0.as = o3;\n    o2[0] = 5L;\n    o3[0] = o0;\n    return o0;\n  }\n"

-- ---- rules

abbrev pub a_constructor : Constructor
a_constructor = record { place = at 1 19; parameters = []; call = Nil; body = [] }

abbrev pub minus : Tree → Tree
minus e = Unary (at 1 20) Minus e

abbrev pub of_arrays : List JavaType → List ClassDomain → Problem
of_arrays arrays domains = a_problem [] [] arrays domains

abbrev pub array_domain : List ℕ → ℕ → ClassDomain
array_domain name k = record { name = name; class = Array k; count = 0; spots = [] }

-- literals may be initial values, and other expressions may not; a constructor may not be there; names, and elements of arrays
pub record WorkedRules : Type 0 where
  pub plain : build_fault (nodes [] Nil) ≡ None
  pub negative : build_fault (nodes [] (minus (Number (at 1 21) 5))) ≡ None
  pub twice : build_fault (nodes [] (minus (minus (Number (at 1 22) 5)))) ≡ Some (Construction (at 1 13))
  pub positive : build_fault (nodes [] (Unary (at 1 20) Plus (Number (at 1 21) 5))) ≡ Some (Construction (at 1 13))
  pub variable : build_fault (nodes [] (Variable (at 1 20) (codes "x"))) ≡ Some (Construction (at 1 13))
  pub constructed : build_fault (nodes (a_constructor ∷ []) Nil) ≡ Some (Construction (at 1 19))
  pub taken : build_fault (a_problem (a_heading (codes "KoratBuild") ∷ []) [] [] []) ≡ Some (ClassName (at 1 7))
  pub nested : build_fault (of_arrays (ArrayType int_type ∷ ArrayType (ArrayType int_type) ∷ []) (array_domain (codes "int[]") 0 ∷ array_domain (codes "int[][]") 1 ∷ [])) ≡ Some (Elements (codes "arrays.int[][]"))
