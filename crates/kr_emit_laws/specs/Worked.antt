-- Between crates: heaps that builders leave, and a call, worked out by the definitions.
use Rattle.std.specs.Prelude.{◌≡◌, true, false, List, [], ◌∷◌, Ok, codes, pos, negsuc}
use Rattle.kr_ast.specs.Tree as trees
use Rattle.kr_ast.specs.Tree.{Tree, Nil, Cons}
use Rattle.kr_classes_table.specs.Types.{ArrayType, ClassType, int_type, long_type}
use Rattle.kr_emit_meaning.specs.Worked.{at, nodes, two_nodes, kinds, a_kind}
use Rattle.kr_emit_laws.specs.BuilderTree.{builder_tree}
use Rattle.kr_mean.specs.Meaning.{value}
use Rattle.kr_mean.specs.Program.{Program, program_of}
use Rattle.kr_mean.specs.Steps.{Outcome}
use Rattle.kr_value.specs.Heaps.{HeapObject}
use Rattle.kr_value.specs.declared.object.Class.TheVariants.{Array, Object}
use Rattle.kr_value.specs.declared.value.Value.{Value}
use Rattle.kr_value.specs.declared.value.Value.TheVariants.{Int, Bool as Truth, Null, Ref as Reference}
use Rattle.kr_emit_laws.specs.Built.{built_heap, call_of, call_scope, empty_state}
use Rattle.kr_emit_laws.specs.Laws.{with_builders}

-- ---- heaps

abbrev pub heap_of_nodes : List HeapObject
heap_of_nodes = record { class = Object 0; values = Reference 1 ∷ [] } ∷ record { class = Object 0; values = Null ∷ [] } ∷ []

abbrev pub WorkedNodes : Type 0
WorkedNodes = built_heap (nodes [] Nil).program (nodes [] Nil) two_nodes.structure ≡ heap_of_nodes

-- the program of `kinds`, with its array types in another order
abbrev pub reordered : Program
reordered = record kinds.program { arrays = ArrayType (ClassType 1) ∷ ArrayType int_type ∷ ArrayType long_type ∷ [] }

-- an array has its elements, and the number of its type in the program; its length is that of its elements
abbrev pub WorkedKinds : Type 0
WorkedKinds =
    built_heap reordered kinds a_kind.structure
    ≡ record { class = Object 1; values = Int (negsuc 6) ∷ Truth true ∷ Reference 1 ∷ Reference 2 ∷ Reference 3 ∷ [] }
    ∷ record { class = Array 1; values = [] }
    ∷ record { class = Array 2; values = Int (pos 5) ∷ [] }
    ∷ record { class = Array 0; values = Reference 0 ∷ [] }
    ∷ []

-- ---- a call

-- `class N { N next; }`
abbrev pub source : Tree
source = Cons (trees.Class (at 1 7) (codes "N") Nil (Cons (trees.Field (at 1 11) false false (trees.NamedType (at 1 11) (codes "N")) (Cons (trees.Declarator (at 1 13) (codes "next") Nil) Nil)) Nil)) Nil

abbrev pub beside : Program
beside = program_of (with_builders (source ∷ []) (builder_tree (λ front. at 2 1) (nodes [] Nil) (two_nodes ∷ [])))

-- `b0()`, with fuel of 16 for each of three slots and one more
abbrev pub call : Outcome Value
call = value beside (call_scope beside 1) (call_of 0) (empty_state 64)

-- it gives the root, and leaves both nodes
pub record WorkedCall : Type 0 where
  pub root : call.said ≡ Ok (Reference 0)
  pub heap : call.after.heap ≡ heap_of_nodes
