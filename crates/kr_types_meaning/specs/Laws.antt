-- Between crates: theorems on types and on the first broken node.
use Rattle.std.specs.Prelude.{◌≡◌, ◌↔◌, List, None}
use Rattle.kr_ast.specs.Tree as trees
use Rattle.kr_ast.specs.Tree.{Tree}
use Rattle.kr_types_meaning.specs.Scopes.{Scope, written}
use Rattle.kr_types_meaning.specs.Rules.{typed_as}
use Rattle.kr_types_meaning.specs.Typing.{judged, type_fault, IsWellTyped}

-- a program is well typed exactly where no node is the first broken one
abbrev pub WellTypedLaw : Type 0
WellTypedLaw = (files : List Tree) → (type_fault files ≡ None) ↔ IsWellTyped files

abbrev pub IsClassName : Tree → Type 0
IsClassName (trees.NamedType p n) = Unit {0}
IsClassName (trees.QualifiedType p o n) = Unit {0}
IsClassName _ = ⊥

-- a type that is written out, as all are but `C<>` after `new`
abbrev pub IsType : Tree → Type 0
IsType (trees.PrimitiveType p k) = Unit {0}
IsType (trees.NamedType p n) = Unit {0}
IsType (trees.QualifiedType p o n) = Unit {0}
IsType (trees.GenericType p h a) = IsClassName h × IsType a
IsType (trees.ArrayType p e) = IsType e
IsType _ = ⊥

-- the type that a type's node hands up is the one that the class table gives its tree, and none where rule T1 is broken
abbrev pub TypesLaw : Type 0
TypesLaw = (s : Scope) (t : Tree) → IsType t → (judged s t).typed ≡ typed_as (written s t)
