use Rattle.std.proofs.Common.{List, None, map}
use Rattle.kr_ast.specs.Arena.{Arena}
use Rattle.kr_classes_names.specs.Types.{type_at}
use Rattle.kr_code_bodies.specs.Tabled.{IsArrayType}
use Rattle.kr_code_bodies.proofs.Rows.{IsFront}
use Rattle.kr_code_bodies.proofs.instances.array_types.Given as goal

abbrev pub invariant-loop-array : goal.invariant-loop-array
invariant-loop-array l = (files : List Arena) → IsFront None (IsArrayType files l.types (map (type_at l.types) l.arrays)) l.array-index l.found.items
