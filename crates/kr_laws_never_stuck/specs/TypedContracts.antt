-- Between crates: the contracts of a well typed program are typed.
use Rattle.std.specs.Prelude.{◌≡◌, ◌≤◌, ◌++◌, ℕ, List, flat_map, Some, None}
use Rattle.kr_base.specs.declared.place.Place.{Place}
use Rattle.kr_ast.specs.Tree.{Tree}
use Rattle.kr_classes_table.specs.Nodes.{nodes}
use Rattle.kr_classes_table.specs.Types.{JavaType}
use Rattle.kr_classes_table.specs.Table.{Method, table_of, method_named}
use Rattle.kr_classes_table.specs.Arrays.{array_types_of}
use Rattle.kr_classes_table.specs.Rules.{class_fault}
use Rattle.kr_types_meaning.specs.Typing.{IsWellTyped}
use Rattle.kr_mean.specs.Program.{Program, program_with, method_scope}
use Rattle.kr_mean.specs.Runs.{requires_of, ensures_of}
use Rattle.kr_mean.specs.Verdicts.{olds_of}
use Rattle.kr_laws_safety.specs.Triples.{type_of_old}
use Rattle.kr_laws_safety.specs.Typed.{Olds, IsTypedProgram}
use Rattle.kr_laws_safety.specs.Tested.{AreConditions, AreSignals, AreOldNodes, old_types}
use Rattle.kr_laws_never_stuck.specs.Apart.{nodes_at}
use Rattle.kr_laws_never_stuck.specs.WellTyped.{AreFiles}

-- The conditions before a method, and what its `\old`s hold; in a condition after the body each `\old` has the type that is known by its place.
pub record HasContract (program : Program) (m : Method) : Type 0 where
  pub requires : (olds : Olds) → AreConditions program olds (requires_of program m)
  pub olds : AreOldNodes program (olds_of program m)
  pub ensures : AreConditions program (type_of_old (old_types (olds_of program m))) (ensures_of program m)
  pub signals : AreSignals program (type_of_old (old_types (olds_of program m))) (method_scope program m) m.contracts

-- In files that the grammar may derive, that break no rule, and at most one of whose declarators and `\old`s is at a place.
abbrev pub ContractsLaw : Type 0
ContractsLaw = (files : List Tree) (more : List JavaType) → AreFiles files → class_fault (table_of files) ≡ None → IsWellTyped files → ((p : Place) → nodes_at p (flat_map nodes files) ≤ 1)
    → IsTypedProgram (program_with (table_of files) (array_types_of files ++ more)) → (c : ℕ) (n : List ℕ) (m : Method) → method_named (table_of files) c n ≡ Some m → HasContract (program_with (table_of files) (array_types_of files ++ more)) m
