-- Between crates: what the class rules and the typing rules give of a program where none is broken.
use Rattle.std.specs.Prelude.{◌≡◌, ℕ, true, List, [], ◌∷◌, ◌++◌, Some, None}
use Rattle.kr_ast.specs.Tree.{Tree}
use Rattle.kr_classes_table.specs.Types.{JavaType}
use Rattle.kr_classes_table.specs.Table.{Table, Field, Method, table_of, own_fields}
use Rattle.kr_classes_table.specs.Constants.{is_at_place}
use Rattle.kr_classes_table.specs.Arrays.{array_types_of}
use Rattle.kr_classes_table.specs.Rules.{class_fault}
use Rattle.kr_types_meaning.specs.Typing.{IsWellTyped}
use Rattle.kr_laws_types.specs.Derivation.{AreClasses}
use Rattle.kr_mean.specs.Program.{program_with}
use Rattle.kr_mean.specs.Purity.{IsOneOf}
use Rattle.kr_mean.specs.Problem.{Problem}
use Rattle.kr_mean.specs.Runs.{tested_method, IsStuck}
use Rattle.kr_mean.specs.Verdicts.{test_start}
use Rattle.kr_mean.specs.Space.{space_of, IsVector}
use Rattle.kr_mean.specs.WellFormed.{IsWellFormed}
use Rattle.kr_laws_safety.specs.Domains.{HaveDomainsTypes}
use Rattle.kr_laws_safety.specs.Typed.{IsTypedProgram}
use Rattle.kr_laws_safety.specs.Tested.{HasContracts, IsTestable}

-- No two fields of the program are at one place: names of a text aren't.
abbrev pub AreApart : Table → Type 0
AreApart table = (c d : ℕ) (f g : Field) → IsOneOf f (own_fields table c) → IsOneOf g (own_fields table d) → is_at_place f.place g.place ≡ true → f ≡ g

abbrev pub AreFiles : List Tree → Type 0
AreFiles [] = Unit {0}
AreFiles (file ∷ files) = AreClasses file × AreFiles files

-- In files that the grammar may derive, of which no class rule and no typing rule is broken; the array types after those that
-- the files name are arbitrary.
abbrev pub WellTypedProgramsLaw : Type 0
WellTypedProgramsLaw = (files : List Tree) (more : List JavaType) → AreFiles files → class_fault (table_of files) ≡ None → IsWellTyped files → AreApart (table_of files) → IsTypedProgram (program_with (table_of files) (array_types_of files ++ more))

-- ---- its runs

-- on a candidate neither the predicate nor a precondition is stuck, nor any part of a test
pub record IsNeverStuck (problem : Problem) (vector : List ℕ) : Type 0 where
  pub candidate : IsStuck problem vector → ⊥
  pub tests : (m : Method) → tested_method problem problem.mode ≡ Some m → (fuel : ℕ) → IsTestable problem m (test_start problem vector fuel)

-- of a problem of such a program, whose predicate and contract are typed, and whose domains are of their slots' types
abbrev pub RunsLaw : Type 0
RunsLaw = (files : List Tree) (more : List JavaType) (problem : Problem) → problem.program ≡ program_with (table_of files) (array_types_of files ++ more) → AreFiles files → class_fault (table_of files) ≡ None → IsWellTyped files → AreApart (table_of files)
    → HasContracts problem → IsWellFormed problem → HaveDomainsTypes problem → (vector : List ℕ) → IsVector (space_of problem) vector → IsNeverStuck problem vector
