-- Between crates: what an assignment writes, by numbers.
use Rattle.std.specs.Prelude.{◌≡◌, ℕ, Bool, true, false, List, Option, Some, None}
use Rattle.kr_ast.specs.Tree.{Tree}
use Rattle.kr_classes_table.specs.Types.{JavaType, ArrayType}
use Rattle.kr_classes_table.specs.Table.{Field}
use Rattle.kr_types_meaning.specs.Scopes.{Scope}
use Rattle.kr_types_meaning.specs.Running.{running}
use Rattle.kr_mean.specs.Meaning.{target_of}
use Rattle.kr_classes_names.specs.ListedTypes.{IsGrown}
use Rattle.kr_types.specs.declared.program.Program.{Program}
use Rattle.kr_code.specs.declared.expression.Variable.{Variable}
use Rattle.kr_code.specs.Resolved.{IsVariable}
use Rattle.kr_classes_members.specs.Rosters.{field_numbered}
use Rattle.kr_code_members.specs.Nodes.{table}
use Rattle.kr_code_lowering.specs.Origins.{Final, numbering_of}

-- the variable that a tree writes, where the scope's code runs; there may be more names by then
abbrev pub IsTarget : Program → Scope → Tree → List (List ℕ) → Variable → Type 0
IsTarget p s t known x = (final : Final) → IsGrown known final.names → IsVariable (numbering_of p final) (running s) (target_of (running s) t) x

-- the number of a field, if there is one
abbrev pub IsFieldFound : Program → Option ℕ → Option Field → Type 0
IsFieldFound p None f = f ≡ None
IsFieldFound p (Some k) f = f ≡ Some (field_numbered (table p) k)

abbrev pub is_array_type : Option JavaType → Bool
is_array_type (Some (ArrayType t)) = true
is_array_type t = false
