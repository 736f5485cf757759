-- Between crates: the scope in which code runs: without the fact whether it is in a loop, or which field it
-- initializes.
use Rattle.std.specs.Prelude.{Bool, false}
use Rattle.kr_classes_table.specs.Types.{JavaType, VoidType}
use Rattle.kr_types_meaning.specs.Scopes.{Scope, Declaring, Locals, Fields, AsValue}

-- the kind of local that declarators declare
abbrev pub locals_only : Declaring → Declaring
locals_only Locals = Locals
locals_only what = Fields

abbrev pub local_type : Declaring → JavaType → JavaType
local_type Locals t = t
local_type what t = VoidType

-- the same scope, in a loop or not, outside field declarations
abbrev pub elsewhere : Bool → Scope → Scope
elsewhere b s = record s { is_in_loop = b; declaring = locals_only s.declaring; declared = local_type s.declaring s.declared }

-- The scope by which code runs: what a node's surroundings ask of it alone is left out.
abbrev pub running : Scope → Scope
running s = record (elsewhere false s) { role = AsValue }
