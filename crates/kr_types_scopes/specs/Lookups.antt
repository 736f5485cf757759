-- Between crates: the local that a name means.
use Rattle.std.specs.Prelude.{ℕ, ◌≡◌, List, Option}
use Rattle.kr_ast.specs.Arena.{Arena}
use Rattle.kr_classes_table.specs.Table.{Table, Field}
use Rattle.kr_classes_table.specs.Constants.{Known}
use Rattle.kr_types_meaning.specs.Scopes.{Meant, LocalName, meant_by, field_or_none}
use Rattle.kr_types_scopes.specs.declared.within.Binding.{Binding}
use Rattle.kr_types_scopes.specs.declared.within.Within.{Within}
use Rattle.kr_types_scopes.specs.declared.lookup.LocalFound.{LocalFound}
use Rattle.kr_types_scopes.specs.Settings.{setting, type_there, locals_at}
use Rattle.kr_types_scopes.specs.Scoped.{scope_at}

-- the meaning of the name there; if no local has it, the given field
abbrev pub meant_there : Table → List Known → Arena → List Binding → ℕ → Option Field → List ℕ → Meant
meant_there t v tree bs top f n = meant_by (locals_at (setting t v tree) bs top) f n

-- the name means this local, whatever the class table and the field
abbrev pub IsLocalThere : Arena → List Binding → ℕ → List ℕ → LocalFound → Type 0
IsLocalThere tree bs top n l = (t : Table) (v : List Known) (f : Option Field) → meant_there t v tree bs top f n ≡ LocalName l.number (type_there (setting t v tree) l.declared)

-- it means no local
abbrev pub IsNoLocal : Arena → List Binding → ℕ → List ℕ → Type 0
IsNoLocal tree bs top n = (t : Table) (v : List Known) (f : Option Field) → meant_there t v tree bs top f n ≡ field_or_none f

-- the local that a name means at a node
abbrev pub IsLocalAt : Arena → List Binding → List Within → ℕ → List ℕ → LocalFound → Type 0
IsLocalAt tree bs ws i n l = (t : Table) (v : List Known) (f : Option Field) → meant_by (scope_at (setting t v tree) bs ws i).locals f n ≡ LocalName l.number (type_there (setting t v tree) l.declared)

abbrev pub IsNoLocalAt : Arena → List Binding → List Within → ℕ → List ℕ → Type 0
IsNoLocalAt tree bs ws i n = (t : Table) (v : List Known) (f : Option Field) → meant_by (scope_at (setting t v tree) bs ws i).locals f n ≡ field_or_none f
