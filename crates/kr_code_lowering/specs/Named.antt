-- Between crates: the meaning of a name at a node, by numbers.
use Rattle.std.specs.Prelude.{◌≡◌, ℕ, true, false, List, Option, Some, None}
use Rattle.kr_value.specs.declared.value.Value.{Value}
use Rattle.kr_classes_table.specs.Types.{JavaType}
use Rattle.kr_classes_table.specs.Table.{Field}
use Rattle.kr_types_meaning.specs.Scopes.{Scope, LocalName, FieldName, NoName, field_or_none, meant, meant_by}
use Rattle.kr_types.specs.declared.program.Program.{Program}
use Rattle.kr_code.specs.declared.expression.Expression.{Expression}
use Rattle.kr_code.specs.declared.expression.Expression.TheVariants as expressions
use Rattle.kr_code.specs.Resolved.{constant_meant}
use Rattle.kr_classes_members.specs.Rosters.{field_numbered}
use Rattle.kr_code_lowering.specs.declared.named.Named.{Named}
use Rattle.kr_code_lowering.specs.declared.named.Named.TheVariants as named
use Rattle.kr_code_members.specs.Nodes.{table}

-- it means this local, whichever field has the name
abbrev pub IsLocal : Scope → List ℕ → ℕ → Type 0
IsLocal s x k = (f : Option Field) → (t : JavaType) × (meant_by s.locals f x ≡ LocalName k t)

-- it means no local
abbrev pub IsNoLocal : Scope → List ℕ → Type 0
IsNoLocal s x = (f : Option Field) → meant_by s.locals f x ≡ field_or_none f

abbrev pub IsNamed : Program → Scope → List ℕ → Named → Type 0
IsNamed p s x (named.Local k) = (t : JavaType) × (meant s x ≡ LocalName k t)
IsNamed p s x (named.Constant v) = (f : Field) × (meant s x ≡ FieldName f) × (f.is_static ≡ true) × (constant_meant s (Some f) ≡ v)
IsNamed p s x (named.Own k) = (f : Field) × (meant s x ≡ FieldName f) × (f.is_static ≡ false) × (field_numbered (table p) k ≡ f)
IsNamed p s x named.Nothing = meant s x ≡ NoName

-- a constant without a value has no meaning
abbrev pub literal_of : Option Value → Expression
literal_of None = expressions.Stuck
literal_of (Some v) = expressions.Literal v
