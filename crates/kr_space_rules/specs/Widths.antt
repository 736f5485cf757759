-- Between crates: the types that the keys of a table require.
use Rattle.std.specs.Prelude.{ℕ, List, Option}
use Rattle.kr_classes_table.specs.Types.{JavaType}
use Rattle.kr_space_meaning.specs.Keys.{field_type, parameter_type}
use Rattle.kr_space_meaning.specs.Bounds.{Setting, root_of}
use Rattle.kr_space_rules.specs.declared.widths.Keyed.{Keyed}
use Rattle.kr_space_rules.specs.declared.widths.Keyed.TheVariants.{Field, Parameter}

abbrev pub asked : Setting → Keyed → List ℕ → Option JavaType
asked setting Field key = field_type setting.table key
asked setting Parameter key = parameter_type setting.table (root_of setting) key
