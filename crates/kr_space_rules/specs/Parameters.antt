-- Between crates: parameters, as the class table has them.
use Rattle.std.specs.Prelude.{◌<◌, List, [], ◌∷◌, length}
use Rattle.kr_ast.specs.Arena.{Arena, AreNamesIn, name_in, tree_in}
use Rattle.kr_classes_table.specs.Table as table
use Rattle.kr_classes_table.specs.Table.{type_named}
use Rattle.kr_ast.specs.Files.{file_at}
use Rattle.kr_classes_members.specs.Shown.{headings_in}
use Rattle.kr_space_rules.specs.declared.parameters.Parameter.{Parameter}

abbrev pub parameter_shown : List Arena → Parameter → table.Parameter
parameter_shown files p = let a = file_at files p.file in record {
  name = name_in a.text p.name;
  place = p.place;
  type = type_named (headings_in files) (tree_in a p.declared);
}

-- its nodes and its name are there
pub record IsParameter (files : List Arena) (p : Parameter) : Type 0 where
  pub file : p.file < length files
  pub name : AreNamesIn (file_at files p.file).text (p.name ∷ [])
  pub declared : p.declared < length (file_at files p.file).entries
