-- Between crates: the representation of fields, methods and constructors of the class table.
use Rattle.std.specs.Prelude.{ℕ, ◌<◌, List, [], ◌∷◌, length, map}
use Rattle.kr_ast.specs.Arena.{Arena, AreNamesIn, name_in, root, tree_in}
use Rattle.kr_classes_table.specs.Table as table
use Rattle.kr_classes_table.specs.Table.{Table, headings_of, items, parameters_in, table_of, type_named}
use Rattle.kr_ast.specs.Files.{file_at}
use Rattle.kr_classes_members.specs.declared.fields.Field.{Field}
use Rattle.kr_classes_members.specs.declared.methods.Method.{Method}
use Rattle.kr_classes_members.specs.declared.methods.Constructor.{Constructor}

-- the headings and the class table of these files
abbrev pub headings_in : List Arena → List table.Heading
headings_in files = headings_of (map root files)

abbrev pub table_in : List Arena → Table
table_in files = table_of (map root files)

-- ---- fields and constants

abbrev pub field_shown : List Arena → Field → table.Field
field_shown files f = let a = file_at files f.file in record {
  class = f.class;
  name = name_in a.text f.name;
  place = f.place;
  is_static = f.is_static;
  is_final = f.is_final;
  type = type_named (headings_in files) (tree_in a f.declared);
  initial = tree_in a f.initial;
}

-- its nodes and its name are there
pub record IsField (files : List Arena) (f : Field) : Type 0 where
  pub file : f.file < length files
  pub name : AreNamesIn (file_at files f.file).text (f.name ∷ [])
  pub declared : f.declared < length (file_at files f.file).entries
  pub initial : f.initial < length (file_at files f.file).entries

abbrev pub field_name : List Arena → Field → List ℕ
field_name files f = name_in (file_at files f.file).text f.name

-- ---- methods

abbrev pub method_shown : List Arena → Method → table.Method
method_shown files m = let a = file_at files m.file in record {
  class = m.class;
  name = name_in a.text m.name;
  place = m.place;
  is_static = m.is_static;
  parameters = parameters_in (headings_in files) (tree_in a m.parameters);
  result = type_named (headings_in files) (tree_in a m.result);
  contracts = items (tree_in a m.contracts);
  body = items (tree_in a m.body);
}

pub record IsMethod (files : List Arena) (m : Method) : Type 0 where
  pub file : m.file < length files
  pub name : AreNamesIn (file_at files m.file).text (m.name ∷ [])
  pub parameters : m.parameters < length (file_at files m.file).entries
  pub result : m.result < length (file_at files m.file).entries
  pub contracts : m.contracts < length (file_at files m.file).entries
  pub body : m.body < length (file_at files m.file).entries

abbrev pub method_name : List Arena → Method → List ℕ
method_name files m = name_in (file_at files m.file).text m.name

-- ---- constructors

abbrev pub constructor_shown : List Arena → Constructor → table.Constructor
constructor_shown files k = let a = file_at files k.file in record {
  place = k.place;
  parameters = parameters_in (headings_in files) (tree_in a k.parameters);
  call = tree_in a k.super_call;
  body = items (tree_in a k.body);
}

pub record IsConstructor (files : List Arena) (k : Constructor) : Type 0 where
  pub file : k.file < length files
  pub parameters : k.parameters < length (file_at files k.file).entries
  pub super_call : k.super_call < length (file_at files k.file).entries
  pub body : k.body < length (file_at files k.file).entries
