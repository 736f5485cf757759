-- Between crates: what the code keeps of classes, as the class table has it.
use Rattle.std.specs.Prelude.{◌≡◌, ℕ, ◌<◌, ◌^◌, List, [], ◌∷◌, length, map, All, Option}
use Rattle.kr_ast.specs.Arena.{Arena, AreNamesIn, name_in, root, tree_in}
use Rattle.kr_ast.specs.Files.{file_at}
use Rattle.kr_classes_table.specs.Table as table
use Rattle.kr_classes_table.specs.Table.{items, class_named, headings_of}
use Rattle.kr_classes_names.specs.Listed.{IsIndexOf}
use Rattle.kr_classes_names.specs.declared.headings.Heading.{Heading}
use Rattle.kr_classes_names.specs.declared.class_names.Heads.{Heads}

abbrev pub heading_shown : List Arena → Heading → table.Heading
heading_shown files h = let a = file_at files h.file in record {
  name = name_in a.text h.name;
  place = h.place;
  outer = h.outer;
  extended = tree_in a h.extended;
  members = items (tree_in a h.members);
}

-- its nodes and its name are there
pub record IsHeading (files : List Arena) (h : Heading) : Type 0 where
  pub file : h.file < length files
  pub name : AreNamesIn (file_at files h.file).text (h.name ∷ [])
  pub extended : h.extended < length (file_at files h.file).entries
  pub members : h.members < length (file_at files h.file).entries

abbrev pub name_shown : List Arena → Heading → List ℕ
name_shown files h = name_in (file_at files h.file).text h.name

abbrev pub superclass_in : List table.Heading → table.Heading → Option ℕ
superclass_in hs h = class_named hs h.extended

-- how many classes there are
abbrev pub count_of : Heads → ℕ
count_of o = length o.headings.items

-- the heads of the classes of these files
pub record AreHeads (files : List Arena) (o : Heads) : Type 0 where
  pub stands : All (IsHeading files) o.headings.items
  pub few : length o.headings.items < 2 ^ 32
  pub shown : map (heading_shown files) o.headings.items ≡ headings_of (map root files)
  pub index : IsIndexOf (map (λ h. h.name) (headings_of (map root files))) o.index

abbrev pub superclass_shown : List Arena → Heading → Option ℕ
superclass_shown files h = superclass_in (headings_of (map root files)) (heading_shown files h)
