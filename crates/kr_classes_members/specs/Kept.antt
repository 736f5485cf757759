-- Between crates: the classes that the code keeps, with their members: the class table.
use Rattle.std.specs.Prelude.{◌≡◌, ℕ, List, length, map, All}
use Rattle.kr_ast.specs.Arena.{Arena}
use Rattle.kr_classes_table.specs.Table as table
use Rattle.kr_classes_names.specs.Listed.{IsIndexOf}
use Rattle.kr_classes_names.specs.Shown.{IsHeading, heading_shown}
use Rattle.kr_classes_members.specs.declared.members.ClassMembers.{ClassMembers}
use Rattle.kr_classes_members.specs.declared.members.Members.{Members}
use Rattle.kr_classes_members.specs.Shown.{IsConstructor, IsField, IsMethod, constructor_shown, field_name, field_shown, method_name, method_shown, table_in}

abbrev pub class_shown : List Arena → ClassMembers → table.Class
class_shown files k = let h = heading_shown files k.heading in record {
  name = h.name;
  place = h.place;
  outer = h.outer;
  extended = h.extended;
  super = k.superclass;
  fields = map (field_shown files) k.fields.items;
  methods = map (method_shown files) k.methods.items;
  constructors = map (constructor_shown files) k.constructors.items;
}

-- its members exist, and the index finds their names
pub record IsClass (files : List Arena) (k : ClassMembers) : Type 0 where
  pub heading : IsHeading files k.heading
  pub fields : All (IsField files) k.fields.items
  pub methods : All (IsMethod files) k.methods.items
  pub constructors : All (IsConstructor files) k.constructors.items
  pub field_index : IsIndexOf (map (field_name files) k.fields.items) k.field_index
  pub method_index : IsIndexOf (map (method_name files) k.methods.items) k.method_index

-- how many classes there are
abbrev pub class_count : Members → ℕ
class_count m = length m.classes.items

-- the classes of these files with their members
pub record AreMembers (files : List Arena) (m : Members) : Type 0 where
  pub stands : All (IsClass files) m.classes.items
  pub shown : map (class_shown files) m.classes.items ≡ (table_in files).classes
