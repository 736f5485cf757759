-- Between crates: what is known of the classes of some files.
use Rattle.std.specs.Prelude.{List, map}
use Rattle.kr_ast.specs.Arena.{root}
use Rattle.kr_ast.specs.Tree.{Tree}
use Rattle.kr_classes_table.specs.Table as tables
use Rattle.kr_classes_table.specs.Table.{Table}
use Rattle.kr_classes_names.specs.Shown.{AreHeads}
use Rattle.kr_classes_members.specs.Kept.{AreMembers}
use Rattle.kr_classes_names.specs.Types.{TypeList}
use Rattle.kr_classes_names.specs.Numbers.{AreNodeTypes}
use Rattle.kr_space_rules.specs.declared.classes.Classes.{Classes}

-- the files, and their class table
abbrev pub files_of : Classes → List Tree
files_of c = map root c.trees.now

abbrev pub table_of : Classes → Table
table_of c = tables.table_of (files_of c)

-- heads and members are those of the files
pub record AreClasses (c : Classes) : Type 0 where
  pub heads : AreHeads c.trees.now c.heads.now
  pub members : AreMembers c.trees.now c.members.now

-- and the numbers of what nodes name are those of these types
abbrev pub AreTyped : Classes → TypeList → Type 0
AreTyped c types = AreNodeTypes c.trees.now types c.numbers.now
