-- Between crates: the class table that the code keeps of files that break no class rule.
use Rattle.std.specs.Prelude.{◌≡◌, List, None}
use Rattle.kr_ast.specs.Arena.{Arena}
use Rattle.kr_classes_table.specs.Rules.{class_fault}
use Rattle.kr_classes_table.specs.Constants.{values_of}
use Rattle.kr_classes_names.specs.Shown.{AreHeads}
use Rattle.kr_classes_members.specs.Kept.{AreMembers}
use Rattle.kr_classes_names.specs.Numbers.{AreNodeTypes}
use Rattle.kr_classes_constants.specs.Kept.{AreValues}
use Rattle.kr_classes.specs.declared.class_table.ClassTable.{ClassTable}
use Rattle.kr_classes_members.specs.Shown.{table_in}

-- heads, members, types by number and constants' values are those of the files
pub record IsTableOf (files : List Arena) (t : ClassTable) : Type 0 where
  pub heads : AreHeads files t.heads
  pub members : AreMembers files t.members
  pub numbers : AreNodeTypes files t.types t.numbers
  pub values : AreValues (values_of (table_in files)) t.values

-- the files break no class rule
pub record IsClassTable (files : List Arena) (t : ClassTable) : Type 0 where
  pub table : IsTableOf files t
  pub unbroken : class_fault (table_in files) ≡ None
