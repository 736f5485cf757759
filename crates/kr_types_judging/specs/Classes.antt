-- Between crates: the classes of a program, as the typing rules read them.
use Rattle.kr_classes_members.specs.Kept.{AreMembers}
use Rattle.kr_classes_names.specs.Numbers.{AreNodeTypes}
use Rattle.kr_types_judging.specs.declared.class_types.ClassTypes.{ClassTypes}

-- the members and the types by number are those of the trees
pub record AreClassTypes (c : ClassTypes) : Type 0 where
  pub members : AreMembers c.trees.now c.members.now
  pub numbers : AreNodeTypes c.trees.now c.types.now c.node_types.now
