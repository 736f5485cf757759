use Rattle.std.proofs.Common.{◌≡◌, ℕ, length, take, Some}
use Rattle.std.specs.Prelude.{flat_map, slice_get}
use Rattle.std.specs.List.{AllZip}
use Rattle.kr_classes_members.specs.Rosters.{methods_of_class}
use Rattle.kr_code_members.specs.declared.nodes.ClassNodes.{ClassNodes}
use Rattle.kr_code_members.specs.Nodes.{IsClassNodes, IsMethodNode, table}
use Rattle.kr_code_members.proofs.members.member_nodes.Given as goal

abbrev pub invariant-loop-class : goal.invariant-loop-class
invariant-loop-class l = record {
  methods : AllZip (IsMethodNode l.program) (flat_map methods_of_class (take l.class (table l.program).classes)) l.methods.items;
  count : length l.classes.items ≡ l.class;
  classes : (c : ℕ) (k : ClassNodes) → slice_get l.classes.items c ≡ Some k → IsClassNodes l.program c k;
}
