use Rattle.std.proofs.Common.{◌≡◌, ◌≤◌, ◌++◌, length, map, take}
use Rattle.kr_classes_members.specs.Shown.{field_shown}
use Rattle.kr_mean.specs.Program.{default_of}
use Rattle.kr_code_bodies.proofs.values.add_values.Given as goal

abbrev pub invariant-loop-field : goal.invariant-loop-field
invariant-loop-field l = record {
  room : length l.values.items ≤ 4294967295;
  items : l.values.items ≡ l.initial.values.items ++ map (λ f. default_of (field_shown l.program.trees.items f).type) (take l.field-index l.fields);
}
