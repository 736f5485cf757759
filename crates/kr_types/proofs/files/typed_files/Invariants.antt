use Rattle.kr_classes_names.specs.Types.{Extends}
use Rattle.kr_classes_names.specs.Numbers.{AreNodeTypes}
use Rattle.kr_types.specs.Programs.{AreTypedFiles}
use Rattle.kr_types.proofs.files.typed_files.Given as goal

abbrev pub invariant-loop-file : goal.invariant-loop-file
invariant-loop-file l = record {
  extends : Extends l.initial.types l.types;
  numbers : AreNodeTypes l.trees l.types l.numbers;
  typed : AreTypedFiles l.trees l.types l.file l.files.items;
}
