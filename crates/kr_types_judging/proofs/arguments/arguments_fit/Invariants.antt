use Rattle.std.proofs.Common.{◌≡◌, ◌<◌, length, map, drop}
use Rattle.kr_ast.specs.Files.{file_at}
use Rattle.kr_classes_members.specs.Shown.{headings_in, table_in}
use Rattle.kr_classes_names.specs.Types.{type_at}
use Rattle.kr_types_judging.specs.Arguments.{arguments_go_into, listed_types}
use Rattle.kr_types_judging.proofs.arguments.arguments_fit.Given as goal

abbrev pub invariant-loop-argument : goal.invariant-loop-argument
invariant-loop-argument l = record {
  tree : l.tree ≡ file_at l.classes.trees.now l.file;
  at : l.at < length l.tree.entries;
  same : arguments_go_into (table_in l.classes.trees.now) (headings_in l.classes.trees.now) (map (type_at l.classes.types.now) (drop l.argument-index l.arguments)) (listed_types l.tree l.at)
      ≡ arguments_go_into (table_in l.classes.trees.now) (headings_in l.classes.trees.now) (map (type_at l.classes.types.now) l.arguments) (listed_types (file_at l.classes.trees.now l.file) l.fn.parameters);
}
