use Rattle.std.proofs.Common.{◌∙◌, refl, arith}
use Rattle.kr_ast.specs.Arena.{root}
use Rattle.kr_classes_table.specs.Table.{items}
use Rattle.kr_base.proofs.Added.{flat_all}
use Rattle.kr_classes_names.proofs.headings.file_items.Goals as goal

pub returns-clause-shown : goal.returns-clause-shown
returns-clause-shown c = c.loop-file.invariant.shown ∙ flat_all items root c.args.trees.now _ _ (omega arith) refl
