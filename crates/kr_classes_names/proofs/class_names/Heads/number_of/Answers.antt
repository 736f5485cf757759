use Rattle.std.proofs.Common.{◌∙◌, map}
use Rattle.kr_ast.specs.Arena.{root}
use Rattle.kr_classes_table.specs.Table.{headings_of}
use Rattle.kr_classes_names.proofs.ClassNumbers.{number_position}
use Rattle.kr_classes_names.proofs.class_names.Heads.number_of.Goals as goal

pub returns : goal.returns
returns c = λ files h. c.find.ensures ∙ h.index c.args.name.now ∙ number_position 0 (headings_of (map root files)) c.args.name.now
