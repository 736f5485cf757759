use Rattle.std.proofs.Common.{◌∙◌, List, ap, map, subst, sym}
use Rattle.kr_ast.specs.Arena.{Arena, root}
use Rattle.kr_classes_names.specs.Shown.{AreHeads}
use Rattle.kr_classes_table.specs.Table.{headings_of, table_of}
use Rattle.kr_emit_meaning.specs.Builders.{class_text}
use Rattle.kr_emit.proofs.types.class_name.Goals as goal

pub class_in-requires : goal.class_in-requires
class_in-requires c = subst (λ (fs : List Arena). AreHeads fs c.args.problem.now.program.table.heads) (sym c.as_slice.ensures.value) c.requires.program.table.table.heads

pub returns : goal.returns
unfolding table_of
returns c = c.class_in.ensures ∙ ap (λ (fs : List Arena). class_text (headings_of (map root fs)) c.args.class) c.as_slice.ensures.value
