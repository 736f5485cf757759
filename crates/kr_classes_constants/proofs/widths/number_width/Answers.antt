use Rattle.std.proofs.Common.{sym, ap, ◌∙◌}
use Rattle.kr_ast.specs.Arena.{tree_in}
use Rattle.kr_ast.specs.Tree.{PrimitiveType}
use Rattle.kr_classes_table.specs.Constants.{number_width}
use Rattle.kr_classes_constants.proofs.Written.{no_number, width_at}
use Rattle.kr_classes_constants.proofs.widths.number_width.Goals as goal

pub returns-in-Int : goal.returns-in-Int
returns-in-Int c = sym (width_at c.args.tree.now c.args.node c.entry.result c.entry.ensures.tree _ c.in-PrimitiveType.is ∙ ap (λ k. number_width (PrimitiveType c.entry.result.place k)) c.in-Int.is)

pub returns-in-Long : goal.returns-in-Long
returns-in-Long c = sym (width_at c.args.tree.now c.args.node c.entry.result c.entry.ensures.tree _ c.in-PrimitiveType.is ∙ ap (λ k. number_width (PrimitiveType c.entry.result.place k)) c.in-Long.is)

pub returns-in-Boolean : goal.returns-in-Boolean
returns-in-Boolean c = sym (width_at c.args.tree.now c.args.node c.entry.result c.entry.ensures.tree _ c.in-PrimitiveType.is ∙ ap (λ k. number_width (PrimitiveType c.entry.result.place k)) c.in-Boolean.is)

pub returns-in-Void : goal.returns-in-Void
returns-in-Void c = sym (width_at c.args.tree.now c.args.node c.entry.result c.entry.ensures.tree _ c.in-PrimitiveType.is ∙ ap (λ k. number_width (PrimitiveType c.entry.result.place k)) c.in-Void.is)

pub returns-in_default : goal.returns-in_default
returns-in_default c = sym (ap number_width c.entry.ensures.tree ∙ no_number c.args.tree.now.text (tree_in c.args.tree.now) c.entry.result.place c.entry.result.node c.in_default.not-PrimitiveType)
