use Rattle.std.proofs.Common.{sym, ap, ◌∙◌}
use Rattle.std.specs.Prelude.{option_map}
use Rattle.kr_classes_names.specs.Types.{type_at}
use Rattle.kr_mean.specs.Meaning.{type_width}
use Rattle.kr_code_lowering.proofs.known.width_of.Goals as goal

pub returns-in-None : goal.returns-in-None
returns-in-None c = ap type_width (sym (ap (option_map (type_at c.args.program.now.table.types)) c.in-None.is) ∙ c.type_of.ensures.shown)

pub returns-in-Some : goal.returns-in-Some
returns-in-Some c = c.width_in.ensures ∙ ap type_width (sym (ap (option_map (type_at c.args.program.now.table.types)) c.in-Some.is) ∙ c.type_of.ensures.shown)
