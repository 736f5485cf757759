use Rattle.std.proofs.Common.{◌∙◌, ap}
use Rattle.kr_report.specs.Texts.{parameter_names}
use Rattle.kr_report.proofs.Parameters.{names_shown}
use Rattle.kr_report_rows.proofs.names.method_under_test.Goals as goal

pub returns-clause-names : goal.returns-clause-names
returns-clause-names c = names_shown c.args.prepared.now.problem.program.trees.items c.method.result ∙ ap parameter_names c.method.ensures.shown
