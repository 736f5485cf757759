use Rattle.std.proofs.lemmas.Result.{IfOk-weaker}
use Rattle.clap.specs.Words.{app_of}
use Rattle.kr_args.specs.Definition.{trace_app}
use Rattle.kr_args.proofs.Definitions.{more}
use Rattle.kr_args.proofs.definition.with_trace_command.Goals as goal

pub returns : goal.returns
returns c =
    IfOk-weaker c.with_command.result _ _ (λ x e. more (app_of x) (app_of c.in_ok-korat.korat) (app_of c.in_ok-trace.trace) _ trace_app e c.in_ok-korat.ensures c.in_ok-trace.ensures.app)
    c.with_command.ensures
