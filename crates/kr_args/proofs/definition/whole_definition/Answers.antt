use Rattle.std.proofs.lemmas.Result.{IfOk-weaker}
use Rattle.clap.specs.Words.{app_of}
use Rattle.kr_args.specs.Definition.{emit_app}
use Rattle.kr_args.proofs.Definitions.{more}
use Rattle.kr_args.proofs.definition.whole_definition.Goals as goal

pub returns : goal.returns
returns c =
    IfOk-weaker c.with_command.result _ _ (λ x e. more (app_of x) (app_of c.in_ok-korat.korat) (app_of c.in_ok-emit.emit) _ emit_app e c.in_ok-korat.ensures c.in_ok-emit.ensures.app)
    c.with_command.ensures
