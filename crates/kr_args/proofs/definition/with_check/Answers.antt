use Rattle.std.proofs.lemmas.Result.{IfOk-weaker}
use Rattle.clap.specs.Words.{app_of, with_subcommand}
use Rattle.kr_args.specs.Definition.{bare_app, list_app, test_app, check_app}
use Rattle.kr_args.proofs.Definitions.{more}
use Rattle.kr_args.proofs.definition.with_check.Goals as goal

pub returns : goal.returns
returns c =
    IfOk-weaker c.with_command.result _ _ (λ x e. more (app_of x) (app_of c.in_ok-korat.korat) (app_of c.in_ok-check.check) (with_subcommand (with_subcommand bare_app list_app.top) test_app.top) check_app e c.in_ok-korat.ensures c.in_ok-check.ensures.app)
    c.with_command.ensures
