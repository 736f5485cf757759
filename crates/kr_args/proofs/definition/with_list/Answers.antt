use Rattle.std.proofs.lemmas.Result.{IfOk-weaker}
use Rattle.clap.specs.Words.{app_of}
use Rattle.kr_args.specs.Definition.{bare_app, list_app}
use Rattle.kr_args.proofs.Definitions.{more}
use Rattle.kr_args.proofs.definition.with_list.Goals as goal

pub returns : goal.returns
returns c =
    IfOk-weaker c.with_command.result _ _ (λ x e. more (app_of x) (app_of c.bare_definition.result) (app_of c.in_ok-list.list) bare_app list_app e c.bare_definition.ensures.app c.in_ok-list.ensures.app)
    c.with_command.ensures
