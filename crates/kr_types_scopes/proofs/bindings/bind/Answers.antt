use Rattle.std.proofs.lemmas.Result.{on_ok_weaker}
use Rattle.kr_types_scopes.proofs.Bound.{bound_step}
use Rattle.kr_types_scopes.proofs.bindings.bind.Goals as goal

pub returns : goal.returns
returns c =
    on_ok_weaker c.push_local.result
    (bound_step c.args._tree.now c.args.name c.args.declared c.args.here.now c.push_local.new.here c.args.bindings.now.items c.push_local.new.bindings.items c.requires.chain c.requires.named) c.push_local.ensures
