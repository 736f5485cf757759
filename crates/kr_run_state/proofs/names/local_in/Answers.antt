use Rattle.std.proofs.Common.{ap, ◌∙◌}
use Rattle.std.specs.Prelude.{option_map}
use Rattle.kr_run_state.specs.Shown.{local_of}
use Rattle.kr_run_state.proofs.Locals.{local_there}
use Rattle.kr_run_state.proofs.names.local_in.Goals as goal

pub returns : goal.returns
returns c = ap (option_map local_of) c.found_in.ensures ∙ local_there c.args.locals.now.items c.args.local
