use Rattle.std.proofs.Common.{refl}
use Rattle.kr_value.specs.Heaps.{object_in}
use Rattle.kr_code.specs.Collections.{name_of}
use Rattle.kr_run_state.proofs.Calls.{collects_candidate, collects_at}
use Rattle.kr_run_state.proofs.collections.collect_candidate.Goals as goal

pub returns : goal.returns
returns c =
    let w = c.args.world.now in
    let r = object_in w.candidates c.args.object in
    collects_candidate w (name_of c.args.call) c.args.object c.args.arguments.now c.call_on.new.members c.requires c.call_on.result
    (collects_at c.call_on.result c.class_of-class.result r.class (name_of c.args.call) c.args.arguments.now c.args.arguments.now c.members_mut-members.result.now r.values c.call_on.new.members c.class_of-class.ensures refl c.members_mut-members.ensures.members c.call_on.ensures)
