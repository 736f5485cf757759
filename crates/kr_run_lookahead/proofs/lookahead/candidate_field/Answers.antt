use Rattle.std.proofs.Common.{sym, ◌∙◌, refl}
use Rattle.kr_value.specs.declared.object.Spot.TheVariants.{Field}
use Rattle.kr_run_state.specs.Worlds.{state_at}
use Rattle.kr_run_state.proofs.Candidates.{loads_candidate}
use Rattle.kr_run_lookahead.proofs.lookahead.candidate_field.Goals as goal

pub returns-in-Ok-clause-agrees : goal.returns-in-Ok-clause-agrees
returns-in-Ok-clause-agrees c = λ x a.
    let w = c.args.world.now in
    let is = c.in-Ok.ensures.noted in
    let r = loads_candidate w.is_frozen w.candidates w.reads c.note.new.self w.made x c.args.object (Field c.args.at) c.in-Some.value (state_at w x) refl refl is c.requires refl (sym c.read.ensures ∙ c.in-Some.is) a in
    (record { allowed = r.0; frozen_before = λ e. e; same = λ e. refl; long = refl }, r.1)
