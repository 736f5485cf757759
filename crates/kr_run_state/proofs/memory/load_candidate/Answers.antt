use Rattle.std.proofs.Common.{sym, ◌∙◌, refl}
use Rattle.kr_run_state.specs.Worlds.{state_at}
use Rattle.kr_run_state.proofs.Candidates.{loads_candidate}
use Rattle.kr_run_state.proofs.memory.load_candidate.Goals as goal

pub returns-clause-agrees : goal.returns-clause-agrees
returns-clause-agrees c = λ x a.
    let w = c.args.world.now in
    let is = c.in_ok-note.ensures.noted in
    let r = loads_candidate w.is_frozen w.candidates w.reads c.note.new.self w.made x c.args.object c.args.spot c.in-Some.value (state_at w x) refl refl is c.requires.candidate c.requires.fixed (sym c.read.ensures ∙ c.in-Some.is) a in
    (record { allowed = r.0; frozen_before = λ e. e; same = λ e. refl; long = refl }, r.1)
