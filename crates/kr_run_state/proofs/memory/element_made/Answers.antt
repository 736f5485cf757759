use Rattle.std.proofs.Common.{rules, refl, sym, ◌∙◌}
use Rattle.kr_run_state.specs.Worlds.{state_at}
use Rattle.kr_run_state.proofs.Candidates.{reads_made}
use Rattle.kr_run_state.proofs.memory.element_made.Goals as goal

pub returns-in-Some-read : goal.returns-in-Some-read
returns-in-Some-read c = λ x a.
    let w = c.args.world.now in (record { allowed = a; frozen_before = λ e. e; same = λ e. refl; long = refl }, reads_made w.is_frozen w.candidates w.reads w.made x c.args.object c.args.number c.in-Some.at c.args.index c.in-Some-read.value (state_at w x) refl refl c.requires.made c.requires.array (search rules) (sym c.read.ensures ∙ c.in-Some-read.is) a)
