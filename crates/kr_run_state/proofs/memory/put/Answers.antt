use Rattle.std.proofs.Common.{rules, ◌++◌, length, refl, sym, ap, ◌∙◌}
use Rattle.std.specs.Prelude.{Ok}
use Rattle.kr_value.specs.Heaps.{Heap}
use Rattle.kr_mean.specs.Steps.{State}
use Rattle.kr_run_state.specs.Worlds.{state_at, candidates_of}
use Rattle.kr_run_state.proofs.Candidates.{value_made, put_long, puts_candidate}
use Rattle.kr_run_state.proofs.memory.put.Goals as goal

pub returns-in-Some : goal.returns-in-Some
returns-in-Some c = λ x a.
    let w = c.args.world.now in
    let heap = sym (value_made w.is_frozen w.candidates w.reads w.made x c.args.object c.in-Some.number c.args.at c.args.value a (search rules)) ∙ ap (λ (h : Heap). candidates_of w.candidates x ++ h) (sym c.write.ensures) in
    (record { allowed = a; frozen_before = λ e. e; same = λ e. refl; long = refl }, ap (λ (h : Heap). record { said = Ok tt; after = record (state_at w x) { heap = h }; reads = w.reads }) heap)

pub returns-in-None : goal.returns-in-None
returns-in-None c = λ x a.
    let w = c.args.world.now in
    let r = puts_candidate w.is_frozen w.candidates w.reads c.write-in-None.new.self w.made x c.args.object c.args.at c.args.value (state_at w x) c.write-in-None.ensures (search rules) a in
    (record { allowed = r.0; frozen_before = λ e. absurd (cc (e)); same = λ e. absurd (cc (e)); long = ap length c.write-in-None.ensures ∙ put_long w.is_frozen w.candidates c.args.object c.args.at c.args.value }, ap (λ (s : State). record { said = Ok tt; after = s; reads = w.reads }) r.1)
