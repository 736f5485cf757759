use Rattle.std.proofs.Common.{rules, refl, sym, ◌∙◌}
use Rattle.kr_value.specs.declared.object.Spot.TheVariants.{Length, Element}
use Rattle.kr_mean.specs.Places.{At}
use Rattle.kr_run_state.specs.Worlds.{state_at}
use Rattle.kr_run_state.proofs.Candidates.{misses_candidate, reads_candidate}
use Rattle.kr_run_state.proofs.Growing.{only_noted, only_then}
use Rattle.kr_run_state.proofs.memory.element_candidate.Goals as goal

pub returns-in-None-clause-agrees : goal.returns-in-None-clause-agrees
returns-in-None-clause-agrees c = λ x a.
    let w = c.args.world.now in
    let is = c.in_ok-note.ensures.noted in
    let r = misses_candidate w.is_frozen w.candidates w.reads c.note.new.self w.made x c.args.object c.args.index (state_at w x) refl refl is c.requires.candidate c.requires.array (search rules) a in
    (record { allowed = r.0; frozen_before = λ e. e; same = λ e. refl; long = refl }, r.1)

pub returns-in_ok-note-in-Some-read-clause-agrees : goal.returns-in_ok-note-in-Some-read-clause-agrees
returns-in_ok-note-in-Some-read-clause-agrees c = λ x a.
    let w = c.args.world.now in
    let first = c.in_ok-note.ensures.noted in
    let then = c.in_ok-note-in-Some-read.ensures.noted in
    let r = reads_candidate w.is_frozen w.candidates w.reads c.note.new.self c.note-in-Some-read.new.self w.made x c.args.object c.in-Some.at c.args.index c.in-Some-read.value (state_at w x) refl refl first then c.requires.candidate c.requires.array (search rules) (sym c.read.ensures ∙ c.in-Some-read.is) a in
    (record { allowed = r.0; frozen_before = λ e. e; same = λ e. refl; long = refl }, r.1)

pub returns-in_ok-note-in-Some-read-clause-only : goal.returns-in_ok-note-in-Some-read-clause-only
returns-in_ok-note-in-Some-read-clause-only c =
    let w = c.args.world.now in
    let first = c.note.ensures in
    let then = c.note-in-Some-read.ensures in
    let middle = record w { reads = c.note.new.self } in
    only_then w middle (record w { reads = c.note-in-Some-read.new.self })
    (only_noted w (At c.args.object Length) c.note.new.self c.note.result first.noted first.unchanged)
    (only_noted middle (At c.args.object (Element c.in-Some.at)) c.note-in-Some-read.new.self c.note-in-Some-read.result then.noted then.unchanged)
