use Rattle.std.proofs.Common.{ℕ, List, refl, ap, sym, subst, ◌∙◌}
use Rattle.std.specs.Prelude.{Ok, Option, option_map}
use Rattle.kr_mean.specs.Places.{SlotPlace, Parameter}
use Rattle.kr_mean.specs.Steps.{place_reads}
use Rattle.kr_run_state.specs.Noting.{noting}
use Rattle.kr_run_state.specs.Worlds.{state_at, AreLike}
use Rattle.kr_run_state.proofs.Candidates.{allowed_before}
use Rattle.kr_run_state.proofs.names.note_parameter.Goals as goal

pub returns-in_ok-note-in-Some : goal.returns-in_ok-note-in-Some
returns-in_ok-note-in-Some c = λ x a.
    let w = c.args.world.now in
    let is = c.in_ok-note-in-Some.ensures.noted in (
      record { allowed = allowed_before w.is_frozen w.candidates (Parameter c.in-Some.number) w.reads x (subst (λ (ps : List SlotPlace). AreLike w.is_frozen ps w.candidates x) is a); frozen_before = λ e. e; same = λ e. refl; long = refl },
      ap (λ (k : Option ℕ). noting w.reads (record { said = Ok tt; after = state_at w x; reads = place_reads (option_map (λ i. Parameter i) k) })) c.in-Some.is
          ∙ ap (λ (ps : List SlotPlace). record { said = Ok tt; after = state_at w x; reads = ps }) (sym is),
    )
