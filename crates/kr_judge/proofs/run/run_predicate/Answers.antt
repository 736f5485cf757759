use Rattle.std.proofs.Common.{[], ◌∷◌, ◌∙◌, ℕ, List, ap, subst}
use Rattle.std.specs.Prelude.{map}
use Rattle.kr_mean.specs.Code.{Node}
use Rattle.kr_mean.specs.Places.{SlotPlace, This}
use Rattle.kr_mean.specs.Runs.{conditions, end_on, hold_all, start}
use Rattle.kr_mean.specs.Steps.{State}
use Rattle.kr_space_layout.specs.Bounds.{problem_with}
use Rattle.kr_run_state.specs.Worlds.{state_of}
use Rattle.kr_judge.specs.Judged.{MeansAs}
use Rattle.kr_judge.proofs.Ends.{ran}
use Rattle.kr_judge.proofs.Programs.{start_same}
use Rattle.kr_judge.proofs.run.run_predicate.Goals as goal

pub returns-clause-run : goal.returns-clause-run
unfolding end_on
returns-clause-run g c = λ program n p.
    let b = c.args.layout.now in
    let v = c.args.vector.now in
    let before = c.in_ok-world.world in
    let w = c.hold_all-answer.new.world in
    let answer = c.hold_all-answer.result in
    let all = map n.origin c.as_slice.result.now in
    let means = c.hold_all-answer.ensures program n p.code in
    let this = subst (λ (seen : List SlotPlace). MeansAs answer w seen (hold_all program all (state_of before))) c.in_ok-world.ensures.reads means in
    let begun = subst (λ (s : State). MeansAs answer w (This ∷ []) (hold_all program all s)) (c.in_ok-world.ensures.state ∙ start_same program b v) this in
    let whole = subst (λ (es : List Node). MeansAs answer w (This ∷ []) (hold_all program es (start (problem_with program b) v))) (ap (λ (is : List ℕ). map n.origin is) c.as_slice.ensures.value ∙ p.conditions) begun in
    let r = ran answer c.in_ok-end.end w (hold_all program (conditions (problem_with program b)) (start (problem_with program b) v)) c.in_ok-end.ensures whole in
    record { ends = r.0; reads = r.1 }
