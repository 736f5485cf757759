use Rattle.std.proofs.Common.{◌≡◌, ℕ, List, length, ap, arith, ◌∙◌}
use Rattle.std.specs.Prelude.{replicate}
use Rattle.std.proofs.lemmas.List.{length-replicate}
use Rattle.kr_mean.specs.Runs.{slots_for}
use Rattle.kr_space_layout.specs.Bounds.{bare}
use Rattle.kr_space_problem.specs.Posed.{posed}
use Rattle.kr_judge_prepared.proofs.Laid.{slots_are}
use Rattle.kr_judge_replay.proofs.runner.Runner.new.Goals as goal

pub invariant_of-result : goal.invariant_of-result
invariant_of-result c =
    let known : length c.in_ok-known.known ≡ c.slots-2.result = ap (λ (xs : List ℕ). length xs) c.in_ok-known.ensures ∙ length-replicate c.slots-2.result 0 in
    let vector : length c.in_ok-vector.vector ≡ c.slots.result = ap (λ (xs : List ℕ). length xs) c.in_ok-vector.ensures ∙ length-replicate c.slots.result 0 in (
      c.new-3.ensures.follow (slots_for (bare c.layout-layout.result.now)),
      known ∙ c.slots-2.ensures,
      vector ∙ c.slots.ensures,
      omega arith,
      λ e. absurd (cc (e)),
      record { laid = c.layout-layout.ensures.laid; run = c.predicate.ensures.run },
    )

pub returns-clause-first : goal.returns-clause-first
returns-clause-first c = c.in_ok-vector.ensures ∙ ap (λ (n : ℕ). replicate n 0) (slots_are (posed c.args.prepared.now.problem) c.layout-layout.result.now c.layout-layout.ensures.laid c.slots.result c.slots.ensures)
