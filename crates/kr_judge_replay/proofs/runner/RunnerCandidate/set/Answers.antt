use Rattle.std.proofs.Common.{◌<◌, ◌≤◌, List, ℕ, length, rules, ap, subst, sym, arith, ◌∙◌}
use Rattle.std.proofs.lemmas.List.{length-set}
use Rattle.kr_mean.specs.Problem.{slots}
use Rattle.kr_space_layout.specs.Bounds.{bare}
use Rattle.kr_space_problem.specs.Posed.{posed}
use Rattle.kr_build.specs.Renewed.{IsSameBut}
use Rattle.kr_mean.specs.Space.{space_of}
use Rattle.kr_judge_prepared.proofs.Laid.{slot_in}
use Rattle.kr_judge_replay.specs.Going.{Alike}
use Rattle.kr_judge_replay.specs.Seen.{Seen}
use Rattle.kr_judge_replay.proofs.Held.{alike_set, same_set}
use Rattle.kr_judge_replay.proofs.runner.RunnerCandidate.set.Goals as goal

pub behind-self-inside-requires-clause-slot : goal.behind-self-inside-requires-clause-slot
behind-self-inside-requires-clause-slot c =
    slot_in (posed c.self.inside.prepared.now.problem) c.self.inside.layout.now c.self.invariant.5.laid c.args.slot (subst (λ (s : Seen). c.args.slot < (space_of (posed s.problem)).slots) (sym c.self.view_is) c.requires.slot)

pub set-requires : goal.set-requires
set-requires c =
    let here : c.args.slot < length (slots (bare c.self.inside.layout.now)) = slot_in (posed c.self.inside.prepared.now.problem) c.self.inside.layout.now c.self.invariant.5.laid c.args.slot (subst (λ (s : Seen). c.args.slot < (space_of (posed s.problem)).slots) (sym c.self.view_is) c.requires.slot) in
    omega (arith, here, c.self.invariant.2)

pub invariant_of-self : goal.invariant_of-self
invariant_of-self c =
    let r = c.self.inside in
    let e = c.first_without-self-inside.ensures in
    let h = c.behind-self-inside.ensures in
    let i = c.self.invariant in
    let left = c.first_without-self-inside.result in
    let low = c.min-self-inside.result in
    let high = c.behind-self-inside.result in
    let few : low ≤ r.low = search rules in
    let fits : low ≤ c.args.slot = search rules in (
      i.0,
      i.1,
      ap (λ (v : List ℕ). length v) c.set.ensures ∙ (length-set r.vector c.args.slot c.args.index ∙ i.2),
      h.few,
      λ k. (
        (i.4 k).0,
        subst (λ (v : List ℕ). Alike r.layout.now r.known v left r.accesses) (sym c.set.ensures)
            (alike_set r.layout.now r.known r.vector r.fresh left c.args.slot c.args.index r.accesses (i.4 k).1 e.few e.none e.root),
        subst (λ (v : List ℕ). IsSameBut r.known v low high) (sym c.set.ensures)
            (same_set r.known r.vector r.low r.high low high c.args.slot c.args.index (i.4 k).2 few fits h.most h.behind),
      ),
      i.5,
    )
