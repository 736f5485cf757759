use Rattle.std.proofs.Common.{◌≡◌, ◌++◌, ◌∙◌, ℕ, List, ap}
use Rattle.kr_emit_meaning.specs.Builders.{rest_text}
use Rattle.kr_space_problem.specs.declared.problem.Problem.{Problem}
use Rattle.kr_space_problem.specs.Posed.{posed}
use Rattle.kr_emit.proofs.making.ToBuilders.write_rest.Goals as goal

pub returns : goal.returns
returns c =
    let problem = c.self.inside.prepared.now.problem in
    let same : problem ≡ c.args.self.now = cc in
    let text = rest_text (posed problem) c.args.row.now in
    c.in_ok-assign.ensures
    ∙ (c.bytes.ensures
    ∙ (c.in_ok-builder_rest.ensures
    ∙ (ap (λ (l : List ℕ). l ++ text) c.clear.ensures.empty ∙ ap (λ (p : Problem). rest_text (posed p) c.args.row.now) same)))
