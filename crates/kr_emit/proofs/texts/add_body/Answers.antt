use Rattle.std.proofs.Common.{◌++◌, ℕ, ap, subst, sym}
use Rattle.std.specs.Prelude.{flat_map}
use Rattle.kr_emit_meaning.specs.Builders.{assignment_text, body_text, creation_text}
use Rattle.kr_emit.proofs.Lines.{line_then}
use Rattle.kr_mean.specs.Problem.{slot_at}
use Rattle.kr_space_problem.specs.declared.problem.Problem.{Problem}
use Rattle.kr_space_problem.specs.Posed.{IsPosed, posed}
use Rattle.kr_text.specs.Lines.{line_bytes}
use Rattle.kr_value.specs.declared.value.Value.{Value}
use Rattle.kr_emit.proofs.texts.add_body.Goals as goal

pub add_creations-requires : goal.add_creations-requires
add_creations-requires c = subst IsPosed (sym c.problem.ensures) c.laws.ensures.accepted.posed

pub returns : goal.returns
returns c =
    let problem = posed c.args.prepared.now.problem in
    let structure = c.args.structure.now in
    let objects = c.args.objects.now in
    let set = flat_map (λ (p : ℕ × Value). assignment_text problem objects p.1 (slot_at problem p.0).place) structure in
    line_then c.add_assignments.result (line_bytes c.args.line.now) (line_bytes c.add_creations.new.line) (line_bytes c.add_assignments.new.line) (flat_map (creation_text (posed c.problem.result.now) structure objects) objects) set (body_text problem structure objects)
    c.in_ok-add_creations.ensures c.add_assignments.ensures (ap (λ (q : Problem). flat_map (creation_text (posed q) structure objects) objects ++ set) (sym c.problem.ensures))
