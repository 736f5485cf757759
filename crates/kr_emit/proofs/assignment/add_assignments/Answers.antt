use Rattle.std.proofs.Common.{◌∙◌, ℕ, ap, arith, get_or}
use Rattle.std.specs.Prelude.{pos}
use Rattle.kr_emit_meaning.specs.Builders.{assignment_text}
use Rattle.kr_mean.specs.Places.{place_of}
use Rattle.kr_mean.specs.Problem.{slot_at}
use Rattle.kr_space_layout.specs.Bounds.{Bounds, bare}
use Rattle.kr_space_problem.specs.Posed.{posed}
use Rattle.kr_value.specs.declared.value.Value.{Value}
use Rattle.kr_value.specs.declared.value.Value.TheVariants.{Int}
use Rattle.kr_emit.proofs.Lines.{all_added, item_added}
use Rattle.kr_text.specs.Lines.{line_bytes}
use Rattle.kr_emit.proofs.assignment.add_assignments.Goals as goal

pub loop-entry-preserved : goal.loop-entry-preserved
loop-entry-preserved c =
    let d : ℕ × Value = (0, Int (pos 0)) in
    let problem = posed c.args.prepared.now.problem in
    let objects = c.args.objects.now in
    let xs = c.args.structure.now in
    let i = c.loop-entry.entry-index in
    item_added (λ (p : ℕ × Value). assignment_text problem objects p.1 (slot_at problem p.0).place) xs i d (line_bytes c.args.line.now) (line_bytes c.loop-entry.line) (line_bytes c.add_assignment.new.line)
    (assignment_text problem objects (get_or xs i d).1 (place_of c.place_of-place.result)) c.loop-entry-test.true c.loop-entry.invariant c.in_ok-add_assignment.ensures
    (ap (assignment_text problem objects (get_or xs i d).1) (c.place_of-place.ensures ∙ ap (λ (b : Bounds). (slot_at (bare b) (get_or xs i d).0).place) c.layout.ensures.same))

pub returns : goal.returns
returns c =
    let problem = posed c.args.prepared.now.problem in
    all_added (λ (p : ℕ × Value). assignment_text problem c.args.objects.now p.1 (slot_at problem p.0).place) c.args.structure.now c.loop-entry.entry-index (line_bytes c.args.line.now) (line_bytes c.loop-entry.line) (omega (arith, c.loop-entry-test.false)) c.loop-entry.invariant
