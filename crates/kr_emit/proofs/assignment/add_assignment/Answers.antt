use Rattle.std.proofs.Common.{◌∙◌, ap, sym}
use Rattle.kr_emit_meaning.specs.Builders.{assignment_text, class_of_object, set_text}
use Rattle.kr_emit.proofs.Lines.{line_as}
use Rattle.kr_mean.specs.Places.{place_of}
use Rattle.kr_space_layout.specs.Bounds.{Bounds, bare}
use Rattle.kr_space_problem.specs.Posed.{posed}
use Rattle.kr_text.specs.Lines.{line_bytes}
use Rattle.kr_value.specs.declared.object.Class.{Class}
use Rattle.kr_value.specs.declared.place.SlotPlace.{SlotPlace}
use Rattle.kr_emit.proofs.assignment.add_assignment.Goals as goal

pub returns-in-At : goal.returns-in-At
returns-in-At c =
    let problem = posed c.args.prepared.now.problem in
    let objects = c.args.objects.now in
    let value = c.args.value in
    let o = c.in-At.object in
    let spot = c.in-At.spot in
    line_as c.add_set.result (line_bytes c.args.line.now) (line_bytes c.add_set.new.line) (set_text problem.program objects o c.class_of_object-class.result value spot) (assignment_text problem objects value (place_of c.args.place)) c.add_set.ensures
    (ap (λ (p : SlotPlace). assignment_text problem objects value (place_of p)) c.in-At.is
    ∙ ap (λ (k : Class). set_text problem.program objects o k value spot) (sym (c.class_of_object-class.ensures ∙ ap (λ (b : Bounds). class_of_object (bare b) o) c.layout.ensures.same)))
