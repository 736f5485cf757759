use Rattle.std.proofs.Common.{ap, arith, get_or}
use Rattle.kr_emit_meaning.specs.Builders.{created_text, creation_text, length_text, local_text}
use Rattle.kr_space_layout.specs.Bounds.{bare}
use Rattle.kr_space_problem.specs.Posed.{posed}
use Rattle.kr_emit.proofs.Lines.{all_added, item_added}
use Rattle.kr_text.specs.Lines.{line_bytes}
use Rattle.kr_emit.proofs.creation.add_creations.Goals as goal

pub loop-object-preserved : goal.loop-object-preserved
loop-object-preserved c =
    let problem = c.args.problem.now in
    let objects = c.args.objects.now in
    let i = c.loop-object.object-index in
    let o = get_or objects i 0 in
    let created = created_text (posed problem).program (local_text objects o) (length_text (bare problem.layout) c.args.structure.now o) in
    item_added (creation_text (posed problem) c.args.structure.now objects) objects i 0 (line_bytes c.args.line.now) (line_bytes c.loop-object.line) (line_bytes c.add_created.new.line) (created c.class_of_object-class.result) c.loop-object-test.true c.loop-object.invariant c.in_ok-add_created.ensures
    (ap created c.class_of_object-class.ensures)

pub returns : goal.returns
returns c =
    all_added (creation_text (posed c.args.problem.now) c.args.structure.now c.args.objects.now) c.args.objects.now c.loop-object.object-index (line_bytes c.args.line.now) (line_bytes c.loop-object.line) (omega (arith, c.loop-object-test.false)) c.loop-object.invariant
