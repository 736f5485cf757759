use Rattle.std.proofs.Common.{◌≡◌, ◌++◌, take}
use Rattle.std.specs.Prelude.{flat_map}
use Rattle.kr_emit_meaning.specs.Builders.{creation_text}
use Rattle.kr_space_problem.specs.Posed.{posed}
use Rattle.kr_text.specs.Lines.{line_bytes}
use Rattle.kr_emit.proofs.creation.add_creations.Given as goal

abbrev pub invariant-loop-object : goal.invariant-loop-object
invariant-loop-object l = line_bytes l.line ≡ line_bytes l.fn.line ++ flat_map (creation_text (posed l.problem) l.structure l.objects) (take l.object-index l.objects)
