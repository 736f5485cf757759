use Rattle.std.proofs.Common.{◌≡◌, ◌++◌, ℕ, take}
use Rattle.std.specs.Prelude.{flat_map}
use Rattle.kr_emit_meaning.specs.Builders.{assignment_text}
use Rattle.kr_mean.specs.Problem.{slot_at}
use Rattle.kr_space_problem.specs.Posed.{posed}
use Rattle.kr_text.specs.Lines.{line_bytes}
use Rattle.kr_value.specs.declared.value.Value.{Value}
use Rattle.kr_emit.proofs.assignment.add_assignments.Given as goal

abbrev pub invariant-loop-entry : goal.invariant-loop-entry
invariant-loop-entry l =
    line_bytes l.line ≡ line_bytes l.fn.line ++ flat_map (λ (p : ℕ × Value). assignment_text (posed l.prepared.problem) l.objects p.1 (slot_at (posed l.prepared.problem) p.0).place) (take l.entry-index l.structure)
