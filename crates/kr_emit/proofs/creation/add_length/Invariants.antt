use Rattle.std.proofs.Common.{◌≡◌, ◌++◌, take}
use Rattle.kr_emit_meaning.specs.Builders.{length_text}
use Rattle.kr_space_layout.specs.Bounds.{bare}
use Rattle.kr_text.specs.Lines.{line_bytes}
use Rattle.kr_emit.proofs.creation.add_length.Given as goal

abbrev pub invariant-loop-entry : goal.invariant-loop-entry
invariant-loop-entry l = line_bytes l.line ≡ line_bytes l.fn.line ++ length_text (bare l.layout) (take l.entry-index l.structure) l.object
