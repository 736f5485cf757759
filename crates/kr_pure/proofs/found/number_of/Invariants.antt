use Rattle.std.proofs.Common.{◌≡◌, take, length}
use Rattle.kr_types.specs.Programs.{all_entries}
use Rattle.kr_pure.proofs.found.number_of.Given as goal

abbrev pub invariant-loop-file : goal.invariant-loop-file
invariant-loop-file l = l.before ≡ length (all_entries (take l.file l.trees))
