use Rattle.std.proofs.Common.{◌≡◌, ◌<◌, ◌-◌, length, drop}
use Rattle.std.specs.Prelude.{slice_get}
use Rattle.kr_types.specs.Programs.{all_entries}
use Rattle.kr_types.proofs.program.Program.place_of.Given as goal

abbrev pub invariant-loop-rest : goal.invariant-loop-rest
invariant-loop-rest l = record {
  within : l.rest < length (all_entries (drop l.file l.self.trees.items));
  same : slice_get (all_entries (drop l.file l.self.trees.items)) l.rest ≡ slice_get (all_entries l.self.trees.items) l.fn.node;
}

abbrev pub decreases-loop-rest : goal.decreases-loop-rest
decreases-loop-rest l = length l.self.trees.items - l.file
