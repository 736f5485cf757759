use Rattle.std.proofs.Common.{◌≡◌, ◌++◌, length, take, drop}
use Rattle.kr_step.specs.Steps.{path_of}
use Rattle.kr_step.proofs.path.extend.Given as goal

abbrev pub invariant-loop-at : goal.invariant-loop-at
invariant-loop-at g l = record {
  long : length l.initial.path.items ≡ l.start;
  path : l.path.items ≡ l.initial.path.items ++ path_of (g.C.Candidate.vector l.candidates) (drop l.start (take l.at l.order));
}
