use Rattle.std.proofs.Common.{◌+◌}
use Rattle.kr_code_lowering.specs.Numbered.{AreBegun}
use Rattle.kr_code_lowering.proofs.numbering.add_numbers.Given as goal

abbrev pub invariant-loop-node : goal.invariant-loop-node
invariant-loop-node l = AreBegun l.program l.others (l.first + l.node) l.numbers
