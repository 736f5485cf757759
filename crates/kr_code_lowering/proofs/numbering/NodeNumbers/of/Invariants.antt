use Rattle.kr_code_lowering.specs.Numbered.{AreBegun}
use Rattle.kr_code_lowering.specs.Origins.{first_node}
use Rattle.kr_code_lowering.proofs.numbering.NodeNumbers.of.Given as goal

abbrev pub invariant-loop-file : goal.invariant-loop-file
invariant-loop-file l = AreBegun l.program l.others (first_node l.program.trees.items l.file) l.numbers
