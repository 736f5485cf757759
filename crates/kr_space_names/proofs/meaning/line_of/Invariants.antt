use Rattle.std.proofs.Common.{◌≡◌, drop}
use Rattle.kr_space_meaning.specs.Names.{line_of}
use Rattle.kr_space_names.proofs.meaning.line_of.Given as goal

abbrev pub invariant-loop-count : goal.invariant-loop-count
invariant-loop-count l = line_of l.counts l.name ≡ line_of (drop l.count-index l.counts) l.name
