use Rattle.std.proofs.Common.{◌≡◌, ◌++◌, drop}
use Rattle.kr_space_layout.specs.Tables.{parameter_entries}
use Rattle.kr_space_layout.proofs.tables.add_parameters.Given as goal

abbrev pub invariant-loop-domain : goal.invariant-loop-domain
invariant-loop-domain l = l.initial.entries.items ++ parameter_entries 0 l.parameters ≡ l.entries.items ++ parameter_entries l.number (drop l.domain-index l.parameters)
