use Rattle.std.proofs.Common.{◌≡◌, drop}
use Rattle.kr_survey.specs.Ascents.{ascends_from}
use Rattle.kr_survey.proofs.list.ascends_from.Given as goal

abbrev pub invariant-loop-entry : goal.invariant-loop-entry
invariant-loop-entry l = ascends_from l.first l.entries ≡ ascends_from l.last (drop l.entry-index l.entries)
