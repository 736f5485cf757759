use Rattle.std.proofs.Common.{◌≡◌, drop}
use Rattle.kr_space_rules.specs.Spans.{meet}
use Rattle.kr_space_rules.proofs.twice.spans_meet.Given as goal

abbrev pub invariant-loop-span : goal.invariant-loop-span
invariant-loop-span l = meet (record { start = 0; count = 0 }) l.spans ≡ meet l.last (drop l.span-index l.spans)
