use Rattle.std.proofs.Common.{◌≡◌, ℕ, ◌+◌, ◌-◌, ◌<◌, ◌≤◌, List}
use Rattle.kr_base.specs.declared.entry.Entry.{Entry}
use Rattle.kr_mean.specs.Entries.{all_entries}
use Rattle.kr_mean.specs.declared.row.Row.{Row}
use Rattle.kr_step.specs.Scans.{left}
use Rattle.kr_space_problem.specs.Posed.{posed}
use Rattle.kr_scan.proofs.Gathering.{IsFront}
use Rattle.kr_scan.proofs.batch.gather.Given as goal

abbrev pub invariant-loop-why : goal.invariant-loop-why
invariant-loop-why g l = record {
  space : g.C.Slots.space l.span.candidates ≡ g.C.Slots.space l.initial.span.candidates;
  order : g.C.Candidate.order l.span.candidates ≡ g.C.Candidate.order l.initial.span.candidates;
  ending : g.C.Candidate.ending l.span.candidates ≡ g.C.Candidate.ending l.initial.span.candidates;
  upto : l.span.upto ≡ l.initial.span.upto;
  maker : l.maker ≡ l.initial.maker;
  counted : l.runs ≤ l.initial.runs + l.tried;
  low : l.tried < l.most;
  front : (done : List (Entry Row)) × IsFront (all_entries (posed l.initial.maker.problem)) l.initial.span.cut l.initial.span.upto l.most done (left (posed l.initial.maker.problem) l.span.upto l.span.cut) l.rows.items l.tried;
}

abbrev pub decreases-loop-why : goal.decreases-loop-why
decreases-loop-why g l = l.most - l.tried
