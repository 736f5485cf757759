use Rattle.std.proofs.Common.{◌≡◌, ◌≤◌, ◌+◌, List, length, map}
use Rattle.std.specs.Prelude.{Some}
use Rattle.kr_base.specs.declared.entry.Entry.{Entry}
use Rattle.kr_base.specs.declared.span.Bound.TheVariants.{At}
use Rattle.kr_base.specs.Entries.{entries_in}
use Rattle.kr_mean.specs.Entries.{all_entries}
use Rattle.kr_mean.specs.declared.row.Row.{Row}
use Rattle.kr_step.specs.Scans.{left}
use Rattle.kr_space_problem.specs.Posed.{posed}
use Rattle.kr_survey.specs.Scans.{rows_of}
use Rattle.kr_survey.specs.declared.taker.Room.TheVariants.{More}
use Rattle.kr_scan.proofs.Walking.{IsWalked}
use Rattle.kr_scan.proofs.handing.hand_over.Given as goal

abbrev pub invariant-loop-why : goal.invariant-loop-why
invariant-loop-why g l = record {
  space : g.C.Slots.space l.span.candidates ≡ g.C.Slots.space l.initial.span.candidates;
  order : g.C.Candidate.order l.span.candidates ≡ g.C.Candidate.order l.initial.span.candidates;
  ending : g.C.Candidate.ending l.span.candidates ≡ g.C.Candidate.ending l.initial.span.candidates;
  upto : l.span.upto ≡ l.initial.span.upto;
  maker : l.maker ≡ l.initial.maker;
  so_far : (done : List (Entry Row))
      × IsWalked (entries_in (At l.initial.span.cut) l.initial.span.upto (all_entries (posed l.initial.maker.problem))) done (left (posed l.initial.maker.problem) l.span.upto l.span.cut) l.tried
      × g.T.Taker.takes l.initial.taker l.initial.out (map (g.M.Making.made_of l.making) (rows_of done)) l.taker l.out (Some More)
      × (l.runs ≤ l.initial.runs + length done);
}

abbrev pub decreases-loop-why : goal.decreases-loop-why
decreases-loop-why g l = length (left (posed l.initial.maker.problem) l.span.upto l.span.cut)
