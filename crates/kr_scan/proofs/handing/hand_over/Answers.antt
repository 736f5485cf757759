use Rattle.std.proofs.Common.{◌≡◌, ◌+◌, ◌<◌, ℕ, List, [], ◌∷◌, ◌++◌, Bool, true, false, refl, sym, ap, ◌∙◌, subst, arith}
use Rattle.std.specs.Prelude.{Some, Result, Ok, Err, map}
use Rattle.kr_base.specs.declared.entry.Entry.{Entry}
use Rattle.kr_base.specs.declared.span.Bound.{Bound}
use Rattle.kr_base.specs.declared.span.Bound.TheVariants.{At}
use Rattle.kr_base.specs.Entries.{entries_in}
use Rattle.kr_mean.specs.Entries.{all_entries, mark_of}
use Rattle.kr_step.specs.declared.stage.Next.{Next}
use Rattle.kr_step.specs.Scans.{Scans, Finds, left, entry_at}
use Rattle.kr_judge_prepared.specs.Preparing.{Ready}
use Rattle.kr_space_problem.specs.Posed.{posed}
use Rattle.kr_survey.specs.Scans.{row_of as rows_at, rows_of}
use Rattle.kr_survey.specs.Takings.{Took}
use Rattle.kr_survey.specs.declared.taker.Room.{Room}
use Rattle.kr_scan.specs.Stops.{IsSpent}
use Rattle.kr_scan.proofs.Gathering.{runs_along}
use Rattle.kr_scan.proofs.Marks.{spent_as}
use Rattle.kr_scan.proofs.Walking.{IsWalked, at_start, ends_full, ends_whole, goes_on, halts, halts_memory, if_ok, one_more, runs_in, spent_exit, spent_fills_nothing, stops_when_full}
use Rattle.kr_survey.proofs.Scanning.{length-more}
use Rattle.kr_scan.proofs.handing.hand_over.Goals as goal

pub loop-why-init : goal.loop-why-init
loop-why-init g c = record {
  space = refl;
  order = refl;
  ending = refl;
  upto = refl;
  maker = refl;
  so_far = ([], at_start (left (posed c.args.maker.now.problem) c.args.span.now.upto c.args.span.now.cut), c.requires.fresh, omega arith);
}

pub returns-in-Err-clause-hands : goal.returns-in-Err-clause-hands
returns-in-Err-clause-hands g c =
    let P = posed c.args.maker.now.problem in
    let f = g.M.Making.made_of c.args.making.now in
    let takes = g.T.Taker.takes in
    let es = entries_in (At c.args.span.now.cut) c.args.span.now.upto (all_entries P) in
    let inv = c.loop-why.invariant in
    let cut = c.loop-why.span.cut in
    let upto = c.loop-why.span.upto in
    let done = inv.so_far.0 in
    let is = inv.so_far.1 in
    let taken = inv.so_far.2 in
    halts_memory es done (left P upto cut) c.loop-why.tried is takes f c.args.taker.now c.loop-why.taker c.args.out.now c.loop-why.out taken c.in-Err.why

pub returns-in-Ok-End-clause-hands : goal.returns-in-Ok-End-clause-hands
returns-in-Ok-End-clause-hands g c =
    let P = posed c.args.maker.now.problem in
    let f = g.M.Making.made_of c.args.making.now in
    let takes = g.T.Taker.takes in
    let es = entries_in (At c.args.span.now.cut) c.args.span.now.upto (all_entries P) in
    let inv = c.loop-why.invariant in
    let cut = c.loop-why.span.cut in
    let upto = c.loop-why.span.upto in
    let done = inv.so_far.0 in
    let is = inv.so_far.1 in
    let taken = inv.so_far.2 in
    let runs = runs_along P (g.C.Slots.space c.args.span.now.candidates) (g.C.Slots.space c.loop-why.span.candidates) (g.C.Candidate.order c.args.span.now.candidates) (g.C.Candidate.order c.loop-why.span.candidates)
    (g.C.Candidate.ending c.args.span.now.candidates) (g.C.Candidate.ending c.loop-why.span.candidates) inv.space inv.order inv.ending c.requires.runs_on in
    let v = g.C.Candidate.vector c.next.new.self.candidates in
    let new = c.next.new.self.cut in
    let none = subst (λ (n : Next). Scans P upto cut v new n) c.in-Ok-End.field-0-is (c.in-Ok-End.ensures.found P runs) in
    ends_whole es done (left P upto cut) c.loop-why.tried is takes f c.args.taker.now c.loop-why.taker c.args.out.now c.loop-why.out taken none.0

pub returns-then-is_spent-clause-hands : goal.returns-then-is_spent-clause-hands
returns-then-is_spent-clause-hands g c =
    let P = posed c.args.maker.now.problem in
    let f = g.M.Making.made_of c.args.making.now in
    let takes = g.T.Taker.takes in
    let es = entries_in (At c.args.span.now.cut) c.args.span.now.upto (all_entries P) in
    let inv = c.loop-why.invariant in
    let cut = c.loop-why.span.cut in
    let upto = c.loop-why.span.upto in
    let done = inv.so_far.0 in
    let is = inv.so_far.1 in
    let taken = inv.so_far.2 in
    let runs = runs_along P (g.C.Slots.space c.args.span.now.candidates) (g.C.Slots.space c.loop-why.span.candidates) (g.C.Candidate.order c.args.span.now.candidates) (g.C.Candidate.order c.loop-why.span.candidates)
    (g.C.Candidate.ending c.args.span.now.candidates) (g.C.Candidate.ending c.loop-why.span.candidates) inv.space inv.order inv.ending c.requires.runs_on in
    let v = g.C.Candidate.vector c.next.new.self.candidates in
    let new = c.next.new.self.cut in
    let ending = c.in-Ok-Found.ending in
    let found : Finds P upto cut v new ending = subst (λ (n : Next). Scans P upto cut v new n) c.in-Ok-Found.field-0-is (c.in-Ok-Found.ensures.found P runs) in
    let e = entry_at P v in
    let rest = left P upto new in
    let spent = spent_as P v ending true found.ends (subst (λ (b : Bool). IsSpent ending b) c.if-is_spent.true c.is_spent.ensures) in
    spent_exit es done (left P upto cut) c.loop-why.tried is takes f c.args.taker.now c.loop-why.taker c.args.out.now c.loop-why.out taken e rest c.one_more-tried.result c.cut.result.now c.spent_at.result c.spent_at.ensures found.entries spent c.one_more-tried.ensures (c.cut.ensures ∙ found.key)

pub returns-in-Err-hand_entry-clause-hands : goal.returns-in-Err-hand_entry-clause-hands
returns-in-Err-hand_entry-clause-hands g c =
    let P = posed c.args.maker.now.problem in
    let f = g.M.Making.made_of c.args.making.now in
    let takes = g.T.Taker.takes in
    let es = entries_in (At c.args.span.now.cut) c.args.span.now.upto (all_entries P) in
    let inv = c.loop-why.invariant in
    let cut = c.loop-why.span.cut in
    let upto = c.loop-why.span.upto in
    let done = inv.so_far.0 in
    let is = inv.so_far.1 in
    let taken = inv.so_far.2 in
    let runs = runs_along P (g.C.Slots.space c.args.span.now.candidates) (g.C.Slots.space c.loop-why.span.candidates) (g.C.Candidate.order c.args.span.now.candidates) (g.C.Candidate.order c.loop-why.span.candidates)
    (g.C.Candidate.ending c.args.span.now.candidates) (g.C.Candidate.ending c.loop-why.span.candidates) inv.space inv.order inv.ending c.requires.runs_on in
    let v = g.C.Candidate.vector c.next.new.self.candidates in
    let new = c.next.new.self.cut in
    let ending = c.in-Ok-Found.ending in
    let found : Finds P upto cut v new ending = subst (λ (n : Next). Scans P upto cut v new n) c.in-Ok-Found.field-0-is (c.in-Ok-Found.ensures.found P runs) in
    let e = entry_at P v in
    let rest = left P upto new in
    let unspent = spent_as P v ending false found.ends (subst (λ (b : Bool). IsSpent ending b) c.if-is_spent.false c.is_spent.ensures) in
    let took = subst (λ (r : Ready). Took takes c.args.taker.now c.args.out.now (map f (rows_of done)) (map f (rows_at (mark_of (posed r.problem) v))) c.hand_entry.new.taker c.hand_entry.new.out (Err c.in-Err-hand_entry.halt)) inv.maker
    (c.in-Err-hand_entry.ensures.took c.args.taker.now c.args.out.now (map f (rows_of done)) taken) in
    halts es done (left P upto cut) c.loop-why.tried is takes f c.args.taker.now c.hand_entry.new.taker c.args.out.now c.hand_entry.new.out e rest found.entries unspent c.in-Err-hand_entry.halt took

pub returns-in-Ok-Full-clause-hands : goal.returns-in-Ok-Full-clause-hands
returns-in-Ok-Full-clause-hands g c =
    let P = posed c.args.maker.now.problem in
    let f = g.M.Making.made_of c.args.making.now in
    let takes = g.T.Taker.takes in
    let es = entries_in (At c.args.span.now.cut) c.args.span.now.upto (all_entries P) in
    let inv = c.loop-why.invariant in
    let cut = c.loop-why.span.cut in
    let upto = c.loop-why.span.upto in
    let done = inv.so_far.0 in
    let is = inv.so_far.1 in
    let taken = inv.so_far.2 in
    let runs = runs_along P (g.C.Slots.space c.args.span.now.candidates) (g.C.Slots.space c.loop-why.span.candidates) (g.C.Candidate.order c.args.span.now.candidates) (g.C.Candidate.order c.loop-why.span.candidates)
    (g.C.Candidate.ending c.args.span.now.candidates) (g.C.Candidate.ending c.loop-why.span.candidates) inv.space inv.order inv.ending c.requires.runs_on in
    let v = g.C.Candidate.vector c.next.new.self.candidates in
    let new = c.next.new.self.cut in
    let ending = c.in-Ok-Found.ending in
    let found : Finds P upto cut v new ending = subst (λ (n : Next). Scans P upto cut v new n) c.in-Ok-Found.field-0-is (c.in-Ok-Found.ensures.found P runs) in
    let e = entry_at P v in
    let rest = left P upto new in
    let unspent = spent_as P v ending false found.ends (subst (λ (b : Bool). IsSpent ending b) c.if-is_spent.false c.is_spent.ensures) in
    let took = subst (λ (r : Ready). Took takes c.args.taker.now c.args.out.now (map f (rows_of done)) (map f (rows_at (mark_of (posed r.problem) v))) c.hand_entry.new.taker c.hand_entry.new.out (Ok c.in-Ok-Full.field-0)) inv.maker
    (c.in-Ok-Full.ensures.took c.args.taker.now c.args.out.now (map f (rows_of done)) taken) in
    let full = subst (λ (room : Room). takes c.args.taker.now c.args.out.now (map f (rows_of done) ++ map f (rows_at (mark_of P v))) c.hand_entry.new.taker c.hand_entry.new.out (Some room)) c.in-Ok-Full.field-0-is took in
    ends_full es done (left P upto cut) c.loop-why.tried is takes f c.args.taker.now c.hand_entry.new.taker c.args.out.now c.hand_entry.new.out e rest found.entries unspent full

pub loop-why-preserved : goal.loop-why-preserved
loop-why-preserved g c =
    let P = posed c.args.maker.now.problem in
    let f = g.M.Making.made_of c.args.making.now in
    let takes = g.T.Taker.takes in
    let es = entries_in (At c.args.span.now.cut) c.args.span.now.upto (all_entries P) in
    let inv = c.loop-why.invariant in
    let cut = c.loop-why.span.cut in
    let upto = c.loop-why.span.upto in
    let done = inv.so_far.0 in
    let is = inv.so_far.1 in
    let taken = inv.so_far.2 in
    let runs = runs_along P (g.C.Slots.space c.args.span.now.candidates) (g.C.Slots.space c.loop-why.span.candidates) (g.C.Candidate.order c.args.span.now.candidates) (g.C.Candidate.order c.loop-why.span.candidates)
    (g.C.Candidate.ending c.args.span.now.candidates) (g.C.Candidate.ending c.loop-why.span.candidates) inv.space inv.order inv.ending c.requires.runs_on in
    let v = g.C.Candidate.vector c.next.new.self.candidates in
    let new = c.next.new.self.cut in
    let ending = c.in-Ok-Found.ending in
    let found : Finds P upto cut v new ending = subst (λ (n : Next). Scans P upto cut v new n) c.in-Ok-Found.field-0-is (c.in-Ok-Found.ensures.found P runs) in
    let e = entry_at P v in
    let rest = left P upto new in
    let unspent = spent_as P v ending false found.ends (subst (λ (b : Bool). IsSpent ending b) c.if-is_spent.false c.is_spent.ensures) in
    let took = subst (λ (r : Ready). Took takes c.args.taker.now c.args.out.now (map f (rows_of done)) (map f (rows_at (mark_of (posed r.problem) v))) c.hand_entry.new.taker c.hand_entry.new.out (Ok c.in-Ok-More.field-0)) inv.maker
    (c.in-Ok-More.ensures.took c.args.taker.now c.args.out.now (map f (rows_of done)) taken) in
    let more = subst (λ (room : Room). takes c.args.taker.now c.args.out.now (map f (rows_of done) ++ map f (rows_at (mark_of P v))) c.hand_entry.new.taker c.hand_entry.new.out (Some room)) c.in-Ok-More.field-0-is took in
    record {
      space = c.next.ensures.space ∙ inv.space;
      order = c.next.ensures.order ∙ inv.order;
      ending = c.next.ensures.ending ∙ inv.ending;
      upto = c.next.ensures.upto ∙ inv.upto;
      maker = c.hand_entry.ensures.maker ∙ inv.maker;
      so_far = (
        done ++ e ∷ [],
        subst (λ (b : Bound). IsWalked es (done ++ e ∷ []) (left P b new) c.one_more-tried.result) (sym c.next.ensures.upto) (one_more es done (left P upto cut) c.loop-why.tried is e rest c.one_more-tried.result found.entries unspent c.one_more-tried.ensures),
        goes_on es done (left P upto cut) c.loop-why.tried is takes f c.args.taker.now c.hand_entry.new.taker c.args.out.now c.hand_entry.new.out e rest found.entries unspent more,
        omega (arith, inv.so_far.3, c.in-Ok-Found.ensures.runs, length-more done e),
      );
    }

pub returns-in-Ok-End-clause-runs : goal.returns-in-Ok-End-clause-runs
returns-in-Ok-End-clause-runs g c =
    let P = posed c.args.maker.now.problem in
    let es = entries_in (At c.args.span.now.cut) c.args.span.now.upto (all_entries P) in
    let inv = c.loop-why.invariant.so_far in
    runs_in es inv.0 (left P c.loop-why.span.upto c.loop-why.span.cut) c.loop-why.tried inv.1 c.args.runs.now c.loop-why.runs c.next.new.runs inv.3 c.in-Ok-End.ensures.runs

pub returns-then-is_spent-clause-runs : goal.returns-then-is_spent-clause-runs
returns-then-is_spent-clause-runs g c =
    let P = posed c.args.maker.now.problem in
    let es = entries_in (At c.args.span.now.cut) c.args.span.now.upto (all_entries P) in
    let inv = c.loop-why.invariant.so_far in
    if_ok c.spent_at.result _ (runs_in es inv.0 (left P c.loop-why.span.upto c.loop-why.span.cut) c.loop-why.tried inv.1 c.args.runs.now c.loop-why.runs c.next.new.runs inv.3 c.in-Ok-Found.ensures.runs)

pub returns-in-Ok-Full-clause-runs : goal.returns-in-Ok-Full-clause-runs
returns-in-Ok-Full-clause-runs g c =
    let P = posed c.args.maker.now.problem in
    let es = entries_in (At c.args.span.now.cut) c.args.span.now.upto (all_entries P) in
    let inv = c.loop-why.invariant.so_far in
    runs_in es inv.0 (left P c.loop-why.span.upto c.loop-why.span.cut) c.loop-why.tried inv.1 c.args.runs.now c.loop-why.runs c.next.new.runs inv.3 c.in-Ok-Found.ensures.runs

pub returns-then-is_spent-clause-full : goal.returns-then-is_spent-clause-full
returns-then-is_spent-clause-full g c = spent_fills_nothing c.one_more-tried.result c.cut.result.now c.spent_at.result _ c.spent_at.ensures

pub returns-in-Ok-Full-clause-full : goal.returns-in-Ok-Full-clause-full
returns-in-Ok-Full-clause-full g c =
    let P = posed c.args.maker.now.problem in
    let f = g.M.Making.made_of c.args.making.now in
    let takes = g.T.Taker.takes in
    let es = entries_in (At c.args.span.now.cut) c.args.span.now.upto (all_entries P) in
    let inv = c.loop-why.invariant in
    let cut = c.loop-why.span.cut in
    let upto = c.loop-why.span.upto in
    let done = inv.so_far.0 in
    let runs = runs_along P (g.C.Slots.space c.args.span.now.candidates) (g.C.Slots.space c.loop-why.span.candidates) (g.C.Candidate.order c.args.span.now.candidates) (g.C.Candidate.order c.loop-why.span.candidates)
    (g.C.Candidate.ending c.args.span.now.candidates) (g.C.Candidate.ending c.loop-why.span.candidates) inv.space inv.order inv.ending c.requires.runs_on in
    let v = g.C.Candidate.vector c.next.new.self.candidates in
    let new = c.next.new.self.cut in
    let ending = c.in-Ok-Found.ending in
    let found : Finds P upto cut v new ending = subst (λ (n : Next). Scans P upto cut v new n) c.in-Ok-Found.field-0-is (c.in-Ok-Found.ensures.found P runs) in
    let unspent = spent_as P v ending false found.ends (subst (λ (b : Bool). IsSpent ending b) c.if-is_spent.false c.is_spent.ensures) in
    stops_when_full es done (left P upto cut) c.loop-why.tried inv.so_far.1 takes f c.args.taker.now c.hand_entry.new.taker c.args.out.now c.hand_entry.new.out (entry_at P v) (left P upto new) found.entries unspent c.loop-why.taker c.loop-why.out c.args.runs.now c.loop-why.runs c.next.new.runs inv.so_far.2 inv.so_far.3 c.in-Ok-Found.ensures.runs
