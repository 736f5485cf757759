use Rattle.std.proofs.Common.{◌≡◌, ◌+◌, ◌<◌, ℕ, List, [], ◌∷◌, ◌++◌, Bool, true, false, refl, sym, ap, ◌∙◌, subst, arith}
use Rattle.kr_base.specs.declared.entry.Entry.{Entry}
use Rattle.kr_base.specs.declared.span.Bound.{Bound}
use Rattle.kr_base.specs.Entries.{is_spent}
use Rattle.kr_mean.specs.Entries.{all_entries, mark_of}
use Rattle.kr_mean.specs.declared.row.Row.{Row}
use Rattle.kr_step.specs.declared.stage.Next.{Next}
use Rattle.kr_step.specs.Scans.{Scans, Finds, left, entry_at}
use Rattle.kr_judge_prepared.specs.Preparing.{Ready}
use Rattle.kr_space_problem.specs.Posed.{posed}
use Rattle.kr_survey.specs.Scans.{row_of as rows_at}
use Rattle.kr_scan.specs.Stops.{IsSpent}
use Rattle.kr_scan.proofs.Gathering.{IsFront, at_start, one_more, ended, at_spent, at_full, runs_along}
use Rattle.kr_scan.proofs.Marks.{spent_as}
use Rattle.kr_scan.proofs.batch.gather.Goals as goal

pub loop-why-init : goal.loop-why-init
loop-why-init g c =
    let P = posed c.args.maker.now.problem in
    record {
      space = refl;
      order = refl;
      ending = refl;
      upto = refl;
      maker = refl;
      counted = omega arith;
      low = omega (arith, c.requires.none, c.requires.some);
      front = ([], at_start (all_entries P) c.args.span.now.cut c.args.span.now.upto c.args.most c.args.rows.now.items c.args.tried.now c.requires.no_rows c.requires.none c.requires.some);
    }

pub returns-in-Ok-End-clause-gathered : goal.returns-in-Ok-End-clause-gathered
returns-in-Ok-End-clause-gathered g c =
    let P = posed c.args.maker.now.problem in
    let all = all_entries P in
    let inv = c.loop-why.invariant in
    let cut = c.loop-why.span.cut in
    let upto = c.loop-why.span.upto in
    let done = inv.front.0 in
    let is = inv.front.1 in
    let runs = runs_along P (g.C.Slots.space c.args.span.now.candidates) (g.C.Slots.space c.loop-why.span.candidates) (g.C.Candidate.order c.args.span.now.candidates) (g.C.Candidate.order c.loop-why.span.candidates)
    (g.C.Candidate.ending c.args.span.now.candidates) (g.C.Candidate.ending c.loop-why.span.candidates) inv.space inv.order inv.ending c.requires.runs_on in
    let v = g.C.Candidate.vector c.next.new.self.candidates in
    let new = c.next.new.self.cut in
    let none = subst (λ (n : Next). Scans P upto cut v new n) c.in-Ok-End.field-0-is (c.in-Ok-End.ensures.found P runs) in
    ended all c.args.span.now.cut c.args.span.now.upto c.args.most done [] (left P upto cut) c.loop-why.rows.items c.loop-why.tried is new none.0

pub returns-then-is_spent-clause-gathered : goal.returns-then-is_spent-clause-gathered
returns-then-is_spent-clause-gathered g c =
    let P = posed c.args.maker.now.problem in
    let all = all_entries P in
    let inv = c.loop-why.invariant in
    let cut = c.loop-why.span.cut in
    let upto = c.loop-why.span.upto in
    let done = inv.front.0 in
    let is = inv.front.1 in
    let runs = runs_along P (g.C.Slots.space c.args.span.now.candidates) (g.C.Slots.space c.loop-why.span.candidates) (g.C.Candidate.order c.args.span.now.candidates) (g.C.Candidate.order c.loop-why.span.candidates)
    (g.C.Candidate.ending c.args.span.now.candidates) (g.C.Candidate.ending c.loop-why.span.candidates) inv.space inv.order inv.ending c.requires.runs_on in
    let v = g.C.Candidate.vector c.next.new.self.candidates in
    let new = c.next.new.self.cut in
    let ending = c.in-Ok-Found.ending in
    let found : Finds P upto cut v new ending = subst (λ (n : Next). Scans P upto cut v new n) c.in-Ok-Found.field-0-is (c.in-Ok-Found.ensures.found P runs) in
    let e = entry_at P v in
    let rest = left P upto new in
    let rows = subst (λ (r : Ready). c.add_row.new.rows.items ≡ c.loop-why.rows.items ++ rows_at (mark_of (posed r.problem) v)) inv.maker c.in_ok-add_row.ensures.rows in
    let spent = spent_as P v ending true found.ends (subst (λ (b : Bool). IsSpent ending b) c.if-is_spent.true c.is_spent.ensures) in
    at_spent all c.args.span.now.cut c.args.span.now.upto c.args.most done rest (left P upto cut) c.loop-why.rows.items c.loop-why.tried is e new c.add_row.new.rows.items found.entries spent found.key rows

pub returns-then-tried-most-clause-gathered : goal.returns-then-tried-most-clause-gathered
returns-then-tried-most-clause-gathered g c =
    let P = posed c.args.maker.now.problem in
    let all = all_entries P in
    let inv = c.loop-why.invariant in
    let cut = c.loop-why.span.cut in
    let upto = c.loop-why.span.upto in
    let done = inv.front.0 in
    let is = inv.front.1 in
    let runs = runs_along P (g.C.Slots.space c.args.span.now.candidates) (g.C.Slots.space c.loop-why.span.candidates) (g.C.Candidate.order c.args.span.now.candidates) (g.C.Candidate.order c.loop-why.span.candidates)
    (g.C.Candidate.ending c.args.span.now.candidates) (g.C.Candidate.ending c.loop-why.span.candidates) inv.space inv.order inv.ending c.requires.runs_on in
    let v = g.C.Candidate.vector c.next.new.self.candidates in
    let new = c.next.new.self.cut in
    let ending = c.in-Ok-Found.ending in
    let found : Finds P upto cut v new ending = subst (λ (n : Next). Scans P upto cut v new n) c.in-Ok-Found.field-0-is (c.in-Ok-Found.ensures.found P runs) in
    let e = entry_at P v in
    let rest = left P upto new in
    let rows = subst (λ (r : Ready). c.add_row.new.rows.items ≡ c.loop-why.rows.items ++ rows_at (mark_of (posed r.problem) v)) inv.maker c.in_ok-add_row.ensures.rows in
    let unspent = spent_as P v ending false found.ends (subst (λ (b : Bool). IsSpent ending b) c.if-is_spent.false c.is_spent.ensures) in
    at_full all c.args.span.now.cut c.args.span.now.upto c.args.most done rest (left P upto cut) c.loop-why.rows.items c.loop-why.tried is e new c.add_row.new.rows.items found.entries unspent c.if-tried-most.true found.key rows

pub loop-why-preserved : goal.loop-why-preserved
loop-why-preserved g c =
    let P = posed c.args.maker.now.problem in
    let all = all_entries P in
    let inv = c.loop-why.invariant in
    let cut = c.loop-why.span.cut in
    let upto = c.loop-why.span.upto in
    let done = inv.front.0 in
    let is = inv.front.1 in
    let runs = runs_along P (g.C.Slots.space c.args.span.now.candidates) (g.C.Slots.space c.loop-why.span.candidates) (g.C.Candidate.order c.args.span.now.candidates) (g.C.Candidate.order c.loop-why.span.candidates)
    (g.C.Candidate.ending c.args.span.now.candidates) (g.C.Candidate.ending c.loop-why.span.candidates) inv.space inv.order inv.ending c.requires.runs_on in
    let v = g.C.Candidate.vector c.next.new.self.candidates in
    let new = c.next.new.self.cut in
    let ending = c.in-Ok-Found.ending in
    let found : Finds P upto cut v new ending = subst (λ (n : Next). Scans P upto cut v new n) c.in-Ok-Found.field-0-is (c.in-Ok-Found.ensures.found P runs) in
    let e = entry_at P v in
    let rest = left P upto new in
    let rows = subst (λ (r : Ready). c.add_row.new.rows.items ≡ c.loop-why.rows.items ++ rows_at (mark_of (posed r.problem) v)) inv.maker c.in_ok-add_row.ensures.rows in
    let unspent = spent_as P v ending false found.ends (subst (λ (b : Bool). IsSpent ending b) c.if-is_spent.false c.is_spent.ensures) in
    let low : c.loop-why.tried + 1 < c.args.most = omega (arith, inv.low, c.if-tried-most.false) in
    let more = one_more all c.args.span.now.cut c.args.span.now.upto c.args.most done rest (left P upto cut) c.loop-why.rows.items c.loop-why.tried is e c.add_row.new.rows.items found.entries unspent rows low in
    record {
      space = c.next.ensures.space ∙ inv.space;
      order = c.next.ensures.order ∙ inv.order;
      ending = c.next.ensures.ending ∙ inv.ending;
      upto = c.next.ensures.upto ∙ inv.upto;
      maker = c.add_row.ensures.maker ∙ inv.maker;
      counted = omega (arith, inv.counted, c.in-Ok-Found.ensures.runs);
      low = low;
      front = (
        done ++ e ∷ [],
        subst (λ (b : Bound). IsFront all c.args.span.now.cut c.args.span.now.upto c.args.most (done ++ e ∷ []) (left P b new) c.add_row.new.rows.items (c.loop-why.tried + 1)) (sym c.next.ensures.upto) more,
      );
    }
