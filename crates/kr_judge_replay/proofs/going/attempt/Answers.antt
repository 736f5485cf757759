use Rattle.std.proofs.Common.{[], ◌∷◌, List, sym, subst}
use Rattle.std.specs.Prelude.{IfSome, Option, map}
use Rattle.std.specs.List.{All}
use Rattle.kr_mean.specs.Code.{Node}
use Rattle.kr_mean.specs.Places.{This}
use Rattle.kr_mean.specs.Runs.{conditions, end_on, hold_all, start}
use Rattle.kr_mean.specs.Steps.{State}
use Rattle.kr_space_layout.specs.Bounds.{bare, problem_with}
use Rattle.kr_judge.specs.Judged.{MeansAs}
use Rattle.kr_judge.proofs.Ends.{ran}
use Rattle.kr_judge.proofs.Holding.{means}
use Rattle.kr_judge.proofs.Programs.{start_same}
use Rattle.kr_judge.specs.Follows.{place_in}
use Rattle.kr_judge_replay.proofs.Steps.{reads_of, settled, stays_same}
use Rattle.kr_judge_replay.specs.declared.going.Went.{Went}
use Rattle.kr_judge_replay.specs.Foretelling.{IsForetold}
use Rattle.kr_judge_replay.specs.Kept.{Kept, Shares}
use Rattle.kr_judge_replay.proofs.Told.{ends_as, gone_told, is_run_to, share_still}
use Rattle.kr_judge_replay.proofs.going.attempt.Goals as goal

pub returns-clause-ends : goal.returns-clause-ends
unfolding end_on
returns-clause-ends c = λ program n p.
    let b = c.args.input.layout.now in
    let v = c.args.input.vector.now in
    let code = c.args.input.predicate.now.code in
    let is = c.args.input.predicate.now.conditions.items in
    let w = c.go_on-answer.new.world in
    let answer = c.go_on-answer.result in
    let begun = means code answer w (This ∷ []) is (start (bare b) v) c.go_on-answer.ensures.means program n p.code in
    let same = subst (λ (s : State). MeansAs answer w (This ∷ []) (hold_all program (map n.origin is) s)) (start_same program b v) begun in
    let whole = subst (λ (es : List Node). MeansAs answer w (This ∷ []) (hold_all program es (start (problem_with program b) v))) p.conditions same in
    let r = ran answer c.in_ok-end.end w (hold_all program (conditions (problem_with program b)) (start (problem_with program b) v)) c.in_ok-end.ensures whole in
    (r.0, r.1)

pub stand-requires-clause-kept : goal.stand-requires-clause-kept
stand-requires-clause-kept c =
    let b = c.args.input.layout.now in
    let p = c.args.input.predicate.now in
    let v = c.args.input.vector.now in
    let s = settled b p c.args.known.now v c.requires.well c.requires.vector c.args.last.is_known c.args.last.fresh c.args.last.accesses.now c.args.checks.now c.settle.new.checks c.args.world.now c.requires.follow
    c.requires.last c.requires.alike c.settle.ensures.front c.settle.ensures.known c.settle.ensures.fresh c.settle.ensures.held in
    subst (All (Kept b p v)) (sym c.in_ok-went.ensures.same) s.kept

pub stand-requires-clause-shared : goal.stand-requires-clause-shared
stand-requires-clause-shared c =
    let b = c.args.input.layout.now in
    let p = c.args.input.predicate.now in
    let v = c.args.input.vector.now in
    let s = settled b p c.args.known.now v c.requires.well c.requires.vector c.args.last.is_known c.args.last.fresh c.args.last.accesses.now c.args.checks.now c.settle.new.checks c.args.world.now c.requires.follow
    c.requires.last c.requires.alike c.settle.ensures.front c.settle.ensures.known c.settle.ensures.fresh c.settle.ensures.held in
    subst (All (Shares b p v c.foretell.new.world.reads)) (sym c.in_ok-went.ensures.same)
    (share_still b p v c.settle.new.checks c.args.world.now.reads c.foretell.new.world.reads s.kept s.with_reads c.in_ok-went.ensures.reads)

pub returns-in-Some-clause-ends : goal.returns-in-Some-clause-ends
returns-in-Some-clause-ends c =
    let b = c.args.input.layout.now in
    let p = c.args.input.predicate.now in
    let v = c.args.input.vector.now in
    let checks = c.settle.new.checks in
    let before = record c.args.world.now { candidates = c.refresh.new.heap } in
    let after = c.foretell.new.world in
    let s = settled b p c.args.known.now v c.requires.well c.requires.vector c.args.last.is_known c.args.last.fresh c.args.last.accesses.now c.args.checks.now c.settle.new.checks c.args.world.now c.requires.follow
    c.requires.last c.requires.alike c.settle.ensures.front c.settle.ensures.known c.settle.ensures.fresh c.settle.ensures.held in
    let told = subst (λ (found : Option Went). IfSome found (λ went. IsForetold p checks before after went)) c.in-Some.is c.in_ok-went.ensures.foretold in
    is_run_to b p v c.in-Some.went.end after.reads (ends_as b p v checks before after c.in-Some.went c.requires.vector c.in_ok-refresh.ensures.heap s.kept s.with_reads told)

pub returns-in-Some-clause-went : goal.returns-in-Some-clause-went
returns-in-Some-clause-went c =
    let b = c.args.input.layout.now in
    let p = c.args.input.predicate.now in
    let v = c.args.input.vector.now in
    let checks = c.settle.new.checks in
    let before = record c.args.world.now { candidates = c.refresh.new.heap } in
    let after = c.foretell.new.world in
    let s = settled b p c.args.known.now v c.requires.well c.requires.vector c.args.last.is_known c.args.last.fresh c.args.last.accesses.now c.args.checks.now c.settle.new.checks c.args.world.now c.requires.follow
    c.requires.last c.requires.alike c.settle.ensures.front c.settle.ensures.known c.settle.ensures.fresh c.settle.ensures.held in
    let told = subst (λ (found : Option Went). IfSome found (λ went. IsForetold p checks before after went)) c.in-Some.is c.in_ok-went.ensures.foretold in
    gone_told b p v checks c.foretell.new.checks before after c.in-Some.went c.refresh.new.known c.args.last.accesses.now c.requires.vector c.in_ok-refresh.ensures.built c.in_ok-refresh.ensures.heap c.in_ok-went.ensures.candidates c.in_ok-went.ensures.same s told

pub returns-clause-went : goal.returns-clause-went
returns-clause-went c =
    let b = c.args.input.layout.now in
    let p = c.args.input.predicate.now in
    let v = c.args.input.vector.now in
    let answer = c.go_on-answer.result in
    let w = c.go_on-answer.new.world in
    let s = settled b p c.args.known.now v c.requires.well c.requires.vector c.args.last.is_known c.args.last.fresh c.args.last.accesses.now c.args.checks.now c.settle.new.checks c.args.world.now c.requires.follow
    c.requires.last c.requires.alike c.settle.ensures.front c.settle.ensures.known c.settle.ensures.fresh c.settle.ensures.held in
    let places = map place_in c.args.last.accesses.now.places.items in
    record {
      known_is = c.in_ok-refresh.ensures.built;
      heap = c.in_ok-restore.ensures;
      kept = c.go_on-answer.ensures.kept;
      reads = reads_of b p v answer c.in_ok-end.end w c.in_ok-end.ensures c.go_on-answer.ensures.means;
      shared = c.in_ok-start.ensures.shared places (subst (All (Shares b p v places)) (sym c.in_ok-went.ensures.same) s.with_places);
    }

pub go_on-answer-requires-clause-kept : goal.go_on-answer-requires-clause-kept
go_on-answer-requires-clause-kept c =
    let b = c.args.input.layout.now in
    let p = c.args.input.predicate.now in
    let v = c.args.input.vector.now in
    let s = settled b p c.args.known.now v c.requires.well c.requires.vector c.args.last.is_known c.args.last.fresh c.args.last.accesses.now c.args.checks.now c.settle.new.checks c.args.world.now c.requires.follow
    c.requires.last c.requires.alike c.settle.ensures.front c.settle.ensures.known c.settle.ensures.fresh c.settle.ensures.held in
    subst (All (Kept b p v)) (sym c.in_ok-went.ensures.same) s.kept

pub restore-requires-clause-unwritten : goal.restore-requires-clause-unwritten
restore-requires-clause-unwritten c =
    stays_same c.args.input.layout.now c.args.input.predicate.now c.args.input.vector.now c.go_on-answer.result c.in_ok-end.end c.go_on-answer.new.world c.in_ok-end.ensures c.go_on-answer.ensures.stays
