use Rattle.kr_deque_hands.proofs.working.scan_on.Goals as goal

pub returns-in-Err-clause-works : goal.returns-in-Err-clause-works
returns-in-Err-clause-works g c = c.leave.ensures.works (g.S.Survey.all c.args.survey.now)
