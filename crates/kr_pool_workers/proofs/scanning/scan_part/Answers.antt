use Rattle.kr_pool_workers.proofs.Scanned.{scanned, scanned_few, scanned_runs, scanned_short}
use Rattle.kr_pool_workers.proofs.scanning.scan_part.Goals as goal

pub returns-clause-part : goal.returns-clause-part
returns-clause-part g c =
    scanned (g.S.Survey.all c.args.survey.now) c.args.lease.now.mark c.args.lease.now.upto c.args.most c.scan_with.result c.part_law.ensures c.ascends.ensures c.requires.ahead c.requires.most c.ranges.most.fits
    c.scan_with.ensures.part

pub returns-clause-few : goal.returns-clause-few
returns-clause-few g c = scanned_few (g.S.Survey.all c.args.survey.now) c.args.lease.now.mark c.args.lease.now.upto c.args.most c.scan_with.result c.scan_with.ensures.part

pub returns-clause-runs : goal.returns-clause-runs
returns-clause-runs g c = scanned_runs c.args.lease.now c.args.runs.now c.scan_with.new.runs c.scan_with.result c.scan_with.ensures.runs

pub returns-clause-short : goal.returns-clause-short
returns-clause-short g c = scanned_short (g.S.Survey.all c.args.survey.now) c.args.lease.now.mark c.args.lease.now.upto c.args.most c.scan_with.result c.scan_with.ensures.part
