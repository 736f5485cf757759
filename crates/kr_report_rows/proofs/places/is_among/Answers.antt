use Rattle.kr_report_rows.proofs.Past.{is_past, none_past}
use Rattle.kr_report_rows.proofs.places.is_among.Goals as goal

pub returns-then-past-count : goal.returns-then-past-count
returns-then-past-count c =
    is_past c.args.slot c.args.first c.args.count c.from.result c.from-2.result c.ranges.slot.fits c.ranges.first.fits c.requires c.from.ensures c.from-2.ensures c.if-past-count.true

pub returns : goal.returns
returns c = λ behind near. none_past c.args.slot c.args.first c.args.count c.from.result c.from-2.result c.ranges.slot.fits c.from.ensures c.from-2.ensures c.if-past-count.false behind near
