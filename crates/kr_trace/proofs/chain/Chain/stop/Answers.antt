use Rattle.std.proofs.Common.{◌∙◌, ap, sym}
use Rattle.kr_trace.proofs.Views.{first_found, stop_none, stop_some}
use Rattle.kr_trace.proofs.chain.Chain.stop.Goals as goal

pub drop_after-requires : goal.drop_after-requires
drop_after-requires c = first_found c.end_first.new.self.segments c.in-Some.at (sym c.in-Some.ensures)

pub returns-in-Some-clause-segments : goal.returns-in-Some-clause-segments
returns-in-Some-clause-segments c =
    c.drop_after.ensures.segments ∙ stop_some c.args.mark c.in-Some.at c.args.self.now.segments c.end_first.new.self.segments c.end_first.ensures.segments (sym c.in-Some.ensures)

pub returns-in_default-clause-segments : goal.returns-in_default-clause-segments
returns-in_default-clause-segments c = stop_none c.args.mark c.args.self.now.segments c.end_first.new.self.segments c.end_first.ensures.segments (sym c.in_default.ensures)
