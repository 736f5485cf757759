use Rattle.std.proofs.Common.{ap, arith, ◌∙◌}
use Rattle.kr_space_problem.specs.Posed.{posed}
use Rattle.kr_emit.proofs.Answered.{builders_in, ends_built}
use Rattle.kr_emit.proofs.Numbered.{fresh_builders}
use Rattle.kr_emit.proofs.listing.build_alone.Goals as goal

pub walk-put-requires : goal.walk-put-requires
walk-put-requires g c = let w = c.new-writer.ensures in fresh_builders g.K.Sink.taken g.K.Sink.faults c.new-writer.result c.args.out.now w.valid w.failing w.last w.count (omega (arith, w.limit, c.ranges.limit.fits))

pub returns : goal.returns
returns g c =
    let builders = c.new-builders.result in
    let is = c.new-builders.ensures in
    let w = c.new-writer.result in
    ends_built g.K.Sink.taken g.K.Sink.faults (posed c.args.prepared.now.problem) (posed builders.making) (posed builders.survey) c.args.limit w.lines.limit c.args.span c.args.out.now c.close.new.out c.close.result
    (ap posed (is.making ∙ c.new-making.ensures)) (ap posed (is.survey ∙ c.new-scan.ensures)) c.new-writer.ensures.limit c.mapped_law.ensures
    (c.close.ensures w c.args.out.now (builders_in (posed builders.making) (posed builders.survey) c.args.span) c.walk-put.ensures.hands)
