use Rattle.std.proofs.Common.{List, ◌∙◌, ap, refl, true}
use Rattle.std.specs.Prelude.{is_some}
use Rattle.kr_core.specs.States.{segment_of}
use Rattle.kr_core.specs.Steps.{scanned}
use Rattle.kr_core.specs.declared.segment.Segment.{Segment}
use Rattle.kr_trace.proofs.Views.{cut_after, cut_changed, found_changed}
use Rattle.kr_trace.proofs.chain.Chain.cut_off.Goals as goal

pub drop_after-requires : goal.drop_after-requires
drop_after-requires c =
    ap (λ (ss : List Segment). is_some (segment_of c.args.number ss)) c.end_at.ensures.segments
    ∙ (found_changed c.args.number (scanned c.args.reach c.args.rows c.args.tried true) c.args.self.now.segments (λ t. refl) ∙ c.requires.found)

pub returns-clause-segments : goal.returns-clause-segments
returns-clause-segments c =
    c.drop_after.ensures.segments
    ∙ (ap (cut_after c.args.number) c.end_at.ensures.segments ∙ cut_changed c.args.number (scanned c.args.reach c.args.rows c.args.tried true) c.args.self.now.segments (λ t. refl))
