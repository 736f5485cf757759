use Rattle.std.proofs.Common.{◌∙◌}
use Rattle.kr_base.specs.declared.span.Bound.TheVariants.{At}
use Rattle.kr_survey.specs.Joins.{joined, lists}
use Rattle.kr_deque.proofs.Chains.{covers}
use Rattle.kr_deque.proofs.Worked.{later_hands, later_settled, later_sound, later_given, given_lists, each_joined}
use Rattle.kr_deque.proofs.listing.pieces_of.Goals as goal

pub gather-requires : goal.gather-requires
gather-requires g c = later_hands (g.S.Survey.all c.args.survey.now) c.in_ok-work.work c.in_ok-work.hands c.as_mut_slice.result.now c.work_all.new.hands c.in_ok-work.ensures.hands c.in_ok-work.ensures.fresh c.as_mut_slice.ensures.value c.work_all.ensures

pub scan_left-requires-after_bounds : goal.scan_left-requires-after_bounds
scan_left-requires-after_bounds g c κs within =
    let sound = later_sound (g.S.Survey.all c.args.survey.now) c.in_ok-work.work c.in_ok-work.hands c.as_mut_slice.result.now c.work_all.new.hands c.in_ok-work.ensures.hands c.in_ok-work.ensures.fresh c.as_mut_slice.ensures.value c.work_all.ensures in
    (c.in_ok-pieces.ensures.sound (g.S.Survey.all c.args.survey.now) sound).left_ahead

pub returns-in-Ok-clause-ahead : goal.returns-in-Ok-clause-ahead
returns-in-Ok-clause-ahead g c =
    let sound = later_sound (g.S.Survey.all c.args.survey.now) c.in_ok-work.work c.in_ok-work.hands c.as_mut_slice.result.now c.work_all.new.hands c.in_ok-work.ensures.hands c.in_ok-work.ensures.fresh c.as_mut_slice.ensures.value c.work_all.ensures in
    c.in-Ok.ensures.ahead (c.in_ok-pieces.ensures.sound (g.S.Survey.all c.args.survey.now) sound).ahead

pub returns-in-Ok-clause-honest : goal.returns-in-Ok-clause-honest
returns-in-Ok-clause-honest g c =
    let sound = later_sound (g.S.Survey.all c.args.survey.now) c.in_ok-work.work c.in_ok-work.hands c.as_mut_slice.result.now c.work_all.new.hands c.in_ok-work.ensures.hands c.in_ok-work.ensures.fresh c.as_mut_slice.ensures.value c.work_all.ensures in
    c.in-Ok.ensures.honest (c.in_ok-pieces.ensures.sound (g.S.Survey.all c.args.survey.now) sound).honest

pub returns-in-Ok-clause-parts : goal.returns-in-Ok-clause-parts
returns-in-Ok-clause-parts g c = λ key.
    let settled = later_settled (g.S.Survey.all c.args.survey.now) c.in_ok-work.work c.in_ok-work.hands c.as_mut_slice.result.now c.work_all.new.hands c.in_ok-work.ensures.hands c.in_ok-work.ensures.fresh c.as_mut_slice.ensures.value c.work_all.ensures in
    let same = later_given (g.S.Survey.all c.args.survey.now) c.in_ok-work.work c.in_ok-work.hands c.as_mut_slice.result.now c.work_all.new.hands c.in_ok-work.ensures.hands c.in_ok-work.ensures.fresh c.as_mut_slice.ensures.value c.work_all.ensures key in
    let spans = c.in_ok-spans.spans.items in
    let given = given_lists key c.in_ok-work.hands.items (lists spans) c.in_ok-work.ensures.given in
    let within = covers (At c.args.span.now.after) c.args.span.now.upto (joined (lists spans)) key (each_joined spans c.in_ok-spans.ensures.ahead) c.in_ok-spans.ensures.parts in
    c.in-Ok.ensures.cover key ∙ (c.in_ok-pieces.ensures.parts settled key ∙ (same ∙ (given ∙ within)))
