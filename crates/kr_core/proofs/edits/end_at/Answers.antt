use Rattle.std.proofs.Common.{◌≡◌, ◌<◌, ◌∙◌, ap, sym, subst, List, length, None, true, [], ◌∷◌}
use Rattle.kr_core.specs.States.{place_of, segment_of}
use Rattle.kr_core.specs.Steps.{scanned}
use Rattle.kr_core.specs.declared.segment.Segment.{Segment}
use Rattle.kr_core.proofs.Places.{cut_write_as, change_none}
use Rattle.kr_core.proofs.edits.end_at.Goals as goal

pub returns-in-Some : goal.returns-in-Some
returns-in-Some c =
    let ss = c.args.segments.now.items in
    let same = c.as_slice.ensures.value in
    let at : c.in-Some.i ≡ place_of c.args.number ss = c.in-Some.ensures.some.0 ∙ ap (place_of c.args.number) same in
    let within : c.in-Some.i < length ss = subst (λ (xs : List Segment). c.in-Some.i < length xs) same c.in-Some.ensures.some.1 in
    cut_write_as c.args.number c.in-Some.i ss c.truncate.new.self.items (scanned c.args.reach c.args.rows c.args.tried true) c.index_mut-segment.result.now _ at within c.truncate.ensures.items c.index_mut-segment.ensures.value (λ i. record { number = c.index_mut-segment.result.now.number; after = c.index_mut-segment.result.now.after; mark = c.args.reach; upto = c.requires i; owner = None; rows = c.saturating_add-segment.ensures i; tried = c.saturating_add-segment-in-Some.ensures i })

pub returns-in_default : goal.returns-in_default
returns-in_default c =
    let none : segment_of c.args.number c.args.segments.now.items ≡ None = ap (segment_of c.args.number) (sym c.as_slice.ensures.value) ∙ c.in_default.ensures.none in
    sym (change_none c.args.number c.args.segments.now.items (λ s rest. scanned c.args.reach c.args.rows c.args.tried true s ∷ []) none)
