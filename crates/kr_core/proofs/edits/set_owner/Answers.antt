use Rattle.std.proofs.Common.{◌≡◌, ◌<◌, ◌∙◌, ap, sym, subst, List, length, None, ◌∷◌}
use Rattle.kr_core.specs.States.{place_of, segment_of}
use Rattle.kr_core.specs.Steps.{owned}
use Rattle.kr_core.specs.declared.segment.Segment.{Segment}
use Rattle.kr_core.proofs.Places.{slice_write, change_none}
use Rattle.kr_core.proofs.edits.set_owner.Goals as goal

pub returns-in-Some : goal.returns-in-Some
returns-in-Some c =
    let ss = c.args.segments.now.items in
    let same = c.as_slice.ensures.value in
    let at : c.in-Some.i ≡ place_of c.args.number ss = c.in-Some.ensures.some.0 ∙ ap (place_of c.args.number) same in
    let within : c.in-Some.i < length ss = subst (λ (xs : List Segment). c.in-Some.i < length xs) same c.in-Some.ensures.some.1 in
    slice_write c.args.number c.in-Some.i ss (owned c.args.owner) c.index_mut.result.now at within c.index_mut.ensures.value

pub returns-in_default : goal.returns-in_default
returns-in_default c =
    let none : segment_of c.args.number c.args.segments.now.items ≡ None = ap (segment_of c.args.number) (sym c.as_slice.ensures.value) ∙ c.in_default.ensures.none in
    sym (change_none c.args.number c.args.segments.now.items (λ s rest. owned c.args.owner s ∷ rest) none)
