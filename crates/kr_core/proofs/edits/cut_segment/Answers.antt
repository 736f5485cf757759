use Rattle.std.proofs.Common.{◌≡◌, ◌<◌, ◌+◌, ◌∙◌, ap, sym, subst, refl, List, length, set, insert, None, Some, ◌∷◌}
use Rattle.kr_core.specs.States.{place_of, segment_of}
use Rattle.kr_core.specs.Steps.{lowered, stolen}
use Rattle.kr_base.specs.declared.span.Bound.TheVariants.{At}
use Rattle.kr_core.specs.declared.segment.Segment.{Segment}
use Rattle.kr_core.proofs.Places.{change_none, split_write, inserted}
use Rattle.kr_core.proofs.edits.cut_segment.Goals as goal

pub returns-in-Some : goal.returns-in-Some
returns-in-Some c =
    let ss = c.args.segments.now.items in
    let same = c.as_slice.ensures.value in
    let at : c.in-Some.i ≡ place_of c.args.victim ss = c.in-Some.ensures.some.0 ∙ ap (place_of c.args.victim) same in
    let within : c.in-Some.i < length ss = subst (λ (xs : List Segment). c.in-Some.i < length xs) same c.in-Some.ensures.some.1 in
    let s = c.index_mut.result.now in
    let r = c.replace-upto.ensures in
    let a = c.requires.same in
    let w : Segment = record { number = s.number; after = s.after; mark = s.mark; upto = c.replace-upto.new.dest; owner = s.owner; rows = s.rows; tried = s.tried } in
    let x : Segment = record { number = c.args.number; after = At c.args.after; mark = At c.args.mark; upto = c.replace-upto.result; owner = Some c.args.seat; rows = 0; tried = 0 } in
    let wf : w ≡ lowered c.args.cut s = λ j. record { number = s.number; after = s.after; mark = s.mark; upto = r.after j; owner = s.owner; rows = s.rows; tried = s.tried } in
    let xg : x ≡ stolen c.args.seat c.args.cut c.args.number s = λ j. record { number = c.args.number; after = At (a.0 j); mark = At (a.1 j); upto = r.value j; owner = Some c.args.seat; rows = 0; tried = 0 } in
    split_write c.args.victim c.in-Some.i ss (set ss c.in-Some.i w) c.insert.new.self.items (lowered c.args.cut) (stolen c.args.seat c.args.cut c.args.number) s w x at within c.index_mut.ensures.value wf xg refl
    (inserted c.insert.result c.insert.new.self.items (insert (set ss c.in-Some.i w) (c.in-Some.i + 1) x) (set ss c.in-Some.i w) c.insert.ensures.items (c.insert.ensures.succeeds c.requires.room))

pub returns-in_default : goal.returns-in_default
returns-in_default c =
    let none : segment_of c.args.victim c.args.segments.now.items ≡ None = ap (segment_of c.args.victim) (sym c.as_slice.ensures.value) ∙ c.in_default.ensures.none in
    sym (change_none c.args.victim c.args.segments.now.items (λ s rest. lowered c.args.cut s ∷ (stolen c.args.seat c.args.cut c.args.number s ∷ rest)) none)
