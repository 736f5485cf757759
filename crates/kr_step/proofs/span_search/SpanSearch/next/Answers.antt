use Rattle.std.proofs.Common.{◌≡◌, false, sym, subst, ◌∙◌}
use Rattle.kr_base.specs.declared.span.Bound.TheVariants.{At}
use Rattle.kr_base.specs.Bounds.{less}
use Rattle.kr_mean.specs.Entries.{all_entries}
use Rattle.kr_step.specs.declared.stage.Upto.{Upto}
use Rattle.kr_step.specs.declared.stage.Upto.TheVariants.{Inside, Last, Past}
use Rattle.kr_step.specs.Upto.{ComesUpto}
use Rattle.kr_step.proofs.Left.{left_ended, finds, none_left, not_behind}
use Rattle.kr_step.proofs.span_search.SpanSearch.next.Goals as goal

pub returns-then-not-self-clause-found : goal.returns-then-not-self-clause-found
returns-then-not-self-clause-found g c = rw (← c.self.view_is) (λ problem runs.
    let cut = c.self.inside.search.cut in
    let upto = c.self.inside.upto in
    let ended : less (At cut) upto ≡ false = sym c.self.invariant ∙ c.if-not-self.true in
    let none = left_ended cut upto (all_entries problem) ended in
    (none, none))

pub returns-in-Inside-clause-found : goal.returns-in-Inside-clause-found
returns-in-Inside-clause-found g c = rw (← c.self.view_is) (λ problem runs.
    let S = g.C.Slots.space c.self.inside.search.candidates in
    let o = g.C.Candidate.order c.self.inside.search.candidates in
    let m = g.C.Candidate.ending c.self.inside.search.candidates in
    let cut = c.self.inside.search.cut in
    let upto = c.self.inside.upto in
    let v = g.C.Candidate.vector c.next_upto.new.self.candidates in
    let new = c.next_upto.new.self.cut in
    let said : ComesUpto S o m upto cut v new (Inside c.in-Inside.ending) = subst (λ (n : Upto). ComesUpto S o m upto cut v new n) c.in-Inside.is c.in_ok-ending.ensures.found in
    let inside = not_behind (At new) upto said.1 in
    finds c.plain_law.ensures c.first_law.ensures problem S o m upto cut v new c.in-Inside.ending runs said.0.first said.0.ends said.0.key inside)

pub returns-in-Last-clause-found : goal.returns-in-Last-clause-found
returns-in-Last-clause-found g c = rw (← c.self.view_is) (λ problem runs.
    let S = g.C.Slots.space c.self.inside.search.candidates in
    let o = g.C.Candidate.order c.self.inside.search.candidates in
    let m = g.C.Candidate.ending c.self.inside.search.candidates in
    let cut = c.self.inside.search.cut in
    let upto = c.self.inside.upto in
    let v = g.C.Candidate.vector c.next_upto.new.self.candidates in
    let new = c.next_upto.new.self.cut in
    let said : ComesUpto S o m upto cut v new (Last c.in-Last.ending) = subst (λ (n : Upto). ComesUpto S o m upto cut v new n) c.in-Last.is c.in_ok-ending.ensures.found in
    finds c.plain_law.ensures c.first_law.ensures problem S o m upto cut v new c.in-Last.ending runs said.0.first said.0.ends said.0.key said.2)

pub returns-in-Past-clause-found : goal.returns-in-Past-clause-found
returns-in-Past-clause-found g c = rw (← c.self.view_is) (λ problem runs.
    let S = g.C.Slots.space c.self.inside.search.candidates in
    let o = g.C.Candidate.order c.self.inside.search.candidates in
    let m = g.C.Candidate.ending c.self.inside.search.candidates in
    let cut = c.self.inside.search.cut in
    let upto = c.self.inside.upto in
    let v = g.C.Candidate.vector c.next_upto.new.self.candidates in
    let new = c.next_upto.new.self.cut in
    let said : ComesUpto S o m upto cut v new Past = subst (λ (n : Upto). ComesUpto S o m upto cut v new n) c.in-Past.is c.in_ok-ending.ensures.found in
    (none_left c.plain_law.ensures problem S o m upto cut runs said.0, none_left c.plain_law.ensures problem S o m upto new runs said.1))
