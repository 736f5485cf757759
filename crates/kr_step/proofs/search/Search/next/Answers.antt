use Rattle.std.proofs.Common.{◌≡◌, Option, Some, ap, ◌∙◌, subst}
use Rattle.kr_step.specs.declared.candidates.Ending.{Ending}
use Rattle.kr_step.specs.Steps.{indices_of}
use Rattle.kr_step.specs.Found.{Finds}
use Rattle.kr_step.proofs.Limits.{opens_along}
use Rattle.kr_step.proofs.Turns.{stuck_along, behind}
use Rattle.kr_step.proofs.search.Search.next.Goals as goal

pub invariant_of-self-in-Some : goal.invariant_of-self-in-Some
invariant_of-self-in-Some g c =
    let S = g.C.Slots.space c.self.inside.candidates in
    let o = g.C.Candidate.order c.self.inside.candidates in
    let m = g.C.Candidate.ending c.self.inside.candidates in
    let v = g.C.Candidate.vector c.find.new.candidates in
    let cut = c.self.inside.after.items in
    let found : Finds S o m cut (Some c.in-Some.ending) v c.find.new.path.items = subst (λ (f : Option Ending). Finds S o m cut f v c.find.new.path.items) c.in-Some.is (c.in_ok-find.ensures.found cut c.self.invariant.0) in
    let key : c.write_key.new.key.items ≡ indices_of c.find.new.path.items = c.in_ok-write_key-in-Some.ensures.ok ∙ ap indices_of c.as_slice.ensures.value in
    let both = behind S o m c.laws.ensures.space c.laws.ensures.reading cut c.write_key.new.key.items v c.find.new.path.items found.0 found.2 key in (
      stuck_along S (g.C.Slots.space c.find.new.candidates) o (g.C.Candidate.order c.find.new.candidates) c.write_key.new.key.items v c.find.new.path.items c.find.ensures.space c.find.ensures.order both.0,
      opens_along S (g.C.Slots.space c.find.new.candidates) c.find.new.path.items c.find.new.limit c.find.ensures.space c.find.ensures.opens,
    )

pub returns-in_ok-write_key-in-Some-clause-found : goal.returns-in_ok-write_key-in-Some-clause-found
returns-in_ok-write_key-in-Some-clause-found g c =
    let S = g.C.Slots.space c.self.inside.candidates in
    let o = g.C.Candidate.order c.self.inside.candidates in
    let m = g.C.Candidate.ending c.self.inside.candidates in
    let v = g.C.Candidate.vector c.find.new.candidates in
    let cut = c.self.inside.after.items in
    let found : Finds S o m cut (Some c.in-Some.ending) v c.find.new.path.items = subst (λ (f : Option Ending). Finds S o m cut f v c.find.new.path.items) c.in-Some.is (c.in_ok-find.ensures.found cut c.self.invariant.0) in
    let key : c.write_key.new.key.items ≡ indices_of c.find.new.path.items = c.in_ok-write_key-in-Some.ensures.ok ∙ ap indices_of c.as_slice.ensures.value in
    let both = behind S o m c.laws.ensures.space c.laws.ensures.reading cut c.write_key.new.key.items v c.find.new.path.items found.0 found.2 key in
    rw (← c.self.view_is) (found.0, found.1, both.1)
