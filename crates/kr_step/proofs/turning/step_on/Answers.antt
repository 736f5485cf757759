use Rattle.std.proofs.Common.{[], ℕ, List, sym, subst}
use Rattle.kr_iso.specs.Choices.{AllowedPath, PathIn}
use Rattle.kr_step.specs.Limits.{Opens, Raises}
use Rattle.kr_step.proofs.Limits.{step_follows, step_inside, step_moved, step_opens, step_some, stuck_in}
use Rattle.kr_step.proofs.turning.step_on.Goals as goal

pub next_step-requires-clause-path : goal.next_step-requires-clause-path
next_step-requires-clause-path g c =
    let S = g.C.Slots.space c.args.candidates.now in
    let o = g.C.Candidate.order c.args.candidates.now in
    let m = g.C.Candidate.ending c.args.candidates.now in
    let v = g.C.Candidate.vector c.args.candidates.now in
    subst (PathIn S) (sym c.as_slice.ensures.value) (stuck_in S o m c.laws.ensures.reading c.requires.stuck.0 v c.args.path.now.items c.requires.stuck.1)

pub next_step-requires-clause-allowed : goal.next_step-requires-clause-allowed
next_step-requires-clause-allowed g c = subst (AllowedPath (g.C.Slots.space c.args.candidates.now) []) (sym c.as_slice.ensures.value) c.requires.stuck.1.allowed

pub set-requires-clause-slot : goal.set-requires-clause-slot
set-requires-clause-slot g c =
    let S = g.C.Slots.space c.args.candidates.now in
    let path = c.args.path.now.items in
    let s = c.in-Some.slot in
    let i = c.in-Some.index in
    let limit = c.next_step.new.limit in
    let r : Raises path s i limit = subst (λ (l : List (ℕ × ℕ)). Raises l s i limit) c.as_slice.ensures.value c.in-Some.ensures.next in
    let opens : Opens S path limit = subst (λ (l : List (ℕ × ℕ)). Opens S l limit) c.as_slice.ensures.value c.next_step.ensures.opens in
    let o = g.C.Candidate.order c.args.candidates.now in
    let m = g.C.Candidate.ending c.args.candidates.now in
    let v = g.C.Candidate.vector c.args.candidates.now in
    (step_inside S path s i limit r opens (stuck_in S o m c.laws.ensures.reading c.requires.stuck.0 v path c.requires.stuck.1)).0

pub set-requires-clause-index : goal.set-requires-clause-index
set-requires-clause-index g c =
    let S = g.C.Slots.space c.args.candidates.now in
    let path = c.args.path.now.items in
    let s = c.in-Some.slot in
    let i = c.in-Some.index in
    let limit = c.next_step.new.limit in
    let r : Raises path s i limit = subst (λ (l : List (ℕ × ℕ)). Raises l s i limit) c.as_slice.ensures.value c.in-Some.ensures.next in
    let opens : Opens S path limit = subst (λ (l : List (ℕ × ℕ)). Opens S l limit) c.as_slice.ensures.value c.next_step.ensures.opens in
    let o = g.C.Candidate.order c.args.candidates.now in
    let m = g.C.Candidate.ending c.args.candidates.now in
    let v = g.C.Candidate.vector c.args.candidates.now in
    (step_inside S path s i limit r opens (stuck_in S o m c.laws.ensures.reading c.requires.stuck.0 v path c.requires.stuck.1)).1

pub set-requires-clause-long : goal.set-requires-clause-long
set-requires-clause-long g c =
    c.requires.stuck.1.of.vector.long

pub replace_last-requires : goal.replace_last-requires
replace_last-requires g c =
    let S = g.C.Slots.space c.args.candidates.now in
    let path = c.args.path.now.items in
    let s = c.in-Some.slot in
    let i = c.in-Some.index in
    let limit = c.next_step.new.limit in
    let r : Raises path s i limit = subst (λ (l : List (ℕ × ℕ)). Raises l s i limit) c.as_slice.ensures.value c.in-Some.ensures.next in
    step_some path s i limit r

pub returns-in-Some-clause-opens : goal.returns-in-Some-clause-opens
returns-in-Some-clause-opens g c =
    let S = g.C.Slots.space c.args.candidates.now in
    let path = c.args.path.now.items in
    let s = c.in-Some.slot in
    let i = c.in-Some.index in
    let limit = c.next_step.new.limit in
    let r : Raises path s i limit = subst (λ (l : List (ℕ × ℕ)). Raises l s i limit) c.as_slice.ensures.value c.in-Some.ensures.next in
    let opens : Opens S path limit = subst (λ (l : List (ℕ × ℕ)). Opens S l limit) c.as_slice.ensures.value c.next_step.ensures.opens in
    step_opens S path s i limit r opens c.replace_last.new.path.items c.replace_last.ensures

pub returns-in-Some-clause-stepped : goal.returns-in-Some-clause-stepped
returns-in-Some-clause-stepped g c =
    λ after stuck.
    let S = g.C.Slots.space c.args.candidates.now in
    let path = c.args.path.now.items in
    let s = c.in-Some.slot in
    let i = c.in-Some.index in
    let limit = c.next_step.new.limit in
    let r : Raises path s i limit = subst (λ (l : List (ℕ × ℕ)). Raises l s i limit) c.as_slice.ensures.value c.in-Some.ensures.next in
    let opens : Opens S path limit = subst (λ (l : List (ℕ × ℕ)). Opens S l limit) c.as_slice.ensures.value c.next_step.ensures.opens in
    let o = g.C.Candidate.order c.args.candidates.now in
    let m = g.C.Candidate.ending c.args.candidates.now in
    let v = g.C.Candidate.vector c.args.candidates.now in
    step_moved S path s i limit r opens o m c.laws.ensures.space c.laws.ensures.reading c.replace_last.new.path.items c.replace_last.ensures after v (g.C.Candidate.vector c.set.new.self) c.set.ensures.vector stuck

pub returns-in-Some-clause-front : goal.returns-in-Some-clause-front
returns-in-Some-clause-front g c =
    λ t.
    let path = c.args.path.now.items in
    let s = c.in-Some.slot in
    let i = c.in-Some.index in
    let limit = c.next_step.new.limit in
    let r : Raises path s i limit = subst (λ (l : List (ℕ × ℕ)). Raises l s i limit) c.as_slice.ensures.value c.in-Some.ensures.next in
    step_follows path c.replace_last.new.path.items s i limit r c.replace_last.ensures

pub returns-in-None-clause-opens : goal.returns-in-None-clause-opens
returns-in-None-clause-opens g c =
    let S = g.C.Slots.space c.args.candidates.now in
    subst (λ (l : List (ℕ × ℕ)). Opens S l c.next_step.new.limit) c.as_slice.ensures.value c.next_step.ensures.opens
