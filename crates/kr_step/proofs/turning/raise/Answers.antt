use Rattle.std.proofs.Common.{◌≡◌, ◌+◌, ℕ, List, [], ◌∷◌, ◌++◌, Some, None, sym, subst, append-nil, arith, vec_len, vec_capacity}
use Rattle.kr_mean.specs.Choices.{IsNextChoice}
use Rattle.kr_step.proofs.Nexts.{push_moved, pop_stuck}
use Rattle.kr_step.proofs.Turns.{popped, pushed}
use Rattle.kr_step.proofs.turning.raise.Goals as goal

pub size-size-requires : goal.size-size-requires
size-size-requires g c =
    let S = g.C.Slots.space c.args.candidates.now in
    let o = g.C.Candidate.order c.args.candidates.now in
    let m = g.C.Candidate.ending c.args.candidates.now in
    let w = g.C.Candidate.vector c.args.candidates.now in
    let k = popped S o m c.laws.ensures.space c.laws.ensures.reading c.requires.stuck.0 w c.args.path.now.items c.args.slot c.args.index c.requires.stuck.1 in
    k.slot

pub prove-unreachable-requires : goal.prove-unreachable-requires
prove-unreachable-requires g c =
    let S = g.C.Slots.space c.args.candidates.now in
    let o = g.C.Candidate.order c.args.candidates.now in
    let m = g.C.Candidate.ending c.args.candidates.now in
    let w = g.C.Candidate.vector c.args.candidates.now in
    let k = popped S o m c.laws.ensures.space c.laws.ensures.reading c.requires.stuck.0 w c.args.path.now.items c.args.slot c.args.index c.requires.stuck.1 in
    let h = k.index in
    let e = c.size-size.ensures in
    let l = c.if-prove.true in
    omega arith

pub next_choice-requires-clause-path : goal.next_choice-requires-clause-path
next_choice-requires-clause-path g c =
    let S = g.C.Slots.space c.args.candidates.now in
    let o = g.C.Candidate.order c.args.candidates.now in
    let m = g.C.Candidate.ending c.args.candidates.now in
    let w = g.C.Candidate.vector c.args.candidates.now in
    let k = popped S o m c.laws.ensures.space c.laws.ensures.reading c.requires.stuck.0 w c.args.path.now.items c.args.slot c.args.index c.requires.stuck.1 in
    rw c.as_slice.ensures.value k.inside

pub next_choice-requires-clause-allowed : goal.next_choice-requires-clause-allowed
next_choice-requires-clause-allowed g c =
    let S = g.C.Slots.space c.args.candidates.now in
    let o = g.C.Candidate.order c.args.candidates.now in
    let m = g.C.Candidate.ending c.args.candidates.now in
    let w = g.C.Candidate.vector c.args.candidates.now in
    let k = popped S o m c.laws.ensures.space c.laws.ensures.reading c.requires.stuck.0 w c.args.path.now.items c.args.slot c.args.index c.requires.stuck.1 in
    rw c.as_slice.ensures.value k.allowed

pub next_choice-requires-clause-slot : goal.next_choice-requires-clause-slot
next_choice-requires-clause-slot g c =
    let S = g.C.Slots.space c.args.candidates.now in
    let o = g.C.Candidate.order c.args.candidates.now in
    let m = g.C.Candidate.ending c.args.candidates.now in
    let w = g.C.Candidate.vector c.args.candidates.now in
    let k = popped S o m c.laws.ensures.space c.laws.ensures.reading c.requires.stuck.0 w c.args.path.now.items c.args.slot c.args.index c.requires.stuck.1 in
    k.slot

pub set-requires-clause-slot : goal.set-requires-clause-slot
set-requires-clause-slot g c =
    let S = g.C.Slots.space c.args.candidates.now in
    let o = g.C.Candidate.order c.args.candidates.now in
    let m = g.C.Candidate.ending c.args.candidates.now in
    let w = g.C.Candidate.vector c.args.candidates.now in
    let k = popped S o m c.laws.ensures.space c.laws.ensures.reading c.requires.stuck.0 w c.args.path.now.items c.args.slot c.args.index c.requires.stuck.1 in
    k.slot

pub set-requires-clause-long : goal.set-requires-clause-long
set-requires-clause-long g c =
    let S = g.C.Slots.space c.args.candidates.now in
    let o = g.C.Candidate.order c.args.candidates.now in
    let m = g.C.Candidate.ending c.args.candidates.now in
    let w = g.C.Candidate.vector c.args.candidates.now in
    let k = popped S o m c.laws.ensures.space c.laws.ensures.reading c.requires.stuck.0 w c.args.path.now.items c.args.slot c.args.index c.requires.stuck.1 in
    k.long

pub set-requires-in-None-clause-slot : goal.set-requires-in-None-clause-slot
set-requires-in-None-clause-slot g c =
    let S = g.C.Slots.space c.args.candidates.now in
    let o = g.C.Candidate.order c.args.candidates.now in
    let m = g.C.Candidate.ending c.args.candidates.now in
    let w = g.C.Candidate.vector c.args.candidates.now in
    let k = popped S o m c.laws.ensures.space c.laws.ensures.reading c.requires.stuck.0 w c.args.path.now.items c.args.slot c.args.index c.requires.stuck.1 in
    k.slot

pub returns-in-Some-clause-turned : goal.returns-in-Some-clause-turned
returns-in-Some-clause-turned g c = λ after stuck.
    let S = g.C.Slots.space c.args.candidates.now in
    let o = g.C.Candidate.order c.args.candidates.now in
    let m = g.C.Candidate.ending c.args.candidates.now in
    let w = g.C.Candidate.vector c.args.candidates.now in
    let choice : IsNextChoice S c.args.path.now.items c.args.slot (c.args.index + 1) (Some c.in-Some.next) = subst (λ (l : List (ℕ × ℕ)). IsNextChoice S l c.args.slot (c.args.index + 1) (Some c.in-Some.next)) c.as_slice.ensures.value c.in-Some.ensures in
    let items : c.push.new.self.items ≡ c.args.path.now.items ++ (c.args.slot, c.in-Some.next) ∷ [] =
    pushed c.push.result (c.args.path.now.items ++ (c.args.slot, c.in-Some.next) ∷ []) c.args.path.now.items c.push.new.self.items (vec_len c.args.path.now) (vec_capacity c.args.path.now) c.push.ensures.full c.requires.room c.push.ensures.items in
    let moved = push_moved S o m c.laws.ensures.space c.laws.ensures.reading c.args.path.now.items c.args.slot c.args.index c.in-Some.next after w stuck choice in
    rw (c.set.ensures.vector, items) moved

pub returns-in-None-clause-turned : goal.returns-in-None-clause-turned
returns-in-None-clause-turned g c = λ after stuck.
    let S = g.C.Slots.space c.args.candidates.now in
    let o = g.C.Candidate.order c.args.candidates.now in
    let m = g.C.Candidate.ending c.args.candidates.now in
    let w = g.C.Candidate.vector c.args.candidates.now in
    let none : IsNextChoice S c.args.path.now.items c.args.slot (c.args.index + 1) None = subst (λ (l : List (ℕ × ℕ)). IsNextChoice S l c.args.slot (c.args.index + 1) None) c.as_slice.ensures.value c.in-None.ensures in
    rw c.set-in-None.ensures.vector (pop_stuck S o m c.laws.ensures.space c.laws.ensures.reading c.args.path.now.items c.args.slot c.args.index after w stuck none)

pub returns-in-Some-clause-front : goal.returns-in-Some-clause-front
returns-in-Some-clause-front g c = λ t.
    let items : c.push.new.self.items ≡ c.args.path.now.items ++ (c.args.slot, c.in-Some.next) ∷ [] =
    pushed c.push.result (c.args.path.now.items ++ (c.args.slot, c.in-Some.next) ∷ []) c.args.path.now.items c.push.new.self.items (vec_len c.args.path.now) (vec_capacity c.args.path.now) c.push.ensures.full c.requires.room c.push.ensures.items in
    record { front = c.args.path.now.items; back = []; last = (c.args.slot, c.in-Some.next); old_is = sym (append-nil c.args.path.now.items); new_is = items }
