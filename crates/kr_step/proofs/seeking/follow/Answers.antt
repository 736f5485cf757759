use Rattle.std.proofs.Common.{◌≡◌, ℕ, List, ◌∷◌, Some, None, length, get_or, subst, ap, ◌∙◌, refl, arith}
use Rattle.kr_mean.specs.Choices.{IsNextChoice}
use Rattle.kr_step.proofs.Seeks.{turn, front_in, seek_none, seek_end}
use Rattle.kr_step.proofs.Turns.{followed, passed}
use Rattle.kr_step.proofs.seeking.follow.Goals as goal

pub returns-then-depth-order-clause-leads : goal.returns-then-depth-order-clause-leads
returns-then-depth-order-clause-leads g c = λ after tail e.
    let S = g.C.Slots.space c.args.candidates.now in
    let o = g.C.Candidate.order c.args.candidates.now in
    let m = g.C.Candidate.ending c.args.candidates.now in
    let w = g.C.Candidate.vector c.args.candidates.now in
    let path_is : length c.as_slice-depth.result.now ≡ length c.args.path.now.items = ap length c.as_slice-depth.ensures.value in
    let order_is : length c.last_order-order.result.now ≡ length (o w) = ap length (c.last_order-order.ensures ∙ c.requires.last) in
    let past = c.if-depth-order.true in
    seek_end S o m c.laws.ensures.space c.laws.ensures.reading after w c.args.path.now.items (c.args.number ∷ tail) c.requires.front (omega arith) e

pub next_choice-requires-clause-path : goal.next_choice-requires-clause-path
next_choice-requires-clause-path g c =
    let S = g.C.Slots.space c.args.candidates.now in
    let o = g.C.Candidate.order c.args.candidates.now in
    let m = g.C.Candidate.ending c.args.candidates.now in
    let w = g.C.Candidate.vector c.args.candidates.now in
    rw c.as_slice.ensures.value (front_in S o m c.laws.ensures.space c.laws.ensures.reading w c.args.path.now.items c.requires.front)

pub next_choice-requires-clause-slot : goal.next_choice-requires-clause-slot
next_choice-requires-clause-slot g c =
    let S = g.C.Slots.space c.args.candidates.now in
    let o = g.C.Candidate.order c.args.candidates.now in
    let m = g.C.Candidate.ending c.args.candidates.now in
    let w = g.C.Candidate.vector c.args.candidates.now in
    let short = c.if-depth-order.false in
    let t = turn S o m c.laws.ensures.space c.laws.ensures.reading w c.args.path.now.items c.as_slice-depth.result.now c.last_order-order.result.now (get_or c.last_order-order.result.now (length c.as_slice-depth.result.now) 0) c.requires.front c.as_slice-depth.ensures.value (c.last_order-order.ensures ∙ c.requires.last) (omega arith) refl in
    let slot : ℕ = get_or c.last_order-order.result.now (length c.as_slice-depth.result.now) 0 in
    t.slot

pub set-requires-clause-slot : goal.set-requires-clause-slot
set-requires-clause-slot g c =
    let S = g.C.Slots.space c.args.candidates.now in
    let o = g.C.Candidate.order c.args.candidates.now in
    let m = g.C.Candidate.ending c.args.candidates.now in
    let w = g.C.Candidate.vector c.args.candidates.now in
    let short = c.if-depth-order.false in
    let t = turn S o m c.laws.ensures.space c.laws.ensures.reading w c.args.path.now.items c.as_slice-depth.result.now c.last_order-order.result.now (get_or c.last_order-order.result.now (length c.as_slice-depth.result.now) 0) c.requires.front c.as_slice-depth.ensures.value (c.last_order-order.ensures ∙ c.requires.last) (omega arith) refl in
    let slot : ℕ = get_or c.last_order-order.result.now (length c.as_slice-depth.result.now) 0 in
    t.slot

pub returns-then-choice-number-clause-leads : goal.returns-then-choice-number-clause-leads
returns-then-choice-number-clause-leads g c = λ after tail e.
    let S = g.C.Slots.space c.args.candidates.now in
    let o = g.C.Candidate.order c.args.candidates.now in
    let m = g.C.Candidate.ending c.args.candidates.now in
    let w = g.C.Candidate.vector c.args.candidates.now in
    let short = c.if-depth-order.false in
    let t = turn S o m c.laws.ensures.space c.laws.ensures.reading w c.args.path.now.items c.as_slice-depth.result.now c.last_order-order.result.now (get_or c.last_order-order.result.now (length c.as_slice-depth.result.now) 0) c.requires.front c.as_slice-depth.ensures.value (c.last_order-order.ensures ∙ c.requires.last) (omega arith) refl in
    let slot : ℕ = get_or c.last_order-order.result.now (length c.as_slice-depth.result.now) 0 in
    let choice : IsNextChoice S c.args.path.now.items slot c.args.number (Some c.in-Some.choice) = subst (λ (l : List (ℕ × ℕ)). IsNextChoice S l slot c.args.number (Some c.in-Some.choice)) c.as_slice.ensures.value c.in-Some.ensures in
    followed S o m c.laws.ensures.space c.laws.ensures.reading w (g.C.Candidate.vector c.set.new.self) c.args.path.now.items c.push.new.self.items slot c.in-Some.choice c.args.number c.requires.front t.next choice.1 choice.2 c.set.ensures.vector c.in_ok-push-in-Some.ensures.items c.if-choice-number.true

pub returns-in-None-clause-leads : goal.returns-in-None-clause-leads
returns-in-None-clause-leads g c = λ after tail e.
    let S = g.C.Slots.space c.args.candidates.now in
    let o = g.C.Candidate.order c.args.candidates.now in
    let m = g.C.Candidate.ending c.args.candidates.now in
    let w = g.C.Candidate.vector c.args.candidates.now in
    let short = c.if-depth-order.false in
    let t = turn S o m c.laws.ensures.space c.laws.ensures.reading w c.args.path.now.items c.as_slice-depth.result.now c.last_order-order.result.now (get_or c.last_order-order.result.now (length c.as_slice-depth.result.now) 0) c.requires.front c.as_slice-depth.ensures.value (c.last_order-order.ensures ∙ c.requires.last) (omega arith) refl in
    let slot : ℕ = get_or c.last_order-order.result.now (length c.as_slice-depth.result.now) 0 in
    let none : IsNextChoice S c.args.path.now.items slot c.args.number None = subst (λ (l : List (ℕ × ℕ)). IsNextChoice S l slot c.args.number None) c.as_slice.ensures.value c.in-None.ensures in
    seek_none S o m c.laws.ensures.space c.laws.ensures.reading after w c.args.path.now.items slot c.args.number tail c.requires.front t.next e none

pub returns-else-choice-number-clause-leads : goal.returns-else-choice-number-clause-leads
returns-else-choice-number-clause-leads g c = λ after tail e.
    let S = g.C.Slots.space c.args.candidates.now in
    let o = g.C.Candidate.order c.args.candidates.now in
    let m = g.C.Candidate.ending c.args.candidates.now in
    let w = g.C.Candidate.vector c.args.candidates.now in
    let short = c.if-depth-order.false in
    let t = turn S o m c.laws.ensures.space c.laws.ensures.reading w c.args.path.now.items c.as_slice-depth.result.now c.last_order-order.result.now (get_or c.last_order-order.result.now (length c.as_slice-depth.result.now) 0) c.requires.front c.as_slice-depth.ensures.value (c.last_order-order.ensures ∙ c.requires.last) (omega arith) refl in
    let slot : ℕ = get_or c.last_order-order.result.now (length c.as_slice-depth.result.now) 0 in
    let choice : IsNextChoice S c.args.path.now.items slot c.args.number (Some c.in-Some.choice) = subst (λ (l : List (ℕ × ℕ)). IsNextChoice S l slot c.args.number (Some c.in-Some.choice)) c.as_slice.ensures.value c.in-Some.ensures in
    passed S o m c.laws.ensures.space c.laws.ensures.reading after w (g.C.Candidate.vector c.set.new.self) c.args.path.now.items c.push.new.self.items slot c.args.number c.in-Some.choice tail c.requires.front t.next e choice c.if-choice-number.false c.set.ensures.vector c.in_ok-push-in-Some.ensures.items
