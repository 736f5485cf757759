use Rattle.std.proofs.Common.{◌≡◌, ℕ, List, [], ◌∷◌, ◌++◌, Bool, true, false, Vec, Global, sym, subst, ap, ◌∙◌, ◌-◌, take, append-nil, arith, vec_len}
use Rattle.kr_step.specs.Steps.{IsStuck}
use Rattle.kr_step.specs.Turns.{Turned}
use Rattle.kr_step.proofs.Turns.{stuck_along, turned_along, none_left}
use Rattle.kr_step.proofs.Keeps.{one_less, follows_on}
use Rattle.kr_step.proofs.turning.go_back.Goals as goal

pub returns-then-raise-clause-advanced : goal.returns-then-raise-clause-advanced
returns-then-raise-clause-advanced g c = λ after stuck.
    let S = g.C.Slots.space c.args.candidates.now in
    let o = g.C.Candidate.order c.args.candidates.now in
    let T = g.C.Slots.space c.loop-slot.candidates in
    let p = g.C.Candidate.order c.loop-slot.candidates in
    let v = g.C.Candidate.vector c.loop-slot.candidates in
    let inv = c.loop-slot.invariant in
    let here : IsStuck S o after v (c.pop.new.self.items ++ (c.in-Some.slot, c.in-Some.index) ∷ []) = subst (IsStuck S o after v) c.in-Some.ensures.items (inv.stuck after stuck) in
    let there = stuck_along S T o p after v (c.pop.new.self.items ++ (c.in-Some.slot, c.in-Some.index) ∷ []) inv.space inv.order here in
    let turned : Turned T p after true (g.C.Candidate.vector c.raise.new.candidates) c.raise.new.path.items = subst (λ (b : Bool). Turned T p after b (g.C.Candidate.vector c.raise.new.candidates) c.raise.new.path.items) c.if-raise.true (c.raise.ensures.turned after there) in
    turned_along S T o p after true (g.C.Candidate.vector c.raise.new.candidates) c.raise.new.path.items inv.space inv.order turned

pub loop-slot-smaller : goal.loop-slot-smaller
loop-slot-smaller g c =
    let kept = ap vec_len (c.raise.ensures.kept c.if-raise.false) in
    omega (arith, kept, c.in-Some.ensures.len)

pub loop-slot-preserved : goal.loop-slot-preserved
loop-slot-preserved g c =
    let S = g.C.Slots.space c.args.candidates.now in
    let o = g.C.Candidate.order c.args.candidates.now in
    let T = g.C.Slots.space c.loop-slot.candidates in
    let p = g.C.Candidate.order c.loop-slot.candidates in
    let v = g.C.Candidate.vector c.loop-slot.candidates in
    let inv = c.loop-slot.invariant in
    let fewer = one_less c.args.path.now.items c.loop-slot.path.items inv.gone.0 c.pop.new.self.items (c.in-Some.slot, c.in-Some.index) inv.gone.1 c.in-Some.ensures.items in
    let gone : c.args.path.now.items ≡ c.raise.new.path.items ++ ((c.in-Some.slot, c.in-Some.index) ∷ [] ++ inv.gone.0) = fewer ∙ ap (λ (v : Vec (ℕ × ℕ) Global). v.items ++ ((c.in-Some.slot, c.in-Some.index) ∷ [] ++ inv.gone.0)) (sym (c.raise.ensures.kept c.if-raise.false)) in
    let on : (after : List ℕ) → IsStuck S o after v c.loop-slot.path.items → IsStuck S o after (g.C.Candidate.vector c.raise.new.candidates) c.raise.new.path.items = λ after stuck.
    let here : IsStuck S o after v (c.pop.new.self.items ++ (c.in-Some.slot, c.in-Some.index) ∷ []) = subst (IsStuck S o after v) c.in-Some.ensures.items stuck in
    let there = stuck_along S T o p after v (c.pop.new.self.items ++ (c.in-Some.slot, c.in-Some.index) ∷ []) inv.space inv.order here in
    let turned : Turned T p after false (g.C.Candidate.vector c.raise.new.candidates) c.raise.new.path.items = subst (λ (b : Bool). Turned T p after b (g.C.Candidate.vector c.raise.new.candidates) c.raise.new.path.items) c.if-raise.false (c.raise.ensures.turned after there) in
    turned_along S T o p after false (g.C.Candidate.vector c.raise.new.candidates) c.raise.new.path.items inv.space inv.order turned in
    record {
      space = c.raise.ensures.space ∙ inv.space;
      order = c.raise.ensures.order ∙ inv.order;
      ending = c.raise.ensures.ending ∙ inv.ending;
      some = (inv.some.0, on inv.some.0 inv.some.1);
      stuck = λ after stuck. on after (inv.stuck after stuck);
      gone = ((c.in-Some.slot, c.in-Some.index) ∷ [] ++ inv.gone.0, gone);
    }

pub returns-clause-advanced : goal.returns-clause-advanced
returns-clause-advanced g c = λ after stuck.
    let S = g.C.Slots.space c.args.candidates.now in
    let o = g.C.Candidate.order c.args.candidates.now in
    let m = g.C.Candidate.ending c.args.candidates.now in
    let v = g.C.Candidate.vector c.loop-slot.candidates in
    let empty : c.pop.new.self.items ≡ [] = c.in_default.ensures.rest ∙ ap (λ (n : ℕ). take (n - 1) c.loop-slot.path.items) c.in_default.ensures.cases.0 in
    let items : c.loop-slot.path.items ≡ c.pop.new.self.items = c.in_default.ensures.items ∙ append-nil c.pop.new.self.items in
    let here : IsStuck S o after v c.pop.new.self.items = subst (IsStuck S o after v) items (c.loop-slot.invariant.stuck after stuck) in
    (here, none_left S o m c.laws.ensures.space c.laws.ensures.reading after v c.pop.new.self.items empty here)

pub returns-then-raise-clause-front : goal.returns-then-raise-clause-front
returns-then-raise-clause-front g c = λ t.
    let gone = c.loop-slot.invariant.gone in
    let old = one_less c.args.path.now.items c.loop-slot.path.items gone.0 c.pop.new.self.items (c.in-Some.slot, c.in-Some.index) gone.1 c.in-Some.ensures.items in
    follows_on c.args.path.now.items c.pop.new.self.items c.raise.new.path.items ((c.in-Some.slot, c.in-Some.index) ∷ [] ++ gone.0) old (c.raise.ensures.front c.if-raise.true)
