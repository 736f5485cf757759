use Rattle.std.proofs.Common.{◌≡◌, ◌+◌, ℕ, List, [], ◌∷◌, ◌++◌, length, take, drop, get_or, subst, sym, ap, ◌∙◌, refl, arith}
use Rattle.std.proofs.lemmas.Grind.{take_at_read}
use Rattle.std.proofs.lemmas.Result.{IfOk-weaker}
use Rattle.kr_step.specs.declared.seeking.Lead.TheVariants.{On, Past, Stuck}
use Rattle.kr_step.specs.Steps.{IsFront, indices_of}
use Rattle.kr_step.proofs.Seeks.{start, cut_here}
use Rattle.kr_step.proofs.Turns.{leads_along, no_indices}
use Rattle.kr_step.proofs.seeking.come_to.Goals as goal

pub loop-number-init : goal.loop-number-init
loop-number-init g c =
    let S = g.C.Slots.space c.args.candidates.now in
    let o = g.C.Candidate.order c.args.candidates.now in
    let m = g.C.Candidate.ending c.args.candidates.now in
    let w = g.C.Candidate.vector c.args.candidates.now in
    record {
      space = refl;
      order = refl;
      ending = refl;
      front = subst (IsFront S o w) (sym c.requires.empty) (start S o m c.laws.ensures.space c.laws.ensures.reading w c.requires.zero);
      numbers = ap indices_of c.requires.empty;
      runs = omega arith;
    }

pub returns-in-Past-clause-stands : goal.returns-in-Past-clause-stands
returns-in-Past-clause-stands g c =
    let S = g.C.Slots.space c.args.candidates.now in
    let o = g.C.Candidate.order c.args.candidates.now in
    let T = g.C.Slots.space c.run.new.self in
    let p = g.C.Candidate.order c.run.new.self in
    let inv = c.loop-number.invariant in
    let k : ℕ = c.loop-number.number-index in
    let number : ℕ = get_or c.args.after.now c.loop-number.number-index 0 in
    let cut = cut_here c.args.after.now c.loop-number.number-index c.loop-number.path.items c.loop-number-test.true inv.numbers in
    let leads = c.in_ok-follow.ensures.leads c.args.after.now (drop (c.loop-number.number-index + 1) c.args.after.now) cut in
    leads_along S T o p c.args.after.now number c.in_ok-follow.field-0 Past (g.C.Candidate.vector c.follow.new.candidates) c.loop-number.path.items c.follow.new.path.items (c.run.ensures.space ∙ inv.space) (c.run.ensures.order ∙ inv.order) c.in-Past.is leads

pub returns-in-Stuck-clause-stands : goal.returns-in-Stuck-clause-stands
returns-in-Stuck-clause-stands g c =
    let S = g.C.Slots.space c.args.candidates.now in
    let o = g.C.Candidate.order c.args.candidates.now in
    let T = g.C.Slots.space c.run.new.self in
    let p = g.C.Candidate.order c.run.new.self in
    let inv = c.loop-number.invariant in
    let k : ℕ = c.loop-number.number-index in
    let number : ℕ = get_or c.args.after.now c.loop-number.number-index 0 in
    let cut = cut_here c.args.after.now c.loop-number.number-index c.loop-number.path.items c.loop-number-test.true inv.numbers in
    let leads = c.in_ok-follow.ensures.leads c.args.after.now (drop (c.loop-number.number-index + 1) c.args.after.now) cut in
    leads_along S T o p c.args.after.now number c.in_ok-follow.field-0 Stuck (g.C.Candidate.vector c.follow.new.candidates) c.loop-number.path.items c.follow.new.path.items (c.run.ensures.space ∙ inv.space) (c.run.ensures.order ∙ inv.order) c.in-Stuck.is leads

pub loop-number-preserved : goal.loop-number-preserved
loop-number-preserved g c =
    let S = g.C.Slots.space c.args.candidates.now in
    let o = g.C.Candidate.order c.args.candidates.now in
    let T = g.C.Slots.space c.run.new.self in
    let p = g.C.Candidate.order c.run.new.self in
    let inv = c.loop-number.invariant in
    let k : ℕ = c.loop-number.number-index in
    let number : ℕ = get_or c.args.after.now c.loop-number.number-index 0 in
    let cut = cut_here c.args.after.now c.loop-number.number-index c.loop-number.path.items c.loop-number-test.true inv.numbers in
    let leads = c.in_ok-follow.ensures.leads c.args.after.now (drop (c.loop-number.number-index + 1) c.args.after.now) cut in
    let on = leads_along S T o p c.args.after.now number c.in_ok-follow.field-0 On (g.C.Candidate.vector c.follow.new.candidates) c.loop-number.path.items c.follow.new.path.items (c.run.ensures.space ∙ inv.space) (c.run.ensures.order ∙ inv.order) c.in-On.is leads in
    let next : take (c.loop-number.number-index + 1) c.args.after.now ≡ take c.loop-number.number-index c.args.after.now ++ number ∷ [] = (take_at_read c.args.after.now c.loop-number.number-index 0 c.loop-number-test.true).1 in
    record {
      space = c.follow.ensures.space ∙ (c.run.ensures.space ∙ inv.space);
      order = c.follow.ensures.order ∙ (c.run.ensures.order ∙ inv.order);
      ending = c.follow.ensures.ending ∙ (c.run.ensures.ending ∙ inv.ending);
      front = on.0;
      numbers = on.1 ∙ (ap (λ (l : List ℕ). l ++ number ∷ []) inv.numbers ∙ sym next);
      runs = omega (arith, c.run.ensures.runs, inv.runs);
    }

pub returns-clause-first : goal.returns-clause-first
returns-clause-first g c = IfOk-weaker c.settle.result _ _ (λ stage ahead empty.
    let inv = c.loop-number.invariant in
    let none : length c.args.after.now ≡ 0 = ap length empty in
    let end = c.loop-number.auto.number-index-end in
    let zero : c.loop-number.number-index ≡ 0 = omega arith in
    let path : c.loop-number.path.items ≡ [] = no_indices c.loop-number.path.items (inv.numbers ∙ ap (λ (n : ℕ). take n c.args.after.now) zero) in
    let one = ahead path in
    omega (arith, c.settle.ensures.runs, inv.runs)) c.settle.ensures.ahead
