use Rattle.std.proofs.Common.{◌≡◌, ℕ, ◌+◌, ◌-◌, ◌<◌, List, true, refl, get_or, subst, sym, ap, ◌∙◌, arith}
use Rattle.kr_mean.specs.Space.{Space}
use Rattle.kr_plain.specs.Plain.{Follows}
use Rattle.kr_plain.proofs.Carries.{Cleared, begins, within_size, goes_on, goes_back, ends}
use Rattle.kr_plain.proofs.counting.count_on.Goals as goal

pub overflow_add-index : goal.overflow_add-index
overflow_add-index g c =
    let S = g.C.Slots.space c.args.candidates.now in
    let v = g.C.Candidate.vector c.args.candidates.now in
    let at = c.loop-slot.slot - 1 in
    let u = g.C.Candidate.vector c.loop-slot.candidates in
    let is : Cleared S v (at + 1) u = subst (λ (k : ℕ). Cleared S v k u) (omega (arith, c.loop-slot-test.true)) c.loop-slot.invariant.cleared in
    let less : get_or u at 0 < S.size at = within_size S v u at is in
    let size : c.size-size.result ≡ S.size at = c.size-size.ensures ∙ ap (λ (T : Space). T.size at) c.loop-slot.invariant.space in
    omega (arith, less, size, c.index-index.ensures, c.size-size.type_inv)

pub returns-then-index-size-clause-follows : goal.returns-then-index-size-clause-follows
returns-then-index-size-clause-follows g c =
    let S = g.C.Slots.space c.args.candidates.now in
    let v = g.C.Candidate.vector c.args.candidates.now in
    let at = c.loop-slot.slot - 1 in
    let u = g.C.Candidate.vector c.loop-slot.candidates in
    let is : Cleared S v (at + 1) u = subst (λ (k : ℕ). Cleared S v k u) (omega (arith, c.loop-slot-test.true)) c.loop-slot.invariant.cleared in
    let h : at < S.slots = (let w = is.within in omega (arith, w)) in
    let size : c.size-size.result ≡ S.size at = c.size-size.ensures ∙ ap (λ (T : Space). T.size at) c.loop-slot.invariant.space in
    subst (λ (w : List ℕ). Follows S v true w) (sym c.set.ensures.vector)
    (goes_on S v u at h is (c.index-index.result + 1) (ap (λ (i : ℕ). i + 1) c.index-index.ensures) (omega (arith, size, c.if-index-size.true)))

pub returns-clause-follows : goal.returns-clause-follows
returns-clause-follows g c = ends (g.C.Slots.space c.args.candidates.now) (g.C.Candidate.vector c.args.candidates.now) (g.C.Candidate.vector c.loop-slot.candidates)
    (subst (λ (k : ℕ). Cleared (g.C.Slots.space c.args.candidates.now) (g.C.Candidate.vector c.args.candidates.now) k (g.C.Candidate.vector c.loop-slot.candidates)) (omega (arith, c.loop-slot-test.false)) c.loop-slot.invariant.cleared)

pub loop-slot-init : goal.loop-slot-init
loop-slot-init g c =
    let S = g.C.Slots.space c.args.candidates.now in
    let v = g.C.Candidate.vector c.args.candidates.now in
    record {
      space = refl;
      order = refl;
      ending = refl;
      cleared = subst (λ (k : ℕ). Cleared S v k v) (sym c.slots-slot.ensures) (begins S v (record { long = c.requires.long; within = c.requires.within }));
    }

pub loop-slot-preserved : goal.loop-slot-preserved
loop-slot-preserved g c =
    let S = g.C.Slots.space c.args.candidates.now in
    let v = g.C.Candidate.vector c.args.candidates.now in
    let at = c.loop-slot.slot - 1 in
    let u = g.C.Candidate.vector c.loop-slot.candidates in
    let is : Cleared S v (at + 1) u = subst (λ (k : ℕ). Cleared S v k u) (omega (arith, c.loop-slot-test.true)) c.loop-slot.invariant.cleared in
    let h : at < S.slots = (let w = is.within in omega (arith, w)) in
    let size : c.size-size.result ≡ S.size at = c.size-size.ensures ∙ ap (λ (T : Space). T.size at) c.loop-slot.invariant.space in
    record {
      space = c.set-in-loop-slot.ensures.space ∙ c.loop-slot.invariant.space;
      order = c.set-in-loop-slot.ensures.order ∙ c.loop-slot.invariant.order;
      ending = c.set-in-loop-slot.ensures.ending ∙ c.loop-slot.invariant.ending;
      cleared = subst (λ (w : List ℕ). Cleared S v at w) (sym c.set-in-loop-slot.ensures.vector) (goes_back S v u at h is (omega (arith, size, c.if-index-size.false, c.index-index.ensures)));
    }
