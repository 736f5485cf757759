use Rattle.std.proofs.Common.{◌≡◌, ◌<◌, ◌≤◌, ℕ, sym, subst, length, get_or, ◌∙◌, arith}
use Rattle.std.proofs.lemmas.List.{get_or_default}
use Rattle.kr_mean.specs.Problem.{slots}
use Rattle.kr_space_layout.specs.Bounds.{bare}
use Rattle.kr_build.specs.Visits.{IsVisit}
use Rattle.kr_build.proofs.Walking.{no_longer, slot_below, step, done}
use Rattle.kr_build.proofs.walk.walk_on.Goals as goal

pub visit-requires-clause-slot : goal.visit-requires-clause-slot
visit-requires-clause-slot c =
    let r = c.loop-at.invariant in
    let h : c.loop-at.at < length c.loop-at.order.items = omega (arith, c.loop-at-test.true, c.len.ensures, c.loop-at.order.ok.0) in
    let s = slot_below (bare c.args.layout.now) c.requires.well c.args.vector.now c.loop-at.order.items c.loop-at.met.items c.loop-at.at r.0 c.index-slot.result.now r.1 h in
    subst (λ (n : ℕ). n < length (slots (bare c.args.layout.now))) (sym c.index-slot.ensures) s

pub loop-at-smaller : goal.loop-at-smaller
loop-at-smaller c =
    let r = c.loop-at.invariant in
    let h : c.loop-at.at < length c.loop-at.order.items = omega (arith, c.loop-at-test.true, c.len.ensures, c.loop-at.order.ok.0) in
    let l = no_longer (bare c.args.layout.now) c.args.vector.now c.loop-at.order.items c.loop-at.met.items c.loop-at.at r.0 r.1 in
    omega (arith, h, l)

pub loop-at-preserved : goal.loop-at-preserved
loop-at-preserved c =
    let r = c.loop-at.invariant in
    let h : c.loop-at.at < length c.loop-at.order.items = omega (arith, c.loop-at-test.true, c.len.ensures, c.loop-at.order.ok.0) in
    let e : c.index-slot.result.now ≡ get_or c.loop-at.order.items c.loop-at.at 0 = c.index-slot.ensures ∙ get_or_default c.loop-at.order.items c.loop-at.at c.index-slot.result.now 0 h in
    let visit : IsVisit (bare c.args.layout.now) c.args.vector.now c.index-slot.result.now c.loop-at.met.items c.loop-at.order.items c.visit.new.met.items c.visit.new.order.items = c.in_ok-visit.ensures in
    step (bare c.args.layout.now) c.requires.well c.args.vector.now c.loop-at.order.items c.loop-at.met.items c.loop-at.at r.0 r.1 h c.visit.new.met.items c.visit.new.order.items
    (subst (λ (s : ℕ). IsVisit (bare c.args.layout.now) c.args.vector.now s c.loop-at.met.items c.loop-at.order.items c.visit.new.met.items c.visit.new.order.items) e visit)

pub returns : goal.returns
returns c =
    let r = c.loop-at.invariant in
    let h : length c.loop-at.order.items ≤ c.loop-at.at = omega (arith, c.loop-at-test.false, c.len.ensures, c.loop-at.order.ok.0) in
    done (bare c.args.layout.now) c.requires.well c.args.vector.now c.loop-at.order.items c.loop-at.met.items c.loop-at.at r.0 r.1 h
