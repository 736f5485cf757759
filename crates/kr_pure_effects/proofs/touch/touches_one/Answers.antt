use Rattle.std.proofs.Common.{◌≡◌, ◌<◌, ◌≤◌, ◌+◌, ◌∙◌, sym, true, false, length, drop, arith}
use Rattle.kr_mean.specs.Problem.{domain_at, no_objects}
use Rattle.kr_space_layout.specs.Bounds.{bare}
use Rattle.kr_pure_effects.specs.Touches.{touches_domain, touches_some}
use Rattle.kr_pure_effects.proofs.Scanning.{asked, first_false, first_true, none_left}
use Rattle.kr_pure_effects.proofs.touch.touches_one.Goals as goal

pub returns-then-touches_domain : goal.returns-then-touches_domain
returns-then-touches_domain c = λ files program m t a.
    let l = c.args.types.now in
    let ds = c.args.layout.now.domains in
    let k = c.loop-domain.domain in
    let here = touches_domain program l c.args.touch (domain_at (bare c.args.layout.now) k) in
    let rest = touches_some program l c.args.touch (drop (k + 1) ds) in
    let inside : k < length ds = omega arith in
    let is : here ≡ true = sym (c.touches_domain.ensures files program m t a) ∙ c.if-touches_domain.true in
    sym (sym (c.loop-domain.invariant files program m t a) ∙ asked program l c.args.touch ds k no_objects inside ∙ first_true here rest is)

pub loop-domain-preserved : goal.loop-domain-preserved
loop-domain-preserved c = λ files program m t a.
    let l = c.args.types.now in
    let ds = c.args.layout.now.domains in
    let k = c.loop-domain.domain in
    let here = touches_domain program l c.args.touch (domain_at (bare c.args.layout.now) k) in
    let rest = touches_some program l c.args.touch (drop (k + 1) ds) in
    let inside : k < length ds = omega arith in
    let is : here ≡ false = sym (c.touches_domain.ensures files program m t a) ∙ c.if-touches_domain.false in
    sym (first_false here rest is) ∙ sym (asked program l c.args.touch ds k no_objects inside) ∙ c.loop-domain.invariant files program m t a

pub returns : goal.returns
returns c = λ files program m t a.
    let ds = c.args.layout.now.domains in
    let past : length ds ≤ c.loop-domain.domain = omega arith in
    sym (sym (c.loop-domain.invariant files program m t a) ∙ none_left program c.args.types.now c.args.touch ds c.loop-domain.domain past)
