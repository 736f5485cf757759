use Rattle.std.proofs.Common.{◌≡◌, ℕ, ◌-◌, ◌<◌, ◌≤◌, length, get_or, ap, arith, sym, subst}
use Rattle.kr_mean.specs.Problem.{domain_at, objects_before}
use Rattle.kr_space_layout.specs.declared.stretch.Block.{Block}
use Rattle.kr_space_layout.specs.Bounds.{Bounds, bare}
use Rattle.kr_space_layout.specs.Numbers.{HasNumber}
use Rattle.kr_space_layout.proofs.Numbers.{are_blocks, before_more, before_all}
use Rattle.kr_space_layout.proofs.layout.Layout.numbered.Goals as goal

-- the object of a block that so many objects precede
there : (b : Bounds) (d number : ℕ) (x : Block) → d < length b.domains → x.domain ≡ d → x.count ≡ (domain_at (bare b) d).count → x.first ≡ objects_before d b.domains → objects_before d b.domains ≤ number → number - x.first < x.count → HasNumber (bare b) number (record { domain = x.domain; number = number - x.first })
there b d number x inside domain count first from within =
    subst (λ (e : ℕ). HasNumber (bare b) number (record { domain = e; number = number - x.first })) (sym domain)
    (record { domain = inside; inside = omega (arith, within, count); is = omega (arith, first, from) })

pub overflow_sub-within : goal.overflow_sub-within
overflow_sub-within c =
    let k = are_blocks c.self.inside c.args.self.now c.self.invariant.0 c.self.view_is c.as_slice-block-items.result.now c.as_slice-block-items.ensures.value in
    let x = k.each c.loop-block.block-index (record { domain = 0; first = 0; count = 0 }) c.loop-block-test.true in
    omega (arith, x.first, c.loop-block.invariant)

pub returns-then-within-block : goal.returns-then-within-block
returns-then-within-block c =
    let k = are_blocks c.self.inside c.args.self.now c.self.invariant.0 c.self.view_is c.as_slice-block-items.result.now c.as_slice-block-items.ensures.value in
    let x = k.each c.loop-block.block-index (record { domain = 0; first = 0; count = 0 }) c.loop-block-test.true in
    there c.args.self.now c.loop-block.block-index c.args.number (get_or c.as_slice-block-items.result.now c.loop-block.block-index (record { domain = 0; first = 0; count = 0 })) x.inside x.domain x.count x.first c.loop-block.invariant c.if-within-block.true

pub loop-block-preserved : goal.loop-block-preserved
loop-block-preserved c =
    let k = are_blocks c.self.inside c.args.self.now c.self.invariant.0 c.self.view_is c.as_slice-block-items.result.now c.as_slice-block-items.ensures.value in
    let x = k.each c.loop-block.block-index (record { domain = 0; first = 0; count = 0 }) c.loop-block-test.true in
    let more = before_more c.loop-block.block-index c.args.self.now.domains x.inside in
    omega (arith, more, x.first, x.count, c.loop-block.invariant, c.if-within-block.false)

pub returns : goal.returns
returns c = λ o n.
    let k = are_blocks c.self.inside c.args.self.now c.self.invariant.0 c.self.view_is c.as_slice-block-items.result.now c.as_slice-block-items.ensures.value in
    let ds = c.args.self.now.domains in
    let end : c.loop-block.block-index ≡ length ds = omega (arith, k.long, c.loop-block-test.false, c.loop-block.auto.block-index-end) in
    let all = ap (λ (d : ℕ). objects_before d ds) end in
    let b = before_all o.domain o.number ds n.domain n.inside in
    omega (arith, b, all, n.is, c.loop-block.invariant)
