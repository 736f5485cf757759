use Rattle.std.proofs.Common.{ℕ, suc, ◌+◌, ◌*◌, ◌^◌, ◌<◌, ◌≤◌, ap, ◌∙◌, arith, rules}
use Rattle.std.proofs.Math.Nat.{mul-le-mul_left}
use Rattle.kr_space_layout.proofs.Objects.{of_objects}
use Rattle.kr_space_layout.proofs.layout.Layout.first_slot.Goals as goal

-- an object's row is one of its class domain's
row : (number count width start total : ℕ) → number < count → start + count * width ≤ total → start + (number * width + width) ≤ total
row number count width start total h r =
    let m : width * suc number ≤ width * count = mul-le-mul_left width (omega arith) in
    omega (arith, m, r)

pub index-start-requires : goal.index-start-requires
index-start-requires c = omega (arith, c.requires.domain, (of_objects c.self.inside c.args.self.now c.self.invariant.0 c.self.view_is).starts, c.self.inside.starts.ok.0)

pub overflow_cast-width : goal.overflow_cast-width
overflow_cast-width c =
    let k = of_objects c.self.inside c.args.self.now c.self.invariant.0 c.self.view_is in
    let r = row c.args.object.number _ _ _ _ c.requires.number (k.room c.args.object.domain c.requires.domain) in
    let f : c.width-width.result < 2 ^ 32 = omega (arith, r, k.small, c.width-width.ensures) in
    search rules

pub overflow_mul-result : goal.overflow_mul-result
overflow_mul-result c =
    let k = of_objects c.self.inside c.args.self.now c.self.invariant.0 c.self.view_is in
    let r = row c.args.object.number _ _ _ _ c.requires.number (k.room c.args.object.domain c.requires.domain) in
    let w = ap (λ (n : ℕ). c.args.object.number * n) c.width-width.ensures in
    let f : c.args.object.number * c.width-width.result < 2 ^ 32 = omega (arith, r, w, k.small) in
    search rules

pub overflow_add-result : goal.overflow_add-result
overflow_add-result c =
    let k = of_objects c.self.inside c.args.self.now c.self.invariant.0 c.self.view_is in
    let r = row c.args.object.number _ _ _ _ c.requires.number (k.room c.args.object.domain c.requires.domain) in
    let w = ap (λ (n : ℕ). c.args.object.number * n) c.width-width.ensures in
    let s = c.index-start.ensures ∙ k.start c.args.object.domain c.index-start.result.now c.requires.domain in
    let f : c.index-start.result.now + c.args.object.number * c.width-width.result < 2 ^ 32 = omega (arith, r, w, s, k.small) in
    search rules

pub returns : goal.returns
returns c =
    let k = of_objects c.self.inside c.args.self.now c.self.invariant.0 c.self.view_is in
    let w = ap (λ (n : ℕ). c.args.object.number * n) c.width-width.ensures in
    let s = c.index-start.ensures ∙ k.start c.args.object.domain c.index-start.result.now c.requires.domain in
    omega (arith, s, w)
