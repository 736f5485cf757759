use Rattle.std.proofs.Common.{ℕ, ◌+◌, ◌<◌, ◌^◌, sym, ap, ◌∙◌, arith, rules, subst}
use Rattle.kr_space_layout.proofs.Objects.{of_objects}
use Rattle.kr_space_layout.specs.declared.stretch.Block.{Block}
use Rattle.kr_space_layout.specs.Stretches.{IsNumbered}
use Rattle.kr_space_layout.proofs.layout.Layout.heap_number.Goals as goal

pub index-requires : goal.index-requires
index-requires c = omega (arith, c.requires.domain, (of_objects c.self.inside c.args.self.now c.self.invariant.0 c.self.view_is).blocks, c.self.inside.blocks.ok.0)

pub overflow_add-result : goal.overflow_add-result
overflow_add-result c =
    let k = of_objects c.self.inside c.args.self.now c.self.invariant.0 c.self.view_is in
    let n : IsNumbered c.index.result.now = subst IsNumbered (sym c.index.ensures) (k.numbered c.args.object.domain c.index.result.now c.requires.domain) in
    let m = ap (λ (b : Block). b.count) c.index.ensures ∙ k.count c.args.object.domain c.index.result.now c.requires.domain in
    let f : c.index.result.now.first + c.args.object.number < 2 ^ 32 = omega (arith, n, m, c.requires.number) in
    search rules

pub returns : goal.returns
returns c =
    let k = of_objects c.self.inside c.args.self.now c.self.invariant.0 c.self.view_is in
    ap (λ (b : Block). b.first + c.args.object.number) c.index.ensures ∙ ap (λ (n : ℕ). n + c.args.object.number) (k.first c.args.object.domain c.index.result.now c.requires.domain)
