use Rattle.std.proofs.Common.{List, ℕ, ◌∙◌, ap, sym}
use Rattle.kr_base.specs.Inside.{onward}
use Rattle.kr_base.proofs.Insides.{at_start}
use Rattle.kr_base.proofs.cut.Cut.inside.Goals as goal

pub loop-number-init : goal.loop-number-init
loop-number-init c = at_start c.as_slice-number-items.result.now c.args.bound.now ∙ ap (λ (f : List ℕ). onward f c.as_slice-number-items.result.now c.args.bound.now) (sym c.new-front.ensures.items)
