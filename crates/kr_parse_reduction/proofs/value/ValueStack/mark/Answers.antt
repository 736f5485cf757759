use Rattle.std.proofs.Common.{◌≡◌, ◌-◌, List, None, length, sym, ap, ◌∙◌, arith}
use Rattle.std.proofs.lemmas.List.{length-reverse}
use Rattle.std.specs.Prelude.{slice_set}
use Rattle.std.proofs.lemmas.Grind.{common_steps}
use Rattle.kr_parse_reduction.specs.declared.value.Kept.{Kept}
use Rattle.kr_parse_reduction.specs.Kept.{value_in}
use Rattle.kr_parse_reduction.proofs.Stacks.{reverse_set}
use Rattle.kr_parse_reduction.proofs.value.ValueStack.mark.Goals as goal

pub returns : goal.returns
returns c =
    let e : length c.args.self.now ≡ length c.self.inside.items.items = ap length (sym c.self.view_is) ∙ length-reverse c.self.inside.items.items in
    let l : c.len.result ≡ length c.self.inside.items.items = grind (arith, common_steps) in
    rw c.value_in.ensures
    (reverse_set c.self.inside.items.items (c.len.result - 1 - c.args.depth) c.args.depth (value_in None) (omega (arith, c.requires))
    ∙ ap (λ (ys : List Kept). slice_set ys c.args.depth (value_in None)) c.self.view_is)
