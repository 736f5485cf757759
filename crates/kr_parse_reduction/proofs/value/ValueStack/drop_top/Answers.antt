use Rattle.std.proofs.Common.{◌≡◌, ◌-◌, length, drop, reverse, sym, ap, ◌∙◌, arith}
use Rattle.std.proofs.lemmas.List.{length-reverse}
use Rattle.std.proofs.lemmas.Grind.{common_steps}
use Rattle.kr_parse_reduction.proofs.Stacks.{reverse_take}
use Rattle.kr_parse_reduction.proofs.value.ValueStack.drop_top.Goals as goal

pub returns : goal.returns
returns c =
    let e : length c.args.self.now ≡ length c.self.inside.items.items = ap length (sym c.self.view_is) ∙ length-reverse c.self.inside.items.items in
    let l : c.len.result ≡ length c.self.inside.items.items = grind (arith, common_steps) in
    ap reverse (c.give_back.ensures ∙ c.truncate.ensures.items)
    ∙ reverse_take c.self.inside.items.items (c.len.result - c.args.count) c.args.count (omega (arith, c.requires))
    ∙ ap (drop c.args.count) c.self.view_is
