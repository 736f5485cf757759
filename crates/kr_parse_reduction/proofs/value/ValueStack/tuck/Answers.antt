use Rattle.std.proofs.Common.{◌≡◌, ◌+◌, ◌-◌, ◌∷◌, [], List, length, take, drop, reverse, refl, sym, ap, ◌∙◌, arith}
use Rattle.std.proofs.lemmas.List.{length-reverse, reverse-append}
use Rattle.std.proofs.lemmas.Grind.{common_steps}
use Rattle.kr_parse_reduction.specs.declared.value.Kept.{Kept}
use Rattle.kr_parse_reduction.specs.Kept.{value_in, value_at}
use Rattle.kr_parse_reduction.proofs.Stacks.{reverse_take, tucked}
use Rattle.kr_parse_reduction.proofs.value.ValueStack.tuck.Goals as goal

pub returns : goal.returns
returns c =
    let xs = c.self.inside.items.items in
    let e : length c.args.self.now ≡ length xs = ap length (sym c.self.view_is) ∙ length-reverse xs in
    let l : c.len.result ≡ length xs = grind (arith, common_steps) in
    let b = c.len.result - c.args.count in
    let k : value_at c.args.self.now c.args.depth ≡ c.top-above.result.now = ap value_in c.top-above.ensures in
    ap reverse c.truncate.ensures.items
    ∙ ap reverse (tucked xs b c.args.count (b + 1) (b + 2) c.args.value c.top-above.result.now (omega (arith, c.requires.within)) c.requires.room refl refl)
    ∙ reverse-append (take b xs) (c.args.value ∷ c.top-above.result.now ∷ [])
    ∙ ap (λ (ys : List Kept). c.top-above.result.now ∷ c.args.value ∷ ys) (reverse_take xs b c.args.count (omega (arith, c.requires.within)) ∙ ap (drop c.args.count) c.self.view_is)
    ∙ ap (λ (v : Kept). v ∷ c.args.value ∷ drop c.args.count c.args.self.now) (sym k)
