use Rattle.std.proofs.Common.{◌≡◌, sym, ap, ◌∙◌, ◌<◌, List, length, get_or, arith}
use Rattle.std.proofs.Math.ListN.{set}
use Rattle.std.proofs.lemmas.List.{get_or-map, length-map, map-set}
use Rattle.kr_types_scopes.specs.declared.within.Within.{Within}
use Rattle.kr_types_scopes.specs.Kept.{Withins, kept}
use Rattle.kr_types_scopes.specs.Scoped.{nowhere}
use Rattle.kr_types_scopes.proofs.within_list.WithinList.copy.Goals as goal

pub returns : goal.returns
returns c =
    let made = c.self.inside.made.items in
    let ns = c.self.inside.numbers.items in
    let node = c.args.node in
    let from = c.args.from in
    let x = c.index.result.now in
    let items : c.args.self.now.items ≡ kept made ns = sym (ap (λ (w : Withins). w.items) c.self.view_is) in
    let lt : from < length ns = omega (arith, c.requires.from, ap length items, length-map ns (λ k. get_or made k nowhere)) in
    map-set (λ k. get_or made k nowhere) ns node x
    ∙ (ap (λ k. set (kept made ns) node (get_or made k nowhere)) c.index.ensures
    ∙ (ap (set (kept made ns) node) (sym (get_or-map (λ k. get_or made k nowhere) ns from x nowhere lt)) ∙ sym (ap (λ (ws : List Within). set ws node (get_or ws from nowhere)) items)))
