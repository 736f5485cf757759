use Rattle.std.proofs.Common.{◌∷◌, drop, ap, ◌∙◌}
use Rattle.kr_parse_reduction.specs.declared.value.Kept.{Kept}
use Rattle.kr_parse_reduction.specs.Kept.{value_at}
use Rattle.kr_parse_trees.proofs.Moved.{swap_room, swap_makes}
use Rattle.kr_parse_trees.proofs.builder.Builder.swap.Goals as goal

pub tuck-requires-clause-within : goal.tuck-requires-clause-within
tuck-requires-clause-within c = swap_room c.args.self.now.values c.requires.values

pub returns-clause-built : goal.returns-clause-built
returns-clause-built c =
    let vs = c.args.self.now.values in
    (swap_makes c.args.self.now.forest vs c.tuck.new.self c.requires.values c.requires.built (c.tuck.ensures ∙ ap (λ (v : Kept). value_at vs 1 ∷ v ∷ drop 2 vs) c.value-top.ensures)).0

pub returns-clause-shown : goal.returns-clause-shown
returns-clause-shown c =
    let vs = c.args.self.now.values in
    (swap_makes c.args.self.now.forest vs c.tuck.new.self c.requires.values c.requires.built (c.tuck.ensures ∙ ap (λ (v : Kept). value_at vs 1 ∷ v ∷ drop 2 vs) c.value-top.ensures)).1
