use Rattle.std.proofs.Common.{◌≡◌, ap, ◌∙◌, List, [], ◌∷◌, ◌++◌}
use Rattle.kr_types_scopes.specs.declared.within.Within.{Within}
use Rattle.kr_types_scopes.specs.Kept.{kept}
use Rattle.kr_types_scopes.specs.Scoped.{nowhere}
use Rattle.kr_types_scopes.proofs.Kept.{kept_none}
use Rattle.kr_types_scopes.proofs.within_list.WithinList.outside.Goals as goal

pub returns : goal.returns
returns c =
    let made : c.push.new.self.items ≡ nowhere ∷ [] =
    c.in_ok-push.ensures.items ∙ (ap (λ (ws : List Within). ws ++ c.outside.result ∷ []) c.new-made.ensures.items ∙ ap (λ (w : Within). w ∷ []) c.outside.ensures) in
    ap (λ (ws : List Within). kept ws c.in_ok-numbers.numbers.items) made
    ∙ (ap (kept (nowhere ∷ [])) (c.in_ok-numbers.ensures.items_if_clones_equal (λ y e. e)) ∙ kept_none c.args.nodes)
