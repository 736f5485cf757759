use Rattle.std.proofs.Common.{◌≡◌, ◌∙◌, ◌++◌, ◌∷◌, ℕ, List, [], ap}
use Rattle.kr_demo.specs.Texts.{source_text}
use Rattle.korat_top_files.proofs.find.demo_texts.Goals as goal

pub returns : goal.returns
returns c =
    let one : c.push.new.self ≡ source_text c.args.nodes ∷ [] =
    c.in_ok-push.ensures.added ∙ (ap (λ (ts : List (List ℕ)). ts ++ c.in_ok-source.source.items ∷ []) c.new-texts.ensures ∙ ap (λ (t : List ℕ). t ∷ []) c.in_ok-source.ensures.text) in
    one
