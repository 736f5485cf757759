use Rattle.std.proofs.Common.{◌≡◌, ◌∙◌, subst, List, ℕ}
use Rattle.kr_classes_names.specs.Listed.{place_of}
use Rattle.kr_classes_names.proofs.Indexes.{looked}
use Rattle.kr_classes_names.proofs.names.Index.find.Goals as goal

pub returns : goal.returns
returns c =
    let q = c.args.name.now in
    subst (λ (es : List (List ℕ × ℕ)). c.copied.result ≡ place_of q es) c.self.view_is (c.copied.ensures ∙ c.get.ensures.value ∙ looked (λ k. k.items) q c.self.inside.first.entries)
