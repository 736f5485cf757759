-- Scopes of nodes by their numbers among those that were made.
use Rattle.std.proofs.Common.{◌≡◌, refl, ap, ◌∙◌, ℕ, zero, suc, ◌<◌, List, [], ◌∷◌, ◌++◌, length, get_or, replicate, All}
use Rattle.std.proofs.Math.ListN.{set}
use Rattle.std.proofs.Math.Seq.{get_or-append_seam}
use Rattle.std.proofs.lemmas.List.{get_or_append_left, map-set}
use Rattle.std.proofs.lemmas.List.Elements.{All-head, All-tail}
use Rattle.kr_types_scopes.specs.declared.within.Within.{Within}
use Rattle.kr_types_scopes.specs.Kept.{kept}
use Rattle.kr_types_scopes.specs.Scoped.{nowhere}

pub kept_none : (n : ℕ) → kept (nowhere ∷ []) (replicate n 0) ≡ replicate n nowhere
kept_none zero = refl
kept_none (suc n) = ap (λ ws. nowhere ∷ ws) (kept_none n)

kept_more : (made : List Within) (ns : List ℕ) (w : Within) → All (λ k. k < length made) ns → kept (made ++ w ∷ []) ns ≡ kept made ns
kept_more made [] w h = refl
kept_more made (n ∷ ns) w h =
    ap (λ x. x ∷ kept (made ++ w ∷ []) ns) (get_or_append_left made (w ∷ []) nowhere n (All-head (λ k. k < length made) n ns h))
    ∙ ap (λ ws. get_or made n nowhere ∷ ws) (kept_more made ns w (All-tail (λ k. k < length made) n ns h))

pub kept_put : (made : List Within) (ns : List ℕ) (node : ℕ) (w : Within) → All (λ k. k < length made) ns → kept (made ++ w ∷ []) (set ns node (length made)) ≡ set (kept made ns) node w
kept_put made ns node w h =
    map-set (λ k. get_or (made ++ w ∷ []) k nowhere) ns node (length made)
    ∙ (ap (set (kept (made ++ w ∷ []) ns) node) (get_or-append_seam made w [] nowhere) ∙ ap (λ ws. set ws node w) (kept_more made ns w h))
