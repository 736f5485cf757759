-- The segments that a span and its cuts begin with, made one after another.
use Rattle.std.proofs.Common.{◌≡◌, ℕ, ◌≤◌, List, [], ◌∷◌, ◌++◌, length, drop, sym, ap, ◌∙◌}
use Rattle.std.proofs.lemmas.List.{at_drop_all}
use Rattle.kr_base.specs.declared.span.Bound.{Bound}
use Rattle.kr_core.specs.declared.segment.Segment.{Segment}
use Rattle.kr_core.specs.Openings.{segments_at, untouched}

-- the last one
pub opened : (n i : ℕ) (begin end e : Bound) (cuts : List (List ℕ)) (made new all : List Segment) (s : Segment) → length cuts ≤ i → n ≡ i
    → all ≡ made ++ segments_at i begin (drop i cuts) end → e ≡ end → s ≡ untouched n begin e → new ≡ made ++ s ∷ [] → new ≡ all
opened n i begin end e cuts made new all s past same before is here added =
    let none : segments_at i begin (drop i cuts) end ≡ untouched i begin end ∷ [] = at_drop_all (λ (cs : List (List ℕ)). segments_at i begin cs end) cuts i past in
    let t : s ≡ untouched i begin end = here ∙ (ap (λ (k : ℕ). untouched k begin e) same ∙ ap (λ (b : Bound). untouched i begin b) is) in
    added ∙ (ap (λ (x : Segment). made ++ x ∷ []) t ∙ (ap (λ (xs : List Segment). made ++ xs) (sym none) ∙ sym before))
