-- A domain has a value twice where spans of its values meet.
use Rattle.std.proofs.Common.{◌≡◌, ◌<◌, List, [], ◌∷◌, map, sym, ap, ◌∙◌, All}
use Rattle.std.specs.List.{AllByRecursion}
use Rattle.std.specs.List.Sorted.{IsNonDecreasingBy, IsPermutation}
use Rattle.std.proofs.lemmas.List.Sorted.{All-permutation}
use Rattle.std.proofs.lemmas.List.Elements.{recursion_from_All}
use Rattle.kr_mean.specs.Problem.{Choice}
use Rattle.kr_space_layout.specs.declared.item.DomainEntry.{DomainEntry}
use Rattle.kr_space_layout.specs.declared.stretch.Block.{Block}
use Rattle.kr_space_layout.specs.Stretches.{all_choices, choices_of, stretch_of}
use Rattle.kr_space_meaning.specs.Faults.{has_twice}
use Rattle.kr_space_meaning.proofs.Each.{each_of_both}
use Rattle.kr_space_rules.specs.declared.spans.Span.{Span}
use Rattle.kr_space_rules.specs.Spans.{AreTold, IsTold, covered, meet, numbers_of}
use Rattle.kr_space_rules.proofs.Numbering.{choices_told}
use Rattle.kr_space_rules.proofs.Copies.{has_copy, meet_is}
use Rattle.kr_space_rules.proofs.Same.{twice_numbered}

all_told : (blocks : List Block) (items : List DomainEntry) → AllByRecursion (λ i. AreTold (stretch_of blocks i)) items → AllByRecursion (λ (c : Choice). IsTold c.value) (all_choices (map (stretch_of blocks) items))
all_told blocks [] h = tt
all_told blocks (i ∷ is) h =
    each_of_both (λ (c : Choice). IsTold c.value) (choices_of (stretch_of blocks i)) (all_choices (map (stretch_of blocks) is)) (choices_told (stretch_of blocks i) h.0) (all_told blocks is h.1)

pub twice_is : (blocks : List Block) (items : List DomainEntry) (spans sorted : List Span) → covered spans ≡ numbers_of (all_choices (map (stretch_of blocks) items)) → All (λ (s : Span). 0 < s.count) spans → All (λ i. AreTold (stretch_of blocks i)) items
    → IsPermutation spans sorted → IsNonDecreasingBy (λ (s : Span). s.start) sorted → meet (record { start = 0; count = 0 }) sorted ≡ has_twice (all_choices (map (stretch_of blocks) items))
twice_is blocks items spans sorted c f t p o =
    meet_is spans sorted p o (recursion_from_All (λ (s : Span). 0 < s.count) sorted (All-permutation (λ (s : Span). 0 < s.count) spans sorted p f))
    ∙ (ap has_copy c ∙ sym (twice_numbered (all_choices (map (stretch_of blocks) items)) (all_told blocks items (recursion_from_All (λ i. AreTold (stretch_of blocks i)) items t))))
