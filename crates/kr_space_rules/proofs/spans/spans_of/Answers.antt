use Rattle.std.proofs.Common.{◌≡◌, ◌<◌, ◌+◌, ◌++◌, ℕ, List, length, get_or, All, map, ap, sym, subst, ◌∙◌, drop, take}
use Rattle.std.proofs.lemmas.List.{append_assoc, drop_more, map-append, take_all, take_more}
use Rattle.std.proofs.lemmas.List.Elements.{All-push}
use Rattle.kr_space_layout.specs.declared.item.DomainEntry.{DomainEntry}
use Rattle.kr_space_layout.specs.declared.stretch.Block.{Block}
use Rattle.kr_space_layout.specs.declared.stretch.Stretch.{Stretch}
use Rattle.kr_space_layout.specs.Stretches.{all_choices, choices_of, stretch_of}
use Rattle.kr_space_rules.specs.Spans.{AreTold, covered, numbers_of}
use Rattle.kr_space_rules.proofs.spans.spans_of.Goals as goal

-- the values of one entry more
more : (blocks : List Block) (items : List DomainEntry) (all old new : List ℕ) (i : ℕ) (x : DomainEntry) → i < length items → all ≡ old ++ numbers_of (all_choices (map (stretch_of blocks) (drop i items)))
    → new ≡ old ++ numbers_of (choices_of (stretch_of blocks (get_or items i x))) → all ≡ new ++ numbers_of (all_choices (map (stretch_of blocks) (drop (i + 1) items)))
more blocks items all old new i x h e n =
    let own = choices_of (stretch_of blocks (get_or items i x)) in
    let rest = all_choices (map (stretch_of blocks) (drop (i + 1) items)) in
    e ∙ (ap (λ (is : List DomainEntry). old ++ numbers_of (all_choices (map (stretch_of blocks) is))) (drop_more items i x h)
    ∙ (ap (λ (xs : List ℕ). old ++ xs) (map-append _ own rest)
    ∙ (sym (append_assoc old (numbers_of own) (numbers_of rest)) ∙ ap (λ (xs : List ℕ). xs ++ numbers_of rest) (sym n))))

told_more : (P : DomainEntry → Type 0) (items : List DomainEntry) (i : ℕ) (x : DomainEntry) → i < length items → All P (take i items) → P (get_or items i x) → All P (take (i + 1) items)
told_more P items i x h a p = subst (λ (is : List DomainEntry). All P is) (sym (take_more items i x h)) (All-push P (take i items) (get_or items i x) a p)

told_at : (blocks : List Block) (s t : Stretch) → s ≡ t → AreTold s → AreTold t
told_at blocks s t e h = subst (λ (r : Stretch). AreTold r) e h

value_at : (old new : List ℕ) (s t : Stretch) → s ≡ t → new ≡ old ++ numbers_of (choices_of s) → new ≡ old ++ numbers_of (choices_of t)
value_at old new s t e n = n ∙ ap (λ (r : Stretch). old ++ numbers_of (choices_of r)) e

pub loop-item-preserved : goal.loop-item-preserved
loop-item-preserved c =
    let blocks = c.args.blocks.now in
    let items = c.args.items.now in
    let i = c.loop-item.item-index in
    record {
      covered = more blocks items _ (covered c.loop-item.spans.items) (covered c.add_stretch.new.spans.items) i _ c.loop-item-test.true c.loop-item.invariant.covered
          (value_at (covered c.loop-item.spans.items) (covered c.add_stretch.new.spans.items) c.of.result _ c.of.ensures c.in_ok-add_stretch.ensures.covered);
      some = c.in_ok-add_stretch.ensures.some c.loop-item.invariant.some;
      told = told_more (λ i. AreTold (stretch_of blocks i)) items i _ c.loop-item-test.true c.loop-item.invariant.told (told_at blocks c.of.result _ c.of.ensures c.in_ok-add_stretch.ensures.told);
    }

pub returns-clause-told : goal.returns-clause-told
returns-clause-told c =
    subst (λ (is : List DomainEntry). All (λ i. AreTold (stretch_of c.args.blocks.now i)) is) (take_all c.loop-item.item-index c.args.items.now c.loop-item-test.false) c.loop-item.invariant.told
