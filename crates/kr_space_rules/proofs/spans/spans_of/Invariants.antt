use Rattle.std.proofs.Common.{◌≡◌, ◌<◌, ◌++◌, All, map, drop, take}
use Rattle.kr_space_layout.specs.Stretches.{all_choices, stretch_of}
use Rattle.kr_space_rules.specs.Spans.{AreTold, covered, numbers_of}
use Rattle.kr_space_rules.proofs.spans.spans_of.Given as goal

abbrev pub invariant-loop-item : goal.invariant-loop-item
invariant-loop-item l = record {
  covered : numbers_of (all_choices (map (stretch_of l.blocks) l.items)) ≡ covered l.spans.items ++ numbers_of (all_choices (map (stretch_of l.blocks) (drop l.item-index l.items)));
  some : All (λ s. 0 < s.count) l.spans.items;
  told : All (λ i. AreTold (stretch_of l.blocks i)) (take l.item-index l.items);
}
