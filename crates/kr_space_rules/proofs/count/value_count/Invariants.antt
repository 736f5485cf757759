use Rattle.std.proofs.Common.{◌≡◌, ◌<◌, ◌+◌, ◌-◌, ◌^◌, length, map, min, drop}
use Rattle.kr_space_layout.specs.Stretches.{all_choices, stretch_of}
use Rattle.kr_space_rules.proofs.count.value_count.Given as goal

abbrev pub invariant-loop-item : goal.invariant-loop-item
invariant-loop-item l = record {
  is : min (length (all_choices (map (stretch_of l.blocks) l.items))) (2 ^ 64 - 1)
      ≡ min (l.count + length (all_choices (map (stretch_of l.blocks) (drop l.item-index l.items)))) (2 ^ 64 - 1);
  small : l.count < 2 ^ 64;
}
