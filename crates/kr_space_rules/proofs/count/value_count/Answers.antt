use Rattle.std.proofs.Common.{◌≡◌, ◌+◌, ◌-◌, ◌^◌, ℕ, List, length, map, min, ap, ◌∙◌, drop, arith}
use Rattle.std.proofs.lemmas.List.{drop_all}
use Rattle.kr_space_layout.specs.declared.item.DomainEntry.{DomainEntry}
use Rattle.kr_space_layout.specs.Stretches.{all_choices, stretch_of}
use Rattle.kr_space_rules.proofs.Numbers.{counted_more}
use Rattle.kr_space_rules.proofs.count.value_count.Goals as goal

pub loop-item-preserved : goal.loop-item-preserved
loop-item-preserved c = record {
  is = counted_more c.args.blocks.now c.args.items.now (length (all_choices (map (stretch_of c.args.blocks.now) c.args.items.now))) c.loop-item.item-index c.loop-item.count c.saturating_add-count.result _ c.of.result c.loop-item-test.true c.loop-item.invariant.is c.of.ensures
      (omega (arith, c.saturating_add-count.ensures, c.capped_count.ensures));
  small = c.saturating_add-count.type_inv;
}

pub returns : goal.returns
returns c =
    let none : length (all_choices (map (stretch_of c.args.blocks.now) (drop c.loop-item.item-index c.args.items.now))) ≡ 0 = ap (λ (is : List DomainEntry). length (all_choices (map (stretch_of c.args.blocks.now) is))) (drop_all c.loop-item.item-index c.args.items.now c.loop-item-test.false) in
    omega (arith, c.loop-item.invariant.is, c.loop-item.invariant.small, none)
