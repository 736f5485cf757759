use Rattle.std.proofs.Common.{map, ap, ◌∙◌}
use Rattle.kr_ast.specs.Arena.{root}
use Rattle.kr_classes_names.proofs.Growing.{extends_on}
use Rattle.kr_space_meaning.specs.Bounds.{item_values, setting_of}
use Rattle.kr_space_rules.proofs.Bounded.{bounds_kept}
use Rattle.kr_space_rules.proofs.EntryLists.{entries_more}
use Rattle.kr_space_rules.proofs.entries.entries_of.Goals as goal

pub loop-item-preserved : goal.loop-item-preserved
loop-item-preserved c =
    let setting = setting_of (map root c.args.trees.now) c.args.document.now in
    record {
      are = entries_more setting c.args.width c.args.items.now _ c.loop-item.found.items _ c.in_ok-entry.entry c.loop-item.item-index _ c.loop-item-test.true c.loop-item.invariant.are c.in_ok-add_found.ensures (c.in_ok-entry.ensures.is ∙ ap (item_values setting c.args.width) c.item-item.is);
      bounds = bounds_kept c.loop-item.types c.entry_of.new.types c.args.document.now.arrays c.args.bounds.now setting.arrays c.entry_of.ensures.extends c.loop-item.invariant.bounds;
      extends = extends_on c.args.types.now c.loop-item.types c.entry_of.new.types c.loop-item.invariant.extends c.entry_of.ensures.extends;
    }
