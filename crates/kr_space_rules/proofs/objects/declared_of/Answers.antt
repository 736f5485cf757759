use Rattle.std.proofs.Common.{rules, map}
use Rattle.kr_ast.specs.Arena.{root}
use Rattle.kr_classes_table.specs.Table.{headings_of}
use Rattle.kr_space_rules.proofs.ObjectLists.{declared_more}
use Rattle.kr_space_rules.proofs.objects.declared_of.Goals as goal

pub loop-at-preserved : goal.loop-at-preserved
loop-at-preserved c =
    declared_more (headings_of (map root c.args.trees.now)) c.args.all.now c.loop-at.objects.items _ c.declared_at.result c.loop-at.at (search rules) c.in_ok-add_found.ensures c.loop-at.invariant c.declared_at.ensures.stands c.declared_at.ensures.shown
