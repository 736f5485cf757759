use Rattle.std.proofs.Common.{rules, map, take}
use Rattle.kr_ast.specs.Arena.{root}
use Rattle.kr_classes_table.specs.Table.{headings_of}
use Rattle.kr_classes_names.proofs.Growing.{extends_on}
use Rattle.kr_space_meaning.specs.Bounds.{bounded}
use Rattle.kr_space_rules.proofs.Bounded.{bounds_kept, bounds_more}
use Rattle.kr_space_rules.proofs.bounds.bounds_of.Goals as goal

pub loop-at-preserved : goal.loop-at-preserved
loop-at-preserved c =
    let hs = headings_of (map root c.args.trees.now) in
    let all = c.args.all.now in
    let kept = bounds_kept c.loop-at.types c.bound_at.new.types all c.loop-at.bounds.items (bounded hs (take c.loop-at.at all)) c.bound_at.ensures.extends c.loop-at.invariant.bounds in
    record {
      bounds = bounds_more c.bound_at.new.types hs all c.loop-at.bounds.items _ c.in_ok-found.found c.loop-at.at (search rules) c.in_ok-add_found.ensures kept c.in_ok-found.ensures.stands c.in_ok-found.ensures.shown;
      extends = extends_on c.args.types.now c.loop-at.types c.bound_at.new.types c.loop-at.invariant.extends c.bound_at.ensures.extends;
    }
