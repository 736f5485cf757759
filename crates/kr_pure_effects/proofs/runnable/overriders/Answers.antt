use Rattle.std.proofs.Common.{◌≡◌, ap, ◌∙◌, ℕ, ◌<◌, length, arith}
use Rattle.std.specs.Prelude.{flat_map, option_to_list}
use Rattle.std.specs.List.{range_with_len}
use Rattle.kr_classes_table.specs.Table.{Table}
use Rattle.kr_value.specs.declared.object.Class.TheVariants.{Object}
use Rattle.kr_classes_members.specs.Shown.{method_shown, table_in}
use Rattle.kr_classes_members.specs.Rosters.{all_methods, method_numbered}
use Rattle.kr_base.proofs.Added.{found_stands}
use Rattle.kr_mean.specs.Program.{overriding}
use Rattle.kr_pure_effects.proofs.Overridden.{class_more}
use Rattle.kr_pure_effects.proofs.runnable.overriders.Goals as goal

pub loop-class-preserved : goal.loop-class-preserved
loop-class-preserved c =
    let files = c.args.trees.now in
    let t = table_in files in
    let kept = c.loop-class.found.items in
    record {
      within = found_stands (λ k. k < length (all_methods t)) kept _ c.overrider.result c.in_ok-add_found.ensures c.loop-class.invariant.within c.overrider.ensures.within;
      shown = λ program e. class_more (method_numbered t) (λ d. overriding program (method_shown files c.args.method) (Object d)) kept _ c.overrider.result c.loop-class.class c.in_ok-add_found.ensures
          (c.loop-class.invariant.shown program e) (c.overrider.ensures.shown program e);
    }

pub returns-clause-shown : goal.returns-clause-shown
returns-clause-shown c = λ program e.
    let files = c.args.trees.now in
    let all = c.len-classes.ensures.all files c.requires.members in
    let count : c.loop-class.class ≡ length program.table.classes = omega (arith, all, ap (λ (t : Table). length t.classes) e) in
    c.loop-class.invariant.shown program e ∙ ap (λ (n : ℕ). flat_map (λ d. option_to_list (overriding program (method_shown files c.args.method) (Object d))) (range_with_len 0 n)) count
