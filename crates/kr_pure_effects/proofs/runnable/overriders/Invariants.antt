use Rattle.std.proofs.Common.{◌≡◌, ◌<◌, length, map}
use Rattle.std.specs.Prelude.{All, flat_map, option_to_list}
use Rattle.std.specs.List.{range_with_len}
use Rattle.kr_value.specs.declared.object.Class.TheVariants.{Object}
use Rattle.kr_classes_members.specs.Shown.{method_shown, table_in}
use Rattle.kr_classes_members.specs.Rosters.{all_methods, method_numbered}
use Rattle.kr_mean.specs.Program.{Program, overriding}
use Rattle.kr_pure_effects.proofs.runnable.overriders.Given as goal

abbrev pub invariant-loop-class : goal.invariant-loop-class
invariant-loop-class l = record {
  within : All (λ k. k < length (all_methods (table_in l.trees))) l.found.items;
  shown : (program : Program) → program.table ≡ table_in l.trees → map (method_numbered (table_in l.trees)) l.found.items ≡ flat_map (λ c. option_to_list (overriding program (method_shown l.trees l.method) (Object c))) (range_with_len 0 l.class);
}
