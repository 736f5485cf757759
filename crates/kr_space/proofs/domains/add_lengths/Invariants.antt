use Rattle.std.proofs.Common.{◌≡◌, ◌++◌, map, drop}
use Rattle.kr_classes_names.specs.Types.{Extends}
use Rattle.kr_space_layout.specs.Items.{domain_of}
use Rattle.kr_space.specs.Basis.{AreBoundsOn, setting_on}
use Rattle.kr_space.specs.Pools.{all_lengths}
use Rattle.kr_space.proofs.domains.add_lengths.Given as goal

abbrev pub invariant-loop-bound : goal.invariant-loop-bound
invariant-loop-bound l = record {
  added : map domain_of l.initial.domains.items ++ all_lengths (setting_on l.basis) l.arrays ≡ map domain_of l.domains.items ++ all_lengths (setting_on l.basis) (drop l.bound-index l.arrays);
  bounds : AreBoundsOn l.types l.basis;
  extends : Extends l.initial.types l.types;
}
