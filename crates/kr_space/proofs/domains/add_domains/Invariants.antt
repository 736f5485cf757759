use Rattle.std.proofs.Common.{◌≡◌, ◌++◌, map, drop}
use Rattle.kr_classes_names.specs.Types.{Extends}
use Rattle.kr_space_layout.specs.Items.{domain_of}
use Rattle.kr_space_rules.specs.Classes.{AreTyped}
use Rattle.kr_space_rules.specs.Widths.{asked}
use Rattle.kr_space.specs.Basis.{AreBoundsOn, setting_on}
use Rattle.kr_space.specs.Pools.{all_values}
use Rattle.kr_space.proofs.domains.add_domains.Given as goal

abbrev pub invariant-loop-domain : goal.invariant-loop-domain
invariant-loop-domain l = record {
  added : map domain_of l.initial.domains.items ++ all_values (setting_on l.basis) (asked (setting_on l.basis) l.keyed) l.named ≡ map domain_of l.domains.items ++ all_values (setting_on l.basis) (asked (setting_on l.basis) l.keyed) (drop l.domain-index l.named);
  typed : AreTyped l.basis.classes.now l.types;
  bounds : AreBoundsOn l.types l.basis;
  extends : Extends l.initial.types l.types;
}
