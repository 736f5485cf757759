use Rattle.std.proofs.Common.{◌≡◌, List, drop, map}
use Rattle.kr_ast.specs.Arena.{Arena}
use Rattle.kr_classes_members.specs.Shown.{table_in}
use Rattle.kr_classes_members.specs.Kept.{AreMembers}
use Rattle.kr_classes_names.specs.Types.{type_at}
use Rattle.kr_mean.specs.Program.{Program}
use Rattle.kr_pure_effects.specs.Touches.{touches_some}
use Rattle.kr_pure_effects.proofs.touch.touches_one.Given as goal

abbrev pub invariant-loop-domain : goal.invariant-loop-domain
invariant-loop-domain l = (files : List Arena) (program : Program) → AreMembers files l.members → program.table ≡ table_in files → program.arrays ≡ map (type_at l.types) l.arrays
    → touches_some program l.types l.touch (drop l.domain l.layout.domains) ≡ touches_some program l.types l.touch l.layout.domains
