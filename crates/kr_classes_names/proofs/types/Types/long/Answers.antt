use Rattle.std.proofs.Common.{subst}
use Rattle.kr_classes_names.specs.Types.{TypeList, IsTypeNumber}
use Rattle.kr_classes_table.specs.Types.{long_type as the_type}
use Rattle.kr_classes_names.proofs.Made.{list_of}
use Rattle.kr_classes_names.proofs.Growing.{number_at}
use Rattle.kr_classes_names.proofs.types.Types.long.Goals as goal

pub returns : goal.returns
returns c =
    subst (λ (k : TypeList). IsTypeNumber k 5 the_type) c.self.view_is
    (number_at (list_of c.self.inside.names c.self.inside.forms) c.self.inside.known.items c.self.invariant _ _ c.self.invariant.based.long)
