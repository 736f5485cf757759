use Rattle.std.proofs.Common.{sym, subst}
use Rattle.kr_classes_names.specs.Types.{AreDistinct, TypeList}
use Rattle.kr_classes_names.proofs.Made.{list_of}
use Rattle.kr_classes_names.proofs.Same.{numbers_same}
use Rattle.kr_classes_names.proofs.types.Types.distinct_law.Goals as goal

pub returns : goal.returns
returns c =
    let l = list_of c.self.inside.names c.self.inside.forms in
    subst (λ (k : TypeList). AreDistinct k) c.self.view_is (λ m n g h. sym (numbers_same l c.self.inside.known.items c.self.invariant m n g h))
