-- The tree of the predefined classes is of the shape of classes.
use Rattle.kr_ast.specs.Tree.{Tree}
use Rattle.kr_classes_table.specs.Predefined.{predefined}
use Rattle.kr_laws_types.specs.Derivation.{AreClasses}

pub predefined_shape : AreClasses predefined
unfolding predefined
predefined_shape =
    ((tt, tt), ((tt, tt), ((tt, tt), ((tt, tt), ((tt, tt), ((tt, tt), ((tt, tt), ((tt, tt), ((tt, tt), ((tt, tt), ((tt, tt), ((tt, tt), ((tt, tt), tt)))))))))))))
