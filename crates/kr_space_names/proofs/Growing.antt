-- Types keep their numbers as others are added.
use Rattle.std.proofs.Common.{ℕ, List}
use Rattle.kr_ast.specs.Arena.{Arena}
use Rattle.kr_classes_names.specs.Types.{TypeList, Extends}
use Rattle.kr_classes_names.specs.Numbers.{AreNodeTypes, named_type, number_in}
use Rattle.kr_classes_names.proofs.Growing.{number_kept}

pub node_types_kept : (files : List Arena) (a b : TypeList) (ns : List (List ℕ)) → Extends a b → AreNodeTypes files a ns → AreNodeTypes files b ns
node_types_kept files a b ns e k = λ f n. number_kept a b (number_in ns f n) (named_type files f n) e (k f n)
