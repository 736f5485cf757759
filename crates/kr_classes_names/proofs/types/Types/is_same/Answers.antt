use Rattle.std.proofs.Common.{◌≡◌, ◌<◌, sym, subst, nat_eq}
use Rattle.kr_classes_table.specs.Types.{is_same}
use Rattle.kr_classes_names.specs.Types.{TypeList, count, type_at}
use Rattle.kr_classes_names.proofs.Made.{list_of}
use Rattle.kr_classes_names.proofs.Same.{numbers_same}
use Rattle.kr_classes_names.proofs.types.Types.is_same.Goals as goal

pub returns : goal.returns
returns c =
    let l = list_of c.self.inside.names c.self.inside.forms in
    let a : c.args.a < count l = subst (λ (k : TypeList). c.args.a < count k) (sym c.self.view_is) c.requires.first in
    let b : c.args.b < count l = subst (λ (k : TypeList). c.args.b < count k) (sym c.self.view_is) c.requires.second in
    subst (λ (k : TypeList). nat_eq c.args.a c.args.b ≡ is_same (type_at k c.args.a) (type_at k c.args.b)) c.self.view_is (numbers_same l c.self.inside.known.items c.self.invariant c.args.a c.args.b a b)
