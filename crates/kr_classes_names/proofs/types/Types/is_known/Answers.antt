use Rattle.std.proofs.Common.{◌≡◌, ◌<◌, sym, ap, subst, arith}
use Rattle.kr_classes_table.specs.Types.{is_known}
use Rattle.kr_classes_names.specs.Types.{TypeList, count, type_at}
use Rattle.kr_classes_names.proofs.Made.{list_of}
use Rattle.kr_classes_names.proofs.Growing.{known_count, known_got}
use Rattle.kr_classes_names.proofs.types.Types.is_known.Goals as goal

pub index-requires : goal.index-requires
index-requires c =
    let l = list_of c.self.inside.names c.self.inside.forms in
    let e = known_count l c.self.inside.known.items c.self.invariant in
    let v = ap count c.self.view_is in
    omega (arith, e, v)

pub returns : goal.returns
returns c =
    let l = list_of c.self.inside.names c.self.inside.forms in
    let b : c.args.number < count l = subst (λ (k : TypeList). c.args.number < count k) (sym c.self.view_is) c.requires in
    subst (λ (k : TypeList). c.index.result.now ≡ is_known (type_at k c.args.number)) c.self.view_is (known_got l c.self.inside.known.items c.self.invariant c.args.number c.index.result.now b c.index.ensures)
