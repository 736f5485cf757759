use Rattle.std.proofs.Common.{◌≡◌, ◌<◌, sym, ap, ◌∙◌, List, length, get_or, arith}
use Rattle.kr_types_scopes.specs.declared.within.Within.{Within}
use Rattle.kr_types_scopes.specs.Kept.{Withins, begun}
use Rattle.kr_types_scopes.specs.Scoped.{nowhere}
use Rattle.kr_types_scopes.proofs.Begun.{begun_at, begun_length, with_start}
use Rattle.kr_types_scopes.proofs.node_scopes.NodeScopes.at.Goals as goal

pub at-here-requires : goal.at-here-requires
at-here-requires c =
    let ws = c.self.inside.list.items in
    let ss = c.self.inside.starts.items in
    let items : begun ws ss ≡ c.args.self.now.items = ap (λ (w : Withins). w.items) c.self.view_is in
    omega (arith, c.requires, ap length items, begun_length ws ss)

pub index-requires : goal.index-requires
index-requires c =
    let ws = c.self.inside.list.items in
    let ss = c.self.inside.starts.items in
    let items : begun ws ss ≡ c.args.self.now.items = ap (λ (w : Withins). w.items) c.self.view_is in
    omega (arith, c.requires, ap length items, begun_length ws ss, c.self.invariant)

pub returns : goal.returns
returns c =
    let ws = c.self.inside.list.items in
    let ss = c.self.inside.starts.items in
    let i = c.args.node in
    let x = c.index.result.now in
    let items : begun ws ss ≡ c.args.self.now.items = ap (λ (w : Withins). w.items) c.self.view_is in
    let lt : i < length ss = omega (arith, c.requires, ap length items, begun_length ws ss, c.self.invariant) in
    ap (λ (w : Within). with_start w x) c.at-here.ensures
    ∙ (ap (with_start (get_or ws i nowhere)) c.index.ensures
    ∙ (sym (begun_at ws ss i x c.self.invariant lt) ∙ ap (λ (us : List Within). get_or us i nowhere) items))
