use Rattle.std.proofs.Common.{◌≡◌, ap, length, arith}
use Rattle.kr_types_scopes.specs.Kept.{Withins, begun}
use Rattle.kr_types_scopes.proofs.Begun.{begun_length}
use Rattle.kr_types_scopes.proofs.node_scopes.NodeScopes.len.Goals as goal

pub returns : goal.returns
returns c =
    let ws = c.self.inside.list.items in
    let ss = c.self.inside.starts.items in
    let items : begun ws ss ≡ c.args.self.now.items = ap (λ (w : Withins). w.items) c.self.view_is in
    omega (arith, c.len.ensures, ap length items, begun_length ws ss, c.self.invariant)
