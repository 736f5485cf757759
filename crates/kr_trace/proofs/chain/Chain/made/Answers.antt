use Rattle.std.proofs.Common.{ap, ◌∙◌, arith}
use Rattle.kr_trace.specs.Chains.{Made}
use Rattle.kr_trace.proofs.chain.Chain.made.Goals as goal

pub returns : goal.returns
returns c =
    let own = c.self.inside in
    let made = ap (λ (m : Made). m.made) c.self.view_is in
    omega (arith, c.len.ensures, own.nodes.ok.0, made)
