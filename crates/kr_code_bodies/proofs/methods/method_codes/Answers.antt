use Rattle.std.proofs.Common.{ap, [], ◌∷◌, length, length-append, get_or, arith}
use Rattle.std.proofs.lemmas.Option.{slice_get-get_or}
use Rattle.kr_code_members.specs.Nodes.{table}
use Rattle.kr_classes_members.specs.Rosters.{method_numbered}
use Rattle.kr_code_members.specs.declared.nodes.MethodNode.{MethodNode}
use Rattle.kr_code_members.proofs.Zipped.{each_push}
use Rattle.kr_code_lowering.proofs.Growth.{grown_on}
use Rattle.kr_code_bodies.specs.Made.{IsMethodNumbered}
use Rattle.kr_code_bodies.proofs.Assembled.{method_later}
use Rattle.kr_code_bodies.proofs.methods.method_codes.Goals as goal

pub method_at-requires-clause-there : goal.method_at-requires-clause-there
method_at-requires-clause-there c =
    let ns = c.args.nodes.now in
    let i = c.loop-node.node-index in
    let none : MethodNode = record { file = 0; class = 0; node = 0; contracts = 0; body = 0 } in
    (c.requires.nodes i (get_or ns i none) (slice_get-get_or ns i none (omega arith))).member.there

pub loop-node-preserved : goal.loop-node-preserved
loop-node-preserved c =
    let p = c.args.program.now in
    let ns = c.args.nodes.now in
    let i = c.loop-node.node-index in
    let none : MethodNode = record { file = 0; class = 0; node = 0; contracts = 0; body = 0 } in
    let node = c.requires.nodes i (get_or ns i none) (slice_get-get_or ns i none (omega arith)) in
    let inv = c.loop-node.invariant in
    let links = c.method_at.new.links in
    let made = c.in_ok-method_at.field-0 in
    record {
      grown = grown_on c.args.links.now c.loop-node.links links inv.grown c.method_at.ensures.grown;
      count = omega (arith, inv.count, ap length c.in_ok-push.ensures.items, length-append c.loop-node.made.items (made ∷ []));
      made = λ arrays names. each_push (IsMethodNumbered p arrays names links) c.loop-node.made.items _ made i c.in_ok-push.ensures.items inv.count (c.in_ok-method_at.ensures.made arrays names (method_numbered (table p) i) node)
          (λ k m e. method_later p arrays names c.loop-node.links links (method_numbered (table p) k) m c.method_at.ensures.grown (inv.made arrays names k m e));
    }
