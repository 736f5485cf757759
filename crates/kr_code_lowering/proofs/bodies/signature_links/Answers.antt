use Rattle.std.proofs.Common.{◌≡◌, sym, ◌∙◌}
use Rattle.std.proofs.lemmas.Result.{IfOk-weaker}
use Rattle.kr_ast.specs.Tree as trees
use Rattle.kr_ast.specs.declared.node.Node.TheVariants as nodes
use Rattle.kr_code_lowering.specs.Origins.{node_tree}
use Rattle.kr_code_lowering.proofs.Parts.{tree_is}
use Rattle.kr_code_lowering.proofs.bodies.signature_links.Goals as goal

pub returns-in-Signature-clause-typed : goal.returns-in-Signature-clause-typed
returns-in-Signature-clause-typed c =
    let p = c.args.program.now in
    let s = c.args.signature in
    let n = c.in-Signature in
    let look = node_tree p s.file in
    let links = c.parameter_links.new.links in
    let tree = tree_is p s c.entry.result (nodes.Signature n.result n.parameters n.contracts) c.entry.ensures n.is in
    IfOk-weaker c.parameter_links.result _ _ (λ listed typed q r ps cs e.
    let both : trees.Signature c.entry.result.place (look n.result) (look n.parameters) (look n.contracts) ≡ trees.Signature q r ps cs = sym tree ∙ e in
    let same : look n.parameters ≡ ps = cc in
    rw same at (rw c.at.ensures at typed)) c.parameter_links.ensures.typed
