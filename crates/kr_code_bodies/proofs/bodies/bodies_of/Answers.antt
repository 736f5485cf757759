use Rattle.kr_code_members.specs.Nodes.{table}
use Rattle.kr_classes_members.specs.Rosters.{method_numbered}
use Rattle.kr_code_bodies.proofs.Assembled.{bodies_are, method_later}
use Rattle.kr_code_bodies.proofs.bodies.bodies_of.Goals as goal

pub method_codes-requires-clause-nodes : goal.method_codes-requires-clause-nodes
method_codes-requires-clause-nodes c = λ k n i. c.requires.members.methods k n (rw c.deref.ensures.value at i)

pub returns-clause-made : goal.returns-clause-made
returns-clause-made c = λ arrays names final code.
    let p = c.args.program.now in
    let links = c.class_codes.new.links in
    bodies_are p arrays names links c.class_codes.new.nodes.items c.in_ok-made.made.values.items c.in_ok-methods.methods.items c.in_ok-made.made.classes.items
    (λ k m i. method_later p arrays names c.method_codes.new.links links (method_numbered (table p) k) m c.in_ok-made.ensures.grown (c.in_ok-methods.ensures.made arrays names k m i))
    (c.in_ok-made.ensures.made arrays names) final code
