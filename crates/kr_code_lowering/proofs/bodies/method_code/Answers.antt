use Rattle.kr_classes_table.specs.Types.{is_void}
use Rattle.kr_code_lowering.proofs.Embodied.{method_declares}
use Rattle.kr_code_lowering.proofs.bodies.method_code.Goals as goal

pub returns-clause-declares : goal.returns-clause-declares
returns-clause-declares c = λ arrays names.
    let p = c.args.program.now in
    let before = c.signature_links.new.links in
    let links = c.list_links.new.links in
    let void = c.is_void-is_void.result in
    let taken = c.in_ok-parameters.parameters in
    method_declares p c.requires.program c.args.site c.args.entry c.requires.here names before links c.args.is_static c.args.name c.args.signature c.args.body c.requires.node
    (record { parameters = taken; is_void = void; body = c.in_ok-statements.statements }) c.in_ok-statements.ensures.grown
    (rw c.at-3.ensures at c.in_ok-statements.ensures.linked)
    (rw c.at-2.ensures at c.in_ok-parameters.ensures.typed)
    (rw c.at.ensures at c.is_void-is_void.ensures)
    arrays
