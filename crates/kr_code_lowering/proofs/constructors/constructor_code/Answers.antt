use Rattle.kr_code_lowering.proofs.Embodied.{constructor_constructs}
use Rattle.kr_code_lowering.proofs.constructors.constructor_code.Goals as goal

pub returns-clause-constructs : goal.returns-clause-constructs
returns-clause-constructs c = λ arrays names.
    let p = c.args.program.now in
    let first = c.parameter_links.new.links in
    let before = c.call_links.new.links in
    let links = c.list_links.new.links in
    let taken = c.in_ok-taken.taken in
    constructor_constructs p c.requires.program c.args.site c.args.entry c.requires.here names first before links c.args.parameters c.args.super_call c.args.body c.requires.node
    (record { parameters = taken; call = c.in_ok-call.call; body = c.in_ok-statements.statements }) c.in_ok-call.ensures.grown c.in_ok-statements.ensures.grown
    (rw c.at.ensures at c.in_ok-taken.ensures.typed)
    (rw c.at-2.ensures at c.in_ok-call.ensures.calls)
    (rw c.at-3.ensures at c.in_ok-statements.ensures.linked)
    arrays
