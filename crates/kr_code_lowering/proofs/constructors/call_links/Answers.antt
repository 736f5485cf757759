use Rattle.kr_code_lowering.proofs.Embodied.{call_arguments, no_call}
use Rattle.kr_code_lowering.proofs.constructors.call_links.Goals as goal

pub returns-in_ok-listed-in-ConstructorCall-clause-calls : goal.returns-in_ok-listed-in-ConstructorCall-clause-calls
returns-in_ok-listed-in-ConstructorCall-clause-calls c =
    let p = c.args.program.now in
    let links = c.list_links.new.links in
    call_arguments p c.requires.program c.args.call c.entry.result c.entry.ensures links c.in-ConstructorCall.arguments c.in-ConstructorCall.is c.in_ok-listed-in-ConstructorCall.listed (rw c.at.ensures at c.in_ok-listed-in-ConstructorCall.ensures.linked)

pub returns-in_default-clause-calls : goal.returns-in_default-clause-calls
returns-in_default-clause-calls c = no_call c.args.program.now c.requires.program c.args.call c.entry.result c.entry.ensures c.args.links.now c.in_default.not-ConstructorCall
