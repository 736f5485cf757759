use Rattle.std.proofs.Common.{[]}
use Rattle.kr_mean.specs.Program.{constructor_of, program_with}
use Rattle.kr_code_members.specs.Nodes.{table}
use Rattle.kr_code_bodies.proofs.Assembled.{class_made}
use Rattle.kr_code_bodies.proofs.classes.class_code.Goals as goal

pub returns-clause-made : goal.returns-clause-made
returns-clause-made c = λ arrays names.
    let p = c.args.program.now in
    let k = c.args.class in
    let initial = rw (← c.deref-2.ensures.value) at c.in_ok-own.ensures in
    class_made p k c.requires.class c.add_line.new.links c.add_initialisers.new.links c.maybe_constructor.new.links c.args.nodes.now.items c.add_initialisers.new.nodes.items c.add_defaults.new.values.items c.deref-2.result.now
    c.in_ok-defaults.defaults c.in_ok-line.line c.in_ok-initialisers.initialisers c.in_ok-constructor.constructor
    c.in_ok-defaults.ensures.there c.in_ok-line.ensures.there initial c.in_ok-initialisers.ensures.nodes c.in_ok-initialisers.ensures.grown c.in_ok-initialisers.ensures.there c.in_ok-constructor.ensures.grown
    arrays names (c.in_ok-constructor.ensures.made arrays names k (constructor_of (program_with (table p) []) k) c.requires.members.constructor)
