use Rattle.kr_code_bodies.proofs.Declared.{maybe_made, none_made}
use Rattle.kr_code_bodies.proofs.constructors.maybe_constructor.Goals as goal

pub returns-in_ok-constructor_at-in-Some-clause-made : goal.returns-in_ok-constructor_at-in-Some-clause-made
returns-in_ok-constructor_at-in-Some-clause-made c = λ arrays names n k h.
    let p = c.args.program.now in
    maybe_made p c.in-Some.node n arrays names c.constructor_at.new.links c.in_ok-constructor_at-in-Some.field-0 (c.in_ok-constructor_at-in-Some.ensures.made arrays names n) k
    (rw c.in-Some.is at h)

pub returns-in-None-clause-made : goal.returns-in-None-clause-made
returns-in-None-clause-made c = λ arrays names n k h.
    let p = c.args.program.now in
    none_made p n arrays names c.args.links.now k (rw c.in-None.is at h)
