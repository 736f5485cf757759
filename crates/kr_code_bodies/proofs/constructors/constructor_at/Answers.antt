use Rattle.std.specs.Prelude.{Some}
use Rattle.std.proofs.lemmas.Result.{IfOk-weaker}
use Rattle.kr_code_lowering.specs.Bodies.{Constructs}
use Rattle.kr_code_bodies.specs.Made.{IsConstructorMade}
use Rattle.kr_code_bodies.proofs.Declared.{constructor_made, is_constructor}
use Rattle.kr_code_bodies.proofs.constructors.constructor_at.Goals as goal

pub returns-in-Constructor-clause-made : goal.returns-in-Constructor-clause-made
returns-in-Constructor-clause-made c = λ arrays names n k h.
    let p = c.args.program.now in
    let s = c.of-site.result in
    let links = c.constructor_code.new.links in
    IfOk-weaker c.constructor_code.result (Constructs p arrays s names links) (λ made. IsConstructorMade p arrays names links n (Some k) (Some made))
    (constructor_made p s c.args.node (record { site = c.of-site.ensures.site; file = c.of-site.ensures.file; node = c.of-site.ensures.node }) n k h arrays names links) (c.constructor_code.ensures.constructs arrays names)

pub returns-in_default-clause-made : goal.returns-in_default-clause-made
returns-in_default-clause-made c = λ arrays names n k h.
    absurd (is_constructor c.args.program.now c.of-site.result c.args.node (record { site = c.of-site.ensures.site; file = c.of-site.ensures.file; node = c.of-site.ensures.node }) n k h c.entry-entry.result c.entry-entry.ensures c.in_default.not-Constructor)
