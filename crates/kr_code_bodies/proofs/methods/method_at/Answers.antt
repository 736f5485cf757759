use Rattle.std.proofs.lemmas.Result.{IfOk-weaker}
use Rattle.kr_code_lowering.specs.Bodies.{Declares}
use Rattle.kr_code_bodies.specs.Made.{IsMethodMade}
use Rattle.kr_code_bodies.proofs.Declared.{is_method, method_made}
use Rattle.kr_code_bodies.proofs.methods.method_at.Goals as goal

pub returns-in-Method-clause-made : goal.returns-in-Method-clause-made
returns-in-Method-clause-made c = λ arrays names m h.
    let p = c.args.program.now in
    let s = c.of-site.result in
    let links = c.method_code.new.links in
    IfOk-weaker c.method_code.result (Declares p arrays s names links) (IsMethodMade p arrays names links m)
    (method_made p s c.args.node (record { site = c.of-site.ensures.site; file = c.of-site.ensures.file; node = c.of-site.ensures.node }) m h arrays names links) (c.method_code.ensures.declares arrays names)

pub returns-in_default-clause-made : goal.returns-in_default-clause-made
returns-in_default-clause-made c = λ arrays names m h.
    absurd (is_method c.args.program.now c.of-site.result c.args.node (record { site = c.of-site.ensures.site; file = c.of-site.ensures.file; node = c.of-site.ensures.node }) m h c.entry-entry.result c.entry-entry.ensures c.in_default.not-Method)
