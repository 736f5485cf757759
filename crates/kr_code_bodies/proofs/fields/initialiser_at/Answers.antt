use Rattle.std.proofs.Common.{sym, ◌∙◌}
use Rattle.kr_code_bodies.proofs.Initial.{none_static, none_written, written}
use Rattle.kr_code_bodies.proofs.fields.initialiser_at.Goals as goal

pub returns-in_default : goal.returns-in_default
returns-in_default c = λ f h number.
    rw c.code_number.ensures (written c.args.program.now c.requires.program c.args.node c.of-site.result (record { site = c.of-site.ensures.site; file = c.of-site.ensures.file; node = c.of-site.ensures.node }) c.entry.result c.entry.ensures f h
    (sym h.is_static ∙ c.if-node.false) c.in_default.not-Nil c.args.field number)

pub returns-in-Nil : goal.returns-in-Nil
returns-in-Nil c = λ f h number.
    none_written c.args.program.now c.requires.program c.args.node c.of-site.result (record { site = c.of-site.ensures.site; file = c.of-site.ensures.file; node = c.of-site.ensures.node }) c.entry.result c.entry.ensures f h
    (sym h.is_static ∙ c.if-node.false) c.in-Nil.is

pub returns-then-node : goal.returns-then-node
returns-then-node c = λ f h number. none_static c.args.program.now f (sym h.is_static ∙ c.if-node.true)
