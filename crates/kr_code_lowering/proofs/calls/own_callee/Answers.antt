use Rattle.kr_code_lowering.proofs.Read.{none_called, own_called, static_called}
use Rattle.kr_code_lowering.proofs.calls.own_callee.Goals as goal

pub returns-in-Static : goal.returns-in-Static
returns-in-Static c = static_called c.args.program.now c.args.site c.args._entry c.requires.here c.meaning_at.result c.meaning_at.ensures c.args._name c.args._arguments c.requires.node c.in-Static.number c.in-Static.is

pub returns-in-Virtual : goal.returns-in-Virtual
returns-in-Virtual c = own_called c.args.program.now c.args.site c.args._entry c.requires.here c.meaning_at.result c.meaning_at.ensures c.args._name c.args._arguments c.requires.node c.in-Virtual.number c.in-Virtual.is

pub returns-in_default : goal.returns-in_default
returns-in_default c = none_called c.args.program.now c.args.site c.args._entry c.requires.here c.meaning_at.result c.meaning_at.ensures c.args._name c.args._arguments c.requires.node c.in_default.not-Static c.in_default.not-Virtual
