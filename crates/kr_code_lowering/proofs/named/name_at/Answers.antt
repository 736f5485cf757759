use Rattle.std.proofs.Common.{subst}
use Rattle.kr_types_resolving.specs.Shown.{IsMeaningWithin}
use Rattle.kr_code_members.specs.Nodes.{table}
use Rattle.kr_code_lowering.proofs.Read.{constant_named, local_named, nothing_named, own_named}
use Rattle.kr_code_lowering.proofs.named.name_at.Goals as goal

pub constant_value-requires-clause-number : goal.constant_value-requires-clause-number
constant_value-requires-clause-number c = subst (IsMeaningWithin (table c.args.program.now)) c.in-Constant.is c.meaning_at.ensures.within

pub returns-in-Local : goal.returns-in-Local
returns-in-Local c = local_named c.args.program.now c.args.site c.args._entry c.requires.here c.meaning_at.result c.meaning_at.ensures c.args._name c.requires.node c.in-Local.number c.in-Local.is

pub returns-in-Constant : goal.returns-in-Constant
returns-in-Constant c = constant_named c.args.program.now c.args.site c.args._entry c.requires.here c.meaning_at.result c.meaning_at.ensures c.args._name c.requires.node c.in-Constant.field c.constant_value.result c.in-Constant.is c.constant_value.ensures

pub returns-in-Instance : goal.returns-in-Instance
returns-in-Instance c = own_named c.args.program.now c.args.site c.args._entry c.requires.here c.meaning_at.result c.meaning_at.ensures c.args._name c.requires.node c.in-Instance.field c.in-Instance.is

pub returns-in_default : goal.returns-in_default
returns-in_default c = nothing_named c.args.program.now c.args.site c.args._entry c.requires.here c.meaning_at.result c.meaning_at.ensures c.args._name c.requires.node c.in_default.not-Local c.in_default.not-Constant c.in_default.not-Instance
