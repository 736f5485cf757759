use Rattle.kr_code_lowering.specs.Sites.{scope_at}
use Rattle.kr_code_lowering.proofs.Variables.{constant_target, local_target, nothing_target, own_target}
use Rattle.kr_code_lowering.proofs.targets.name_target.Goals as goal

pub returns-in-Local-clause-target : goal.returns-in-Local-clause-target
returns-in-Local-clause-target c =
    let p = c.args.program.now in
    local_target p (scope_at p c.args.site) c.args.at c.args.entry c.args.name c.requires.here c.requires.node c.args.names.now c.requires.handed c.in-Local.number c.in-Local.ensures

pub returns-in_ok-number-in-Own-clause-target : goal.returns-in_ok-number-in-Own-clause-target
returns-in_ok-number-in-Own-clause-target c =
    let p = c.args.program.now in
    own_target p (scope_at p c.args.site) c.args.at c.args.entry c.args.name c.requires.here c.requires.node c.number.new.self c.requires.handed c.in-Own.field c.in_ok-number-in-Own.number c.in-Own.ensures (rw c.text.ensures at c.in_ok-number-in-Own.ensures.at)

pub returns-in-Constant-clause-target : goal.returns-in-Constant-clause-target
returns-in-Constant-clause-target c =
    let p = c.args.program.now in
    constant_target p (scope_at p c.args.site) c.args.at c.args.entry c.args.name c.requires.here c.requires.node c.args.names.now c.requires.handed c.in-Constant.field-0 c.in-Constant.ensures

pub returns-in-Nothing-clause-target : goal.returns-in-Nothing-clause-target
returns-in-Nothing-clause-target c =
    let p = c.args.program.now in
    nothing_target p (scope_at p c.args.site) c.args.at c.args.entry c.args.name c.requires.here c.requires.node c.args.names.now c.requires.handed c.in-Nothing.ensures
