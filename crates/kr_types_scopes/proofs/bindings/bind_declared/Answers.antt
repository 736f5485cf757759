use Rattle.std.proofs.Common.{ap, sym}
use Rattle.std.proofs.lemmas.Result.{on_ok_weaker}
use Rattle.kr_ast.specs.Arena.{name_in}
use Rattle.kr_types_meaning.specs.Scopes.{bind_local, bind_as}
use Rattle.kr_types_scopes.specs.Settings.{setting, declaring_of, type_there, scope_in}
use Rattle.kr_types_scopes.proofs.Chains.{step_same, step_as}
use Rattle.kr_types_scopes.proofs.Bound.{bind_other}
use Rattle.kr_types_scopes.proofs.bindings.bind_declared.Goals as goal

pub returns-in-Locals : goal.returns-in-Locals
returns-in-Locals c =
    let tree = c.args.tree.now in
    let old = c.args.bindings.now.items in
    let from = c.args.here.now in
    on_ok_weaker c.bind.result
    (λ h. step_as tree old c.bind.new.bindings.items c.bind.new.here (λ g. bind_local (name_in g.tree.text c.args.name) (type_there g from.declared) (scope_in g old from))
    (λ g. bind_as (scope_in g old from).declaring (name_in g.tree.text c.args.name) (scope_in g old from)) h
    (λ t v. sym (ap (λ d. bind_as (declaring_of d) (name_in tree.text c.args.name) (scope_in (setting t v tree) old from)) c.in-Locals.is)))
    c.bind.ensures

pub returns-in_default : goal.returns-in_default
returns-in_default c =
    let tree = c.args.tree.now in
    let old = c.args.bindings.now.items in
    let from = c.args.here.now in
    step_same tree old from (λ g. bind_as (scope_in g old from).declaring (name_in g.tree.text c.args.name) (scope_in g old from)) c.requires.chain c.requires.top
    (λ t v. sym (bind_other from.declaring (name_in tree.text c.args.name) (scope_in (setting t v tree) old from) c.in_default.not-Locals))
