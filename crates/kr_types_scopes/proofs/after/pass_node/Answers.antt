use Rattle.std.proofs.Common.{Some}
use Rattle.std.proofs.lemmas.Result.{on_ok_weaker}
use Rattle.kr_ast.specs.Arena.{name_in}
use Rattle.kr_types_meaning.specs.Scopes.{bind_local, bind_as}
use Rattle.kr_types_scopes.specs.Settings.{type_there, scope_in}
use Rattle.kr_types_scopes.proofs.Passing.{IsEntryThere, passed_cons, passed_local, passed_signature, passed_plain, passed_bound, declarator_is, parameter_is}
use Rattle.kr_types_scopes.proofs.after.pass_node.Goals as goal

pub returns-in_ok-push-in-Cons-2 : goal.returns-in_ok-push-in-Cons-2
returns-in_ok-push-in-Cons-2 c =
    let h : IsEntryThere c.args.tree.now c.args.node c.entry.result = record { within = c.requires.at; stands = c.entry.ensures.tree; parted = c.entry.ensures.parts } in
    rw (c.in_ok-push-in-Cons-2.ensures, c.in_ok-push-in-Cons.ensures)
    (passed_cons c.args.tree.now c.args.node c.entry.result h c.args.bindings.now.items c.args.here.now c.args.tasks.now c.requires.chain c.requires.top c.in-Cons.first c.in-Cons.rest c.in-Cons.is)

pub returns-in_ok-push-in-Local : goal.returns-in_ok-push-in-Local
returns-in_ok-push-in-Local c =
    let h : IsEntryThere c.args.tree.now c.args.node c.entry.result = record { within = c.requires.at; stands = c.entry.ensures.tree; parted = c.entry.ensures.parts } in
    rw c.in_ok-push-in-Local.ensures
    (passed_local c.args.tree.now c.args.node c.entry.result h c.args.bindings.now.items c.args.here.now c.args.tasks.now c.requires.chain c.requires.top c.in-Local.declared c.in-Local.declarators c.in-Local.is)

pub returns-in_ok-push-in-Signature-2 : goal.returns-in_ok-push-in-Signature-2
returns-in_ok-push-in-Signature-2 c =
    let h : IsEntryThere c.args.tree.now c.args.node c.entry.result = record { within = c.requires.at; stands = c.entry.ensures.tree; parted = c.entry.ensures.parts } in
    rw (c.in_ok-push-in-Signature-2.ensures, c.in_ok-push-in-Signature.ensures)
    (passed_signature c.args.tree.now c.args.node c.entry.result h c.args.bindings.now.items c.args.here.now c.args.tasks.now c.requires.chain c.requires.top c.in-Signature.result c.in-Signature.parameters
    c.in-Signature.contracts c.in-Signature.is)

pub returns-in_default : goal.returns-in_default
returns-in_default c =
    let h : IsEntryThere c.args.tree.now c.args.node c.entry.result = record { within = c.requires.at; stands = c.entry.ensures.tree; parted = c.entry.ensures.parts } in
    passed_plain c.args.tree.now c.args.node c.entry.result h c.args.bindings.now.items c.args.here.now c.args.tasks.now c.requires.chain c.requires.top
    c.in_default.not-Cons c.in_default.not-Local c.in_default.not-Signature c.in_default.not-Declarator c.in_default.not-Parameter

pub returns-in-Parameter : goal.returns-in-Parameter
returns-in-Parameter c =
    let tree = c.args.tree.now in
    let old = c.args.bindings.now.items in
    let from = c.args.here.now in
    let h : IsEntryThere tree c.args.node c.entry.result = record { within = c.requires.at; stands = c.entry.ensures.tree; parted = c.entry.ensures.parts } in
    on_ok_weaker c.bind.result
    (λ s. passed_bound tree c.args.node c.entry.result h old from c.args.tasks.now c.requires.chain c.requires.top c.bind.new.bindings.items c.bind.new.here
    (λ g. bind_local (name_in g.tree.text c.in-Parameter.name) (type_there g (Some c.in-Parameter.declared)) (scope_in g old from)) s
    (parameter_is tree c.args.node c.entry.result h old from c.args.tasks.now c.requires.chain c.requires.top c.in-Parameter.declared c.in-Parameter.name c.in-Parameter.is))
    c.bind.ensures

pub returns-in-Declarator : goal.returns-in-Declarator
returns-in-Declarator c =
    let tree = c.args.tree.now in
    let old = c.args.bindings.now.items in
    let from = c.args.here.now in
    let h : IsEntryThere tree c.args.node c.entry.result = record { within = c.requires.at; stands = c.entry.ensures.tree; parted = c.entry.ensures.parts } in
    on_ok_weaker c.bind_declared.result
    (λ s. passed_bound tree c.args.node c.entry.result h old from c.args.tasks.now c.requires.chain c.requires.top c.bind_declared.new.bindings.items c.bind_declared.new.here
    (λ g. bind_as (scope_in g old from).declaring (name_in g.tree.text c.in-Declarator.name) (scope_in g old from)) s
    (declarator_is tree c.args.node c.entry.result h old from c.args.tasks.now c.requires.chain c.requires.top c.in-Declarator.name c.in-Declarator.initial c.in-Declarator.is))
    c.bind_declared.ensures

pub bind-requires-clause-named : goal.bind-requires-clause-named
bind-requires-clause-named c = rw c.in-Parameter.is at c.entry.ensures.names

pub bind_declared-requires-clause-named : goal.bind_declared-requires-clause-named
bind_declared-requires-clause-named c = rw c.in-Declarator.is at c.entry.ensures.names
