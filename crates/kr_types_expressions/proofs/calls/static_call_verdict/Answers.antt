use Rattle.std.specs.Prelude.{option_map}
use Rattle.kr_types_meaning.specs.Rules as rules
use Rattle.kr_types_scopes.specs.Settings.{scope_in}
use Rattle.kr_classes_members.specs.Shown.{method_shown}
use Rattle.kr_types_expressions.proofs.Asking.{there_list}
use Rattle.kr_types_expressions.proofs.calls.static_call_verdict.Goals as goal

pub returns-in-None-clause-within : goal.returns-in-None-clause-within
returns-in-None-clause-within c = c.fine.ensures.within c.args.classes.now.types.now

pub returns-in-Some-clause-says : goal.returns-in-Some-clause-says
returns-in-Some-clause-says c = λ g bs e. there_list c.args.classes.now.types.now (rules.static_rule (scope_in g bs c.args.here) (option_map (method_shown c.args.classes.now.trees.now) c.args.found)) c.in-Some.is c.deref.ensures.value (c.static_rule.ensures.says g bs e)
