use Rattle.std.proofs.Common.{sym, ap, ◌∙◌, subst, ℕ, Option, List, ◌++◌}
use Rattle.kr_mean.specs.Code.{Node}
use Rattle.kr_mean.specs.Runs.{requires_of, tested_method}
use Rattle.kr_space_problem.specs.Posed.{posed}
use Rattle.kr_code_members.specs.Nodes.{table}
use Rattle.kr_classes_members.specs.Rosters.{method_numbered}
use Rattle.kr_code_lowering.specs.Calls.{IsFound}
use Rattle.kr_judge_code.proofs.Conditions.{call_alone, no_tested_conditions, tested_conditions}
use Rattle.kr_judge_code.proofs.predicate.conditions.Goals as goal

pub returns-in-None : goal.returns-in-None
returns-in-None c = λ final is room.
    let problem = c.args.problem.now in
    call_alone problem final is c.args.numbers.now.coded c.requires.numbers.coded room c.new-conditions.result.items c.push.new.self.items c.new-conditions.ensures.items c.in_ok-push.ensures.items ∙ sym (no_tested_conditions problem (subst (λ (m : Option ℕ). IsFound problem.program m (tested_method (posed problem) (posed problem).mode)) c.in-None.is c.requires.tested))

pub returns-in_ok-add_preconditions-in-Some : goal.returns-in_ok-add_preconditions-in-Some
returns-in_ok-add_preconditions-in-Some c = λ final is room.
    let problem = c.args.problem.now in
    let required = requires_of (posed problem).program (method_numbered (table problem.program) c.in-Some.method) in
    let call = call_alone problem final is c.args.numbers.now.coded c.requires.numbers.coded room c.new-conditions.result.items c.push.new.self.items c.new-conditions.ensures.items c.in_ok-push.ensures.items in
    c.in_ok-add_preconditions-in-Some.ensures final ∙ (ap (λ (ns : List Node). ns ++ required) call ∙ sym (tested_conditions problem c.in-Some.method (subst (λ (m : Option ℕ). IsFound problem.program m (tested_method (posed problem) (posed problem).mode)) c.in-Some.is c.requires.tested)))
