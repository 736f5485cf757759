use Rattle.std.proofs.Common.{[], Some, None, refl, sym, drop}
use Rattle.kr_parse_grammar.specs.declared.goal.Goal.TheVariants as goals
use Rattle.kr_parse_grammar.specs.Machine.{ahead}
use Rattle.kr_parse_grammar.specs.Values.{tag}
use Rattle.kr_parse_trees.specs.Built.{values_of}
use Rattle.kr_parse.proofs.States.{same_rule, least_want, expanded, expanding_falls}
use Rattle.kr_parse.proofs.parser.expand.Goals as goal

pub dead-requires : goal.dead-requires
dead-requires c =
    let ts = c.args.tokens.now in
    let at = c.args.cursor.at in
    let vs = values_of c.args.builder.now in
    least_want c.laws.ensures ts at c.args.goal c.args.stack.now vs c.requires.state c.requires.standing.shallow
    (same_rule c.args.goal (goals.Operators c.in-Operators.least c.in-Operators.most) c.args.cursor.next (ahead (drop at ts.list)) (tag vs) (tag vs) None c.in-Operators.is c.requires.standing.next refl
    (c.in-Dead.ensures (tag vs)))

pub dead-requires-in-None : goal.dead-requires-in-None
dead-requires-in-None c =
    let ts = c.args.tokens.now in
    let at = c.args.cursor.at in
    let vs = values_of c.args.builder.now in
    least_want c.laws.ensures ts at c.args.goal c.args.stack.now vs c.requires.state c.requires.standing.shallow
    (same_rule c.args.goal c.args.goal c.args.cursor.next (ahead (drop at ts.list)) (tag vs) c.tag.result None refl c.requires.standing.next (sym c.tag.ensures) c.in-None.ensures)

pub returns-in-Ends-clause-state : goal.returns-in-Ends-clause-state
returns-in-Ends-clause-state c =
    let ts = c.args.tokens.now in
    let at = c.args.cursor.at in
    let vs = values_of c.args.builder.now in
    expanded c.laws.ensures ts at c.args.goal [] c.args.stack.now c.args.stack.now vs refl
    (same_rule c.args.goal (goals.Operators c.in-Operators.least c.in-Operators.most) c.args.cursor.next (ahead (drop at ts.list)) (tag vs) (tag vs) (Some []) c.in-Operators.is c.requires.standing.next refl
    (c.in-Ends.ensures (tag vs)))
    c.requires.state

pub returns-in_ok-push_all-in-Tests-clause-state :
    goal.returns-in_ok-push_all-in-Tests-clause-state
returns-in_ok-push_all-in-Tests-clause-state c =
    let ts = c.args.tokens.now in
    let at = c.args.cursor.at in
    let vs = values_of c.args.builder.now in
    expanded c.laws.ensures ts at c.args.goal c.in-Tests.body c.args.stack.now c.push_all.new.self vs c.in_ok-push_all-in-Tests.ensures
    (same_rule c.args.goal (goals.Operators c.in-Operators.least c.in-Operators.most) c.args.cursor.next (ahead (drop at ts.list)) (tag vs) (tag vs) (Some c.in-Tests.body) c.in-Operators.is
    c.requires.standing.next refl (c.in-Tests.ensures (tag vs)))
    c.requires.state

pub returns-in_ok-push_all-in-Tests-clause-falls :
    goal.returns-in_ok-push_all-in-Tests-clause-falls
returns-in_ok-push_all-in-Tests-clause-falls c =
    let ts = c.args.tokens.now in
    let at = c.args.cursor.at in
    let vs = values_of c.args.builder.now in
    expanding_falls c.laws.ensures c.args.goal (ahead (drop at ts.list)) (tag vs) c.in-Tests.body c.args.stack.now c.push_all.new.self c.in_ok-push_all-in-Tests.ensures
    (same_rule c.args.goal (goals.Operators c.in-Operators.least c.in-Operators.most) c.args.cursor.next (ahead (drop at ts.list)) (tag vs) (tag vs) (Some c.in-Tests.body) c.in-Operators.is
    c.requires.standing.next refl (c.in-Tests.ensures (tag vs)))

pub returns-in_ok-push_all-in-Operates-clause-state :
    goal.returns-in_ok-push_all-in-Operates-clause-state
returns-in_ok-push_all-in-Operates-clause-state c =
    let ts = c.args.tokens.now in
    let at = c.args.cursor.at in
    let vs = values_of c.args.builder.now in
    expanded c.laws.ensures ts at c.args.goal c.in-Operates.body c.args.stack.now c.push_all-in-Operates.new.self vs c.in_ok-push_all-in-Operates.ensures
    (same_rule c.args.goal (goals.Operators c.in-Operators.least c.in-Operators.most) c.args.cursor.next (ahead (drop at ts.list)) (tag vs) (tag vs) (Some c.in-Operates.body) c.in-Operators.is
    c.requires.standing.next refl (c.in-Operates.ensures (tag vs)))
    c.requires.state

pub returns-in_ok-push_all-in-Operates-clause-falls :
    goal.returns-in_ok-push_all-in-Operates-clause-falls
returns-in_ok-push_all-in-Operates-clause-falls c =
    let ts = c.args.tokens.now in
    let at = c.args.cursor.at in
    let vs = values_of c.args.builder.now in
    expanding_falls c.laws.ensures c.args.goal (ahead (drop at ts.list)) (tag vs) c.in-Operates.body c.args.stack.now c.push_all-in-Operates.new.self c.in_ok-push_all-in-Operates.ensures
    (same_rule c.args.goal (goals.Operators c.in-Operators.least c.in-Operators.most) c.args.cursor.next (ahead (drop at ts.list)) (tag vs) (tag vs) (Some c.in-Operates.body) c.in-Operators.is
    c.requires.standing.next refl (c.in-Operates.ensures (tag vs)))

pub returns-in_ok-push_all-in-Some : goal.returns-in_ok-push_all-in-Some
returns-in_ok-push_all-in-Some c =
    let ts = c.args.tokens.now in
    let at = c.args.cursor.at in
    let vs = values_of c.args.builder.now in
    let r =
    same_rule c.args.goal c.args.goal c.args.cursor.next (ahead (drop at ts.list)) (tag vs) c.tag.result (Some c.in-Some.body.now) refl c.requires.standing.next (sym c.tag.ensures) c.in-Some.ensures in
    record {
      state = expanded c.laws.ensures ts at c.args.goal c.in-Some.body.now c.args.stack.now c.push_all-in-Some.new.self vs c.in_ok-push_all-in-Some.ensures r c.requires.state;
      falls = expanding_falls c.laws.ensures c.args.goal (ahead (drop at ts.list)) (tag vs) c.in-Some.body.now c.args.stack.now c.push_all-in-Some.new.self c.in_ok-push_all-in-Some.ensures r;
      refused = tt;
    }
