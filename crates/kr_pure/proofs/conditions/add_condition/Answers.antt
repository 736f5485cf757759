use Rattle.std.proofs.Common.{◌∷◌, []}
use Rattle.kr_types_meaning.specs.Running.{running}
use Rattle.kr_code_members.specs.Nodes.{node_scope, node_tree}
use Rattle.kr_pure.specs.Entries.{line_code}
use Rattle.kr_pure.proofs.ContractLines.{condition_entered}
use Rattle.kr_pure.proofs.Entered.{entered_more}
use Rattle.kr_pure.proofs.conditions.add_condition.Goals as goal

pub returns-in_ok-push-in-Some : goal.returns-in_ok-push-in-Some
returns-in_ok-push-in-Some c =
    let p = c.args.program.now in
    λ before h. entered_more p before (line_code c.args.side (running (node_scope p c.args.file c.args.line)) (node_tree p c.args.file c.args.line)) c.args.entries.now.items c.push.new.self.items (record { file = c.args.file; node = c.in-Some.node } ∷ [])
    c.in_ok-push-in-Some.ensures.items (condition_entered p c.args.side c.args.file c.args.line c.in-Some.node c.in-Some.ensures) h
