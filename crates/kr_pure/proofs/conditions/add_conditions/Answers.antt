use Rattle.std.proofs.Common.{ap, ◌∙◌, sym, subst, ℕ, ◌<◌, List, ◌++◌, All, length, map, arith}
use Rattle.std.specs.Prelude.{flat_map}
use Rattle.kr_types_meaning.specs.Scopes.{Scope}
use Rattle.kr_types_meaning.specs.Running.{running}
use Rattle.kr_mean.specs.Code.{Node}
use Rattle.kr_code_members.specs.Nodes.{node_scope, node_tree}
use Rattle.kr_code_members.specs.Walk.{IsIn}
use Rattle.kr_pure.specs.Entries.{Enter, line_code}
use Rattle.kr_pure.proofs.ContractLines.{lines_stand, still_lines}
use Rattle.kr_pure.proofs.Entered.{entered_same, mapped_code, no_code, one_more_after, whole_entered}
use Rattle.kr_pure.proofs.conditions.add_conditions.Goals as goal

pub list_nodes-requires-clause-still : goal.list_nodes-requires-clause-still
list_nodes-requires-clause-still c = still_lines (node_scope c.args.program.now c.args.file c.args.lines) (node_tree c.args.program.now c.args.file c.args.lines) c.requires.shape

pub add_condition-requires-clause-line : goal.add_condition-requires-clause-line
add_condition-requires-clause-line c =
    let p = c.args.program.now in
    let same = c.deref-line-items.ensures.value in
    let s = node_scope p c.args.file c.args.lines in
    let stand = subst (λ (ns : List ℕ). All (IsIn p c.args.file s) ns) (sym same) c.in_ok-nodes.ensures.stand in
    let shown = ap (map (node_tree p c.args.file)) same ∙ c.in_ok-nodes.ensures.shown in
    lines_stand p c.args.file s c.deref-line-items.result.now (node_tree p c.args.file c.args.lines) stand shown c.requires.shape c.loop-line.line-index 0 (omega arith)

pub loop-line-init : goal.loop-line-init
loop-line-init c = λ before h. no_code c.args.program.now before c.args.entries.now.items h

pub loop-line-preserved : goal.loop-line-preserved
loop-line-preserved c =
    let p = c.args.program.now in
    let file = c.args.file in
    let ns = c.deref-line-items.result.now in
    let s = node_scope p file c.args.lines in
    let l : c.loop-line.line-index < length ns = omega arith in
    let node = Rattle.std.proofs.Common.get_or ns c.loop-line.line-index 0 in
    let stand = subst (λ (ns : List ℕ). All (IsIn p file s) ns) (sym c.deref-line-items.ensures.value) c.in_ok-nodes.ensures.stand c.loop-line.line-index 0 l in
    let g : ℕ → List Node = λ n. line_code c.args.side (running s) (node_tree p file n) in
    let add = subst (λ (x : Scope). (before : List Node) → Enter p before c.loop-line.entries.items → Enter p (before ++ line_code c.args.side (running x) (node_tree p file node)) c.add_condition.new.entries.items) stand.scope c.in_ok-add_condition.ensures in
    λ before h. one_more_after p g before ns c.loop-line.line-index 0 c.loop-line.entries.items c.add_condition.new.entries.items l add (c.loop-line.invariant before h)

pub returns : goal.returns
returns c =
    let p = c.args.program.now in
    let file = c.args.file in
    let ns = c.deref-line-items.result.now in
    let s = node_scope p file c.args.lines in
    let g : ℕ → List Node = λ n. line_code c.args.side (running s) (node_tree p file n) in
    let shown = ap (map (node_tree p file)) c.deref-line-items.ensures.value ∙ c.in_ok-nodes.ensures.shown in
    let same = mapped_code (node_tree p file) (line_code c.args.side (running s)) ns ∙ ap (flat_map (line_code c.args.side (running s))) shown in
    λ before h. entered_same p _ _ c.loop-line.entries.items (ap (λ xs. before ++ xs) same) (whole_entered p g before ns c.loop-line.line-index c.loop-line.entries.items (omega arith) (c.loop-line.invariant before h))
