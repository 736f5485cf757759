use Rattle.std.proofs.Common.{◌≡◌, sym, ap, ◌∙◌, subst, List, []}
use Rattle.std.proofs.lemmas.Result.{IfOk-weaker}
use Rattle.kr_ast.specs.Arena.{Arena, tree_in, tree_of}
use Rattle.kr_ast.specs.Files.{file_at}
use Rattle.kr_ast.specs.Tree.{Tree}
use Rattle.kr_ast.specs.declared.files.NodeId.{NodeId}
use Rattle.kr_types_meaning.specs.Running.{running}
use Rattle.kr_mean.specs.Code.{code_run}
use Rattle.kr_code_members.specs.Nodes.{arena_at, node_scope, node_tree}
use Rattle.kr_space_problem.specs.Posed.{posed}
use Rattle.kr_pure.specs.Found.{IsAdded}
use Rattle.kr_pure.proofs.Adding.{none_added}
use Rattle.kr_pure.proofs.Entered.{entered_same, none_entered}
use Rattle.kr_pure.proofs.Files.{some}
use Rattle.kr_pure.proofs.Steps.{step}
use Rattle.kr_pure.proofs.reaching.follow.Goals as goal

pub returns-then-runs_nothing-clause-step : goal.returns-then-runs_nothing-clause-step
returns-then-runs_nothing-clause-step c =
    let problem = c.args.problem.now in
    let p = problem.program in
    let at = c.args.at in
    let mid = c.add_parts.new.found.nodes.items in
    let x = c.entry-entry.result in
    let a = c.tree_of.result.now in
    let e = some (arena_at p at.file).entries at.node c.requires.node.node in
    let file : a ≡ arena_at p at.file = c.tree_of.ensures ∙ ap (λ (ts : List Arena). file_at ts at.file) c.deref.ensures.value in
    let tree : node_tree p at.file at.node ≡ tree_of a.text (tree_in a) x.place x.node = ap (λ (b : Arena). tree_in b at.node) (sym file) ∙ c.entry-entry.ensures.tree in
    let s = running (node_scope p at.file at.node) in
    let nothing = ap (λ (t : Tree). code_run (posed problem).program (record { scope = s; tree = t })) tree ∙ c.runs_nothing.ensures c.if-runs_nothing.true (posed problem).program s a.text (tree_in a) x.place in
    step problem c.requires.posed c.requires.arenas at c.args.found.now.nodes.items mid mid [] e.0 c.requires.node e.1 (c.in_ok-add_parts.ensures.added e.0 e.1) (none_added mid) (entered_same p [] _ [] (sym nothing) (none_entered p))

pub returns-clause-step : goal.returns-clause-step
returns-clause-step c =
    let problem = c.args.problem.now in
    let at = c.args.at in
    let old = c.args.found.now.nodes.items in
    let mid = c.add_parts.new.found.nodes.items in
    let new = c.add_all.new.self.nodes.items in
    let e = some (arena_at problem.program at.file).entries at.node c.requires.node.node in
    let first = c.in_ok-add_parts.ensures.added e.0 e.1 in
    IfOk-weaker c.add_all.result _ _
    (λ done h. step problem c.requires.posed c.requires.arenas at old mid new c.in_ok-entries.entries.items e.0 c.requires.node e.1 first (subst (λ (xs : List NodeId). IsAdded mid xs new) c.deref-3.ensures.value h) c.in_ok-entries.ensures)
    c.add_all.ensures.added
