use Rattle.std.proofs.Common.{◌≡◌, sym, ap, ◌∙◌, Bool, true, false, List}
use Rattle.kr_ast.specs.Arena.{Arena, tree_in}
use Rattle.kr_types_meaning.specs.Scopes.{Scope}
use Rattle.kr_ast.specs.Files.{file_at}
use Rattle.kr_types_meaning.specs.Running.{running}
use Rattle.kr_code_members.specs.Nodes.{node_tree}
use Rattle.kr_mean.specs.Code.{Node}
use Rattle.kr_pure_effects.specs.Nodes.{node_there}
use Rattle.kr_pure.specs.Entries.{node_of}
use Rattle.kr_pure.proofs.Files.{file_there}
use Rattle.kr_pure.proofs.Touching.{tested_none, tested_some}
use Rattle.kr_pure.proofs.purity.touch_at.Goals as goal

not_both : (b : Bool) → b ≡ true → b ≡ false → ⊥
not_both b p q = cc

pub returns-then-not-branch : goal.returns-then-not-branch
returns-then-not-branch c =
    let problem = c.args.problem.now in
    let p = problem.program in
    let at = c.args.at in
    let f = file_there p at.file c.requires.posed.program c.requires.node.file in
    let n = node_there p.trees.items at.file f.0 at.node in
    let same : n ≡ node_of p at = ap (λ (s : Scope). let m : Node = record { scope = running s; tree = node_tree p at.file at.node } in m) (sym (f.1.scope at.node)) in
    let test = c.in_ok-touches_candidates.ensures.touched f.0 f.1.at in
    tested_none problem at n same (λ h. not_both c.in_ok-touches_candidates.field-0 (test.1 h) c.if-not-branch.true)

pub returns : goal.returns
returns c =
    let problem = c.args.problem.now in
    let p = problem.program in
    let at = c.args.at in
    let f = file_there p at.file c.requires.posed.program c.requires.node.file in
    let n = node_there p.trees.items at.file f.0 at.node in
    let same : n ≡ node_of p at = ap (λ (s : Scope). let m : Node = record { scope = running s; tree = node_tree p at.file at.node } in m) (sym (f.1.scope at.node)) in
    let test = c.in_ok-touches_candidates.ensures.touched f.0 f.1.at in
    let file : c.tree_of.result.now ≡ file_at p.trees.items at.file = c.tree_of.ensures ∙ ap (λ (ts : List Arena). file_at ts at.file) c.deref.ensures.value in
    let tree = ap (λ (a : Arena). tree_in a at.node) (sym file) ∙ c.entry-entry.ensures.tree in
    tested_some problem at n c.tree_of.result.now.text (tree_in c.tree_of.result.now) c.entry-entry.result.place c.entry-entry.result.node same tree (test.0 c.if-not-branch.false)
