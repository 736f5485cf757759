use Rattle.std.proofs.Common.{refl, sym, ap, ◌∙◌, subst, List, [], ◌++◌, map}
use Rattle.std.specs.Prelude.{flat_map}
use Rattle.kr_classes_table.specs.Table.{Method}
use Rattle.kr_types_meaning.specs.Scopes.{Scope}
use Rattle.kr_ast.specs.declared.files.NodeId.{NodeId}
use Rattle.kr_types_meaning.specs.Running.{running}
use Rattle.kr_classes_members.specs.Rosters.{method_numbered}
use Rattle.kr_classes_names.specs.Types.{type_at}
use Rattle.kr_mean.specs.Code.{code_of_class, code_of_method, code_run, methods_run}
use Rattle.kr_code_members.specs.Nodes.{node_tree, table, run_program}
use Rattle.kr_pure_effects.specs.Nodes.{node_there}
use Rattle.kr_pure.specs.Entries.{Enter}
use Rattle.kr_pure.proofs.Entered.{entered_same, none_entered}
use Rattle.kr_pure.proofs.Files.{file_there}
use Rattle.kr_pure.proofs.entries.entries_run.Goals as goal

pub returns : goal.returns
returns c =
    let problem = c.args.problem.now in
    let p = problem.program in
    let files = p.trees.items in
    let arrays = map (type_at p.table.types) problem.arrays.items in
    let mean = run_program p problem.arrays.items in
    let at = c.args.at in
    let f = file_there p at.file c.requires.posed.program c.requires.node.file in
    let n = node_there files at.file f.0 at.node in
    let shown = c.in_ok-runs.ensures.shown mean f.0 refl f.1.at in
    let ms = ap (map (method_numbered (table p))) c.deref.ensures.value ∙ shown.0 in
    let cs = c.deref-2.ensures.value ∙ shown.1 in
    let start = subst (λ (es : List NodeId). Enter p [] es) (sym c.new-entries.ensures.items) (none_entered p) in
    let bodies = c.in_ok-add_bodies.ensures [] arrays start in
    let all = c.in_ok-add_classes.ensures (flat_map (code_of_method mean) (map (method_numbered (table p)) c.deref.result.now)) arrays bodies in
    let run = ap (λ (xs : List Method). flat_map (code_of_method mean) xs ++ flat_map (code_of_class mean) c.deref-2.result.now) ms
    ∙ ap (λ xs. flat_map (code_of_method mean) (methods_run mean n.scope n.tree) ++ flat_map (code_of_class mean) xs) cs in
    let here = ap (λ (s : Scope). code_run mean (record { scope = running s; tree = node_tree p at.file at.node })) (sym (f.1.scope at.node)) in
    entered_same p _ _ c.add_classes.new.entries.items (run ∙ here) all
