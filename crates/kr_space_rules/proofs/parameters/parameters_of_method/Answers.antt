use Rattle.std.proofs.Common.{◌≡◌, ℕ, List, ap, subst, sym, ◌∙◌, map}
use Rattle.std.specs.Prelude.{flat_map}
use Rattle.std.proofs.lemmas.Result.{IfOk-weaker}
use Rattle.std.proofs.lemmas.List.Folds.{flat_map-map}
use Rattle.kr_ast.specs.Arena.{Arena, tree_in}
use Rattle.kr_classes_table.specs.Table.{items, parameter_in, parameters_in}
use Rattle.kr_ast.specs.Files.{file_at}
use Rattle.kr_classes_members.specs.Shown.{headings_in}
use Rattle.kr_space_rules.proofs.parameters.parameters_of_method.Goals as goal

pub returns-clause-shown : goal.returns-clause-shown
returns-clause-shown c =
    let files = c.args.trees.now in
    let a = file_at files c.args.method.file in
    let kept = c.in_ok-nodes.nodes.items in
    let listed : map (tree_in a) kept ≡ items (tree_in a c.args.method.parameters) = subst (λ (x : Arena). map (tree_in x) kept ≡ items (tree_in x c.args.method.parameters)) c.tree_of.ensures c.in_ok-nodes.ensures.shown in
    let all : (ns : List ℕ) → ns ≡ kept → flat_map (λ n. parameter_in (headings_in files) (tree_in a n)) ns ≡ parameters_in (headings_in files) (tree_in a c.args.method.parameters) =
    λ ns e. sym (flat_map-map (parameter_in (headings_in files)) (tree_in a) ns) ∙ ap (flat_map (parameter_in (headings_in files))) (ap (map (tree_in a)) e ∙ listed) in
    IfOk-weaker c.parameters_at.result _ _
    (λ found e. e ∙ all c.deref.result.now c.deref.ensures.value)
    c.parameters_at.ensures.shown
