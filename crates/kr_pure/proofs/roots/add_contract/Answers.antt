use Rattle.std.proofs.Common.{◌≡◌, sym, ap, ◌∙◌, List, [], ◌++◌, map, append-nil, append_assoc}
use Rattle.std.specs.Prelude.{flat_map}
use Rattle.std.proofs.lemmas.Grind.{flat_map-append}
use Rattle.std.proofs.lemmas.Result.{IfOk-weaker}
use Rattle.kr_classes_table.specs.Table.{Method}
use Rattle.kr_classes_members.specs.Rosters.{method_numbered}
use Rattle.kr_code_members.specs.Nodes.{table, run_program}
use Rattle.kr_classes_names.specs.Types.{type_at}
use Rattle.kr_mean.specs.Code.{Node, code}
use Rattle.kr_mean.specs.Runs.{requires_of}
use Rattle.kr_mean.specs.Purity.{conditions_after}
use Rattle.kr_pure.specs.declared.conditions.Side.TheVariants as sides
use Rattle.kr_pure.specs.Entries.{side_nodes}
use Rattle.kr_pure.proofs.Entered.{entered_same, required_same}
use Rattle.kr_pure.proofs.roots.add_contract.Goals as goal

two_sides : (f : Node → List Node) (before xs ys : List Node) → (before ++ flat_map f xs) ++ flat_map f ys ≡ before ++ flat_map f ((xs ++ []) ++ (ys ++ []))
two_sides f before xs ys =
    append_assoc before (flat_map f xs) (flat_map f ys)
    ∙ ap (λ ns. before ++ ns) (sym (ap (λ zs. flat_map f (zs ++ (ys ++ []))) (append-nil xs) ∙ (ap (λ zs. flat_map f (xs ++ zs)) (append-nil ys) ∙ flat_map-append f xs ys)))

pub returns-in_ok-add_side-in-Some : goal.returns-in_ok-add_side-in-Some
returns-in_ok-add_side-in-Some c =
    let problem = c.args.problem.now in
    let p = problem.program in
    let arrays = map (type_at p.table.types) problem.arrays.items in
    let mean = run_program p problem.arrays.items in
    let m = method_numbered (table p) c.in-Some.method in
    let f : Node → List Node = λ e. code e.scope e.tree in
    λ before.
    let same =
    two_sides f before (side_nodes mean sides.Required m) (conditions_after mean m)
    ∙ ap (λ (ns : List Node). before ++ flat_map f ((ns ++ []) ++ (conditions_after mean m ++ []))) (required_same mean m)
    ∙ ap (λ (ms : List Method). before ++ flat_map f (flat_map (requires_of mean) ms ++ flat_map (conditions_after mean) ms)) (c.in-Some.ensures.shown c.args.problem.now c.requires.subject) in
    IfOk-weaker c.add_side-in-Some.result _ _ (λ done k h. entered_same p _ _ c.add_side-in-Some.new.entries.items same (k (c.in_ok-add_side-in-Some.ensures before arrays h))) (c.add_side-in-Some.ensures (before ++ flat_map f (side_nodes mean sides.Required m)) arrays)
