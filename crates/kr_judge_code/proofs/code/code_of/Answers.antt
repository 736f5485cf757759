use Rattle.std.proofs.Common.{refl, ap, subst, ℕ, List, [], ◌∷◌, length, map, length-append, arith}
use Rattle.kr_code.specs.declared.code.Node.TheVariants as nodes
use Rattle.kr_code.specs.declared.expression.Expression.TheVariants as expressions
use Rattle.kr_ast.specs.Arena.{Arena}
use Rattle.kr_classes_names.specs.Types.{type_at}
use Rattle.kr_code.specs.Tables.{row_items}
use Rattle.kr_code_lowering.specs.Resolving.{AreNodes}
use Rattle.kr_code_bodies.specs.Tabled.{AreTabled}
use Rattle.kr_judge_code.specs.Compiled.{final_of}
use Rattle.kr_judge_code.proofs.Whole.{compiled}
use Rattle.kr_judge_code.proofs.code.code_of.Goals as goal

pub end_before_others-requires-clause-files : goal.end_before_others-requires-clause-files
end_before_others-requires-clause-files c =
    let files = c.in_ok-nodes.field-0.nodes.items in
    let call = c.in_ok-add_call.ensures in
    let made = c.in_ok-made.ensures.nodes in
    omega (arith, c.in_ok-nodes.ensures.count, ap length call.items, length-append files (nodes.Expression call.call ∷ nodes.Expression expressions.This ∷ []), ap length made.items, length-append c.add_call.new.nodes.items (map nodes.Initialiser made.added))

pub returns : goal.returns
returns c =
    let problem = c.args.problem.now in
    let p = problem.program in
    let types = p.table.types in
    let r = c.in_ok-nodes.field-0 in
    let names = r.names in
    let t = c.in_ok-tables.tables in
    let listed : List (List ℕ) = map row_items c.as_slice.result.now in
    let are = subst (λ (xs : List ℕ). AreNodes p xs names r.links r.nodes.items) c.as_slice-arrays.ensures.value c.in_ok-nodes.ensures.nodes in
    let by_trees = subst (λ (fs : List Arena). AreTabled fs types (map (type_at types) c.as_slice-arrays.result.now) listed t) c.deref.ensures.value c.in_ok-tables.ensures in
    let by_arrays = subst (λ (xs : List ℕ). AreTabled p.trees.items types (map (type_at types) xs) listed t) c.as_slice-arrays.ensures.value by_trees in
    let tabled = subst (λ (ns : List (List ℕ)). AreTabled p.trees.items types (map (type_at types) problem.arrays.items) ns t) c.as_slice.ensures.all by_arrays in
    compiled problem names r.nodes.items c.add_call.new.nodes.items c.bodies_of.new.nodes.items r.links c.bodies_of.new.links t _ are c.in_ok-nodes.ensures.count c.in_ok-add_call.ensures c.in_ok-made.ensures.nodes refl c.in_ok-made.ensures.links c.into_vec.ensures.all
    c.in_ok-made.ensures.methods c.in_ok-made.ensures.classes (λ b. c.in_ok-made.ensures.made problem.arrays.items names (final_of problem names) _ b refl refl refl refl) tabled (record { positions = refl; spots = refl; dispatch = refl; instances = refl; array_types = refl; trap_classes = refl }) c.in_ok-end_before_others.ensures
