use Rattle.std.proofs.Common.{◌≡◌, ◌∙◌, [], List, ℕ, ap, arith, length, subst, sym}
use Rattle.std.specs.Prelude.{flat_map, if◌then◌else◌}
use Rattle.kr_ast.specs.Arena.{Arena}
use Rattle.kr_classes_members.specs.Kept.{AreMembers}
use Rattle.kr_classes_members.specs.Shown.{table_in}
use Rattle.kr_classes_table.specs.Rules.{least}
use Rattle.kr_emit_meaning.specs.Buildable.{class_faults, construction_faults, is_built}
use Rattle.kr_mean.specs.Problem.{upto}
use Rattle.kr_space_problem.specs.Posed.{posed}
use Rattle.kr_emit.proofs.judging.construction_in.Goals as goal

pub construction_place-requires-clause-members : goal.construction_place-requires-clause-members
construction_place-requires-clause-members c =
    subst (λ (fs : List Arena). AreMembers fs c.args.problem.now.program.table.members) (sym c.as_slice-trees.ensures.value) c.requires.posed.program.table.table.members

pub returns : goal.returns
returns c =
    let problem = c.args.problem.now in
    let files = problem.program.trees.items in
    let domains = problem.layout.domains in
    let n = c.in-Ok.classes in
    let all : c.len-count.result ≡ length (table_in files).classes = c.len-count.ensures.all files c.requires.posed.program.table.table.members in
    let number : n ≡ length (table_in files).classes = omega (arith, all) in
    c.construction_place.ensures
    ∙ (ap (λ (fs : List Arena). least (flat_map (λ k. if is_built (table_in fs) k domains then construction_faults (table_in fs) k else []) (upto n))) c.as_slice-trees.ensures.value
    ∙ ap (λ (k : ℕ). least (flat_map (class_faults (posed problem)) (upto k))) number)
