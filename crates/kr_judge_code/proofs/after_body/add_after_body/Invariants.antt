use Rattle.std.proofs.Common.{◌≡◌, List, ◌++◌}
use Rattle.kr_ast.specs.Tree.{Tree}
use Rattle.kr_classes_table.specs.Table.{items}
use Rattle.kr_types_meaning.specs.Scopes.{Scope}
use Rattle.kr_types_meaning.specs.Running.{running}
use Rattle.kr_laws_types.specs.Derivation.{AreContractLines}
use Rattle.kr_code_lowering.specs.Origins.{Final, numbering_of}
use Rattle.kr_code_lowering.specs.Sites.{IsSite, scope_at, tree_at}
use Rattle.kr_judge_code.specs.Olds.{AreAdded}
use Rattle.kr_judge_code.proofs.after_body.add_after_body.Given as goal

abbrev pub invariant-loop-line : goal.invariant-loop-line
invariant-loop-line l = record {
  site : IsSite l.program l.at;
  shape : AreContractLines (tree_at l.program l.at);
  scope : scope_at l.program l.at ≡ scope_at l.program l.fn.list;
  added : (s : Scope) (final : Final) → running (scope_at l.program l.fn.list) ≡ s → (done : List Tree) × (done ++ items (tree_at l.program l.at) ≡ items (tree_at l.program l.fn.list)) × AreAdded (numbering_of l.program final) s done l.fn.contract l.contract;
}

abbrev pub decreases-loop-line : goal.decreases-loop-line
decreases-loop-line l = l.at.node
