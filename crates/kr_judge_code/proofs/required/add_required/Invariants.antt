use Rattle.std.proofs.Common.{◌≡◌, map, ◌++◌}
use Rattle.kr_classes_table.specs.Table.{items}
use Rattle.kr_types_meaning.specs.Scopes.{Scope}
use Rattle.kr_types_meaning.specs.Running.{running}
use Rattle.kr_laws_types.specs.Derivation.{AreContractLines}
use Rattle.kr_code_lowering.specs.Origins.{Final, numbering_of}
use Rattle.kr_code_lowering.specs.Sites.{IsSite, scope_at, tree_at}
use Rattle.kr_judge_code.specs.Lines.{required}
use Rattle.kr_judge_code.proofs.required.add_required.Given as goal

abbrev pub invariant-loop-line : goal.invariant-loop-line
invariant-loop-line l = record {
  site : IsSite l.program l.at;
  shape : AreContractLines (tree_at l.program l.at);
  scope : scope_at l.program l.at ≡ scope_at l.program l.fn.list;
  added : (s : Scope) (final : Final) → running (scope_at l.program l.fn.list) ≡ s → map (numbering_of l.program final).origin l.conditions.items ++ required s (items (tree_at l.program l.at)) ≡ map (numbering_of l.program final).origin l.fn.conditions.items ++ required s (items (tree_at l.program l.fn.list));
}

abbrev pub decreases-loop-line : goal.decreases-loop-line
decreases-loop-line l = l.at.node
