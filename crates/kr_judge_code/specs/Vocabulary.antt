-- Between crates: what the contracts of this crate take from the crates below.
pub use Rattle.kr_classes_table.specs.Table.{items, method_named}
pub use Rattle.kr_classes_members.specs.Rosters.{all_methods, method_numbered}
pub use Rattle.kr_types_meaning.specs.Running.{running}
pub use Rattle.kr_types_meaning.specs.Scopes.{Scope}
pub use Rattle.kr_types.specs.Programs.{IsProgram}
pub use Rattle.kr_space_problem.specs.Posed.{IsPosed, posed}
pub use Rattle.kr_space_problem.specs.Subjects.{IsSubject}
pub use Rattle.kr_mean.specs.Runs.{conditions, requires_of, root_class, tested_method}
pub use Rattle.kr_mean.specs.Verdicts.{names_thrown, old_in}
pub use Rattle.kr_laws_types.specs.Derivation.{AreContractLines, IsContractLine, IsExpression}
pub use Rattle.kr_code.specs.declared.code.Code.{Code as CodeMade}
pub use Rattle.kr_code_members.specs.Nodes.{AreMemberNodes, table}
pub use Rattle.kr_code_lowering.specs.Calls.{IsFound}
pub use Rattle.kr_code_lowering.specs.Numbered.{AreNumbers}
pub use Rattle.kr_code_lowering.specs.Origins.{coded_count, Final, numbering_of, others_from}
pub use Rattle.kr_code_lowering.specs.Sites.{IsHere, IsSite, scope_at, tree_at}
pub use Rattle.kr_judge_prepared.specs.Tested.{IsCodeFor, IsContractOf, IsTestedBy}
