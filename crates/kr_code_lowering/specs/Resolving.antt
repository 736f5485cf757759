-- Between crates: the nodes of code while it is made: each is the resolved form of the node of its number.
use Rattle.std.specs.Prelude.{◌≡◌, ℕ, List, slice_get, Some}
use Rattle.kr_types_meaning.specs.Scopes.{Locals}
use Rattle.kr_types.specs.declared.program.Program.{Program}
use Rattle.kr_code.specs.declared.code.Code.{Code}
use Rattle.kr_code.specs.declared.code.Node.{Node}
use Rattle.kr_code.specs.Tables.{catch_of, declarator_of, expression_of, statement_of}
use Rattle.kr_code.specs.Resolved.{IsCatch, IsDeclarator, IsExpression, IsStatement}
use Rattle.kr_code_members.specs.Nodes.{run_program}
use Rattle.kr_code_lowering.specs.Origins.{Final, numbering_of, origin_of}
use Rattle.kr_code_lowering.specs.Sites.{Becomes}
use Rattle.kr_code_lowering.specs.Statements.{AreDeclared}

-- the node of this number, with these names and links, in whatever code they become
pub record IsNode (p : Program) (arrays : List ℕ) (known : List (List ℕ)) (linked : List ℕ) (k : ℕ) (node : Node) : Type 0 where
  pub expression : (final : Final) (code : Code) → Becomes p known linked final code → IsExpression (run_program p arrays) code (numbering_of p final) (origin_of p final.nodes k).scope (origin_of p final.nodes k).tree (expression_of node)
  pub statement : (final : Final) (code : Code) → Becomes p known linked final code → AreDeclared p final code → IsStatement code (numbering_of p final) (origin_of p final.nodes k).scope (origin_of p final.nodes k).tree (statement_of node)
  pub declarator : (final : Final) → (origin_of p final.nodes k).scope.declaring ≡ Locals → IsDeclarator (numbering_of p final) (origin_of p final.nodes k).scope (origin_of p final.nodes k).tree (declarator_of node)
  pub caught : (final : Final) → IsCatch (numbering_of p final) (origin_of p final.nodes k).scope (origin_of p final.nodes k).tree (catch_of node)

-- the first nodes of the code
abbrev pub AreNodes : Program → List ℕ → List (List ℕ) → List ℕ → List Node → Type 0
AreNodes p arrays known linked nodes = (k : ℕ) (node : Node) → slice_get nodes k ≡ Some node → IsNode p arrays known linked k node
