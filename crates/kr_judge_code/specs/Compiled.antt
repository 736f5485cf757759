-- Between crates: the code of a problem's program with the call of the root's `repOk`, which is in no file.
use Rattle.std.specs.Prelude.{◌≡◌, ℕ, ◌+◌, ◌<◌, List, [], ◌∷◌, ◌++◌, length}
use Rattle.kr_ast.specs.Tree.{This}
use Rattle.kr_mean.specs.Code as meaning
use Rattle.kr_mean.specs.Program.{class_scope}
use Rattle.kr_mean.specs.Runs.{rep_ok, rep_ok_node, root_class}
use Rattle.kr_base.specs.Places.{nowhere}
use Rattle.kr_code.specs.declared.code.Code.{Code}
use Rattle.kr_code.specs.declared.code.Node.{Node}
use Rattle.kr_code.specs.declared.code.Node.TheVariants as nodes
use Rattle.kr_code.specs.declared.expression.Expression.{Expression}
use Rattle.kr_code.specs.declared.expression.Expression.TheVariants as expressions
use Rattle.kr_code.specs.declared.expression.Nodes.{Nodes}
use Rattle.kr_code.specs.Resolved.{IsCodeOf, IsExpression, IsPart}
use Rattle.kr_types.specs.declared.program.Program.{Program}
use Rattle.kr_space_problem.specs.declared.problem.Problem.{Problem}
use Rattle.kr_space_problem.specs.Posed.{posed}
use Rattle.kr_code_members.specs.Nodes.{table, run_program}
use Rattle.kr_classes_members.specs.Rosters.{all_methods}
use Rattle.kr_code_lowering.specs.Origins.{Final, coded_count, numbering_of, others_from}
use Rattle.kr_code_lowering.specs.Sites.{Becomes}

abbrev pub no_arguments : Nodes
no_arguments = record { first = 0; count = 0 }

-- `this`, on which the root's `repOk` is called
abbrev pub this_node : Problem → meaning.Node
this_node problem = record { scope = class_scope (posed problem).program (root_class (posed problem)); tree = This nowhere }

-- the nodes that are in no file
abbrev pub call_nodes : Problem → List meaning.Node
call_nodes problem = rep_ok_node (posed problem) ∷ this_node problem ∷ []

-- it is `this.repOk()` in the code of a class, where the node of its `this` has the number, in whatever code this becomes
abbrev pub CallsRepOk : Program → ℕ → ℕ → Expression → Type 0
CallsRepOk p c object x =
    (arrays : List ℕ) (known : List (List ℕ)) (linked : List ℕ) (final : Final) (code : Code) → Becomes p known linked final code → IsPart (numbering_of p final) (class_scope (run_program p arrays) c) (This nowhere) object
    → IsExpression (run_program p arrays) code (numbering_of p final) (class_scope (run_program p arrays) c) rep_ok x

-- the two nodes after those of the files, of which there are so many
pub record HasCall (problem : Problem) (files made : List Node) : Type 0 where
  pub call : Expression
  pub items : made ≡ files ++ nodes.Expression call ∷ nodes.Expression expressions.This ∷ []
  pub calls : CallsRepOk problem.program (root_class (posed problem)) (length files + 1) call

-- with these names, and the call after the nodes of the files
abbrev pub final_of : Problem → List (List ℕ) → Final
final_of problem names = record { names = names; nodes = call_nodes problem }

-- it has all methods of the problem's program
abbrev pub HasMethods : Problem → Code → Type 0
HasMethods problem code = length code.methods.items ≡ length (all_methods (table problem.program))

-- it is the code of the problem's program with the call, with some names; the call's number is no other node's
pub record IsCompiled (problem : Problem) (code : Code) : Type 0 where
  pub names : List (List ℕ)
  pub is : IsCodeOf (posed problem).program code (numbering_of problem.program (final_of problem names))
  pub room : coded_count problem.program < others_from problem.program
  pub methods : HasMethods problem code
