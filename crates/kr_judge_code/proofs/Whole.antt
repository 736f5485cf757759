-- The code of a problem's program from its parts.
use Rattle.std.proofs.Common.{◌≡◌, sym, ap, ◌∙◌, ℕ, List, [], ◌∷◌, ◌++◌, length, map, subst, append_assoc, arith, ◌≤◌}
use Rattle.kr_classes_names.specs.ListedTypes.{IsGrown}
use Rattle.kr_classes_names.specs.Types.{type_at}
use Rattle.kr_classes_members.specs.Rosters.{all_methods}
use Rattle.kr_code.specs.declared.code.Code.{Code}
use Rattle.kr_code.specs.declared.code.Node.{Node}
use Rattle.kr_code.specs.declared.code.Node.TheVariants as nodes
use Rattle.kr_code.specs.declared.expression.Expression.TheVariants as expressions
use Rattle.kr_space_problem.specs.declared.problem.Problem.{Problem}
use Rattle.kr_space_problem.specs.Posed.{posed}
use Rattle.kr_code_members.specs.Nodes.{table}
use Rattle.kr_code_lowering.specs.Origins.{coded_count, numbering_of, others_from}
use Rattle.kr_code_lowering.specs.Sites.{Becomes}
use Rattle.kr_code_lowering.specs.Resolving.{AreNodes}
use Rattle.kr_code_lowering.proofs.Growth.{grown_none}
use Rattle.kr_code_bodies.specs.declared.tables.Tables.{Tables}
use Rattle.kr_code_bodies.specs.Tabled.{AreTabled}
use Rattle.kr_code_bodies.specs.Made.{AddsInitialisers, AreBodies}
use Rattle.kr_judge_code.specs.Compiled.{HasCall, IsCompiled, final_of}
use Rattle.kr_judge_code.proofs.Joined.{call_fits, expressions_are, statements_are}
use Rattle.kr_judge_code.proofs.Tabled.{HasTables, tables_are}

module _ (problem : Problem) (names : List (List ℕ)) (files called all : List Node) (linked links : List ℕ) (t : Tables) (code : Code) (are : AreNodes problem.program problem.arrays.items names linked files) (count : length files ≡ coded_count problem.program)
    (call : HasCall problem files called) (more : AddsInitialisers called all) (nodes_are : code.nodes.items ≡ all) (grown : IsGrown linked links) (links_are : code.links.items ≡ links)
    (methods : length code.methods.items ≡ length (all_methods (table problem.program))) (classes : length code.classes.items ≡ length (table problem.program).classes)
    (bodies : Becomes problem.program names links (final_of problem names) code → AreBodies (posed problem).program code (numbering_of problem.program (final_of problem names)))
    (tabled : AreTabled problem.program.trees.items problem.program.table.types (map (type_at problem.program.table.types) problem.arrays.items) names t) (has : HasTables code t) (fits : length code.nodes.items ≤ others_from problem.program) where
  ended : Becomes problem.program names links (final_of problem names) code
  ended = record { names = grown_none names; links = subst (λ (ls : List ℕ). IsGrown links ls) (sym links_are) (grown_none links); methods = methods; classes = classes }

  begun : Becomes problem.program names linked (final_of problem names) code
  begun = record { names = grown_none names; links = subst (λ (ls : List ℕ). IsGrown linked ls) (sym links_are) grown; methods = methods; classes = classes }

  split : code.nodes.items ≡ files ++ nodes.Expression call.call ∷ nodes.Expression expressions.This ∷ map nodes.Initialiser more.added
  split =
      let two : List Node = nodes.Expression call.call ∷ nodes.Expression expressions.This ∷ [] in
      nodes_are ∙ (more.items ∙ (ap (λ (ns : List Node). ns ++ map nodes.Initialiser more.added) call.items ∙ append_assoc files two (map nodes.Initialiser more.added)))

  pub compiled : IsCompiled problem code
  compiled = record {
    names = names;
    is = record {
      tables = tables_are problem.program problem.arrays.items (final_of problem names) t tabled code has methods classes (bodies ended);
      expressions = expressions_are problem names linked files are count call.call call.calls more.added code split begun fits;
      statements = statements_are problem names linked files are count call.call call.calls more.added code split begun fits;
    };
    room = (let fit = call_fits problem names linked files are count call.call call.calls more.added code split begun fits in omega (arith, fit, count));
    methods = methods;
  }
