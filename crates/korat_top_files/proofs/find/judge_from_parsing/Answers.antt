use Rattle.std.proofs.Common.{◌≡◌, ◌≤◌, List, ◌∷◌, length, sym, ap, ◌∙◌, subst, arith}
use Rattle.std.proofs.lemmas.List.Elements.{All-cons}
use Rattle.std.specs.Prelude.{map}
use Rattle.kr_ast.specs.Arena.{Arena, root}
use Rattle.kr_ast.specs.Tree.{Tree}
use Rattle.kr_classes_table.specs.Predefined.{predefined, with_predefined}
use Rattle.kr_laws_types.specs.Derivation.{AreClasses}
use Rattle.kr_laws_types.proofs.Predefined.{predefined_shape}
use Rattle.kr_space_problem.specs.Posed.{posed}
use Rattle.korat_top_files.specs.Chains.{MOST_NODES, each, growing, from_grown}
use Rattle.korat_top_files.specs.Found.{AreGrown, Meets}
use Rattle.korat_top_files.proofs.Outcomes.{meets_next}
use Rattle.korat_top_files.proofs.Told.{grown_many}
use Rattle.korat_top_files.proofs.find.judge_from_parsing.Goals as goal

pub judge_from_classes-requires : goal.judge_from_classes-requires
judge_from_classes-requires c =
    let files = c.in_ok-files.files.items in
    let first = c.in_ok-trees.ensures in
    let many = grown_many 0 c.args.texts.now files c.in_ok-files.ensures.grown in
    subst AreGrown (sym first.3)
    (record {
      few = omega (arith, c.requires.few, many);
      small = All-cons (λ (t : Arena). length t.entries ≤ MOST_NODES) first.0 files first.2 c.in_ok-files.ensures.small;
      shaped = All-cons (λ (t : Arena). AreClasses (root t)) first.0 files (subst AreClasses (sym first.1) predefined_shape) c.in_ok-files.ensures.shaped;
    })

pub returns : goal.returns
returns c =
    let files = c.in_ok-files.files.items in
    let first = c.in_ok-trees.ensures in
    let mode = c.args.mode in
    let fin = c.args.fin.now in
    let trees : map root c.in_ok-trees.trees.items ≡ predefined ∷ map root files = ap (map root) first.3 ∙ ap (λ (t : Tree). t ∷ map root files) first.1 in
    record {
      judged = meets_next (each growing 0 c.args.texts.now) (λ files. from_grown mode fin (with_predefined files)) posed (map root files) c.judge_from_classes.result
          c.in_ok-files.ensures.grown (subst (λ (ts : List Tree). Meets (from_grown mode fin ts) posed c.judge_from_classes.result) trees c.judge_from_classes.ensures.judged);
    }
