use Rattle.std.proofs.Common.{◌≡◌, ◌∙◌, ◌≤◌, ℕ, List, length, sym, subst, arith}
use Rattle.std.specs.Prelude.{All}
use Rattle.kr_demo.specs.Texts.{finitization_text}
use Rattle.kr_mean.specs.declared.mode.Mode.TheVariants.{List as Listing}
use Rattle.kr_space_problem.specs.Posed.{posed}
use Rattle.korat_top_files.specs.Steps.{LIMIT}
use Rattle.korat_top_files.specs.Chains.{from_texts}
use Rattle.korat_top_files.specs.Found.{Meets}
use Rattle.korat_top_files.proofs.Small.{one_short}
use Rattle.korat_top_files.proofs.find.find_demo.Goals as goal

pub judge_from_parsing-requires-clause-short : goal.judge_from_parsing-requires-clause-short
judge_from_parsing-requires-clause-short c =
    let n = c.args.nodes in
    subst (λ (ts : List (List ℕ)). All (λ (text : List ℕ). length text ≤ LIMIT) ts) (sym c.in_ok-texts.ensures) (one_short n (omega (arith, c.ranges.nodes.fits)))

pub judge_from_parsing-requires-clause-few : goal.judge_from_parsing-requires-clause-few
judge_from_parsing-requires-clause-few c = subst (λ (ts : List (List ℕ)). length ts ≤ 16) (sym c.in_ok-texts.ensures) (omega arith)

pub returns : goal.returns
returns c =
    let n = c.args.nodes in
    let fin : c.deref.result.now ≡ finitization_text n = c.deref.ensures.value ∙ c.in_ok-fin.ensures.text in
    record {
      judged = subst (λ (ts : List (List ℕ)). Meets (from_texts Listing (finitization_text n) ts) posed c.judge_from_parsing.result) c.in_ok-texts.ensures
          (subst (λ (f : List ℕ). Meets (from_texts Listing f c.in_ok-texts.texts) posed c.judge_from_parsing.result) fin c.judge_from_parsing.ensures.judged);
    }
