-- What a program and a document give.
use Rattle.std.proofs.Common.{◌≡◌, ◌∙◌, List, ap, subst, sym}
use Rattle.std.specs.Prelude.{None, Option, Result, Ok, Err}
use Rattle.kr_mean.specs.declared.mode.Mode.{Mode}
use Rattle.kr_ast.specs.Tree.{Tree}
use Rattle.kr_fin.specs.declared.document.FinDoc.{FinDoc}
use Rattle.kr_space_meaning.specs.Bounds.{problem_of}
use Rattle.kr_space_meaning.specs.Meaning.{faults_of, meaning, unless}
use Rattle.kr_space_meaning.specs.Order.{Fault, least, rule_code}
use Rattle.kr_space.specs.Refusals.{Refuses}
use Rattle.kr_space_meaning.specs.declared.refusal.SpaceRule.{SpaceRule}
use Rattle.kr_base.specs.declared.refusal.RefusalOf.{RefusalOf}
use Rattle.kr_base.specs.declared.refusal.RefusalOf.TheVariants as of
use Rattle.kr_space_problem.specs.Posed.{posed}
use Rattle.kr_space_problem.specs.declared.problem.Problem.{Problem}
use Rattle.korat_top_files.specs.declared.refusal.Stop.{Stop}
use Rattle.korat_top_files.specs.Refusals.{Refusal}
use Rattle.korat_top_files.specs.Chains.{spacing}
use Rattle.korat_top_files.specs.Found.{Meets, StopsBy, StopsOf}

pub posed_made : (mode : Mode) (files : List Tree) (document : FinDoc) (p : Problem) → least (faults_of files document mode) ≡ None → posed p ≡ problem_of files document mode → spacing mode files document (Ok (posed p))
unfolding meaning
posed_made mode files document p none is = ap (λ (o : Option Fault). unless o (problem_of files document mode)) none ∙ ap Ok (sym is)

pub posed_stops : (mode : Mode) (files : List Tree) (document : FinDoc) (refusal : RefusalOf SpaceRule) (stop : Stop) → Refuses (least (faults_of files document mode)) refusal → StopsOf rule_code refusal stop
    → StopsBy (spacing mode files document) stop
unfolding meaning
posed_stops mode files document (of.Broken fault) stop h s =
    subst (StopsBy (spacing mode files document)) (sym s.1) (fault, ap (λ (o : Option Fault). unless o (problem_of files document mode)) h, s.2)
posed_stops mode files document (of.NoMemory why) stop h s = subst (StopsBy (spacing mode files document)) (sym s) tt

-- work that stops gives that
pub meets_stop : {A : Type 0} (steps : Result A Refusal → Type 0) (seen : Problem → A) (r : Result Problem Stop) (stop : Stop) → r ≡ Err stop → StopsBy steps stop → Meets steps seen r
meets_stop steps seen r stop e h = subst (Meets steps seen) (sym e) h
