-- A document has a problem where it breaks no rule beside the files.
use Rattle.std.proofs.Common.{◌≡◌, List, [], Ok, ap, ◌∙◌}
use Rattle.kr_ast.specs.Tree.{Tree}
use Rattle.kr_mean.specs.Problem.{Problem}
use Rattle.kr_mean.specs.declared.mode.Mode.{Mode}
use Rattle.kr_fin.specs.declared.document.FinDoc.{FinDoc}
use Rattle.kr_space_meaning.specs.Bounds.{problem_of}
use Rattle.kr_space_meaning.specs.Meaning.{faults_of, meaning, unless}
use Rattle.kr_space_meaning.specs.Order.{Fault, least}

pub poses_it : (files : List Tree) (document : FinDoc) (mode : Mode) (problem : Problem) → faults_of files document mode ≡ [] → problem_of files document mode ≡ problem → meaning files document mode ≡ Ok problem
unfolding meaning
poses_it files document mode problem none is =
    ap (λ (fs : List Fault). unless (least fs) (problem_of files document mode)) none ∙ ap Ok is
