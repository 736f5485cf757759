-- Between crates: what holds of the problems of documents that break no rule, and of the rule that is named where some are
-- broken.
use Rattle.std.specs.Prelude.{◌≡◌, List, []}
use Rattle.kr_ast.specs.Tree.{Tree}
use Rattle.kr_mean.specs.declared.mode.Mode.{Mode}
use Rattle.kr_mean.specs.WellFormed.{IsWellFormed}
use Rattle.kr_fin.specs.declared.document.FinDoc.{FinDoc}
use Rattle.kr_fin.specs.Least as by
use Rattle.kr_space_meaning.specs.Bounds.{problem_of}
use Rattle.kr_space_meaning.specs.Meaning.{faults_of}
use Rattle.kr_space_meaning.specs.Order.{space_rank}

-- the problem of a document that breaks no rule is well formed
abbrev pub WellFormedLaw : Type 0
WellFormedLaw = (files : List Tree) (document : FinDoc) (mode : Mode) → faults_of files document mode ≡ [] → IsWellFormed (problem_of files document mode)

-- the least is there where there are faults, and is the least of them
abbrev pub LeastLaw : Type 0
LeastLaw = by.LeastLaw space_rank
