-- To be believed: the meaning of a program, a document and a mode: their problem, or the rule that they break first.
use Rattle.std.specs.Prelude.{List, Option, Some, None, Result, Ok, Err}
use Rattle.kr_ast.specs.Tree.{Tree}
use Rattle.kr_mean.specs.declared.mode.Mode.{Mode}
use Rattle.kr_mean.specs.Problem.{Problem}
use Rattle.kr_fin.specs.declared.document.FinDoc.{FinDoc}
use Rattle.kr_space_meaning.specs.Bounds.{setting_of, problem_of}
use Rattle.kr_space_meaning.specs.Faults.{faults_in}
use Rattle.kr_space_meaning.specs.Order.{Fault, least}

-- all that is broken
abbrev pub faults_of : List Tree → FinDoc → Mode → List Fault
faults_of files document mode = faults_in (problem_of files document mode) (setting_of files document) mode

abbrev pub unless : Option Fault → Problem → Result Problem Fault
unless None problem = Ok problem
unless (Some fault) problem = Err fault

unfoldable pub meaning : List Tree → FinDoc → Mode → Result Problem Fault
meaning files document mode = unless (least (faults_of files document mode)) (problem_of files document mode)
