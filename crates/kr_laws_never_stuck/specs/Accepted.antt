-- To be believed: sources and a finitization that are accepted, and their problem.
use Rattle.std.specs.Prelude.{◌≡◌, ℕ, List, None, Ok}
use Rattle.kr_ast.specs.Tree.{Tree}
use Rattle.kr_classes_table.specs.Table.{table_of}
use Rattle.kr_classes_table.specs.Rules.{class_fault}
use Rattle.kr_types_meaning.specs.Typing.{type_fault}
use Rattle.kr_mean.specs.declared.mode.Mode.{Mode}
use Rattle.kr_mean.specs.Problem.{Problem}
use Rattle.kr_fin.specs.declared.document.FinDoc.{FinDoc}
use Rattle.kr_fin.specs.Meaning.{meaning as document_meant}
use Rattle.kr_space_meaning.specs.Meaning.{meaning as problem_meant}
use Rattle.kr_laws_never_stuck.specs.Grown.{AreProgram}

-- the trees of the program, of the predefined classes and of the sources, break no class rule and no typing rule; the bytes of the
-- finitization are a document that breaks no rule beside them, and this is their problem
pub record IsAccepted (sources : List (List ℕ)) (bytes : List ℕ) (mode : Mode) (problem : Problem) : Type 0 where
  pub files : List Tree
  pub read : AreProgram sources files
  pub classes : class_fault (table_of files) ≡ None
  pub types : type_fault files ≡ None
  pub document : FinDoc
  pub stated : document_meant bytes ≡ Ok document
  pub posed : problem_meant files document mode ≡ Ok problem
