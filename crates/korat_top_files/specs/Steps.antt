-- To be believed: the steps that the files of a command go through, in their order. The first that refuses a file decides.
use Rattle.std.specs.Prelude.{◌≡◌, ℕ, ◌+◌, ◌<◌, ◌≤◌, ◌⊎◌, List, [], ◌∷◌, ◌++◌, length, Option, Some, None, Result, Ok, Err, IfSome, IsSome}
use Rattle.kr_base.specs.declared.place.Place.{Place}
use Rattle.kr_base.specs.declared.refusal.Fault.{Fault}
use Rattle.kr_lex.specs.Lexemes.{Lexemes}
use Rattle.kr_lex.specs.Rules.{rule_code as lex_code}
use Rattle.kr_lex.specs.Spells.{AreTokens}
use Rattle.kr_lex.specs.Broken.{IsFirstBroken}
use Rattle.kr_ast.specs.Tree.{Tree}
use Rattle.kr_parse.specs.Rules.{rule_code as parse_code}
use Rattle.kr_parse.specs.Refusals.{IsParsed, IsUnparsed}
use Rattle.kr_classes_table.specs.Predefined.{predefined}
use Rattle.kr_classes_table.specs.Table.{table_of}
use Rattle.kr_classes_table.specs.Rules.{class_fault}
use Rattle.kr_types_meaning.specs.Typing.{type_fault}
use Rattle.kr_classes.specs.Refusals.{rule_number as class_number, rule_code as class_code}
use Rattle.kr_types_judging.specs.Numbers.{rule_number as type_number}
use Rattle.kr_fin.specs.declared.document.FinDoc.{FinDoc}
use Rattle.kr_fin.specs.Order.{rule_code as fin_code}
use Rattle.kr_fin.specs.Meaning.{meaning}
use Rattle.kr_fin.specs.declared.reading.TheConstants.{MAX_FIN_BYTES}
use Rattle.kr_mean.specs.Problem.{Problem}
use Rattle.kr_mean.specs.Purity.{IsPure, IsFirstImpure}
use Rattle.kr_mean.specs.declared.mode.Mode.{Mode}
use Rattle.kr_space_meaning.specs.Order.{rule_code as space_code}
use Rattle.kr_space_meaning.specs.Meaning.{meaning as problem_meant}
use Rattle.korat_top_files.specs.declared.refusal.InputFile.TheVariants as input
use Rattle.korat_top_files.specs.declared.rules.CallRule.TheVariants.{Impure}
use Rattle.korat_top_files.specs.Refusals.{Inputs, Refusal, at_place, call_code, of_finitization, too_long, typing_code}
use Rattle.kr_io.specs.Held.{Held}

-- the longest file that is taken, in bytes: as long as a finitization may be
abbrev pub LIMIT : ℕ
LIMIT = MAX_FIN_BYTES

-- ---- What the steps say of a file

-- a file is read whole
abbrev pub IsRead : Held → List ℕ → List ℕ → Type 0
IsRead held name bytes = (held name ≡ Some bytes) × (length bytes ≤ LIMIT)

-- a file has more bytes than are taken
abbrev pub IsTooLong : Held → List ℕ → Type 0
IsTooLong held name = (bytes : List ℕ) × (held name ≡ Some bytes) × (LIMIT < length bytes)

-- files are read whole, in order
abbrev pub AreRead : Held → List (List ℕ) → List (List ℕ) → Type 0
AreRead held [] [] = Unit {0}
AreRead held [] (bytes ∷ texts) = ⊥
AreRead held (name ∷ names) [] = ⊥
AreRead held (name ∷ names) (bytes ∷ texts) = IsRead held name bytes × AreRead held names texts

-- the tree of a source, by its tokens
abbrev pub IsTreeOf : ℕ → List ℕ → Tree → Type 0
IsTreeOf n bytes tree = (tokens : Lexemes) × AreTokens n bytes tokens × IsParsed tokens tree

-- the trees of sources, numbered from a number on
abbrev pub AreTrees : ℕ → List (List ℕ) → List Tree → Type 0
AreTrees n [] [] = Unit {0}
AreTrees n [] (tree ∷ trees) = ⊥
AreTrees n (bytes ∷ sources) [] = ⊥
AreTrees n (bytes ∷ sources) (tree ∷ trees) = IsTreeOf n bytes tree × AreTrees (n + 1) sources trees

-- the trees of a program: of the predefined classes, and of its sources
abbrev pub AreProgram : List (List ℕ) → List Tree → Type 0
AreProgram sources [] = ⊥
AreProgram sources (tree ∷ trees) = (tree ≡ predefined) × AreTrees 0 sources trees

-- a source is refused: by a rule that it breaks at a place
abbrev pub broken_at : {R : Type 0} → (R → List ℕ) → (Place → R → Type 0) → Refusal → Type 0
broken_at {R} code breaks r = (place : Place) × (rule : R) × breaks place rule × (r ≡ at_place place (code rule))

-- the finitization is refused: by the fault that it has
abbrev pub broken_of : {R A : Type 0} → (R → List ℕ) → Result A (Fault R) → Refusal → Type 0
broken_of {R} code meant r = (fault : Fault R) × (meant ≡ Err fault) × (r ≡ of_finitization (code fault.rule) fault.item)

-- the predicate, or what the contract of the method under test asks, writes a candidate or makes one: first here
abbrev pub impure_at : Problem → Refusal → Type 0
impure_at problem r = (place : Place) × IsFirstImpure problem place × (r ≡ at_place place (call_code Impure))

-- the classes break a class rule, or the nodes a typing rule: first here
abbrev pub misclassed : List Tree → Refusal → Type 0
misclassed trees r = broken_at class_code (λ place rule. class_fault (table_of trees) ≡ Some (record { place = place; rule = class_number rule })) r

abbrev pub mistyped : List Tree → Refusal → Type 0
mistyped trees r = broken_at typing_code (λ place rule. type_fault trees ≡ Some (record { place = place; rule = type_number rule })) r

-- ---- The steps over texts

-- What a finitization and sources give: the problem of a mode, or the first refusal. Each step uses what the steps
-- before it made: the trees of the predefined classes and of the sources, one after another; classes that break no class rule; no node that breaks a
-- typing rule; the document that the finitization is; the problem that it poses; a predicate that leaves the candidates alone.
pub data Judges (mode : Mode) (fin : List ℕ) (sources : List (List ℕ)) : Result Problem Refusal → Type 0 where
  unlexed : (front : List (List ℕ)) (bytes : List ℕ) (rest : List (List ℕ)) (trees : List Tree) (r : Refusal)
      → sources ≡ front ++ bytes ∷ rest → AreTrees 0 front trees
      → broken_at lex_code (IsFirstBroken (length front) bytes) r → Judges mode fin sources (Err r)
  unparsed : (front : List (List ℕ)) (bytes : List ℕ) (rest : List (List ℕ)) (trees : List Tree) (tokens : Lexemes) (r : Refusal)
      → sources ≡ front ++ bytes ∷ rest → AreTrees 0 front trees → AreTokens (length front) bytes tokens
      → broken_at parse_code (IsUnparsed tokens) r → Judges mode fin sources (Err r)
  unclassed : (trees : List Tree) (r : Refusal)
      → AreProgram sources trees
      → misclassed trees r → Judges mode fin sources (Err r)
  untyped : (trees : List Tree) (r : Refusal)
      → AreProgram sources trees → class_fault (table_of trees) ≡ None
      → mistyped trees r → Judges mode fin sources (Err r)
  unstated : (trees : List Tree) (r : Refusal)
      → AreProgram sources trees → class_fault (table_of trees) ≡ None → type_fault trees ≡ None
      → broken_of fin_code (meaning fin) r → Judges mode fin sources (Err r)
  unposed : (trees : List Tree) (document : FinDoc) (r : Refusal)
      → AreProgram sources trees → class_fault (table_of trees) ≡ None → type_fault trees ≡ None → meaning fin ≡ Ok document
      → broken_of space_code (problem_meant trees document mode) r → Judges mode fin sources (Err r)
  impure : (trees : List Tree) (document : FinDoc) (problem : Problem) (r : Refusal)
      → AreProgram sources trees → class_fault (table_of trees) ≡ None → type_fault trees ≡ None → meaning fin ≡ Ok document
      → problem_meant trees document mode ≡ Ok problem
      → impure_at problem r → Judges mode fin sources (Err r)
  accepted : (trees : List Tree) (document : FinDoc) (problem : Problem)
      → AreProgram sources trees → class_fault (table_of trees) ≡ None → type_fault trees ≡ None → meaning fin ≡ Ok document
      → problem_meant trees document mode ≡ Ok problem → IsPure problem
      → Judges mode fin sources (Ok problem)

-- ---- The steps over files

-- What files give: they are read, the finitization first, and judged.
pub data Checks (held : Held) (mode : Mode) (inputs : Inputs) : Result Problem Refusal → Type 0 where
  long_finitization : IsTooLong held inputs.fin → Checks held mode inputs (Err (too_long input.Finitization))
  long_source : (fin : List ℕ) (front : List (List ℕ)) (name : List ℕ) (rest texts : List (List ℕ))
      → IsRead held inputs.fin fin → inputs.sources ≡ front ++ name ∷ rest → AreRead held front texts
      → IsTooLong held name → Checks held mode inputs (Err (too_long (input.Source (length front))))
  judged : (fin : List ℕ) (texts : List (List ℕ)) (result : Result Problem Refusal)
      → IsRead held inputs.fin fin → AreRead held inputs.sources texts
      → Judges mode fin texts result → Checks held mode inputs result

-- ---- Which files are read

-- The file is one of these, which are read in order, and no file before it is too long, as far as their bytes are known.
abbrev pub ReadsIn : Held → List (List ℕ) → List ℕ → Type 0
ReadsIn held [] file = ⊥
ReadsIn held (name ∷ names) file = (name ≡ file) ⊎ (IfSome (held name) (λ bytes. length bytes ≤ LIMIT) × ReadsIn held names file)

-- the file is one that the command reads: no step before its read is broken
abbrev pub Reads : Held → Inputs → List ℕ → Type 0
Reads held inputs file = ReadsIn held (inputs.fin ∷ inputs.sources) file

-- the bytes of all files that the command reads are known
abbrev pub AllTold : Held → Inputs → Type 0
AllTold held inputs = (file : List ℕ) → Reads held inputs file → IsSome (held file)
