-- Between crates: the same steps as the work does them, each going on over what the one before it made.
use Rattle.std.specs.Prelude.{◌≡◌, ℕ, ◌+◌, ◌*◌, ◌<◌, ◌≤◌, ◌⊎◌, List, [], ◌∷◌, length, Some, None, Result, Ok, Err}
use Rattle.kr_lex.specs.Lexemes.{Lexemes}
use Rattle.kr_lex.specs.Rules.{rule_code as lex_code}
use Rattle.kr_lex.specs.Spells.{AreTokens}
use Rattle.kr_lex.specs.Broken.{IsFirstBroken}
use Rattle.kr_ast.specs.Tree.{Tree}
use Rattle.kr_parse.specs.Rules.{rule_code as parse_code}
use Rattle.kr_parse.specs.Refusals.{IsParsed, IsUnparsed}
use Rattle.kr_classes_table.specs.Predefined.{with_predefined}
use Rattle.kr_classes_table.specs.Table.{Table, table_of}
use Rattle.kr_classes_table.specs.Rules.{class_fault}
use Rattle.kr_types_meaning.specs.Typing.{type_fault}
use Rattle.kr_fin.specs.declared.document.FinDoc.{FinDoc}
use Rattle.kr_fin.specs.Order.{rule_code as fin_code}
use Rattle.kr_fin.specs.Meaning.{meaning}
use Rattle.kr_mean.specs.Problem.{Problem}
use Rattle.kr_mean.specs.Purity.{IsPure}
use Rattle.kr_mean.specs.declared.mode.Mode.{Mode}
use Rattle.kr_space_meaning.specs.Order.{rule_code as space_code}
use Rattle.kr_space_meaning.specs.Meaning.{meaning as problem_meant}
use Rattle.korat_top_files.specs.declared.refusal.InputFile.{InputFile}
use Rattle.korat_top_files.specs.declared.refusal.InputFile.TheVariants as input
use Rattle.korat_top_files.specs.Refusals.{Inputs, Refusal, too_long}
use Rattle.korat_top_files.specs.Steps.{LIMIT, broken_at, broken_of, impure_at, misclassed, mistyped}
use Rattle.kr_io.specs.Held.{Held}

-- the most nodes that the tree of a file has: three for each byte, and one more
abbrev pub MOST_NODES : ℕ
MOST_NODES = 3 * LIMIT + 1

-- ---- A step says what it makes, or what it refuses a file with

-- a step, and the next one over what the first makes
abbrev pub and_then : {A B : Type 0} → (Result A Refusal → Type 0) → (A → Result B Refusal → Type 0) → Result B Refusal → Type 0
and_then {A} first next (Ok b) = (a : A) × first (Ok a) × next a (Ok b)
and_then {A} first next (Err r) = first (Err r) ⊎ ((a : A) × first (Ok a) × next a (Err r))

-- a step over each item in order, numbered from a number on
abbrev pub each : {A B : Type 0} → (ℕ → A → Result B Refusal → Type 0) → ℕ → List A → Result (List B) Refusal → Type 0
each step n [] (Ok []) = Unit {0}
each step n [] (Ok (b ∷ made)) = ⊥
each step n [] (Err r) = ⊥
each step n (a ∷ items) (Ok []) = ⊥
each step n (a ∷ items) (Ok (b ∷ made)) = step n a (Ok b) × each step (n + 1) items (Ok made)
each {A} {B} step n (a ∷ items) (Err r) = step n a (Err r) ⊎ ((b : B) × step n a (Ok b) × each step (n + 1) items (Err r))

-- nothing is left to refuse
abbrev pub made : {A : Type 0} → A → Result A Refusal → Type 0
made a (Ok b) = a ≡ b
made a (Err r) = ⊥

-- ---- The steps

-- a file is read whole, where it isn't too long
abbrev pub reading : Held → InputFile → List ℕ → Result (List ℕ) Refusal → Type 0
reading held file name (Ok bytes) = (held name ≡ Some bytes) × (length bytes ≤ LIMIT)
reading held file name (Err r) = (bytes : List ℕ) × (held name ≡ Some bytes) × (LIMIT < length bytes) × (r ≡ too_long file)

abbrev pub reading_source : Held → ℕ → List ℕ → Result (List ℕ) Refusal → Type 0
reading_source held n name = reading held (input.Source n) name

-- a source's tokens
abbrev pub lexing : ℕ → List ℕ → Result Lexemes Refusal → Type 0
lexing n bytes (Ok tokens) = AreTokens n bytes tokens
lexing n bytes (Err r) = broken_at lex_code (IsFirstBroken n bytes) r

-- the tree of a source's tokens
abbrev pub parsing : Lexemes → Result Tree Refusal → Type 0
parsing tokens (Ok tree) = IsParsed tokens tree
parsing tokens (Err r) = broken_at parse_code (IsUnparsed tokens) r

-- the tree of a source
abbrev pub growing : ℕ → List ℕ → Result Tree Refusal → Type 0
growing n bytes = and_then (lexing n bytes) parsing

-- the class table of the sources, which breaks no class rule
abbrev pub classing : List Tree → Result Table Refusal → Type 0
classing trees (Ok table) = (table ≡ table_of trees) × (class_fault table ≡ None)
classing trees (Err r) = misclassed trees r

-- no node breaks a typing rule; else the first broken one decides
abbrev pub typing : List Tree → Result (Unit {0}) Refusal → Type 0
typing trees (Ok done) = type_fault trees ≡ None
typing trees (Err r) = mistyped trees r

-- the document that the finitization is
abbrev pub stating : List ℕ → Result FinDoc Refusal → Type 0
stating fin (Ok document) = meaning fin ≡ Ok document
stating fin (Err r) = broken_of fin_code (meaning fin) r

-- the problem of the sources and the document, which breaks no rule beside them
abbrev pub spacing : Mode → List Tree → FinDoc → Result Problem Refusal → Type 0
spacing mode trees document (Ok problem) = problem_meant trees document mode ≡ Ok problem
spacing mode trees document (Err r) = broken_of space_code (problem_meant trees document mode) r

-- the predicate leaves the candidates alone; else the first node of its code that doesn't decides
abbrev pub purifying : Problem → Result (Unit {0}) Refusal → Type 0
purifying problem (Ok done) = IsPure problem
purifying problem (Err r) = impure_at problem r

-- ---- Their order, from the last one on: each goes on over what those before it make

abbrev pub from_problem : Problem → Result Problem Refusal → Type 0
from_problem problem = and_then (purifying problem) (λ done. made problem)

abbrev pub from_document : Mode → List Tree → FinDoc → Result Problem Refusal → Type 0
from_document mode trees document = and_then (spacing mode trees document) from_problem

abbrev pub from_trees : Mode → List ℕ → List Tree → Result Problem Refusal → Type 0
from_trees mode fin trees = and_then (stating fin) (λ document. from_document mode trees document)

abbrev pub from_table : Mode → List ℕ → List Tree → Result Problem Refusal → Type 0
from_table mode fin trees = and_then (typing trees) (λ done. from_trees mode fin trees)

abbrev pub from_grown : Mode → List ℕ → List Tree → Result Problem Refusal → Type 0
from_grown mode fin trees = and_then (classing trees) (λ table. from_table mode fin trees)

abbrev pub from_texts : Mode → List ℕ → List (List ℕ) → Result Problem Refusal → Type 0
from_texts mode fin sources = and_then (each growing 0 sources) (λ files. from_grown mode fin (with_predefined files))

abbrev pub from_fin : Held → Mode → Inputs → List ℕ → Result Problem Refusal → Type 0
from_fin held mode inputs fin = and_then (each (reading_source held) 0 inputs.sources) (λ sources. from_texts mode fin sources)

-- all steps, the finitization read first: the problem that the files pose, where none is refused
abbrev pub checking : Held → Mode → Inputs → Result Problem Refusal → Type 0
checking held mode inputs = and_then (reading held input.Finitization inputs.fin) (λ fin. from_fin held mode inputs fin)
