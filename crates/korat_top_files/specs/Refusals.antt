-- To be believed: what a file of a call is refused with.
use Rattle.std.specs.Prelude.{ℕ, List, [], ◌++◌, Option, Some, None, codes, decimal, slice_index_or}
use Rattle.kr_base.specs.declared.place.Place.{Place}
use Rattle.kr_types_judging.specs.declared.rules.TypingRule.{TypingRule}
use Rattle.kr_types_judging.specs.Numbers.{rule_number}
use Rattle.kr_fin.specs.declared.refusal.FinRule.TheVariants.{TooLong}
use Rattle.kr_fin.specs.Order.{rule_code as fin_code}
use Rattle.kr_text.specs.Texts.{refusal_text}
use Rattle.korat_top_files.specs.declared.rules.CallRule.{CallRule}
use Rattle.korat_top_files.specs.declared.rules.CallRule.TheVariants.{LongSource, Impure, Construction, ClassName}
use Rattle.korat_top_files.specs.declared.refusal.InputFile.{InputFile}
use Rattle.korat_top_files.specs.declared.refusal.InputFile.TheVariants as input
use Rattle.korat_top_files.specs.declared.refusal.Refusal.{Refusal as OwnRefusal}
use Rattle.korat_top_files.specs.declared.refusal.Refusal.TheVariants as own

-- the files that a command names: the finitization, and the sources in order
pub record Inputs : Type 0 where
  pub fin : List ℕ
  pub sources : List (List ℕ)

abbrev pub files_of : List ℕ → List (List ℕ) → Inputs
files_of fin sources = record { fin = fin; sources = sources }

-- A file breaks a rule, which has a code; where in it, if there is a place; of what item, if that isn't empty.
pub record Refusal : Type 0 where
  pub file : InputFile
  pub place : Option Place
  pub rule : List ℕ
  pub item : List ℕ

-- a source breaks a rule at a place
abbrev pub at_place : Place → List ℕ → Refusal
at_place place rule = record { file = input.Source place.file; place = Some place; rule = rule; item = [] }

-- the finitization breaks a rule, of an item
abbrev pub of_finitization : List ℕ → List ℕ → Refusal
of_finitization rule item = record { file = input.Finitization; place = None; rule = rule; item = item }

-- ---- the codes of rules that no crate below has

-- of a typing rule, by its number
abbrev pub type_code : ℕ → List ℕ
type_code n = codes "T" ++ decimal n

abbrev pub typing_code : TypingRule → List ℕ
typing_code rule = type_code (rule_number rule)

-- of any other
abbrev pub call_code : CallRule → List ℕ
call_code LongSource = codes "B1"
call_code Impure = codes "I1"
call_code Construction = codes "E1"
call_code ClassName = codes "E2"

-- ---- more bytes than are taken

-- where a source begins
abbrev pub source_start : ℕ → Place
source_start n = record { file = n; line = 1; col = 1 }

abbrev pub too_long : InputFile → Refusal
too_long input.Finitization = of_finitization (fin_code TooLong) (codes "size")
too_long (input.Source n) = at_place (source_start n) (call_code LongSource)

-- ---- what is reported of a refusal

-- a file's name, as the words give it
abbrev pub name_of : Inputs → InputFile → List ℕ
name_of inputs input.Finitization = inputs.fin
name_of inputs (input.Source n) = slice_index_or inputs.sources n []

-- the status of a call that a file's refusal ends
abbrev pub status_of_file : InputFile → ℕ
status_of_file input.Finitization = 4
status_of_file (input.Source n) = 3

-- `NAME:LINE:COL: RULE ITEM`
abbrev pub line_of : Inputs → Refusal → List ℕ
line_of inputs refusal = refusal_text (name_of inputs refusal.file) refusal.place refusal.rule refusal.item

-- ---- What the program's values stand for

abbrev pub refusal_of : OwnRefusal → Refusal
refusal_of (own.Source place rule) = at_place place rule.now
refusal_of (own.Node place rule) = at_place place (typing_code rule)
refusal_of (own.Finitization rule item) = of_finitization rule.now item
