-- To be believed: what bytes are as a finitization: its document, or the rule that they break first.
use Rattle.std.specs.Prelude.{◌≡◌, ℕ, Bool, List, length, nat_le, codes, Option, Some, None, Result, Ok, Err, if◌then◌else◌}
use Rattle.std.specs.Str.{is_utf8}
use Rattle.toml.specs.Data.{Members}
use Rattle.toml.specs.Parse.{parse_document}
use Rattle.kr_fin.specs.declared.document.FinDoc.{FinDoc}
use Rattle.kr_base.specs.declared.refusal.RefusalOf.{RefusalOf}
use Rattle.kr_base.specs.declared.refusal.RefusalOf.TheVariants as refusal
use Rattle.kr_fin.specs.declared.refusal.FinRule.{FinRule}
use Rattle.kr_fin.specs.declared.refusal.FinRule.TheVariants.{TooLong, NotToml}
use Rattle.kr_fin.specs.Document.{document_of}
use Rattle.kr_fin.specs.Faults.{faults_in}
use Rattle.kr_fin.specs.Order.{Fault, least}

-- at most 1 MiB
abbrev pub is_short : List ℕ → Bool
is_short bytes = nat_le (length bytes) 1048576

-- the table that the bytes are, if they are UTF-8 and TOML
abbrev pub table_in : List ℕ → Option Members
table_in bytes = if is_utf8 bytes then parse_document bytes else None

abbrev pub unless : Option Fault → FinDoc → Result FinDoc Fault
unless None document = Ok document
unless (Some fault) document = Err fault

-- the document of a table that breaks no rule; else the least of the rules that it breaks
unfoldable pub document_in : Members → Result FinDoc Fault
document_in ms = unless (least (faults_in ms)) (document_of ms)

abbrev pub of_table : Option Members → Result FinDoc Fault
of_table None = Err (record { rule = NotToml; item = codes "toml" })
of_table (Some ms) = document_in ms

unfoldable pub meaning : List ℕ → Result FinDoc Fault
meaning bytes =
    if is_short bytes then of_table (table_in bytes) else Err (record { rule = TooLong; item = codes "size" })

-- the refusal is out of memory, or the fault that is expected
abbrev pub Refuses : Result FinDoc Fault → RefusalOf FinRule → Type 0
Refuses wanted (refusal.Broken fault) = wanted ≡ Err fault
Refuses wanted (refusal.NoMemory why) = Unit {0}
