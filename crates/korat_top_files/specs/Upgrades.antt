-- To be believed: what `upgrade` makes of a finitization: the text of one of version 2, or the rule that it breaks first.
use Rattle.std.specs.Prelude.{◌≡◌, ◌==◌, ◌<◌, ◌⊎◌, ℕ, List, [], length, true, false, Option, Some, Result, Ok, Err, codes, string_bytes}
use Rattle.std.specs.declared.alloc.Global.{Global}
use Rattle.std.specs.declared.string.String.{String}
use Rattle.toml.specs.Text.{IsDocumentText}
use Rattle.kr_fin.specs.declared.document.FinDoc.{FinDoc}
use Rattle.kr_fin.specs.Meaning.{meaning, table_in}
use Rattle.kr_fin.specs.Order.{rule_code as fin_code}
use Rattle.kr_fin_upgrade.specs.Tables.{table_of}
use Rattle.kr_fin_upgrade.specs.Upgraded.{up}
use Rattle.korat_top_files.specs.Refusals.{Refusal, files_of, name_of, of_finitization, refusal_of, too_long}
use Rattle.korat_top_files.specs.Steps.{AllTold, IsRead, LIMIT, Reads, broken_of}
use Rattle.kr_io.specs.Held.{Held}
use Rattle.korat_top_files.specs.Found.{FailsToRead}
use Rattle.korat_top_files.specs.declared.refusal.InputFile.TheVariants as input
use Rattle.korat_top_files.specs.declared.refusal.Stop.{Stop}
use Rattle.korat_top_files.specs.declared.refusal.Stop.TheVariants.{Read, Refused, Memory}

-- F7: its version is 2 already
abbrev pub second_version : Refusal
second_version = of_finitization (codes "F7") (codes "version")

-- The text of a document of version 1, carried over: TOML's printed form of its table, which is read as the table.
pub record IsCarried (document : FinDoc) (text : List ℕ) : Type 0 where
  pub first : (document.version == 2) ≡ false
  pub printed : IsDocumentText false (table_of (up document)) text
  pub read : table_in text ≡ Some (table_of (up document))

-- the text of what the document is carried over to
abbrev pub carrying : FinDoc → Result (List ℕ) Refusal → Type 0
carrying document (Ok text) = IsCarried document text
carrying document (Err r) = ((document.version == 2) ≡ true) × (r ≡ second_version)

-- of the document that bytes are, where they are one
abbrev pub carrying_bytes : List ℕ → Result (List ℕ) Refusal → Type 0
carrying_bytes bytes (Ok text) = (document : FinDoc) × (meaning bytes ≡ Ok document) × carrying document (Ok text)
carrying_bytes bytes (Err r) = broken_of fin_code (meaning bytes) r ⊎ ((document : FinDoc) × (meaning bytes ≡ Ok document) × carrying document (Err r))

-- of the document that a file is, where it isn't too long
abbrev pub Carries : Held → List ℕ → Result (List ℕ) Refusal → Type 0
Carries held fin (Ok text) = (bytes : List ℕ) × IsRead held fin bytes × carrying_bytes bytes (Ok text)
Carries held fin (Err r) =
    ((bytes : List ℕ) × (held fin ≡ Some bytes) × (LIMIT < length bytes) × (r ≡ too_long input.Finitization))
    ⊎ ((bytes : List ℕ) × IsRead held fin bytes × carrying_bytes bytes (Err r))

-- ---- between crates

-- that of what the file holds, where it is known; or a read fault; or out of memory, which is free
abbrev pub FindsUpgrade : {F : Type 0} → (F → Held) → (F → ℕ) → (F → Option (List ℕ)) → List ℕ → F → F → Result (String Global) Stop → Type 0
FindsUpgrade held faults last fin files files' (Ok text) = AllTold (held files) (files_of fin []) → Carries (held files) fin (Ok (string_bytes text))
FindsUpgrade held faults last fin files files' (Err (Refused r)) = AllTold (held files) (files_of fin []) → Carries (held files) fin (Err (refusal_of r))
FindsUpgrade held faults last fin files files' (Err (Read failed)) = FailsToRead faults last (Reads (held files) (files_of fin [])) (name_of (files_of fin []) failed) files files'
FindsUpgrade held faults last fin files files' (Err (Memory why)) = Unit {0}
