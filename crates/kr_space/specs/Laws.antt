-- Between crates: what holds of documents.
use Rattle.std.specs.Prelude.{◌≡◌, ℕ, List, Ok}
use Rattle.kr_fin.specs.declared.document.FinDoc.{FinDoc}
use Rattle.kr_fin.specs.Meaning.{meaning}
use Rattle.kr_space_meaning.specs.Limits.{IsWithinLimits}

-- the numbers of each document that was read are within their limits
abbrev pub LimitsLaw : Type 0
LimitsLaw = (bytes : List ℕ) (document : FinDoc) → meaning bytes ≡ Ok document → IsWithinLimits document
