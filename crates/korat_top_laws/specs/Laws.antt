-- To be believed: what holds of each problem that the steps of a command accept, of what `merge` answers of what `shard` wrote of it, and
-- of a finitization that is carried over to version 2.
use Rattle.std.specs.Prelude.{◌≡◌, ℕ, ◌≤◌, List, [], ◌∷◌, length, Some, Ok}
use Rattle.kr_base.specs.declared.span.Bound.{Bound}
use Rattle.kr_base.specs.declared.span.Bound.TheVariants.{At}
use Rattle.kr_base.specs.declared.span.Span.{Span}
use Rattle.kr_mean.specs.Entries.{all_entries}
use Rattle.kr_mean.specs.Problem.{Problem}
use Rattle.kr_mean.specs.declared.mode.Mode.{Mode}
use Rattle.kr_mean.specs.declared.mode.Mode.TheVariants.{List as Listing}
use Rattle.kr_report.specs.Reports.{Answer, bytes_of}
use Rattle.kr_laws_never_stuck.specs.Accepted.{IsAccepted}
use Rattle.kr_shard.specs.Texts.{first_text}
use Rattle.kr_shard_laws.specs.Listings.{listing_in, shard_text}
use Rattle.kr_shard.specs.Files.{MergesFiles, MOST_BYTES}
use Rattle.kr_shard_laws.specs.Spans.{Adjoin, IsInAnyOrder}
use Rattle.kr_fin.specs.declared.document.FinDoc.{FinDoc}
use Rattle.kr_fin.specs.declared.reading.TheConstants.{MAX_FIN_BYTES}
use Rattle.kr_fin.specs.Ascending.{IsInOrder}
use Rattle.kr_fin.specs.Meaning.{meaning}
use Rattle.korat_top_files.specs.Refusals.{Inputs}
use Rattle.korat_top_files.specs.Steps.{Checks, Judges}
use Rattle.kr_io.specs.Held.{Held}
use Rattle.korat_top_files.specs.Upgrades.{IsCarried}

-- What the steps accept is accepted as kr_laws_never_stuck has it, so no run of it is stuck.
abbrev pub AcceptedLaw : Type 0
AcceptedLaw = (mode : Mode) (fin : List ℕ) (sources : List (List ℕ)) (problem : Problem) → Judges mode fin sources (Ok problem) → IsAccepted sources fin mode problem

-- Where the steps accept a finitization of version 1, they accept the text that it is carried over to, in each mode, with an equal
-- problem: so each command writes the same bytes. (The keys of a document that is read are in order: `ordered` of `read_fin`.)
abbrev pub UpgradedLaw : Type 0
UpgradedLaw = (mode : Mode) (fin text : List ℕ) (sources : List (List ℕ)) (problem : Problem) (document : FinDoc) →
    Judges mode fin sources (Ok problem) → meaning fin ≡ Ok document → IsInOrder document → IsCarried document text → length text ≤ MAX_FIN_BYTES →
    Judges mode text sources (Ok problem)

-- the answer to `shard`: its first line, and then the listing
abbrev pub shard_answer : Problem → Span → Answer
shard_answer problem span =
    let listing = listing_in problem (all_entries problem) span.after span.upto in
    record listing { rows = first_text span ∷ listing.rows }

-- it writes the text that the theorem speaks of
abbrev pub WrittenLaw : Type 0
WrittenLaw = (problem : Problem) (span : Span) → bytes_of (shard_answer problem span) ≡ shard_text problem (all_entries problem) span

-- each file holds what `shard` writes of its span, in at most 16 MiB
abbrev pub HoldShards : Held → Problem → List (List ℕ) → List Span → Type 0
HoldShards held problem [] [] = Unit {0}
HoldShards held problem [] (span ∷ spans) = ⊥
HoldShards held problem (name ∷ names) [] = ⊥
HoldShards held problem (name ∷ names) (span ∷ spans) =
    (held name ≡ Some (shard_text problem (all_entries problem) span)) × (length (shard_text problem (all_entries problem) span) ≤ MOST_BYTES) × HoldShards held problem names spans

-- `merge` answers files with the bytes and the status of this answer.
pub record MergesTo (held : Held) (names : List (List ℕ)) (wanted : Answer) : Type 0 where
  pub answer : Answer
  pub merges : MergesFiles held names answer
  pub bytes : bytes_of answer ≡ bytes_of wanted
  pub status : answer.status ≡ wanted.status

-- From 1 to 64 files that hold what `shard` writes of spans that adjoin, in any order, for files that the steps accept: `merge` answers
-- them as `list` answers the whole.
abbrev pub MergedLaw : Type 0
MergedLaw = (held later : Held) (inputs : Inputs) (names : List (List ℕ)) (problem : Problem) (spans given : List Span) (after : List ℕ) (upto : Bound) →
    Checks held Listing inputs (Ok problem) → 1 ≤ length spans → length spans ≤ 64 → Adjoin (At after) spans upto → IsInAnyOrder spans given →
    HoldShards later problem names given → MergesTo later names (listing_in problem (all_entries problem) after upto)
