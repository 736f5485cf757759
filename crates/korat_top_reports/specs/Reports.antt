-- To be believed: what a search reports of the problem that its files pose.
use Rattle.std.specs.Prelude.{◌≡◌, ◌<◌, ◌-◌, ℕ, List, [], ◌∷◌, ◌++◌, length, Bool, true, false, ◌&&◌, ◌==◌, not, Option}
use Rattle.kr_base.specs.declared.span.Bound.TheVariants.{At, End}
use Rattle.kr_base.specs.declared.span.Span.{Span}
use Rattle.kr_base.specs.Entries.{entries_in}
use Rattle.kr_args.specs.declared.forms.Ask.{Ask}
use Rattle.kr_args.specs.declared.forms.Search.{Search}
use Rattle.kr_args.specs.declared.forms.Search.TheVariants as searches
use Rattle.kr_classes_table.specs.Predefined.{PREDEFINED}
use Rattle.kr_core.specs.declared.event.Event.{Event}
use Rattle.kr_mean.specs.Problem.{Problem, slots}
use Rattle.kr_mean.specs.Entries.{all_entries}
use Rattle.kr_emit_meaning.specs.Emitted.{emitted}
use Rattle.kr_report.specs.Endings.{BreaksOff, EndsListing}
use Rattle.kr_report.specs.Reports.{Answer, line_answer, listing_answer}
use Rattle.kr_report.specs.Texts.{checked_text}
use Rattle.kr_report_listing.specs.Traced.{IsLogFor}
use Rattle.kr_report_streaming.specs.Followed.{followed_by}
use Rattle.kr_report_streaming.specs.Tallies.{tally_answer}
use Rattle.kr_report_streaming.specs.Traces.{trace_text}
use Rattle.kr_shard.specs.Texts.{first_text}

-- the span that is asked for
abbrev pub span_in : Ask → Span
span_in ask = record { after = ask.from; upto = ask.to }

-- the report of the entries above a key and not above a bound, with so many rows at most: of a test, with verdicts
abbrev pub listing_of : Ask → Problem → Answer
listing_of ask problem = listing_answer problem ask.limit (entries_in (At ask.from) ask.to (all_entries problem))

-- that listing as a shard: its first line, and then the listing
abbrev pub shard_of : Ask → Problem → Answer
shard_of ask problem =
    let listing = listing_of ask problem in
    record listing { rows = first_text (span_in ask) ∷ listing.rows }

-- the rows of that listing as builders
abbrev pub builders_of : Ask → Problem → Answer
builders_of ask problem = emitted problem ask.limit (span_in ask)

-- how many classes the files have, and how many slots there are
abbrev pub counts_of : Problem → Answer
counts_of problem = line_answer 0 (checked_text (length problem.program.table.classes - PREDEFINED) (length (slots problem)))

-- how many entries are valid, of so many nodes
abbrev pub tally_of : ℕ → Problem → Answer
tally_of nodes problem = tally_answer nodes (entries_in (At []) End (all_entries problem))

-- what a search reports of the problem of files of which none is refused: the same for every number of workers
abbrev pub report_of : Search → Problem → Answer
report_of (searches.List ask) problem = listing_of ask problem
report_of (searches.Test method ask) problem = listing_of ask problem
report_of (searches.Demo n workers) problem = tally_of n problem
report_of (searches.Shard ask) problem = shard_of ask problem
report_of (searches.Emit ask) problem = builders_of ask problem

-- a log of the workers that are asked for over the entries that are asked for, with the limit and the window that are
abbrev pub IsLogOf : Ask → Problem → List Event → Type 0
IsLogOf ask problem log = IsLogFor problem (span_in ask) ask.workers ask.window ask.limit log

-- a report; where a trace is asked for, with some log after it
abbrev pub WithLog : Bool → Ask → Problem → Answer → Answer → Type 0
WithLog false ask problem report answer = answer ≡ report
WithLog true ask problem report answer = (log : List Event) × IsLogOf ask problem log × (answer ≡ followed_by (trace_text log) report)

-- what is written: the report, and of a listing or a test a log, where it is asked for
abbrev pub Reports : Search → Problem → Answer → Type 0
Reports (searches.List ask) problem answer = WithLog ask.trace ask problem (listing_of ask problem) answer
Reports (searches.Test method ask) problem answer = WithLog ask.trace ask problem (listing_of ask problem) answer
Reports (searches.Demo n workers) problem answer = answer ≡ tally_of n problem
Reports (searches.Shard ask) problem answer = answer ≡ shard_of ask problem
Reports (searches.Emit ask) problem answer = answer ≡ builders_of ask problem

-- a trace is asked for
abbrev pub is_traced : Search → Bool
is_traced (searches.List ask) = ask.trace
is_traced (searches.Test method ask) = ask.trace
is_traced (searches.Demo n workers) = false
is_traced (searches.Shard ask) = false
is_traced (searches.Emit ask) = false

-- ---- one worker

abbrev pub is_one : Ask → Bool
is_one ask = (ask.workers == 1) && not ask.trace

-- one worker, and no trace; builders are always written so
abbrev pub is_alone : Search → Bool
is_alone (searches.List ask) = is_one ask
is_alone (searches.Test method ask) = is_one ask
is_alone (searches.Demo n workers) = workers == 1
is_alone (searches.Shard ask) = is_one ask
is_alone (searches.Emit ask) = true

-- ---- between crates

-- an answer that is one of these ended so, or a report broke off in its rows
pub data EndsBy {K : Type 0} (taken : K → Option (List ℕ)) (faults : K → ℕ) (Is : Answer → Type 0) (report : Answer) (out out' : K) (status : ℕ) : Type 0 where
  ended : (answer : Answer) → Is answer → EndsListing taken faults answer out out' status → EndsBy taken faults Is report out out' status
  broken : BreaksOff taken faults report out out' status → EndsBy taken faults Is report out out' status

-- how the report of a search ended
abbrev pub EndsReport : {K : Type 0} → (K → Option (List ℕ)) → (K → ℕ) → Search → Problem → K → K → ℕ → Type 0
EndsReport taken faults search problem = EndsBy taken faults (Reports search problem) (report_of search problem)
