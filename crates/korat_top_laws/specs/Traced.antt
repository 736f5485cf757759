-- To be believed: what a listing or a test writes with the log of its workers is accepted by `trace`.
use Rattle.std.specs.Prelude.{◌≡◌, ◌^◌, ◌≤◌, List, true, length, Some, Ok}
use Rattle.clap.specs.Words.{Text}
use Rattle.kr_args.specs.Reading.{command_of}
use Rattle.kr_args.specs.declared.forms.Ask.{Ask}
use Rattle.kr_args.specs.declared.forms.Command.TheVariants as commands
use Rattle.kr_args.specs.declared.forms.Search.{Search}
use Rattle.kr_args.specs.declared.forms.Search.TheVariants as searches
use Rattle.kr_core.specs.declared.event.Event.{Event}
use Rattle.kr_io.specs.Held.{Held}
use Rattle.kr_mean.specs.Problem.{Problem}
use Rattle.kr_mean.specs.declared.mode.Mode.{Mode}
use Rattle.kr_mean.specs.declared.mode.Mode.TheVariants.{List as Listing, Method as Testing}
use Rattle.kr_report.specs.Reports.{Answer, bytes_of}
use Rattle.kr_report_streaming.specs.Followed.{followed_by}
use Rattle.kr_report_streaming.specs.Traces.{trace_text}
use Rattle.kr_trace.specs.Checked.{checked}
use Rattle.korat_top_files.specs.Refusals.{files_of}
use Rattle.korat_top_files.specs.Steps.{Checks}
use Rattle.korat_top_reports.specs.Reports.{IsLogOf, Reports, listing_of, span_in}

-- The answer is the listing, of a test with verdicts, with a log of its workers. Of it `trace`, for the same span and number of workers,
-- counts the log's events.
pub record IsAcceptedTrace (ask : Ask) (problem : Problem) (answer : Answer) : Type 0 where
  pub log : List Event
  pub log_is : IsLogOf ask problem log
  pub answer_is : answer ≡ followed_by (trace_text log) (listing_of ask problem)
  pub accepted : checked (span_in ask) ask.workers (bytes_of answer) ≡ Ok (length log)

-- what is searched for: a listing, or a test of a method
abbrev pub search_of : Mode → Ask → Search
search_of Listing ask = searches.List ask
search_of (Testing method) ask = searches.Test method ask

-- Words that ask for a listing or a test with a trace, files of which none is refused, and an answer to them that is at most 16 MiB long.
abbrev pub TracedLaw : Type 0
TracedLaw = (words : List Text) (mode : Mode) (ask : Ask) (held : Held) (problem : Problem) (answer : Answer) →
    command_of words ≡ Some (commands.Search (search_of mode ask)) → ask.trace ≡ true → Checks held mode (files_of ask.fin ask.sources) (Ok problem) →
    Reports (search_of mode ask) problem answer → length (bytes_of answer) ≤ 2 ^ 24 → IsAcceptedTrace ask problem answer
