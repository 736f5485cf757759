-- To be believed: the words of `shard` ask for a span and a text that the theorem on shards speaks of.
use Rattle.std.specs.Prelude.{◌≡◌, List, Some}
use Rattle.clap.specs.Words.{Text}
use Rattle.kr_args.specs.Reading.{command_of}
use Rattle.kr_args.specs.declared.forms.Ask.{Ask}
use Rattle.kr_args.specs.declared.forms.Command.TheVariants as commands
use Rattle.kr_args.specs.declared.forms.Search.TheVariants as searches
use Rattle.kr_mean.specs.Entries.{all_entries}
use Rattle.kr_mean.specs.Problem.{Problem}
use Rattle.kr_report.specs.Reports.{bytes_of}
use Rattle.kr_shard_laws.specs.Listings.{IsSpan, shard_text}
use Rattle.korat_top_reports.specs.Reports.{report_of, span_in}

-- FROM is below TO, and the report is what the theorem has of that span
pub record IsShardAsk (ask : Ask) : Type 0 where
  pub span : IsSpan (span_in ask)
  pub text : (problem : Problem) → bytes_of (report_of (searches.Shard ask) problem) ≡ shard_text problem (all_entries problem) (span_in ask)

abbrev pub WordsLaw : Type 0
WordsLaw = (words : List Text) (ask : Ask) → command_of words ≡ Some (commands.Search (searches.Shard ask)) → IsShardAsk ask
