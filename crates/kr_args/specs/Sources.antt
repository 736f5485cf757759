-- Between crates: the number of sources of a command.
use Rattle.std.specs.Prelude.{◌≤◌, List, length}
use Rattle.clap.specs.Words.{Text}
use Rattle.kr_args.specs.Definition.{MOST_SOURCES}
use Rattle.kr_args.specs.declared.forms.Command.{Command}
use Rattle.kr_args.specs.declared.forms.Command.TheVariants as commands
use Rattle.kr_args.specs.declared.forms.Search.{Search}
use Rattle.kr_args.specs.declared.forms.Search.TheVariants as searches

abbrev pub AreSources : List Text → Type 0
AreSources sources = (1 ≤ length sources) × (length sources ≤ MOST_SOURCES)

-- a search that reads sources has from one source to the most
abbrev pub SearchesSources : Search → Type 0
SearchesSources (searches.List ask) = AreSources ask.sources
SearchesSources (searches.Test method ask) = AreSources ask.sources
SearchesSources (searches.Demo n workers) = Unit {0}
SearchesSources (searches.Shard ask) = AreSources ask.sources
SearchesSources (searches.Emit ask) = AreSources ask.sources

-- so does a command
abbrev pub HasSources : Command → Type 0
HasSources (commands.Search search) = SearchesSources search
HasSources (commands.Check fin sources) = AreSources sources
HasSources (commands.Merge files) = Unit {0}
HasSources (commands.Upgrade fin) = Unit {0}
HasSources (commands.Trace file from to workers) = Unit {0}
