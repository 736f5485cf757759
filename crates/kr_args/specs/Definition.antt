-- To be believed: the definition of the command line, in clap's terms.
use Rattle.std.specs.Prelude.{ℕ, true, Some, codes}
use Rattle.clap.specs.Words.{App, Rule, Text, new_app, new_rule, with_rule, with_subcommand}
use Rattle.clap.specs.Simple.{on_top}
use Rattle.clap.specs.declared.builder.action.ArgAction.TheVariants.{SetTrue}

-- one required word
abbrev pub word_rule : Text → Rule
word_rule name = record (new_rule name) { required = true }

-- the most sources of a call
abbrev pub MOST_SOURCES : ℕ
MOST_SOURCES = 16

-- from 1 word to the most
abbrev pub sources_rule : Rule
sources_rule = record (new_rule (codes "source")) {
  required = true;
  range = Some (record { start_inclusive = 1; end_inclusive = MOST_SOURCES });
}

-- `--name VALUE`
abbrev pub option_rule : Text → Rule
option_rule name = record (new_rule name) { long = Some name }

-- `--name`, an optional flag
abbrev pub flag_rule : Text → Rule
flag_rule name = record (option_rule name) { action = Some SetTrue }

-- the most shards of a merge
abbrev pub MOST_SHARDS : ℕ
MOST_SHARDS = 64

-- from 1 word to the most
abbrev pub shards_rule : Rule
shards_rule = record (new_rule (codes "file")) {
  required = true;
  range = Some (record { start_inclusive = 1; end_inclusive = MOST_SHARDS });
}

-- `[--from CUT] [--to CUT]`, the span of the listing
abbrev pub with_span : App → App
with_span command = with_rule (with_rule command (option_rule (codes "from"))) (option_rule (codes "to"))

-- `[--from CUT] [--to CUT] [--limit N]`, the range of the listing
abbrev pub with_range : App → App
with_range command = with_rule (with_span command) (option_rule (codes "limit"))

-- `[--workers N]`, the number of workers
abbrev pub with_workers : App → App
with_workers command = with_rule command (option_rule (codes "workers"))

-- `[--workers N] [--window N] [--pool NAME] [--trace]`, how the search is shared
abbrev pub with_sharing : App → App
with_sharing command = with_rule (with_rule (with_rule (with_workers command) (option_rule (codes "window"))) (option_rule (codes "pool"))) (flag_rule (codes "trace"))

-- the options of a listing and of a test: `[--from CUT] [--to CUT] [--limit N] [--workers N] [--window N] [--pool NAME] [--trace]`
abbrev pub with_options : App → App
with_options command = with_sharing (with_range command)

-- `list FIN SOURCE..` with its options
abbrev pub list_app : App
list_app = with_options (with_rule (with_rule (new_app (codes "list")) (word_rule (codes "fin"))) sources_rule)

-- `test FIN METHOD SOURCE..` with its options
abbrev pub test_app : App
test_app = with_options (with_rule (with_rule (with_rule (new_app (codes "test")) (word_rule (codes "fin"))) (word_rule (codes "method"))) sources_rule)

-- `check FIN SOURCE..`
abbrev pub check_app : App
check_app = with_rule (with_rule (new_app (codes "check")) (word_rule (codes "fin"))) sources_rule

-- `demo N [--workers N]`
abbrev pub demo_app : App
demo_app = with_workers (with_rule (new_app (codes "demo")) (word_rule (codes "nodes")))

-- `shard FIN SOURCE.. [--from CUT] [--to CUT] [--workers N]`
abbrev pub shard_app : App
shard_app = with_workers (with_span (with_rule (with_rule (new_app (codes "shard")) (word_rule (codes "fin"))) sources_rule))

-- `merge FILE..`
abbrev pub merge_app : App
merge_app = with_rule (new_app (codes "merge")) shards_rule

-- `upgrade FIN`
abbrev pub upgrade_app : App
upgrade_app = with_rule (new_app (codes "upgrade")) (word_rule (codes "fin"))

-- `trace FILE [--from CUT] [--to CUT] [--workers N]`
abbrev pub trace_app : App
trace_app = with_workers (with_span (with_rule (new_app (codes "trace")) (word_rule (codes "file"))))

-- `emit FIN SOURCE.. [--from CUT] [--to CUT] [--limit N]`
abbrev pub emit_app : App
emit_app = with_range (with_rule (with_rule (new_app (codes "emit")) (word_rule (codes "fin"))) sources_rule)

-- no help, no version, and a required command
abbrev pub bare_app : App
bare_app = on_top (λ s. record s {
  no_binary_name = true;
  disable_help_flag = true;
  disable_version_flag = true;
  disable_help_subcommand = true;
  subcommand_required = true;
}) (new_app (codes "korat"))

-- the commands on listings and methods, on problems, and the demo
abbrev pub main_app : App
main_app = with_subcommand (with_subcommand (with_subcommand (with_subcommand bare_app list_app.top) test_app.top) check_app.top) demo_app.top

-- and on shards
abbrev pub search_app : App
search_app = with_subcommand (with_subcommand main_app shard_app.top) merge_app.top

-- on finitizations, and on logs
abbrev pub file_app : App
file_app = with_subcommand (with_subcommand search_app upgrade_app.top) trace_app.top

-- and of builders
abbrev pub korat_app : App
korat_app = with_subcommand file_app emit_app.top
