-- To be believed: the meaning of words: clap's matches, read as a command.
use Rattle.std.specs.Prelude.{◌&&◌, ℕ, Bool, false, List, [], map, Option, Some, None, codes, decimal, if◌then◌else◌, option_map, option_and_then, nat_le}
use Rattle.std.specs.Borrow.{Bor}
use Rattle.std.specs.Str.{bytes_eq}
use Rattle.std.specs.Str.Parse.{digits_value}
use Rattle.clap.specs.Words.{Row, Text, all_of, fault_of, first_of, subcommand_of}
use Rattle.clap.specs.Walk.{is_empty}
use Rattle.kr_base.specs.declared.span.Bound.{Bound}
use Rattle.kr_base.specs.declared.span.Bound.TheVariants.{At, End}
use Rattle.kr_base.specs.Bounds.{less}
use Rattle.kr_base.specs.Parsing.{cut_of}
use Rattle.kr_args.specs.Definition.{korat_app}
use Rattle.kr_args.specs.declared.forms.Ask.{Ask}
use Rattle.kr_args.specs.declared.forms.Command.{Command}
use Rattle.kr_args.specs.declared.forms.Pool.{Pool}
use Rattle.kr_args.specs.declared.forms.Pool.TheVariants.{Board, Deque}
use Rattle.kr_args.specs.declared.forms.Command.TheVariants as commands
use Rattle.kr_args.specs.declared.forms.Search.TheVariants as searches

-- ---- values

-- the number from low to high with this decimal text
abbrev pub number_in : ℕ → ℕ → Text → Option ℕ
number_in low high text =
    let n = digits_value 10 text in
    if bytes_eq (decimal n) text && (nat_le low n && nat_le n high) then Some n else None

-- the empty cut by default
abbrev pub from_in : Option Text → Option (List ℕ)
from_in None = Some []
from_in (Some text) = cut_of text

-- the end by default
abbrev pub to_in : Option Text → Option Bound
to_in None = Some End
to_in (Some text) = option_map At (cut_of text)

-- the greatest number by default
abbrev pub limit_in : Option Text → Option ℕ
limit_in None = Some 4294967295
limit_in (Some text) = number_in 1 4294967295 text

-- one by default
abbrev pub workers_in : Option Text → Option ℕ
workers_in None = Some 1
workers_in (Some text) = number_in 1 64 text

-- 4,096 by default
abbrev pub window_in : Option Text → Option ℕ
window_in None = Some 4096
window_in (Some text) = number_in 1 65536 text

abbrev pub pool_named : Text → Option Pool
pool_named name = if bytes_eq name (codes "deque") then Some Deque else None

-- the board by default; a named pool excludes a window and the list of steps
abbrev pub pool_in : Option Text → Bool → Option Text → Option Pool
pool_in window trace None = Some Board
pool_in None false (Some name) = pool_named name
pool_in _ _ (Some name) = None

-- whether a flag was given; clap gives it a value in any case
abbrev pub flag_in : Option Text → Bool
flag_in None = false
flag_in (Some text) = bytes_eq text (codes "true")

-- ---- matches

-- the files of a command: the finitization and the sources
abbrev pub Files : Type 0
Files = Text × List Text

abbrev pub files_with : Option Text → Option (List Text) → Option Files
files_with (Some fin) (Some sources) = Some (fin, sources)
files_with _ _ = None

abbrev pub files_in : List Row → Option Files
files_in rows = files_with (first_of (codes "fin") rows) (all_of (codes "source") rows)

-- the keys above the first and not above the second, and a limit on valid entries
abbrev pub Range : Type 0
Range = List ℕ × Bound × ℕ

abbrev pub range_with : Option (List ℕ) → Option Bound → Option ℕ → Option Range
range_with (Some from) (Some to) (Some limit) = Some (from, to, limit)
range_with _ _ _ = None

abbrev pub range_in : List Row → Option Range
range_in rows = range_with (from_in (first_of (codes "from") rows)) (to_in (first_of (codes "to") rows)) (limit_in (first_of (codes "limit") rows))

-- the number of workers, the window, the pool, and whether the steps of sharing are listed
abbrev pub Sharing : Type 0
Sharing = ℕ × ℕ × Pool × Bool

abbrev pub sharing_with : Option ℕ → Option ℕ → Option Pool → Bool → Option Sharing
sharing_with (Some workers) (Some window) (Some pool) trace = Some (workers, window, pool, trace)
sharing_with _ _ _ _ = None

abbrev pub sharing_in : List Row → Option Sharing
sharing_in rows =
    let window = first_of (codes "window") rows in
    let trace = flag_in (first_of (codes "trace") rows) in
    sharing_with (workers_in (first_of (codes "workers") rows)) (window_in window) (pool_in window trace (first_of (codes "pool") rows)) trace

-- the defaults with this number of workers
abbrev pub plain_sharing_in : List Row → Option Sharing
plain_sharing_in rows = sharing_with (workers_in (first_of (codes "workers") rows)) (window_in None) (Some Board) false

abbrev pub ask_with : Option Files → Option Range → Option Sharing → Option Ask
ask_with (Some files) (Some range) (Some sharing) = Some (record {
  fin = files.0;
  sources = files.1;
  from = range.0;
  to = range.1;
  limit = range.2;
  workers = sharing.0;
  window = sharing.1;
  pool = sharing.2;
  trace = sharing.3;
})
ask_with _ _ _ = None

abbrev pub ask_in : List Row → Option Ask
ask_in rows = ask_with (files_in rows) (range_in rows) (sharing_in rows)

abbrev pub list_in : List Row → Option Command
list_in rows = option_map (λ ask. commands.Search (searches.List ask)) (ask_in rows)

-- a listing of the valid structures on which a method is tested
abbrev pub test_with : Option Text → Option Ask → Option Command
test_with (Some method) (Some ask) = Some (commands.Search (searches.Test method ask))
test_with _ _ = None

abbrev pub test_in : List Row → Option Command
test_in rows = test_with (first_of (codes "method") rows) (ask_in rows)

abbrev pub check_in : List Row → Option Command
check_in rows = option_map (λ files. commands.Check files.0 files.1) (files_in rows)

abbrev pub demo_with : Option ℕ → Option ℕ → Option Command
demo_with (Some n) (Some workers) = Some (commands.Search (searches.Demo n workers))
demo_with _ _ = None

abbrev pub demo_in : List Row → Option Command
demo_in rows = demo_with (option_and_then (number_in 1 12) (first_of (codes "nodes") rows)) (workers_in (first_of (codes "workers") rows))

-- the keys of a span, above the first and not above the second, without a limit; none unless the first is below the
-- second
abbrev pub span_with : Option (List ℕ) → Option Bound → Option Range
span_with (Some from) (Some to) = if less (At from) to then Some (from, to, 4294967295) else None
span_with _ _ = None

abbrev pub span_in : List Row → Option Range
span_in rows = span_with (from_in (first_of (codes "from") rows)) (to_in (first_of (codes "to") rows))

abbrev pub shard_in : List Row → Option Command
shard_in rows = option_map (λ ask. commands.Search (searches.Shard ask)) (ask_with (files_in rows) (span_in rows) (plain_sharing_in rows))

-- one worker, who lists no steps
abbrev pub alone_sharing : Sharing
alone_sharing = (1, 4096, Board, false)

abbrev pub emit_in : List Row → Option Command
emit_in rows = option_map (λ ask. commands.Search (searches.Emit ask)) (ask_with (files_in rows) (range_in rows) (Some alone_sharing))

abbrev pub merge_in : List Row → Option Command
merge_in rows = option_map commands.Merge (all_of (codes "file") rows)

abbrev pub upgrade_in : List Row → Option Command
upgrade_in rows = option_map commands.Upgrade (first_of (codes "fin") rows)

-- the span and the number of workers of a listing, and the file of its text
abbrev pub trace_with : Option Text → Option (List ℕ) → Option Bound → Option ℕ → Option Command
trace_with (Some file) (Some from) (Some to) (Some workers) = Some (commands.Trace file from to workers)
trace_with _ _ _ _ = None

abbrev pub trace_in : List Row → Option Command
trace_in rows =
    trace_with (first_of (codes "file") rows) (from_in (first_of (codes "from") rows)) (to_in (first_of (codes "to") rows)) (workers_in (first_of (codes "workers") rows))

abbrev pub named_in : Text → List Row → Option Command
named_in name rows = if bytes_eq name (codes "list") then list_in rows
    else (if bytes_eq name (codes "test") then test_in rows
    else (if bytes_eq name (codes "check") then check_in rows
    else (if bytes_eq name (codes "demo") then demo_in rows
    else (if bytes_eq name (codes "shard") then shard_in rows
    else (if bytes_eq name (codes "merge") then merge_in rows
    else (if bytes_eq name (codes "upgrade") then upgrade_in rows
    else (if bytes_eq name (codes "trace") then trace_in rows
    else (if bytes_eq name (codes "emit") then emit_in rows else None))))))))

abbrev pub command_in : Option (Text × List Row) → Option Command
command_in = option_and_then (λ p. named_in p.0 p.1)

-- The command, files and options that clap's stated meaning of the definition gives these words, with each number and
-- cut parsed; none if clap refuses them, or if one of these is malformed or beyond its limit.
unfoldable pub command_of : List Text → Option Command
command_of words = if is_empty (fault_of korat_app words) then command_in (subcommand_of korat_app words) else None

-- ---- texts from references

abbrev pub text_in : Option (Bor Text) → Option Text
text_in = option_map (λ t. t.now)

abbrev pub texts_in : Option (Bor (List (Bor Text))) → Option (List Text)
texts_in = option_map (λ ts. map (λ t. t.now) ts.now)
