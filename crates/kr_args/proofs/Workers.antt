-- A search has from one worker to the most, and a listing a window within its limits, since they are parsed so.
use Rattle.std.proofs.Common.{◌≡◌, ◌<◌, ◌≤◌, ℕ, Bool, true, false, List, refl, arith, Option, Some, None}
use Rattle.std.specs.Prelude.{IfSome, codes, if◌then◌else◌, option_and_then, option_map}
use Rattle.std.specs.Str.{bytes_eq}
use Rattle.clap.specs.Words.{Row, Text, all_of, fault_of, first_of, subcommand_of}
use Rattle.clap.specs.Walk.{is_empty}
use Rattle.kr_base.specs.declared.span.Bound.{Bound}
use Rattle.kr_args.specs.Definition.{korat_app}
use Rattle.kr_args.specs.Reading.{Files, Range, Sharing, ask_in, ask_with, check_in, command_in, command_of, demo_in, demo_with, files_in, flag_in, list_in, merge_in, upgrade_in, emit_in, alone_sharing, named_in, number_in, plain_sharing_in, pool_in, range_in, shard_in, sharing_in, sharing_with, span_in, test_in, test_with, trace_in, trace_with, from_in, to_in, window_in, workers_in}
use Rattle.kr_args.specs.Workers.{AreWorkers, HasWorkers, IsShared, IsWindow}
use Rattle.kr_args.specs.declared.forms.Ask.{Ask}
use Rattle.kr_args.specs.declared.forms.Command.TheVariants as commands
use Rattle.kr_args.specs.declared.forms.Search.TheVariants as searches
use Rattle.kr_args.specs.declared.forms.Pool.{Pool}
use Rattle.kr_args.specs.declared.forms.Pool.TheVariants.{Board}
use Rattle.kr_args.proofs.Numbers.{number_text}

-- a parsed number is within its limits
within : (low high : ℕ) (text : Text) → IfSome (number_in low high text) (λ n. (low ≤ n) × (n ≤ high))
within low high text = by_number (number_in low high text) refl
  where
    by_number : (o : Option ℕ) → number_in low high text ≡ o → IfSome o (λ n. (low ≤ n) × (n ≤ high))
    by_number None is = tt
    by_number (Some n) is = let read = number_text low high text n is in (read.1, read.2)

positive : (high : ℕ) (o : Option ℕ) → IfSome o (λ n. (1 ≤ n) × (n ≤ high)) → IfSome o (λ n. (0 < n) × (n ≤ high))
positive high None h = tt
positive high (Some n) h = (omega (arith, h.0), h.1)

few : (text : Option Text) → IfSome (workers_in text) AreWorkers
few None = (omega arith, omega arith)
few (Some text) = positive 64 (number_in 1 64 text) (within 1 64 text)

narrow : (text : Option Text) → IfSome (window_in text) IsWindow
narrow None = (omega arith, omega arith)
narrow (Some text) = positive 65536 (number_in 1 65536 text) (within 1 65536 text)

sharing_few : (workers window : Option ℕ) (pool : Option Pool) (trace : Bool) → IfSome workers AreWorkers → IfSome window IsWindow
    → IfSome (sharing_with workers window pool trace) (λ s. AreWorkers s.0 × IsWindow s.1)
sharing_few None window pool trace h k = tt
sharing_few (Some workers) None pool trace h k = tt
sharing_few (Some workers) (Some window) None trace h k = tt
sharing_few (Some workers) (Some window) (Some pool) trace h k = (h, k)

ask_few : (files : Option Files) (range : Option Range) (sharing : Option Sharing) → IfSome sharing (λ s. AreWorkers s.0 × IsWindow s.1) → IfSome (ask_with files range sharing) IsShared
ask_few None range sharing h = tt
ask_few (Some files) None sharing h = tt
ask_few (Some files) (Some range) None h = tt
ask_few (Some files) (Some range) (Some sharing) h = h

list_few : (ask : Option Ask) → IfSome ask IsShared → IfSome (option_map (λ a. commands.Search (searches.List a)) ask) HasWorkers
list_few None h = tt
list_few (Some ask) h = h

test_few : (method : Option Text) (ask : Option Ask) → IfSome ask IsShared → IfSome (test_with method ask) HasWorkers
test_few None ask h = tt
test_few (Some method) None h = tt
test_few (Some method) (Some ask) h = h

check_few : (files : Option Files) → IfSome (option_map (λ f. commands.Check f.0 f.1) files) HasWorkers
check_few None = tt
check_few (Some files) = tt

demo_few : (n workers : Option ℕ) → IfSome workers AreWorkers → IfSome (demo_with n workers) HasWorkers
demo_few None workers h = tt
demo_few (Some n) None h = tt
demo_few (Some n) (Some workers) h = h

shard_few : (ask : Option Ask) → IfSome ask IsShared → IfSome (option_map (λ a. commands.Search (searches.Shard a)) ask) HasWorkers
shard_few None h = tt
shard_few (Some ask) h = h

emit_few : (files : Option Files) (range : Option Range) → IfSome (option_map (λ a. commands.Search (searches.Emit a)) (ask_with files range (Some alone_sharing))) HasWorkers
emit_few None range = tt
emit_few (Some files) None = tt
emit_few (Some files) (Some range) = tt

merge_few : (files : Option (List Text)) → IfSome (option_map commands.Merge files) HasWorkers
merge_few None = tt
merge_few (Some files) = tt

upgrade_few : (fin : Option Text) → IfSome (option_map commands.Upgrade fin) HasWorkers
upgrade_few None = tt
upgrade_few (Some fin) = tt

trace_few : (file : Option Text) (from : Option (List ℕ)) (to : Option Bound) (workers : Option ℕ) → IfSome workers AreWorkers → IfSome (trace_with file from to workers) HasWorkers
trace_few None from to workers h = tt
trace_few (Some file) None to workers h = tt
trace_few (Some file) (Some from) None workers h = tt
trace_few (Some file) (Some from) (Some to) None h = tt
trace_few (Some file) (Some from) (Some to) (Some workers) h = h

named_few : (name : Text) (rows : List Row) → IfSome (named_in name rows) HasWorkers
named_few name rows = by_name (bytes_eq name (codes "list")) (bytes_eq name (codes "test")) (bytes_eq name (codes "check")) (bytes_eq name (codes "demo")) (bytes_eq name (codes "shard")) (bytes_eq name (codes "merge")) (bytes_eq name (codes "upgrade")) (bytes_eq name (codes "trace")) (bytes_eq name (codes "emit"))
  where
    workers : Option ℕ
    workers = workers_in (first_of (codes "workers") rows)

    own : IfSome workers AreWorkers
    own = few (first_of (codes "workers") rows)

    sharing : IfSome (sharing_in rows) (λ s. AreWorkers s.0 × IsWindow s.1)
    sharing =
        let window = first_of (codes "window") rows in
        let trace = flag_in (first_of (codes "trace") rows) in
        sharing_few workers (window_in window) (pool_in window trace (first_of (codes "pool") rows)) trace own (narrow window)

    asks : IfSome (ask_in rows) IsShared
    asks = ask_few (files_in rows) (range_in rows) (sharing_in rows) sharing

    spans : IfSome (ask_with (files_in rows) (span_in rows) (plain_sharing_in rows)) IsShared
    spans = ask_few (files_in rows) (span_in rows) (plain_sharing_in rows) (sharing_few workers (window_in None) (Some Board) false own (narrow None))

    by_name : (a b c d e f g h i : Bool) → IfSome (if a then list_in rows else (if b then test_in rows else (if c then check_in rows else (if d then demo_in rows else (if e then shard_in rows else (if f then merge_in rows else (if g then upgrade_in rows else (if h then trace_in rows else (if i then emit_in rows else None))))))))) HasWorkers
    by_name true b c d e f g h i = list_few (ask_in rows) asks
    by_name false true c d e f g h i = test_few (first_of (codes "method") rows) (ask_in rows) asks
    by_name false false true d e f g h i = check_few (files_in rows)
    by_name false false false true e f g h i = demo_few (option_and_then (number_in 1 12) (first_of (codes "nodes") rows)) workers own
    by_name false false false false true f g h i = shard_few (ask_with (files_in rows) (span_in rows) (plain_sharing_in rows)) spans
    by_name false false false false false true g h i = merge_few (all_of (codes "file") rows)
    by_name false false false false false false true h i = upgrade_few (first_of (codes "fin") rows)
    by_name false false false false false false false true i = trace_few (first_of (codes "file") rows) (from_in (first_of (codes "from") rows)) (to_in (first_of (codes "to") rows)) workers own
    by_name false false false false false false false false true = emit_few (files_in rows) (range_in rows)
    by_name false false false false false false false false false = tt

command_few : (met : Option (Text × List Row)) → IfSome (command_in met) HasWorkers
command_few None = tt
command_few (Some m) = named_few m.0 m.1

-- the words' command has workers
pub has_workers : (words : List Text) → IfSome (command_of words) HasWorkers
unfolding command_of
has_workers words = by_fault (is_empty (fault_of korat_app words))
  where
    by_fault : (b : Bool) → IfSome (if b then command_in (subcommand_of korat_app words) else None) HasWorkers
    by_fault true = command_few (subcommand_of korat_app words)
    by_fault false = tt
