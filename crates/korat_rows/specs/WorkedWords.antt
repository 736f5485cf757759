-- Between crates: some words with what they mean, worked by hand.
use Rattle.std.specs.Prelude.{◌≡◌, ℕ, true, false, List, [], ◌∷◌, Option, Some, None, codes}
use Rattle.clap.specs.Words.{Text}
use Rattle.kr_base.specs.declared.span.Bound.{Bound}
use Rattle.kr_base.specs.declared.span.Bound.TheVariants.{At, End}
use Rattle.kr_args.specs.declared.forms.Ask.{Ask}
use Rattle.kr_args.specs.declared.forms.Command.{Command}
use Rattle.kr_args.specs.declared.forms.Command.TheVariants.{Check as Checks, Merge as Merges, Upgrade as Upgrades, Search as Searches}
use Rattle.kr_args.specs.declared.forms.Search.TheVariants.{List as Lists, Test as Tests, Demo as Demos, Shard as Shards, Emit as Emits}
use Rattle.kr_args.specs.declared.forms.Pool.TheVariants.{Board, Deque}
use Rattle.kr_args.specs.Reading.{command_of}

-- the words f and a after a word, and more
abbrev pub with_files : Text → List Text → List Text
with_files name more = name ∷ codes "f" ∷ codes "a" ∷ more

-- the listing of these files, with keys above one and not above another, and a limit on valid entries
abbrev pub wanted : List ℕ → Bound → ℕ → Ask
wanted from to limit = record { fin = codes "f"; sources = codes "a" ∷ []; from = from; to = to; limit = limit; workers = 1; window = 4096; pool = Board; trace = false }

abbrev pub listed : List ℕ → Bound → ℕ → Option Command
listed from to limit = Some (Searches (Lists (wanted from to limit)))

-- the test of method m on the same
abbrev pub tested : List ℕ → Bound → ℕ → Option Command
tested from to limit = Some (Searches (Tests (codes "m") (wanted from to limit)))

abbrev pub checked_as : Text → List Text → Option Command
checked_as fin sources = Some (Checks fin sources)

pub record WorkedWords : Type 0 where
  pub no_words : command_of [] ≡ None
  pub plain : command_of (with_files (codes "list") []) ≡ listed [] End 4294967295
  pub limit : command_of (with_files (codes "list") (codes "--limit" ∷ codes "3" ∷ [])) ≡ listed [] End 3
  pub equals : command_of (with_files (codes "list") (codes "--limit=3" ∷ [])) ≡ listed [] End 3
  pub greatest : command_of (with_files (codes "list") (codes "--limit" ∷ codes "4294967295" ∷ [])) ≡ listed [] End 4294967295
  pub no_limit : command_of (with_files (codes "list") (codes "--limit" ∷ codes "0" ∷ [])) ≡ None
  pub past_greatest : command_of (with_files (codes "list") (codes "--limit" ∷ codes "4294967296" ∷ [])) ≡ None
  pub padded : command_of (with_files (codes "list") (codes "--limit" ∷ codes "03" ∷ [])) ≡ None
  pub signed : command_of (with_files (codes "list") (codes "--limit" ∷ codes "+3" ∷ [])) ≡ None
  pub spans : command_of (codes "list" ∷ codes "--from" ∷ codes "0.2" ∷ codes "f" ∷ codes "a" ∷ codes "--to" ∷ codes "1" ∷ []) ≡ listed (0 ∷ 2 ∷ []) (At (1 ∷ [])) 4294967295
  pub two_dots : command_of (with_files (codes "list") (codes "--from" ∷ codes "0..1" ∷ [])) ≡ None
  pub padded_cut : command_of (with_files (codes "list") (codes "--to" ∷ codes "0.01" ∷ [])) ≡ None
  pub no_cut : command_of (with_files (codes "list") (codes "--from" ∷ [] ∷ [])) ≡ None
  pub no_value : command_of (with_files (codes "list") (codes "--limit" ∷ [])) ≡ None
  pub twice : command_of (with_files (codes "list") (codes "--limit" ∷ codes "3" ∷ codes "--limit" ∷ codes "3" ∷ [])) ≡ None
  pub between : command_of (with_files (codes "list") (codes "--limit" ∷ codes "3" ∷ codes "b" ∷ [])) ≡ None
  pub unknown : command_of (with_files (codes "list") (codes "--lim" ∷ codes "3" ∷ [])) ≡ None
  pub workers : command_of (with_files (codes "list") (codes "--workers" ∷ codes "64" ∷ [])) ≡ Some (Searches (Lists (record (wanted [] End 4294967295) { workers = 64 })))
  pub no_workers : command_of (with_files (codes "list") (codes "--workers" ∷ codes "0" ∷ [])) ≡ None
  pub too_many_workers : command_of (with_files (codes "list") (codes "--workers" ∷ codes "65" ∷ [])) ≡ None
  pub padded_workers : command_of (with_files (codes "list") (codes "--workers" ∷ codes "01" ∷ [])) ≡ None
  pub workers_twice : command_of (with_files (codes "list") (codes "--workers" ∷ codes "2" ∷ codes "--workers" ∷ codes "2" ∷ [])) ≡ None
  pub trace : command_of (with_files (codes "list") (codes "--trace" ∷ [])) ≡ Some (Searches (Lists (record (wanted [] End 4294967295) { trace = true })))
  pub trace_with_a_value : command_of (with_files (codes "list") (codes "--trace=true" ∷ [])) ≡ None
  pub trace_twice : command_of (with_files (codes "list") (codes "--trace" ∷ codes "--trace" ∷ [])) ≡ None
  pub window : command_of (with_files (codes "list") (codes "--window" ∷ codes "65536" ∷ [])) ≡ Some (Searches (Lists (record (wanted [] End 4294967295) { window = 65536 })))
  pub window_of_one : command_of (with_files (codes "list") (codes "--window=1" ∷ [])) ≡ Some (Searches (Lists (record (wanted [] End 4294967295) { window = 1 })))
  pub no_window : command_of (with_files (codes "list") (codes "--window" ∷ codes "0" ∷ [])) ≡ None
  pub padded_window : command_of (with_files (codes "list") (codes "--window" ∷ codes "01" ∷ [])) ≡ None
  pub signed_window : command_of (with_files (codes "list") (codes "--window" ∷ codes "+1" ∷ [])) ≡ None
  pub past_widest : command_of (with_files (codes "list") (codes "--window" ∷ codes "65537" ∷ [])) ≡ None
  pub window_twice : command_of (with_files (codes "list") (codes "--window" ∷ codes "2" ∷ codes "--window" ∷ codes "2" ∷ [])) ≡ None
  pub window_without_a_value : command_of (with_files (codes "list") (codes "--window" ∷ [])) ≡ None
  pub deques : command_of (with_files (codes "list") (codes "--pool" ∷ codes "deque" ∷ [])) ≡ Some (Searches (Lists (record (wanted [] End 4294967295) { pool = Deque })))
  pub deques_with_a_window : command_of (with_files (codes "list") (codes "--pool" ∷ codes "deque" ∷ codes "--window" ∷ codes "2" ∷ [])) ≡ None
  pub deques_with_the_default_window : command_of (with_files (codes "list") (codes "--window" ∷ codes "4096" ∷ codes "--pool" ∷ codes "deque" ∷ [])) ≡ None
  pub deques_with_a_trace : command_of (with_files (codes "list") (codes "--trace" ∷ codes "--pool" ∷ codes "deque" ∷ [])) ≡ None
  pub board_by_name : command_of (with_files (codes "list") (codes "--pool" ∷ codes "board" ∷ [])) ≡ None
  pub pool_in_capitals : command_of (with_files (codes "list") (codes "--pool" ∷ codes "Deque" ∷ [])) ≡ None
  pub pool_without_a_name : command_of (with_files (codes "list") (codes "--pool" ∷ [])) ≡ None
  pub pool_of_no_name : command_of (with_files (codes "list") (codes "--pool" ∷ [] ∷ [])) ≡ None
  pub pool_twice : command_of (with_files (codes "list") (codes "--pool" ∷ codes "deque" ∷ codes "--pool" ∷ codes "deque" ∷ [])) ≡ None
  pub no_source : command_of (codes "list" ∷ codes "f" ∷ []) ≡ None
  pub checked : command_of (codes "check" ∷ codes "f" ∷ codes "a" ∷ codes "b" ∷ []) ≡ checked_as (codes "f") (codes "a" ∷ codes "b" ∷ [])
  pub sixteen : command_of (codes "check" ∷ codes "f" ∷ codes "1" ∷ codes "2" ∷ codes "3" ∷ codes "4" ∷ codes "5" ∷ codes "6" ∷ codes "7" ∷ codes "8" ∷ codes "9" ∷ codes "a" ∷ codes "b" ∷ codes "c" ∷ codes "d" ∷ codes "e" ∷ codes "f" ∷ codes "g" ∷ [])
      ≡ checked_as (codes "f") (codes "1" ∷ codes "2" ∷ codes "3" ∷ codes "4" ∷ codes "5" ∷ codes "6" ∷ codes "7" ∷ codes "8" ∷ codes "9" ∷ codes "a" ∷ codes "b" ∷ codes "c" ∷ codes "d" ∷ codes "e" ∷ codes "f" ∷ codes "g" ∷ [])
  pub seventeen : command_of (codes "check" ∷ codes "f" ∷ codes "1" ∷ codes "2" ∷ codes "3" ∷ codes "4" ∷ codes "5" ∷ codes "6" ∷ codes "7" ∷ codes "8" ∷ codes "9" ∷ codes "a" ∷ codes "b" ∷ codes "c" ∷ codes "d" ∷ codes "e" ∷ codes "f" ∷ codes "g" ∷ codes "h" ∷ []) ≡ None
  pub check_has_no_workers : command_of (with_files (codes "check") (codes "--workers" ∷ codes "1" ∷ [])) ≡ None
  pub check_has_no_trace : command_of (with_files (codes "check") (codes "--trace" ∷ [])) ≡ None
  pub check_has_no_window : command_of (with_files (codes "check") (codes "--window" ∷ codes "2" ∷ [])) ≡ None
  pub check_has_no_pool : command_of (with_files (codes "check") (codes "--pool" ∷ codes "deque" ∷ [])) ≡ None
  pub check_has_no_limit : command_of (with_files (codes "check") (codes "--limit" ∷ codes "3" ∷ [])) ≡ None
  pub dashes : command_of (codes "check" ∷ codes "--" ∷ codes "-f" ∷ codes "--a" ∷ []) ≡ checked_as (codes "-f") (codes "--a" ∷ [])
  pub empty_names : command_of (codes "check" ∷ [] ∷ [] ∷ []) ≡ checked_as [] ([] ∷ [])
  pub demo : command_of (codes "demo" ∷ codes "12" ∷ []) ≡ Some (Searches (Demos 12 1))
  pub demo_by_workers : command_of (codes "demo" ∷ codes "--workers" ∷ codes "4" ∷ codes "6" ∷ []) ≡ Some (Searches (Demos 6 4))
  pub demo_has_no_trace : command_of (codes "demo" ∷ codes "6" ∷ codes "--trace" ∷ []) ≡ None
  pub demo_has_no_window : command_of (codes "demo" ∷ codes "6" ∷ codes "--window" ∷ codes "2" ∷ []) ≡ None
  pub demo_has_no_pool : command_of (codes "demo" ∷ codes "6" ∷ codes "--pool" ∷ codes "deque" ∷ []) ≡ None
  pub demo_of_none : command_of (codes "demo" ∷ codes "0" ∷ []) ≡ None
  pub demo_too_large : command_of (codes "demo" ∷ codes "13" ∷ []) ≡ None
  pub test : command_of (codes "test" ∷ codes "f" ∷ codes "m" ∷ codes "a" ∷ []) ≡ tested [] End 4294967295
  pub test_in_a_span : command_of (codes "test" ∷ codes "--limit" ∷ codes "2" ∷ codes "f" ∷ codes "--from=0.2" ∷ codes "m" ∷ codes "a" ∷ codes "--to" ∷ codes "1" ∷ []) ≡ tested (0 ∷ 2 ∷ []) (At (1 ∷ [])) 2
  pub test_without_source : command_of (codes "test" ∷ codes "f" ∷ codes "m" ∷ []) ≡ None
  pub test_without_method : command_of (codes "test" ∷ codes "f" ∷ []) ≡ None
  pub test_by_workers : command_of (codes "test" ∷ codes "f" ∷ codes "m" ∷ codes "a" ∷ codes "--workers" ∷ codes "2" ∷ codes "--trace" ∷ []) ≡ Some (Searches (Tests (codes "m") (record (wanted [] End 4294967295) { workers = 2; trace = true })))
  pub test_with_a_window : command_of (codes "test" ∷ codes "f" ∷ codes "m" ∷ codes "a" ∷ codes "--window" ∷ codes "2" ∷ codes "--trace" ∷ []) ≡ Some (Searches (Tests (codes "m") (record (wanted [] End 4294967295) { window = 2; trace = true })))
  pub test_by_deques : command_of (codes "test" ∷ codes "--pool=deque" ∷ codes "f" ∷ codes "m" ∷ codes "a" ∷ codes "--workers" ∷ codes "8" ∷ []) ≡ Some (Searches (Tests (codes "m") (record (wanted [] End 4294967295) { workers = 8; pool = Deque })))
  pub test_by_deques_with_a_trace : command_of (codes "test" ∷ codes "f" ∷ codes "m" ∷ codes "a" ∷ codes "--pool" ∷ codes "deque" ∷ codes "--trace" ∷ []) ≡ None
  pub test_of_no_limit : command_of (codes "test" ∷ codes "f" ∷ codes "m" ∷ codes "a" ∷ codes "--limit" ∷ codes "0" ∷ []) ≡ None
  pub list_of_a_method : command_of (codes "list" ∷ codes "f" ∷ codes "m" ∷ codes "a" ∷ []) ≡ Some (Searches (Lists (record (wanted [] End 4294967295) { sources = codes "m" ∷ codes "a" ∷ [] })))
  pub shard : command_of (with_files (codes "shard") (codes "--from" ∷ codes "0.2" ∷ codes "--to" ∷ codes "1" ∷ [])) ≡ Some (Searches (Shards (wanted (0 ∷ 2 ∷ []) (At (1 ∷ [])) 4294967295)))
  pub shard_of_all : command_of (with_files (codes "shard") []) ≡ Some (Searches (Shards (wanted [] End 4294967295)))
  pub shard_of_nothing : command_of (with_files (codes "shard") (codes "--from" ∷ codes "1" ∷ codes "--to" ∷ codes "1" ∷ [])) ≡ None
  pub shard_backwards : command_of (with_files (codes "shard") (codes "--from" ∷ codes "1.0" ∷ codes "--to" ∷ codes "1" ∷ [])) ≡ None
  pub shard_has_no_limit : command_of (with_files (codes "shard") (codes "--limit" ∷ codes "3" ∷ [])) ≡ None
  pub shard_by_workers : command_of (with_files (codes "shard") (codes "--workers" ∷ codes "3" ∷ [])) ≡ Some (Searches (Shards (record (wanted [] End 4294967295) { workers = 3 })))
  pub shard_has_no_window : command_of (with_files (codes "shard") (codes "--window" ∷ codes "2" ∷ [])) ≡ None
  pub shard_has_no_pool : command_of (with_files (codes "shard") (codes "--pool" ∷ codes "deque" ∷ [])) ≡ None
  pub shard_has_no_trace : command_of (with_files (codes "shard") (codes "--trace" ∷ [])) ≡ None
  pub emit : command_of (with_files (codes "emit") (codes "--from" ∷ codes "0.2" ∷ codes "--to" ∷ codes "1" ∷ codes "--limit" ∷ codes "3" ∷ [])) ≡ Some (Searches (Emits (wanted (0 ∷ 2 ∷ []) (At (1 ∷ [])) 3)))
  pub emit_of_all : command_of (with_files (codes "emit") []) ≡ Some (Searches (Emits (wanted [] End 4294967295)))
  pub emit_without_source : command_of (codes "emit" ∷ codes "f" ∷ []) ≡ None
  pub emit_has_no_workers : command_of (with_files (codes "emit") (codes "--workers" ∷ codes "1" ∷ [])) ≡ None
  pub emit_has_no_trace : command_of (with_files (codes "emit") (codes "--trace" ∷ [])) ≡ None
  pub merge : command_of (codes "merge" ∷ codes "s2" ∷ codes "s1" ∷ []) ≡ Some (Merges (codes "s2" ∷ codes "s1" ∷ []))
  pub merge_of_none : command_of (codes "merge" ∷ []) ≡ None
  pub upgrade : command_of (codes "upgrade" ∷ codes "f" ∷ []) ≡ Some (Upgrades (codes "f"))
  pub upgrade_of_none : command_of (codes "upgrade" ∷ []) ≡ None
  pub upgrade_of_two : command_of (codes "upgrade" ∷ codes "f" ∷ codes "g" ∷ []) ≡ None
  pub help : command_of (codes "--help" ∷ []) ≡ None
  pub help_word : command_of (codes "help" ∷ []) ≡ None
