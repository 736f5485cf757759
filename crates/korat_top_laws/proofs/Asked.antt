-- What the words of a listing or a test ask for.
use Rattle.std.proofs.Common.{◌≡◌, ◌≤◌, ℕ, Bool, true, false, List, Option, Some, None, refl, subst, arith}
use Rattle.std.specs.Prelude.{IfSome, codes, decimal, if◌then◌else◌, nat_le, option_map, ◌&&◌}
use Rattle.std.specs.Str.{bytes_eq}
use Rattle.std.specs.Str.Parse.{digits_value}
use Rattle.std.proofs.lemmas.Bool.Decides.{nat_tests}
use Rattle.std.proofs.lemmas.List.Elements.{All-nil}
use Rattle.clap.specs.Words.{Row, Text, all_of, fault_of, first_of, subcommand_of}
use Rattle.clap.specs.Walk.{is_empty}
use Rattle.kr_args.specs.Definition.{korat_app}
use Rattle.kr_args.specs.Reading.{Files, Range, Sharing, ask_in, ask_with, check_in, command_in, command_of, demo_in, demo_with, files_in, from_in, limit_in, list_in, merge_in, named_in, number_in, range_in, range_with, shard_in, sharing_in, sharing_with, test_in, test_with, to_in, trace_in, trace_with, upgrade_in, emit_in, workers_in}
use Rattle.kr_args.specs.declared.forms.Ask.{Ask}
use Rattle.kr_args.specs.declared.forms.Command.{Command}
use Rattle.kr_args.specs.declared.forms.Command.TheVariants as commands
use Rattle.kr_args.specs.declared.forms.Pool.{Pool}
use Rattle.kr_args.specs.declared.forms.Search.{Search}
use Rattle.kr_args.specs.declared.forms.Search.TheVariants as searches
use Rattle.kr_base.specs.Parsing.{cut_of}
use Rattle.kr_base.specs.declared.span.Bound.{Bound}
use Rattle.kr_base.specs.declared.span.Bound.TheVariants.{At}
use Rattle.kr_base.proofs.Readings.{reading}
use Rattle.kr_core.proofs.Bools.{and-left, and-right}
use Rattle.kr_shard_laws.specs.Listings.{IsBound, IsCut}

-- cuts that are read, at least one row, and at most 64 workers
pub record IsAsked (ask : Ask) : Type 0 where
  pub from : IsCut ask.from
  pub to : IsBound ask.to
  pub some : 1 ≤ ask.limit
  pub most : ask.limit ≤ 4294967295
  pub few : ask.workers ≤ 64

cut_is : (text : Text) → IfSome (cut_of text) IsCut
cut_is text = by_cut (cut_of text) refl
  where
    by_cut : (o : Option (List ℕ)) → cut_of text ≡ o → IfSome o IsCut
    by_cut None is = tt
    by_cut (Some numbers) is = let parsed = (reading text numbers).sound is in record { few = parsed.1; small = parsed.0.small }

from_is : (text : Option Text) → IfSome (from_in text) IsCut
from_is None = record { few = omega arith; small = All-nil _ }
from_is (Some text) = cut_is text

to_is : (text : Option Text) → IfSome (to_in text) IsBound
to_is None = tt
to_is (Some text) = by_cut (cut_of text) (cut_is text)
  where
    by_cut : (o : Option (List ℕ)) → IfSome o IsCut → IfSome (option_map At o) IsBound
    by_cut None h = tt
    by_cut (Some numbers) h = h

abbrev IsFrom : ℕ → ℕ → ℕ → Type 0
IsFrom low high n = (low ≤ n) × (n ≤ high)

least : (a b : ℕ) → nat_le a b ≡ true → a ≤ b
least a b h = grind (arith, nat_tests)

number_is : (low high : ℕ) (text : Text) → IfSome (number_in low high text) (IsFrom low high)
number_is low high text = by_test (digits_value 10 text) (bytes_eq (decimal (digits_value 10 text)) text)
  where
    by_test : (n : ℕ) (same : Bool) → IfSome (if same && (nat_le low n && nat_le n high) then Some n else None) (IsFrom low high)
    by_test n same = elim (same && (nat_le low n && nat_le n high)) as (λ b. (same && (nat_le low n && nat_le n high)) ≡ b → IfSome (if b then Some n else None) (IsFrom low high)) [
      | true ↦ λ e.
          let both = and-right same (nat_le low n && nat_le n high) e in
          (least low n (and-left (nat_le low n) (nat_le n high) both), least n high (and-right (nat_le low n) (nat_le n high) both))
      | false ↦ λ e. tt
    ] refl

limit_is : (text : Option Text) → IfSome (limit_in text) (IsFrom 1 4294967295)
limit_is None = (omega arith, omega arith)
limit_is (Some text) = number_is 1 4294967295 text

workers_is : (text : Option Text) → IfSome (workers_in text) (IsFrom 1 64)
workers_is None = (omega arith, omega arith)
workers_is (Some text) = number_is 1 64 text

abbrev IsRange : Range → Type 0
IsRange r = IsCut r.0 × IsBound r.1 × IsFrom 1 4294967295 r.2

range_is : (from : Option (List ℕ)) (to : Option Bound) (limit : Option ℕ) → IfSome from IsCut → IfSome to IsBound → IfSome limit (IsFrom 1 4294967295) → IfSome (range_with from to limit) IsRange
range_is None to limit h k l = tt
range_is (Some from) None limit h k l = tt
range_is (Some from) (Some to) None h k l = tt
range_is (Some from) (Some to) (Some limit) h k l = (h, k, l)

abbrev IsSharing : Sharing → Type 0
IsSharing s = IsFrom 1 64 s.0

sharing_is : (workers window : Option ℕ) (pool : Option Pool) (trace : Bool) → IfSome workers (IsFrom 1 64) → IfSome (sharing_with workers window pool trace) IsSharing
sharing_is None window pool trace h = tt
sharing_is (Some workers) None pool trace h = tt
sharing_is (Some workers) (Some window) None trace h = tt
sharing_is (Some workers) (Some window) (Some pool) trace h = h

ask_is : (files : Option Files) (range : Option Range) (sharing : Option Sharing) → IfSome range IsRange → IfSome sharing IsSharing → IfSome (ask_with files range sharing) IsAsked
ask_is None range sharing h k = tt
ask_is (Some files) None sharing h k = tt
ask_is (Some files) (Some range) None h k = tt
ask_is (Some files) (Some range) (Some sharing) h k = record { from = h.0; to = h.1; some = h.2.0; most = h.2.1; few = k.1 }

asked_in : (rows : List Row) → IfSome (ask_in rows) IsAsked
asked_in rows =
    let from = first_of (codes "from") rows in
    let to = first_of (codes "to") rows in
    let limit = first_of (codes "limit") rows in
    let workers = first_of (codes "workers") rows in
    ask_is (files_in rows) (range_in rows) (sharing_in rows)
    (range_is (from_in from) (to_in to) (limit_in limit) (from_is from) (to_is to) (limit_is limit))
    (sharing_is (workers_in workers) _ _ _ (workers_is workers))

abbrev IsAskedOf : Command → Type 0
IsAskedOf (commands.Search (searches.List ask)) = IsAsked ask
IsAskedOf (commands.Search (searches.Test method ask)) = IsAsked ask
IsAskedOf _ = Unit {0}

listed : (ask : Option Ask) → IfSome ask IsAsked → IfSome (option_map (λ a. commands.Search (searches.List a)) ask) IsAskedOf
listed None h = tt
listed (Some ask) h = h

tested : (method : Option Text) (ask : Option Ask) → IfSome ask IsAsked → IfSome (test_with method ask) IsAskedOf
tested None ask h = tt
tested (Some method) None h = tt
tested (Some method) (Some ask) h = h

others : {A : Type 0} (o : Option A) (f : A → Command) → ((a : A) → IsAskedOf (f a)) → IfSome (option_map f o) IsAskedOf
others None f h = tt
others (Some a) f h = h a

shown : (n workers : Option ℕ) → IfSome (demo_with n workers) IsAskedOf
shown None workers = tt
shown (Some n) None = tt
shown (Some n) (Some workers) = tt

traced : (file : Option Text) (from : Option (List ℕ)) (to : Option Bound) (workers : Option ℕ) → IfSome (trace_with file from to workers) IsAskedOf
traced None from to workers = tt
traced (Some file) None to workers = tt
traced (Some file) (Some from) None workers = tt
traced (Some file) (Some from) (Some to) None = tt
traced (Some file) (Some from) (Some to) (Some workers) = tt

named : (name : Text) (rows : List Row) → IfSome (named_in name rows) IsAskedOf
named name rows = by_name (bytes_eq name (codes "list")) (bytes_eq name (codes "test")) (bytes_eq name (codes "check")) (bytes_eq name (codes "demo")) (bytes_eq name (codes "shard")) (bytes_eq name (codes "merge")) (bytes_eq name (codes "upgrade")) (bytes_eq name (codes "trace")) (bytes_eq name (codes "emit"))
  where
    by_name : (a b c d e f g h i : Bool) → IfSome (if a then list_in rows else (if b then test_in rows else (if c then check_in rows else (if d then demo_in rows else (if e then shard_in rows else (if f then merge_in rows else (if g then upgrade_in rows else (if h then trace_in rows else (if i then emit_in rows else None))))))))) IsAskedOf
    by_name true b c d e f g h i = listed (ask_in rows) (asked_in rows)
    by_name false true c d e f g h i = tested (first_of (codes "method") rows) (ask_in rows) (asked_in rows)
    by_name false false true d e f g h i = others (files_in rows) (λ files. commands.Check files.0 files.1) (λ files. tt)
    by_name false false false true e f g h i = shown _ (workers_in (first_of (codes "workers") rows))
    by_name false false false false true f g h i = others (ask_with _ _ _) (λ ask. commands.Search (searches.Shard ask)) (λ ask. tt)
    by_name false false false false false true g h i = others (all_of (codes "file") rows) commands.Merge (λ files. tt)
    by_name false false false false false false true h i = others (first_of (codes "fin") rows) commands.Upgrade (λ fin. tt)
    by_name false false false false false false false true i = traced (first_of (codes "file") rows) (from_in (first_of (codes "from") rows)) (to_in (first_of (codes "to") rows)) (workers_in (first_of (codes "workers") rows))
    by_name false false false false false false false false true = others (ask_with _ _ _) (λ ask. commands.Search (searches.Emit ask)) (λ ask. tt)
    by_name false false false false false false false false false = tt

met : (found : Option (Text × List Row)) → IfSome (command_in found) IsAskedOf
met None = tt
met (Some m) = named m.0 m.1

asked : (words : List Text) → IfSome (command_of words) IsAskedOf
unfolding command_of
asked words = by_fault (is_empty (fault_of korat_app words))
  where
    by_fault : (b : Bool) → IfSome (if b then command_in (subcommand_of korat_app words) else None) IsAskedOf
    by_fault true = met (subcommand_of korat_app words)
    by_fault false = tt

pub asked_of : (words : List Text) (ask : Ask) → command_of words ≡ Some (commands.Search (searches.List ask)) → IsAsked ask
asked_of words ask is = subst (λ (o : Option Command). IfSome o IsAskedOf) is (asked words)

pub tested_of : (words : List Text) (method : List ℕ) (ask : Ask) → command_of words ≡ Some (commands.Search (searches.Test method ask)) → IsAsked ask
tested_of words method ask is = subst (λ (o : Option Command). IfSome o IsAskedOf) is (asked words)
