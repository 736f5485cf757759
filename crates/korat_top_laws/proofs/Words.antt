-- What the words of `shard` ask for.
use Rattle.std.proofs.Common.{◌≡◌, ◌∙◌, ◌≤◌, ℕ, Bool, true, false, List, [], ◌∷◌, ◌++◌, Option, Some, None, refl, ap, subst, sym, arith, append_assoc}
use Rattle.std.specs.Prelude.{IfSome, codes, if◌then◌else◌, option_and_then, option_map}
use Rattle.std.specs.Str.{bytes_eq}
use Rattle.std.proofs.lemmas.List.Elements.{All-nil}
use Rattle.clap.specs.Words.{Row, Text, all_of, fault_of, first_of, subcommand_of}
use Rattle.clap.specs.Walk.{is_empty}
use Rattle.kr_args.specs.Definition.{korat_app}
use Rattle.kr_args.specs.Reading.{Files, Range, Sharing, ask_in, ask_with, check_in, command_in, command_of, demo_in, demo_with, files_in, from_in, list_in, merge_in, named_in, number_in, plain_sharing_in, shard_in, span_in as span_asked, span_with, test_in, test_with, to_in, trace_in, trace_with, upgrade_in, emit_in, alone_sharing, range_in, workers_in}
use Rattle.kr_args.specs.declared.forms.Ask.{Ask}
use Rattle.kr_args.specs.declared.forms.Command.{Command}
use Rattle.kr_args.specs.declared.forms.Command.TheVariants as commands
use Rattle.kr_args.specs.declared.forms.Search.{Search}
use Rattle.kr_args.specs.declared.forms.Search.TheVariants as searches
use Rattle.kr_base.specs.Bounds.{less}
use Rattle.kr_base.specs.Parsing.{ReadingLaw, cut_of}
use Rattle.kr_base.specs.declared.span.Bound.{Bound}
use Rattle.kr_base.specs.declared.span.Bound.TheVariants.{At, End}
use Rattle.kr_base.specs.declared.span.Span.{Span}
use Rattle.kr_mean.specs.Entries.{all_entries}
use Rattle.kr_mean.specs.Problem.{Problem}
use Rattle.kr_report.specs.Reports.{bytes_of, lines}
use Rattle.kr_shard.specs.Texts.{first_text}
use Rattle.kr_shard_laws.specs.Listings.{IsBound, IsCut, IsSpan, MOST_ROWS, listing_in, shard_text}
use Rattle.korat_top_laws.specs.Words.{IsShardAsk, WordsLaw}
use Rattle.korat_top_reports.specs.Reports.{report_of, span_in}

module _ (law : ReadingLaw) where
  cut_is : (text : Text) → IfSome (cut_of text) IsCut
  cut_is text = by_cut (cut_of text) refl
    where
      by_cut : (o : Option (List ℕ)) → cut_of text ≡ o → IfSome o IsCut
      by_cut None is = tt
      by_cut (Some numbers) is = let parsed = (law text numbers).sound is in record { few = parsed.1; small = parsed.0.small }

  from_is : (text : Option Text) → IfSome (from_in text) IsCut
  from_is None = record { few = omega arith; small = All-nil _ }
  from_is (Some text) = cut_is text

  to_is : (text : Option Text) → IfSome (to_in text) IsBound
  to_is None = tt
  to_is (Some text) = by_cut (cut_of text) (cut_is text)
    where
      by_cut : (o : Option (List ℕ)) → IfSome o IsCut → IfSome (option_map At o) IsBound
      by_cut None h = tt
      by_cut (Some numbers) h = h

  abbrev IsRange : Range → Type 0
  IsRange r = let span : Span = record { after = r.0; upto = r.1 } in IsSpan span × (r.2 ≡ MOST_ROWS)

  range_is : (from : Option (List ℕ)) (to : Option Bound) → IfSome from IsCut → IfSome to IsBound → IfSome (span_with from to) IsRange
  range_is None to h k = tt
  range_is (Some from) None h k = tt
  range_is (Some from) (Some to) h k = by_less (less (At from) to) refl
    where
      by_less : (b : Bool) → less (At from) to ≡ b → IfSome (if b then Some (from, to, 4294967295) else None) IsRange
      by_less false is = tt
      by_less true is = (record { after = h; upto = k; below = is }, refl)

  abbrev IsAsked : Ask → Type 0
  IsAsked ask = IsSpan (span_in ask) × (ask.limit ≡ MOST_ROWS)

  abbrev IsAskedOf : Command → Type 0
  IsAskedOf (commands.Search (searches.Shard ask)) = IsAsked ask
  IsAskedOf _ = Unit {0}

  ask_is : (files : Option Files) (range : Option Range) (sharing : Option Sharing) → IfSome range IsRange → IfSome (option_map (λ a. commands.Search (searches.Shard a)) (ask_with files range sharing)) IsAskedOf
  ask_is None range sharing h = tt
  ask_is (Some files) None sharing h = tt
  ask_is (Some files) (Some range) None h = tt
  ask_is (Some files) (Some range) (Some sharing) h = h

  listed : (ask : Option Ask) → IfSome (option_map (λ a. commands.Search (searches.List a)) ask) IsAskedOf
  listed None = tt
  listed (Some ask) = tt

  tested : (method : Option Text) (ask : Option Ask) → IfSome (test_with method ask) IsAskedOf
  tested None ask = tt
  tested (Some method) None = tt
  tested (Some method) (Some ask) = tt

  emitted : (ask : Option Ask) → IfSome (option_map (λ a. commands.Search (searches.Emit a)) ask) IsAskedOf
  emitted None = tt
  emitted (Some ask) = tt

  checked : (files : Option Files) → IfSome (option_map (λ f. commands.Check f.0 f.1) files) IsAskedOf
  checked None = tt
  checked (Some files) = tt

  shown : (n workers : Option ℕ) → IfSome (demo_with n workers) IsAskedOf
  shown None workers = tt
  shown (Some n) None = tt
  shown (Some n) (Some workers) = tt

  merged : (files : Option (List Text)) → IfSome (option_map commands.Merge files) IsAskedOf
  merged None = tt
  merged (Some files) = tt

  upgraded : (fin : Option Text) → IfSome (option_map commands.Upgrade fin) IsAskedOf
  upgraded None = tt
  upgraded (Some fin) = tt

  traced : (file : Option Text) (from : Option (List ℕ)) (to : Option Bound) (workers : Option ℕ) → IfSome (trace_with file from to workers) IsAskedOf
  traced None from to workers = tt
  traced (Some file) None to workers = tt
  traced (Some file) (Some from) None workers = tt
  traced (Some file) (Some from) (Some to) None = tt
  traced (Some file) (Some from) (Some to) (Some workers) = tt

  named : (name : Text) (rows : List Row) → IfSome (named_in name rows) IsAskedOf
  named name rows = by_name (bytes_eq name (codes "list")) (bytes_eq name (codes "test")) (bytes_eq name (codes "check")) (bytes_eq name (codes "demo")) (bytes_eq name (codes "shard")) (bytes_eq name (codes "merge")) (bytes_eq name (codes "upgrade")) (bytes_eq name (codes "trace")) (bytes_eq name (codes "emit"))
    where
      by_name : (a b c d e f g h i : Bool) → IfSome (if a then list_in rows else (if b then test_in rows else (if c then check_in rows else (if d then demo_in rows else (if e then shard_in rows else (if f then merge_in rows else (if g then upgrade_in rows else (if h then trace_in rows else (if i then emit_in rows else None))))))))) IsAskedOf
      by_name true b c d e f g h i = listed (ask_in rows)
      by_name false true c d e f g h i = tested (first_of (codes "method") rows) (ask_in rows)
      by_name false false true d e f g h i = checked (files_in rows)
      by_name false false false true e f g h i = shown (option_and_then (number_in 1 12) (first_of (codes "nodes") rows)) (workers_in (first_of (codes "workers") rows))
      by_name false false false false true f g h i = ask_is (files_in rows) (span_asked rows) (plain_sharing_in rows) (range_is (from_in (first_of (codes "from") rows)) (to_in (first_of (codes "to") rows)) (from_is (first_of (codes "from") rows)) (to_is (first_of (codes "to") rows)))
      by_name false false false false false true g h i = merged (all_of (codes "file") rows)
      by_name false false false false false false true h i = upgraded (first_of (codes "fin") rows)
      by_name false false false false false false false true i = traced (first_of (codes "file") rows) (from_in (first_of (codes "from") rows)) (to_in (first_of (codes "to") rows)) (workers_in (first_of (codes "workers") rows))
      by_name false false false false false false false false true = emitted (ask_with (files_in rows) (range_in rows) (Some alone_sharing))
      by_name false false false false false false false false false = tt

  met : (found : Option (Text × List Row)) → IfSome (command_in found) IsAskedOf
  met None = tt
  met (Some m) = named m.0 m.1

  asked : (words : List Text) → IfSome (command_of words) IsAskedOf
  unfolding command_of
  asked words = by_fault (is_empty (fault_of korat_app words))
    where
      by_fault : (b : Bool) → IfSome (if b then command_in (subcommand_of korat_app words) else None) IsAskedOf
      by_fault true = met (subcommand_of korat_app words)
      by_fault false = tt

text_is : (ask : Ask) (problem : Problem) → ask.limit ≡ MOST_ROWS → bytes_of (report_of (searches.Shard ask) problem) ≡ shard_text problem (all_entries problem) (span_in ask)
text_is ask problem same =
    let listing = listing_in problem (all_entries problem) ask.from ask.to in
    ap (λ (n : ℕ). bytes_of (report_of (searches.Shard (record ask { limit = n })) problem)) same ∙ append_assoc (first_text (span_in ask)) (lines listing.rows) listing.last

pub words_law : ReadingLaw → WordsLaw
words_law law words ask is =
    let h = subst (λ (o : Option Command). IfSome o (IsAskedOf law)) is (asked law words) in
    record { span = h.0; text = λ problem. text_is ask problem h.1 }
