-- What `merge` answers of files that hold what `shard` wrote.
use Rattle.std.proofs.Common.{◌≡◌, ℕ, ◌≤◌, Bool, List, [], ◌∷◌, map, length, Option, Some, Result, Ok, Err, refl, ap, ◌∙◌, append_assoc}
use Rattle.std.specs.Prelude.{option_and_then, option_map, if◌then◌else◌}
use Rattle.std.specs.List.{AllByRecursion}
use Rattle.std.proofs.lemmas.Bool.{le-leb}
use Rattle.kr_base.specs.declared.span.Span.{Span}
use Rattle.kr_mean.specs.Entries.{all_entries}
use Rattle.kr_mean.specs.Problem.{Problem}
use Rattle.kr_mean.specs.declared.mode.Mode.TheVariants.{List as Listing}
use Rattle.kr_report.specs.Reports.{lines}
use Rattle.kr_shard.specs.Answers.{joined_answer}
use Rattle.kr_shard.specs.Merging.{in_order, numbered}
use Rattle.kr_shard.specs.declared.merging.MergeRefusal.{MergeRefusal}
use Rattle.kr_shard.specs.Shards.{shard_of}
use Rattle.kr_shard.specs.Texts.{first_text}
use Rattle.kr_shard.specs.declared.shard.Shard.{Shard}
use Rattle.kr_shard_laws.specs.Listings.{listing_in, shard_text}
use Rattle.kr_shard.specs.Files.{and_later, and_shard, answer_by, judged, refused_as, shards_in, unless_fault, MOST_BYTES}
use Rattle.kr_shard.specs.Faults.{long_text}
use Rattle.kr_shard_laws.specs.Theorem.{ComesTo}
use Rattle.kr_shard_laws.proofs.Accepted.{shards}
use Rattle.kr_io.specs.Held.{Held}
use Rattle.korat_top_laws.specs.Laws.{HoldShards, MergedLaw, WrittenLaw}
use Rattle.korat_top_laws.proofs.Accepted.{checked}

module _ (held : Held) (problem : Problem) where
  abbrev text : Span → List ℕ
  text span = shard_text problem (all_entries problem) span

  short : (names : List (List ℕ)) (given : List Span) → HoldShards held problem names given → AllByRecursion (λ span. length (shard_text problem (all_entries problem) span) ≤ MOST_BYTES) given
  short [] [] h = tt
  short [] (span ∷ spans) h = absurd h
  short (name ∷ names) [] h = absurd h
  short (name ∷ names) (span ∷ spans) h = (h.1, short names spans h.2)

  judged_is : (name : List ℕ) (span : Span) (shard : Shard) → length (text span) ≤ MOST_BYTES → shard_of (text span) ≡ Ok shard → judged name (text span) ≡ Ok shard
  judged_is name span shard few is =
      ap (λ (b : Bool). if b then refused_as name (shard_of (text span)) else Err (long_text name)) (le-leb (length (text span)) MOST_BYTES few) ∙ ap (refused_as name) is

  -- each is read as its shard
  read : (names : List (List ℕ)) (given : List Span) (all : List Shard) → HoldShards held problem names given → map shard_of (map text given) ≡ map Ok all → shards_in held names ≡ Some (Ok all)
  read [] [] [] h e = refl
  read [] [] (shard ∷ all) h e = absurd (cc (e))
  read [] (span ∷ spans) all h e = absurd h
  read (name ∷ names) [] all h e = absurd h
  read (name ∷ names) (span ∷ spans) [] h e = absurd (cc (e))
  read (name ∷ names) (span ∷ spans) (shard ∷ all) h e =
      let own : shard_of (text span) ≡ Ok shard = cc (e) in
      let rest : map shard_of (map text spans) ≡ map Ok all = cc (e) in
      ap (λ (o : Option (List ℕ)). option_and_then (λ bytes. and_later (judged name bytes) (shards_in held names)) o) h.0
      ∙ (ap (λ (r : Result Shard (List ℕ)). and_later r (shards_in held names)) (judged_is name span shard h.1 own) ∙ ap (option_map (and_shard shard)) (read names spans all h.2 rest))

pub written : WrittenLaw
written problem span = let listing = listing_in problem (all_entries problem) span.after span.upto in append_assoc (first_text span) (lines listing.rows) listing.last

pub merged : MergedLaw
merged held later inputs names problem spans given after upto steps some few adjoin mixed hold =
    let of = checked held Listing inputs problem steps in
    let comes : ComesTo (map (shard_text problem (all_entries problem)) given) (listing_in problem (all_entries problem) after upto) =
    shards of.sources of.fin problem spans given after upto of.accepted_as some few adjoin mixed (short later problem names given hold) in
    record {
      answer = joined_answer (in_order (numbered 0 comes.shards));
      merges = ap (option_map (answer_by names)) (read later problem names given comes.shards hold comes.are)
          ∙ ap (λ (o : Option MergeRefusal). Some (unless_fault names o (joined_answer (in_order (numbered 0 comes.shards))))) comes.adjoin;
      bytes = comes.bytes;
      status = comes.status;
    }
