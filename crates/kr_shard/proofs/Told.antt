-- What was read of files, as far as bytes are known, is their result where they are known.
use Rattle.std.proofs.Common.{◌≡◌, ℕ, suc, ◌+◌, ◌<◌, ◌≤◌, false, inl, inr, List, [], ◌∷◌, ◌++◌, length, take, drop, drop-cons, get_or, refl, sym, ap, ◌∙◌, subst, arith, nat_le}
use Rattle.std.specs.Prelude.{Option, Some, None, IfSome, IsSome, option_and_then, option_map, Result, Ok, Err, slice_index_or}
use Rattle.std.proofs.lemmas.List.{length-take, take_all, take-append-drop, take_more}
use Rattle.std.proofs.lemmas.Bool.Decides.{nat_tests}
use Rattle.std.proofs.lemmas.Bool.{le-leb}
use Rattle.kr_base.specs.Causes.{Rose}
use Rattle.kr_shard.specs.Shards.{shard_of}
use Rattle.kr_shard.specs.declared.shard.Shard.{Shard}
use Rattle.kr_shard.specs.Faults.{long_text, malformed_text}
use Rattle.kr_shard.specs.Files.{IsShardText, MOST_BYTES, ReadsShards, and_later, and_shard, judged, refused_as, shards_in}
use Rattle.kr_io.specs.Held.{Held}
use Rattle.kr_shard.specs.Found.{AllTold, AreShards, CountStays, HasRead, HasReadAll, IsShard, Judges, fault_text}
use Rattle.kr_shard.specs.declared.faults.FileFault.{FileFault}
use Rattle.kr_shard.specs.declared.faults.FileFault.TheVariants.{Long, Malformed, Overlap, Gap}
use Rattle.kr_shard.specs.declared.faults.MergeStop.{MergeStop}
use Rattle.kr_shard.specs.declared.faults.MergeStop.TheVariants.{Read, Refused, Memory}

-- ---- one read, of at most one byte more than is taken

whole_of : (n : ℕ) (all bytes : List ℕ) → bytes ≡ take (n + 1) all → length bytes ≤ n → all ≡ bytes
whole_of n all bytes e h =
    let short : length all ≤ n + 1 = omega (arith, ap length e, length-take (n + 1) all) in
    sym (e ∙ take_all (n + 1) all short)

long_of : (n : ℕ) (all bytes : List ℕ) → bytes ≡ take (n + 1) all → n < length bytes → n < length all
long_of n all bytes e h = omega (arith, ap length e, length-take (n + 1) all)

judged_whole : (file : ℕ) (all bytes : List ℕ) (r : Result Shard MergeStop) → bytes ≡ take 16777217 all → Judges file bytes r → Judges file all r
judged_whole file all bytes (Ok shard) e h = subst (IsShard shard) (sym (whole_of 16777216 all bytes e h.0)) h
judged_whole file all bytes (Err (Refused (Long n))) e h = (h.0, long_of 16777216 all bytes e h.1)
judged_whole file all bytes (Err (Refused (Malformed n line))) e h =
    let same = whole_of 16777216 all bytes e h.1 in
    (h.0, subst (λ (t : List ℕ). length t ≤ MOST_BYTES) (sym same) h.1, subst (λ (t : List ℕ). shard_of t ≡ Err line) (sym same) h.2)
judged_whole file all bytes (Err (Refused (Overlap n))) e h = absurd h
judged_whole file all bytes (Err (Refused (Gap to from))) e h = absurd h
judged_whole file all bytes (Err (Memory why)) e h = tt
judged_whole file all bytes (Err (Read n)) e h = absurd h

told_judged : (told : Option (List ℕ)) (file : ℕ) (bytes : List ℕ) (r : Result Shard MergeStop) → IfSome told (λ all. bytes ≡ take 16777217 all) → Judges file bytes r → IfSome told (λ all. Judges file all r)
told_judged None file bytes r e h = tt
told_judged (Some all) file bytes r e h = judged_whole file all bytes r e h

-- what is judged of the bytes that were read
pub has_read : {F : Type 0} (held : F → Held) (faults : F → ℕ) (last : F → Option (List ℕ)) (file : ℕ) (name : List ℕ) (files files' : F) (bytes : List ℕ) (r : Result Shard MergeStop)
    → IfSome (held files name) (λ all. bytes ≡ take 16777217 all) → Judges file bytes r → HasRead held faults last file name files files' r
has_read held faults last file name files files' bytes (Ok shard) e h = told_judged (held files name) file bytes (Ok shard) e h
has_read held faults last file name files files' bytes (Err (Refused fault)) e h = told_judged (held files name) file bytes (Err (Refused fault)) e h
has_read held faults last file name files files' bytes (Err (Memory why)) e h = tt
has_read held faults last file name files files' bytes (Err (Read n)) e h = absurd h

pub judged_stays : (before now file : ℕ) (bytes : List ℕ) (r : Result Shard MergeStop) → Judges file bytes r → now ≡ before → CountStays before now r
judged_stays before now file bytes (Ok shard) h e = e
judged_stays before now file bytes (Err (Refused fault)) h e = e
judged_stays before now file bytes (Err (Memory why)) h e = e
judged_stays before now file bytes (Err (Read n)) h e = absurd h

-- ---- what is judged

past_is : (a b : ℕ) → b < a → nat_le a b ≡ false
past_is a b h = grind (arith, nat_tests)

judged_short : (name bytes : List ℕ) → length bytes ≤ MOST_BYTES → judged name bytes ≡ refused_as name (shard_of bytes)
judged_short name bytes h = rw (le-leb (length bytes) MOST_BYTES h) refl

judged_long : (name bytes : List ℕ) → MOST_BYTES < length bytes → judged name bytes ≡ Err (long_text name)
judged_long name bytes h = rw (past_is (length bytes) MOST_BYTES h) refl

judged_shard : (name bytes : List ℕ) (shard : Shard) → IsShard shard bytes → judged name bytes ≡ Ok shard
judged_shard name bytes shard h = judged_short name bytes h.0 ∙ ap (refused_as name) h.1

judged_fault : (names : List (List ℕ)) (file : ℕ) (bytes : List ℕ) (fault : FileFault) → Judges file bytes (Err (Refused fault)) → judged (get_or names file []) bytes ≡ Err (fault_text names fault)
judged_fault names file bytes (Long n) h = judged_long (get_or names file []) bytes h.1 ∙ ap (λ (k : ℕ). Err (long_text (get_or names k []))) (sym h.0)
judged_fault names file bytes (Malformed n line) h =
    judged_short (get_or names file []) bytes h.1
    ∙ (ap (refused_as (get_or names file [])) h.2 ∙ ap (λ (k : ℕ). Err (malformed_text (get_or names k []) line)) (sym h.0))
judged_fault names file bytes (Overlap n) h = absurd h
judged_fault names file bytes (Gap to from) h = absurd h

told_fault : (told : Option (List ℕ)) (names : List (List ℕ)) (file : ℕ) (fault : FileFault) → IfSome told (λ bytes. Judges file bytes (Err (Refused fault)))
    → IfSome told (λ bytes. judged (get_or names file []) bytes ≡ Err (fault_text names fault))
told_fault None names file fault h = tt
told_fault (Some bytes) names file fault h = judged_fault names file bytes fault h

-- ---- files in order

told_text : (told : Option (List ℕ)) (shard : Shard) → IfSome told (IsShard shard) → IfSome told IsShardText
told_text None shard h = tt
told_text (Some bytes) shard h = (h.0, (shard, h.1))

-- a file is a shard, and others follow
and_then : (told : Option (List ℕ)) (name : List ℕ) (shard : Shard) (later : Option (Result (List Shard) (List ℕ))) → IsSome told → IfSome told (IsShard shard)
    → option_and_then (λ bytes. and_later (judged name bytes) later) told ≡ option_map (and_shard shard) later
and_then None name shard later s h = absurd (cc (s))
and_then (Some bytes) name shard later s h = ap (λ (r : Result Shard (List ℕ)). and_later r later) (judged_shard name bytes shard h)

-- a file is refused
stops_at : (told : Option (List ℕ)) (name line : List ℕ) (later : Option (Result (List Shard) (List ℕ))) → IsSome told → IfSome told (λ bytes. judged name bytes ≡ Err line)
    → option_and_then (λ bytes. and_later (judged name bytes) later) told ≡ Some (Err line)
stops_at None name line later s h = absurd (cc (s))
stops_at (Some bytes) name line later s h = ap (λ (r : Result Shard (List ℕ)). and_later r later) h

pub shards_whole : (held : Held) (names : List (List ℕ)) (shards : List Shard) → AreShards held names shards → AllTold held names → shards_in held names ≡ Some (Ok shards)
shards_whole held [] [] h told = refl
shards_whole held [] (s ∷ shards) h told = absurd h
shards_whole held (f ∷ names) [] h told = absurd h
shards_whole held (f ∷ names) (s ∷ shards) h told =
    and_then (held f) f s (shards_in held names) (told f (inl refl)) h.0
    ∙ ap (option_map (and_shard s)) (shards_whole held names shards h.1 (λ file r. told file (inr (told_text (held f) s h.0, r))))

refused_after : (held : Held) (front : List (List ℕ)) (name : List ℕ) (rest : List (List ℕ)) (shards : List Shard) (line : List ℕ)
    → AreShards held front shards → IfSome (held name) (λ bytes. judged name bytes ≡ Err line) → AllTold held (front ++ name ∷ rest) → shards_in held (front ++ name ∷ rest) ≡ Some (Err line)
refused_after held [] name rest [] line h e told = stops_at (held name) name line (shards_in held rest) (told name (inl refl)) e
refused_after held [] name rest (s ∷ shards) line h e told = absurd h
refused_after held (f ∷ front) name rest [] line h e told = absurd h
refused_after held (f ∷ front) name rest (s ∷ shards) line h e told =
    and_then (held f) f s (shards_in held (front ++ name ∷ rest)) (told f (inl refl)) h.0
    ∙ ap (option_map (and_shard s)) (refused_after held front name rest shards line h.1 e (λ file r. told file (inr (told_text (held f) s h.0, r))))

reads_after : (held : Held) (front : List (List ℕ)) (name : List ℕ) (rest : List (List ℕ)) (shards : List Shard) → AreShards held front shards → ReadsShards held (front ++ name ∷ rest) name
reads_after held [] name rest [] h = inl refl
reads_after held [] name rest (s ∷ shards) h = absurd h
reads_after held (f ∷ front) name rest [] h = absurd h
reads_after held (f ∷ front) name rest (s ∷ shards) h = inr (told_text (held f) s h.0, reads_after held front name rest shards h.1)

shards_more : (held : Held) (front : List (List ℕ)) (name : List ℕ) (shards : List Shard) (shard : Shard) → AreShards held front shards → IfSome (held name) (IsShard shard)
    → AreShards held (front ++ name ∷ []) (shards ++ shard ∷ [])
shards_more held [] name [] shard h e = (e, tt)
shards_more held [] name (s ∷ shards) shard h e = absurd h
shards_more held (f ∷ front) name [] shard h e = absurd h
shards_more held (f ∷ front) name (s ∷ shards) shard h e = (h.0, shards_more held front name shards shard h.1 e)

-- ---- the file of a number

split_at : {A : Type 0} (items : List A) (i : ℕ) (d : A) → i < length items → take i items ++ get_or items i d ∷ drop (suc i) items ≡ items
split_at items i d h = ap (λ rest. take i items ++ rest) (sym (drop-cons items i d h)) ∙ take-append-drop i items

pub shards_next : (held : Held) (names : List (List ℕ)) (i : ℕ) (shards : List Shard) (shard : Shard) → i < length names → AreShards held (take i names) shards
    → IfSome (held (slice_index_or names i [])) (IsShard shard) → AreShards held (take (i + 1) names) (shards ++ shard ∷ [])
shards_next held names i shards shard h e s =
    subst (λ all. AreShards held all (shards ++ shard ∷ [])) (sym (take_more names i [] h)) (shards_more held (take i names) (get_or names i []) shards shard e s)

reads_next : (held : Held) (names : List (List ℕ)) (i : ℕ) (shards : List Shard) → i < length names → AreShards held (take i names) shards → ReadsShards held names (slice_index_or names i [])
reads_next held names i shards h e =
    subst (λ all. ReadsShards held all (get_or names i [])) (split_at names i [] h) (reads_after held (take i names) (get_or names i []) (drop (suc i) names) shards e)

refused_at : (held : Held) (names : List (List ℕ)) (i : ℕ) (shards : List Shard) (fault : FileFault) → i < length names → AreShards held (take i names) shards
    → IfSome (held (get_or names i [])) (λ bytes. Judges i bytes (Err (Refused fault))) → AllTold held names → shards_in held names ≡ Some (Err (fault_text names fault))
refused_at held names i shards fault h e s told =
    let whole = split_at names i [] h in
    subst (λ all. shards_in held all ≡ Some (Err (fault_text names fault))) whole
    (refused_after held (take i names) (get_or names i []) (drop (suc i) names) shards (fault_text names fault) e (told_fault (held (get_or names i [])) names i fault s)
    (subst (AllTold held) (sym whole) told))

-- a file that isn't taken, after others
pub stopped_at : {F : Type 0} (held : F → Held) (faults : F → ℕ) (last : F → Option (List ℕ)) (names : List (List ℕ)) (i : ℕ) (files before after : F) (shards : List Shard) (stop : MergeStop)
    → i < length names → AreShards (held files) (take i names) shards → ((name : List ℕ) → held before name ≡ held files name) → faults before ≡ faults files
    → HasRead held faults last i (slice_index_or names i []) before after (Err stop) → HasReadAll held faults last names files after (Err stop)
stopped_at held faults last names i files before after shards (Refused fault) l e same count h = λ told.
    refused_at (held files) names i shards fault l e
    (subst (λ (t : Option (List ℕ)). IfSome t (λ bytes. Judges i bytes (Err (Refused fault)))) (same (get_or names i [])) h) told
stopped_at held faults last names i files before after shards (Memory why) l e same count h = tt
stopped_at held faults last names i files before after shards (Read n) l e same count h = record {
  read = subst (λ (k : ℕ). ReadsShards (held files) names (slice_index_or names k [])) (sym h.0) (reads_next (held files) names i shards l e);
  named = subst (λ (k : ℕ). last after ≡ Some (slice_index_or names k [])) (sym h.0) h.1;
  cause = subst (λ (n : ℕ). Rose n (faults after)) count h.2;
}
