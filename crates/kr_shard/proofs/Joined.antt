-- Shards that were read, put together, are what their files give.
use Rattle.std.proofs.Common.{◌≡◌, ℕ, ◌+◌, List, [], ◌∷◌, ◌++◌, map, refl, sym, ap, ap₂, ◌∙◌, arith}
use Rattle.std.specs.Prelude.{Option, Some, None, option_map, Result, Ok, Err, codes, decimal}
use Rattle.std.specs.List.{sum_by}
use Rattle.std.proofs.lemmas.List.Sums.{sum_by-cons}
use Rattle.kr_base.specs.Causes.{capped}
use Rattle.kr_report.specs.Reports.{Answer, line_answer}
use Rattle.kr_report.specs.Texts.{listed_text, spent_text}
use Rattle.kr_shard.specs.declared.shard.Shard.{Shard}
use Rattle.kr_shard.specs.Merging.{IsMerged, Merges, first_fault, in_order, numbered, through_spent, tried_in}
use Rattle.kr_shard.specs.Rows.{rows_of}
use Rattle.kr_shard.specs.Answers.{bytes_in as given_bytes, count_in as given_count, joined_answer, joined_by}
use Rattle.kr_shard.specs.declared.order.Given.{Given}
use Rattle.kr_shard.specs.declared.merging.Merged.{Merged}
use Rattle.kr_shard.specs.declared.merging.MergeRefusal.{MergeRefusal}
use Rattle.kr_shard.specs.Files.{OneMerge, answer_by, fault_line, joined_of, unless_fault}
use Rattle.kr_io.specs.Held.{Held}
use Rattle.kr_shard.specs.Found.{AreShards, CountStays, FindsMerged, HasReadAll, JoinsShards, bytes_in, count_in, merged_answer, merged_by}
use Rattle.kr_shard.specs.declared.faults.MergeStop.{MergeStop}
use Rattle.kr_shard.specs.declared.faults.MergeStop.TheVariants.{Read, Refused, Memory}
use Rattle.kr_shard.proofs.Told.{shards_whole}

-- ---- the answer, of rows

same_bytes : (gs : List Given) → map bytes_in (map rows_of gs) ≡ map given_bytes gs
same_bytes [] = refl
same_bytes (g ∷ gs) = ap (λ (l : List (List ℕ)). g.shard.rows.bytes ∷ l) (same_bytes gs)

same_count : (gs : List Given) → sum_by count_in (map rows_of gs) ≡ sum_by given_count gs
same_count [] = refl
same_count (g ∷ gs) =
    sum_by-cons count_in (rows_of g) (map rows_of gs) ∙ (ap (λ (n : ℕ). g.shard.rows.count + n) (same_count gs) ∙ sym (sum_by-cons given_count g gs))

capped_twice : (n : ℕ) → capped (capped n) ≡ capped n
capped_twice n = omega arith

listed_same : (c d t u : ℕ) → c ≡ d → capped t ≡ capped u → listed_text c t ≡ listed_text d u
listed_same c d t u p q =
    ap (λ (n : ℕ). codes "valid " ++ decimal (capped n) ++ codes " tried " ++ decimal (capped t) ++ codes "\n") p
    ∙ ap (λ (n : ℕ). codes "valid " ++ decimal (capped d) ++ codes " tried " ++ decimal n ++ codes "\n") q

same_by : (gs : List Given) (key : Option (List ℕ)) → joined_by gs key ≡ merged_by (map rows_of gs) (capped (sum_by tried_in gs)) key
same_by gs None =
    let last = listed_same (sum_by given_count gs) (sum_by count_in (map rows_of gs)) (sum_by tried_in gs) (capped (sum_by tried_in gs)) (sym (same_count gs)) (sym (capped_twice (sum_by tried_in gs))) in
    ap₂ (λ (rows : List (List ℕ)) (text : List ℕ). record { status = 0; rows = rows; last = text }) (sym (same_bytes gs)) last
same_by gs (Some key) = ap (λ (rows : List (List ℕ)). record { status = 5; rows = rows; last = spent_text key }) (sym (same_bytes gs))

joined_same : (ordered : List Given) (merged : Merged) → IsMerged ordered merged → joined_answer ordered ≡ merged_answer merged
unfolding joined_answer
joined_same ordered merged is = rw (is.rows, is.tried, is.spent) (same_by (through_spent ordered) _)

-- ---- shards together

pub joined_ok : (shards : List Shard) (merged : Merged) → Merges shards (Ok merged) → JoinsShards shards (Ok merged)
joined_ok shards merged h = λ names.
    let ordered = in_order (numbered 0 shards) in
    ap (λ (o : Option MergeRefusal). unless_fault names o (joined_answer ordered)) h.0 ∙ joined_same ordered merged h.1

pub joined_fault : (shards : List Shard) (fault : MergeRefusal) (names : List (List ℕ)) → first_fault (in_order (numbered 0 shards)) ≡ Some fault → joined_of names shards ≡ line_answer 9 (fault_line names fault)
joined_fault shards fault names h = ap (λ (o : Option MergeRefusal). unless_fault names o (joined_answer (in_order (numbered 0 shards)))) h

-- ---- files

pub found_by : {F : Type 0} (held : F → Held) (faults : F → ℕ) (last : F → Option (List ℕ)) (names : List (List ℕ)) (files after : F) (shards : List Shard) (r : Result Merged MergeStop)
    → AreShards (held files) names shards → JoinsShards shards r → FindsMerged held faults last names files after r
found_by held faults last names files after shards (Ok merged) e j = λ told.
    ap (option_map (answer_by names)) (shards_whole (held files) names shards e told) ∙ ap Some (j names)
found_by held faults last names files after shards (Err (Refused fault)) e j = λ told.
    ap (option_map (answer_by names)) (shards_whole (held files) names shards e told) ∙ ap Some (j names)
found_by held faults last names files after shards (Err (Memory why)) e j = tt
found_by held faults last names files after shards (Err (Read file)) e j = absurd j

pub joined_stays : (before now : ℕ) (shards : List Shard) (r : Result Merged MergeStop) → JoinsShards shards r → now ≡ before → CountStays before now r
joined_stays before now shards (Ok merged) j e = e
joined_stays before now shards (Err (Refused fault)) j e = e
joined_stays before now shards (Err (Memory why)) j e = e
joined_stays before now shards (Err (Read file)) j e = absurd j

pub stop_found : {F : Type 0} (held : F → Held) (faults : F → ℕ) (last : F → Option (List ℕ)) (names : List (List ℕ)) (files after : F) (stop : MergeStop)
    → HasReadAll held faults last names files after (Err stop) → FindsMerged held faults last names files after (Err stop)
stop_found held faults last names files after (Refused fault) h = λ told. ap (option_map (answer_by names)) (h told)
stop_found held faults last names files after (Memory why) h = tt
stop_found held faults last names files after (Read file) h = h

pub stop_stays : (X Y : Type 0) (before now : ℕ) (stop : MergeStop) → CountStays {X = X} before now (Err stop) → CountStays {X = Y} before now (Err stop)
stop_stays X Y before now (Refused fault) h = h
stop_stays X Y before now (Memory why) h = h
stop_stays X Y before now (Read file) h = tt

pub one_merge : OneMerge
one_merge held names one other a b = by_some (sym a ∙ b)
  where
    by_some : {x y : Answer} → Some x ≡ Some y → x ≡ y
    by_some e = cc (e)
