-- What every board keeps, through each event.
use Rattle.std.proofs.Common.{◌≡◌, ℕ, suc, ◌+◌, ◌-◌, ◌^◌, ◌≤◌, List, [], ◌∷◌, ◌++◌, Bool, true, false, length, refl, sym, ap, ◌∙◌, subst, arith, cond, ◌==◌, Vec, Global, vec_len, vec_capacity, length-append}
use Rattle.std.specs.Prelude.{map, if◌then◌else◌}
use Rattle.std.proofs.lemmas.List.Sums.{count_by-le-length}
use Rattle.kr_survey.specs.Joins.{joined}
use Rattle.kr_core.specs.declared.segment.Segment.{Segment}
use Rattle.kr_core.specs.declared.event.Event.{Event}
use Rattle.kr_core.specs.declared.event.Event.TheVariants.{Take, Steal, Report, GiveUp, Drain, StopAt, Look}
use Rattle.kr_core.specs.declared.event.Reply.{Reply}
use Rattle.kr_base.specs.Causes.{capped}
use Rattle.kr_core.specs.States.{State, is_owned, is_closed, change}
use Rattle.kr_core.specs.Steps.{Step, after, scanned, left, stopped}
use Rattle.kr_core.specs.Kept.{IsKept}
use Rattle.kr_core.specs.Rows.{brought}
use Rattle.kr_core.specs.Beside.{grown, parted, emptied, first_alone, beside}
use Rattle.kr_core.proofs.Rowing.{plus, rows_in, rows-beside}
use Rattle.kr_core.proofs.Keeping.{step_keeps}
use Rattle.kr_board.specs.Rooms.{owned_count, IsSound}

-- the number of rows in a list, as far as it is counted
abbrev pub size : {R : Type 0} → List R → ℕ
size l = capped (length l)

abbrev pub sizes : {R : Type 0} → List (List R) → List ℕ
sizes ks = map (λ l. capped (length l)) ks

abbrev pub join : {R : Type 0} → List R → List R → List R
join xs ys = xs ++ ys

size-append : {R : Type 0} (k r : List R) → size (k ++ r) ≡ plus (size k) (size r)
size-append k r = let h = length-append k r in omega (arith, h)

-- sizes move as what is beside the segments

sizes-end : {R : Type 0} (ends : Bool) (ks : List (List R)) → sizes (if ends then [] else ks) ≡ (if ends then [] else sizes ks)
sizes-end true ks = refl
sizes-end false ks = refl

sizes-grown : {R : Type 0} (n : ℕ) (more : List R) (ends : Bool) (ss : List Segment) (ks : List (List R)) → sizes (grown join n more ends ss ks) ≡ grown plus n (size more) ends ss (sizes ks)
sizes-grown n more ends [] ks = refl
sizes-grown n more ends (s ∷ ss) [] = refl
sizes-grown {R} n more ends (s ∷ ss) (k ∷ ks) =
    elim (s.number == n) as (λ b. sizes (cond b ((k ++ more) ∷ (if ends then [] else ks)) (k ∷ grown join n more ends ss ks)) ≡ cond b (plus (size k) (size more) ∷ (if ends then [] else sizes ks)) (size k ∷ grown plus n (size more) ends ss (sizes ks))) [
      | true ↦ ap (λ (m : ℕ). m ∷ sizes (if ends then [] else ks)) (size-append k more) ∙ ap (λ (ms : List ℕ). plus (size k) (size more) ∷ ms) (sizes-end ends ks)
      | false ↦ ap (λ (ms : List ℕ). size k ∷ ms) (sizes-grown n more ends ss ks)
    ]

sizes-parted : {R : Type 0} (n : ℕ) (ss : List Segment) (ks : List (List R)) → sizes (parted [] n ss ks) ≡ parted 0 n ss (sizes ks)
sizes-parted n [] ks = refl
sizes-parted n (s ∷ ss) [] = refl
sizes-parted {R} n (s ∷ ss) (k ∷ ks) =
    elim (s.number == n) as (λ b. sizes (cond b (k ∷ ([] ∷ ks)) (k ∷ parted [] n ss ks)) ≡ cond b (size k ∷ (0 ∷ sizes ks)) (size k ∷ parted 0 n ss (sizes ks))) [
      | true ↦ refl
      | false ↦ ap (λ (ms : List ℕ). size k ∷ ms) (sizes-parted n ss ks)
    ]

sizes-emptied : {R : Type 0} (ss : List Segment) (ks : List (List R)) → sizes (emptied [] ss ks) ≡ emptied 0 ss (sizes ks)
sizes-emptied [] ks = refl
sizes-emptied (s ∷ ss) [] = refl
sizes-emptied (s ∷ []) (k ∷ ks) = refl
sizes-emptied {R} (s ∷ t ∷ ss) (k ∷ ks) =
    elim (is_closed s) as (λ b. sizes (cond b (emptied [] (t ∷ ss) ks) ([] ∷ ks)) ≡ cond b (emptied 0 (t ∷ ss) (sizes ks)) (0 ∷ sizes ks)) [ true ↦ sizes-emptied (t ∷ ss) ks | false ↦ refl ]

sizes-first : {R : Type 0} (ks : List (List R)) → sizes (first_alone ks) ≡ first_alone (sizes ks)
sizes-first [] = refl
sizes-first (k ∷ ks) = refl

sizes-beside : {R : Type 0} (s : State) (event : Event) (more : List R) (ks : List (List R)) → sizes (beside join [] s event more ks) ≡ beside plus 0 s event (size more) (sizes ks)
sizes-beside s (Take seat n) more ks = refl
sizes-beside s (Steal seat victim cut n) more ks = sizes-parted victim s.segments ks
sizes-beside s (Report seat n reach rows tried spent) more ks = sizes-grown n more spent s.segments ks
sizes-beside s (GiveUp seat n) more ks = refl
sizes-beside s (Drain rows) more ks = sizes-emptied s.segments ks
sizes-beside s (StopAt cut) more ks = sizes-first ks
sizes-beside s (Look seat) more ks = refl

-- no event but a report adds to the rows kept

pub total-end : {R : Type 0} (ends : Bool) (ks : List (List R)) → length (joined (if ends then [] else ks)) ≤ length (joined ks)
total-end true ks = omega arith
total-end false ks = omega arith

pub total-grown : {R : Type 0} (n : ℕ) (more : List R) (ends : Bool) (ss : List Segment) (ks : List (List R)) → length (joined (grown join n more ends ss ks)) ≤ length (joined ks) + length more
total-grown n more ends [] ks = omega arith
total-grown n more ends (s ∷ ss) [] = omega arith
total-grown {R} n more ends (s ∷ ss) (k ∷ ks) =
    elim (s.number == n) as (λ b. length (joined (cond b ((k ++ more) ∷ (if ends then [] else ks)) (k ∷ grown join n more ends ss ks))) ≤ length (k ++ joined ks) + length more) [
      | true ↦
          let a = length-append (k ++ more) (joined (if ends then [] else ks)) in
          let b = length-append k more in
          let c = length-append k (joined ks) in
          let d = total-end ends ks in
          omega (arith, a, b, c, d)
      | false ↦
          let a = length-append k (joined (grown join n more ends ss ks)) in
          let c = length-append k (joined ks) in
          let d = total-grown n more ends ss ks in
          omega (arith, a, c, d)
    ]

pub total-parted : {R : Type 0} (n : ℕ) (ss : List Segment) (ks : List (List R)) → length (joined (parted [] n ss ks)) ≤ length (joined ks)
total-parted n [] ks = omega arith
total-parted n (s ∷ ss) [] = omega arith
total-parted {R} n (s ∷ ss) (k ∷ ks) =
    elim (s.number == n) as (λ b. length (joined (cond b (k ∷ ([] ∷ ks)) (k ∷ parted [] n ss ks))) ≤ length (k ++ joined ks)) [
      | true ↦ omega arith
      | false ↦
          let a = length-append k (joined (parted [] n ss ks)) in
          let c = length-append k (joined ks) in
          let d = total-parted n ss ks in
          omega (arith, a, c, d)
    ]

pub total-emptied : {R : Type 0} (ss : List Segment) (ks : List (List R)) → length (joined (emptied [] ss ks)) ≤ length (joined ks)
total-emptied [] ks = omega arith
total-emptied (s ∷ ss) [] = omega arith
total-emptied (s ∷ []) (k ∷ ks) = omega arith
total-emptied {R} (s ∷ t ∷ ss) (k ∷ ks) =
    elim (is_closed s) as (λ b. length (joined (cond b (emptied [] (t ∷ ss) ks) ([] ∷ ks))) ≤ length (k ++ joined ks)) [
      | true ↦ let a = length-append k (joined ks) in let d = total-emptied (t ∷ ss) ks in omega (arith, a, d)
      | false ↦ let a = length-append k (joined ks) in omega (arith, a)
    ]

pub total-first : {R : Type 0} (ks : List (List R)) → length (joined (first_alone ks)) ≤ length (joined ks)
total-first [] = omega arith
total-first {R} (k ∷ ks) =
    let a = length-append k (joined ks) in
    let none : List R = [] in
    let b = length-append k none in
    omega (arith, a, b)

total-beside : {R : Type 0} (s : State) (event : Event) (more : List R) (ks : List (List R)) → length (joined (beside join [] s event more ks)) ≤ length (joined ks) + length more
total-beside s (Take seat n) more ks = omega arith
total-beside s (Steal seat victim cut n) more ks = let h = total-parted victim s.segments ks in omega (arith, h)
total-beside s (Report seat n reach rows tried spent) more ks = total-grown n more spent s.segments ks
total-beside s (GiveUp seat n) more ks = omega arith
total-beside s (Drain rows) more ks = let h = total-emptied s.segments ks in omega (arith, h)
total-beside s (StopAt cut) more ks = let h = total-first ks in omega (arith, h)
total-beside s (Look seat) more ks = omega arith

-- an event adds one segment at most

change-length : (n : ℕ) (f : Segment → List Segment → List Segment) (ss : List Segment) → ((s : Segment) (rest : List Segment) → length (f s rest) ≤ length rest + 2) → length (change n f ss) ≤ length ss + 1
change-length n f [] h = omega arith
change-length n f (s ∷ ss) h =
    elim (s.number == n) as (λ b. length (cond b (f s ss) (s ∷ change n f ss)) ≤ suc (length ss) + 1) [
      | true ↦ let p = h s ss in omega (arith, p)
      | false ↦ let p = change-length n f ss h in omega (arith, p)
    ]

end-length : (ends : Bool) (s : Segment) (ss : List Segment) → length (s ∷ (if ends then [] else ss)) ≤ length ss + 2
end-length true s ss = omega arith
end-length false s ss = omega arith

left-length : (ss : List Segment) → length (left ss) ≤ length ss
left-length [] = omega arith
left-length (s ∷ []) = omega arith
left-length (s ∷ t ∷ ss) =
    elim (is_closed s) as (λ b. length (cond b (left (t ∷ ss)) (record s { rows = 0 } ∷ (t ∷ ss))) ≤ suc (suc (length ss))) [ true ↦ let p = left-length (t ∷ ss) in omega (arith, p) | false ↦ omega arith ]

stopped-length : (cut : List ℕ) (ss : List Segment) → length (stopped cut ss) ≤ length ss
stopped-length cut [] = omega arith
stopped-length cut (s ∷ ss) = omega arith

after-length : (s : State) (event : Event) → length (after s event).segments ≤ length s.segments + 1
after-length s (Take seat n) = change-length n _ s.segments (λ t rest. omega arith)
after-length s (Steal seat victim cut n) = change-length victim _ s.segments (λ t rest. omega arith)
after-length s (Report seat n reach rows tried spent) = change-length n _ s.segments (λ t rest. end-length spent (scanned reach rows tried spent t) rest)
after-length s (GiveUp seat n) = change-length n _ s.segments (λ t rest. omega arith)
after-length s (Drain rows) = let h = left-length s.segments in omega (arith, h)
after-length s (StopAt cut) = let h = stopped-length cut s.segments in omega (arith, h)
after-length s (Look seat) = omega arith

owned-few : (ss : List Segment) → owned_count ss ≤ length ss
owned-few ss = count_by-le-length (λ (s : Segment). is_owned s.owner) ss

-- each segment has its list

map-length : {A B : Type 0} (f : A → B) (xs : List A) → length (map f xs) ≡ length xs
map-length f [] = refl
map-length f (x ∷ xs) = let h = map-length f xs in omega (arith, h)

pub aligned : {R : Type 0} (core : State) (kept : List (List R)) (log : Vec Event Global) → IsSound core kept log → length kept ≡ length core.segments
aligned {R} core kept log k =
    let a = map-length (λ (s : Segment). s.rows) core.segments in
    let b = map-length (λ (l : List R). capped (length l)) kept in
    omega (arith, a, b, ap length k.counted)

-- an event, but for the room
pub record Moves {R : Type 0} (core : State) (kept : List (List R)) : Type 0 where
  pub core_kept : IsKept core
  pub counted : rows_in core.segments ≡ sizes kept
  pub few : length (joined kept) ≤ 2 ^ 64 - 1

pub moves : {R : Type 0} (core : State) (kept : List (List R)) (log : Vec Event Global) (event : Event) (reply : Reply) (new : State) (more : List R) (now : List (List R)) → IsSound core kept log → Step core event reply new
    → now ≡ beside join [] core event more kept → brought event ≡ length more → length more ≤ (2 ^ 64 - 1) - length (joined kept) → Moves new now
moves {R} core kept log event reply new more now k step is brings few =
    let kf = k.few in
    let one : brought event ≡ size more = omega (arith, brings, few) in
    let there : rows_in new.segments ≡ beside plus 0 core event (size more) (sizes kept) =
    ap (λ (s : State). rows_in s.segments) step.new_is ∙ (rows-beside core event ∙ (ap (λ (m : ℕ). beside plus 0 core event m (rows_in core.segments)) one ∙ ap (λ (ms : List ℕ). beside plus 0 core event (size more) ms) k.counted)) in
    let total = total-beside core event more kept in
    record {
      core_kept = step_keeps core event reply new step k.core_kept;
      counted = there ∙ (sym (sizes-beside core event more kept) ∙ ap (λ (ks : List (List R)). sizes ks) (sym is));
      few = subst (λ (ks : List (List R)). length (joined ks) ≤ 2 ^ 64 - 1) (sym is) (omega (arith, total, few, kf));
    }

-- with the room that was made before
pub sound-moved : {R : Type 0} (core : State) (event : Event) (reply : Reply) (new : State) (now : List (List R)) (log : Vec Event Global) (before : ℕ) → Step core event reply new → Moves new now
    → vec_len log ≡ before + 1 → before + (length core.segments + 2) ≤ vec_capacity log → IsSound new now log
sound-moved core event reply new now log before step m len room =
    let a = owned-few new.segments in
    let b = after-length core event in
    let c : length new.segments ≡ length (after core event).segments = ap (λ (s : State). length s.segments) step.new_is in
    record { core_kept = m.core_kept; counted = m.counted; few = m.few; room = omega (arith, a, b, c, len, room) }
