-- Lists of vectors, and the edits of what is kept.
use Rattle.std.proofs.Common.{◌≡◌, ℕ, zero, suc, ◌+◌, ◌-◌, ◌<◌, ◌≤◌, List, [], ◌∷◌, ◌++◌, Bool, true, false, length, get_or, set, take, refl, sym, ap, ◌∙◌, subst, arith, cond, add-one, Vec, Global, vec_len, vec_capacity, ◌==◌, Option, Some, None}
use Rattle.std.specs.Prelude.{insert, if◌then◌else◌, ◌&&◌, nat_lt, ◌^◌}
use Rattle.kr_base.specs.declared.span.Bound.{Bound}
use Rattle.kr_survey.specs.Joins.{lists}
use Rattle.kr_core.specs.declared.segment.Segment.{Segment}
use Rattle.kr_core.specs.declared.event.Event.{Event}
use Rattle.kr_core.specs.declared.event.Event.TheVariants.{Take, Steal, Report, GiveUp, Drain, StopAt, Look}
use Rattle.kr_core.specs.States.{State, segment_of, place_of}
use Rattle.kr_core.specs.Steps.{fits, may_steal, may_report}
use Rattle.kr_core.specs.Beside.{grown, parted, first_alone, beside}
use Rattle.kr_core.proofs.Bools.{and-left}
use Rattle.kr_board.specs.declared.edits.Edit.{Edit}
use Rattle.kr_board.specs.declared.edits.Edit.TheVariants.{Insert, Append}
use Rattle.kr_board.specs.Edits.{added, edited, insert_behind, append_to, edit_of}
use Rattle.kr_board.specs.Rooms.{HasRoomAt, IsWithin, IsAdded}

pub length-lists : {R : Type 0} (ks : List (Vec R Global)) → length (lists ks) ≡ length ks
length-lists [] = refl
length-lists (k ∷ ks) = omega (arith, length-lists ks)

pub lists-take : {R : Type 0} (n : ℕ) (ks : List (Vec R Global)) → lists (take n ks) ≡ take n (lists ks)
lists-take zero ks = refl
lists-take (suc n) [] = refl
lists-take {R} (suc n) (k ∷ ks) = ap (λ (ls : List (List R)). k.items ∷ ls) (lists-take n ks)

pub lists-append : {R : Type 0} (ks ls : List (Vec R Global)) → lists (ks ++ ls) ≡ lists ks ++ lists ls
lists-append [] ls = refl
lists-append {R} (k ∷ ks) ls = ap (λ (xs : List (List R)). k.items ∷ xs) (lists-append ks ls)

pub lists-insert : {R : Type 0} (ks : List (Vec R Global)) (i : ℕ) (v : Vec R Global) → i ≤ length ks → lists (insert ks i v) ≡ insert (lists ks) i v.items
lists-insert [] zero v h = refl
lists-insert [] (suc i) v h = absurd (omega arith)
lists-insert (k ∷ ks) zero v h = refl
lists-insert {R} (k ∷ ks) (suc i) v h = ap (λ (ls : List (List R)). k.items ∷ ls) (lists-insert ks i v (omega (arith, h)))

pub lists_same : {R : Type 0} (ks : List (Vec R Global)) (i : ℕ) (v w : Vec R Global) → i < length ks → v ≡ get_or ks i v → w.items ≡ v.items → lists (set ks i w) ≡ lists ks
lists_same [] i v w h is same = absurd (omega arith)
lists_same {R} (k ∷ ks) zero v w h is same = ap (λ (l : List R). l ∷ lists ks) (same ∙ ap (λ (u : Vec R Global). u.items) is)
lists_same {R} (k ∷ ks) (suc i) v w h is same = ap (λ (ls : List (List R)). k.items ∷ ls) (lists_same ks i v w (omega (arith, h)) is same)

pub lists_added : {R : Type 0} (ks : List (Vec R Global)) (i : ℕ) (v w : Vec R Global) (rows : List R) → i < length ks → v ≡ get_or ks i v → w.items ≡ v.items ++ rows → lists (set ks i w) ≡ added i rows (lists ks)
lists_added [] i v w rows h is same = absurd (omega arith)
lists_added {R} (k ∷ ks) zero v w rows h is same = ap (λ (l : List R). l ∷ lists ks) (same ∙ ap (λ (u : Vec R Global). u.items ++ rows) is)
lists_added {R} (k ∷ ks) (suc i) v w rows h is same = ap (λ (ls : List (List R)). k.items ∷ ls) (lists_added ks i v w rows (omega (arith, h)) is same)

pub room_set : {R : Type 0} (ks : List (Vec R Global)) (i n : ℕ) (w : Vec R Global) → i < length ks → vec_len w + n ≤ vec_capacity w → HasRoomAt (set ks i w) i n
room_set [] i n w h r = absurd (omega arith)
room_set (k ∷ ks) zero n w h r = r
room_set (k ∷ ks) (suc i) n w h r = room_set ks i n w (omega (arith, h)) r

pub room_get : {R : Type 0} (ks : List (Vec R Global)) (i n : ℕ) (v : Vec R Global) → i < length ks → v ≡ get_or ks i v → HasRoomAt ks i n → vec_len v + n ≤ vec_capacity v
room_get [] i n v h is r = absurd (omega arith)
room_get {R} (k ∷ ks) zero n v h is r = subst (λ (u : Vec R Global). vec_len u + n ≤ vec_capacity u) (sym is) r
room_get (k ∷ ks) (suc i) n v h is r = room_get ks i n v (omega (arith, h)) is r

-- an event's edit is what it does to what is kept

place_found : (n : ℕ) (ss : List Segment) (g : Segment) → segment_of n ss ≡ Some g → place_of n ss < length ss
place_found n [] g h = absurd (cc (h))
place_found n (s ∷ ss) g h =
    elim (s.number == n) as (λ b. cond b (Some s) (segment_of n ss) ≡ Some g → cond b 0 (suc (place_of n ss)) < suc (length ss)) [
      | true ↦ λ q. omega arith
      | false ↦ λ q. let rest = place_found n ss g q in omega (arith, rest)
    ] h

added-grown : {R : Type 0} (n : ℕ) (rows : List R) (ends : Bool) (ss : List Segment) (ks : List (List R)) → length ks ≡ length ss → place_of n ss < length ss
    → (if ends then take (suc (place_of n ss)) (added (place_of n ss) rows ks) else added (place_of n ss) rows ks) ≡ grown (λ xs ys. xs ++ ys) n rows ends ss ks
added-grown n rows ends [] ks same h = absurd (omega arith)
added-grown n rows ends (s ∷ ss) [] same h = absurd (omega (arith, same))
added-grown {R} n rows ends (s ∷ ss) (k ∷ ks) same h =
    elim (s.number == n) as (λ b. cond b 0 (suc (place_of n ss)) < suc (length ss)
    → (if ends then take (suc (cond b 0 (suc (place_of n ss)))) (added (cond b 0 (suc (place_of n ss))) rows (k ∷ ks)) else added (cond b 0 (suc (place_of n ss))) rows (k ∷ ks))
    ≡ cond b ((k ++ rows) ∷ (if ends then [] else ks)) (k ∷ grown (λ xs ys. xs ++ ys) n rows ends ss ks)) [
      | true ↦ λ q. elim ends as (λ e. (if e then (k ++ rows) ∷ [] else (k ++ rows) ∷ ks) ≡ (k ++ rows) ∷ (if e then [] else ks)) [ true ↦ refl | false ↦ refl ]
      | false ↦ λ q.
          let rest = added-grown n rows ends ss ks (omega (arith, same)) (omega (arith, q)) in
          elim ends as (λ e. (if e then take (suc (place_of n ss)) (added (place_of n ss) rows ks) else added (place_of n ss) rows ks) ≡ grown (λ xs ys. xs ++ ys) n rows e ss ks
          → (if e then k ∷ take (suc (place_of n ss)) (added (place_of n ss) rows ks) else k ∷ added (place_of n ss) rows ks) ≡ k ∷ grown (λ xs ys. xs ++ ys) n rows e ss ks) [
            | true ↦ λ r. ap (λ (ls : List (List R)). k ∷ ls) r
            | false ↦ λ r. ap (λ (ls : List (List R)). k ∷ ls) r
          ] rest
    ] h

insert-parted : {R : Type 0} (n : ℕ) (ss : List Segment) (ks : List (List R)) → length ks ≡ length ss → place_of n ss < length ss → insert ks (suc (place_of n ss)) [] ≡ parted [] n ss ks
insert-parted n [] ks same h = absurd (omega arith)
insert-parted n (s ∷ ss) [] same h = absurd (omega (arith, same))
insert-parted {R} n (s ∷ ss) (k ∷ ks) same h =
    elim (s.number == n) as (λ b. cond b 0 (suc (place_of n ss)) < suc (length ss) → insert (k ∷ ks) (suc (cond b 0 (suc (place_of n ss)))) [] ≡ cond b (k ∷ ([] ∷ ks)) (k ∷ parted [] n ss ks)) [
      | true ↦ λ q. insert-first ks k
      | false ↦ λ q. ap (λ (ls : List (List R)). k ∷ ls) (insert-parted n ss ks (omega (arith, same)) (omega (arith, q)))
    ] h
  where
    insert-first : (xs : List (List R)) (x : List R) → insert (x ∷ xs) 1 [] ≡ x ∷ ([] ∷ xs)
    insert-first [] x = refl
    insert-first (y ∷ ys) x = refl

first-taken : {R : Type 0} (ks : List (List R)) → take 1 ks ≡ first_alone ks
first-taken [] = refl
first-taken (k ∷ ks) = refl

insert-behind : {R : Type 0} (victim : ℕ) (cut : List ℕ) (ss : List Segment) (o : Option Segment) (more : List R) (ks : List (List R)) → segment_of victim ss ≡ o → may_steal cut o ≡ true → length ks ≡ length ss
    → edited (insert_behind o (place_of victim ss)) more ks ≡ parted [] victim ss ks
insert-behind victim cut ss None more ks found may same = absurd (cc (may))
insert-behind {R} victim cut ss (Some g) more ks found may same =
    let one : place_of victim ss + 1 ≡ suc (place_of victim ss) = add-one (place_of victim ss) in
    ap (λ (i : ℕ). insert ks i []) one ∙ insert-parted victim ss ks same (place_found victim ss g found)

append-to : {R : Type 0} (seat n : ℕ) (ss : List Segment) (o : Option Segment) (reach : Bound) (rows tried : ℕ) (spent : Bool) (more : List R) (ks : List (List R)) → segment_of n ss ≡ o → may_report seat reach rows tried spent o ≡ true → length ks ≡ length ss
    → edited (append_to o (place_of n ss) spent) more ks ≡ grown (λ xs ys. xs ++ ys) n more spent ss ks
append-to seat n ss None reach rows tried spent more ks found may same = absurd (cc (may))
append-to {R} seat n ss (Some g) reach rows tried spent more ks found may same =
    let one : place_of n ss + 1 ≡ suc (place_of n ss) = add-one (place_of n ss) in
    ap (λ (i : ℕ). if spent then take i (added (place_of n ss) more ks) else added (place_of n ss) more ks) one ∙ added-grown n more spent ss ks same (place_found n ss g found)

pub edit-beside : {R : Type 0} (s : State) (event : Event) (more : List R) (ks : List (List R)) → length ks ≡ length s.segments → fits s event ≡ true → IsAdded event
    → edited (edit_of s.segments event) more ks ≡ beside (λ xs ys. xs ++ ys) [] s event more ks
edit-beside s (Take seat n) more ks same fit kind = refl
edit-beside s (Steal seat victim cut n) more ks same fit kind =
    insert-behind victim cut s.segments (segment_of victim s.segments) more ks refl (and-left (may_steal cut (segment_of victim s.segments)) ((n == s.next) && nat_lt n (2 ^ 64 - 1)) fit) same
edit-beside s (Report seat n reach rows tried spent) more ks same fit kind =
    append-to seat n s.segments (segment_of n s.segments) reach rows tried spent more ks refl fit same
edit-beside s (GiveUp seat n) more ks same fit kind = absurd kind
edit-beside s (Drain rows) more ks same fit kind = absurd kind
edit-beside s (StopAt cut) more ks same fit kind = first-taken ks
edit-beside s (Look seat) more ks same fit kind = refl

within-behind : (victim : ℕ) (ss : List Segment) (o : Option Segment) → segment_of victim ss ≡ o → IsWithin (insert_behind o (place_of victim ss)) (length ss)
within-behind victim ss None found = tt
within-behind victim ss (Some g) found = place_found victim ss g found

within-append : (n : ℕ) (ss : List Segment) (ends : Bool) (o : Option Segment) → segment_of n ss ≡ o → IsWithin (append_to o (place_of n ss) ends) (length ss)
within-append n ss ends None found = tt
within-append n ss ends (Some g) found = place_found n ss g found

pub edit-within : (ss : List Segment) (event : Event) → IsWithin (edit_of ss event) (length ss)
edit-within ss (Take seat n) = tt
edit-within ss (Steal seat victim cut n) = within-behind victim ss (segment_of victim ss) refl
edit-within ss (Report seat n reach rows tried spent) = within-append n ss spent (segment_of n ss) refl
edit-within ss (GiveUp seat n) = tt
edit-within ss (Drain rows) = tt
edit-within ss (StopAt cut) = tt
edit-within ss (Look seat) = tt

-- a place that is in use is of a segment

found_there : (n : ℕ) (ss : List Segment) → place_of n ss < length ss → (g : Segment) × (segment_of n ss ≡ Some g)
found_there n [] h = absurd (omega arith)
found_there n (s ∷ ss) h =
    elim (s.number == n) as (λ b. cond b 0 (suc (place_of n ss)) < suc (length ss) → (g : Segment) × (cond b (Some s) (segment_of n ss) ≡ Some g)) [
      | true ↦ λ q. (s, refl)
      | false ↦ λ q. found_there n ss (omega (arith, q))
    ] h

pub behind_there : (n i : ℕ) (ss : List Segment) → i ≡ place_of n ss → i < length ss → Insert i ≡ insert_behind (segment_of n ss) (place_of n ss)
behind_there n i ss at within =
    let f = found_there n ss (omega (arith, at, within)) in
    ap Insert at ∙ ap (λ (o : Option Segment). insert_behind o (place_of n ss)) (sym f.1)

pub append_there : (n i : ℕ) (ends : Bool) (ss : List Segment) → i ≡ place_of n ss → i < length ss → Append i ends ≡ append_to (segment_of n ss) (place_of n ss) ends
append_there n i ends ss at within =
    let f = found_there n ss (omega (arith, at, within)) in
    ap (λ (k : ℕ). Append k ends) at ∙ ap (λ (o : Option Segment). append_to o (place_of n ss) ends) (sym f.1)

added_length : {R : Type 0} (i : ℕ) (rows : List R) (ks : List (List R)) → length (added i rows ks) ≡ length ks
added_length i rows [] = refl
added_length zero rows (k ∷ ks) = refl
added_length (suc i) rows (k ∷ ks) = let h = added_length i rows ks in omega (arith, h)

pub added_within : {R : Type 0} (old new : List (Vec R Global)) (i : ℕ) (rows : List R) → lists new ≡ added i rows (lists old) → i < length old → i < length new
added_within {R} old new i rows h within =
    let a = length-lists new in
    let b = length-lists old in
    let c = added_length i rows (lists old) in
    let d = ap (λ (ls : List (List R)). length ls) h in
    omega (arith, a, b, c, d, within)

pub place_within : (edit : Edit) (i : ℕ) (ends : Bool) (n : ℕ) → edit ≡ Append i ends → IsWithin edit n → i < n
place_within edit i ends n is h = subst (λ (e : Edit). IsWithin e n) is h

pub edited_end : {R : Type 0} (edit : Edit) (i : ℕ) (ends : Bool) (rows : List R) (old mid new : List (Vec R Global)) → edit ≡ Append i ends → ends ≡ true → lists mid ≡ added i rows (lists old) → new ≡ take (i + 1) mid
    → lists new ≡ edited edit rows (lists old)
edited_end {R} edit i ends rows old mid new is end added_is cut =
    ap lists cut ∙ (lists-take (i + 1) mid ∙ (ap (λ (ls : List (List R)). take (i + 1) ls) added_is
    ∙ sym (ap (λ (e : Edit). edited e rows (lists old)) is ∙ ap (λ (b : Bool). if b then take (i + 1) (added i rows (lists old)) else added i rows (lists old)) end)))
