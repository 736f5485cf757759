-- Leases that are given back.
use Rattle.std.proofs.Common.{◌≡◌, ℕ, ◌+◌, ◌<◌, ◌≤◌, List, [], ◌∷◌, Bool, true, false, ◌==◌, cond, refl, ap, ◌∙◌, arith, Option, Some, None, Vec, Global, vec_len, vec_capacity, Result, IsOk}
use Rattle.std.specs.Result.{is_ok}
use Rattle.std.proofs.lemmas.List.Sums.{sum_by-cons}
use Rattle.kr_core.specs.declared.segment.Segment.{Segment}
use Rattle.kr_core.specs.declared.event.Event.{Event}
use Rattle.kr_core.specs.declared.event.Event.TheVariants.{GiveUp}
use Rattle.kr_core.specs.declared.event.Reply.{Reply}
use Rattle.kr_core.specs.States.{State, is_owned, segment_of, change}
use Rattle.kr_core.specs.Steps.{Step, may_give_up, owned}
use Rattle.kr_core.proofs.Bools.{owner_known}
use Rattle.kr_board.specs.Rooms.{owned_count, IsSound}
use Rattle.kr_board.proofs.Sound.{moves}
use Rattle.kr_core.proofs.Places.{inserted}

abbrev counted : Segment → ℕ
counted s = cond (is_owned s.owner) 1 0

count-cons : (s : Segment) (ss : List Segment) → owned_count (s ∷ ss) ≡ counted s + owned_count ss
count-cons s ss = sum_by-cons (λ (t : Segment). cond (is_owned t.owner) 1 0) s ss

counted-owned : (s : Segment) → is_owned s.owner ≡ true → counted s ≡ 1
counted-owned s h = ap (λ (b : Bool). cond b 1 0) h

-- one owner less
one-less : (n : ℕ) (ss : List Segment) (g : Segment) → segment_of n ss ≡ Some g → is_owned g.owner ≡ true → owned_count (change n (λ s rest. owned None s ∷ rest) ss) + 1 ≡ owned_count ss
one-less n [] g found own = absurd (cc (found))
one-less n (s ∷ ss) g found own =
    elim (s.number == n) as (λ b. cond b (Some s) (segment_of n ss) ≡ Some g → owned_count (cond b (owned None s ∷ ss) (s ∷ change n (λ t rest. owned None t ∷ rest) ss)) + 1 ≡ owned_count (s ∷ ss)) [
      | true ↦ λ q.
          let same : s ≡ g = cc (q) in
          let a = count-cons (owned None s) ss in
          let b = count-cons s ss in
          let c = counted-owned s (ap (λ (t : Segment). is_owned t.owner) same ∙ own) in
          omega (arith, a, b, c)
      | false ↦ λ q.
          let a = count-cons s (change n (λ t rest. owned None t ∷ rest) ss) in
          let b = count-cons s ss in
          let c = one-less n ss g q own in
          omega (arith, a, b, c)
    ] found

less-at : (seat n : ℕ) (ss : List Segment) (o : Option Segment) → segment_of n ss ≡ o → may_give_up seat o ≡ true → owned_count (change n (λ s rest. owned None s ∷ rest) ss) + 1 ≡ owned_count ss
less-at seat n ss None found may = absurd (cc (may))
less-at seat n ss (Some g) found may = one-less n ss g found (owner_known seat g.owner may)

pub released_less : (old : State) (seat n : ℕ) (reply : Reply) (new : State) → Step old (GiveUp seat n) reply new → owned_count new.segments + 1 ≡ owned_count old.segments
released_less old seat n reply new step =
    let a : owned_count new.segments ≡ owned_count (change n (λ s rest. owned None s ∷ rest) old.segments) = ap (λ (s : State). owned_count s.segments) step.new_is in
    let b = less-at seat n old.segments (segment_of n old.segments) refl step.fit in
    omega (arith, a, b)

-- there was a place for it in the log
pub released_room : (old : State) (seat n : ℕ) (reply : Reply) (new : State) (log : Vec Event Global) → vec_len log + owned_count old.segments ≤ vec_capacity log → Step old (GiveUp seat n) reply new → vec_len log < vec_capacity log
released_room old seat n reply new log room step = let less = released_less old seat n reply new step in omega (arith, room, less)

pub released_sound : {R A E : Type 0} (core : State) (kept : List (List R)) (log more : Vec Event Global) (seat n : ℕ) (reply : Reply) (new : State) (r : Result A E) → IsSound core kept log → Step core (GiveUp seat n) reply new
    → vec_len more ≡ cond (is_ok r) (vec_len log + 1) (vec_len log) → (vec_len log < vec_capacity log → IsOk r) → vec_capacity log ≤ vec_capacity more → IsSound new kept more
released_sound {R} core kept log more seat n reply new r k step len succeeds cap =
    let less = released_less core seat n reply new step in
    let place = released_room core seat n reply new log k.room step in
    let longer : vec_len more ≡ vec_len log + 1 = inserted r (vec_len more) (vec_len log + 1) (vec_len log) len (succeeds place) in
    let none : List R = [] in
    let m = moves core kept log (GiveUp seat n) reply new none kept k step refl refl (omega arith) in
    let room = k.room in
    record { core_kept = m.core_kept; counted = m.counted; few = m.few; room = omega (arith, longer, less, room, cap) }
