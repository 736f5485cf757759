-- What a seat is given fits, and what the answers say.
use Rattle.std.proofs.Common.{◌≡◌, ◌≢◌, ◌↔◌, ℕ, ◌-◌, ◌^◌, ◌<◌, ◌≤◌, List, [], ◌∷◌, Bool, true, false, ◌&&◌, not, ◌==◌, cond, refl, sym, ap, ◌∙◌, subst, arith, Option, Some, None}
use Rattle.std.specs.Prelude.{if◌then◌else◌, nat_lt, is_some, unwrap_or, ◌||◌}
use Rattle.std.specs.List.{find, list_any}
use Rattle.std.proofs.lemmas.Bool.Decides.{nat_tests}
use Rattle.std.proofs.lemmas.Bool.{eqb-true, lt-ltb, and_from, le-ltb}
use Rattle.kr_base.specs.declared.span.Bound.{Bound}
use Rattle.kr_base.specs.declared.span.Bound.TheVariants.{At, End}
use Rattle.kr_base.specs.Bounds.{less}
use Rattle.kr_base.proofs.Insides.{inside}
use Rattle.kr_core.specs.declared.segment.Segment.{Segment}
use Rattle.kr_core.specs.declared.event.Event.TheVariants.{Take, Steal, Look}
use Rattle.kr_core.specs.States.{State, has_remainder, is_owned, is_closed, segment_of, Each}
use Rattle.kr_core.specs.Steps.{fits, may_take, may_steal}
use Rattle.kr_core.specs.Kept.{NumbersDiffer, IsKept}
use Rattle.kr_core.specs.Counts.{AllClosed}
use Rattle.kr_core.specs.declared.event.Lease.{Lease}
use Rattle.kr_board.specs.declared.board.taking.Taken.{Taken}
use Rattle.kr_board.specs.declared.board.taking.Taken.TheVariants.{Lease as Leased, Later, Finished}
use Rattle.kr_board.specs.Taking.{is_free, inside_bound, theft_of, first_free, first_victim, grant, take_event, any_owned, IsLater}
use Rattle.kr_base.proofs.Bounds.{less_from_before}

not_here : (n : ℕ) (ss : List Segment) (g : Segment) (p : Segment → Bool) → Each (λ t. t.number ≢ n) ss → find p ss ≡ Some g → g.number ≢ n
not_here n [] g p h found = absurd (cc (found))
not_here n (s ∷ ss) g p h found =
    elim (p s) as (λ b. cond b (Some s) (find p ss) ≡ Some g → g.number ≢ n) [
      | true ↦ λ q. let same : s ≡ g = cc (q) in subst (λ (t : Segment). t.number ≢ n) same h.0
      | false ↦ λ q. not_here n ss g p h.1 q
    ] found

eqb-self : (a : ℕ) → (a == a) ≡ true
eqb-self a = grind (arith, nat_tests)

found-behind : (s : Segment) (ss : List Segment) (g : Segment) → g.number ≢ s.number → segment_of g.number ss ≡ Some g → segment_of g.number (s ∷ ss) ≡ Some g
found-behind s ss g other rest =
    elim (s.number == g.number) as (λ b. (s.number == g.number) ≡ b → cond b (Some s) (segment_of g.number ss) ≡ Some g) [
      | true ↦ λ e. absurd (other (sym (eqb-true s.number g.number e)))
      | false ↦ λ e. rest
    ] refl

-- the one found is the segment of its number
pub found_is : (p : Segment → Bool) (ss : List Segment) (g : Segment) → NumbersDiffer ss → find p ss ≡ Some g → segment_of g.number ss ≡ Some g
found_is p [] g d found = absurd (cc (found))
found_is p (s ∷ ss) g d found =
    elim (p s) as (λ b. cond b (Some s) (find p ss) ≡ Some g → segment_of g.number (s ∷ ss) ≡ Some g) [
      | true ↦ λ q. let same : s ≡ g = cc (q) in subst (λ (t : Segment). segment_of t.number (s ∷ ss) ≡ Some t) same (ap (λ (b : Bool). cond b (Some s) (segment_of s.number ss)) (eqb-self s.number))
      | false ↦ λ q. found-behind s ss g (not_here s.number ss g p d.0 q) (found_is p ss g d.1 q)
    ] found

pub found_passes : (p : Segment → Bool) (ss : List Segment) (g : Segment) → find p ss ≡ Some g → p g ≡ true
found_passes p [] g found = absurd (cc (found))
found_passes p (s ∷ ss) g found =
    elim (p s) as (λ b. p s ≡ b → cond b (Some s) (find p ss) ≡ Some g → p g ≡ true) [
      | true ↦ λ e q. let same : s ≡ g = cc (q) in subst (λ (t : Segment). p t ≡ true) same e
      | false ↦ λ e q. found_passes p ss g q
    ] refl found

pub free_fits : (s : State) (seat : ℕ) (g : Segment) → IsKept s → find is_free s.segments ≡ Some g → fits s (Take seat g.number) ≡ true
free_fits s seat g k found = ap may_take (found_is is_free s.segments g k.differ found) ∙ found_passes is_free s.segments g found

-- a theft is between the mark and the upto
theft-between : (mark upto : Bound) (cut : List ℕ) → inside_bound mark upto ≡ Some cut → (less mark (At cut) && less (At cut) upto) ≡ true
theft-between (At mark) upto cut h =
    let p = inside mark cut upto h in
    and_from (less (At mark) (At cut)) (less (At cut) upto) (less_from_before mark cut p.0) p.1
theft-between End upto cut h = absurd (cc (h))

theft-may : (g : Segment) (cut : List ℕ) → theft_of g ≡ Some cut → may_steal cut (Some g) ≡ true
theft-may g cut h =
    elim (is_owned g.owner) as (λ b. (if b then inside_bound g.mark g.upto else None) ≡ Some cut → (b && (less g.mark (At cut) && less (At cut) g.upto)) ≡ true) [
      | true ↦ λ q. theft-between g.mark g.upto cut q
      | false ↦ λ q. absurd (cc (q))
    ] h

pub next-below : (n : ℕ) → n < 2 ^ 64 - 1 → ((n == n) && nat_lt n (2 ^ 64 - 1)) ≡ true
next-below n h = and_from (n == n) (nat_lt n (2 ^ 64 - 1)) (eqb-self n) (grind (arith, nat_tests))

pub theft_fits : (s : State) (seat : ℕ) (g : Segment) (cut : List ℕ) → IsKept s → find (λ t. is_some (theft_of t)) s.segments ≡ Some g → theft_of g ≡ Some cut → s.next < 2 ^ 64 - 1
    → fits s (Steal seat g.number cut s.next) ≡ true
theft_fits s seat g cut k found theft room =
    and_from (may_steal cut (segment_of g.number s.segments)) _
    (ap (may_steal cut) (found_is (λ t. is_some (theft_of t)) s.segments g k.differ found) ∙ theft-may g cut theft) (next-below s.next room)

-- where none is free, all are closed exactly where none is owned

free-not_closed : (g : Segment) → is_free g ≡ true → is_closed g ≡ true → ⊥
free-not_closed g f c =
    elim (has_remainder g) as (λ b. (b && not (is_owned g.owner)) ≡ true → (not (is_owned g.owner) && not b) ≡ true → ⊥) [
      | true ↦ λ p q. elim (is_owned g.owner) as (λ o. (not o && false) ≡ true → ⊥) [ true ↦ λ r. cc (r) | false ↦ λ r. cc (r) ] q
      | false ↦ λ p q. cc (p)
    ] f c

pub free_open : (ss : List Segment) (g : Segment) → find is_free ss ≡ Some g → Each (λ t. is_closed t ≡ true) ss → ⊥
free_open [] g found h = cc (found)
free_open (s ∷ ss) g found h =
    elim (is_free s) as (λ b. is_free s ≡ b → cond b (Some s) (find is_free ss) ≡ Some g → ⊥) [
      | true ↦ λ e q. free-not_closed s e h.0
      | false ↦ λ e q. free_open ss g q h.1
    ] refl found

owned-not_closed : (s : Segment) → is_owned s.owner ≡ true → is_closed s ≡ true → ⊥
owned-not_closed s o c = cc (sym (ap (λ (b : Bool). not b && not (has_remainder s)) o) ∙ c)

pub owned_open : (ss : List Segment) → list_any (λ g. is_owned g.owner) ss ≡ true → Each (λ t. is_closed t ≡ true) ss → ⊥
owned_open [] o h = cc (o)
owned_open (s ∷ ss) o h =
    elim (is_owned s.owner) as (λ b. is_owned s.owner ≡ b → (b || list_any (λ g. is_owned g.owner) ss) ≡ true → ⊥) [
      | true ↦ λ e q. owned-not_closed s e h.0
      | false ↦ λ e q. owned_open ss q h.1
    ] refl o

closed-here : (s : Segment) → is_free s ≡ false → is_owned s.owner ≡ false → is_closed s ≡ true
closed-here s f o =
    elim (has_remainder s) as (λ b. (b && not (is_owned s.owner)) ≡ false → (not (is_owned s.owner) && not b) ≡ true) [
      | true ↦ λ p. absurd (cc (sym (ap not o) ∙ p))
      | false ↦ λ p. ap (λ (b : Bool). not b && true) o
    ] f

pub all_closed_there : (ss : List Segment) → find is_free ss ≡ None → list_any (λ g. is_owned g.owner) ss ≡ false → Each (λ t. is_closed t ≡ true) ss
all_closed_there [] f o = tt
all_closed_there (s ∷ ss) f o =
    elim (is_free s) as (λ b. is_free s ≡ b → cond b (Some s) (find is_free ss) ≡ None → Each (λ t. is_closed t ≡ true) (s ∷ ss)) [
      | true ↦ λ e q. absurd (cc (q))
      | false ↦ λ e q. elim (is_owned s.owner) as (λ b. is_owned s.owner ≡ b → (b || list_any (λ g. is_owned g.owner) ss) ≡ false → Each (λ t. is_closed t ≡ true) (s ∷ ss)) [
        | true ↦ λ p r. absurd (cc (r))
        | false ↦ λ p r. (closed-here s e p, all_closed_there ss q r)
      ] refl o
    ] refl f

-- which event it is

pub take_free : (s : State) (seat : ℕ) (g : Segment) → first_free s ≡ Some g → take_event seat s ≡ Take seat g.number
take_free s seat g h = ap (λ (o : Option Segment). grant seat s.next o (first_victim s)) h

victim-there : (s : State) (g : Segment) → s.next < 2 ^ 64 - 1 → find (λ t. is_some (theft_of t)) s.segments ≡ Some g → first_victim s ≡ Some g
victim-there s g room found = ap (λ (b : Bool). if b then find (λ t. is_some (theft_of t)) s.segments else None) (lt-ltb s.next (2 ^ 64 - 1) room) ∙ found

pub take_theft : (s : State) (seat : ℕ) (g : Segment) (cut : List ℕ) → first_free s ≡ None → s.next < 2 ^ 64 - 1 → find (λ t. is_some (theft_of t)) s.segments ≡ Some g → theft_of g ≡ Some cut
    → take_event seat s ≡ Steal seat g.number cut s.next
take_theft s seat g cut none room found theft =
    ap (λ (o : Option Segment). grant seat s.next o (first_victim s)) none
    ∙ (ap (λ (o : Option Segment). grant seat s.next None o) (victim-there s g room found) ∙ ap (λ (o : Option (List ℕ)). Steal seat g.number (unwrap_or o []) s.next) theft)

pub take_look : (s : State) (seat : ℕ) → first_free s ≡ None → first_victim s ≡ None → take_event seat s ≡ Look seat
take_look s seat none no_victim =
    ap (λ (o : Option Segment). grant seat s.next o (first_victim s)) none ∙ ap (λ (o : Option Segment). grant seat s.next None o) no_victim

pub no_victim_left : (s : State) → 2 ^ 64 - 1 ≤ s.next → first_victim s ≡ None
no_victim_left s h = ap (λ (b : Bool). if b then find (λ t. is_some (theft_of t)) s.segments else None) (le-ltb s.next (2 ^ 64 - 1) h)

pub no_victim_there : (s : State) → find (λ t. is_some (theft_of t)) s.segments ≡ None → first_victim s ≡ None
no_victim_there s h = elim (nat_lt s.next (2 ^ 64 - 1)) as (λ b. (if b then find (λ t. is_some (theft_of t)) s.segments else None) ≡ None) [ true ↦ h | false ↦ refl ]

-- what the answers say

theft-owned : (g : Segment) → is_some (theft_of g) ≡ true → is_owned g.owner ≡ true
theft-owned g h = elim (is_owned g.owner) as (λ b. is_some (if b then inside_bound g.mark g.upto else None) ≡ true → b ≡ true) [ true ↦ λ q. refl | false ↦ λ q. absurd (cc (q)) ] h

victim-owned : (ss : List Segment) (g : Segment) → find (λ t. is_some (theft_of t)) ss ≡ Some g → list_any (λ t. is_owned t.owner) ss ≡ true
victim-owned [] g h = absurd (cc (h))
victim-owned (s ∷ ss) g h =
    elim (is_some (theft_of s)) as (λ b. is_some (theft_of s) ≡ b → cond b (Some s) (find (λ t. is_some (theft_of t)) ss) ≡ Some g → (is_owned s.owner || list_any (λ t. is_owned t.owner) ss) ≡ true) [
      | true ↦ λ e q. ap (λ (b : Bool). b || list_any (λ t. is_owned t.owner) ss) (theft-owned s e)
      | false ↦ λ e q. elim (is_owned s.owner) as (λ b. (b || list_any (λ t. is_owned t.owner) ss) ≡ true) [ true ↦ refl | false ↦ victim-owned ss g q ]
    ] refl h

-- a lease is neither of the other answers
pub lease_of_free : (s : State) (g : Segment) (taken : Taken) (reply : Lease) → taken ≡ Leased reply → first_free s ≡ Some g → ((taken ≡ Later) ↔ IsLater s) × ((taken ≡ Finished) ↔ AllClosed s)
lease_of_free s g taken reply is found =
    ((λ q. absurd (cc (sym is ∙ q)), λ k. absurd (cc (sym found ∙ k.none_free))), (λ q. absurd (cc (sym is ∙ q)), λ k. absurd (free_open s.segments g found k)))

pub lease_of_theft : (s : State) (g : Segment) (taken : Taken) (reply : Lease) → taken ≡ Leased reply → s.next < 2 ^ 64 - 1 → find (λ t. is_some (theft_of t)) s.segments ≡ Some g
    → ((taken ≡ Later) ↔ IsLater s) × ((taken ≡ Finished) ↔ AllClosed s)
lease_of_theft s g taken reply is room found =
    ((λ q. absurd (cc (sym is ∙ q)), λ k. absurd (cc (sym (victim-there s g room found) ∙ k.no_victim))), (λ q. absurd (cc (sym is ∙ q)), λ k. absurd (owned_open s.segments (victim-owned s.segments g found) k)))

pub nothing_given : (s : State) (taken : Taken) → first_free s ≡ None → first_victim s ≡ None → taken ≡ (if any_owned s then Later else Finished) → ((taken ≡ Later) ↔ IsLater s) × ((taken ≡ Finished) ↔ AllClosed s)
nothing_given s taken none no_victim is =
    elim (any_owned s) as (λ b. any_owned s ≡ b → taken ≡ (if b then Later else Finished) → ((taken ≡ Later) ↔ IsLater s) × ((taken ≡ Finished) ↔ AllClosed s)) [
      | true ↦ λ o q. ((λ p. record { none_free = none; no_victim = no_victim; at_work = o }, λ k. q), (λ p. absurd (cc (sym q ∙ p)), λ k. absurd (owned_open s.segments o k)))
      | false ↦ λ o q. ((λ p. absurd (cc (sym q ∙ p)), λ k. absurd (cc (sym o ∙ k.at_work))), (λ p. all_closed_there s.segments none o, λ k. q))
    ] refl is
