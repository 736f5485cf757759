-- Events of the caller alone at a board of the run.
use Rattle.std.proofs.Common.{◌≡◌, ℕ, ◌+◌, List, [], ◌∷◌, ◌++◌, Bool, true, false, ◌&&◌, length, refl, sym, ap, ◌∙◌, subst, arith, Option, Some, None}
use Rattle.std.specs.List.{sum_by}
use Rattle.std.specs.Prelude.{Result, Ok, Err, IfOk, OnOk, OnErr, if◌then◌else◌, ◌==◌}
use Rattle.std.proofs.lemmas.List.Sums.{sum_by-cons}
use Rattle.std.proofs.lemmas.Bool.{and_from, and_parts}
use Rattle.kr_core.specs.declared.event.Event.{Event}
use Rattle.kr_core.specs.declared.event.Event.TheVariants.{GiveUp}
use Rattle.kr_core.specs.declared.segment.Segment.{Segment}
use Rattle.kr_core.specs.Rows.{drains, drained}
use Rattle.kr_core.specs.States.{State, change}
use Rattle.kr_core.specs.Steps.{after, owned, replay}
use Rattle.kr_board.specs.Windows.{CountsFew}
use Rattle.kr_board.specs.Held.{Held}
use Rattle.kr_board.specs.Releasing.{IsReleased, given_up_by, given_up}
use Rattle.kr_pool_desk.specs.Draining.{rows_kept}
use Rattle.kr_pool_desk.specs.Limits.{KeepsWindow, may_begin, begins_within}
use Rattle.kr_pool_desk.proofs.Limits.{keeps_append}

within_append : (limit : Option ℕ) (d : ℕ) (xs ys : List Event) → begins_within limit d xs ≡ true → ((n : ℕ) → begins_within limit n ys ≡ true) → begins_within limit d (xs ++ ys) ≡ true
within_append limit d [] ys h k = k d
within_append limit d (x ∷ xs) ys h k =
    let p = and_parts (may_begin limit d x) (begins_within limit (d + drains x) xs) h in
    and_from (may_begin limit d x) (begins_within limit (d + drains x) (xs ++ ys)) p.0 (within_append limit (d + drains x) xs ys p.1 k)

by_owner : (limit : Option ℕ) (n : ℕ) (owner : Option ℕ) (d : ℕ) → begins_within limit d (given_up_by owner n) ≡ true
by_owner limit n None d = refl
by_owner limit n (Some seat) d = refl

all_given : (limit : Option ℕ) (segs : List Segment) (d : ℕ) → begins_within limit d (given_up segs) ≡ true
all_given limit [] d = refl
all_given limit (g ∷ gs) d = within_append limit d (given_up_by g.owner g.number) (given_up gs) (by_owner limit g.number g.owner d) (all_given limit gs)

-- leases given back begin nothing
pub released_within : {R : Type 0} (limit : Option ℕ) (old new : Held R) → IsReleased old new → begins_within limit 0 old.log ≡ true → begins_within limit 0 new.log ≡ true
released_within limit old new is h = ap (λ (l : List Event). begins_within limit 0 l) is.logged ∙ within_append limit 0 old.log (given_up old.core.segments) h (all_given limit old.core.segments)

-- by what a call gave: what it did, or nothing
pub by_result : {A B : Type 0} (P : Type 0) (Q : A → Type 0) (S E : Type 0) (r : Result A B) → IfOk r Q → OnOk r S → OnErr r E → ((x : A) → Q x → S → P) → (E → P) → P
by_result P Q S E (Ok x) q s e f h = f x q s
by_result P Q S E (Err y) q s e f h = h e

pub by_ok : {A B : Type 0} (P Q : A → Type 0) (r : Result A B) → IfOk r Q → ((x : A) → Q x → P x) → IfOk r P
by_ok P Q (Ok x) q f = f x q
by_ok P Q (Err y) q f = tt

-- leases given back leave the rows as they are

change_rows : (n : ℕ) (ss : List Segment) → sum_by (λ s. s.rows) (change n (λ s rest. owned None s ∷ rest) ss) ≡ sum_by (λ s. s.rows) ss
change_rows n [] = refl
change_rows n (s ∷ ss) =
    let before = sum_by-cons (λ (g : Segment). g.rows) s ss in
    elim (s.number == n) as (λ b. sum_by (λ g. g.rows) (if b then owned None s ∷ ss else s ∷ change n (λ g rest. owned None g ∷ rest) ss) ≡ sum_by (λ g. g.rows) (s ∷ ss)) [
      | true ↦ let a = sum_by-cons (λ (g : Segment). g.rows) (owned None s) ss in omega (arith, before, a)
      | false ↦ let a = sum_by-cons (λ (g : Segment). g.rows) s (change n (λ g rest. owned None g ∷ rest) ss) in let h = change_rows n ss in omega (arith, before, a, h)
    ]

given_few : (window : Option ℕ) (s : State) (seat n : ℕ) → CountsFew window s → CountsFew window (after s (GiveUp seat n))
given_few None s seat n h = tt
given_few (Some w) s seat n h = let a = change_rows n s.segments in omega (arith, a, h)

-- all these events are of seats that give up
abbrev AreGiven : List Event → Type 0
AreGiven [] = Unit {0}
AreGiven (e ∷ es) = ((seat : ℕ) × (n : ℕ) × (e ≡ GiveUp seat n)) × AreGiven es

given_append : (xs ys : List Event) → AreGiven xs → AreGiven ys → AreGiven (xs ++ ys)
given_append [] ys h k = k
given_append (x ∷ xs) ys h k = (h.0, given_append xs ys h.1 k)

given_by : (owner : Option ℕ) (n : ℕ) → AreGiven (given_up_by owner n)
given_by None n = tt
given_by (Some seat) n = ((seat, n, refl), tt)

given_all : (segs : List Segment) → AreGiven (given_up segs)
given_all [] = tt
given_all (g ∷ gs) = given_append (given_up_by g.owner g.number) (given_up gs) (given_by g.owner g.number) (given_all gs)

given_keep : (window : Option ℕ) (s : State) (events : List Event) → AreGiven events → CountsFew window s → KeepsWindow window s events
given_keep window s [] h few = tt
given_keep window s (e ∷ es) h few =
    let now : CountsFew window (after s e) = subst (λ (x : Event). CountsFew window (after s x)) (sym h.0.2) (given_few window s h.0.0 h.0.1 few) in
    (now, given_keep window (after s e) es h.1 now)

pub released_keeps : {R : Type 0} (window : Option ℕ) (first : State) (old new : Held R) → IsReleased old new → replay first old.log ≡ Some old.core → CountsFew window old.core → KeepsWindow window first old.log → KeepsWindow window first new.log
released_keeps {R} window first old new is replays few h =
    subst (λ (l : List Event). KeepsWindow window first l) (sym is.logged)
    (keeps_append window first old.core old.log (given_up old.core.segments) h replays (given_keep window old.core (given_up old.core.segments) (given_all old.core.segments) few))
