-- Rows that are wanted, and logs that begin nothing past the limit.
use Rattle.std.proofs.Common.{◌≡◌, ℕ, ◌+◌, ◌-◌, ◌<◌, ◌≤◌, List, [], ◌∷◌, ◌++◌, Bool, true, false, ◌&&◌, not, refl, sym, ap, ◌∙◌, subst, arith, Option, Some, None}
use Rattle.std.specs.Prelude.{if◌then◌else◌, nat_lt, is_none, length}
use Rattle.std.proofs.lemmas.Bool.{and_from, and_parts, lt-ltb}
use Rattle.std.proofs.lemmas.Bool.Decides.{nat_tests}
use Rattle.kr_survey.specs.declared.part.Part.{Part}
use Rattle.kr_core.specs.declared.event.Event.{Event}
use Rattle.kr_core.specs.declared.event.Event.TheVariants.{Report, Look}
use Rattle.kr_core.specs.declared.event.Lease.{Lease}
use Rattle.kr_core.specs.Rows.{drains, drained}
use Rattle.kr_core.specs.declared.event.Reply.{Reply}
use Rattle.kr_core.specs.States.{State}
use Rattle.kr_core.specs.Steps.{after, fits, replay}
use Rattle.kr_board.specs.Boards.{Adds}
use Rattle.kr_board.specs.Windows.{CountsFew}
use Rattle.kr_board.specs.Held.{Held}
use Rattle.kr_board.specs.Reporting.{refusal, report_event}
use Rattle.kr_survey.specs.Takings.{is_past}
use Rattle.kr_pool_desk.specs.Limits.{KeepsWindow, IsWanted, begins, may_begin, begins_within}
use Rattle.kr_pool_desk.specs.declared.wanted.Wanted.{Wanted}
use Rattle.kr_pool_desk.proofs.Growing.{same-drained}

pub wanted_first : (n : ℕ) → Some n ≡ Some (0 + n)
wanted_first n = ap (λ (m : ℕ). Some m) (omega arith)

pub wanted_less : (limit : Option ℕ) (d n rows : ℕ) → limit ≡ Some (d + n) → rows ≤ n → limit ≡ Some (d + rows + (n - rows))
wanted_less limit d n rows h k = h ∙ ap (λ (m : ℕ). Some m) (omega (arith, k))

pub wanted_past : (limit : Option ℕ) (d n rows : ℕ) → limit ≡ Some (d + n) → n < rows → is_past limit (d + rows) ≡ true
wanted_past limit d n rows h k = ap (λ (o : Option ℕ). is_past o (d + rows)) h ∙ lt-ltb (d + n) (d + rows) (omega (arith, k))

past-more : (a b c : ℕ) → nat_lt a b ≡ true → nat_lt a (b + c) ≡ true
past-more a b c h = grind (arith, nat_tests)

pub past_more : (limit : Option ℕ) (d rows : ℕ) → is_past limit d ≡ true → is_past limit (d + rows) ≡ true
past_more None d rows h = absurd (cc (h))
past_more (Some n) d rows h = past-more n d rows h

within-test : (a b : ℕ) → nat_lt (a + b) a ≡ false
within-test a b = grind (arith, nat_tests)

pub not_past : (limit : Option ℕ) (d n : ℕ) → limit ≡ Some (d + n) → false ≡ is_past limit d
not_past limit d n h = sym (ap (λ (o : Option ℕ). is_past o d) h ∙ within-test d n)

-- one event more

pub within_more : (limit : Option ℕ) (d : ℕ) (xs : List Event) (e : Event) → begins_within limit d xs ≡ true → may_begin limit (d + drained xs) e ≡ true → begins_within limit d (xs ++ e ∷ []) ≡ true
within_more limit d [] e h k = and_from (may_begin limit d e) true (ap (λ (n : ℕ). may_begin limit n e) (omega arith) ∙ k) refl
within_more limit d (x ∷ xs) e h k =
    and_from (may_begin limit d x) (begins_within limit (d + drains x) (xs ++ e ∷ [])) (and_parts (may_begin limit d x) (begins_within limit (d + drains x) xs) h).0
    (within_more limit (d + drains x) xs e (and_parts (may_begin limit d x) (begins_within limit (d + drains x) xs) h).1 (ap (λ (n : ℕ). may_begin limit n e) (omega arith) ∙ k))

-- nothing is past a limit that isn't passed
pub open_begins : (limit : Option ℕ) (d : ℕ) (e : Event) → is_past limit d ≡ false → may_begin limit d e ≡ true
open_begins limit d e h = ap (λ (b : Bool). not (begins e && b)) h ∙ none (begins e)
  where
    none : (b : Bool) → not (b && false) ≡ true
    none true = refl
    none false = refl

pub report_begins : {R : Type 0} (limit : Option ℕ) (d : ℕ) (s : Held R) (lease : Lease) (part : Part R) → may_begin limit d (report_event s lease part) ≡ true
report_begins {R} limit d s lease part =
    elim (is_none (refusal s lease part)) as (λ b. may_begin limit d (if b then Report lease.seat lease.segment part.reach (length part.rows) part.tried part.spent else Look lease.seat) ≡ true) [
      | true ↦ refl
      | false ↦ refl
    ]

-- where nothing was drained
pub none_drained : (limit : Option ℕ) (log : List Event) → drained log ≡ 0 → begins_within limit 0 log ≡ true
none_drained limit log h = from 0 log (omega arith) h
  where
    low : (o : Option ℕ) → is_past o 0 ≡ false
    low None = refl
    low (Some n) = zero-test n
      where
        zero-test : (n : ℕ) → nat_lt n 0 ≡ false
        zero-test n = grind (arith, nat_tests)

    from : (d : ℕ) (events : List Event) → d ≡ 0 → drained events ≡ 0 → begins_within limit d events ≡ true
    from d [] z k = refl
    from d (e ∷ events) z k =
        and_from (may_begin limit d e) (begins_within limit (d + drains e) events) (open_begins limit d e (ap (λ (n : ℕ). is_past limit n) z ∙ low limit))
        (from (d + drains e) events (omega (arith, z, k)) (omega (arith, k)))

-- a call that takes no row out

pub event_within : {R : Type 0} (limit : Option ℕ) (old new : Held R) (event : Event) (reply : Reply) (rows : List R) → may_begin limit (drained old.log) event ≡ true → Adds old event reply rows new → begins_within limit 0 old.log ≡ true
    → begins_within limit 0 new.log ≡ true
event_within {R} limit old new event reply rows may adds h =
    ap (λ (l : List Event). begins_within limit 0 l) adds.logged ∙ within_more limit 0 old.log event h (ap (λ (n : ℕ). may_begin limit n event) (omega arith) ∙ may)

pub quiet_kept : {R : Type 0} (limit : Option ℕ) (old new : Held R) (event : Event) (reply : Reply) (rows : List R) (total : ℕ) (w : Wanted) → drains event ≡ 0 → may_begin limit (drained old.log) event ≡ true → Adds old event reply rows new
    → drained old.log ≡ total → IsWanted limit (drained old.log) w → begins_within limit 0 old.log ≡ true → (drained new.log ≡ total) × IsWanted limit (drained new.log) w × (begins_within limit 0 new.log ≡ true)
quiet_kept {R} limit old new event reply rows total w quiet may adds is wanted h =
    let same = same-drained old new event reply rows quiet adds in (
      same ∙ is,
      subst (λ (n : ℕ). IsWanted limit n w) (sym same) wanted,
      event_within limit old new event reply rows may adds h,
    )

-- one event more within the window

pub keeps_append : (window : Option ℕ) (s m : State) (xs ys : List Event) → KeepsWindow window s xs → replay s xs ≡ Some m → KeepsWindow window m ys → KeepsWindow window s (xs ++ ys)
keeps_append window s m [] ys h is k = let same : m ≡ s = cc (is) in subst (λ (t : State). KeepsWindow window t ys) same k
keeps_append window s m (x ∷ xs) ys h is k = (
  h.0,
  keeps_append window (after s x) m xs ys h.1
      (elim (fits s x) as (λ b. (if b then replay (after s x) xs else None) ≡ Some m → replay (after s x) xs ≡ Some m) [ true ↦ λ q. q | false ↦ λ q. absurd (cc (q)) ] is) k,
)

pub event_keeps : {R : Type 0} (window : Option ℕ) (first : State) (old new : Held R) (event : Event) (reply : Reply) (rows : List R) → replay first old.log ≡ Some old.core → Adds old event reply rows new → CountsFew window new.core
    → KeepsWindow window first old.log → KeepsWindow window first new.log
event_keeps {R} window first old new event reply rows is adds few h =
    subst (λ (l : List Event). KeepsWindow window first l) (sym adds.logged)
    (keeps_append window first old.core old.log (event ∷ []) h is (subst (λ (s : State). CountsFew window s) adds.step.new_is few, tt))
