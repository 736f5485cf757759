-- What a seat is answered: leases of its own, under which something is left.
use Rattle.std.proofs.Common.{◌≡◌, ℕ, List, [], ◌∷◌, Bool, true, false, not, cond, length, refl, sym, ap, ◌∙◌, subst, Option, Some, None}
use Rattle.std.specs.Prelude.{if◌then◌else◌, is_none, ◌==◌}
use Rattle.std.proofs.lemmas.Bool.{not-true}
use Rattle.kr_base.specs.declared.span.Bound.{Bound}
use Rattle.kr_base.specs.declared.span.Bound.TheVariants.{At, End}
use Rattle.kr_base.specs.declared.span.Span.{Span}
use Rattle.kr_base.specs.declared.entry.Entry.{Entry}
use Rattle.kr_base.specs.Bounds.{less, is_same}
use Rattle.kr_base.proofs.Bounds.{connected}
use Rattle.kr_survey.specs.declared.part.Part.{Part}
use Rattle.kr_core.specs.declared.segment.Segment.{Segment}
use Rattle.kr_core.specs.declared.event.Event.{Event}
use Rattle.kr_core.specs.declared.event.Event.TheVariants.{Report, Look}
use Rattle.kr_core.specs.declared.event.Lease.{Lease}
use Rattle.kr_core.specs.States.{State, Each, is_owned, is_owned_by, has_remainder, segment_of}
use Rattle.kr_core.specs.Kept.{IsKept}
use Rattle.kr_core.specs.Leases.{IsHeld, Leases}
use Rattle.kr_core.specs.Openings.{opening}
use Rattle.kr_core.proofs.Bools.{and-left, and-right, owner_known}
use Rattle.kr_core.proofs.Ends.{kept_law}
use Rattle.kr_core.proofs.Holding.{leases_law}
use Rattle.kr_pool_desk.proofs.Honest.{runs_from_honest}
use Rattle.kr_board.specs.Held.{Held}
use Rattle.kr_board.specs.Boards.{Adds}
use Rattle.kr_board.specs.Taking.{first_free, first_victim, grant, take_event, reply_of as take_reply}
use Rattle.kr_board.specs.Reporting.{misfit, full_else, refusal, refusal_of, refusal_at, report_event, reply_of as report_reply, IsRefusal}
use Rattle.kr_board.specs.Windows.{is_over}
use Rattle.kr_board.specs.declared.board.taking.Taken.{Taken}
use Rattle.kr_board.specs.declared.board.taking.Taken.TheVariants.{Lease as Leased, Later, Finished}
use Rattle.kr_board.specs.declared.board.reporting.Reported.{Reported}
use Rattle.kr_board.specs.declared.board.reporting.Reported.TheVariants.{Gone, Moved, Overrun, Full, Done, Go}
use Rattle.kr_pool_desk.specs.Runs.{IsRun}
use Rattle.kr_pool_desk.specs.Leasing.{IsLeaseOf, Takes, Reports}
use Rattle.kr_pool_desk.specs.Short.{IsShortRun, IsShortBound, IsShortSegment, IsShortEvent}
use Rattle.kr_pool_desk.proofs.Short.{board-short, numbered-segment, report-short, stepped, take-short}

-- by what a run is that begins short
abbrev Shortens : Type 0 → State → Type 0
Shortens S s = S → Each IsShortSegment s.segments

held-ahead : (S : Type 0) (seat n : ℕ) (s : State) (lease : Lease) → Shortens S s → IsHeld seat n s lease → IsLeaseOf S seat lease
held-ahead S seat n s lease short h = record {
  seat_is = h.seat_is;
  ahead = h.remains;
  short = λ b. subst IsShortBound h.upto (numbered-segment IsShortSegment n s.segments h.segment (short b) h.found).1;
}

granted : (S : Type 0) (seat next : ℕ) (f v : Option Segment) (s : State) (taken : Taken) → Shortens S s → Leases (grant seat next f v) s (take_reply taken) → Takes S seat taken
granted S seat next (Some g) v s (Leased lease) b h = held-ahead S seat g.number s lease b h
granted S seat next None (Some g) s (Leased lease) b h = held-ahead S seat next s lease b h
granted S seat next None None s (Leased lease) b h = absurd (cc (h))
granted S seat next f v s Later b h = tt
granted S seat next f v s Finished b h = tt

pub takes : {R : Type 0} (all : List (Entry R)) (span : Span) (cuts : List (List ℕ)) (ops : List Event) (workers calls seat : ℕ) (old new : Held R) (taken : Taken)
    → IsRun all span cuts ops workers old calls → Adds old (take_event seat old.core) (take_reply taken) [] new → Takes (IsShortRun all span cuts) seat taken
takes all span cuts ops workers calls seat old new taken k adds =
    let runs = runs_from_honest all (opening span cuts) old.log old.core k.board.honest in
    let short = board-short all span cuts old k.board k.short in
    granted (IsShortRun all span cuts) seat old.core.next (first_free old.core) (first_victim old.core) new.core taken
    (λ s. stepped old new (take_event seat old.core) (take_reply taken) [] adds (take-short seat old.core (short s)) (short s))
    (leases_law span cuts old.log old.core (take_event seat old.core) (take_reply taken) new.core k.inside runs adds.step)

-- of the segment found, what holds of each
each-found : (P : Segment → Type 0) (n : ℕ) (ss : List Segment) (g : Segment) → Each P ss → segment_of n ss ≡ Some g → P g
each-found P n [] g h q = absurd (cc (q))
each-found P n (s ∷ ss) g h q =
    elim (s.number == n) as (λ b. cond b (Some s) (segment_of n ss) ≡ Some g → P g) [
      | true ↦ λ e. let same : s ≡ g = cc (e) in subst P same h.0
      | false ↦ λ e. each-found P n ss g h.1 e
    ] q

-- by whether the part reaches above the upto, whether the mark is the lease's, whether the seat owns it

abbrev overs : {R : Type 0} → Bound → Lease → Bool → Option (Reported R)
overs upto lease t = if t then Some (Overrun (record lease { upto = upto })) else None

abbrev moves-at : {R : Type 0} → List ℕ → Bound → Lease → Bound → Bool → Option (Reported R)
moves-at m upto lease reach b = if not b then Some (Moved m) else overs upto lease (less upto reach)

abbrev owns-at : {R : Type 0} → Bound → Bound → Lease → Bound → Bool → Option (Reported R)
owns-at mark upto lease reach b = if not b then Some Gone else refusal_at mark upto lease reach

overrun-at : {R : Type 0} (S : Type 0) (mark upto : Bound) (lease next : Lease) (reach : Bound) → (S → IsShortBound upto) → less mark upto ≡ true → refusal_at {R = R} mark upto lease reach ≡ Some (Overrun next) → IsLeaseOf S lease.seat next
overrun-at {R} S End upto lease next reach short rem q = absurd (cc (q))
overrun-at {R} S (At m) upto lease next reach short rem q =
    elim (is_same (At m) (At lease.mark)) as (λ b. is_same (At m) (At lease.mark) ≡ b
    → moves-at {R = R} m upto lease reach b ≡ Some (Overrun next) → IsLeaseOf S lease.seat next) [
      | true ↦ λ e r.
          let one = not-true (less (At m) (At lease.mark)) (and-left (not (less (At m) (At lease.mark))) (not (less (At lease.mark) (At m))) e) in
          let two = not-true (less (At lease.mark) (At m)) (and-right (not (less (At m) (At lease.mark))) (not (less (At lease.mark) (At m))) e) in
          let same : At m ≡ At lease.mark = connected (At m) (At lease.mark) one two in
          elim (less upto reach) as (λ t. overs {R = R} upto lease t ≡ Some (Overrun next) → IsLeaseOf S lease.seat next) [
            | true ↦ λ w.
                let is : record lease { upto = upto } ≡ next = cc (w) in
                subst (λ (l : Lease). IsLeaseOf S lease.seat l) is (record { seat_is = refl; ahead = ap (λ (b : Bound). less b upto) (sym same) ∙ rem; short = short })
            | false ↦ λ w. absurd (cc (w))
          ] r
      | false ↦ λ e r. absurd (cc (r))
    ] refl q

overrun-of : {R : Type 0} (S : Type 0) (s : State) (o : Option Segment) (n : ℕ) (lease next : Lease) (reach : Bound) → Shortens S s → IsKept s → segment_of n s.segments ≡ o → refusal_of {R = R} o lease reach ≡ Some (Overrun next)
    → IsLeaseOf S lease.seat next
overrun-of {R} S s None n lease next reach short k found q = absurd (cc (q))
overrun-of {R} S s (Some g) n lease next reach short k found q =
    elim (is_owned_by lease.seat g.owner) as (λ b. is_owned_by lease.seat g.owner ≡ b → owns-at {R = R} g.mark g.upto lease reach b ≡ Some (Overrun next) → IsLeaseOf S lease.seat next) [
      | true ↦ λ e r.
          overrun-at {R = R} S g.mark g.upto lease next reach (λ b. (numbered-segment IsShortSegment n s.segments g (short b) found).1) (each-found (λ g. is_owned g.owner ≡ true → has_remainder g ≡ true) n s.segments g k.owned_remains found (owner_known lease.seat g.owner e)) r
      | false ↦ λ e r. absurd (cc (r))
    ] refl q

-- the segments alone refuse by neither

none-full-at : {R : Type 0} (mark upto : Bound) (lease same : Lease) (reach : Bound) (again : Part R) → refusal_at mark upto lease reach ≡ Some (Full same again) → ⊥
none-full-at End upto lease same reach again q = absurd (cc (q))
none-full-at {R} (At m) upto lease same reach again q =
    elim (is_same (At m) (At lease.mark)) as (λ b. (if not b then Some (Moved m) else (if less upto reach then Some (Overrun (record lease { upto = upto })) else None)) ≡ Some (Full same again) → ⊥) [
      | true ↦ λ r. elim (less upto reach) as (λ t. (if t then Some (Overrun (record lease { upto = upto })) else None) ≡ Some (Full same again) → ⊥) [ true ↦ λ w. absurd (cc (w)) | false ↦ λ w. absurd (cc (w)) ] r
      | false ↦ λ r. absurd (cc (r))
    ] q

none-full : {R : Type 0} (o : Option Segment) (lease : Lease) (reach : Bound) (same : Lease) (again : Part R) → refusal_of o lease reach ≡ Some (Full same again) → ⊥
none-full None lease reach same again q = absurd (cc (q))
none-full {R} (Some g) lease reach same again q =
    elim (is_owned_by lease.seat g.owner) as (λ b. (if not b then Some Gone else refusal_at g.mark g.upto lease reach) ≡ Some (Full same again) → ⊥) [
      | true ↦ λ r. none-full-at g.mark g.upto lease same reach again r
      | false ↦ λ r. absurd (cc (r))
    ] q

none-go-at : {R : Type 0} (mark upto : Bound) (lease next : Lease) (reach : Bound) → refusal_at {R = R} mark upto lease reach ≡ Some (Go next) → ⊥
none-go-at {R} End upto lease next reach q = absurd (cc (q))
none-go-at {R} (At m) upto lease next reach q =
    elim (is_same (At m) (At lease.mark)) as (λ b. moves-at {R = R} m upto lease reach b ≡ Some (Go next) → ⊥) [
      | true ↦ λ r. elim (less upto reach) as (λ t. overs {R = R} upto lease t ≡ Some (Go next) → ⊥) [ true ↦ λ w. absurd (cc (w)) | false ↦ λ w. absurd (cc (w)) ] r
      | false ↦ λ r. absurd (cc (r))
    ] q

none-go : {R : Type 0} (o : Option Segment) (lease : Lease) (reach : Bound) (next : Lease) → refusal_of {R = R} o lease reach ≡ Some (Go next) → ⊥
none-go {R} None lease reach next q = absurd (cc (q))
none-go {R} (Some g) lease reach next q =
    elim (is_owned_by lease.seat g.owner) as (λ b. owns-at {R = R} g.mark g.upto lease reach b ≡ Some (Go next) → ⊥) [
      | true ↦ λ r. none-go-at {R = R} g.mark g.upto lease next reach r
      | false ↦ λ r. absurd (cc (r))
    ] q

-- taken in
taken-in : {R : Type 0} (S : Type 0) (seat n : ℕ) (reach : Bound) (s : State) (lease : Lease) (part : Part R) (reported : Reported R) → Shortens S s → Leases (Report seat n reach 0 0 false) s (report_reply reported) → Reports S seat lease part reported
taken-in S seat n reach s lease part Gone b h = tt
taken-in S seat n reach s lease part (Moved mark) b h = tt
taken-in S seat n reach s lease part (Overrun next) b h = absurd h
taken-in S seat n reach s lease part (Full same again) b h = absurd h
taken-in S seat n reach s lease part Done b h = tt
taken-in S seat n reach s lease part (Go next) b h = held-ahead S seat n s next b h.1

-- looked at
misfitting : {R : Type 0} (S : Type 0) (seat : ℕ) (old : State) (lease : Lease) (part : Part R) (x reported : Reported R) → Shortens S old → lease.seat ≡ seat → IsKept old → misfit old lease part.reach ≡ Some x → reported ≡ x → Reports S seat lease part reported
misfitting S seat old lease part x Gone b is k q e = tt
misfitting S seat old lease part x (Moved mark) b is k q e = tt
misfitting {R} S seat old lease part x (Overrun next) b is k q e =
    subst (λ (n : ℕ). IsLeaseOf S n next) is (overrun-of {R = R} S old (segment_of lease.segment old.segments) lease.segment lease next part.reach b k refl (q ∙ ap (λ (y : Reported R). Some y) (sym e)))
misfitting {R} S seat old lease part x (Full same again) b is k q e = absurd (none-full (segment_of lease.segment old.segments) lease part.reach same again (q ∙ ap (λ (y : Reported R). Some y) (sym e)))
misfitting S seat old lease part x Done b is k q e = tt
misfitting {R} S seat old lease part x (Go next) b is k q e = absurd (none-go {R = R} (segment_of lease.segment old.segments) lease part.reach next (q ∙ ap (λ (y : Reported R). Some y) (sym e)))

over : {R : Type 0} (S : Type 0) (seat : ℕ) (full : Bool) (lease : Lease) (part : Part R) (new : State) (reported : Reported R) → Shortens S new → lease.seat ≡ seat → IsRefusal (if full then Some (Full lease part) else None) reported
    → Leases (if is_none (if full then Some (Full lease part) else None) then Report lease.seat lease.segment part.reach (length part.rows) part.tried part.spent else Look lease.seat) new (report_reply reported) → Reports S seat lease part reported
over {R} S seat true lease part new reported b is r h = subst (λ (x : Reported R). Reports S seat lease part x) (sym r) (refl, refl)
over {R} S seat false lease part new reported b is r h = subst (λ (n : ℕ). Reports S n lease part reported) is (taken-in S lease.seat lease.segment part.reach new lease part reported b h)

reported-by : {R : Type 0} (S : Type 0) (o : Option (Reported R)) (full : Bool) (seat : ℕ) (old new : State) (lease : Lease) (part : Part R) (reported : Reported R) → Shortens S old → Shortens S new → lease.seat ≡ seat → IsKept old → misfit old lease part.reach ≡ o
    → IsRefusal (full_else full lease part o) reported
    → Leases (if is_none (full_else full lease part o) then Report lease.seat lease.segment part.reach (length part.rows) part.tried part.spent else Look lease.seat) new (report_reply reported) → Reports S seat lease part reported
reported-by S None full seat old new lease part reported b d is k q r h = over S seat full lease part new reported d is r h
reported-by S (Some x) full seat old new lease part reported b d is k q r h = misfitting S seat old lease part x reported b is k q r

pub reports : {R : Type 0} (all : List (Entry R)) (span : Span) (cuts : List (List ℕ)) (ops : List Event) (workers calls seat : ℕ) (old new : Held R) (lease : Lease) (part : Part R) (reported : Reported R)
    → IsRun all span cuts ops workers old calls → (IsShortRun all span cuts → IsShortBound part.reach) → lease.seat ≡ seat → IsRefusal (refusal old lease part) reported
    → Adds old (report_event old lease part) (report_reply reported) part.rows new → Reports (IsShortRun all span cuts) seat lease part reported
reports all span cuts ops workers calls seat old new lease part reported k reach is r adds =
    let runs = runs_from_honest all (opening span cuts) old.log old.core k.board.honest in
    let kept = kept_law span cuts old.log old.core k.inside runs in
    let short = board-short all span cuts old k.board k.short in
    reported-by (IsShortRun all span cuts) (misfit old.core lease part.reach) (is_over old lease.segment (length part.rows)) seat old.core new.core lease part reported short
    (λ s. stepped old new (report_event old lease part) (report_reply reported) part.rows adds (report-short old lease part (reach s)) (short s)) is kept refl r
    (leases_law span cuts old.log old.core (report_event old lease part) (report_reply reported) new.core k.inside runs adds.step)
