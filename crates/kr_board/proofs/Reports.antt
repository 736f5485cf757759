-- Which reports are refused, and that the others fit.
use Rattle.std.proofs.Common.{◌≡◌, ℕ, ◌<◌, ◌≤◌, List, Bool, true, false, ◌&&◌, not, cond, length, length-append, ◌∷◌, refl, sym, ap, ◌∙◌, subst, arith, Option, Some, None, [], Result, Ok, Err}
use Rattle.std.specs.Prelude.{if◌then◌else◌, nat_lt, nat_le, is_none, IfOk, OnOk}
use Rattle.std.specs.List.{count_by}
use Rattle.std.proofs.lemmas.List.Sums.{sum_by-cons, count_by-le-length}
use Rattle.std.proofs.lemmas.Bool.{lt-ltb, and_from, not-true, le-leb}
use Rattle.kr_base.specs.declared.span.Bound.{Bound}
use Rattle.kr_base.specs.declared.span.Bound.TheVariants.{At, End}
use Rattle.kr_base.specs.declared.entry.Mark.{Mark}
use Rattle.kr_base.specs.declared.entry.Mark.TheVariants.{Valid, Invalid, Spent}
use Rattle.kr_base.specs.declared.entry.Entry.{Entry}
use Rattle.kr_base.specs.Bounds.{less, is_cut, is_same}
use Rattle.kr_base.specs.Entries.{within, is_valid}
use Rattle.kr_base.proofs.Bounds.{irreflexive, connected}
use Rattle.kr_survey.specs.declared.part.Part.{Part}
use Rattle.kr_survey.specs.Scans.{row_of, rows_of}
use Rattle.kr_core.specs.declared.segment.Segment.{Segment}
use Rattle.kr_core.specs.declared.event.Event.{Event}
use Rattle.kr_core.specs.declared.event.Event.TheVariants.{Report, Look}
use Rattle.kr_core.specs.declared.event.Reply.{Reply}
use Rattle.kr_core.specs.declared.event.Reply.TheVariants.{Noted}
use Rattle.kr_core.specs.declared.event.Lease.{Lease}
use Rattle.kr_core.specs.States.{State, is_owned_by, segment_of}
use Rattle.kr_core.specs.Steps.{fits, may_report}
use Rattle.kr_core.specs.Counts.{Tells, TellsFrom}
use Rattle.kr_core.proofs.Beside.{IsMore}
use Rattle.kr_core.proofs.Bools.{and-left, and-right}
use Rattle.kr_board.specs.declared.board.reporting.Reported.{Reported}
use Rattle.kr_board.specs.declared.board.reporting.Reported.TheVariants.{Gone, Moved, Overrun, Full}
use Rattle.kr_board.specs.Held.{Held}
use Rattle.kr_board.specs.Parts.{IsPart, IsPossible}
use Rattle.kr_board.specs.Boards.{Adds, StaysWith}
use Rattle.kr_board.specs.Windows.{is_over}
use Rattle.kr_board.specs.Reporting.{IsRefusal, refusal_at, refusal_of, misfit, full_else, refusal, report_event, reply_of}
use Rattle.kr_board.proofs.Staying.{stays, quiet_stays}

pub same-cut : (m k : List ℕ) → m ≡ k → is_same (At m) (At k) ≡ true
same-cut m k e = ap (λ (x : List ℕ). is_same (At m) (At x)) (sym e) ∙ ap (λ (b : Bool). not b && not b) (irreflexive (At m))

cut-same : (a b : Bound) → is_same a b ≡ true → a ≡ b
cut-same a b h = connected a b (not-true (less a b) (and-left (not (less a b)) (not (less b a)) h)) (not-true (less b a) (and-right (not (less a b)) (not (less b a)) h))

pub other-cut : (m k : List ℕ) → (m ≡ k → ⊥) → is_same (At m) (At k) ≡ false
other-cut m k differ = elim (is_same (At m) (At k)) as (λ b. is_same (At m) (At k) ≡ b → b ≡ false) [
  | true ↦ λ h. absurd (differ (cc (cut-same (At m) (At k) h)))
  | false ↦ λ h. refl
] refl

-- by whether the part reaches above the upto, and by whether the mark is the lease's

abbrev overs : {R : Type 0} → Bound → Lease → Bool → Option (Reported R)
overs upto lease t = if t then Some (Overrun (record lease { upto = upto })) else None

abbrev moves-at : {R : Type 0} → List ℕ → Bound → Lease → Bound → Bool → Option (Reported R)
moves-at m upto lease reach b = if not b then Some (Moved m) else overs upto lease (less upto reach)

abbrev owns-at : {R : Type 0} → Bound → Bound → Lease → Bound → Bool → Option (Reported R)
owns-at mark upto lease reach b = if not b then Some Gone else refusal_at mark upto lease reach

-- of a segment that the seat owns, whose mark is a cut
owned-at : {R : Type 0} (o : Option Segment) (g : Segment) (m : List ℕ) (lease : Lease) (reach : Bound) → o ≡ Some g → is_owned_by lease.seat g.owner ≡ true → g.mark ≡ At m
    → refusal_of {R = R} o lease reach ≡ (if not (is_same (At m) (At lease.mark)) then Some (Moved m) else (if less g.upto reach then Some (Overrun (record lease { upto = g.upto })) else None))
owned-at {R} o g m lease reach found own at =
    ap (λ (x : Option Segment). refusal_of {R = R} x lease reach) found
    ∙ (ap (λ (b : Bool). if not b then Some Gone else refusal_at {R = R} g.mark g.upto lease reach) own ∙ ap (λ (b : Bound). refusal_at {R = R} b g.upto lease reach) at)

pub moved_there : {R : Type 0} (o : Option Segment) (g : Segment) (m c : List ℕ) (lease : Lease) (reach : Bound) → o ≡ Some g → is_owned_by lease.seat g.owner ≡ true → g.mark ≡ At m → (m ≡ lease.mark → ⊥) → c ≡ m
    → Some (Moved c) ≡ refusal_of {R = R} o lease reach
moved_there {R} o g m c lease reach found own at differ copy =
    ap (λ (x : List ℕ). Some (Moved x)) copy
    ∙ sym (owned-at {R = R} o g m lease reach found own at ∙ ap (λ (b : Bool). if not b then Some (Moved m) else (if less g.upto reach then Some (Overrun (record lease { upto = g.upto })) else None)) (other-cut m lease.mark differ))

pub overrun_there : {R : Type 0} (o : Option Segment) (g : Segment) (m : List ℕ) (lease l : Lease) (reach : Bound) → o ≡ Some g → is_owned_by lease.seat g.owner ≡ true → g.mark ≡ At m → m ≡ lease.mark → less g.upto reach ≡ true
    → l ≡ record lease { upto = g.upto } → Some (Overrun l) ≡ refusal_of {R = R} o lease reach
overrun_there {R} o g m lease l reach found own at same over is =
    ap (λ (x : Lease). Some (Overrun x)) is
    ∙ sym (owned-at {R = R} o g m lease reach found own at ∙ (ap (λ (b : Bool). if not b then Some (Moved m) else (if less g.upto reach then Some (Overrun (record lease { upto = g.upto })) else None)) (same-cut m lease.mark same)
    ∙ ap (λ (b : Bool). if b then Some (Overrun (record lease { upto = g.upto })) else None) over))

pub fits_there : {R : Type 0} (o : Option Segment) (g : Segment) (m : List ℕ) (lease : Lease) (reach : Bound) → o ≡ Some g → is_owned_by lease.seat g.owner ≡ true → g.mark ≡ At m → m ≡ lease.mark → less g.upto reach ≡ false
    → None ≡ refusal_of {R = R} o lease reach
fits_there {R} o g m lease reach found own at same under =
    sym (owned-at {R = R} o g m lease reach found own at ∙ (ap (λ (b : Bool). if not b then Some (Moved m) else (if less g.upto reach then Some (Overrun (record lease { upto = g.upto })) else None)) (same-cut m lease.mark same)
    ∙ ap (λ (b : Bool). if b then Some (Overrun (record lease { upto = g.upto })) else None) under))

-- a report that isn't refused

record Fits (mark upto : Bound) (lease : Lease) (reach : Bound) : Type 0 where
  pub same : mark ≡ At lease.mark
  pub under : less upto reach ≡ false

mark-fits : {R : Type 0} (mark upto : Bound) (lease : Lease) (reach : Bound) → refusal_at {R = R} mark upto lease reach ≡ None → Fits mark upto lease reach
mark-fits {R} End upto lease reach h = absurd (cc (h))
mark-fits {R} (At m) upto lease reach h =
    elim (is_same (At m) (At lease.mark)) as (λ b. is_same (At m) (At lease.mark) ≡ b → moves-at {R = R} m upto lease reach b ≡ None → Fits (At m) upto lease reach) [
      | true ↦ λ s q. record {
        same = cut-same (At m) (At lease.mark) s;
        under = elim (less upto reach) as (λ t. overs {R = R} upto lease t ≡ None → t ≡ false) [ true ↦ λ r. absurd (cc (r)) | false ↦ λ r. refl ] q;
      }
      | false ↦ λ s q. absurd (cc (q))
    ] refl h

pub counts-fit : (spent : Bool) (reach : Bound) (rows tried : ℕ) → rows ≤ tried → (spent ≡ true → is_cut reach ≡ true) → (spent ≡ true → rows < tried) → (if spent then is_cut reach && nat_lt rows tried else nat_le rows tried) ≡ true
counts-fit true reach rows tried few cut fewer = and_from (is_cut reach) (nat_lt rows tried) (cut refl) (lt-ltb rows tried (fewer refl))
counts-fit false reach rows tried few cut fewer = le-leb rows tried few

report-at : {R : Type 0} (o : Option Segment) (lease : Lease) (part : Part R) → refusal_of {R = R} o lease part.reach ≡ None → IsPossible lease.mark part → may_report lease.seat part.reach (length part.rows) part.tried part.spent o ≡ true
report-at None lease part h p = absurd (cc (h))
report-at {R} (Some g) lease part h p =
    elim (is_owned_by lease.seat g.owner) as (λ b. owns-at {R = R} g.mark g.upto lease part.reach b ≡ None
    → (b && (less g.mark part.reach && (not (less g.upto part.reach) && (if part.spent then is_cut part.reach && nat_lt (length part.rows) part.tried else nat_le (length part.rows) part.tried)))) ≡ true) [
      | true ↦ λ q.
          let f = mark-fits {R = R} g.mark g.upto lease part.reach q in
          and_from (less g.mark part.reach) _ (ap (λ (b : Bound). less b part.reach) f.same ∙ p.above)
          (and_from (not (less g.upto part.reach)) _ (ap not f.under) (counts-fit part.spent part.reach (length part.rows) part.tried p.rows p.cut p.fewer))
      | false ↦ λ q. absurd (cc (q))
    ] h

pub report_fits : {R : Type 0} (core : State) (lease : Lease) (part : Part R) → misfit {R = R} core lease part.reach ≡ None → IsPossible lease.mark part
    → fits core (Report lease.seat lease.segment part.reach (length part.rows) part.tried part.spent) ≡ true
report_fits core lease part h p = report-at (segment_of lease.segment core.segments) lease part h p

-- the segment of a report that isn't refused has the lease's mark
pub marked : {R : Type 0} (o : Option Segment) (lease : Lease) (reach : Bound) → refusal_of {R = R} o lease reach ≡ None → (g : Segment) × (o ≡ Some g) × (g.mark ≡ At lease.mark)
marked {R} None lease reach h = absurd (cc (h))
marked {R} (Some g) lease reach h =
    elim (is_owned_by lease.seat g.owner) as (λ b. owns-at {R = R} g.mark g.upto lease reach b ≡ None → (x : Segment) × (Some g ≡ Some x) × (x.mark ≡ At lease.mark)) [
      | true ↦ λ q. (g, refl, (mark-fits {R = R} g.mark g.upto lease reach q).same)
      | false ↦ λ q. absurd (cc (q))
    ] h

-- a report of a survey's part is honest

pub one-row : {R : Type 0} (m : Mark R) → length (row_of m) ≡ cond (is_valid m) 1 0
one-row (Valid row) = refl
one-row Invalid = refl
one-row Spent = refl

pub valid-rows : {R : Type 0} (es : List (Entry R)) → length (rows_of es) ≡ count_by (λ e. is_valid e.mark) es
valid-rows [] = refl
valid-rows {R} (e ∷ es) =
    let a = length-append (row_of e.mark) (rows_of es) in
    let b = sum_by-cons (λ (x : Entry R). cond (is_valid x.mark) 1 0) e es in
    let c = valid-rows es in
    let d = one-row e.mark in
    omega (arith, a, b, c, d)

tells-at : {R : Type 0} (all : List (Entry R)) (o : Option Segment) (lease : Lease) (part : Part R) → refusal_of {R = R} o lease part.reach ≡ None → IsPart all lease.mark part
    → TellsFrom all o part.reach (length part.rows) part.tried part.spent
tells-at {R} all o lease part h p =
    let m = marked {R = R} o lease part.reach h in
    let es = within (At lease.mark) part.reach all in
    let count = valid-rows es in
    let few = count_by-le-length (λ (e : Entry R). is_valid e.mark) es in
    let rows = ap (λ (l : List R). length l) p.rows in
    let tried = p.tried in
    let fits = p.tried_fits in
    let told : Tells es part.reach (length part.rows) part.tried part.spent = record {
      rows_are = omega (arith, count, rows, few, tried, fits);
      tried_are = omega (arith, tried, fits);
      spent_is = p.spent;
    } in
    subst (λ (x : Option Segment). TellsFrom all x part.reach (length part.rows) part.tried part.spent) (sym m.1) (subst (λ (b : Bound). Tells (within b part.reach all) part.reach (length part.rows) part.tried part.spent) (sym m.2) told)

brings-at : {R : Type 0} (all : List (Entry R)) (o : Option Segment) (lease : Lease) (part : Part R) → refusal_of {R = R} o lease part.reach ≡ None → IsPart all lease.mark part → IsMore rows_of all o part.reach part.rows
brings-at {R} all o lease part h p =
    let m = marked {R = R} o lease part.reach h in
    subst (λ (x : Option Segment). IsMore rows_of all x part.reach part.rows) (sym m.1) (subst (λ (b : Bound). part.rows ≡ rows_of (within b part.reach all)) (sym m.2) p.rows)

-- a board that takes a survey's part in stays the survey's
pub report_stays : {R : Type 0} (old : Held R) (lease : Lease) (part : Part R) (reply : Reply) (new : Held R) → misfit {R = R} old.core lease part.reach ≡ None
    → Adds old (Report lease.seat lease.segment part.reach (length part.rows) part.tried part.spent) reply part.rows new → StaysWith lease.mark part old new
report_stays {R} old lease part reply new h adds all span cuts asc inside p board =
    let o = segment_of lease.segment old.core.segments in
    stays all span cuts old (Report lease.seat lease.segment part.reach (length part.rows) part.tried part.spent) reply part.rows new asc inside (tells-at all o lease part h p) (brings-at all o lease part h p) (λ before. omega arith) adds board

-- a look keeps it too
pub look_stays : {R : Type 0} (old : Held R) (lease : Lease) (part : Part R) (seat : ℕ) (reply : Reply) (more : List R) (new : Held R) → Adds old (Look seat) reply more new → StaysWith lease.mark part old new
look_stays old lease part seat reply more new adds all span cuts asc inside p board = quiet_stays old (Look seat) reply more new tt adds all span cuts asc inside board

some-same : {A : Type 0} (a b : A) → Some a ≡ Some b → a ≡ b
some-same a b h = cc (h)

noted-at : {R : Type 0} (mark upto : Bound) (lease : Lease) (reach : Bound) (r : Reported R) → refusal_at mark upto lease reach ≡ Some r → reply_of r ≡ Noted
noted-at End upto lease reach r h = ap reply_of (sym (some-same Gone r h))
noted-at {R} (At m) upto lease reach r h =
    elim (is_same (At m) (At lease.mark)) as (λ b. (if not b then Some (Moved m) else (if less upto reach then Some (Overrun (record lease { upto = upto })) else None)) ≡ Some r → reply_of r ≡ Noted) [
      | true ↦ λ q. elim (less upto reach) as (λ t. (if t then Some (Overrun (record lease { upto = upto })) else None) ≡ Some r → reply_of r ≡ Noted) [
        | true ↦ λ p. ap reply_of (sym (some-same (Overrun (record lease { upto = upto })) r p))
        | false ↦ λ p. absurd (cc (p))
      ] q
      | false ↦ λ q. ap reply_of (sym (some-same (Moved m) r q))
    ] h

-- a refusal is only noted
noted : {R : Type 0} (o : Option Segment) (lease : Lease) (reach : Bound) (r : Reported R) → refusal_of o lease reach ≡ Some r → reply_of r ≡ Noted
noted None lease reach r h = ap reply_of (sym (some-same Gone r h))
noted {R} (Some g) lease reach r h =
    elim (is_owned_by lease.seat g.owner) as (λ b. (if not b then Some Gone else refusal_at g.mark g.upto lease reach) ≡ Some r → reply_of r ≡ Noted) [
      | true ↦ λ q. noted-at g.mark g.upto lease reach r q
      | false ↦ λ q. ap reply_of (sym (some-same Gone r q))
    ] h

-- what is refused by the segments, or by the window

misfits : {R : Type 0} (old : Held R) (lease : Lease) (part : Part R) (r : Reported R) → misfit old.core lease part.reach ≡ Some r → refusal old lease part ≡ Some r
misfits {R} old lease part r h = ap (λ (o : Option (Reported R)). full_else (is_over old lease.segment (length part.rows)) lease part o) h

pub fills : {R : Type 0} (old : Held R) (lease : Lease) (part : Part R) (full : Bool) → misfit {R = R} old.core lease part.reach ≡ None → is_over old lease.segment (length part.rows) ≡ full
    → refusal old lease part ≡ (if full then Some (Full lease part) else None)
fills {R} old lease part full h over =
    ap (λ (o : Option (Reported R)). full_else (is_over old lease.segment (length part.rows)) lease part o) h ∙ ap (λ (b : Bool). full_else b lease part None) over

pub is_refusal : {R : Type 0} (old : Held R) (lease : Lease) (part : Part R) (r : Reported R) → misfit old.core lease part.reach ≡ Some r → IsRefusal (refusal old lease part) r
is_refusal {R} old lease part r h = subst (λ (o : Option (Reported R)). IsRefusal o r) (sym (misfits old lease part r h)) refl

pub is_full : {R : Type 0} (old : Held R) (lease : Lease) (part : Part R) → misfit {R = R} old.core lease part.reach ≡ None → is_over old lease.segment (length part.rows) ≡ true → IsRefusal (refusal old lease part) (Full lease part)
is_full {R} old lease part h over = subst (λ (o : Option (Reported R)). IsRefusal o (Full lease part)) (sym (fills old lease part true h over)) refl

pub none_refused : {R : Type 0} (old : Held R) (lease : Lease) (part : Part R) (r : Reported R) → misfit {R = R} old.core lease part.reach ≡ None → is_over old lease.segment (length part.rows) ≡ false → IsRefusal (refusal old lease part) r
none_refused {R} old lease part r h room = subst (λ (o : Option (Reported R)). IsRefusal o r) (sym (fills old lease part false h room)) tt

-- the event of each

event-of : {R : Type 0} (old : Held R) (lease : Lease) (part : Part R) (o : Option (Reported R)) → refusal old lease part ≡ o
    → report_event old lease part ≡ (if is_none o then Report lease.seat lease.segment part.reach (length part.rows) part.tried part.spent else Look lease.seat)
event-of {R} old lease part o h = ap (λ (x : Option (Reported R)). if is_none x then Report lease.seat lease.segment part.reach (length part.rows) part.tried part.spent else Look lease.seat) h

look-is : {R : Type 0} (old : Held R) (lease : Lease) (part : Part R) (r : Reported R) (new : Held R) → refusal old lease part ≡ Some r → reply_of r ≡ Noted → Adds old (Look lease.seat) Noted [] new
    → Adds old (report_event old lease part) (reply_of r) part.rows new
look-is {R} old lease part r new h told adds =
    let same : Adds old (Look lease.seat) Noted part.rows new = record { step = adds.step; kept = adds.kept; logged = adds.logged; window = adds.window } in
    subst (λ (e : Event). Adds old e (reply_of r) part.rows new) (sym (event-of old lease part (Some r) h)) (subst (λ (x : Reply). Adds old (Look lease.seat) x part.rows new) (sym told) same)

pub look_event : {R : Type 0} (old : Held R) (lease : Lease) (part : Part R) (r : Reported R) (new : Held R) → misfit old.core lease part.reach ≡ Some r → Adds old (Look lease.seat) Noted [] new
    → Adds old (report_event old lease part) (reply_of r) part.rows new
look_event {R} old lease part r new h adds =
    look-is old lease part r new (misfits old lease part r h) (noted (segment_of lease.segment old.core.segments) lease part.reach r h) adds

pub full_event : {R : Type 0} (old : Held R) (lease : Lease) (part : Part R) (new : Held R) → misfit {R = R} old.core lease part.reach ≡ None → is_over old lease.segment (length part.rows) ≡ true → Adds old (Look lease.seat) Noted [] new
    → Adds old (report_event old lease part) Noted part.rows new
full_event {R} old lease part new h over adds = look-is old lease part (Full lease part) new (fills old lease part true h over) refl adds

-- a part taken in, whatever is answered

pub report_kept : {R E : Type 0} (old : Held R) (lease : Lease) (part : Part R) (r : Result (Reported R) E) (new : Held R) → misfit {R = R} old.core lease part.reach ≡ None
    → IfOk r (λ x. Adds old (Report lease.seat lease.segment part.reach (length part.rows) part.tried part.spent) (reply_of x) part.rows new) → OnOk r (StaysWith lease.mark part old new)
report_kept old lease part (Err e) new h adds = tt
report_kept old lease part (Ok x) new h adds = report_stays old lease part (reply_of x) new h adds

pub report_is : {R E : Type 0} (old : Held R) (lease : Lease) (part : Part R) (r : Result (Reported R) E) (new : Held R) → misfit {R = R} old.core lease part.reach ≡ None → is_over old lease.segment (length part.rows) ≡ false
    → IfOk r (λ x. Adds old (Report lease.seat lease.segment part.reach (length part.rows) part.tried part.spent) (reply_of x) part.rows new) → IfOk r (λ x. Adds old (report_event old lease part) (reply_of x) part.rows new)
report_is old lease part (Err e) new h room adds = tt
report_is {R} old lease part (Ok x) new h room adds = subst (λ (e : Event). Adds old e (reply_of x) part.rows new) (sym (event-of old lease part None (fills old lease part false h room))) adds

pub none_refused_if : {R E : Type 0} (old : Held R) (lease : Lease) (part : Part R) (r : Result (Reported R) E) → misfit {R = R} old.core lease part.reach ≡ None → is_over old lease.segment (length part.rows) ≡ false
    → IfOk r (λ x. IsRefusal (refusal old lease part) x)
none_refused_if old lease part (Err e) h room = tt
none_refused_if old lease part (Ok x) h room = none_refused old lease part x h room
