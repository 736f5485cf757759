-- All leases given back are events of the run's seats.
use Rattle.std.proofs.Common.{◌≡◌, ℕ, ◌+◌, List, [], ◌∷◌, ◌++◌, Bool, true, false, ◌&&◌, length, refl, sym, ap, ◌∙◌, subst, arith, length-append, append_assoc, Option, Some, None}
use Rattle.std.specs.Prelude.{if◌then◌else◌, nat_lt, ◌==◌}
use Rattle.kr_base.specs.declared.span.Span.{Span}
use Rattle.kr_base.specs.declared.entry.Entry.{Entry}
use Rattle.kr_core.specs.declared.segment.Segment.{Segment}
use Rattle.kr_core.specs.declared.event.Event.{Event}
use Rattle.kr_core.specs.declared.event.Event.TheVariants.{Take, Steal, Report, GiveUp, Drain, StopAt, Look}
use Rattle.kr_core.specs.States.{Each, has_remainder}
use Rattle.kr_core.specs.Rows.{drained}
use Rattle.kr_core.specs.Leases.{holder_after, holder_of, IsToldBy}
use Rattle.kr_core.specs.Openings.{opening}
use Rattle.kr_core.proofs.Holding.{owners_law}
use Rattle.kr_pool_desk.proofs.Honest.{runs_from_honest}
use Rattle.kr_board.specs.Held.{Held}
use Rattle.kr_board.specs.Boards.{IsBoardOf}
use Rattle.kr_board.specs.Releasing.{IsReleased, given_up_by, given_up}
use Rattle.kr_pool_desk.specs.Runs.{is_shared, are_shared, IsRun}
use Rattle.kr_pool_desk.specs.Short.{AreShortEvents}
use Rattle.kr_pool_desk.proofs.Short.{events-more}
use Rattle.kr_core.proofs.Bools.{and-left, and-right}

abbrev IsBelow : ℕ → Option ℕ → Type 0
IsBelow workers None = Unit {0}
IsBelow workers (Some seat) = nat_lt seat workers ≡ true

pick : (workers : ℕ) (b : Bool) (x y : Option ℕ) → IsBelow workers x → IsBelow workers y → IsBelow workers (if b then x else y)
pick workers true x y h k = h
pick workers false x y h k = k

holder-after : (workers m : ℕ) (holder : Option ℕ) (e : Event) → IsBelow workers holder → is_shared workers e ≡ true → IsBelow workers (holder_after m holder e)
holder-after workers m holder (Take seat n) h q = pick workers (n == m) (Some seat) holder q h
holder-after workers m holder (Steal seat victim cut n) h q = pick workers (n == m) (Some seat) holder q h
holder-after workers m holder (Report seat n reach rows tried spent) h q = h
holder-after workers m holder (GiveUp seat n) h q = pick workers (n == m) None holder tt h
holder-after workers m holder (Drain rows) h q = h
holder-after workers m holder (StopAt mark) h q = h
holder-after workers m holder (Look seat) h q = h

holder-of : (workers m : ℕ) (holder : Option ℕ) (events : List Event) → IsBelow workers holder → are_shared workers events ≡ true → IsBelow workers (holder_of m holder events)
holder-of workers m holder [] h q = h
holder-of workers m holder (e ∷ events) h q =
    holder-of workers m (holder_after m holder e) events (holder-after workers m holder e h (and-left (is_shared workers e) (are_shared workers events) q)) (and-right (is_shared workers e) (are_shared workers events) q)

pub are_shared-append : (workers : ℕ) (xs ys : List Event) → are_shared workers xs ≡ true → are_shared workers ys ≡ true → are_shared workers (xs ++ ys) ≡ true
are_shared-append workers [] ys h k = k
are_shared-append workers (x ∷ xs) ys h k =
    elim (is_shared workers x) as (λ b. (b && are_shared workers xs) ≡ true → (b && are_shared workers (xs ++ ys)) ≡ true) [
      | true ↦ λ q. are_shared-append workers xs ys q k
      | false ↦ λ q. absurd (cc (q))
    ] h

by-owner : (workers : ℕ) (owner : Option ℕ) (n : ℕ) → IsBelow workers owner → are_shared workers (given_up_by owner n) ≡ true
by-owner workers None n h = refl
by-owner workers (Some seat) n h = ap (λ (b : Bool). b && true) h

all-given : (workers : ℕ) (span : Span) (cuts : List (List ℕ)) (log : List Event) (segs : List Segment) → are_shared workers log ≡ true → Each (IsToldBy span cuts log) segs → are_shared workers (given_up segs) ≡ true
all-given workers span cuts log [] h k = refl
all-given workers span cuts log (g ∷ gs) h k =
    let mine : IsBelow workers g.owner = subst (λ (o : Option ℕ). IsBelow workers o) (sym k.0.owner) (pick workers (has_remainder g) (holder_of g.number None log) None (holder-of workers g.number None log tt h) tt) in
    are_shared-append workers (given_up_by g.owner g.number) (given_up gs) (by-owner workers g.owner g.number mine) (all-given workers span cuts log gs h k.1)

given-by-short : (owner : Option ℕ) (n : ℕ) → AreShortEvents (given_up_by owner n)
given-by-short None n = tt
given-by-short (Some seat) n = (tt, tt)

given-short : (segs : List Segment) → AreShortEvents (given_up segs)
given-short [] = tt
given-short (g ∷ gs) = events-more (given_up_by g.owner g.number) (given_up gs) (given-by-short g.owner g.number) (given-short gs)

pub released : {R : Type 0} (all : List (Entry R)) (span : Span) (cuts : List (List ℕ)) (ops : List Event) (workers calls calls' : ℕ) (old new : Held R) → IsRun all span cuts ops workers old calls → IsReleased old new
    → IsBoardOf all span cuts new → calls' + length old.log ≡ calls + length new.log → IsRun all span cuts ops workers new calls'
released all span cuts ops workers calls calls' old new k is board count =
    let owners = owners_law span cuts old.log old.core k.inside (runs_from_honest all (opening span cuts) old.log old.core k.board.honest) in
    let given = given_up old.core.segments in
    let shared : are_shared workers given ≡ true = all-given workers span cuts old.log old.core.segments k.grown.shared owners in
    record {
      ascends = k.ascends;
      inside = k.inside;
      board = board;
      grown = record {
        more = k.grown.more ++ given;
        logged = is.logged ∙ (ap (λ (l : List Event). l ++ given) k.grown.logged ∙ append_assoc ops k.grown.more given);
        shared = ap (λ (l : List Event). are_shared workers l) is.logged ∙ are_shared-append workers old.log given k.grown.shared shared;
        counted =
            let a = length-append k.grown.more given in
            let b = length-append old.log given in
            let c = ap (λ (l : List Event). length l) is.logged in
            let d = k.grown.counted in
            omega (arith, a, b, c, d, count);
      };
      short = λ s. subst AreShortEvents (sym is.logged) (events-more old.log given (k.short s) (given-short old.core.segments));
    }

pub no-fewer : {R : Type 0} (old new : Held R) → IsReleased old new → length old.log + length (given_up old.core.segments) ≡ length new.log
no-fewer old new is = let a = length-append old.log (given_up old.core.segments) in let c = ap (λ (l : List Event). length l) is.logged in omega (arith, a, c)

-- none of these events takes rows out

drained-append : (xs ys : List Event) → drained (xs ++ ys) ≡ drained xs + drained ys
drained-append [] ys = omega arith
drained-append (x ∷ xs) ys = let h = drained-append xs ys in omega (arith, h)

none-by : (owner : Option ℕ) (n : ℕ) → drained (given_up_by owner n) ≡ 0
none-by None n = refl
none-by (Some seat) n = refl

none-given : (segs : List Segment) → drained (given_up segs) ≡ 0
none-given [] = refl
none-given (g ∷ gs) = let a = drained-append (given_up_by g.owner g.number) (given_up gs) in let b = none-by g.owner g.number in let c = none-given gs in omega (arith, a, b, c)

pub released-drained : {R : Type 0} (old new : Held R) → IsReleased old new → drained new.log ≡ drained old.log
released-drained old new is =
    let a = drained-append old.log (given_up old.core.segments) in let b = none-given old.core.segments in let c = ap (λ (l : List Event). drained l) is.logged in omega (arith, a, b, c)
