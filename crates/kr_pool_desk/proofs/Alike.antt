-- A log that is one of some entries is one of any others with the same keys and marks of the same kinds: no event has a row.
use Rattle.std.proofs.Common.{◌≡◌, ℕ, suc, ◌+◌, List, [], ◌∷◌, ◌++◌, Bool, true, false, cond, length, refl, sym, ap, ◌∙◌, subst, Option, Some, None}
use Rattle.kr_base.specs.declared.span.Bound.{Bound}
use Rattle.kr_base.specs.declared.span.Bound.TheVariants.{At}
use Rattle.kr_base.specs.declared.span.Span.{Span}
use Rattle.kr_base.specs.declared.entry.Entry.{Entry}
use Rattle.kr_base.specs.Entries.{is_valid, is_spent, is_within, within, NoneSpent}
use Rattle.std.specs.List.{fold, count_by}
use Rattle.kr_core.specs.declared.segment.Segment.{Segment}
use Rattle.kr_core.specs.declared.event.Event.{Event}
use Rattle.kr_core.specs.declared.event.Event.TheVariants.{Take, Steal, Report, GiveUp, Drain, StopAt, Look}
use Rattle.kr_base.specs.Causes.{capped}
use Rattle.kr_core.specs.States.{State, segment_of}
use Rattle.kr_core.specs.Counts.{EndsSpent, IsSpentFlag, Tells, TellsFrom, IsHonest, HonestRuns}
use Rattle.kr_pool_desk.specs.Short.{AreShortKeys, BeginsShort, IsShort}
use Rattle.kr_pool_desk.specs.Traces.{IsTrace}

-- as many entries, one by one with the same key and a mark of the same kind
abbrev pub Alike : {R T : Type 0} → List (Entry R) → List (Entry T) → Type 0
Alike [] [] = Unit {0}
Alike [] (f ∷ fs) = ⊥
Alike (e ∷ es) [] = ⊥
Alike (e ∷ es) (f ∷ fs) = (f.key ≡ e.key) × (is_valid f.mark ≡ is_valid e.mark) × (is_spent f.mark ≡ is_spent e.mark) × Alike es fs

filtered : {R T : Type 0} (b : Bool) (e : Entry R) (f : Entry T) (es : List (Entry R)) (fs : List (Entry T)) → Alike (e ∷ []) (f ∷ []) → Alike es fs → Alike (cond b (e ∷ es) es) (cond b (f ∷ fs) fs)
filtered true e f es fs h k = (h.0, h.1, h.2, k)
filtered false e f es fs h k = k

within-alike : {R T : Type 0} (a b : Bound) (es : List (Entry R)) (fs : List (Entry T)) → Alike es fs → Alike (within a b es) (within a b fs)
within-alike a b [] [] h = tt
within-alike a b [] (f ∷ fs) h = absurd h
within-alike a b (e ∷ es) [] h = absurd h
within-alike {R} {T} a b (e ∷ es) (f ∷ fs) h =
    subst (λ (k : List ℕ). Alike (cond (is_within a b e.key) (e ∷ within a b es) (within a b es)) (cond (is_within a b k) (f ∷ within a b fs) (within a b fs))) (sym h.0)
    (filtered (is_within a b e.key) e f (within a b es) (within a b fs) (h.0, h.1, h.2, tt) (within-alike a b es fs h.3))

count-from : {R T : Type 0} (n : ℕ) (es : List (Entry R)) (fs : List (Entry T)) → Alike es fs → fold (λ m x. m + cond (is_valid x.mark) 1 0) n fs ≡ fold (λ m x. m + cond (is_valid x.mark) 1 0) n es
count-from n [] [] h = refl
count-from n [] (f ∷ fs) h = absurd h
count-from n (e ∷ es) [] h = absurd h
count-from {R} {T} n (e ∷ es) (f ∷ fs) h =
    count-from (n + cond (is_valid f.mark) 1 0) es fs h.3 ∙ ap (λ (t : Bool). fold (λ m (x : Entry R). m + cond (is_valid x.mark) 1 0) (n + cond t 1 0) es) h.1

count-alike : {R T : Type 0} (es : List (Entry R)) (fs : List (Entry T)) → Alike es fs → count_by (λ e. is_valid e.mark) fs ≡ count_by (λ e. is_valid e.mark) es
count-alike es fs h = count-from 0 es fs h

length-alike : {R T : Type 0} (es : List (Entry R)) (fs : List (Entry T)) → Alike es fs → length fs ≡ length es
length-alike [] [] h = refl
length-alike [] (f ∷ fs) h = absurd h
length-alike (e ∷ es) [] h = absurd h
length-alike (e ∷ es) (f ∷ fs) h = ap suc (length-alike es fs h.3)

none-alike : {R T : Type 0} (es : List (Entry R)) (fs : List (Entry T)) → Alike es fs → NoneSpent es → NoneSpent fs
none-alike [] [] h n = tt
none-alike [] (f ∷ fs) h n = absurd h
none-alike (e ∷ es) [] h n = absurd h
none-alike (e ∷ es) (f ∷ fs) h n = (h.2 ∙ n.0, none-alike es fs h.3 n.1)

-- the last one, after the others
ends-alike : {R T : Type 0} (b : Bound) (before : List (Entry R)) (last : Entry R) (fs : List (Entry T)) → Alike (before ++ last ∷ []) fs → NoneSpent before → is_spent last.mark ≡ true → At last.key ≡ b → EndsSpent b fs
ends-alike b [] last [] h none spent key = absurd h
ends-alike {R} {T} b [] last (f ∷ []) h none spent key =
    record { before = []; last = f; split = refl; none_before = tt; last_spent = h.2 ∙ spent; key_is = ap (λ (k : List ℕ). At k) h.0 ∙ key }
ends-alike b [] last (f ∷ (g ∷ fs)) h none spent key = absurd h.3
ends-alike b (e ∷ before) last [] h none spent key = absurd h
ends-alike {R} {T} b (e ∷ before) last (f ∷ fs) h none spent key =
    let rest : EndsSpent b fs = ends-alike b before last fs h.3 none.1 spent key in
    record {
      before = f ∷ rest.before;
      last = rest.last;
      split = ap (λ (l : List (Entry T)). f ∷ l) rest.split;
      none_before = (h.2 ∙ none.0, rest.none_before);
      last_spent = rest.last_spent;
      key_is = rest.key_is;
    }

flag-alike : {R T : Type 0} (flag : Bool) (b : Bound) (es : List (Entry R)) (fs : List (Entry T)) → Alike es fs → IsSpentFlag flag b es → IsSpentFlag flag b fs
flag-alike {R} {T} true b es fs h k = ends-alike b k.before k.last fs (subst (λ (l : List (Entry R)). Alike l fs) k.split h) k.none_before k.last_spent k.key_is
flag-alike false b es fs h k = none-alike es fs h k

tells-alike : {R T : Type 0} (es : List (Entry R)) (fs : List (Entry T)) (reach : Bound) (rows tried : ℕ) (spent : Bool) → Alike es fs → Tells es reach rows tried spent → Tells fs reach rows tried spent
tells-alike es fs reach rows tried spent h k = record {
  rows_are = k.rows_are ∙ ap (λ (n : ℕ). capped n) (sym (count-alike es fs h));
  tried_are = k.tried_are ∙ ap (λ (n : ℕ). capped n) (sym (length-alike es fs h));
  spent_is = flag-alike spent reach es fs h k.spent_is;
}

from-alike : {R T : Type 0} (es : List (Entry R)) (fs : List (Entry T)) (g : Option Segment) (reach : Bound) (rows tried : ℕ) (spent : Bool) → Alike es fs → TellsFrom es g reach rows tried spent → TellsFrom fs g reach rows tried spent
from-alike es fs None reach rows tried spent h k = absurd k
from-alike es fs (Some s) reach rows tried spent h k = tells-alike (within s.mark reach es) (within s.mark reach fs) reach rows tried spent (within-alike s.mark reach es fs h) k

honest-alike : {R T : Type 0} (es : List (Entry R)) (fs : List (Entry T)) (s : State) (event : Event) → Alike es fs → IsHonest es s event → IsHonest fs s event
honest-alike es fs s (Take seat n) h k = tt
honest-alike es fs s (Steal seat victim cut n) h k = tt
honest-alike es fs s (Report seat n reach rows tried spent) h k = from-alike es fs (segment_of n s.segments) reach rows tried spent h k
honest-alike es fs s (GiveUp seat n) h k = tt
honest-alike es fs s (Drain rows) h k = tt
honest-alike es fs s (StopAt mark) h k = tt
honest-alike es fs s (Look seat) h k = tt

runs-alike : {R T : Type 0} (es : List (Entry R)) (fs : List (Entry T)) (old : State) (events : List Event) (new : State) → Alike es fs → HonestRuns es old events new → HonestRuns fs old events new
runs-alike es fs old [] new h k = k
runs-alike es fs old (event ∷ events) new h k = (k.0, k.1, honest-alike es fs old event h k.2, k.3, runs-alike es fs k.1 events new h k.4)

keys-alike : {R T : Type 0} (es : List (Entry R)) (fs : List (Entry T)) → Alike es fs → AreShortKeys fs → AreShortKeys es
keys-alike [] [] h k = tt
keys-alike [] (f ∷ fs) h k = absurd h
keys-alike (e ∷ es) [] h k = absurd h
keys-alike (e ∷ es) (f ∷ fs) h k = (subst IsShort h.0 k.0, keys-alike es fs h.3 k.1)

begins-alike : {R T : Type 0} (es : List (Entry R)) (fs : List (Entry T)) (first : State) → Alike es fs → BeginsShort fs first → BeginsShort es first
begins-alike es fs first h s = record { keys = keys-alike es fs h s.keys; segments = s.segments }

pub trace_alike : {R T : Type 0} (es : List (Entry R)) (fs : List (Entry T)) (span : Span) (workers : ℕ) (log : List Event) → Alike es fs → IsTrace es span workers log → IsTrace fs span workers log
trace_alike es fs span workers log h k = record { last = k.last; runs = runs-alike es fs _ log k.last h k.runs; seats = k.seats; closed = k.closed; short = λ s. k.short (begins-alike es fs _ h s) }
