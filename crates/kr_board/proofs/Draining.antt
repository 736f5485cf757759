-- Rows taken out, and what a finished board lists.
use Rattle.std.proofs.Common.{◌≡◌, ◌≢◌, ℕ, suc, ◌+◌, ◌<◌, ◌≤◌, List, [], ◌∷◌, ◌++◌, Bool, true, false, ◌&&◌, not, cond, length, take, drop, refl, sym, ap, ◌∙◌, subst, arith, Vec, Global, Option, Some, None, length-append, append_assoc}
use Rattle.std.specs.Prelude.{if◌then◌else◌}
use Rattle.std.specs.List.{sum_by, list_all}
use Rattle.std.proofs.lemmas.List.Sums.{sum_by-cons}
use Rattle.std.proofs.lemmas.List.{drop_at, take_at, append-nil}
use Rattle.kr_base.specs.declared.span.Bound.{Bound}
use Rattle.kr_base.specs.declared.span.Bound.TheVariants.{At}
use Rattle.kr_base.specs.declared.entry.Entry.{Entry}
use Rattle.kr_base.specs.Entries.{is_spent, within, entries_in, NoneSpent}
use Rattle.kr_base.proofs.Bounds.{irreflexive}
use Rattle.kr_survey.specs.declared.part.Listing.{Listing}
use Rattle.kr_survey.specs.Joins.{joined}
use Rattle.kr_survey.specs.Scans.{rows_of}
use Rattle.kr_core.specs.declared.segment.Segment.{Segment}
use Rattle.kr_core.specs.declared.event.Event.{Event}
use Rattle.kr_core.specs.declared.event.Event.TheVariants.{Drain}
use Rattle.kr_core.specs.declared.event.Reply.{Reply}
use Rattle.kr_base.specs.Causes.{capped}
use Rattle.kr_base.specs.Bounds.{is_same}
use Rattle.kr_core.specs.States.{State, is_closed, Each}
use Rattle.kr_core.specs.Steps.{front, gone, may_stop}
use Rattle.kr_core.specs.Counts.{IsSpentFlag, Counts}
use Rattle.kr_core.specs.Rows.{drained}
use Rattle.kr_core.specs.Beside.{fronts, emptied, gathered}
use Rattle.kr_core.proofs.Spent.{within-none}
use Rattle.kr_core.proofs.Chains.{IsLink, Chain}
use Rattle.kr_core.proofs.Runs.{closed-mark}
use Rattle.kr_core.proofs.Ends.{counting_law}
use Rattle.kr_core.proofs.Rowing.{plus, rows_in, front-rows}
use Rattle.kr_board.specs.Held.{Held}
use Rattle.kr_board.specs.Boards.{rows_from, Adds, Stays, AreNext}
use Rattle.kr_survey.specs.Listings.{spent_in}
use Rattle.kr_board.specs.Closing.{all_closed, mark_in, front_rows, cut_of, IsListing, Lists}
use Rattle.kr_board.specs.Rooms.{IsSound}
use Rattle.kr_board.proofs.Sound.{join, size, sizes}
use Rattle.kr_board.proofs.Staying.{holds, stays}
use Rattle.kr_board.proofs.Whole.{board_law}

-- the front are so many lists, and those that stay are the others after an empty one

pub front-taken : {R : Type 0} (ss : List Segment) (ks : List (List R)) → length ks ≡ length ss → ss ≢ [] → fronts ss ks ≡ take (suc (length (gone ss))) ks
front-taken [] ks same some = absurd (some refl)
front-taken (s ∷ ss) [] same some = absurd (omega (arith, same))
front-taken {R} (s ∷ []) (k ∷ ks) same some = elim (is_closed s) as (λ b. k ∷ (if b then fronts [] ks else []) ≡ k ∷ []) [ true ↦ refl | false ↦ refl ]
front-taken {R} (s ∷ t ∷ ss) (k ∷ ks) same some =
    elim (is_closed s) as (λ b. k ∷ (if b then fronts (t ∷ ss) ks else []) ≡ take (suc (length (cond b (s ∷ gone (t ∷ ss)) []))) (k ∷ ks)) [
      | true ↦ ap (λ (ls : List (List R)). k ∷ ls) (front-taken (t ∷ ss) ks (omega (arith, same)) (λ q. cc (q)))
      | false ↦ refl
    ]

pub left-emptied : {R : Type 0} (ss : List Segment) (ks : List (List R)) → length ks ≡ length ss → ss ≢ [] → emptied [] ss ks ≡ [] ∷ drop (suc (length (gone ss))) ks
left-emptied [] ks same some = absurd (some refl)
left-emptied (s ∷ ss) [] same some = absurd (omega (arith, same))
left-emptied (s ∷ []) (k ∷ []) same some = refl
left-emptied (s ∷ []) (k ∷ (j ∷ ks)) same some = absurd (omega (arith, same))
left-emptied {R} (s ∷ t ∷ ss) (k ∷ ks) same some =
    elim (is_closed s) as (λ b. cond b (emptied [] (t ∷ ss) ks) ([] ∷ ks) ≡ [] ∷ drop (suc (length (cond b (s ∷ gone (t ∷ ss)) []))) (k ∷ ks)) [
      | true ↦ left-emptied (t ∷ ss) ks (omega (arith, same)) (λ q. cc (q))
      | false ↦ refl
    ]

pub gone-fewer : (ss : List Segment) → ss ≢ [] → length (gone ss) < length ss
gone-fewer [] some = absurd (some refl)
gone-fewer (s ∷ []) some = omega arith
gone-fewer (s ∷ t ∷ ss) some =
    elim (is_closed s) as (λ b. length (cond b (s ∷ gone (t ∷ ss)) []) < suc (suc (length ss))) [ true ↦ let h = gone-fewer (t ∷ ss) (λ q. cc (q)) in omega (arith, h) | false ↦ omega arith ]

-- as many as the machine counts

fronts-sizes : {R : Type 0} (ss : List Segment) (ks : List (List R)) → fronts ss (sizes ks) ≡ sizes (fronts ss ks)
fronts-sizes [] ks = refl
fronts-sizes (s ∷ ss) [] = refl
fronts-sizes {R} (s ∷ ss) (k ∷ ks) =
    elim (is_closed s) as (λ b. size k ∷ (if b then fronts ss (sizes ks) else []) ≡ sizes (k ∷ (if b then fronts ss ks else []))) [
      | true ↦ ap (λ (ms : List ℕ). size k ∷ ms) (fronts-sizes ss ks)
      | false ↦ refl
    ]

gathered-sizes : {R : Type 0} (ks : List (List R)) → gathered plus 0 (sizes ks) ≡ size (joined ks)
gathered-sizes [] = refl
gathered-sizes {R} (k ∷ ks) = let h = gathered-sizes ks in let a = length-append k (joined ks) in omega (arith, h, a)

pub gathered-joined : {R : Type 0} (ks : List (List R)) → gathered join [] ks ≡ joined ks
gathered-joined [] = refl
gathered-joined {R} (k ∷ ks) = ap (λ (l : List R). k ++ l) (gathered-joined ks)

fronts-few : {R : Type 0} (ss : List Segment) (ks : List (List R)) → length (joined (fronts ss ks)) ≤ length (joined ks)
fronts-few [] ks = omega arith
fronts-few (s ∷ ss) [] = omega arith
fronts-few {R} (s ∷ ss) (k ∷ ks) =
    elim (is_closed s) as (λ b. length (k ++ joined (if b then fronts ss ks else [])) ≤ length (k ++ joined ks)) [
      | true ↦ let a = length-append k (joined (fronts ss ks)) in let b = length-append k (joined ks) in let h = fronts-few ss ks in omega (arith, a, b, h)
      | false ↦ let none : List R = [] in let a = length-append k none in let b = length-append k (joined ks) in omega (arith, a, b)
    ]

pub front-count : {R : Type 0} (core : State) (kept : List (List R)) (log : Vec Event Global) → IsSound core kept log → capped (sum_by (λ s. s.rows) (front core.segments)) ≡ length (joined (fronts core.segments kept))
front-count {R} core kept log k =
    let a = front-rows core.segments in
    let b : gathered plus 0 (fronts core.segments (rows_in core.segments)) ≡ size (joined (fronts core.segments kept)) =
    ap (λ (ms : List ℕ). gathered plus 0 (fronts core.segments ms)) k.counted ∙ (ap (λ (ms : List ℕ). gathered plus 0 ms) (fronts-sizes core.segments kept) ∙ gathered-sizes (fronts core.segments kept)) in
    let few = fronts-few core.segments kept in
    let all = k.few in
    omega (arith, a, b, few, all)

all-rows : (segs : List Segment) → gathered plus 0 (rows_in segs) ≡ capped (sum_by (λ s. s.rows) segs)
all-rows [] = refl
all-rows (s ∷ ss) = let rest = all-rows ss in let sum = sum_by-cons (λ (g : Segment). g.rows) s ss in omega (arith, rest, sum)

-- the machine counts the rows that are kept
pub total-count : {R : Type 0} (core : State) (kept : List (List R)) (log : Vec Event Global) → IsSound core kept log → capped (sum_by (λ s. s.rows) core.segments) ≡ length (joined kept)
total-count {R} core kept log k =
    let a = all-rows core.segments in
    let b : gathered plus 0 (rows_in core.segments) ≡ size (joined kept) = ap (λ (ms : List ℕ). gathered plus 0 ms) k.counted ∙ gathered-sizes kept in
    let all = k.few in
    omega (arith, a, b, all)

-- the next rows of the survey

closed-nothing : {R : Type 0} (P : Type 0) (all : List (Entry R)) (next : ℕ) (a : Bound) (s : Segment) → IsLink P all next a s → is_closed s ≡ true → rows_of (within s.mark s.upto all) ≡ []
closed-nothing {R} P all next a s l c =
    ap (λ (b : Bound). rows_of (within s.mark b all)) (sym (closed-mark P all next a s l c)) ∙ ap (λ (es : List (Entry R)). rows_of es) (within-none s.mark s.mark all (irreflexive s.mark))

-- the front's rows come first
front-first : {R : Type 0} (P : Type 0) (all : List (Entry R)) (next : ℕ) (flag : Bool) (last : Option Segment) (a : Bound) (segs : List Segment) (e : Bound) (kept : List (List R)) → Chain P all next flag last a segs e
    → (rest : List R) × (rows_from all segs kept ≡ joined (fronts segs kept) ++ rest)
front-first P all next flag last a [] e kept h = ([], refl)
front-first P all next flag last a (s ∷ ss) e [] h = ([], refl)
front-first {R} P all next flag last a (s ∷ ss) e (k ∷ ks) h =
    elim (is_closed s) as (λ b. is_closed s ≡ b → (rest : List R) × (k ++ (rows_of (within s.mark s.upto all) ++ rows_from all ss ks) ≡ (k ++ joined (if b then fronts ss ks else [])) ++ rest)) [
      | true ↦ λ q.
          let r = front-first P all next flag (Some s) s.upto ss e ks h.1.1.1 in
          (r.0, ap (λ (l : List R). k ++ (l ++ rows_from all ss ks)) (closed-nothing P all next a s h.1.0 q) ∙ (ap (λ (l : List R). k ++ l) r.1 ∙ sym (append_assoc k (joined (fronts ss ks)) r.0)))
      | false ↦ λ q. (rows_of (within s.mark s.upto all) ++ rows_from all ss ks, ap (λ (l : List R). l ++ (rows_of (within s.mark s.upto all) ++ rows_from all ss ks)) (sym (append-nil k)))
    ] refl

pub are_next : {R : Type 0} (old : Held R) (rows : List R) → rows ≡ front_rows old → AreNext old rows
are_next {R} old rows is all span cuts asc inside board =
    let k = holds all span cuts old asc inside board in
    let w = board_law all span cuts old asc inside board in
    let f = front-first (Unit {0}) all old.core.next old.core.spent None _ old.core.segments old.core.end old.kept k.chain in
    let whole : rows_of (within (At span.after) old.core.end all) ≡ w.before ++ (rows ++ f.0) = w.rows ∙ ap (λ (l : List R). w.before ++ l) (f.1 ∙ ap (λ (l : List R). l ++ f.0) (sym is)) in
    let tail : drop (drained old.log) (rows_of (within (At span.after) old.core.end all)) ≡ rows ++ f.0 = ap (λ (l : List R). drop (drained old.log) l) whole ∙ drop_at w.before (rows ++ f.0) (drained old.log) w.count in
    sym (ap (λ (l : List R). take (length rows) l) tail ∙ take_at rows f.0 (length rows) refl)

pub drain_stays : {R : Type 0} (old : Held R) (rows : List R) (reply : Reply) (new : Held R) → rows ≡ front_rows old → Adds old (Drain (length rows)) reply [] new → Stays old new
drain_stays {R} old rows reply new is adds all span cuts asc inside board =
    stays all span cuts old (Drain (length rows)) reply [] new asc inside tt tt
    (λ before. length-append before (gathered join [] (fronts old.core.segments old.kept)) ∙ ap (λ (l : List R). length before + length l) (gathered-joined (fronts old.core.segments old.kept) ∙ sym is)) adds board

-- a finished board

pub closed-each : (ss : List Segment) → list_all is_closed ss ≡ true → Each (λ g. is_closed g ≡ true) ss
closed-each [] h = tt
closed-each (s ∷ ss) h =
    elim (is_closed s) as (λ b. is_closed s ≡ b → (b && list_all is_closed ss) ≡ true → (is_closed s ≡ true) × Each (λ g. is_closed g ≡ true) ss) [
      | true ↦ λ q r. (q, closed-each ss r)
      | false ↦ λ q r. absurd (cc (r))
    ] refl h

closed-rows : {R : Type 0} (P : Type 0) (all : List (Entry R)) (next : ℕ) (flag : Bool) (last : Option Segment) (a : Bound) (segs : List Segment) (e : Bound) (kept : List (List R)) → Chain P all next flag last a segs e
    → length kept ≡ length segs → Each (λ g. is_closed g ≡ true) segs → rows_from all segs kept ≡ joined kept
closed-rows P all next flag last a [] e [] h same c = refl
closed-rows P all next flag last a [] e (k ∷ ks) h same c = absurd (omega (arith, same))
closed-rows P all next flag last a (s ∷ ss) e [] h same c = absurd (omega (arith, same))
closed-rows {R} P all next flag last a (s ∷ ss) e (k ∷ ks) h same c =
    ap (λ (l : List R). k ++ (l ++ rows_from all ss ks)) (closed-nothing P all next a s h.1.0 c.0) ∙ ap (λ (l : List R). k ++ l) (closed-rows P all next flag (Some s) s.upto ss e ks h.1.1.1 (omega (arith, same)) c.1)

-- the key of the last entry, where that alone is spent
spent-last : {R : Type 0} (before : List (Entry R)) (last : Entry R) → NoneSpent before → is_spent last.mark ≡ true → spent_in (before ++ last ∷ []) ≡ Some last.key
spent-last [] last n s = ap (λ (b : Bool). if b then Some last.key else None) s
spent-last (e ∷ es) last n s = ap (λ (b : Bool). if b then Some e.key else spent_in (es ++ last ∷ [])) n.0 ∙ spent-last es last n.1 s

none-there : {R : Type 0} (es : List (Entry R)) → NoneSpent es → spent_in es ≡ None
none-there [] n = refl
none-there (e ∷ es) n = ap (λ (b : Bool). if b then Some e.key else spent_in es) n.0 ∙ none-there es n.1

spent-there : {R : Type 0} (flag : Bool) (e : Bound) (es : List (Entry R)) → IsSpentFlag flag e es → (if flag then cut_of e else None) ≡ spent_in es
spent-there {R} true e es f = sym (ap cut_of f.key_is) ∙ sym (ap (λ (l : List (Entry R)). spent_in l) f.split ∙ spent-last f.before f.last f.none_before f.last_spent)
spent-there false e es f = sym (none-there es f)

pub listed : {R : Type 0} (b : Held R) (l : Listing R) → length b.kept ≡ length b.core.segments → all_closed b.core ≡ true → IsListing b l → Lists b l
listed {R} b l same closed is all span cuts asc inside board =
    let k = holds all span cuts b asc inside board in
    let w = board_law all span cuts b asc inside board in
    let each = closed-each b.core.segments closed in
    let c : Counts all span b.log b.core = counting_law all span cuts b.log b.core asc inside board.honest in
    let done = c.listed each in
    let whole : rows_of (within (At span.after) b.core.end all) ≡ w.before ++ l.rows =
    w.rows ∙ ap (λ (x : List R). w.before ++ x) (closed-rows (Unit {0}) all b.core.next b.core.spent None _ b.core.segments b.core.end b.kept k.chain same each ∙ sym is.rows) in
    record {
      rows = sym (ap (λ (x : List R). drop (drained b.log) x) whole ∙ drop_at w.before l.rows (drained b.log) w.count);
      tried = is.tried ∙ done.tried;
      spent = is.spent ∙ spent-there b.core.spent b.core.end (entries_in (At span.after) b.core.end all) done.spent;
    }

-- a stop at the first segment's mark fits
pub stop_fits : (segs : List Segment) (m : List ℕ) → At m ≡ mark_in segs → may_stop m segs ≡ true
stop_fits [] m h = absurd (cc (h))
stop_fits (s ∷ ss) m h = ap (λ (b : Bound). is_same b (At m)) (sym h) ∙ ap (λ (t : Bool). not t && not t) (irreflexive (At m))
