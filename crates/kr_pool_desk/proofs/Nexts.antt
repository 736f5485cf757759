-- The rows in front are the next ones of the span.
use Rattle.std.proofs.Common.{◌≡◌, ℕ, ◌+◌, List, [], ◌∷◌, ◌++◌, Bool, true, false, cond, length, take, drop, refl, sym, ap, ◌∙◌, subst, arith, Option, Some, None, append_assoc, length-append, length-drop, ◌≤◌}
use Rattle.std.specs.Prelude.{if◌then◌else◌}
use Rattle.std.specs.List.{flat_map, list_all, sum_by}
use Rattle.std.proofs.lemmas.List.{append-nil, drop_at, take_at}
use Rattle.std.proofs.lemmas.List.Concat.{flat_map-append}
use Rattle.kr_base.specs.declared.span.Bound.{Bound}
use Rattle.kr_base.specs.declared.span.Bound.TheVariants.{At}
use Rattle.kr_base.specs.declared.span.Span.{Span}
use Rattle.kr_base.specs.declared.entry.Entry.{Entry}
use Rattle.kr_base.specs.Bounds.{less}
use Rattle.kr_base.specs.Entries.{Ascends, is_spent, within, through_spent, entries_in, NoneSpent}
use Rattle.kr_base.proofs.Bounds.{not_above}
use Rattle.kr_base.proofs.Spans.{through_append}
use Rattle.kr_survey.specs.Scans.{rows_of}
use Rattle.kr_survey.specs.Joins.{joined}
use Rattle.kr_core.specs.declared.segment.Segment.{Segment}
use Rattle.kr_core.specs.declared.event.Event.{Event}
use Rattle.kr_core.specs.declared.event.Event.TheVariants.{Drain}
use Rattle.kr_core.specs.declared.event.Reply.{Reply}
use Rattle.kr_survey.specs.declared.part.Listing.{Listing}
use Rattle.kr_base.specs.Causes.{capped}
use Rattle.kr_core.specs.States.{State, is_closed}
use Rattle.kr_core.specs.Steps.{left}
use Rattle.kr_core.specs.Openings.{AreInside}
use Rattle.kr_core.specs.Beside.{fronts, emptied, Others, Measures}
use Rattle.kr_core.specs.Counts.{EndsSpent, IsSpentFlag, Counts}
use Rattle.kr_core.specs.Rows.{drained}
use Rattle.kr_core.proofs.Spent.{within-append, within-none, through_ends}
use Rattle.kr_core.proofs.Chains.{Chain}
use Rattle.kr_core.proofs.Steps.{chain-up}
use Rattle.kr_core.proofs.Runs.{closed-mark}
use Rattle.kr_core.proofs.Ends.{counting_law}
use Rattle.kr_board.specs.Held.{Held}
use Rattle.kr_board.specs.Boards.{IsBoardOf, Adds}
use Rattle.kr_board.specs.Closing.{front_rows, all_closed, spent_key, IsListing}
use Rattle.kr_board.proofs.Draining.{listed}
use Rattle.kr_board.proofs.Sound.{join}
use Rattle.kr_board.proofs.Staying.{holds}
use Rattle.kr_survey.specs.Listings.{listed_in}
use Rattle.kr_pool_desk.specs.Runs.{IsRun}
use Rattle.kr_core.proofs.Bools.{and-left}
use Rattle.kr_pool_desk.proofs.Whole.{whole_listing}

abbrev up : {R : Type 0} → List (Entry R) → Segment → List (Entry R)
up es g = within g.after g.mark es

-- the rows taken before and those in front are the rows up to a mark; the entries up to there are the first of those known
record IsFront {R : Type 0} (all : List (Entry R)) (from e : Bound) (acc : List R) (front : List (List R)) (known : List (Entry R)) : Type 0 where
  pub mark : Bound
  pub later : List (Entry R)
  pub rows : acc ++ joined front ≡ rows_of (within from mark all)
  pub known_is : known ≡ within from mark all ++ later
  pub above : less mark from ≡ false
  pub below : less e mark ≡ false

-- the front ends with the first one
here : {R : Type 0} (all : List (Entry R)) (next : ℕ) (flag : Bool) (last : Option Segment) (a from e : Bound) (s : Segment) (ss : List Segment) (k acc : List R) → less s.after from ≡ false
    → Chain (Unit {0}) all next flag last a (s ∷ ss) e → acc ++ k ≡ rows_of (within from s.mark all) → IsFront all from e acc (k ∷ []) (within from s.mark all ++ flat_map (up all) ss)
here {R} all next flag last a from e s ss k acc low h is =
    let l = h.1.0 in
    record {
      mark = s.mark;
      later = flat_map (up all) ss;
      rows = ap (λ (x : List R). acc ++ x) (append-nil k) ∙ is;
      known_is = refl;
      above = not_above from s.after s.mark low l.low;
      below = not_above s.mark s.upto e l.high (chain-up (Unit {0}) all next flag (Some s) s.upto ss e h.1.1.1);
    }

front-of : {R : Type 0} (all : List (Entry R)) (next : ℕ) (flag : Bool) (last : Option Segment) (a from e : Bound) (s : Segment) (ss : List Segment) (k : List R) (ks : List (List R)) (acc : List R) → Ascends all
    → less s.after from ≡ false → Chain (Unit {0}) all next flag last a (s ∷ ss) e → acc ++ k ≡ rows_of (within from s.mark all) → Others rows_of all ss ks
    → IsFront all from e acc (fronts (s ∷ ss) (k ∷ ks)) (within from s.mark all ++ flat_map (up all) ss)
front-of {R} all next flag last a from e s [] k [] acc asc low h is o =
    elim (is_closed s) as (λ b. IsFront all from e acc (k ∷ (if b then [] else [])) (within from s.mark all ++ [])) [
      | true ↦ here all next flag last a from e s [] k acc low h is
      | false ↦ here all next flag last a from e s [] k acc low h is
    ]
front-of all next flag last a from e s [] k (j ∷ js) acc asc low h is o = absurd o
front-of all next flag last a from e s (t ∷ ss) k [] acc asc low h is o = absurd o
front-of {R} all next flag last a from e s (t ∷ ss) k (j ∷ js) acc asc low h is o =
    elim (is_closed s) as (λ b. is_closed s ≡ b → IsFront all from e acc (k ∷ (if b then fronts (t ∷ ss) (j ∷ js) else [])) (within from s.mark all ++ flat_map (up all) (t ∷ ss))) [
      | true ↦ λ q.
          let l = h.1.0 in
          let m = h.1.1.1.1.0 in
          let at : t.after ≡ s.mark = m.adjoins ∙ sym (closed-mark (Unit {0}) all next a s l q) in
          let high : less s.mark from ≡ false = not_above from s.after s.mark low l.low in
          let up-high : less t.mark s.mark ≡ false = subst (λ (b : Bound). less t.mark b ≡ false) at m.low in
          let entries : within from s.mark all ++ within t.after t.mark all ≡ within from t.mark all =
          ap (λ (b : Bound). within from s.mark all ++ within b t.mark all) at ∙ within-append from s.mark t.mark all asc high up-high in
          let more : (acc ++ k) ++ j ≡ rows_of (within from t.mark all) =
          ap (λ (x : List R). x ++ j) is ∙ (ap (λ (x : List R). rows_of (within from s.mark all) ++ x) o.0
          ∙ (sym (flat_map-append _ (within from s.mark all) (within t.after t.mark all)) ∙ ap (λ (x : List (Entry R)). rows_of x) entries)) in
          let r = front-of all next flag (Some s) s.upto from e t ss j js (acc ++ k) asc (subst (λ (b : Bound). less b from ≡ false) (sym at) high) h.1.1.1 more o.1 in
          record {
            mark = r.mark;
            later = r.later;
            rows = sym (append_assoc acc k (joined (fronts (t ∷ ss) (j ∷ js)))) ∙ r.rows;
            known_is = sym (append_assoc (within from s.mark all) (within t.after t.mark all) (flat_map (up all) ss)) ∙ (ap (λ (x : List (Entry R)). x ++ flat_map (up all) ss) entries ∙ r.known_is);
            above = r.above;
            below = r.below;
          }
      | false ↦ λ q. here all next flag last a from e s (t ∷ ss) k acc low h is
    ] refl

-- of the board

board-front : {R : Type 0} (all : List (Entry R)) (from : Bound) (s : State) (before : List R) (kept : List (List R)) → Ascends all → (a : Bound) → less a from ≡ false → Chain (Unit {0}) all s.next s.spent None a s.segments s.end
    → Measures join rows_of all from before s.segments kept → IsFront all from s.end before (fronts s.segments kept) (within from a all ++ flat_map (up all) s.segments)
board-front {R} all from s before kept asc a high chain m = of s.segments kept chain m
  where
    of : (segs : List Segment) (ks : List (List R)) → Chain (Unit {0}) all s.next s.spent None a segs s.end → Measures join rows_of all from before segs ks
        → IsFront all from s.end before (fronts segs ks) (within from a all ++ flat_map (up all) segs)
    of [] ks h n = absurd n
    of (g ∷ gs) [] h n = absurd n
    of (g ∷ gs) (k ∷ ks) h n =
        let l = h.1.0 in
        let low : less g.after from ≡ false = subst (λ (b : Bound). less b from ≡ false) (sym l.adjoins) high in
        let f = front-of all s.next s.spent None a from s.end g gs k ks before asc low h n.0 n.1 in
        let known : within from a all ++ (up all g ++ flat_map (up all) gs) ≡ within from g.mark all ++ flat_map (up all) gs =
        sym (append_assoc (within from a all) (up all g) (flat_map (up all) gs))
        ∙ ap (λ (x : List (Entry R)). x ++ flat_map (up all) gs) (ap (λ (b : Bound). within from b all ++ up all g) (sym l.adjoins) ∙ within-append from g.after g.mark all asc low l.low) in
        subst (λ (x : List (Entry R)). IsFront all from s.end before (fronts (g ∷ gs) (k ∷ ks)) x) (sym known) f

-- what comes first among entries of which the last alone may be spent is first among those up to the first spent one

none-first : {R : Type 0} (xs ys : List (Entry R)) → NoneSpent (xs ++ ys) → NoneSpent xs
none-first [] ys h = tt
none-first (x ∷ xs) ys h = (h.0, none-first xs ys h.1)

ends-first : {R : Type 0} (xs : List (Entry R)) (y : Entry R) (ys before : List (Entry R)) (last : Entry R) → xs ++ y ∷ ys ≡ before ++ last ∷ [] → NoneSpent before → NoneSpent xs
ends-first [] y ys before last h none = tt
ends-first (x ∷ []) y ys [] last h none = absurd (cc (h))
ends-first (x ∷ (z ∷ xs)) y ys [] last h none = absurd (cc (h))
ends-first {R} (x ∷ xs) y ys (b ∷ before) last h none =
    let same : b ≡ x = cc (h) in
    (subst (λ (e : Entry R). is_spent e.mark ≡ false) same none.0, ends-first xs y ys before last (cc (h)) none.1)

first-through : {R : Type 0} (flag : Bool) (e : Bound) (xs ys zs : List (Entry R)) → IsSpentFlag flag e (xs ++ ys) → (more : List (Entry R)) × (through_spent (xs ++ zs) ≡ xs ++ more)
first-through false e xs ys zs h = (through_spent zs, through_append xs zs (none-first xs ys h))
first-through {R} true e xs [] zs h = ([], through_ends e xs zs (subst (λ (l : List (Entry R)). EndsSpent e l) (append-nil xs) h) ∙ sym (append-nil xs))
first-through true e xs (y ∷ ys) zs h = (through_spent zs, through_append xs zs (ends-first xs y ys h.before h.last h.split h.none_before))

cut-out : {R : Type 0} (before rows rest whole : List R) (d : ℕ) → whole ≡ (before ++ rows) ++ rest → length before ≡ d → rows ≡ take (length rows) (drop d whole)
cut-out {R} before rows rest whole d is count =
    let tail : drop d whole ≡ rows ++ rest = ap (λ (l : List R). drop d l) (is ∙ append_assoc before rows rest) ∙ drop_at before (rows ++ rest) d count in
    sym (ap (λ (l : List R). take (length rows) l) tail ∙ take_at rows rest (length rows) refl)

-- the rows of the span: those drained, those in front, and others
nexts-at : {R : Type 0} (all : List (Entry R)) (from upto e : Bound) (flag t : Bool) (before rows : List R) (front : List (List R)) (known : List (Entry R)) → Ascends all → less from upto ≡ t → less (cond t upto from) e ≡ false
    → IsSpentFlag flag e known → IsFront all from e before front known → rows ≡ joined front → (rest : List R) × (rows_of (entries_in from upto all) ≡ (before ++ rows) ++ rest)
nexts-at {R} all from upto e flag true before rows front known asc is below spent f r =
    let up-to : less upto f.mark ≡ false = not_above f.mark e upto f.below below in
    let p = first-through flag e (within from f.mark all) f.later (within f.mark upto all) (subst (λ (l : List (Entry R)). IsSpentFlag flag e l) f.known_is spent) in
    let listed : entries_in from upto all ≡ within from f.mark all ++ p.0 = ap through_spent (sym (within-append from f.mark upto all asc f.above up-to)) ∙ p.1 in (
      rows_of p.0,
      ap (λ (l : List (Entry R)). rows_of l) listed ∙ (flat_map-append _ (within from f.mark all) p.0 ∙ ap (λ (l : List R). l ++ rows_of p.0) (sym f.rows ∙ ap (λ (l : List R). before ++ l) (sym r))),
    )
nexts-at {R} all from upto e flag false before rows front known asc is below spent f r =
    let low : less from f.mark ≡ false = not_above f.mark e from f.below below in
    let none : before ++ rows ≡ [] = ap (λ (l : List R). before ++ l) r ∙ (f.rows ∙ ap (λ (l : List (Entry R)). rows_of l) (within-none from f.mark all low)) in
    let nothing : rows_of (entries_in from upto all) ≡ [] = ap (λ (l : List (Entry R)). rows_of (through_spent l)) (within-none from upto all is) in
    ([], nothing ∙ sym (append-nil (before ++ rows) ∙ none))

parted : {R : Type 0} (all : List (Entry R)) (span : Span) (cuts : List (List ℕ)) (b : Held R) (rows : List R) → Ascends all → AreInside cuts span → (board : IsBoardOf all span cuts b) → rows ≡ front_rows b
    → (rest : List R) × (rows_of (listed_in all span) ≡ (board.rows.before ++ rows) ++ rest)
parted {R} all span cuts b rows asc inside board is =
    let k = holds all span cuts b asc inside board in
    let c : Counts all span b.log b.core = counting_law all span cuts b.log b.core asc inside board.honest in
    let f = board-front all (At span.after) b.core board.rows.before b.kept asc _ k.above k.chain board.rows.rows in
    nexts-at all (At span.after) span.upto b.core.end b.core.spent (less (At span.after) span.upto) board.rows.before rows (fronts b.core.segments b.kept) _ asc refl k.below c.counted.spent f is

-- the rows that a drain takes out are the next ones of the span, whatever ended it
pub next_rows : {R : Type 0} (all : List (Entry R)) (span : Span) (cuts : List (List ℕ)) (b : Held R) (rows : List R) → Ascends all → AreInside cuts span → IsBoardOf all span cuts b → rows ≡ front_rows b
    → rows ≡ take (length rows) (drop (drained b.log) (rows_of (listed_in all span)))
next_rows {R} all span cuts b rows asc inside board is =
    let p = parted all span cuts b rows asc inside board is in
    cut-out board.rows.before rows p.0 (rows_of (listed_in all span)) (drained b.log) p.1 board.rows.count

-- no more are drained than there are
pub not_past : {R : Type 0} (all : List (Entry R)) (span : Span) (cuts : List (List ℕ)) (b : Held R) → Ascends all → AreInside cuts span → IsBoardOf all span cuts b → drained b.log ≤ length (rows_of (listed_in all span))
not_past {R} all span cuts b asc inside board =
    let p = parted all span cuts b (front_rows b) asc inside board refl in
    let whole = ap (λ (l : List R). length l) p.1 in
    let a = length-append (board.rows.before ++ front_rows b) p.0 in
    let c = length-append board.rows.before (front_rows b) in
    let d = board.rows.count in
    omega (arith, whole, a, c, d)

-- after the last drain nothing is left

emptied-closed : {R : Type 0} (segs : List Segment) (kept : List (List R)) → list_all is_closed (left segs) ≡ true → joined (emptied [] segs kept) ≡ []
emptied-closed [] kept h = refl
emptied-closed (s ∷ ss) [] h = refl
emptied-closed (s ∷ []) (k ∷ ks) h = refl
emptied-closed {R} (s ∷ t ∷ ss) (k ∷ ks) h =
    elim (is_closed s) as (λ b. is_closed s ≡ b → list_all is_closed (if b then left (t ∷ ss) else record s { rows = 0 } ∷ (t ∷ ss)) ≡ true → joined (if b then emptied [] (t ∷ ss) ks else [] ∷ ks) ≡ []) [
      | true ↦ λ q r. emptied-closed (t ∷ ss) ks r
      | false ↦ λ q r. absurd (cc (sym (and-left (is_closed s) (list_all is_closed (t ∷ ss)) r) ∙ q))
    ] refl h

others-length : {R : Type 0} (all : List (Entry R)) (segs : List Segment) (kept : List (List R)) → Others rows_of all segs kept → length kept ≡ length segs
others-length all [] [] h = refl
others-length all [] (k ∷ ks) h = absurd h
others-length all (s ∷ ss) [] h = absurd h
others-length all (s ∷ ss) (k ∷ ks) h = let r = others-length all ss ks h.1 in omega (arith, r)

measures-length : {R : Type 0} (all : List (Entry R)) (from : Bound) (before : List R) (segs : List Segment) (kept : List (List R)) → Measures join rows_of all from before segs kept → length kept ≡ length segs
measures-length all from before [] kept h = absurd h
measures-length all from before (s ∷ ss) [] h = absurd h
measures-length all from before (s ∷ ss) (k ∷ ks) h = let r = others-length all ss ks h.1 in omega (arith, r)

pub all_drained : {R : Type 0} (all : List (Entry R)) (span : Span) (cuts : List (List ℕ)) (ops : List Event) (workers calls n : ℕ) (old new : Held R) (reply : Reply) → IsRun all span cuts ops workers new calls
    → Adds old (Drain n) reply [] new → all_closed new.core ≡ true → drained new.log ≡ length (rows_of (listed_in all span))
all_drained {R} all span cuts ops workers calls n old new reply k adds closed =
    let l : Listing R = record { rows = joined new.kept; tried = capped (new.core.past + sum_by (λ g. g.tried) new.core.segments); spent = spent_key new.core } in
    let is : IsListing new l = record { rows = refl; tried = refl; spent = refl } in
    let same = measures-length all (At span.after) k.board.rows.before new.core.segments new.kept k.board.rows.rows in
    let lists = whole_listing all span cuts ops workers calls new l k closed (listed new l same closed is) in
    let left-closed : list_all is_closed (left old.core.segments) ≡ true = ap (λ (s : State). list_all is_closed s.segments) (sym adds.step.new_is) ∙ closed in
    let none : joined new.kept ≡ [] = ap (λ (ks : List (List R)). joined ks) adds.kept ∙ emptied-closed old.core.segments old.kept left-closed in
    let none-left : drop (drained new.log) (rows_of (listed_in all span)) ≡ [] = sym lists.rows ∙ none in
    let a = ap (λ (x : List R). length x) none-left in
    let b = length-drop (drained new.log) (rows_of (listed_in all span)) in
    let c = not_past all span cuts new k.ascends k.inside k.board in
    omega (arith, a, b, c)
