-- A walk over a span whose rows are handed over.
use Rattle.std.proofs.Common.{◌≡◌, ℕ, zero, suc, ◌+◌, ◌-◌, ◌^◌, ◌≤◌, List, [], ◌∷◌, ◌++◌, Bool, true, false, length, take, map, refl, sym, ap, ◌∙◌, subst, arith, length-append, append_assoc, append-nil}
use Rattle.std.specs.Prelude.{◌||◌, min, Option, Some, None, Result, Ok, Err, IfOk, if◌then◌else◌}
use Rattle.std.proofs.lemmas.List.{map-append}
use Rattle.kr_base.specs.Causes.{capped}
use Rattle.kr_base.specs.declared.memory.NoMemory.{NoMemory}
use Rattle.kr_base.specs.declared.entry.Entry.{Entry}
use Rattle.kr_base.specs.declared.entry.Mark.{Mark}
use Rattle.kr_base.specs.declared.entry.Mark.TheVariants.{Valid, Invalid, Spent}
use Rattle.kr_base.specs.declared.span.Bound.{Bound}
use Rattle.kr_base.specs.declared.span.Bound.TheVariants.{At}
use Rattle.kr_base.specs.declared.span.Span.{Span}
use Rattle.kr_base.specs.Entries.{entries_in, is_spent, through_spent}
use Rattle.kr_survey.specs.Listings.{listed_in, spent_in}
use Rattle.kr_survey.specs.Mapping.{entries_by, entry_by, mark_by}
use Rattle.kr_survey.specs.Scans.{any_spent, row_of, rows_of}
use Rattle.kr_survey.specs.Takings.{Takes, Took, Ends, Halts, Hands}
use Rattle.kr_survey.specs.declared.taker.End.{End}
use Rattle.kr_survey.specs.declared.taker.End.TheVariants.{Whole, Full as AtFull}
use Rattle.kr_survey.specs.declared.taker.Halt.{Halt}
use Rattle.kr_survey.specs.declared.taker.Halt.TheVariants.{Sink, Memory}
use Rattle.kr_survey.specs.declared.taker.Room.{Room}
use Rattle.kr_survey.specs.declared.taker.Room.TheVariants.{More, Full}
use Rattle.kr_survey.proofs.Mapping.{entries_in_by, length_of_entries_by, rows_by}
use Rattle.kr_scan.specs.Filling.{IfFull, StopsWhenFull}
use Rattle.kr_scan.specs.Stops.{EndsAt}
use Rattle.kr_survey.proofs.Scanning.{length-more, rows-more, spent-more}

-- ---- entries

spent_by : {R B : Type 0} (f : R → B) (m : Mark R) → is_spent (mark_by f m) ≡ is_spent m
spent_by f (Valid row) = refl
spent_by f Invalid = refl
spent_by f Spent = refl

spent_in_by : {R B : Type 0} (f : R → B) (es : List (Entry R)) → spent_in (entries_by f es) ≡ spent_in es
spent_in_by f [] = refl
spent_in_by {R} f (e ∷ es) =
    ap (λ (b : Bool). if b then Some e.key else spent_in (entries_by f es)) (spent_by f e.mark)
    ∙ ap (λ (k : Option (List ℕ)). if is_spent e.mark then Some e.key else k) (spent_in_by f es)

-- of a list without a spent one
spent_after : {R : Type 0} (xs ys : List (Entry R)) → any_spent xs ≡ false → spent_in (xs ++ ys) ≡ spent_in ys
spent_after [] ys h = refl
spent_after {R} (x ∷ xs) ys h =
    elim (is_spent x.mark) as (λ t. (t || any_spent xs) ≡ false → (if t then Some x.key else spent_in (xs ++ ys)) ≡ spent_in ys) [
      | true ↦ λ s. absurd (cc (s))
      | false ↦ λ s. spent_after xs ys s
    ] h

rows_both : {R : Type 0} (xs ys : List (Entry R)) → rows_of (xs ++ ys) ≡ rows_of xs ++ rows_of ys
rows_both [] ys = refl
rows_both (x ∷ xs) ys = ap (λ l. row_of x.mark ++ l) (rows_both xs ys) ∙ sym (append_assoc (row_of x.mark) (rows_of xs) (rows_of ys))

no_row : {R : Type 0} (m : Mark R) → is_spent m ≡ true → row_of m ≡ []
no_row (Valid row) h = absurd (cc (h))
no_row Invalid h = absurd (cc (h))
no_row Spent h = refl

take_front : {A : Type 0} (xs ys : List A) → take (length xs) (xs ++ ys) ≡ xs
take_front [] ys = refl
take_front (x ∷ xs) ys = ap (λ l. x ∷ l) (take_front xs ys)

capped_more : (n : ℕ) → min (capped n + 1) (2 ^ 64 - 1) ≡ capped (n + 1)
capped_more n = omega arith

-- of the entries of a span these are walked, none of them spent, and others are left
pub record IsWalked {R : Type 0} (es done left : List (Entry R)) (tried : ℕ) : Type 0 where
  pub whole : es ≡ done ++ through_spent left
  pub unspent : any_spent done ≡ false
  pub tried_is : tried ≡ capped (length done)

pub at_start : {R : Type 0} (left : List (Entry R)) → IsWalked (through_spent left) [] left 0
at_start left = record { whole = refl; unspent = refl; tried_is = refl }

module _ {R : Type 0} (es done left : List (Entry R)) (tried : ℕ) (is : IsWalked es done left tried) where
  through_next : (e : Entry R) (rest : List (Entry R)) → is_spent e.mark ≡ false → through_spent (e ∷ rest) ≡ e ∷ through_spent rest
  through_next e rest h = ap (λ (b : Bool). let l : List (Entry R) = if b then [] else through_spent rest in e ∷ l) h

  -- an entry more
  pub one_more : (e : Entry R) (rest : List (Entry R)) (later : ℕ) → left ≡ e ∷ rest → is_spent e.mark ≡ false → later ≡ min (tried + 1) (2 ^ 64 - 1) → IsWalked es (done ++ e ∷ []) rest later
  one_more e rest later next unspent counts = record {
    whole = is.whole ∙ (ap (λ l. done ++ through_spent l) next ∙ (ap (λ l. done ++ l) (through_next e rest unspent) ∙ sym (append_assoc done (e ∷ []) (through_spent rest))));
    unspent = spent-more done e is.unspent ∙ unspent;
    tried_is = counts ∙ (ap (λ n. min (n + 1) (2 ^ 64 - 1)) is.tried_is ∙ (capped_more (length done) ∙ ap capped (sym (length-more done e))));
  }

  front : {B : Type 0} (f : R → B) → take (length (map f (rows_of done))) (rows_of (entries_by f es)) ≡ map f (rows_of done)
  front f =
      let rows = map f (rows_of done) in
      let rest = map f (rows_of (through_spent left)) in
      let all : rows_of (entries_by f es) ≡ rows ++ rest = rows_by f es ∙ (ap (λ l. map f (rows_of l)) is.whole ∙ (ap (map f) (rows_both done (through_spent left)) ∙ map-append f (rows_of done) (rows_of (through_spent left)))) in
      ap (take (length rows)) all ∙ take_front rows rest

  module _ {B T K : Type 0} (takes : Takes T K B) (f : R → B) (a b : T) (from out : K) (taken : takes a from (map f (rows_of done)) b out (Some More)) where
    -- none is left
    pub ends_whole : left ≡ [] → Ends takes (entries_by f es) a from b out (Whole tried None)
    ends_whole none =
        let all : es ≡ done = is.whole ∙ (ap (λ l. done ++ through_spent l) none ∙ append-nil done) in (
          subst (λ rows. takes a from rows b out (Some More)) (sym (rows_by f es ∙ ap (λ l. map f (rows_of l)) all)) taken,
          is.tried_is ∙ ap capped (sym (length_of_entries_by f es ∙ ap (λ (l : List (Entry R)). length l) all)),
          sym (spent_in_by f es ∙ (ap spent_in (all ∙ sym (append-nil done)) ∙ spent_after done [] is.unspent)),
        )

    -- the next one is spent
    pub ends_spent : (e : Entry R) (rest : List (Entry R)) (later : ℕ) (key : List ℕ) → left ≡ e ∷ rest → is_spent e.mark ≡ true → later ≡ min (tried + 1) (2 ^ 64 - 1) → key ≡ e.key → Ends takes (entries_by f es) a from b out (Whole later (Some key))
    ends_spent e rest later key next spent counts key_is =
        let last : through_spent (e ∷ rest) ≡ e ∷ [] = ap (λ (t : Bool). let l : List (Entry R) = if t then [] else through_spent rest in e ∷ l) spent in
        let all : es ≡ done ++ e ∷ [] = is.whole ∙ (ap (λ l. done ++ through_spent l) next ∙ ap (λ l. done ++ l) last) in
        let rows : rows_of es ≡ rows_of done = ap (λ l. rows_of l) all ∙ (rows-more done e ∙ (ap (λ l. rows_of done ++ l) (no_row e.mark spent) ∙ append-nil (rows_of done))) in
        let found : spent_in (e ∷ []) ≡ Some e.key = ap (λ (t : Bool). let k : Option (List ℕ) = if t then Some e.key else None in k) spent in (
          subst (λ rs. takes a from rs b out (Some More)) (sym (rows_by f es ∙ ap (map f) rows)) taken,
          counts ∙ (ap (λ n. min (n + 1) (2 ^ 64 - 1)) is.tried_is ∙ (capped_more (length done) ∙ ap capped (sym (length_of_entries_by f es ∙ (ap (λ (l : List (Entry R)). length l) all ∙ length-more done e))))),
          sym (spent_in_by f es ∙ (ap spent_in all ∙ (spent_after done (e ∷ []) is.unspent ∙ (found ∙ ap Some (sym key_is))))),
        )

    -- memory is refused
    pub halts_memory : (why : NoMemory) → Halts takes (entries_by f es) a from b out (Memory why)
    halts_memory why = (length (map f (rows_of done)), More, subst (λ rows. takes a from rows b out (Some More)) (sym (front f)) taken)

    -- it is spent, or memory is refused for its key
    pub spent_exit : (e : Entry R) (rest : List (Entry R)) (later : ℕ) (key : List ℕ) (r : Result End Halt) → EndsAt later key r → left ≡ e ∷ rest → is_spent e.mark ≡ true → later ≡ min (tried + 1) (2 ^ 64 - 1) → key ≡ e.key
        → Hands takes (entries_by f es) a from b out r
    spent_exit e rest later key (Ok end) at next spent counts key_is = subst (Ends takes (entries_by f es) a from b out) (sym at) (ends_spent e rest later key next spent counts key_is)
    spent_exit e rest later key (Err (Memory why)) at next spent counts key_is = halts_memory why
    spent_exit e rest later key (Err Sink) at next spent counts key_is = absurd at

  module _ {B T K : Type 0} (takes : Takes T K B) (f : R → B) (a b : T) (from out : K) (e : Entry R) (rest : List (Entry R)) (next : left ≡ e ∷ rest) (unspent : is_spent e.mark ≡ false) where
    -- the rows with those of the next entry
    rows_now : map f (rows_of done) ++ map f (row_of e.mark) ≡ map f (rows_of (done ++ e ∷ []))
    rows_now = sym (ap (map f) (rows-more done e) ∙ map-append f (rows_of done) (row_of e.mark))

    front_now : take (length (map f (rows_of done) ++ map f (row_of e.mark))) (rows_of (entries_by f es)) ≡ map f (rows_of done) ++ map f (row_of e.mark)
    front_now =
        let later = one_more e rest (min (tried + 1) (2 ^ 64 - 1)) next unspent refl in
        let rows = map f (rows_of (done ++ e ∷ [])) in
        let behind = map f (rows_of (through_spent rest)) in
        let all : rows_of (entries_by f es) ≡ rows ++ behind = rows_by f es ∙ (ap (λ l. map f (rows_of l)) later.whole ∙ (ap (map f) (rows_both (done ++ e ∷ []) (through_spent rest)) ∙ map-append f (rows_of (done ++ e ∷ [])) (rows_of (through_spent rest)))) in
        ap (λ (l : List B). take (length l) (rows_of (entries_by f es))) rows_now ∙ (ap (take (length rows)) all ∙ (take_front rows behind ∙ sym rows_now))

    pub goes_on : takes a from (map f (rows_of done) ++ map f (row_of e.mark)) b out (Some More) → takes a from (map f (rows_of (done ++ e ∷ []))) b out (Some More)
    goes_on t = subst (λ rows. takes a from rows b out (Some More)) rows_now t

    pub ends_full : takes a from (map f (rows_of done) ++ map f (row_of e.mark)) b out (Some Full) → Ends takes (entries_by f es) a from b out AtFull
    ends_full t = (length (map f (rows_of done) ++ map f (row_of e.mark)), subst (λ rows. takes a from rows b out (Some Full)) (sym front_now) t)

    -- the taker had room before it
    pub stops_when_full : (taker : T) (output : K) (start before now : ℕ) → takes a from (map f (rows_of done)) taker output (Some More) → before ≤ start + length done → now ≤ before + 1 → StopsWhenFull takes (entries_by f es) a from start now 0
    stops_when_full taker output start before now t b n =
        let later = one_more e rest (min (tried + 1) (2 ^ 64 - 1)) next unspent refl in
        let rests = entries_by f (through_spent rest) in
        record {
          front = entries_by f done;
          last = entry_by f e;
          behind = rests;
          parts = ap (entries_by f) later.whole ∙ (map-append (entry_by f) (done ++ e ∷ []) (through_spent rest) ∙ (ap (λ l. l ++ rests) (map-append (entry_by f) done (e ∷ [])) ∙ append_assoc (entries_by f done) (entry_by f e ∷ []) rests));
          taker = taker;
          output = output;
          room = subst (λ rows. takes a from rows taker output (Some More)) (sym (rows_by f done)) t;
          few = omega (arith, b, n, length_of_entries_by f done);
        }

    pub halts : (halt : Halt) → Took takes a from (map f (rows_of done)) (map f (row_of e.mark)) b out (Err halt) → Halts takes (entries_by f es) a from b out halt
    halts Sink t = (length (map f (rows_of done) ++ map f (row_of e.mark)), subst (λ rows. takes a from rows b out None) (sym front_now) t)
    halts (Memory why) t = (length (map f (rows_of done)), More, subst (λ rows. takes a from rows b out (Some More)) (sym (front f)) t)

-- what is handed over of the entries in a span is what is listed of entries made so
pub listed : {R B T K : Type 0} (takes : Takes T K B) (f : R → B) (all some : List (Entry R)) (span : Span) (cut : List ℕ) (upto : Bound) (a b : T) (from out : K) (r : Result End Halt) → some ≡ all → cut ≡ span.after → upto ≡ span.upto
    → Hands takes (entries_by f (entries_in (At cut) upto some)) a from b out r → Hands takes (listed_in (entries_by f all) span) a from b out r
listed {R} takes f all some span cut upto a b from out r s c u h =
    let e : entries_in (At cut) upto some ≡ entries_in (At span.after) span.upto all =
    ap (λ (l : List (Entry R)). entries_in (At cut) upto l) s ∙ (ap (λ (k : List ℕ). entries_in (At k) upto all) c ∙ ap (λ (b : Bound). entries_in (At span.after) b all) u) in
    subst (λ es. Hands takes es a from b out r) (ap (λ (l : List (Entry R)). entries_by f l) e ∙ sym (entries_in_by f (At span.after) span.upto all)) h

-- ---- runs

-- what holds anyway
pub if_ok : {A E : Type 0} (r : Result A E) (P : Type 0) → P → IfOk r (λ a. P)
if_ok (Ok a) P p = p
if_ok (Err e) P p = tt

-- one more, after at most one for each entry that was walked
pub runs_in : {R : Type 0} (es done left : List (Entry R)) (tried : ℕ) → IsWalked es done left tried → (start before after : ℕ) → before ≤ start + length done → after ≤ before + 1 → after ≤ start + length es + 1
runs_in {R} es done left tried is start before after b a = omega (arith, b, a, ap (λ (l : List (Entry R)). length l) is.whole ∙ length-append done (through_spent left))

pub runs_listed : {R : Type 0} (all some : List (Entry R)) (span : Span) (cut : List ℕ) (upto : Bound) (r : Result End Halt) (start sought after : ℕ) → some ≡ all → cut ≡ span.after → upto ≡ span.upto
    → sought ≤ start + length span.after + 1 → IfOk r (λ end. after ≤ sought + length (entries_in (At cut) upto some) + 1) → IfOk r (λ end. after ≤ start + length (entries_in (At span.after) span.upto all) + length span.after + 2)
runs_listed all some span cut upto (Err halt) start sought after s c u h k = tt
runs_listed {R} all some span cut upto (Ok end) start sought after s c u h k =
    let e : entries_in (At cut) upto some ≡ entries_in (At span.after) span.upto all =
    ap (λ (l : List (Entry R)). entries_in (At cut) upto l) s ∙ (ap (λ (k : List ℕ). entries_in (At k) upto all) c ∙ ap (λ (b : Bound). entries_in (At span.after) b all) u) in
    omega (arith, h, k, ap (λ (l : List (Entry R)). length l) e)

-- ---- a full taker

-- a spent entry fills nothing
pub spent_fills_nothing : (tried : ℕ) (key : List ℕ) (r : Result End Halt) (P : Type 0) → EndsAt tried key r → IfOk r (λ end. IfFull end P)
spent_fills_nothing tried key (Ok end) P at = subst (λ (x : End). IfFull x P) (sym at) tt
spent_fills_nothing tried key (Err halt) P at = tt

-- in the terms of what is listed
pub full_listed : {R B T K : Type 0} (takes : Takes T K B) (f : R → B) (all some : List (Entry R)) (span : Span) (cut : List ℕ) (upto : Bound) (a : T) (from : K) (r : Result End Halt) (start sought now : ℕ) → some ≡ all → cut ≡ span.after → upto ≡ span.upto
    → sought ≤ start + length span.after + 1 → IfOk r (λ end. IfFull end (StopsWhenFull takes (entries_by f (entries_in (At cut) upto some)) a from sought now 0)) → IfOk r (λ end. IfFull end (StopsWhenFull takes (listed_in (entries_by f all) span) a from start now (length span.after + 1)))
full_listed takes f all some span cut upto a from (Err halt) start sought now s c u h k = tt
full_listed takes f all some span cut upto a from (Ok (Whole tried spent)) start sought now s c u h k = tt
full_listed {R} {B} takes f all some span cut upto a from (Ok AtFull) start sought now s c u h k =
    let e : entries_in (At cut) upto some ≡ entries_in (At span.after) span.upto all =
    ap (λ (l : List (Entry R)). entries_in (At cut) upto l) s ∙ (ap (λ (k : List ℕ). entries_in (At k) upto all) c ∙ ap (λ (b : Bound). entries_in (At span.after) b all) u) in
    let same : entries_by f (entries_in (At cut) upto some) ≡ listed_in (entries_by f all) span = ap (λ (l : List (Entry R)). entries_by f l) e ∙ sym (entries_in_by f (At span.after) span.upto all) in
    record {
      front = k.front;
      last = k.last;
      behind = k.behind;
      parts = sym same ∙ k.parts;
      taker = k.taker;
      output = k.output;
      room = k.room;
      few = omega (arith, h, k.few);
    }
