-- A listing that leaves rows out.
use Rattle.std.proofs.Common.{◌≡◌, ℕ, zero, suc, ◌+◌, ◌-◌, ◌^◌, ◌<◌, ◌≤◌, ◌⊎◌, inl, inr, List, [], ◌∷◌, ◌++◌, Bool, true, false, length, length-append, take, refl, sym, ap, ◌∙◌, subst, arith}
use Rattle.std.specs.Prelude.{Option, Some, None, ◌&&◌, not, filter, map, if◌then◌else◌}
use Rattle.std.specs.List.{count_by, list_all, sum_by}
use Rattle.std.proofs.lemmas.List.{take-append-le}
use Rattle.std.proofs.lemmas.List.Sums.{sum_by-cons}
use Rattle.kr_base.specs.declared.span.Bound.{Bound}
use Rattle.kr_base.specs.declared.span.Bound.TheVariants.{At}
use Rattle.kr_base.specs.declared.span.Span.{Span}
use Rattle.kr_base.specs.declared.entry.Entry.{Entry}
use Rattle.kr_base.specs.Bounds.{is_same, less}
use Rattle.kr_base.specs.Causes.{capped}
use Rattle.kr_base.specs.Entries.{AllAfter, Ascends, entries_in, is_spent, is_valid, is_within, through_spent, within}
use Rattle.kr_base.proofs.Bounds.{asymmetric, irreflexive, less_from_before, not_above, not_above_less, transitive}
use Rattle.kr_base.proofs.Spans.{within_two}
use Rattle.kr_core.specs.declared.event.Event.{Event}
use Rattle.kr_core.specs.declared.segment.Segment.{Segment}
use Rattle.kr_core.specs.States.{State}
use Rattle.kr_core.specs.Counts.{counted, last_stop}
use Rattle.kr_core.specs.Cutting.{cuts_for}
use Rattle.kr_core.specs.Openings.{end_of}
use Rattle.kr_core.specs.Rows.{drained, valid_in}
use Rattle.kr_core.proofs.Cuts.{cuts_inside}
use Rattle.kr_core.proofs.Ends.{counting_law}
use Rattle.kr_core.proofs.Rowing.{rows_law}
use Rattle.kr_trace.specs.declared.ending.Last.TheVariants.{More}
use Rattle.kr_trace.specs.Checked.{agrees, is_last_key}
use Rattle.korat_top_laws.specs.Honest.{valid_keys}
use Rattle.korat_top_laws.specs.More.{LeavesOut, MoreLaw, SaysMore, last_of}
use Rattle.korat_top_laws.proofs.Spent.{after_within, ascends_within, keys_with, keys_without, not_valid}
use Rattle.korat_top_laws.proofs.Whole.{each_closed}

-- the keys of the rows up to the first spent entry
abbrev pub keys_of : {R : Type 0} → List (Entry R) → List (List ℕ)
keys_of es = valid_keys (through_spent es)

-- ---- one entry

keys_spent : {R : Type 0} (e : Entry R) (es : List (Entry R)) → is_spent e.mark ≡ true → keys_of (e ∷ es) ≡ []
keys_spent e es h = ap (λ (t : Bool). valid_keys (e ∷ (if t then [] else through_spent es))) h ∙ keys_without e [] (not_valid e.mark h)

keys_invalid : {R : Type 0} (e : Entry R) (es : List (Entry R)) → is_spent e.mark ≡ false → is_valid e.mark ≡ false → keys_of (e ∷ es) ≡ keys_of es
keys_invalid e es h k = ap (λ (t : Bool). valid_keys (e ∷ (if t then [] else through_spent es))) h ∙ keys_without e (through_spent es) k

with_valid : {R : Type 0} (e : Entry R) (es : List (Entry R)) → is_valid e.mark ≡ true → valid_keys (e ∷ es) ≡ e.key ∷ valid_keys es
with_valid {R} e es h = ap (λ (t : Bool). map (λ (x : Entry R). x.key) (if t then e ∷ filter (λ (x : Entry R). is_valid x.mark) es else filter (λ (x : Entry R). is_valid x.mark) es)) h

keys_valid : {R : Type 0} (e : Entry R) (es : List (Entry R)) → is_spent e.mark ≡ false → is_valid e.mark ≡ true → keys_of (e ∷ es) ≡ e.key ∷ keys_of es
keys_valid e es h k = ap (λ (t : Bool). valid_keys (e ∷ (if t then [] else through_spent es))) h ∙ with_valid e (through_spent es) k

-- an entry is spent, is valid, or is neither
pub by_mark : {R : Type 0} (e : Entry R) (C : Type 0) → (is_spent e.mark ≡ true → C) → (is_spent e.mark ≡ false → is_valid e.mark ≡ false → C) → (is_spent e.mark ≡ false → is_valid e.mark ≡ true → C) → C
by_mark e C s n v =
    elim (is_spent e.mark) as (λ t. is_spent e.mark ≡ t → C) [
      | true ↦ λ h. s h
      | false ↦ λ h. elim (is_valid e.mark) as (λ t. is_valid e.mark ≡ t → C) [ true ↦ λ k. v h k | false ↦ λ k. n h k ] refl
    ] refl

-- ---- keys ascend

-- all of these are above a key
abbrev AllAbove : List ℕ → List (List ℕ) → Type 0
AllAbove k [] = Unit {0}
AllAbove k (x ∷ xs) = (less (At k) (At x) ≡ true) × AllAbove k xs

keys_above : {R : Type 0} (k : List ℕ) (es : List (Entry R)) → AllAfter k es → AllAbove k (keys_of es)
keys_above k [] h = tt
keys_above k (e ∷ es) h =
    by_mark e (AllAbove k (keys_of (e ∷ es)))
    (λ s. subst (λ (ks : List (List ℕ)). AllAbove k ks) (sym (keys_spent e es s)) tt)
    (λ s n. subst (λ (ks : List (List ℕ)). AllAbove k ks) (sym (keys_invalid e es s n)) (keys_above k es h.1))
    (λ s v. subst (λ (ks : List (List ℕ)). AllAbove k ks) (sym (keys_valid e es s v)) (less_from_before k e.key h.0, keys_above k es h.1))

last_above : (k key : List ℕ) (n : ℕ) (ks : List (List ℕ)) → AllAbove k ks → last_of (take n ks) ≡ Some key → less (At k) (At key) ≡ true
last_above k key zero ks h last = absurd (cc (last))
last_above k key (suc n) [] h last = absurd (cc (last))
last_above k key (suc zero) (x ∷ xs) h last = let same : x ≡ key = cc (last) in subst (λ (y : List ℕ). less (At k) (At y) ≡ true) same h.0
last_above k key (suc (suc n)) (x ∷ []) h last = let same : x ≡ key = cc (last) in subst (λ (y : List ℕ). less (At k) (At y) ≡ true) same h.0
last_above k key (suc (suc n)) (x ∷ y ∷ ys) h last = last_above k key (suc n) (y ∷ ys) h.1 last

-- ---- entries up to a key

-- those not above a key
abbrev up_to : {R : Type 0} → List ℕ → List (Entry R) → List (Entry R)
up_to key es = filter (λ e. not (less (At key) (At e.key))) es

upto_none : {R : Type 0} (key : List ℕ) (es : List (Entry R)) → AllAfter key es → up_to key es ≡ []
upto_none key [] h = refl
upto_none {R} key (e ∷ es) h = ap (λ (t : Bool). if not t then e ∷ up_to key es else up_to key es) (less_from_before key e.key h.0) ∙ upto_none key es h.1

upto_kept : {R : Type 0} (key : List ℕ) (e : Entry R) (es : List (Entry R)) → less (At key) (At e.key) ≡ false → up_to key (e ∷ es) ≡ e ∷ up_to key es
upto_kept key e es h = ap (λ (t : Bool). if not t then e ∷ up_to key es else up_to key es) h

upto_without : {R : Type 0} (key : List ℕ) (e : Entry R) (es : List (Entry R)) → is_valid e.mark ≡ false → valid_keys (up_to key (e ∷ es)) ≡ valid_keys (up_to key es)
upto_without {R} key e es h = elim (less (At key) (At e.key)) as (λ t. valid_keys (if not t then e ∷ up_to key es else up_to key es) ≡ valid_keys (up_to key es)) [
  | true ↦ refl
  | false ↦ keys_without e (up_to key es) h
]

last_rest : (x key : List ℕ) (n : ℕ) (ks : List (List ℕ)) → last_of (x ∷ take (suc n) ks) ≡ Some key → suc n < length ks → last_of (take (suc n) ks) ≡ Some key
last_rest x key n [] last more = absurd (omega (arith, more))
last_rest x key n (k ∷ ks) last more = last

-- the first rows of ascending entries are those up to the last one's key
first_rows : {R : Type 0} (es : List (Entry R)) (n : ℕ) (key : List ℕ) → Ascends es → last_of (take n (keys_of es)) ≡ Some key → n < length (keys_of es) → take n (keys_of es) ≡ valid_keys (up_to key es)
first_rows [] n key asc last more = absurd (omega (arith, more))
first_rows (e ∷ es) zero key asc last more = absurd (cc (last))
first_rows {R} (e ∷ es) (suc n) key asc last more =
    by_mark e (take (suc n) (keys_of (e ∷ es)) ≡ valid_keys (up_to key (e ∷ es)))
    (λ s. let none : length (keys_of (e ∷ es)) ≡ 0 = ap (λ (ks : List (List ℕ)). length ks) (keys_spent e es s) in absurd (omega (arith, more, none)))
    (λ s v.
    let same = keys_invalid e es s v in
    ap (take (suc n)) same
    ∙ (first_rows es (suc n) key asc.1 (sym (ap (λ (ks : List (List ℕ)). last_of (take (suc n) ks)) same) ∙ last) (subst (λ (ks : List (List ℕ)). suc n < length ks) same more)
    ∙ sym (upto_without key e es v)))
    (λ s v.
    let same = keys_valid e es s v in
    let last' : last_of (take (suc n) (e.key ∷ keys_of es)) ≡ Some key = sym (ap (λ (ks : List (List ℕ)). last_of (take (suc n) ks)) same) ∙ last in
    let more' : suc n < length (e.key ∷ keys_of es) = subst (λ (ks : List (List ℕ)). suc n < length ks) same more in
    ap (take (suc n)) same ∙ with_rest (λ m l o. first_rows es m key asc.1 l o) n s v last' more')
  where
    with_rest : ((m : ℕ) → last_of (take m (keys_of es)) ≡ Some key → m < length (keys_of es) → take m (keys_of es) ≡ valid_keys (up_to key es)) → (n : ℕ) → is_spent e.mark ≡ false → is_valid e.mark ≡ true → last_of (e.key ∷ take n (keys_of es)) ≡ Some key → suc n < length (e.key ∷ keys_of es)
        → e.key ∷ take n (keys_of es) ≡ valid_keys (up_to key (e ∷ es))
    with_rest ih zero s v last more =
        let here : e.key ≡ key = cc (last) in
        let after : AllAfter key es = subst (λ (k : List ℕ). AllAfter k es) here asc.0 in
        let kept : less (At key) (At e.key) ≡ false = subst (λ (k : List ℕ). less (At key) (At k) ≡ false) (sym here) (irreflexive (At key)) in
        sym (ap valid_keys (upto_kept key e es kept ∙ ap (λ (xs : List (Entry R)). e ∷ xs) (upto_none key es after)) ∙ with_valid e [] v)
    with_rest ih (suc n) s v last more =
        let rest : last_of (take (suc n) (keys_of es)) ≡ Some key = last_rest e.key key n (keys_of es) last (omega (arith, more)) in
        let below : less (At e.key) (At key) ≡ true = last_above e.key key (suc n) (keys_of es) (keys_above e.key es asc.0) rest in
        ap (λ (ks : List (List ℕ)). e.key ∷ ks) (ih (suc n) rest (omega (arith, more)))
        ∙ sym (ap valid_keys (upto_kept key e es (asymmetric (At e.key) (At key) below)) ∙ with_valid e (up_to key es) v)

-- the row after them is above their last key, and not above a bound
abbrev NoneAbove : {R : Type 0} → Bound → List (Entry R) → Type 0
NoneAbove b [] = Unit {0}
NoneAbove b (e ∷ es) = (less b (At e.key) ≡ false) × NoneAbove b es

abbrev KeysUpto : Bound → List (List ℕ) → Type 0
KeysUpto b [] = Unit {0}
KeysUpto b (k ∷ ks) = (less b (At k) ≡ false) × KeysUpto b ks

some_below : (b : Bound) (k : List ℕ) (ks : List (List ℕ)) → AllAbove k ks → 0 < length ks → KeysUpto b ks → less (At k) b ≡ true
some_below b k [] above some upto = absurd (omega (arith, some))
some_below b k (x ∷ xs) above some upto =
    elim (less (At k) b) as (λ t. less (At k) b ≡ t → t ≡ true) [
      | true ↦ λ e. refl
      | false ↦ λ e. let high : less b (At x) ≡ true = not_above_less b (At k) (At x) e above.0 in let z : true ≡ false = sym high ∙ upto.0 in absurd (cc (z))
    ] refl

keys_upto : {R : Type 0} (b : Bound) (es : List (Entry R)) → NoneAbove b es → KeysUpto b (keys_of es)
keys_upto b [] h = tt
keys_upto b (e ∷ es) h =
    by_mark e (KeysUpto b (keys_of (e ∷ es)))
    (λ s. subst (λ (ks : List (List ℕ)). KeysUpto b ks) (sym (keys_spent e es s)) tt)
    (λ s n. subst (λ (ks : List (List ℕ)). KeysUpto b ks) (sym (keys_invalid e es s n)) (keys_upto b es h.1))
    (λ s v. subst (λ (ks : List (List ℕ)). KeysUpto b ks) (sym (keys_valid e es s v)) (h.0, keys_upto b es h.1))

none_above : {R : Type 0} (a b : Bound) (es : List (Entry R)) → NoneAbove b (within a b es)
none_above a b [] = tt
none_above {R} a b (e ∷ es) = elim (less a (At e.key)) as (λ t. NoneAbove b (if t && not (less b (At e.key)) then e ∷ within a b es else within a b es)) [
  | true ↦ elim (less b (At e.key)) as (λ t. less b (At e.key) ≡ t → NoneAbove b (if not t then e ∷ within a b es else within a b es)) [
    | true ↦ λ h. none_above a b es
    | false ↦ λ h. (h, none_above a b es)
  ] refl
  | false ↦ none_above a b es
]

-- ascending keys
abbrev Climb : List (List ℕ) → Type 0
Climb [] = Unit {0}
Climb (k ∷ ks) = AllAbove k ks × Climb ks

keys_climb : {R : Type 0} (es : List (Entry R)) → Ascends es → Climb (keys_of es)
keys_climb [] asc = tt
keys_climb (e ∷ es) asc =
    by_mark e (Climb (keys_of (e ∷ es)))
    (λ s. subst Climb (sym (keys_spent e es s)) tt)
    (λ s n. subst Climb (sym (keys_invalid e es s n)) (keys_climb es asc.1))
    (λ s v. subst Climb (sym (keys_valid e es s v)) (keys_above e.key es asc.0, keys_climb es asc.1))

last_below : (b : Bound) (key : List ℕ) (n : ℕ) (ks : List (List ℕ)) → Climb ks → KeysUpto b ks → n < length ks → last_of (take n ks) ≡ Some key → less (At key) b ≡ true
last_below b key zero ks climb upto more last = absurd (cc (last))
last_below b key (suc n) [] climb upto more last = absurd (cc (last))
last_below b key (suc zero) (k ∷ ks) climb upto more last =
    let same : k ≡ key = cc (last) in
    subst (λ (x : List ℕ). less (At x) b ≡ true) same (some_below b k ks climb.0 (omega (arith, more)) upto.1)
last_below b key (suc (suc n)) (k ∷ []) climb upto more last = absurd (omega (arith, more))
last_below b key (suc (suc n)) (k ∷ x ∷ xs) climb upto more last = last_below b key (suc n) (x ∷ xs) climb.1 upto.1 (omega (arith, more)) last

-- up to a key below a bound, entries within the bound are those within the key
upto_within : {R : Type 0} (a b : Bound) (key : List ℕ) (es : List (Entry R)) → less (At key) b ≡ true → up_to key (within a b es) ≡ within a (At key) es
upto_within a b key [] h = refl
upto_within {R} a b key (e ∷ es) h = go (upto_within a b key es h) (less a (At e.key)) (less b (At e.key)) (less (At key) (At e.key)) refl refl
  where
    go : up_to key (within a b es) ≡ within a (At key) es → (s t u : Bool) → less b (At e.key) ≡ t → less (At key) (At e.key) ≡ u
        → up_to key (if s && not t then e ∷ within a b es else within a b es) ≡ (if s && not u then e ∷ within a (At key) es else within a (At key) es)
    go rest false t u p q = rest
    go rest true true true p q = rest
    go rest true true false p q = let z : true ≡ false = sym (transitive (At key) b (At e.key) h p) ∙ q in absurd (cc (z))
    go rest true false true p q = ap (λ (t : Bool). if not t then e ∷ up_to key (within a b es) else up_to key (within a b es)) q ∙ rest
    go rest true false false p q = ap (λ (t : Bool). if not t then e ∷ up_to key (within a b es) else up_to key (within a b es)) q ∙ ap (λ (xs : List (Entry R)). e ∷ xs) rest

-- ---- how many

count_valid : {R : Type 0} (es : List (Entry R)) → valid_in es ≡ length (valid_keys es)
count_valid [] = refl
count_valid {R} (e ∷ es) =
    sum_by-cons (λ (x : Entry R). if is_valid x.mark then 1 else 0) e es
    ∙ elim (is_valid e.mark) as (λ t. (if t then 1 else 0) + valid_in es ≡ length (map (λ (x : Entry R). x.key) (if t then e ∷ filter (λ (x : Entry R). is_valid x.mark) es else filter (λ (x : Entry R). is_valid x.mark) es))) [
      | true ↦ omega (arith, count_valid es)
      | false ↦ omega (arith, count_valid es)
    ]

enough : (limit taken more count : ℕ) → limit < 2 ^ 64 - 1 → limit < taken → capped (taken + more) ≡ capped count → limit < count
enough limit taken more count small past is = omega (arith, small, past, is)

-- ---- a front of the span

through_front : {R : Type 0} (es fs : List (Entry R)) → (rest : List (List ℕ)) × (valid_keys (through_spent (es ++ fs)) ≡ keys_of es ++ rest)
through_front [] fs = (keys_of fs, refl)
through_front {R} (e ∷ es) fs =
    by_mark e ((rest : List (List ℕ)) × (keys_of (e ∷ (es ++ fs)) ≡ keys_of (e ∷ es) ++ rest))
    (λ s. ([], keys_spent e (es ++ fs) s ∙ sym (ap (λ (ks : List (List ℕ)). ks ++ []) (keys_spent e es s))))
    (λ s n. let r = through_front es fs in (r.0, keys_invalid e (es ++ fs) s n ∙ (r.1 ∙ sym (ap (λ (ks : List (List ℕ)). ks ++ r.0) (keys_invalid e es s n)))))
    (λ s v. let r = through_front es fs in
    (r.0, keys_valid e (es ++ fs) s v ∙ (ap (λ (ks : List (List ℕ)). e.key ∷ ks) r.1 ∙ sym (ap (λ (ks : List (List ℕ)). ks ++ r.0) (keys_valid e es s v)))))

front_keys : {R : Type 0} (es : List (Entry R)) (a b c : Bound) (n : ℕ) → Ascends es → less b a ≡ false → less c b ≡ false → n < length (valid_keys (entries_in a b es))
    → take n (valid_keys (entries_in a c es)) ≡ take n (valid_keys (entries_in a b es))
front_keys {R} es a b c n asc low high more =
    let r = through_front (within a b es) (within b c es) in
    let whole : valid_keys (entries_in a c es) ≡ valid_keys (entries_in a b es) ++ r.0 = sym (ap (λ (xs : List (Entry R)). keys_of xs) (within_two a b c es asc low high)) ∙ r.1 in
    ap (take n) whole ∙ take-append-le n (valid_keys (entries_in a b es)) r.0 (omega (arith, more))

-- nothing is within bounds of which the second isn't above the first
pub nothing_within : {R : Type 0} (a b : Bound) (es : List (Entry R)) → less a b ≡ false → within a b es ≡ []
nothing_within a b [] h = refl
nothing_within {R} a b (e ∷ es) h = go (less a (At e.key)) (less b (At e.key)) refl refl ∙ nothing_within a b es h
  where
    go : (s t : Bool) → less a (At e.key) ≡ s → less b (At e.key) ≡ t → (if s && not t then e ∷ within a b es else within a b es) ≡ within a b es
    go false t p q = refl
    go true true p q = refl
    go true false p q = let z : true ≡ false = sym (not_above_less b a (At e.key) h p) ∙ q in absurd (cc (z))

-- where there are rows, the bounds are in order
in_order : {R : Type 0} (a b : Bound) (es : List (Entry R)) (n : ℕ) → n < length (valid_keys (entries_in a b es)) → less a b ≡ true
in_order {R} a b es n more = elim (less a b) as (λ t. less a b ≡ t → t ≡ true) [
  | true ↦ λ e. refl
  | false ↦ λ e.
      let none : length (valid_keys (entries_in a b es)) ≡ 0 = ap (λ (xs : List (Entry R)). length (keys_of xs)) (nothing_within a b es e) in
      absurd (omega (arith, none, more))
] refl

-- ---- together

last_is : (key : List ℕ) (ks : List (List ℕ)) → last_of ks ≡ Some key → is_last_key key ks ≡ true
last_is key [] h = absurd (cc (h))
last_is key (k ∷ []) h =
    let same : k ≡ key = cc (h) in
    subst (λ (x : List ℕ). is_same (At key) (At x) ≡ true) (sym same) (rw (irreflexive (At key)) refl)
last_is key (k ∷ x ∷ xs) h = last_is key (x ∷ xs) h

more_says : (span : Span) (keys : List (List ℕ)) (failing : ℕ) (new : State) (key : List ℕ) → is_last_key key keys ≡ true → less (At key) new.end ≡ true
    → agrees span (record { keys = keys; failing = failing }) new (More key) ≡ true
more_says span keys failing new key last above = rw (last, above) refl

pub more : {R : Type 0} → MoreLaw R
more {R} es span workers limit key log new h =
    let a = At span.after in
    let own = valid_keys (entries_in a new.end es) in
    let counts = counting_law es span (cuts_for span workers) log new h.ascends (cuts_inside span workers) h.runs in
    let listed = counts.listed (each_closed new.segments h.closed) in
    let rows = rows_law es span (cuts_for span workers) log new h.ascends (cuts_inside span workers) h.runs in
    let all : capped (drained log + sum_by (λ (g : Segment). g.rows) new.segments) ≡ capped (length own) =
    rows.all ∙ ap capped (ap (λ (xs : List (Entry R)). valid_in xs) listed.entries ∙ count_valid (entries_in a new.end es)) in
    let some : limit < length own = elim h.past [
      | inl unstopped ↦
          let whole : entries_in a new.end es ≡ entries_in a span.upto es = listed.whole (ap (λ (b : Bound). less b span.upto) unstopped ∙ irreflexive span.upto) in
          subst (λ (xs : List (Entry R)). limit < length (valid_keys xs)) (sym whole) h.more
      | inr past ↦ enough limit (drained log) (sum_by (λ (g : Segment). g.rows) new.segments) (length own) h.small past all
    ] in
    let up : less a new.end ≡ true = in_order a new.end es limit some in
    let wide : less a span.upto ≡ true = in_order a span.upto es limit h.more in
    let end_is : end_of span ≡ span.upto = ap (λ (t : Bool). if t then span.upto else a) wide in
    let high : less span.upto new.end ≡ false = sym (ap (λ (b : Bound). less b new.end) end_is) ∙ counts.ends in
    let same : take limit (valid_keys (entries_in a span.upto es)) ≡ take limit own = front_keys es a new.end span.upto limit h.ascends (asymmetric a new.end up) high some in
    let last : last_of (take limit own) ≡ Some key = sym (ap last_of same) ∙ h.last in
    let asc = ascends_within a new.end es h.ascends in
    let above : less (At key) new.end ≡ true = last_below new.end key limit own (keys_climb (within a new.end es) asc) (keys_upto new.end (within a new.end es) (none_above a new.end es)) some last in
    record {
      keys_are = same ∙ (first_rows (within a new.end es) limit key asc last some ∙ ap valid_keys (upto_within a new.end key es above));
      inside = not_above (At key) new.end (end_of span) (asymmetric (At key) new.end above) counts.ends;
      says = λ failing. more_says span (take limit (valid_keys (entries_in a span.upto es))) failing new key (last_is key (take limit (valid_keys (entries_in a span.upto es))) h.last) above;
    }
