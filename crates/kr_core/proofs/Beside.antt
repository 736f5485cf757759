-- What is kept beside the segments stays what it measures of the entries: each piece that of its segment's entries up to
-- the mark, the first one's joined to what was taken out before.
use Rattle.std.proofs.Common.{◌≡◌, ℕ, List, [], ◌∷◌, ◌++◌, Bool, true, false, ◌==◌, cond, refl, sym, ap, ◌∙◌, subst, Option, Some, None}
use Rattle.std.specs.Prelude.{if◌then◌else◌}
use Rattle.kr_base.specs.declared.span.Bound.{Bound}
use Rattle.kr_base.specs.declared.span.Bound.TheVariants.{At}
use Rattle.kr_base.specs.declared.entry.Entry.{Entry}
use Rattle.kr_base.specs.Bounds.{less}
use Rattle.kr_base.specs.Entries.{Ascends, within}
use Rattle.kr_base.proofs.Bounds.{irreflexive, not_above, asymmetric}
use Rattle.kr_core.specs.declared.segment.Segment.{Segment}
use Rattle.kr_core.specs.declared.event.Event.{Event}
use Rattle.kr_core.specs.declared.event.Event.TheVariants.{Take, Steal, Report, GiveUp, Drain, StopAt, Look}
use Rattle.kr_core.specs.declared.event.Reply.{Reply}
use Rattle.kr_core.specs.States.{State, is_closed, segment_of, change}
use Rattle.kr_core.specs.Steps.{Step, may_report, owned, lowered, stolen, scanned, left, stopped}
use Rattle.kr_core.specs.Beside.{grown, parted, fronts, emptied, first_alone, beside, gathered, Others, Measures}
use Rattle.kr_core.proofs.Spent.{within-append, within-none}
use Rattle.kr_core.proofs.Chains.{Chain}
use Rattle.kr_core.proofs.Steps.{reaches}
use Rattle.kr_core.proofs.Runs.{Holds, closed-mark}

-- the operation joins what two lists of entries measure
pub record IsMeasure {R M : Type 0} (op : M → M → M) (none : M) (val : List (Entry R) → M) : Type 0 where
  pub nil : val [] ≡ none
  pub joins : (xs ys : List (Entry R)) → val (xs ++ ys) ≡ op (val xs) (val ys)
  pub assoc : (x y z : M) → op (op x y) z ≡ op x (op y z)
  pub rest : (x y : M) → op x (op y none) ≡ op x y

-- another owner

others-owned : {R M : Type 0} (val : List (Entry R) → M) (es : List (Entry R)) (owner : Option ℕ) (n : ℕ) (segs : List Segment) (xs : List M)
    → Others val es segs xs → Others val es (change n (λ s ss. owned owner s ∷ ss) segs) xs
others-owned val es owner n [] [] h = tt
others-owned val es owner n [] (x ∷ xs) h = absurd h
others-owned val es owner n (s ∷ ss) [] h = absurd h
others-owned val es owner n (s ∷ ss) (x ∷ xs) h =
    elim (s.number == n) as (λ b. Others val es (cond b (owned owner s ∷ ss) (s ∷ change n (λ t ts. owned owner t ∷ ts) ss)) (x ∷ xs)) [
      | true ↦ h
      | false ↦ (h.0, others-owned val es owner n ss xs h.1)
    ]

measures-owned : {R M : Type 0} (op : M → M → M) (val : List (Entry R) → M) (es : List (Entry R)) (from : Bound) (d : M) (owner : Option ℕ) (n : ℕ) (segs : List Segment) (xs : List M)
    → Measures op val es from d segs xs → Measures op val es from d (change n (λ s ss. owned owner s ∷ ss) segs) xs
measures-owned op val es from d owner n [] xs h = absurd h
measures-owned op val es from d owner n (s ∷ ss) [] h = absurd h
measures-owned op val es from d owner n (s ∷ ss) (x ∷ xs) h =
    elim (s.number == n) as (λ b. Measures op val es from d (cond b (owned owner s ∷ ss) (s ∷ change n (λ t ts. owned owner t ∷ ts) ss)) (x ∷ xs)) [
      | true ↦ h
      | false ↦ (h.0, others-owned val es owner n ss xs h.1)
    ]

-- a report

-- the entries up to a reach are those up to the mark and those from there on
joined-reach : {R M : Type 0} (op : M → M → M) (none : M) (val : List (Entry R) → M) → IsMeasure op none val → (es : List (Entry R)) (a mark reach : Bound) (x more : M) → Ascends es
    → less mark a ≡ false → less mark reach ≡ true → x ≡ val (within a mark es) → more ≡ val (within mark reach es) → op x more ≡ val (within a reach es)
joined-reach {R} {M} op none val m es a mark reach x more asc low up is more_is =
    ap (λ (y : M). op y more) is ∙ (ap (λ (y : M). op (val (within a mark es)) y) more_is
    ∙ (sym (m.joins (within a mark es) (within mark reach es)) ∙ ap val (within-append a mark reach es asc low (asymmetric mark reach up))))

-- what is known of the segment that a report is of
abbrev Reported : {R M : Type 0} → (List (Entry R) → M) → List (Entry R) → Bound → M → Segment → Type 0
Reported val es reach more s = (less s.mark reach ≡ true) × (more ≡ val (within s.mark reach es))

others-end : {R M : Type 0} (val : List (Entry R) → M) (es : List (Entry R)) (spent : Bool) (ss : List Segment) (xs : List M) → Others val es ss xs
    → Others val es (if spent then [] else ss) (if spent then [] else xs)
others-end val es true ss xs h = tt
others-end val es false ss xs h = h

others-grown : {R M : Type 0} (op : M → M → M) (none : M) (val : List (Entry R) → M) → IsMeasure op none val → (P : Type 0) (es : List (Entry R)) (next n : ℕ) (flag : Bool) (reach : Bound) (rows tried : ℕ) (spent : Bool) (more : M) (s : Segment)
    → Ascends es → Reported val es reach more s → (last : Option Segment) (a e : Bound) (segs : List Segment) (xs : List M) → segment_of n segs ≡ Some s → Chain P es next flag last a segs e
    → Others val es segs xs → Others val es (change n (λ t ss. scanned reach rows tried spent t ∷ (if spent then [] else ss)) segs) (grown op n more spent segs xs)
others-grown op none val m P es next n flag reach rows tried spent more s asc r last a e [] xs found h o = absurd (cc (found))
others-grown op none val m P es next n flag reach rows tried spent more s asc r last a e (t ∷ ss) [] found h o = absurd o
others-grown {R} {M} op none val m P es next n flag reach rows tried spent more s asc r last a e (t ∷ ss) (x ∷ xs) found h o =
    elim (t.number == n) as (λ b. cond b (Some t) (segment_of n ss) ≡ Some s
    → Others val es (cond b (scanned reach rows tried spent t ∷ (if spent then [] else ss)) (t ∷ change n (λ u us. scanned reach rows tried spent u ∷ (if spent then [] else us)) ss)) (cond b (op x more ∷ (if spent then [] else xs)) (x ∷ grown op n more spent ss xs))) [
      | true ↦ λ q.
          let same : t ≡ s = cc (q) in
          let r' = subst (λ (u : Segment). Reported val es reach more u) (sym same) r in
          (joined-reach op none val m es t.after t.mark reach x more asc h.1.0.low r'.0 o.0 r'.1, others-end val es spent ss xs o.1)
      | false ↦ λ q. (o.0, others-grown op none val m P es next n flag reach rows tried spent more s asc r (Some t) t.upto e ss xs q h.1.1.1 o.1)
    ] found

measures-grown : {R M : Type 0} (op : M → M → M) (none : M) (val : List (Entry R) → M) → IsMeasure op none val → (P : Type 0) (es : List (Entry R)) (next n : ℕ) (flag : Bool) (reach : Bound) (rows tried : ℕ) (spent : Bool) (more : M) (s : Segment)
    → Ascends es → Reported val es reach more s → (from : Bound) (d : M) (a e : Bound) (segs : List Segment) (xs : List M) → less a from ≡ false → segment_of n segs ≡ Some s → Chain P es next flag None a segs e
    → Measures op val es from d segs xs → Measures op val es from d (change n (λ t ss. scanned reach rows tried spent t ∷ (if spent then [] else ss)) segs) (grown op n more spent segs xs)
measures-grown op none val m P es next n flag reach rows tried spent more s asc r from d a e [] xs above found h o = absurd (cc (found))
measures-grown op none val m P es next n flag reach rows tried spent more s asc r from d a e (t ∷ ss) [] above found h o = absurd o
measures-grown {R} {M} op none val m P es next n flag reach rows tried spent more s asc r from d a e (t ∷ ss) (x ∷ xs) above found h o =
    elim (t.number == n) as (λ b. cond b (Some t) (segment_of n ss) ≡ Some s
    → Measures op val es from d (cond b (scanned reach rows tried spent t ∷ (if spent then [] else ss)) (t ∷ change n (λ u us. scanned reach rows tried spent u ∷ (if spent then [] else us)) ss)) (cond b (op x more ∷ (if spent then [] else xs)) (x ∷ grown op n more spent ss xs))) [
      | true ↦ λ q.
          let same : t ≡ s = cc (q) in
          let r' = subst (λ (u : Segment). Reported val es reach more u) (sym same) r in
          let l = h.1.0 in
          let low : less t.mark from ≡ false = not_above from t.after t.mark (subst (λ (b : Bound). less b from ≡ false) (sym l.adjoins) above) l.low in
          (sym (m.assoc d x more) ∙ joined-reach op none val m es from t.mark reach (op d x) more asc low r'.0 o.0 r'.1, others-end val es spent ss xs o.1)
      | false ↦ λ q. (o.0, others-grown op none val m P es next n flag reach rows tried spent more s asc r (Some t) t.upto e ss xs q h.1.1.1 o.1)
    ] found

-- a theft

nothing : {R M : Type 0} (op : M → M → M) (none : M) (val : List (Entry R) → M) → IsMeasure op none val → (es : List (Entry R)) (b : Bound) → none ≡ val (within b b es)
nothing op none val m es b = sym (ap val (within-none b b es (irreflexive b)) ∙ m.nil)

others-parted : {R M : Type 0} (op : M → M → M) (none : M) (val : List (Entry R) → M) → IsMeasure op none val → (es : List (Entry R)) (seat victim : ℕ) (c : List ℕ) (n : ℕ) (segs : List Segment) (xs : List M)
    → Others val es segs xs → Others val es (change victim (λ s ss. lowered c s ∷ (stolen seat c n s ∷ ss)) segs) (parted none victim segs xs)
others-parted op none val m es seat victim c n [] [] o = tt
others-parted op none val m es seat victim c n [] (x ∷ xs) o = absurd o
others-parted op none val m es seat victim c n (s ∷ ss) [] o = absurd o
others-parted op none val m es seat victim c n (s ∷ ss) (x ∷ xs) o =
    elim (s.number == victim) as (λ b. Others val es (cond b (lowered c s ∷ (stolen seat c n s ∷ ss)) (s ∷ change victim (λ t ts. lowered c t ∷ (stolen seat c n t ∷ ts)) ss)) (cond b (x ∷ (none ∷ xs)) (x ∷ parted none victim ss xs))) [
      | true ↦ (o.0, (nothing op none val m es (At c), o.1))
      | false ↦ (o.0, others-parted op none val m es seat victim c n ss xs o.1)
    ]

measures-parted : {R M : Type 0} (op : M → M → M) (none : M) (val : List (Entry R) → M) → IsMeasure op none val → (es : List (Entry R)) (from : Bound) (d : M) (seat victim : ℕ) (c : List ℕ) (n : ℕ) (segs : List Segment) (xs : List M)
    → Measures op val es from d segs xs → Measures op val es from d (change victim (λ s ss. lowered c s ∷ (stolen seat c n s ∷ ss)) segs) (parted none victim segs xs)
measures-parted op none val m es from d seat victim c n [] xs o = absurd o
measures-parted op none val m es from d seat victim c n (s ∷ ss) [] o = absurd o
measures-parted op none val m es from d seat victim c n (s ∷ ss) (x ∷ xs) o =
    elim (s.number == victim) as (λ b. Measures op val es from d (cond b (lowered c s ∷ (stolen seat c n s ∷ ss)) (s ∷ change victim (λ t ts. lowered c t ∷ (stolen seat c n t ∷ ts)) ss)) (cond b (x ∷ (none ∷ xs)) (x ∷ parted none victim ss xs))) [
      | true ↦ (o.0, (nothing op none val m es (At c), o.1))
      | false ↦ (o.0, others-parted op none val m es seat victim c n ss xs o.1)
    ]

-- a drain

-- only the first piece is taken out
out-one : {R M : Type 0} (op : M → M → M) (none : M) (val : List (Entry R) → M) → IsMeasure op none val → (d x y : M) → op d x ≡ y → op (op d (op x none)) none ≡ y
out-one {R} {M} op none val m d x y h = m.assoc d (op x none) none ∙ (ap (λ (z : M). op d z) (m.assoc x none none) ∙ (ap (λ (z : M). op d z) (m.rest x none) ∙ (m.rest d x ∙ h)))

measures-drained : {R M : Type 0} (op : M → M → M) (none : M) (val : List (Entry R) → M) → IsMeasure op none val → (P : Type 0) (es : List (Entry R)) (next : ℕ) (flag : Bool) → Ascends es
    → (from : Bound) (d : M) (last : Option Segment) (a e : Bound) (segs : List Segment) (xs : List M) → less a from ≡ false → Chain P es next flag last a segs e
    → Measures op val es from d segs xs → Measures op val es from (op d (gathered op none (fronts segs xs))) (left segs) (emptied none segs xs)
measures-drained op none val m P es next flag asc from d last a e [] xs above h o = absurd o
measures-drained op none val m P es next flag asc from d last a e (s ∷ ss) [] above h o = absurd o
measures-drained op none val m P es next flag asc from d last a e (s ∷ []) (x ∷ (y ∷ ys)) above h o = absurd o.1
measures-drained {R} {M} op none val m P es next flag asc from d last a e (s ∷ []) (x ∷ []) above h o =
    elim (is_closed s) as (λ b. op (op d (gathered op none (x ∷ (if b then [] else [])))) none ≡ val (within from s.mark es) × Unit {0}) [
      | true ↦ (out-one op none val m d x (val (within from s.mark es)) o.0, tt)
      | false ↦ (out-one op none val m d x (val (within from s.mark es)) o.0, tt)
    ]
measures-drained op none val m P es next flag asc from d last a e (s ∷ t ∷ ss) (x ∷ []) above h o = absurd o.1
measures-drained {R} {M} op none val m P es next flag asc from d last a e (s ∷ t ∷ ss) (x ∷ (y ∷ ys)) above h o =
    elim (is_closed s) as (λ b. is_closed s ≡ b → Measures op val es from (op d (gathered op none (x ∷ (if b then fronts (t ∷ ss) (y ∷ ys) else [])))) (cond b (left (t ∷ ss)) (record s { rows = 0 } ∷ (t ∷ ss))) (cond b (emptied none (t ∷ ss) (y ∷ ys)) (none ∷ (y ∷ ys)))) [
      | true ↦ λ q.
          let l = h.1.0 in
          let u = h.1.1.1.1.0 in
          let at : s.mark ≡ t.after = closed-mark P es next a s l q ∙ sym u.adjoins in
          let low : less s.mark from ≡ false = not_above from s.after s.mark (subst (λ (b : Bound). less b from ≡ false) (sym l.adjoins) above) l.low in
          let here : op d x ≡ val (within from t.after es) = o.0 ∙ ap (λ (b : Bound). val (within from b es)) at in
          let above' : less t.after from ≡ false = subst (λ (b : Bound). less b from ≡ false) at low in
          let both : op (op d x) y ≡ val (within from t.mark es) =
          ap (λ (z : M). op z y) here ∙ (ap (λ (z : M). op (val (within from t.after es)) z) o.1.0
          ∙ (sym (m.joins (within from t.after es) (within t.after t.mark es)) ∙ ap val (within-append from t.after t.mark es asc above' u.low))) in
          let above'' : less s.upto from ≡ false = subst (λ (b : Bound). less b from ≡ false) u.adjoins above' in
          subst (λ (z : M). Measures op val es from z (left (t ∷ ss)) (emptied none (t ∷ ss) (y ∷ ys))) (m.assoc d x (gathered op none (fronts (t ∷ ss) (y ∷ ys))))
          (measures-drained op none val m P es next flag asc from (op d x) (Some s) s.upto e (t ∷ ss) (y ∷ ys) above'' h.1.1.1 (both, o.1.1))
      | false ↦ λ q. (out-one op none val m d x (val (within from s.mark es)) o.0, o.1)
    ] refl

-- a stop

measures-stopped : {R M : Type 0} (op : M → M → M) (val : List (Entry R) → M) (es : List (Entry R)) (from : Bound) (d : M) (c : List ℕ) (segs : List Segment) (xs : List M)
    → Measures op val es from d segs xs → Measures op val es from d (stopped c segs) (first_alone xs)
measures-stopped op val es from d c [] xs o = absurd o
measures-stopped op val es from d c (s ∷ ss) [] o = absurd o
measures-stopped op val es from d c (s ∷ ss) (x ∷ xs) o = (o.0, tt)

-- One event

-- what comes with a report is that of the entries from the mark to the reach
abbrev pub IsMore : {R M : Type 0} → (List (Entry R) → M) → List (Entry R) → Option Segment → Bound → M → Type 0
IsMore val es None reach more = Unit {0}
IsMore val es (Some s) reach more = more ≡ val (within s.mark reach es)

abbrev pub Brings : {R M : Type 0} → (List (Entry R) → M) → List (Entry R) → State → Event → M → Type 0
Brings val es old (Take seat n) more = Unit {0}
Brings val es old (Steal seat victim cut n) more = Unit {0}
Brings val es old (Report seat n reach rows tried spent) more = IsMore val es (segment_of n old.segments) reach more
Brings val es old (GiveUp seat n) more = Unit {0}
Brings val es old (Drain rows) more = Unit {0}
Brings val es old (StopAt mark) more = Unit {0}
Brings val es old (Look seat) more = Unit {0}

-- what was taken out before the first piece, after an event
abbrev pub taken_out : {M : Type 0} → (M → M → M) → M → State → Event → List M → M → M
taken_out op none old (Take seat n) xs d = d
taken_out op none old (Steal seat victim cut n) xs d = d
taken_out op none old (Report seat n reach rows tried spent) xs d = d
taken_out op none old (GiveUp seat n) xs d = d
taken_out op none old (Drain rows) xs d = op d (gathered op none (fronts old.segments xs))
taken_out op none old (StopAt mark) xs d = d
taken_out op none old (Look seat) xs d = d

report-measures : {R M : Type 0} (op : M → M → M) (none : M) (val : List (Entry R) → M) → IsMeasure op none val → (P : Type 0) (es : List (Entry R)) (from top : Bound) (old : State) (seat n : ℕ) (reach : Bound) (rows tried : ℕ) (spent : Bool) (more d : M) (xs : List M) (o : Option Segment)
    → Ascends es → segment_of n old.segments ≡ o → may_report seat reach rows tried spent o ≡ true → IsMore val es o reach more → Holds P es from top old → Measures op val es from d old.segments xs
    → Measures op val es from d (change n (λ t ss. scanned reach rows tried spent t ∷ (if spent then [] else ss)) old.segments) (grown op n more spent old.segments xs)
report-measures op none val m P es from top old seat n reach rows tried spent more d xs None asc found may is k o = absurd (cc (may))
report-measures op none val m P es from top old seat n reach rows tried spent more d xs (Some s) asc found may is k o =
    measures-grown op none val m P es old.next n old.spent reach rows tried spent more s asc ((reaches seat s reach rows tried spent may).above, is) from d _ old.end old.segments xs k.above found k.chain o

pub measures-step : {R M : Type 0} (op : M → M → M) (none : M) (val : List (Entry R) → M) → IsMeasure op none val → (P : Type 0) (es : List (Entry R)) (from top : Bound) (old : State) (event : Event) (reply : Reply) (new : State) (more d : M) (xs : List M)
    → Ascends es → Holds P es from top old → Brings val es old event more → Step old event reply new → Measures op val es from d old.segments xs
    → Measures op val es from (taken_out op none old event xs d) new.segments (beside op none old event more xs)
measures-step op none val m P es from top old (Take seat n) reply new more d xs asc k b step o =
    subst (λ (s : State). Measures op val es from d s.segments xs) (sym step.new_is) (measures-owned op val es from d (Some seat) n old.segments xs o)
measures-step op none val m P es from top old (Steal seat victim c n) reply new more d xs asc k b step o =
    subst (λ (s : State). Measures op val es from d s.segments (parted none victim old.segments xs)) (sym step.new_is) (measures-parted op none val m es from d seat victim c n old.segments xs o)
measures-step op none val m P es from top old (Report seat n reach rows tried spent) reply new more d xs asc k b step o =
    subst (λ (s : State). Measures op val es from d s.segments (grown op n more spent old.segments xs)) (sym step.new_is)
    (report-measures op none val m P es from top old seat n reach rows tried spent more d xs (segment_of n old.segments) asc refl step.fit b k o)
measures-step op none val m P es from top old (GiveUp seat n) reply new more d xs asc k b step o =
    subst (λ (s : State). Measures op val es from d s.segments xs) (sym step.new_is) (measures-owned op val es from d None n old.segments xs o)
measures-step op none val m P es from top old (Drain rows) reply new more d xs asc k b step o =
    subst (λ (s : State). Measures op val es from (op d (gathered op none (fronts old.segments xs))) s.segments (emptied none old.segments xs)) (sym step.new_is)
    (measures-drained op none val m P es old.next old.spent asc from d None _ old.end old.segments xs k.above k.chain o)
measures-step op none val m P es from top old (StopAt c) reply new more d xs asc k b step o =
    subst (λ (s : State). Measures op val es from d s.segments (first_alone xs)) (sym step.new_is) (measures-stopped op val es from d c old.segments xs o)
measures-step op none val m P es from top old (Look seat) reply new more d xs asc k b step o =
    subst (λ (s : State). Measures op val es from d s.segments xs) (sym step.new_is) o
