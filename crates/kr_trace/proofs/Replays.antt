-- Steps of the machine, of its parts.
use Rattle.std.proofs.Common.{◌≡◌, ℕ, suc, ◌+◌, ◌-◌, ◌^◌, ◌<◌, List, [], ◌∷◌, Bool, true, false, length, refl, sym, ap, ◌∙◌, subst, arith}
use Rattle.std.specs.Prelude.{Option, Some, None, is_some, nat_lt, ◌==◌, ◌&&◌}
use Rattle.std.specs.List.{sum_by}
use Rattle.kr_base.specs.declared.span.Bound.{Bound}
use Rattle.kr_base.specs.declared.span.Bound.TheVariants.{At}
use Rattle.kr_base.specs.declared.span.Span.{Span}
use Rattle.kr_base.specs.Causes.{capped}
use Rattle.kr_core.specs.declared.event.Event.TheVariants.{Take, Steal, Report, GiveUp, Drain, StopAt}
use Rattle.kr_core.specs.declared.segment.Segment.{Segment}
use Rattle.kr_core.specs.Cutting.{cuts_for}
use Rattle.kr_core.specs.Openings.{end_of, opening, segments_at}
use Rattle.kr_core.specs.States.{State, change, segment_of}
use Rattle.kr_core.specs.Steps.{after, fits, gone, left, lowered, may_report, may_steal, owned, scanned, stolen, stopped}
use Rattle.kr_core.proofs.Bools.{and-left, and-right}
use Rattle.kr_trace.specs.Chains.{Made}
use Rattle.kr_trace.proofs.Numbered.{same_number}

abbrev pub state_of : Made → ℕ → Bound → Bool → State
state_of chain past end spent = record { segments = chain.segments; next = chain.made; past = past; end = end; spent = spent }

pub opened_state : (chain : Made) (span : Span) (workers : ℕ) (cuts cuts' : List (List ℕ)) (end : Bound) → cuts ≡ cuts_for span workers → cuts' ≡ cuts → end ≡ end_of span
    → chain.segments ≡ segments_at 0 (At span.after) cuts' end → chain.made ≡ length cuts' + 1 → state_of chain 0 end false ≡ opening span (cuts_for span workers)
opened_state chain span workers cuts cuts' end cuts_are same is segments made =
    let all : cuts' ≡ cuts_for span workers = same ∙ cuts_are in
    let segments' : chain.segments ≡ segments_at 0 (At span.after) (cuts_for span workers) (end_of span) =
    segments ∙ (ap (λ (cs : List (List ℕ)). segments_at 0 (At span.after) cs end) all ∙ ap (segments_at 0 (At span.after) (cuts_for span workers)) is) in
    let made' : chain.made ≡ length (cuts_for span workers) + 1 = made ∙ ap (λ (cs : List (List ℕ)). length cs + 1) all in
    λ i. record { segments = segments' i; next = made' i; past = 0; end = is i; spent = false }

pub taken : (chain new : Made) (past : ℕ) (end : Bound) (spent : Bool) (old : State) (seat n : ℕ) → state_of chain past end spent ≡ old
    → new.segments ≡ change n (λ s ss. owned (Some seat) s ∷ ss) chain.segments → new.made ≡ chain.made → state_of new past end spent ≡ after old (Take seat n)
taken chain new past end spent old seat n is segments made =
    let path : state_of new past end spent ≡ after (state_of chain past end spent) (Take seat n) = λ i. record { segments = segments i; next = made i; past = past; end = end; spent = spent } in
    path ∙ ap (λ (s : State). after s (Take seat n)) is

pub given_up : (chain new : Made) (past : ℕ) (end : Bound) (spent : Bool) (old : State) (seat n : ℕ) → state_of chain past end spent ≡ old
    → new.segments ≡ change n (λ s ss. owned None s ∷ ss) chain.segments → new.made ≡ chain.made → state_of new past end spent ≡ after old (GiveUp seat n)
given_up chain new past end spent old seat n is segments made =
    let path : state_of new past end spent ≡ after (state_of chain past end spent) (GiveUp seat n) = λ i. record { segments = segments i; next = made i; past = past; end = end; spent = spent } in
    path ∙ ap (λ (s : State). after s (GiveUp seat n)) is

may_steal_some : (cut : List ℕ) (o : Option Segment) → may_steal cut o ≡ true → is_some o ≡ true
may_steal_some cut None h = absurd (cc (h))
may_steal_some cut (Some s) h = refl

may_report_some : (seat : ℕ) (reach : Bound) (rows tried : ℕ) (spent : Bool) (o : Option Segment) → may_report seat reach rows tried spent o ≡ true → is_some o ≡ true
may_report_some seat reach rows tried spent None h = absurd (cc (h))
may_report_some seat reach rows tried spent (Some s) h = refl

pub steal_found : (chain : Made) (past : ℕ) (end : Bound) (spent : Bool) (old : State) (seat victim : ℕ) (cut : List ℕ) (n : ℕ) → state_of chain past end spent ≡ old
    → fits old (Steal seat victim cut n) ≡ true → is_some (segment_of victim chain.segments) ≡ true
steal_found chain past end spent old seat victim cut n is fit =
    let may : fits (state_of chain past end spent) (Steal seat victim cut n) ≡ true = ap (λ (s : State). fits s (Steal seat victim cut n)) is ∙ fit in
    may_steal_some cut (segment_of victim chain.segments) (and-left (may_steal cut (segment_of victim chain.segments)) ((n == chain.made) && nat_lt n (2 ^ 64 - 1)) may)

pub report_found : (chain : Made) (past : ℕ) (end : Bound) (spent : Bool) (old : State) (seat n : ℕ) (reach : Bound) (rows tried : ℕ) (ends : Bool) → state_of chain past end spent ≡ old
    → fits old (Report seat n reach rows tried ends) ≡ true → is_some (segment_of n chain.segments) ≡ true
report_found chain past end spent old seat n reach rows tried ends is fit =
    may_report_some seat reach rows tried ends (segment_of n chain.segments) (ap (λ (s : State). fits s (Report seat n reach rows tried ends)) is ∙ fit)

pub stolen_state : (chain new : Made) (past : ℕ) (end : Bound) (spent : Bool) (old : State) (seat victim : ℕ) (cut : List ℕ) (n : ℕ) → state_of chain past end spent ≡ old
    → fits old (Steal seat victim cut n) ≡ true → new.segments ≡ change victim (λ s ss. lowered cut s ∷ (stolen seat cut chain.made s ∷ ss)) chain.segments → new.made ≡ chain.made + 1
    → state_of new past end spent ≡ after old (Steal seat victim cut n)
stolen_state chain new past end spent old seat victim cut n is fit segments made =
    let may : fits (state_of chain past end spent) (Steal seat victim cut n) ≡ true = ap (λ (s : State). fits s (Steal seat victim cut n)) is ∙ fit in
    let rest = and-right (may_steal cut (segment_of victim chain.segments)) ((n == chain.made) && nat_lt n (2 ^ 64 - 1)) may in
    let number : n ≡ chain.made = same_number n chain.made (and-left (n == chain.made) (nat_lt n (2 ^ 64 - 1)) rest) in
    let segments' : new.segments ≡ change victim (λ s ss. lowered cut s ∷ (stolen seat cut n s ∷ ss)) chain.segments =
    segments ∙ ap (λ (k : ℕ). change victim (λ s ss. lowered cut s ∷ (stolen seat cut k s ∷ ss)) chain.segments) (sym number) in
    let path : state_of new past end spent ≡ after (state_of chain past end spent) (Steal seat victim cut n) = λ i. record { segments = segments' i; next = made i; past = past; end = end; spent = spent } in
    path ∙ ap (λ (s : State). after s (Steal seat victim cut n)) is

pub reported : (chain new : Made) (past : ℕ) (end : Bound) (spent : Bool) (old : State) (seat n : ℕ) (reach : Bound) (rows tried : ℕ) (ends : Bool) → state_of chain past end spent ≡ old → ends ≡ false
    → new.segments ≡ change n (λ s ss. scanned reach rows tried false s ∷ ss) chain.segments → new.made ≡ chain.made → state_of new past end spent ≡ after old (Report seat n reach rows tried ends)
reported chain new past end spent old seat n reach rows tried true is off segments made = absurd (cc (off))
reported chain new past end spent old seat n reach rows tried false is off segments made =
    let path : state_of new past end spent ≡ after (state_of chain past end spent) (Report seat n reach rows tried false) = λ i. record { segments = segments i; next = made i; past = past; end = end; spent = spent } in
    path ∙ ap (λ (s : State). after s (Report seat n reach rows tried false)) is

pub reported_spent : (chain new : Made) (past : ℕ) (end e : Bound) (spent : Bool) (old : State) (seat n : ℕ) (reach : Bound) (rows tried : ℕ) (ends : Bool) → state_of chain past end spent ≡ old → ends ≡ true → e ≡ reach
    → new.segments ≡ change n (λ s ss. scanned reach rows tried true s ∷ []) chain.segments → new.made ≡ chain.made → state_of new past e true ≡ after old (Report seat n reach rows tried ends)
reported_spent chain new past end e spent old seat n reach rows tried false is on at segments made = absurd (cc (on))
reported_spent chain new past end e spent old seat n reach rows tried true is on at segments made =
    let path : state_of new past e true ≡ after (state_of chain past end spent) (Report seat n reach rows tried true) = λ i. record { segments = segments i; next = made i; past = past; end = at i; spent = true } in
    path ∙ ap (λ (s : State). after s (Report seat n reach rows tried true)) is

pub drained_state : (chain new : Made) (past past' tried : ℕ) (end : Bound) (spent : Bool) (old : State) (rows : ℕ) → state_of chain past end spent ≡ old
    → tried ≡ capped (sum_by (λ (s : Segment). s.tried) (gone chain.segments)) → past' ≡ capped (past + tried) → new.segments ≡ left chain.segments → new.made ≡ chain.made
    → state_of new past' end spent ≡ after old (Drain rows)
drained_state chain new past past' tried end spent old rows is tried_is sum segments made =
    let past_is : past' ≡ capped (past + sum_by (λ (s : Segment). s.tried) (gone chain.segments)) = omega (arith, tried_is, sum) in
    let path : state_of new past' end spent ≡ after (state_of chain past end spent) (Drain rows) = λ i. record { segments = segments i; next = made i; past = past_is i; end = end; spent = spent } in
    path ∙ ap (λ (s : State). after s (Drain rows)) is

pub stopped_state : (chain new : Made) (past : ℕ) (end : Bound) (e mark : List ℕ) (spent spent' : Bool) (old : State) → state_of chain past end spent ≡ old → e ≡ mark
    → spent' ≡ ((length chain.segments == 1) && spent) → new.segments ≡ stopped mark chain.segments → new.made ≡ chain.made → state_of new past (At e) spent' ≡ after old (StopAt mark)
stopped_state chain new past end e mark spent spent' old is at flag segments made =
    let path : state_of new past (At e) spent' ≡ after (state_of chain past end spent) (StopAt mark) = λ i. record { segments = segments i; next = made i; past = past; end = At (at i); spent = flag i } in
    path ∙ ap (λ (s : State). after s (StopAt mark)) is
