-- A listing of all rows.
use Rattle.std.proofs.Common.{◌≡◌, ℕ, ◌+◌, ◌-◌, ◌^◌, ◌<◌, List, [], ◌∷◌, Bool, true, false, length, refl, sym, ap, ◌∙◌, subst, arith}
use Rattle.std.specs.Prelude.{Option, Some, None, ◌==◌, ◌&&◌, ◌||◌, not, if◌then◌else◌}
use Rattle.std.specs.List.{list_all}
use Rattle.std.proofs.lemmas.Bool.{eq-eqb}
use Rattle.kr_base.specs.declared.span.Bound.{Bound}
use Rattle.kr_base.specs.declared.span.Bound.TheVariants.{At}
use Rattle.kr_base.specs.declared.span.Span.{Span}
use Rattle.kr_base.specs.declared.entry.Entry.{Entry}
use Rattle.kr_base.specs.Bounds.{is_same, less}
use Rattle.kr_base.specs.Causes.{capped}
use Rattle.kr_base.specs.Entries.{entries_in, is_spent, through_spent, within}
use Rattle.kr_base.proofs.Bounds.{irreflexive}
use Rattle.kr_core.specs.declared.event.Event.{Event}
use Rattle.kr_core.specs.declared.event.Event.TheVariants.{Take, Steal, Report, GiveUp, Drain, StopAt, Look}
use Rattle.kr_core.specs.States.{State}
use Rattle.kr_core.specs.Steps.{after}
use Rattle.kr_core.specs.Counts.{HonestRuns, IsSpentFlag, last_stop}
use Rattle.kr_core.specs.Cutting.{cuts_for}
use Rattle.kr_core.specs.Openings.{end_of, opening}
use Rattle.kr_core.proofs.Cuts.{cuts_inside}
use Rattle.kr_core.proofs.Ends.{counting_law}
use Rattle.kr_survey.specs.Listings.{spent_in}
use Rattle.kr_trace.specs.declared.ending.Last.TheVariants.{Listed, Tested}
use Rattle.kr_trace.specs.Checked.{Rows, agrees, is_whole, tried_in}
use Rattle.korat_top_laws.specs.Ends.{EndsLaw, EndsWhole, HasNoStop, SaysWhole}
use Rattle.korat_top_laws.specs.Honest.{valid_keys}
use Rattle.korat_top_laws.proofs.More.{nothing_within}
use Rattle.korat_top_laws.proofs.Spent.{last_spent}
use Rattle.korat_top_laws.proofs.Whole.{each_closed}

-- ---- a log without a stop

no_last_stop : (b : Bound) (log : List Event) → HasNoStop log → last_stop b log ≡ b
no_last_stop b [] h = refl
no_last_stop b (Take seat n ∷ log) h = no_last_stop b log h
no_last_stop b (Steal seat victim cut n ∷ log) h = no_last_stop b log h
no_last_stop b (Report seat n reach rows tried spent ∷ log) h = no_last_stop b log h
no_last_stop b (GiveUp seat n ∷ log) h = no_last_stop b log h
no_last_stop b (Drain rows ∷ log) h = no_last_stop b log h
no_last_stop b (StopAt mark ∷ log) h = absurd h
no_last_stop b (Look seat ∷ log) h = no_last_stop b log h

-- the end stays until an entry is spent, which is never forgotten
abbrev Stays : State → State → Type 0
Stays old new = new.spent ≡ false → (old.spent ≡ false) × (new.end ≡ old.end)

reported : (reach : Bound) (spent : Bool) (old : State) (middle new : State) → middle.spent ≡ (spent || old.spent) → middle.end ≡ (if spent then reach else old.end) → Stays middle new → Stays old new
reported reach true old middle new flag end h unspent = let z : true ≡ false = sym flag ∙ (h unspent).0 in absurd (cc (z))
reported reach false old middle new flag end h unspent = let r = h unspent in (sym flag ∙ r.0, r.1 ∙ end)

stays : {R : Type 0} (es : List (Entry R)) (old : State) (log : List Event) (new : State) → HasNoStop log → HonestRuns es old log new → Stays old new
stays es old [] new none runs = λ h. (ap (λ (s : State). s.spent) (sym runs) ∙ h, ap (λ (s : State). s.end) runs)
stays es old (Take seat n ∷ log) new none runs = subst (λ (s : State). Stays s new → Stays old new) (sym runs.3.new_is) (λ h. h) (stays es runs.1 log new none runs.4)
stays es old (Steal seat victim cut n ∷ log) new none runs = subst (λ (s : State). Stays s new → Stays old new) (sym runs.3.new_is) (λ h. h) (stays es runs.1 log new none runs.4)
stays es old (Report seat n reach rows tried spent ∷ log) new none runs =
    reported reach spent old runs.1 new (ap (λ (s : State). s.spent) runs.3.new_is) (ap (λ (s : State). s.end) runs.3.new_is) (stays es runs.1 log new none runs.4)
stays es old (GiveUp seat n ∷ log) new none runs = subst (λ (s : State). Stays s new → Stays old new) (sym runs.3.new_is) (λ h. h) (stays es runs.1 log new none runs.4)
stays es old (Drain rows ∷ log) new none runs = subst (λ (s : State). Stays s new → Stays old new) (sym runs.3.new_is) (λ h. h) (stays es runs.1 log new none runs.4)
stays es old (StopAt mark ∷ log) new none runs = absurd none
stays es old (Look seat ∷ log) new none runs = subst (λ (s : State). Stays s new → Stays old new) (sym runs.3.new_is) (λ h. h) (stays es runs.1 log new none runs.4)

-- ---- no entry is spent

not_flagged : {R : Type 0} (flag : Bool) (b : Bound) (es : List (Entry R)) → IsSpentFlag flag b es → spent_in es ≡ None → flag ≡ false
not_flagged false b es h none = refl
not_flagged true b es h none =
    let some : Some h.last.key ≡ None = sym (ap spent_in h.split ∙ last_spent h.before h.last h.none_before h.last_spent) ∙ none in
    absurd (cc (some))

all_through : {R : Type 0} (es : List (Entry R)) → spent_in (through_spent es) ≡ None → through_spent es ≡ es
all_through [] h = refl
all_through {R} (e ∷ es) h =
    elim (is_spent e.mark) as (λ t. (if t then Some e.key else spent_in (if t then [] else through_spent es)) ≡ None → e ∷ (if t then [] else through_spent es) ≡ e ∷ es) [
      | true ↦ λ q. absurd (cc (q))
      | false ↦ λ q. ap (λ (xs : List (Entry R)). e ∷ xs) (all_through es q)
    ] h

same_end : {R : Type 0} (es : List (Entry R)) (span : Span) → within (At span.after) span.upto es ≡ within (At span.after) (end_of span) es
same_end {R} es span =
    elim (less (At span.after) span.upto) as (λ t. less (At span.after) span.upto ≡ t → within (At span.after) span.upto es ≡ within (At span.after) (if t then span.upto else At span.after) es) [
      | true ↦ λ e. refl
      | false ↦ λ e. nothing_within (At span.after) span.upto es e ∙ sym (nothing_within (At span.after) (At span.after) es (irreflexive (At span.after)))
    ] refl

-- ---- together

whole_is : (span : Span) (new : State) → new.spent ≡ false → new.end ≡ end_of span → is_whole span new ≡ true
whole_is span new unspent ended =
    let here : less new.end (end_of span) ≡ false = ap (λ (b : Bound). less b (end_of span)) ended ∙ irreflexive (end_of span) in
    let there : less (end_of span) new.end ≡ false = ap (less (end_of span)) ended ∙ irreflexive (end_of span) in
    rw (unspent, here, there) refl

listed_says : (span : Span) (keys : List (List ℕ)) (failing : ℕ) (new : State) (tried : ℕ) → tried ≡ tried_in new → is_whole span new ≡ true
    → agrees span (record { keys = keys; failing = failing }) new (Listed (length keys) tried) ≡ true
listed_says span keys failing new tried is all =
    ap (λ (b : Bool). b && ((tried == tried_in new) && is_whole span new)) (eq-eqb (length keys) (length keys) refl)
    ∙ (ap (λ (b : Bool). b && is_whole span new) (eq-eqb tried (tried_in new) is) ∙ all)

tested_says : (span : Span) (keys : List (List ℕ)) (failing : ℕ) (new : State) (tried : ℕ) → tried ≡ tried_in new → is_whole span new ≡ true
    → agrees span (record { keys = keys; failing = failing }) new (Tested (length keys) failing tried) ≡ true
tested_says span keys failing new tried is all =
    ap (λ (b : Bool). b && ((failing == failing) && ((tried == tried_in new) && is_whole span new))) (eq-eqb (length keys) (length keys) refl)
    ∙ (ap (λ (b : Bool). b && ((tried == tried_in new) && is_whole span new)) (eq-eqb failing failing refl)
    ∙ (ap (λ (b : Bool). b && is_whole span new) (eq-eqb tried (tried_in new) is) ∙ all))

pub ends : {R : Type 0} → EndsLaw R
ends {R} es span workers log new h =
    let a = At span.after in
    let counts = counting_law es span (cuts_for span workers) log new h.ascends (cuts_inside span workers) h.runs in
    let listed = counts.listed (each_closed new.segments h.closed) in
    let own = entries_in a span.upto es in
    let same : entries_in a new.end es ≡ own = listed.whole (ap (λ (b : Bound). less b span.upto) (no_last_stop span.upto log h.unstopped) ∙ irreflexive span.upto) in
    let unspent : new.spent ≡ false = not_flagged new.spent new.end own (subst (λ (xs : List (Entry R)). IsSpentFlag new.spent new.end xs) same listed.spent) h.unspent in
    let kept = stays es (opening span (cuts_for span workers)) log new h.unstopped h.runs unspent in
    let all : is_whole span new ≡ true = whole_is span new unspent kept.1 in
    let counted : tried_in new ≡ capped (length own) = listed.tried ∙ ap (λ (xs : List (Entry R)). capped (length xs)) same in
    record {
      keys_are = ap valid_keys (all_through (within a span.upto es) h.unspent ∙ same_end es span);
      listed = λ failing. listed_says span (valid_keys own) failing new (capped (length own)) (sym counted) all;
      tested = λ failing. tested_says span (valid_keys own) failing new (capped (length own)) (sym counted) all;
    }
