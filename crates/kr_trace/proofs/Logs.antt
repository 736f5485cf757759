-- The events of a text, a line at a time.
use Rattle.std.proofs.Common.{◌≡◌, ℕ, zero, suc, ◌+◌, ◌<◌, ◌≤◌, List, [], ◌∷◌, ◌++◌, Bool, true, false, length, refl, sym, ap, ◌∙◌, subst, arith}
use Rattle.std.specs.Prelude.{Some, Ok, Err, ◌&&◌, not, if◌then◌else◌}
use Rattle.kr_text.specs.Splitting.{ended, is_empty, lines_in, unended}
use Rattle.kr_core.specs.States.{State}
use Rattle.kr_core.specs.Steps.{after, fits}
use Rattle.kr_core.specs.declared.event.Event.{Event}
use Rattle.kr_trace.specs.declared.refusal.Fault.{Fault}
use Rattle.kr_trace.specs.declared.refusal.TraceRefusal.{TraceRefusal}
use Rattle.kr_trace.specs.declared.refusal.TraceRefusal.TheVariants.{Bad, NoMemory}
use Rattle.kr_trace.specs.declared.refusal.TraceRule.{TraceRule}
use Rattle.kr_trace.specs.declared.refusal.TraceRule.TheVariants.{NoForm, NoStep}
use Rattle.kr_trace.specs.declared.ending.Last.{Last}
use Rattle.kr_trace.specs.declared.judging.Listing.{Listing}
use Rattle.kr_trace.specs.Words.{event_in}
use Rattle.kr_trace.specs.Checked.{Checked, and_then, bad, event_after, events_from, has_rows, is_by}
use Rattle.kr_trace.specs.Stages.{Reaches}
use Rattle.kr_trace.proofs.Sections.{HasLines, ends_here, lines_counted, lines_few, no_lines_yet, one_line}

-- ---- one event

pub judged : (workers : ℕ) (last : Last) (keys : List (List ℕ)) (s : State) (n : ℕ) (event : Event)
    → fits s event ≡ true → is_by workers event ≡ true → has_rows last keys s event ≡ true → event_after workers last keys s n (Some event) ≡ Ok (after s event)
judged workers last keys s n event fit by rows = rw (fit, by, rows) refl

pub unfit : (workers : ℕ) (last : Last) (keys : List (List ℕ)) (s : State) (event : Event) → (fits s event && is_by workers event) ≡ false
    → (n : ℕ) → event_after workers last keys s n (Some event) ≡ bad n NoStep
unfit workers last keys s event wrong n = rw wrong refl

-- ---- lines

-- the events of what is left lead to what is wanted
abbrev pub FromHere : Listing → Checked State → State → ℕ → List ℕ → Bool → Type 0
FromHere listing wanted s n rest ends = wanted ≡ events_from listing.workers listing.last listing.rows.keys s n (lines_in rest) ends

pub line_taken : (listing : Listing) (wanted : Checked State) (s new : State) (n : ℕ) (rest line after : List ℕ) (ends : Bool) → FromHere listing wanted s n rest ends
    → lines_in rest ≡ line ∷ lines_in after → event_after listing.workers listing.last listing.rows.keys s n (event_in line) ≡ Ok new → FromHere listing wanted new (n + 1) after ends
line_taken listing wanted s new n rest line after ends so_far is taken =
    so_far
    ∙ (ap (λ (ls : List (List ℕ)). events_from listing.workers listing.last listing.rows.keys s n ls ends) is
    ∙ ap (λ (r : Checked State). and_then r (λ new. events_from listing.workers listing.last listing.rows.keys new (n + 1) (lines_in after) ends)) taken)

pub line_refused : (listing : Listing) (wanted : Checked State) (s : State) (n : ℕ) (rest line after : List ℕ) (ends : Bool) (fault : Fault) → FromHere listing wanted s n rest ends
    → lines_in rest ≡ line ∷ lines_in after → event_after listing.workers listing.last listing.rows.keys s n (event_in line) ≡ Err fault → wanted ≡ Err fault
line_refused listing wanted s n rest line after ends fault so_far is taken =
    so_far
    ∙ (ap (λ (ls : List (List ℕ)). events_from listing.workers listing.last listing.rows.keys s n ls ends) is
    ∙ ap (λ (r : Checked State). and_then r (λ new. events_from listing.workers listing.last listing.rows.keys new (n + 1) (lines_in after) ends)) taken)

pub lines_over : (listing : Listing) (wanted : Checked State) (s : State) (n : ℕ) (rest : List ℕ) (ends : Bool) → FromHere listing wanted s n rest ends → lines_in rest ≡ [] → ends ≡ true → wanted ≡ Ok s
lines_over listing wanted s n rest ends so_far none is =
    so_far ∙ (ap (λ (ls : List (List ℕ)). events_from listing.workers listing.last listing.rows.keys s n ls ends) none ∙ ap (λ (t : Bool). if t then Ok s else bad n NoForm) is)

pub lines_cut : (listing : Listing) (wanted : Checked State) (s : State) (n : ℕ) (rest : List ℕ) (ends : Bool) → FromHere listing wanted s n rest ends → lines_in rest ≡ [] → ends ≡ false → wanted ≡ bad n NoForm
lines_cut listing wanted s n rest ends so_far none is =
    so_far ∙ (ap (λ (ls : List (List ℕ)). events_from listing.workers listing.last listing.rows.keys s n ls ends) none ∙ ap (λ (t : Bool). if t then Ok s else bad n NoForm) is)

empty_is : (text : List ℕ) → length text ≡ 0 → is_empty text ≡ true
empty_is [] h = refl
empty_is (b ∷ bs) h = absurd (omega (arith, h))

some_is : (text : List ℕ) → 0 < length text → is_empty text ≡ false
some_is [] h = absurd (omega (arith, h))
some_is (b ∷ bs) h = refl

-- events of a text were taken, and a text is left
pub record IsTaking (listing : Listing) (wanted : Checked State) (s : State) (first : ℕ) (text rest : List ℕ) (count : ℕ) : Type 0 where
  pub here : FromHere listing wanted s (first + count) rest (is_empty (unended text))
  pub lines : HasLines text rest count

pub begins_taking : (listing : Listing) (s : State) (first : ℕ) (text : List ℕ) → IsTaking listing (events_from listing.workers listing.last listing.rows.keys s first (lines_in text) (is_empty (unended text))) s first text text 0
begins_taking listing s first text = record {
  here = let same : first ≡ first + 0 = omega arith in ap (λ (n : ℕ). events_from listing.workers listing.last listing.rows.keys s n (lines_in text) (is_empty (unended text))) same;
  lines = no_lines_yet text;
}

pub takes_on : (listing : Listing) (wanted : Checked State) (s new : State) (first : ℕ) (text rest line after : List ℕ) (count : ℕ) → IsTaking listing wanted s first text rest count
    → lines_in rest ≡ line ∷ lines_in after → rest ≡ ended line ++ after → event_after listing.workers listing.last listing.rows.keys s (first + count) (event_in line) ≡ Ok new
    → IsTaking listing wanted new first text after (count + 1)
takes_on listing wanted s new first text rest line after count h lines_is rest_is taken = record {
  here = let next : first + count + 1 ≡ first + (count + 1) = omega arith in
      subst (λ (n : ℕ). FromHere listing wanted new n after (is_empty (unended text))) next (line_taken listing wanted s new (first + count) rest line after (is_empty (unended text)) h.here lines_is taken);
  lines = one_line text rest line after count h.lines lines_is rest_is;
}

pub takes_wrong : (listing : Listing) (wanted : Checked State) (s : State) (first : ℕ) (text rest line after : List ℕ) (count : ℕ) (fault : Fault) → IsTaking listing wanted s first text rest count
    → lines_in rest ≡ line ∷ lines_in after → event_after listing.workers listing.last listing.rows.keys s (first + count) (event_in line) ≡ Err fault → wanted ≡ Err fault
takes_wrong listing wanted s first text rest line after count fault h lines_is taken =
    line_refused listing wanted s (first + count) rest line after (is_empty (unended text)) fault h.here lines_is taken

pub takes_all : (listing : Listing) (wanted : Checked State) (s : State) (first : ℕ) (text rest : List ℕ) (count : ℕ) → IsTaking listing wanted s first text rest count
    → lines_in rest ≡ [] → length rest ≡ 0 → wanted ≡ Ok s
takes_all listing wanted s first text rest count h none is =
    lines_over listing wanted s (first + count) rest (is_empty (unended text)) h.here none (ends_here text rest count h.lines none ∙ empty_is rest is)

pub takes_cut : (listing : Listing) (wanted : Checked State) (s : State) (first : ℕ) (text rest : List ℕ) (count : ℕ) → IsTaking listing wanted s first text rest count
    → lines_in rest ≡ [] → 0 < length rest → wanted ≡ bad (first + count) NoForm
takes_cut listing wanted s first text rest count h none is =
    lines_cut listing wanted s (first + count) rest (is_empty (unended text)) h.here none (ends_here text rest count h.lines none ∙ some_is rest is)

pub taken_few : (listing : Listing) (wanted : Checked State) (s : State) (first : ℕ) (text rest : List ℕ) (count : ℕ) → IsTaking listing wanted s first text rest count → count + length rest ≤ length text
taken_few listing wanted s first text rest count h = lines_few text rest count h.lines

pub taken_count : (listing : Listing) (wanted : Checked State) (s : State) (first : ℕ) (text rest : List ℕ) (count : ℕ) → IsTaking listing wanted s first text rest count → lines_in rest ≡ [] → count ≡ length (lines_in text)
taken_count listing wanted s first text rest count h none = lines_counted text rest count h.lines none

-- a refusal of a line is the text's; a state plays no part in it
pub takes_refused : (listing : Listing) (wanted : Checked State) (s : State) (first : ℕ) (text rest line after : List ℕ) (count : ℕ) (refusal : TraceRefusal) → IsTaking listing wanted s first text rest count
    → lines_in rest ≡ line ∷ lines_in after → Reaches {U = Unit {0}} (event_after listing.workers listing.last listing.rows.keys s (first + count) (event_in line)) s (Err refusal) → Reaches {U = ℕ} wanted s (Err refusal)
takes_refused listing wanted s first text rest line after count (Bad fault) h lines_is taken = takes_wrong listing wanted s first text rest line after count fault h lines_is taken
takes_refused listing wanted s first text rest line after count (NoMemory why) h lines_is taken = tt

pub cut_refused : (listing : Listing) (wanted : Checked State) (s : State) (first : ℕ) (text rest : List ℕ) (count : ℕ) (refusal : TraceRefusal) → IsTaking listing wanted s first text rest count
    → lines_in rest ≡ [] → 0 < length rest → refusal ≡ Bad (record { line = first + count; rule = NoForm }) → Reaches {U = ℕ} wanted s (Err refusal)
cut_refused listing wanted s first text rest count refusal h none some is =
    subst (λ (r : TraceRefusal). Reaches {U = ℕ} wanted s (Err r)) (sym is) (takes_cut listing wanted s first text rest count h none some)

-- ---- the parts together
