-- A file that is longer than is checked is recognized by one byte more.
use Rattle.std.proofs.Common.{◌≡◌, ◌∙◌, ℕ, ◌+◌, ◌^◌, ◌<◌, ◌≤◌, ◌⊎◌, inl, inr, List, Bool, true, false, length, take, refl, sym, ap, subst, arith, nat_lt}
use Rattle.std.specs.Prelude.{Option, Some, None, IfSome, Result, Ok, Err, if◌then◌else◌}
use Rattle.std.proofs.lemmas.List.{length-take, take_all}
use Rattle.std.proofs.lemmas.Bool.Decides.{nat_tests}
use Rattle.kr_base.specs.declared.span.Span.{Span}
use Rattle.kr_text.specs.Splitting.{is_empty, lines_in, unended}
use Rattle.kr_trace.specs.Checked.{Checked, bad, checked, checked_parts, parts_of}
use Rattle.kr_trace.specs.Files.{Held}
use Rattle.kr_trace.specs.Found.{CountStays, FindsChecked, Tells}
use Rattle.kr_trace.specs.declared.refusal.TraceRule.TheVariants.{TooLong}
use Rattle.kr_trace.specs.declared.files.TraceStop.{TraceStop}
use Rattle.kr_trace.specs.declared.files.TraceStop.TheVariants.{Read, Memory}

-- the text is short or long
by_length : (n len : ℕ) → (len ≤ n) ⊎ (n < len)
by_length n len = grind arith

long_is : (n len : ℕ) → n < len → nat_lt n len ≡ true
long_is n len h = grind (arith, nat_tests)

too_long : (span : Span) (workers n : ℕ) (text : List ℕ) → 2 ^ 24 ≡ n → n < length text → checked span workers text ≡ bad 1 TooLong
unfolding checked
too_long span workers n text is h =
    let long : nat_lt (2 ^ 24) (length text) ≡ true = long_is (2 ^ 24) (length text) (subst (λ (k : ℕ). k < length text) (sym is) h) in
    ap (λ (b : Bool). if b then bad 1 TooLong else checked_parts span workers (parts_of (lines_in text)) (is_empty (unended text))) long

-- what is checked of so many bytes, and one more, is checked of all
told_by : (span : Span) (workers n : ℕ) (all bytes : List ℕ) → 2 ^ 24 ≡ n → bytes ≡ take (n + 1) all → checked span workers bytes ≡ checked span workers all
told_by span workers n all bytes is e = elim (by_length (n + 1) (length all)) [
  | inl short ↦ ap (checked span workers) (e ∙ take_all (n + 1) all short)
  | inr long ↦
      let held : length bytes ≡ n + 1 = omega (arith, ap length e, length-take (n + 1) all, long) in
      too_long span workers n bytes is (omega (arith, held)) ∙ sym (too_long span workers n all is (omega (arith, long)))
]

found_of : (told : Option (List ℕ)) (span : Span) (workers : ℕ) (bytes : List ℕ) (found : Checked ℕ) → IfSome told (λ all. bytes ≡ take 16777217 all) → checked span workers bytes ≡ found
    → IfSome told (λ all. checked span workers all ≡ found)
found_of None span workers bytes found e h = tt
found_of (Some all) span workers bytes found e h = sym (told_by span workers 16777216 all bytes refl e) ∙ h

pub has_found : {F : Type 0} (held : F → Held) (faults : F → ℕ) (last : F → Option (List ℕ)) (name : List ℕ) (span : Span) (workers : ℕ) (files files' : F) (bytes : List ℕ) (r : Result (Checked ℕ) TraceStop)
    → IfSome (held files name) (λ all. bytes ≡ take 16777217 all) → Tells (checked span workers bytes) r → FindsChecked held faults last name span workers files files' r
has_found held faults last name span workers files files' bytes (Ok found) e h = found_of (held files name) span workers bytes found e h
has_found held faults last name span workers files files' bytes (Err Read) e h = absurd h
has_found held faults last name span workers files files' bytes (Err (Memory why)) e h = tt

pub found_stays : (before now : ℕ) (wanted : Checked ℕ) (r : Result (Checked ℕ) TraceStop) → Tells wanted r → now ≡ before → CountStays before now r
found_stays before now wanted (Ok found) h e = e
found_stays before now wanted (Err Read) h e = absurd h
found_stays before now wanted (Err (Memory why)) h e = e
