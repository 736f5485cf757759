-- A shard's listing comes after its first line.
use Rattle.std.proofs.Common.{◌≡◌, ℕ, suc, ◌++◌, ◌∷◌, List, refl, sym, ap, ◌∙◌, inl, inr, arith, append_assoc}
use Rattle.std.specs.Prelude.{Option}
use Rattle.kr_base.specs.Told.{Added, Stopped}
use Rattle.kr_base.specs.Writing.{added_then, stopped_early, stopped_then}
use Rattle.kr_report.specs.Texts.{memory_text}
use Rattle.kr_report.specs.Reports.{Answer, bytes_of, lines}
use Rattle.kr_report.specs.Endings.{EndsListing, MayBegin, front_of}

-- an answer with a line before its rows
abbrev with_first : List ℕ → Answer → Answer
with_first first answer = record answer { rows = first ∷ answer.rows }

bytes_after : (first : List ℕ) (answer : Answer) → bytes_of (with_first first answer) ≡ first ++ bytes_of answer
bytes_after first answer = append_assoc first (lines answer.rows) answer.last

front_after : (first : List ℕ) (answer : Answer) (n : ℕ) → front_of (with_first first answer) (suc n) ++ memory_text ≡ first ++ (front_of answer n ++ memory_text)
front_after first answer n = append_assoc first (front_of answer n) memory_text

begins_after : (first : List ℕ) (answer : Answer) (text : List ℕ) → MayBegin answer text → MayBegin (with_first first answer) (first ++ text)
begins_after first answer text (inl e) = inl (ap (λ (t : List ℕ). first ++ t) e ∙ sym (bytes_after first answer))
begins_after first answer text (inr m) = inr (suc m.0, ap (λ (t : List ℕ). first ++ t) m.1 ∙ sym (front_after first answer m.0))

module _ {K : Type 0} (taken : K → Option (List ℕ)) (faults : K → ℕ) where
  pub listing_after : (a b c : K) (first : List ℕ) (answer : Answer) (status : ℕ) → Added taken faults a b first → EndsListing taken faults answer b c status → EndsListing taken faults (with_first first answer) a c status
  listing_after a b c first answer status x y = record {
    known = y.known;
    whole = λ low. ((y.whole low).0, added_then x (y.whole low).1 (bytes_after first answer));
    fault = λ e. let f = y.fault e in (first ++ f.0, begins_after first answer f.0 f.1, stopped_then x f.2 refl);
    memory = λ e. let m = y.memory e in (suc m.0, added_then x m.1 (front_after first answer m.0));
  }

  pub first_fails : (a b : K) (first : List ℕ) (answer : Answer) → Stopped taken faults a b first → EndsListing taken faults (with_first first answer) a b 7
  first_fails a b first answer x = record {
    known = inr (inr (inr (inl refl)));
    whole = λ low. absurd (omega (arith, low));
    fault = λ e. (bytes_of (with_first first answer), inl refl, stopped_early (bytes_of answer) x (bytes_after first answer));
    memory = λ e. absurd (omega (arith, e));
  }
