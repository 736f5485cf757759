-- How a report ends, from what was put.
use Rattle.std.proofs.Common.{◌≡◌, ◌⊎◌, ℕ, ◌++◌, List, length, take, refl, sym, ◌∙◌, ap, inl, inr, subst, arith}
use Rattle.std.specs.Prelude.{Option, Result, Ok, Err, is_ok, if◌then◌else◌}
use Rattle.std.proofs.lemmas.List.{take_all}
use Rattle.kr_base.specs.Told.{Added, Stopped, Writes}
use Rattle.kr_base.specs.Writing.{added_then, stopped_then, stopped_early}
use Rattle.kr_base.specs.declared.memory.NoMemory.{NoMemory}
use Rattle.kr_report.specs.Texts.{memory_text}
use Rattle.kr_report.specs.Reports.{Answer, lines, bytes_of}
use Rattle.kr_report.specs.Endings.{front_of, BreaksOff, MayBegin, EndsListing}
use Rattle.kr_report_streaming.specs.Writers.{HaltsAt, IsListingStatus}
use Rattle.kr_survey.specs.declared.taker.Halt.{Halt}
use Rattle.kr_survey.specs.declared.taker.Halt.TheVariants.{Sink, Memory}

module _ {K : Type 0} {taken : K → Option (List ℕ)} {faults : K → ℕ} {a b : K} (answer : Answer) (status : ℕ) where
  whole_end : Added taken faults a b (bytes_of answer) → status ≡ answer.status → IsListingStatus status → EndsListing taken faults answer a b status
  whole_end x e (inl z) = record { known = inl z; whole = λ _. (e, x); fault = λ f. absurd (omega (arith, z, f)); memory = λ f. absurd (omega (arith, z, f)) }
  whole_end x e (inr (inl z)) = record { known = inr (inl z); whole = λ _. (e, x); fault = λ f. absurd (omega (arith, z, f)); memory = λ f. absurd (omega (arith, z, f)) }
  whole_end x e (inr (inr z)) = record { known = inr (inr (inl z)); whole = λ _. (e, x); fault = λ f. absurd (omega (arith, z, f)); memory = λ f. absurd (omega (arith, z, f)) }

  fault_end : (text : List ℕ) → MayBegin answer text → Stopped taken faults a b text → status ≡ 7 → EndsListing taken faults answer a b status
  fault_end text may x e = record { known = inr (inr (inr (inl e))); whole = λ f. absurd (omega (arith, e, f)); fault = λ _. (text, may, x); memory = λ f. absurd (omega (arith, e, f)) }

  memory_end : (n : ℕ) → Added taken faults a b (front_of answer n ++ memory_text) → status ≡ 8 → EndsListing taken faults answer a b status
  memory_end n x e = record { known = inr (inr (inr (inr e))); whole = λ f. absurd (omega (arith, e, f)); fault = λ f. absurd (omega (arith, e, f)); memory = λ _. (n, x) }

  fault_off : (n : ℕ) → Stopped taken faults a b (front_of answer n ++ memory_text) → status ≡ 7 → BreaksOff taken faults answer a b status
  fault_off n x e = record { known = inl e; fault = λ _. (n, x); memory = λ f. absurd (omega (arith, e, f)) }

  memory_off : (n : ℕ) → Added taken faults a b (front_of answer n ++ memory_text) → status ≡ 8 → BreaksOff taken faults answer a b status
  memory_off n x e = record { known = inr e; fault = λ f. absurd (omega (arith, e, f)); memory = λ _. (n, x) }

-- a report that broke off in its rows ended so, whatever its last line would have been
pub ends_broken : {K : Type 0} {taken : K → Option (List ℕ)} {faults : K → ℕ} {a b : K} (answer other : Answer) (status : ℕ) → answer.rows ≡ other.rows → BreaksOff taken faults answer a b status → EndsListing taken faults other a b status
ends_broken {K} {taken} {faults} {a} {b} answer other status same x = by_known x.known
  where
    text_is : (n : ℕ) → front_of answer n ++ memory_text ≡ front_of other n ++ memory_text
    text_is n = ap (λ (rows : List (List ℕ)). lines (take n rows) ++ memory_text) same

    by_known : (status ≡ 7) ⊎ (status ≡ 8) → EndsListing taken faults other a b status
    by_known (inl e) =
        let f = x.fault e in
        fault_end other status (front_of other f.0 ++ memory_text) (inr (f.0, refl)) (subst (λ (t : List ℕ). Stopped taken faults a b t) (text_is f.0) f.1) e
    by_known (inr e) =
        let m = x.memory e in
        memory_end other status m.0 (subst (λ (t : List ℕ). Added taken faults a b t) (text_is m.0) m.1) e

module _ {K : Type 0} (taken : K → Option (List ℕ)) (faults : K → ℕ) (a b : K) (answer : Answer) where
  -- the last line after all rows
  pub after_rows : {T E : Type 0} (c : K) (status known : ℕ) (r : Result T E) → known ≡ answer.status → IsListingStatus known → Added taken faults a b (lines answer.rows) → Writes taken faults b c answer.last r
      → status ≡ (if is_ok r then known else 7) → EndsListing taken faults answer a c status
  after_rows c status known (Ok v) same z x y e = whole_end answer status (added_then x y refl) (e ∙ same) (subst IsListingStatus (sym e) z)
  after_rows c status known (Err v) same z x y e = fault_end answer status (bytes_of answer) (inl refl) (stopped_then x y refl) e

  -- a fault among the rows
  among_rows : Stopped taken faults a b (lines answer.rows) → BreaksOff taken faults answer a b 7
  among_rows x =
      let all : take (length answer.rows) answer.rows ≡ answer.rows = take_all (length answer.rows) answer.rows (omega arith) in
      fault_off answer 7 (length answer.rows) (stopped_early memory_text x (ap (λ (rows : List (List ℕ)). lines rows ++ memory_text) all)) refl

  -- out of memory after some rows
  memory_in_rows : {T E : Type 0} (c : K) (status : ℕ) (r : Result T E) → (n : ℕ) × Added taken faults a b (front_of answer n) → Writes taken faults b c memory_text r → status ≡ (if is_ok r then 8 else 7) → BreaksOff taken faults answer a c status
  memory_in_rows c status (Ok v) x y e = memory_off answer status x.0 (added_then x.1 y refl) e
  memory_in_rows c status (Err v) x y e = fault_off answer status x.0 (stopped_then x.1 y refl) e

  pub halted_sink : (halt : Halt) → halt ≡ Sink → HaltsAt taken faults answer a b halt → BreaksOff taken faults answer a b 7
  halted_sink halt is h = among_rows (subst (HaltsAt taken faults answer a b) is h)

  pub halted_memory : {T E : Type 0} (c : K) (halt : Halt) (why : NoMemory) (status : ℕ) (r : Result T E) → halt ≡ Memory why → HaltsAt taken faults answer a b halt → Writes taken faults b c memory_text r → status ≡ (if is_ok r then 8 else 7)
      → BreaksOff taken faults answer a c status
  halted_memory c halt why status r is h y e = memory_in_rows c status r (subst (HaltsAt taken faults answer a b) is h) y e
