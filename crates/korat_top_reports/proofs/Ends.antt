-- How a listing ends that is one line.
use Rattle.std.proofs.Common.{◌≡◌, ℕ, List, refl, inl, inr, arith}
use Rattle.std.specs.Prelude.{Option, Result, Ok, Err, is_ok, if◌then◌else◌}
use Rattle.kr_base.specs.Told.{Writes}
use Rattle.kr_report.specs.Reports.{Answer, line_answer}
use Rattle.kr_report.specs.Endings.{EndsListing}

-- a line that is put
pub line_listing : {K T E : Type 0} (taken : K → Option (List ℕ)) (faults : K → ℕ) (a b : K) (text : List ℕ) (status : ℕ) (r : Result T E) → Writes taken faults a b text r → status ≡ (if is_ok r then 0 else 7)
    → EndsListing taken faults (line_answer 0 text) a b status
line_listing taken faults a b text status (Ok v) x e = record {
  known = inl e;
  whole = λ _. (e, x);
  fault = λ f. absurd (omega (arith, e, f));
  memory = λ f. absurd (omega (arith, e, f));
}
line_listing taken faults a b text status (Err v) x e = record {
  known = inr (inr (inr (inl e)));
  whole = λ f. absurd (omega (arith, e, f));
  fault = λ _. (text, inl refl, x);
  memory = λ f. absurd (omega (arith, e, f));
}
