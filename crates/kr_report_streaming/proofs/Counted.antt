-- The answer, once rows were counted.
use Rattle.std.proofs.Common.{◌≡◌, ℕ, ◌+◌, List, [], ◌∷◌, ◌++◌, true, false, length, take, refl, sym, ap, ◌∙◌, inl, inr, subst, arith}
use Rattle.std.specs.Prelude.{Option, Some, None, Result, Ok, Err, is_ok, if◌then◌else◌}
use Rattle.kr_base.specs.Told.{Added, Writes}
use Rattle.kr_base.specs.Writing.{added_none}
use Rattle.kr_base.specs.declared.entry.Entry.{Entry}
use Rattle.kr_report.specs.Endings.{EndsListing}
use Rattle.kr_report.specs.Reports.{Answer, line_answer}
use Rattle.kr_report.specs.Summaries.{summary_line, summary_status}
use Rattle.kr_report.specs.Texts.{counted_text}
use Rattle.kr_report.specs.declared.lines.Summary.{Summary}
use Rattle.kr_report.specs.declared.lines.Summary.TheVariants as summaries
use Rattle.kr_report_streaming.specs.Tallies.{HasCounted, count_answer, summary_by, tally_by}
use Rattle.kr_report_streaming.specs.Writers.{HaltsAt, IsListingStatus}
use Rattle.kr_report_streaming.specs.declared.counter.Counter.{Counter}
use Rattle.kr_report_streaming.proofs.Endings.{after_rows}
use Rattle.kr_survey.specs.Scans.{rows_of}
use Rattle.kr_survey.specs.Takings.{Ends, Halts, Hands}
use Rattle.kr_survey.specs.declared.taker.End.{End}
use Rattle.kr_survey.specs.declared.taker.End.TheVariants.{Whole, Full as AtFull}
use Rattle.kr_survey.specs.declared.taker.Halt.{Halt}
use Rattle.kr_survey.specs.declared.taker.Halt.TheVariants.{Sink, Memory}
use Rattle.kr_survey.specs.declared.taker.Room.TheVariants.{More, Full}

known : (nodes count : ℕ) (end : End) → IsListingStatus (summary_status (summary_by nodes count end))
known nodes count (Whole tried None) = inl refl
known nodes count (Whole tried (Some key)) = inr (inr refl)
known nodes count AtFull = inl refl

module _ {K : Type 0} (taken : K → Option (List ℕ)) (faults : K → ℕ) (nodes : ℕ) (es : List (Entry (Unit {0}))) (a w : Counter) (from out : K) where
  ended : (end : End) → Ends (λ (a : Counter) (from : K) rows b out room. HasCounted from rows b out room) es a from w out end
      → (count_answer nodes es ≡ line_answer (summary_status (summary_by nodes w.count end)) (summary_line (summary_by nodes w.count end))) × Added taken faults from out []
  ended (Whole tried None) e = (
    ap (λ (k : Option (List ℕ)). tally_by nodes (length (rows_of es)) k) (sym e.2) ∙ ap (λ (n : ℕ). line_answer 0 (counted_text nodes n)) (sym e.0.count),
    subst (λ (x : K). Added taken faults from x []) (sym e.0.same) (added_none from),
  )
  ended (Whole tried (Some key)) e = (
    ap (λ (k : Option (List ℕ)). tally_by nodes (length (rows_of es)) k) (sym e.2),
    subst (λ (x : K). Added taken faults from x []) (sym e.0.same) (added_none from),
  )
  ended AtFull e = let no = e.1.more in absurd (cc (no))

  halted : (halt : Halt) → Halts (λ (a : Counter) (from : K) rows b out room. HasCounted from rows b out room) es a from w out halt → HaltsAt taken faults (count_answer nodes es) from out halt
  halted Sink h = let no = h.1.more in absurd (cc (no))
  halted (Memory why) h = (0, subst (λ (x : K). Added taken faults from x []) (sym h.2.same) (added_none from))

  pub halted_put : (put : Result End Halt) (halt : Halt) → put ≡ Err halt → Hands (λ (a : Counter) (from : K) rows b out room. HasCounted from rows b out room) es a from w out put → HaltsAt taken faults (count_answer nodes es) from out halt
  halted_put put halt is h = halted halt (subst (λ (p : Result End Halt). Hands (λ (a : Counter) (from : K) rows b out room. HasCounted from rows b out room) es a from w out p) is h)

  pub ended_put : {T E : Type 0} (put : Result End Halt) (end : End) (summary : Summary) (own : ℕ) (c : K) (status : ℕ) (r : Result T E) → put ≡ Ok end
      → Hands (λ (a : Counter) (from : K) rows b out room. HasCounted from rows b out room) es a from w out put → summary ≡ summary_by nodes w.count end → own ≡ summary_status summary
      → Writes taken faults out c (summary_line summary) r → status ≡ (if is_ok r then own else 7) → EndsListing taken faults (count_answer nodes es) from c status
  ended_put {T} {E} put end summary own c status r is h closes same y st =
      let e = ended end (subst (λ (p : Result End Halt). Hands (λ (a : Counter) (from : K) rows b out room. HasCounted from rows b out room) es a from w out p) is h) in
      let said = summary_by nodes w.count end in
      let own_is : own ≡ summary_status said = same ∙ ap summary_status closes in
      let line = subst (λ (x : Summary). Writes taken faults out c (summary_line x) r) closes y in
      subst (λ (x : Answer). EndsListing taken faults x from c status) (sym e.0) (after_rows taken faults from out (line_answer (summary_status said) (summary_line said)) c status own r own_is (subst IsListingStatus (sym own_is) (known nodes w.count end)) e.1 line st)
