-- The log of lines is one of the problem's entries.
use Rattle.std.proofs.Common.{◌≡◌, ◌∙◌, ◌≤◌, ◌<◌, ◌⊎◌, inl, inr, ℕ, List, [], ◌∷◌, true, false, true≢false, length, length-take, take, refl, sym, ap, subst, arith}
use Rattle.std.specs.Prelude.{Option, Some}
use Rattle.kr_base.specs.declared.span.Bound.TheVariants.{At}
use Rattle.kr_base.specs.declared.span.Span.{Span}
use Rattle.kr_base.specs.declared.entry.Mark.{Mark}
use Rattle.kr_base.specs.declared.entry.Mark.TheVariants.{Valid, Invalid, Spent}
use Rattle.kr_base.specs.declared.entry.Entry.{Entry}
use Rattle.kr_base.specs.Entries.{entries_in, is_spent, is_valid}
use Rattle.kr_core.specs.Openings.{opening}
use Rattle.kr_core.specs.Rows.{drained}
use Rattle.kr_core.specs.declared.event.Event.{Event}
use Rattle.kr_mean.specs.Entries.{all_entries}
use Rattle.kr_mean.specs.Problem.{Problem}
use Rattle.kr_mean.specs.declared.mode.Mode.{Mode}
use Rattle.kr_pool.specs.Sharing.{EndsLogged, IsLogOf}
use Rattle.kr_core.specs.Cutting.{cuts_for}
use Rattle.kr_pool_desk.specs.Limits.{KeepsWindow}
use Rattle.kr_pool_desk.specs.Runs.{are_shared}
use Rattle.kr_pool_desk.specs.Traces.{IsTrace}
use Rattle.kr_pool_desk.proofs.Alike.{Alike, trace_alike}
use Rattle.kr_report.specs.Endings.{BreaksOff, EndsListing}
use Rattle.kr_report.specs.Reports.{Answer, rows_in}
use Rattle.kr_report_listing.specs.Listed.{listed}
use Rattle.kr_report_listing.specs.Traced.{EndsLogged as ListingLogged, IsLogFor}
use Rattle.kr_report_listing.proofs.Listings.{answer_is, lines_in, rows_long}
use Rattle.kr_report_streaming.specs.Followed.{followed_by}
use Rattle.kr_report_streaming.specs.Lines.{LinesLaw, entries_answer, line_of}
use Rattle.kr_report_streaming.specs.Traces.{trace_text}
use Rattle.kr_report_streaming.specs.Writers.{WritesLines}
use Rattle.kr_report_streaming.specs.declared.row_line.RowLine.{RowLine}
use Rattle.kr_report_streaming.specs.declared.writer.LineWriter.{LineWriter}
use Rattle.kr_report_streaming.proofs.Lists.{length_less}
use Rattle.kr_survey.specs.Mapping.{entries_by, mark_by}
use Rattle.kr_survey.specs.Scans.{rows_of}
use Rattle.kr_survey.specs.declared.taker.End.{End}
use Rattle.kr_survey.specs.declared.taker.End.TheVariants.{Whole, Full}

valid_by : {R T : Type 0} (f : R → T) (m : Mark R) → is_valid m ≡ is_valid (mark_by f m)
valid_by f (Valid row) = refl
valid_by f Invalid = refl
valid_by f Spent = refl

spent_by : {R T : Type 0} (f : R → T) (m : Mark R) → is_spent m ≡ is_spent (mark_by f m)
spent_by f (Valid row) = refl
spent_by f Invalid = refl
spent_by f Spent = refl

alike : {R T : Type 0} (f : R → T) (es : List (Entry R)) → Alike (entries_by f es) es
alike f [] = tt
alike f (e ∷ es) = (refl, valid_by f e.mark, spent_by f e.mark, alike f es)

trace_is : (P Q S : Problem) (span : Span) (workers : ℕ) (log : List Event) → S ≡ P → IsTrace (entries_by (line_of Q) (all_entries S)) span workers log → IsTrace (all_entries P) span workers log
trace_is P Q S span workers log f is =
    subst (λ (X : Problem). IsTrace (all_entries X) span workers log) f (trace_alike (entries_by (line_of Q) (all_entries S)) (all_entries S) span workers log (alike (line_of Q) (all_entries S)) is)

module _ {K : Type 0} (taken : K → Option (List ℕ)) (faults : K → ℕ) (P Q S : Problem) (limit : ℕ) (span : Span) (workers window : ℕ) (mode : Mode) (w b : LineWriter) (from out : K) (q : Q ≡ P) (s : S ≡ P) (m : mode ≡ P.mode) (e : w.limit ≡ limit) (law : LinesLaw) where
  -- a log without a stop where no row is left out
  unstopped : (end : End) (log : List Event) → EndsLogged (WritesLines taken faults) (lines_in Q S span) workers log w from b out end → IsLogOf (entries_by (line_of Q) (all_entries S)) span workers (Some limit) end log
      → length (rows_in (entries_in (At span.after) span.upto (all_entries P))) ≤ limit → are_shared workers log ≡ true
  unstopped (Whole tried spent) log ends is few = is.unstopped refl
  unstopped Full log ends is few =
      let rows = rows_of (lines_in Q S span) in
      absurd (omega (arith, few, rows_long P Q S span s, e, length_less ends.0 rows, ends.2.1))

  -- with one only after more rows than the limit
  past : (end : End) (log : List Event) → EndsLogged (WritesLines taken faults) (lines_in Q S span) workers log w from b out end → IsLogOf (entries_by (line_of Q) (all_entries S)) span workers (Some limit) end log
      → are_shared workers log ≡ false → limit < drained log
  past (Whole tried spent) log ends is stop = absurd (true≢false (sym (is.unstopped refl) ∙ stop))
  past Full log ends is stop = elim ends.1 [
    | inl whole ↦ absurd (true≢false (sym whole ∙ stop))
    | inr few ↦ let taken = length-take ends.0 (rows_of (lines_in Q S span)) in omega (arith, few, taken, ends.2.1, e)
  ]

  log_is : (end : End) (log : List Event) → EndsLogged (WritesLines taken faults) (lines_in Q S span) workers log w from b out end → IsLogOf (entries_by (line_of Q) (all_entries S)) span workers (Some limit) end log
      → KeepsWindow (Some window) (opening span (cuts_for span workers)) log → IsLogFor P span workers window limit log
  log_is end log ends is kept = record {
    traces = trace_is P Q S span workers log s is.finishes;
    unstopped = unstopped end log ends is;
    past = past end log ends is;
    begun = is.begun;
    kept = kept;
  }

  answers : (log : List Event) → followed_by (trace_text log) (entries_answer mode w.limit (lines_in Q S span)) ≡ followed_by (trace_text log) (listed P limit span)
  answers log = ap (followed_by (trace_text log)) (answer_is P Q S limit w.limit span mode q s m e law)

  pub ends_logged : (end : End) (log : List Event) (c : K) (status : ℕ) → EndsLogged (WritesLines taken faults) (lines_in Q S span) workers log w from b out end → IsLogOf (entries_by (line_of Q) (all_entries S)) span workers (Some limit) end log
      → KeepsWindow (Some window) (opening span (cuts_for span workers)) log
      → EndsListing taken faults (followed_by (trace_text log) (entries_answer mode w.limit (lines_in Q S span))) from c status → ListingLogged taken faults P span workers window limit from c status (Some log)
  ends_logged end log c status ends is kept put = (log_is end log ends is kept, subst (λ (x : Answer). EndsListing taken faults x from c status) (answers log) put)

  -- where the rows broke off, there is no log
  pub breaks_off : (c : K) (status : ℕ) → BreaksOff taken faults (entries_answer mode w.limit (lines_in Q S span)) from c status → BreaksOff taken faults (listed P limit span) from c status
  breaks_off c status x = subst (λ (a : Answer). BreaksOff taken faults a from c status) (answer_is P Q S limit w.limit span mode q s m e law) x
