-- The answer, once rows were handed over.
use Rattle.std.proofs.Common.{◌≡◌, ℕ, ◌<◌, ◌≤◌, ◌⊎◌, inl, inr, List, [], ◌++◌, Bool, true, false, length, take, drop, refl, sym, ap, ◌∙◌, subst, arith}
use Rattle.std.specs.Prelude.{Option, Some, None, Result, Ok, Err, is_ok, nat_lt, if◌then◌else◌}
use Rattle.std.proofs.lemmas.Bool.{cases_lt}
use Rattle.std.proofs.lemmas.Bool.Decides.{nat_tests}
use Rattle.std.proofs.lemmas.List.{take_all, take-append-drop}
use Rattle.std.proofs.lemmas.Grind.{flat_map-append}
use Rattle.kr_base.specs.Causes.{capped}
use Rattle.kr_base.specs.Told.{Added, Stopped, Writes}
use Rattle.kr_base.specs.Writing.{stopped_early}
use Rattle.kr_base.specs.declared.entry.Entry.{Entry}
use Rattle.kr_mean.specs.declared.mode.Mode.{Mode}
use Rattle.kr_mean.specs.declared.mode.Mode.TheVariants.{List as Listing, Method as Testing}
use Rattle.kr_report.specs.Endings.{EndsListing}
use Rattle.kr_report.specs.Reports.{Answer, lines}
use Rattle.kr_report.specs.Summaries.{summary_line}
use Rattle.kr_report_streaming.specs.Followed.{followed_by, led_by}
use Rattle.kr_report_streaming.specs.Lines.{cut_lines, entries_answer, failing_lines, last_of, lines_answer, status_by, texts, whole_lines, whole_text}
use Rattle.kr_report_streaming.specs.Writers.{HaltsAt, HasWritten, IsListingStatus, WritesLines, closing_by, closing_of, summary_of}
use Rattle.kr_report_streaming.specs.declared.closing.Closing.{Closing}
use Rattle.kr_report_streaming.specs.declared.row_line.RowLine.{RowLine}
use Rattle.kr_report_streaming.specs.declared.writer.LineWriter.{LineWriter}
use Rattle.kr_report_streaming.proofs.Endings.{after_rows}
use Rattle.kr_report_streaming.proofs.Lists.{length_less, take_both, take_less, take_texts}
use Rattle.kr_report.specs.Texts.{more_text}
use Rattle.kr_survey.specs.Listings.{spent_in}
use Rattle.kr_survey.specs.Scans.{rows_of}
use Rattle.kr_survey.specs.Takings.{Ends, Halts, Hands}
use Rattle.kr_survey.specs.declared.taker.Room.{Room}
use Rattle.kr_survey.specs.declared.taker.Room.TheVariants.{More, Full}
use Rattle.kr_survey.specs.declared.taker.End.{End}
use Rattle.kr_survey.specs.declared.taker.End.TheVariants.{Whole, Full as AtFull}
use Rattle.kr_survey.specs.declared.taker.Halt.{Halt}
use Rattle.kr_survey.specs.declared.taker.Halt.TheVariants.{Sink, Memory}

not_over : (limit n : ℕ) → n ≤ limit → nat_lt limit n ≡ false
not_over limit n h = grind (arith, nat_tests)

over : (limit n : ℕ) → limit < n → nat_lt limit n ≡ true
over limit n h = grind (arith, nat_tests)

abbrev answer : ℕ → List (List ℕ) → List ℕ → Answer
answer status rows last = record { status = status; rows = rows; last = last }

not_cut : (mode : Mode) (limit : ℕ) (ls : List RowLine) (tried : ℕ) (spent : Option (List ℕ)) → length ls ≤ limit → lines_answer mode limit ls tried spent ≡ whole_lines mode ls tried spent
unfolding lines_answer
not_cut mode limit ls tried spent h = ap (λ (b : Bool). let a : Answer = if b then cut_lines (take limit ls) else whole_lines mode ls tried spent in a) (not_over limit (length ls) h)

is_cut : (mode : Mode) (limit : ℕ) (ls : List RowLine) (tried : ℕ) (spent : Option (List ℕ)) → limit < length ls → lines_answer mode limit ls tried spent ≡ cut_lines (take limit ls)
unfolding lines_answer
is_cut mode limit ls tried spent h = ap (λ (b : Bool). let a : Answer = if b then cut_lines (take limit ls) else whole_lines mode ls tried spent in a) (over limit (length ls) h)

whole_rows : (mode : Mode) (ls : List RowLine) (tried : ℕ) (spent : Option (List ℕ)) → (whole_lines mode ls tried spent).rows ≡ texts ls
whole_rows mode ls tried None = refl
whole_rows mode ls tried (Some key) = refl

-- the rows of an answer, cut or not
rows_are : (mode : Mode) (limit : ℕ) (ls : List RowLine) (tried : ℕ) (spent : Option (List ℕ)) → (lines_answer mode limit ls tried spent).rows ≡ texts (take limit ls)
rows_are mode limit ls tried spent = elim (cases_lt limit (length ls)) [
  | inl long ↦ ap (λ (a : Answer). a.rows) (is_cut mode limit ls tried spent long)
  | inr short ↦ ap (λ (a : Answer). a.rows) (not_cut mode limit ls tried spent short) ∙ (whole_rows mode ls tried spent ∙ ap texts (sym (take_all limit ls short)))
]

line_is : (mode : Mode) (valid failing tried : ℕ) → whole_text mode valid failing tried ≡ summary_line (summary_of mode valid failing tried)
line_is Listing valid failing tried = refl
line_is (Testing name) valid failing tried = refl

by_failing : (b : Bool) → IsListingStatus (if b then 1 else 0)
by_failing true = inr (inl refl)
by_failing false = inl refl

-- all rows were handed over
whole_is : (mode : Mode) (ls : List RowLine) (w : LineWriter) (tried : ℕ) (spent : Option (List ℕ)) → w.valid ≡ length ls → w.failing ≡ length (failing_lines ls)
    → whole_lines mode ls tried spent ≡ answer (closing_by mode w tried spent).status (texts ls) (summary_line (closing_by mode w tried spent).summary)
whole_is mode ls w tried None v f =
    ap (λ (n : ℕ). answer (status_by n) (texts ls) (whole_text mode (length ls) n tried)) (sym f)
    ∙ (ap (λ (n : ℕ). answer (status_by w.failing) (texts ls) (whole_text mode n w.failing tried)) (sym v)
    ∙ ap (λ (t : List ℕ). answer (status_by w.failing) (texts ls) t) (line_is mode w.valid w.failing tried))
whole_is mode ls w tried (Some key) v f = refl

known : (mode : Mode) (w : LineWriter) (end : End) → IsListingStatus (closing_of mode w end).status
known mode w (Whole tried None) = by_failing (nat_lt 0 w.failing)
known mode w (Whole tried (Some key)) = inr (inr refl)
known mode w AtFull = by_failing (nat_lt 0 w.failing)

module _ {K : Type 0} (taken : K → Option (List ℕ)) (faults : K → ℕ) (mode : Mode) (es : List (Entry RowLine)) (a w : LineWriter) (from out : K) where
  -- all rows that the limit allows were written, and the end says the rest
  ended : (end : End) → Ends (WritesLines taken faults) es a from w out end
      → (entries_answer mode a.limit es ≡ answer (closing_of mode w end).status (texts (take a.limit (rows_of es))) (summary_line (closing_of mode w end).summary)) × Added taken faults from out (lines (texts (take a.limit (rows_of es))))
  ended (Whole tried spent) e =
      let ls = rows_of es in
      let is = e.0.0 in
      let all : take a.limit ls ≡ ls = take_all a.limit ls e.0.1 in
      let valid : w.valid ≡ length ls = is.valid ∙ ap (λ (l : List RowLine). length l) all in
      let failing : w.failing ≡ length (failing_lines ls) = is.failing ∙ ap (λ (l : List RowLine). length (failing_lines l)) all in
      let closing = closing_by mode w tried spent in (
        ap (λ (n : ℕ). lines_answer mode a.limit ls n (spent_in es)) (sym e.1)
            ∙ (ap (λ (k : Option (List ℕ)). lines_answer mode a.limit ls tried k) (sym e.2)
            ∙ (not_cut mode a.limit ls tried spent e.0.1
            ∙ (whole_is mode ls w tried spent valid failing
            ∙ ap (λ (l : List RowLine). answer closing.status (texts l) (summary_line closing.summary)) (sym all)))),
        is.text,
      )
  ended AtFull e =
      let n = e.0 in
      let ls = rows_of es in
      let is = e.1.0 in
      let same : take a.limit (take n ls) ≡ take a.limit ls = take_less a.limit n ls e.1.1 in
      let long : a.limit < length ls = omega (arith, e.1.1, length_less n ls) in
      let failing : w.failing ≡ length (failing_lines (take a.limit ls)) = is.failing ∙ ap (λ (l : List RowLine). length (failing_lines l)) same in
      let last : w.last ≡ last_of [] (take a.limit ls) = is.last ∙ ap (last_of []) same in (
        is_cut mode a.limit ls (capped (length es)) (spent_in es) long
            ∙ (ap (λ (m : ℕ). answer (status_by m) (texts (take a.limit ls)) (more_text (last_of [] (take a.limit ls)))) (sym failing)
            ∙ ap (λ (k : List ℕ). answer (status_by w.failing) (texts (take a.limit ls)) (more_text k)) (sym last)),
        subst (λ (l : List RowLine). Added taken faults from out (lines (texts l))) same is.text,
      )

  -- a front of the answer was written
  pub halted : (halt : Halt) → Halts (WritesLines taken faults) es a from w out halt → HaltsAt taken faults (entries_answer mode a.limit es) from out halt
  halted Sink h =
      let n = h.0 in
      let ls = rows_of es in
      let rows : (entries_answer mode a.limit es).rows ≡ texts (take a.limit ls) = rows_are mode a.limit ls (capped (length es)) (spent_in es) in
      let cut : texts (take a.limit (take n ls)) ≡ take n (texts (take a.limit ls)) = ap texts (take_both a.limit n ls) ∙ take_texts n (take a.limit ls) in
      let ts = texts (take a.limit ls) in
      let split : lines ts ≡ lines (take n ts) ++ lines (drop n ts) = ap lines (sym (take-append-drop n ts)) ∙ flat_map-append (λ (row : List ℕ). row) (take n ts) (drop n ts) in
      stopped_early (lines (drop n ts)) (subst (λ (rs : List (List ℕ)). Stopped taken faults from out (lines rs)) cut h.1) (ap lines rows ∙ split)
  halted (Memory why) h =
      let n = h.0 in
      let ls = rows_of es in
      let rows : (entries_answer mode a.limit es).rows ≡ texts (take a.limit ls) = rows_are mode a.limit ls (capped (length es)) (spent_in es) in
      let cut : texts (take a.limit (take n ls)) ≡ take n (texts (take a.limit ls)) = ap texts (take_both a.limit n ls) ∙ take_texts n (take a.limit ls) in
      (n, subst (λ (rs : List (List ℕ)). Added taken faults from out (lines rs)) (cut ∙ ap (take n) (sym rows)) (any_room (take n ls) h.1 h.2))
    where
      any_room : (ls : List RowLine) (room : Room) → WritesLines taken faults a from ls w out (Some room) → Added taken faults from out (lines (texts (take a.limit ls)))
      any_room ls More x = x.0.text
      any_room ls Full x = x.0.text

  pub halted_put : (put : Result End Halt) (halt : Halt) → put ≡ Err halt → Hands (WritesLines taken faults) es a from w out put → HaltsAt taken faults (entries_answer mode a.limit es) from out halt
  halted_put put halt is h = halted halt (subst (λ (p : Result End Halt). Hands (WritesLines taken faults) es a from w out p) is h)

  pub ended_put : {T E : Type 0} (log : List ℕ) (put : Result End Halt) (end : End) (closing : Closing) (c : K) (status : ℕ) (r : Result T E) → put ≡ Ok end → Hands (WritesLines taken faults) es a from w out put → closing ≡ closing_of mode w end
      → Writes taken faults out c (summary_line closing.summary ++ log) r → status ≡ (if is_ok r then closing.status else 7) → EndsListing taken faults (followed_by log (entries_answer mode a.limit es)) from c status
  ended_put {T} {E} log put end closing c status r is h closes y st =
      let e = ended end (subst (λ (p : Result End Halt). Hands (WritesLines taken faults) es a from w out p) is h) in
      let close = closing_of mode w end in
      let line = subst (λ (x : Closing). Writes taken faults out c (summary_line x.summary ++ log) r) closes y in
      let status_is : status ≡ (if is_ok r then close.status else 7) = subst (λ (x : Closing). status ≡ (if is_ok r then x.status else 7)) closes st in
      let all = answer close.status (texts (take a.limit (rows_of es))) (summary_line close.summary) in
      subst (λ (x : Answer). EndsListing taken faults x from c status) (sym (ap (followed_by log) e.0)) (after_rows taken faults from out (followed_by log all) c status close.status r refl (known mode w end) e.1 line status_is)

  pub led_put : {T E : Type 0} (text : List ℕ) (put : Result End Halt) (end : End) (closing : Closing) (c : K) (status : ℕ) (r : Result T E) → put ≡ Ok end → Hands (WritesLines taken faults) es a from w out put → closing ≡ closing_of mode w end
      → Writes taken faults out c (text ++ summary_line closing.summary) r → status ≡ (if is_ok r then closing.status else 7) → EndsListing taken faults (led_by text (entries_answer mode a.limit es)) from c status
  led_put {T} {E} text put end closing c status r is h closes y st =
      let e = ended end (subst (λ (p : Result End Halt). Hands (WritesLines taken faults) es a from w out p) is h) in
      let close = closing_of mode w end in
      let line = subst (λ (x : Closing). Writes taken faults out c (text ++ summary_line x.summary) r) closes y in
      let status_is : status ≡ (if is_ok r then close.status else 7) = subst (λ (x : Closing). status ≡ (if is_ok r then x.status else 7)) closes st in
      let all = answer close.status (texts (take a.limit (rows_of es))) (summary_line close.summary) in
      subst (λ (x : Answer). EndsListing taken faults x from c status) (sym (ap (led_by text) e.0)) (after_rows taken faults from out (led_by text all) c status close.status r refl (known mode w end) e.1 line status_is)
