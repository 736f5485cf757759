-- Lines written after others.
use Rattle.std.proofs.Common.{◌≡◌, ℕ, ◌+◌, ◌-◌, ◌≤◌, ◌<◌, List, [], ◌∷◌, ◌++◌, length, take, Bool, true, false, zero, suc, inl, inr, refl, sym, ap, ◌∙◌, subst, arith, length-append, append-nil}
use Rattle.std.specs.Prelude.{Option}
use mir.Val.{bool_byte}
use Rattle.std.proofs.lemmas.Bool.{cases_lt}
use Rattle.std.proofs.lemmas.List.{take_all}
use Rattle.kr_base.specs.Told.{Added, Stopped}
use Rattle.kr_base.specs.Writing.{added_then, stopped_then}
use Rattle.kr_report.specs.Reports.{lines}
use Rattle.kr_report_streaming.specs.Lines.{failing_lines, last_of, texts}
use Rattle.kr_report_streaming.specs.Writers.{HasWritten}
use Rattle.kr_report_streaming.specs.declared.row_line.RowLine.{RowLine}
use Rattle.kr_report_streaming.specs.declared.writer.LineWriter.{LineWriter}
use Rattle.kr_report_streaming.proofs.Lists.{failing_both, failing_number, last_both, lines_both, take_few}

-- what the limit allows of lines after others that it allows all
pub taken_after : (limit room : ℕ) (done rows : List RowLine) → length done ≤ limit → room ≡ limit - length done → take limit (done ++ rows) ≡ done ++ take room rows
taken_after limit room done rows few e = take_few limit done rows few ∙ ap (λ n. done ++ take n rows) (sym e)

lt_from : (m n : ℕ) → m ≤ n → (m ≡ n → ⊥) → 0 < n - m
lt_from m n h apart = elim (cases_lt m n) [
  | inl below ↦ omega (arith, below)
  | inr above ↦ absurd (apart (omega (arith, h, above)))
]

module _ {K : Type 0} {taken : K → Option (List ℕ)} {faults : K → ℕ} {from mid : K} (limit room : ℕ) (done rows : List RowLine) (b : LineWriter) (is : HasWritten taken faults limit from done b mid) (few : length done ≤ limit) (left : room ≡ limit - b.valid) where
  front : List RowLine
  front = take room rows

  whole : take limit done ≡ done
  whole = take_all limit done few

  counted : room ≡ limit - length done
  counted = let n = ap length whole in omega (arith, left, is.valid, n)

  all : take limit (done ++ rows) ≡ done ++ take room rows
  all = taken_after limit room done rows few counted

  text : lines (texts (take limit (done ++ rows))) ≡ lines (texts (take limit done)) ++ lines (texts (take room rows))
  text = ap (λ (ls : List RowLine). lines (texts ls)) all ∙ (lines_both done (take room rows) ∙ ap (λ (ls : List RowLine). lines (texts ls) ++ lines (texts (take room rows))) (sym whole))

  pub more_written : (c : LineWriter) (out : K) → Added taken faults mid out (lines (texts (take room rows))) → c.limit ≡ b.limit → c.valid ≡ b.valid + length (take room rows) → c.failing ≡ b.failing + length (failing_lines (take room rows))
      → c.last ≡ last_of b.last (take room rows) → HasWritten taken faults limit from (done ++ rows) c out
  more_written c out put limits valid failing last = record {
    limit_is = limits ∙ is.limit_is;
    text = added_then is.text put text;
    valid = let n = ap length all in let m = length-append done (take room rows) in let k = ap length whole in omega (arith, valid, is.valid, n, m, k);
    failing =
        let n = ap (λ (ls : List RowLine). length (failing_lines ls)) all in
        let f = ap length (failing_both done (take room rows)) in
        let m = length-append (failing_lines done) (failing_lines (take room rows)) in
        let k = ap (λ (ls : List RowLine). length (failing_lines ls)) whole in
        omega (arith, failing, is.failing, n, f, m, k);
    last = last ∙ (ap (λ (key : List ℕ). last_of key (take room rows)) (is.last ∙ ap (last_of []) whole) ∙ (sym (last_both [] done (take room rows)) ∙ ap (last_of []) (sym all)));
  }

  -- for a piece that was cut to the room
  pub piece_written : (c : LineWriter) (out : K) (items vec put_rows : List RowLine) → vec ≡ rows → items ≡ take room vec → put_rows ≡ items → Added taken faults mid out (lines (texts put_rows)) → c.limit ≡ b.limit → c.valid ≡ b.valid + length items
      → c.failing ≡ b.failing + length (failing_lines items) → c.last ≡ last_of b.last items → HasWritten taken faults limit from (done ++ rows) c out
  piece_written c out items vec put_rows v i p put limits valid failing last =
      let e : items ≡ take room rows = i ∙ ap (take room) v in
      more_written c out (subst (λ (ls : List RowLine). Added taken faults mid out (lines (texts ls))) (p ∙ e) put) limits (valid ∙ ap (λ (l : List RowLine). b.valid + length l) e) (failing ∙ ap (λ (l : List RowLine). b.failing + length (failing_lines l)) e)
      (last ∙ ap (last_of b.last) e)

  pub piece_past : (n : ℕ) → n ≡ length rows → room < n → limit < length (done ++ rows)
  piece_past n e h = omega (arith, e, h, counted, length-append done rows, few)

  pub piece_fits : (n : ℕ) → n ≡ length rows → n ≤ room → length (done ++ rows) ≤ limit
  piece_fits n e h = omega (arith, e, h, counted, length-append done rows, few)

  pub piece_stopped : (out : K) (items vec put_rows : List RowLine) → vec ≡ rows → items ≡ take room vec → put_rows ≡ items → Stopped taken faults mid out (lines (texts put_rows)) → Stopped taken faults from out (lines (texts (take limit (done ++ rows))))
  piece_stopped out items vec put_rows v i p put = stopped_then is.text (subst (λ (ls : List RowLine). Stopped taken faults mid out (lines (texts ls))) (p ∙ (i ∙ ap (take room) v)) put) text

  pub some_written : (out : K) → Stopped taken faults mid out (lines (texts (take room rows))) → Stopped taken faults from out (lines (texts (take limit (done ++ rows))))
  some_written out put = stopped_then is.text put text

taken_one : {A : Type 0} (n : ℕ) (x : A) → 0 < n → take n (x ∷ []) ≡ x ∷ []
taken_one zero x some = absurd (omega (arith, some))
taken_one (suc zero) x some = refl
taken_one (suc (suc n)) x some = refl

long_one : (done : List RowLine) (row : RowLine) → length (done ++ row ∷ []) ≡ length done + 1
long_one done row = length-append done (row ∷ [])

module _ {K : Type 0} {taken : K → Option (List ℕ)} {faults : K → ℕ} {from mid : K} (limit : ℕ) (done : List RowLine) (row : RowLine) (b : LineWriter) (is : HasWritten taken faults limit from done b mid) (few : length done ≤ limit) where
  long : b.valid ≡ length done
  long = is.valid ∙ ap (λ (l : List RowLine). length l) (take_all limit done few)

  pub row_written : (c : LineWriter) (out : K) (text : List ℕ) (n : ℕ) → text ≡ row.text → (b.valid ≡ b.limit → ⊥) → b.valid ≤ b.limit → Added taken faults mid out text → c.limit ≡ b.limit → c.valid ≡ b.valid + 1 → c.failing ≡ b.failing + n
      → n ≡ bool_byte row.failing → c.last ≡ row.key → HasWritten taken faults limit from (done ++ row ∷ []) c out × (length (done ++ row ∷ []) ≤ limit)
  row_written c out text n e apart below put limits valid failing one last =
      let some : 0 < limit - b.valid = lt_from b.valid limit (omega (arith, below, is.limit_is)) (λ same. apart (omega (arith, same, is.limit_is))) in
      let one_taken : take (limit - b.valid) (row ∷ []) ≡ row ∷ [] = taken_one (limit - b.valid) row some in (
        more_written limit (limit - b.valid) done (row ∷ []) b is few refl c out
            (subst (λ (ls : List RowLine). Added taken faults mid out (lines (texts ls))) (sym one_taken) (subst (λ (t : List ℕ). Added taken faults mid out t) (e ∙ sym (append-nil row.text)) put)) limits
            (let k = ap (λ (l : List RowLine). length l) one_taken in omega (arith, valid, k))
            (let k = ap (λ (l : List RowLine). length (failing_lines l)) one_taken in let m = failing_number row.failing row in omega (arith, failing, one, k, m))
            (last ∙ ap (last_of b.last) (sym one_taken)),
        omega (arith, long_one done row, long, some),
      )

  pub row_stopped : (out : K) (text : List ℕ) → text ≡ row.text → (b.valid ≡ b.limit → ⊥) → b.valid ≤ b.limit → Stopped taken faults mid out text → Stopped taken faults from out (lines (texts (take limit (done ++ row ∷ []))))
  row_stopped out text e apart below put =
      let some : 0 < limit - b.valid = lt_from b.valid limit (omega (arith, below, is.limit_is)) (λ same. apart (omega (arith, same, is.limit_is))) in
      let one_taken : take (limit - b.valid) (row ∷ []) ≡ row ∷ [] = taken_one (limit - b.valid) row some in
      some_written limit (limit - b.valid) done (row ∷ []) b is few refl out (subst (λ (ls : List RowLine). Stopped taken faults mid out (lines (texts ls))) (sym one_taken) (subst (λ (t : List ℕ). Stopped taken faults mid out t) (e ∙ sym (append-nil row.text)) put))
