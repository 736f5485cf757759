-- Builders with their numbers, as lines.
use Rattle.std.proofs.Common.{◌≡◌, ◌≤◌, ◌↔◌, ℕ, zero, suc, ◌+◌, Bool, true, List, [], ◌∷◌, ◌++◌, length, take, refl, sym, ap, ◌∙◌, subst, arith, min, zero-add, length-append}
use Rattle.std.specs.Prelude.{IfOk, OnErr, OnOk, Option, Some, None, Result, Ok, Err, if◌then◌else◌}
use Rattle.kr_base.specs.Causes.{capped}
use Rattle.kr_base.specs.Entries.{is_spent}
use Rattle.kr_base.specs.declared.entry.Entry.{Entry}
use Rattle.kr_base.specs.declared.entry.Mark.{Mark}
use Rattle.kr_base.specs.declared.entry.Mark.TheVariants.{Valid, Invalid, Spent}
use Rattle.kr_report_streaming.specs.Writers.{WritesLines}
use Rattle.kr_report_streaming.specs.declared.row_line.RowLine.{RowLine}
use Rattle.kr_report_streaming.proofs.Fresh.{fresh_writer}
use Rattle.kr_survey.specs.Listings.{spent_in}
use Rattle.kr_survey.specs.Scans.{row_of, rows_of}
use Rattle.kr_survey.specs.Takings.{Hands, Took, is_past}
use Rattle.kr_survey.specs.declared.taker.End.{End}
use Rattle.kr_survey.specs.declared.taker.End.TheVariants.{Whole, Full as AtFull}
use Rattle.kr_survey.specs.declared.taker.Halt.{Halt}
use Rattle.kr_survey.specs.declared.taker.Halt.TheVariants.{Sink, Memory}
use Rattle.kr_survey.specs.declared.taker.Room.{Room}
use Rattle.kr_survey.specs.declared.taker.Room.TheVariants.{More, Full}
use Rattle.kr_emit.specs.Writers.{WritesBuilders, entries_numbered, line_at, mark_at, numbered}
use Rattle.kr_emit.specs.declared.making.Builder.{Builder}
use Rattle.kr_emit.specs.declared.writer.BuilderWriter.{BuilderWriter}

-- ---- lists of builders

pub numbered_both : (n : ℕ) (xs ys : List Builder) → numbered n (xs ++ ys) ≡ numbered n xs ++ numbered (n + length xs) ys
numbered_both n [] ys = ap (λ (m : ℕ). numbered m ys) (omega arith)
numbered_both n (x ∷ xs) ys =
    let on : n + 1 + length xs ≡ n + length (x ∷ xs) = omega arith in
    ap (λ (ls : List RowLine). line_at n x ∷ ls) (numbered_both (n + 1) xs ys ∙ ap (λ (m : ℕ). numbered (n + 1) xs ++ numbered m ys) on)

-- one builder more
pub numbered_more : (n : ℕ) (xs : List Builder) (x : Builder) → numbered n (xs ++ x ∷ []) ≡ numbered n xs ++ line_at (n + length xs) x ∷ []
numbered_more n xs x = numbered_both n xs (x ∷ [])

pub length_numbered : (n : ℕ) (xs : List Builder) → length (numbered n xs) ≡ length xs
length_numbered n [] = refl
length_numbered n (x ∷ xs) = ap suc (length_numbered (n + 1) xs)

pub take_numbered : (k n : ℕ) (xs : List Builder) → take k (numbered n xs) ≡ numbered n (take k xs)
take_numbered zero n xs = refl
take_numbered (suc k) n [] = refl
take_numbered (suc k) n (x ∷ xs) = ap (λ (ls : List RowLine). line_at n x ∷ ls) (take_numbered k (n + 1) xs)

-- ---- entries

mark_numbered : (n : ℕ) (m : Mark Builder) → row_of (mark_at n m) ≡ numbered n (row_of m)
mark_numbered n (Valid b) = refl
mark_numbered n Invalid = refl
mark_numbered n Spent = refl

pub rows_numbered : (n : ℕ) (es : List (Entry Builder)) → rows_of (entries_numbered n es) ≡ numbered n (rows_of es)
rows_numbered n [] = refl
rows_numbered n (e ∷ es) =
    ap (λ (ls : List RowLine). ls ++ rows_of (entries_numbered (n + length (row_of e.mark)) es)) (mark_numbered n e.mark)
    ∙ (ap (λ (ls : List RowLine). numbered n (row_of e.mark) ++ ls) (rows_numbered (n + length (row_of e.mark)) es) ∙ sym (numbered_both n (row_of e.mark) (rows_of es)))

pub length_entries : (n : ℕ) (es : List (Entry Builder)) → length (entries_numbered n es) ≡ length es
length_entries n [] = refl
length_entries n (e ∷ es) = ap suc (length_entries (n + length (row_of e.mark)) es)

spent_mark : (n : ℕ) (m : Mark Builder) → is_spent (mark_at n m) ≡ is_spent m
spent_mark n (Valid b) = refl
spent_mark n Invalid = refl
spent_mark n Spent = refl

pub spent_numbered : (n : ℕ) (es : List (Entry Builder)) → spent_in (entries_numbered n es) ≡ spent_in es
spent_numbered n [] = refl
spent_numbered n (e ∷ es) =
    let rest = spent_in (entries_numbered (n + length (row_of e.mark)) es) in
    ap (λ (b : Bool). let key : Option (List ℕ) = if b then Some e.key else rest in key) (spent_mark n e.mark)
    ∙ ap (λ (k : Option (List ℕ)). let key : Option (List ℕ) = if is_spent e.mark then Some e.key else k in key) (spent_numbered (n + length (row_of e.mark)) es)

-- ---- builders that were handed over, as lines that were

module _ {K : Type 0} (taken : K → Option (List ℕ)) (faults : K → ℕ) (es : List (Entry Builder)) (a w : BuilderWriter) (from out : K) where
  cut : (n : ℕ) → numbered 0 (take n (rows_of es)) ≡ take n (rows_of (entries_numbered 0 es))
  cut n = sym (take_numbered n 0 (rows_of es)) ∙ ap (take n) (sym (rows_numbered 0 es))

  abbrev Written : Option Room → List RowLine → Type 0
  Written room ls = WritesLines taken faults a.lines from ls w.lines out room

  pub hands_lines : (put : Result End Halt) → Hands (WritesBuilders taken faults) es a from w out put → Hands (WritesLines taken faults) (entries_numbered 0 es) a.lines from w.lines out put
  hands_lines (Ok (Whole tried spent)) h = (subst (Written (Some More)) (sym (rows_numbered 0 es)) h.0.0, h.1 ∙ ap capped (sym (length_entries 0 es)), h.2 ∙ sym (spent_numbered 0 es))
  hands_lines (Ok AtFull) h = (h.0, subst (Written (Some Full)) (cut h.0) h.1.0)
  hands_lines (Err Sink) h = (h.0, subst (Written None) (cut h.0) h.1.0)
  hands_lines (Err (Memory why)) h = (h.0, h.1, subst (Written (Some h.1)) (cut h.0) h.2.0)

-- nothing is handed over yet
pub fresh_builders : {K : Type 0} (taken : K → Option (List ℕ)) (faults : K → ℕ) (w : BuilderWriter) (out : K) → w.lines.valid ≡ 0 → w.lines.failing ≡ 0 → w.lines.last ≡ [] → w.count ≡ 0 → w.lines.limit ≤ 4294967295 → WritesBuilders taken faults w out [] w out (Some More)
fresh_builders taken faults w out v f l n few = (fresh_writer taken faults w.lines out v f l, (n, few))

-- ---- builders that are handed over after others

pub numbered_after : (n : ℕ) (done rows : List Builder) → n ≡ length done → numbered 0 (done ++ rows) ≡ numbered 0 done ++ numbered n rows
numbered_after n done rows e = numbered_both 0 done rows ∙ ap (λ (m : ℕ). numbered 0 done ++ numbered m rows) (zero-add (length done) ∙ sym e)

module _ {K : Type 0} (taken : K → Option (List ℕ)) (faults : K → ℕ) (start : BuilderWriter) (from : K) (done rows : List Builder) (lines : List RowLine) (w b : BuilderWriter) (out out' : K)
    (before : WritesBuilders taken faults start from done w out (Some More)) (are : lines ≡ numbered w.count rows) where
  all_lines : numbered 0 done ++ lines ≡ numbered 0 (done ++ rows)
  all_lines = ap (λ (ls : List RowLine). numbered 0 done ++ ls) are ∙ sym (numbered_after w.count done rows before.1.0)

  abbrev Now : Option Room → List RowLine → Type 0
  Now room ls = WritesLines taken faults start.lines from ls b.lines out' room

  pub took : (r : Result Room Halt) → OnOk r (b.count ≡ min (w.count + length rows) 4294967295) → OnErr r (b.count ≡ w.count)
      → Took (WritesLines taken faults) start.lines from (numbered 0 done) lines b.lines out' r → Took (WritesBuilders taken faults) start from done rows b out' r
  took (Ok More) counted kept h =
      let more : Now (Some More) (numbered 0 (done ++ rows)) = subst (Now (Some More)) all_lines h in
      let few : b.lines.limit ≤ 4294967295 = omega (arith, before.1.1, before.0.0.limit_is, more.0.limit_is) in (
        more,
        (omega (arith, counted, before.1.0, more.1, few, more.0.limit_is, length_numbered 0 (done ++ rows), length-append done rows), few),
      )
  took (Ok Full) counted kept h = (subst (Now (Some Full)) all_lines h, tt)
  took (Err Sink) counted kept h = (subst (Now None) all_lines h, tt)
  took (Err (Memory why)) counted kept h = (h, (kept ∙ before.1.0, omega (arith, before.1.1, before.0.0.limit_is, h.0.limit_is)))

  pub past_is : (most : Option ℕ) (r : Result Room Halt) → IfOk r (λ room. (room ≡ Full) ↔ (is_past most (length (numbered 0 done ++ lines)) ≡ true))
      → IfOk r (λ room. (room ≡ Full) ↔ (is_past most (length (done ++ rows)) ≡ true))
  past_is most r h =
      let long : length (numbered 0 done ++ lines) ≡ length (done ++ rows) = ap (λ (ls : List RowLine). length ls) all_lines ∙ length_numbered 0 (done ++ rows) in
      subst (λ (n : ℕ). IfOk r (λ room. (room ≡ Full) ↔ (is_past most n ≡ true))) long h
