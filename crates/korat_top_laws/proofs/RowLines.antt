-- The lines of rows are read.
use Rattle.std.proofs.Common.{◌≡◌, ℕ, ◌+◌, ◌^◌, ◌<◌, List, [], ◌∷◌, ◌++◌, Bool, true, false, length, refl, sym, ap, ◌∙◌, subst, arith, append_assoc, decimal}
use Rattle.std.specs.Prelude.{Option, Some, None, ◌&&◌, not, codes, is_some, if◌then◌else◌, option_and_then}
use Rattle.std.specs.Fmt.{digits}
use Rattle.std.specs.List.{before_first}
use Rattle.std.specs.Option.{option_map}
use Rattle.std.specs.Str.{bytes_eq}
use Rattle.std.proofs.lemmas.Slice.Eq.{bytes_eq-Decides}
use Rattle.kr_base.specs.Cuts.{cut_text}
use Rattle.kr_base.specs.Parsing.{cut_of}
use Rattle.kr_classes_table.specs.Table.{Heading}
use Rattle.kr_mean.specs.declared.kind.Kind.{Kind}
use Rattle.kr_mean.specs.declared.kind.Verdict.{Verdict}
use Rattle.kr_mean.specs.declared.kind.Verdict.TheVariants.{Pass, Ensures, Signals, RepOk, Trap, CheckTrap, Spent as OutOfFuel}
use Rattle.kr_report.specs.Reports.{is_failing}
use Rattle.kr_report.specs.Texts.{trap_text, verdict_text}
use Rattle.kr_text.specs.Splitting.{IsWithout, is_empty, is_space, number_of, onto}
use Rattle.kr_trace.specs.declared.row.Row.{Row}
use Rattle.kr_trace.specs.Words.{are_more, is_kind, is_numbered, last_by, rest_passes, row_in, verdict_in, words_in}
use Rattle.kr_shard_laws.proofs.Bytes.{after_is, before_is, without_append}
use Rattle.korat_top_laws.specs.Listings.{IsLineOf}
use Rattle.korat_top_laws.specs.Printed.{IsShown}
use Rattle.korat_top_laws.specs.RowLines.{IsOneWord, IsWritable, RowLaw, row_line}
use Rattle.korat_top_laws.proofs.Pieces.{cut_word, number_back, number_word, seat_back, spaced}

-- ---- a text parts at its first space

line_is : (classes : List Heading) (key : List ℕ) (verdict : Option Verdict) (structure : List ℕ) → row_line classes key verdict structure ≡ cut_text key ++ 32 ∷ (verdict_text classes verdict ++ structure)
line_is classes key verdict structure = append_assoc (cut_text key ++ codes " ") (verdict_text classes verdict) structure ∙ append_assoc (cut_text key) (codes " ") (verdict_text classes verdict ++ structure)

-- ---- words

some_words : (text : List ℕ) → are_more (words_in text) ≡ true
some_words [] = refl
some_words (b ∷ bs) = elim (is_space b) as (λ t. are_more (if t then [] ∷ words_in bs else onto b (words_in bs)) ≡ true) [
  | true ↦ refl
  | false ↦ onto_more b (words_in bs) (some_words bs)
]
  where
    onto_more : (b : ℕ) (ws : List (List ℕ)) → are_more ws ≡ true → are_more (onto b ws) ≡ true
    onto_more b [] h = absurd (cc (h))
    onto_more b (w ∷ ws) h = refl

-- a cut's text isn't a word that isn't read as a cut
not_word : (key word : List ℕ) → IsShown key → cut_of word ≡ None → bytes_eq (cut_text key) word ≡ false
not_word key word h other = go (bytes_eq (cut_text key) word) refl
  where
    go : (t : Bool) → bytes_eq (cut_text key) word ≡ t → t ≡ false
    go false is = refl
    go true is =
        let same : cut_text key ≡ word = (bytes_eq-Decides (cut_text key) word).0 is in
        let none : None ≡ Some key = sym other ∙ (sym (ap cut_of same) ∙ h) in
        absurd (cc (none))

no_last_word : (key : List ℕ) (ws : List (List ℕ)) → IsShown key → last_by (cut_text key ∷ ws) ≡ None
unfolding digits
no_last_word key ws h = rw (not_word key (codes "valid") h refl, not_word key (codes "more") h refl, not_word key (codes "spent") h refl) refl

-- ---- verdicts

not_zero : (n : ℕ) → 0 < n → n < 2 ^ 32 → bytes_eq (decimal n) (codes "0") ≡ false
unfolding digits
not_zero n some small = go (bytes_eq (decimal n) (codes "0")) refl
  where
    go : (t : Bool) → bytes_eq (decimal n) (codes "0") ≡ t → t ≡ false
    go false is = refl
    go true is =
        let same : decimal n ≡ codes "0" = (bytes_eq-Decides (decimal n) (codes "0")).0 is in
        let fits : n < 2 ^ 64 = omega (arith, small) in
        let zero_is : Some 0 ≡ Some n = sym (ap number_of same) ∙ number_back n fits in
        let none : 0 ≡ n = cc (zero_is) in
        absurd (omega (arith, none, some))

numbered : (n : ℕ) (structure : List ℕ) → 0 < n → n < 2 ^ 32 → is_numbered (words_in (decimal n ++ 32 ∷ structure)) ≡ true
numbered n structure some small =
    ap is_numbered (spaced (decimal n) structure (number_word n).one_word)
    ∙ (ap (λ (o : Option ℕ). is_some o && (not (bytes_eq (decimal n) (codes "0")) && are_more (words_in structure))) (seat_back n small)
    ∙ (ap (λ (b : Bool). not b && are_more (words_in structure)) (not_zero n some small) ∙ some_words structure))

not_empty : (text : List ℕ) → 0 < length text → is_empty text ≡ false
not_empty [] h = absurd (omega (arith, h))
not_empty (b ∷ bs) h = refl

named : (classes : List Heading) (kind : Kind) (structure : List ℕ) → IsOneWord (trap_text classes kind) → is_kind (words_in (trap_text classes kind ++ 32 ∷ structure)) ≡ true
named classes kind structure h =
    ap is_kind (spaced (trap_text classes kind) structure h.one_word)
    ∙ (ap (λ (b : Bool). not b && are_more (words_in structure)) (not_empty (trap_text classes kind) h.some) ∙ some_words structure)

-- `WORD MORE `, and what follows it
parted : (word more structure : List ℕ) → (word ++ more ++ codes " ") ++ structure ≡ word ++ (more ++ 32 ∷ structure)
parted word more structure = append_assoc (word ++ more) (codes " ") structure ∙ append_assoc word more (32 ∷ structure)

verdict_read : (classes : List Heading) (verdict : Option Verdict) (structure : List ℕ) → IsWritable classes verdict → rest_passes (is_some verdict) (verdict_text classes verdict ++ structure) ≡ Some (not (is_failing verdict))
verdict_read classes None structure h = refl
verdict_read classes (Some Pass) structure h = ap (λ (b : Bool). if b then Some true else None) (some_words structure)
verdict_read classes (Some (Ensures n)) structure h =
    ap (λ (text : List ℕ). verdict_in (words_in text)) (parted (codes "ensures ") (decimal n) structure) ∙ ap (λ (b : Bool). if b then Some false else None) (numbered n structure h.0 h.1)
verdict_read classes (Some (Signals n)) structure h =
    ap (λ (text : List ℕ). verdict_in (words_in text)) (parted (codes "signals ") (decimal n) structure) ∙ ap (λ (b : Bool). if b then Some false else None) (numbered n structure h.0 h.1)
verdict_read classes (Some RepOk) structure h = ap (λ (b : Bool). if b then Some false else None) (some_words structure)
verdict_read classes (Some (Trap kind)) structure h =
    ap (λ (text : List ℕ). verdict_in (words_in text)) (parted (codes "trap ") (trap_text classes kind) structure) ∙ ap (λ (b : Bool). if b then Some false else None) (named classes kind structure h)
verdict_read classes (Some (CheckTrap kind)) structure h =
    ap (λ (text : List ℕ). verdict_in (words_in text)) (parted (codes "check-trap ") (trap_text classes kind) structure) ∙ ap (λ (b : Bool). if b then Some false else None) (named classes kind structure h)
verdict_read classes (Some OutOfFuel) structure h = ap (λ (b : Bool). if b then Some false else None) (some_words structure)

verdict_line : (classes : List Heading) (verdict : Option Verdict) → IsWritable classes verdict → IsWithout 10 (verdict_text classes verdict)
verdict_line classes None h = tt
verdict_line classes (Some Pass) h = (refl, (refl, (refl, (refl, (refl, tt)))))
verdict_line classes (Some (Ensures n)) h =
    without_append 10 (codes "ensures " ++ decimal n) (codes " ")
    (without_append 10 (codes "ensures ") (decimal n) (refl, (refl, (refl, (refl, (refl, (refl, (refl, (refl, tt)))))))) (number_word n).one_line) (refl, tt)
verdict_line classes (Some (Signals n)) h =
    without_append 10 (codes "signals " ++ decimal n) (codes " ")
    (without_append 10 (codes "signals ") (decimal n) (refl, (refl, (refl, (refl, (refl, (refl, (refl, (refl, tt)))))))) (number_word n).one_line) (refl, tt)
verdict_line classes (Some RepOk) h = (refl, (refl, (refl, (refl, (refl, (refl, tt))))))
verdict_line classes (Some (Trap kind)) h =
    without_append 10 (codes "trap " ++ trap_text classes kind) (codes " ") (without_append 10 (codes "trap ") (trap_text classes kind) (refl, (refl, (refl, (refl, (refl, tt))))) h.one_line) (refl, tt)
verdict_line classes (Some (CheckTrap kind)) h =
    without_append 10 (codes "check-trap " ++ trap_text classes kind) (codes " ")
    (without_append 10 (codes "check-trap ") (trap_text classes kind) (refl, (refl, (refl, (refl, (refl, (refl, (refl, (refl, (refl, (refl, (refl, tt))))))))))) h.one_line) (refl, tt)
verdict_line classes (Some OutOfFuel) h = (refl, (refl, (refl, (refl, (refl, (refl, tt))))))

-- ---- together

some_text : (xs ys : List ℕ) → 0 < length ys → is_empty (xs ++ ys) ≡ false
some_text [] [] h = absurd (omega (arith, h))
some_text [] (y ∷ ys) h = refl
some_text (x ∷ xs) ys h = refl

abbrev row_of : Bool → List ℕ → Row
row_of passes k = record { key = k; passes = passes }

row_read : (classes : List Heading) (key : List ℕ) (verdict : Option Verdict) (structure : List ℕ) → IsShown key → IsWritable classes verdict → 0 < length structure
    → row_in (is_some verdict) (cut_text key ++ 32 ∷ (verdict_text classes verdict ++ structure)) ≡ Some (record { key = key; passes = not (is_failing verdict) })
row_read classes key verdict structure shown number some =
    let rest = verdict_text classes verdict ++ structure in
    let line = cut_text key ++ 32 ∷ rest in
    let word = (cut_word key).one_word in
    let made : Option Bool → List ℕ → Option Row = λ o w. option_and_then (λ (passes : Bool). option_map (row_of passes) (cut_of w)) o in
    ap (λ (r : List ℕ). if is_empty r then None else made (rest_passes (is_some verdict) r) (before_first is_space line)) (after_is 32 (cut_text key) rest word)
    ∙ (ap (λ (b : Bool). if b then None else made (rest_passes (is_some verdict) rest) (before_first is_space line)) (some_text (verdict_text classes verdict) structure some)
    ∙ (ap (λ (w : List ℕ). made (rest_passes (is_some verdict) rest) w) (before_is 32 (cut_text key) rest word)
    ∙ (ap (λ (o : Option Bool). made o (cut_text key)) (verdict_read classes verdict structure number)
    ∙ ap (option_map (row_of (not (is_failing verdict)))) shown)))

pub rows_back : RowLaw
rows_back classes key verdict structure shown number some one =
    let rest = verdict_text classes verdict ++ structure in
    subst (λ (line : List ℕ). IsLineOf (is_some verdict) (record { key = key; passes = not (is_failing verdict) }) line) (sym (line_is classes key verdict structure)) (record {
      one_line = without_append 10 (cut_text key) (32 ∷ rest) (cut_word key).one_line (refl, without_append 10 (verdict_text classes verdict) structure (verdict_line classes verdict number) one);
      no_last = ap last_by (spaced (cut_text key) rest (cut_word key).one_word) ∙ no_last_word key (words_in rest) shown;
      read = row_read classes key verdict structure shown number some;
    })
