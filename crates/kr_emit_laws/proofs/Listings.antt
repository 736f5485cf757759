-- What is written of a listing is code of its rows' builders.
use Rattle.std.proofs.Common.{◌≡◌, ℕ, ◌+◌, ◌≤◌, Bool, true, false, List, [], ◌∷◌, ◌++◌, length, take, refl, sym, ap, subst, ◌∙◌, arith, append_assoc}
use Rattle.std.specs.Prelude.{codes, decimal, nat_lt, if◌then◌else◌, Option, Some, None}
use Rattle.std.specs.List.{AllByRecursion}
use Rattle.std.proofs.lemmas.Bool.Decides.{nat_tests}
use Rattle.std.proofs.lemmas.List.{take_all}
use Rattle.kr_base.specs.Causes.{capped}
use Rattle.kr_base.specs.Cuts.{cut_text}
use Rattle.kr_base.specs.declared.entry.Entry.{Entry}
use Rattle.kr_mean.specs.Problem.{Problem}
use Rattle.kr_mean.specs.declared.row.Row.{Row}
use Rattle.kr_report.specs.Reports.{last_key, lines, rows_in, spent_key}
use Rattle.kr_emit_meaning.specs.Builders.{builder_text}
use Rattle.kr_emit_meaning.specs.Emitted.{builders_answer, builders_from, class_line, cut_builders, ended_by, whole_builders}
use Rattle.kr_emit_laws.specs.TextLaws.{HasLengths, IsCode, class_bytes}
use Rattle.kr_emit_laws.specs.Pieces as pieces
use Rattle.kr_emit_laws.specs.Pieces.{Piece, text_of}
use Rattle.kr_emit_laws.specs.Syntax.{builders_of}
use Rattle.kr_emit_laws.proofs.Comments.{all_plain, plain_append, plain_comment, plain_cut, plain_number}
use Rattle.kr_emit_laws.proofs.Texts.{method_is}

module _ (problem : Problem) where
  abbrev HaveLengths : List Row → Type 0
  HaveLengths rows = AllByRecursion (λ (row : Row). HasLengths problem row.structure) rows

  methods_are : (n : ℕ) (rows : List Row) (more : List Piece) → HaveLengths rows → text_of (pieces.methods n (builders_of problem rows) more) ≡ lines (builders_from problem n rows) ++ text_of more
  methods_are n [] more h = refl
  methods_are n (row ∷ rows) more h =
      let rest = pieces.methods (n + 1) (builders_of problem rows) more in
      method_is problem row n rest h.0
      ∙ (ap (λ (x : List ℕ). builder_text problem row n ++ x) (methods_are (n + 1) rows more h.1) ∙ sym (append_assoc (builder_text problem row n) (lines (builders_from problem (n + 1) rows)) (text_of more)))

  -- with any last line
  code_is : (status : ℕ) (rows : List Row) (last : List ℕ) → HaveLengths rows
      → class_bytes (ended_by status (builders_from problem 0 rows) (last ++ codes "\n")) ≡ text_of (pieces.code (builders_of problem rows) last)
  code_is status rows last h =
      let end = pieces.close_brace (pieces.comment last []) in
      append_assoc class_line (lines (builders_from problem 0 rows)) (codes "}\n// " ++ (last ++ codes "\n")) ∙ ap (λ (x : List ℕ). class_line ++ x) (sym (methods_are 0 rows end h))

  coded : (status : ℕ) (rows : List Row) (last : List ℕ) → HaveLengths rows → all_plain last ≡ true → IsCode problem rows (class_bytes (ended_by status (builders_from problem 0 rows) (last ++ codes "\n")))
  coded status rows last h plain = record { last = last; comment = plain_comment last plain; spelled = code_is status rows last h }

  listed : (valid tried : ℕ) → all_plain (codes "valid " ++ decimal (capped valid) ++ codes " tried " ++ decimal (capped tried)) ≡ true
  listed valid tried =
      plain_append (codes "valid " ++ decimal (capped valid) ++ codes " tried ") (decimal (capped tried))
      (plain_append (codes "valid " ++ decimal (capped valid)) (codes " tried ") (plain_append (codes "valid ") (decimal (capped valid)) refl (plain_number (capped valid))) refl) (plain_number (capped tried))

  whole : (es : List (Entry Row)) (key : Option (List ℕ)) → HaveLengths (rows_in es) → IsCode problem (rows_in es) (class_bytes (whole_builders problem es key))
  whole es None h = coded 0 (rows_in es) (codes "valid " ++ decimal (capped (length (rows_in es))) ++ codes " tried " ++ decimal (capped (length es))) h (listed (length (rows_in es)) (length es))
  whole es (Some key) h = coded 5 (rows_in es) (codes "spent " ++ cut_text key) h (plain_append (codes "spent ") (cut_text key) refl (plain_cut key))

  cut : (rows : List Row) → HaveLengths rows → IsCode problem rows (class_bytes (cut_builders problem rows))
  cut rows h = coded 0 rows (codes "more " ++ cut_text (last_key rows)) h (plain_append (codes "more ") (cut_text (last_key rows)) refl (plain_cut (last_key rows)))

  not_below : (m n : ℕ) → nat_lt m n ≡ false → n ≤ m
  not_below m n e = grind (arith, nat_tests)

  pub emitted_is : (limit : ℕ) (es : List (Entry Row)) → HaveLengths (take limit (rows_in es)) → IsCode problem (take limit (rows_in es)) (class_bytes (builders_answer problem limit es))
  unfolding builders_answer
  emitted_is limit es h = go (nat_lt limit (length (rows_in es))) refl
    where
      go : (b : Bool) → nat_lt limit (length (rows_in es)) ≡ b
          → IsCode problem (take limit (rows_in es)) (class_bytes (if b then cut_builders problem (take limit (rows_in es)) else whole_builders problem es (spent_key es)))
      go true e = cut (take limit (rows_in es)) h
      go false e =
          let all : take limit (rows_in es) ≡ rows_in es = take_all limit (rows_in es) (not_below limit (length (rows_in es)) e) in
          subst (λ (rows : List Row). IsCode problem rows (class_bytes (whole_builders problem es (spent_key es)))) (sym all) (whole es (spent_key es) (subst HaveLengths all h))
