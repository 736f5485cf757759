-- Rows at the front of a text.
use Rattle.std.proofs.Common.{◌≡◌, ℕ, ◌+◌, ◌-◌, ◌<◌, ◌≤◌, List, [], ◌∷◌, ◌++◌, length, take, drop, map, refl, sym, ap, ◌∙◌, subst, arith, append_assoc, append-nil, Option, Some, None}
use Rattle.std.specs.Prelude.{Ok, Err, flat_map}
use Rattle.std.proofs.lemmas.Grind.{flat_map-append}
use Rattle.std.proofs.lemmas.List.{length-append, length-drop, length-map, length-take, take-append-drop, take_all}
use Rattle.std.proofs.Math.Seq.{drop-append_seam, take-append_seam}
use Rattle.kr_base.specs.declared.span.Bound.{Bound}
use Rattle.kr_base.specs.declared.span.Span.{Span}
use Rattle.kr_text.specs.Splitting.{ended, lines_in, unended}
use Rattle.kr_shard.specs.Shards.{KeyedLine, and_rows, ended_by, ending_in, ending_of, for_ok, if_last, last_key, row_bytes, row_key, rows_in, shard_of, span_of, with_lines, with_span}
use Rattle.kr_shard.specs.Stages.{Answers, IsAt, IsFront, ReadsBody, body_of, body_with, line_of}
use Rattle.kr_shard.specs.ReadRows.{RowLines}
use Rattle.kr_shard.specs.declared.shard.ShardRefusal.{ShardRefusal}
use Rattle.kr_shard.specs.declared.shard.ShardRefusal.TheVariants.{Malformed, NoMemory}
use Rattle.kr_shard.specs.declared.words.Ending.{Ending}
use Rattle.kr_text.proofs.Splits.{unended_after}
use Rattle.kr_shard.specs.declared.reading.Front.{Front}

pub at_start : (span : Span) (text : List ℕ) → IsAt span text text 0 span.after
at_start span text = record { rows = []; text_is = refl; lines = refl; are = refl; last_is = refl; count_is = refl }

last_of_more : (after : List ℕ) (rows : List KeyedLine) (row : KeyedLine) → last_key after (rows ++ row ∷ []) ≡ row.key
last_of_more after [] row = refl
last_of_more after (r ∷ rows) row = last_of_more r.key rows row

pub map-append_lines : (rows more : List KeyedLine) → map line_of (rows ++ more) ≡ map line_of rows ++ map line_of more
map-append_lines [] more = refl
map-append_lines (r ∷ rows) more = ap (λ (ls : List (List ℕ)). r.line ∷ ls) (map-append_lines rows more)

-- one row more
pub at_next : (span : Span) (text rest line after : List ℕ) (count : ℕ) (last key : List ℕ) → IsAt span text rest count last
    → lines_in rest ≡ line ∷ lines_in after → rest ≡ ended line ++ after → row_key span.upto last line ≡ Some key
    → IsAt span text after (count + 1) key
at_next span text rest line after count last key at lines is found =
    let row : KeyedLine = record { key = key; line = line } in
    let rows = at.rows in
    let bytes : row_bytes (rows ++ row ∷ []) ≡ row_bytes rows ++ ended line = flat_map-append (λ (r : KeyedLine). ended r.line) rows (row ∷ []) ∙ ap (λ (t : List ℕ). row_bytes rows ++ t) (append-nil (ended line)) in
    let names : map line_of (rows ++ row ∷ []) ≡ map line_of rows ++ line ∷ [] = map-append_lines rows (row ∷ []) in
    let more : rows_in span.upto (lines_in rest) last ≡ row ∷ rows_in span.upto (lines_in after) key =
    ap (λ (ls : List (List ℕ)). rows_in span.upto ls last) lines ∙ ap (λ (o : Option (List ℕ)). and_rows o line (rows_in span.upto (lines_in after))) found in
    record {
      rows = rows ++ row ∷ [];
      text_is = at.text_is ∙ (ap (λ (t : List ℕ). row_bytes rows ++ t) is ∙ (sym (append_assoc (row_bytes rows) (ended line) after) ∙ ap (λ (t : List ℕ). t ++ after) (sym bytes)));
      lines = at.lines ∙ (ap (λ (ls : List (List ℕ)). map line_of rows ++ ls) lines ∙ (sym (append_assoc (map line_of rows) (line ∷ []) (lines_in after)) ∙ ap (λ (ls : List (List ℕ)). ls ++ lines_in after) (sym names)));
      are = at.are ∙ (ap (λ (rs : List KeyedLine). rows ++ rs) more ∙ sym (append_assoc rows (row ∷ []) (rows_in span.upto (lines_in after) key)));
      last_is = sym (last_of_more span.after rows row);
      count_is = omega (arith, at.count_is, length-append rows (row ∷ []));
    }

-- no row more
front_is : (span : Span) (text rest : List ℕ) (count : ℕ) (last : List ℕ) (front : Front) → IsAt span text rest count last
    → rows_in span.upto (lines_in rest) last ≡ [] → front.count ≡ count → front.last ≡ last → front.len + length rest ≡ length text → IsFront span text front
front_is span text rest count last front at none count_is last_is len_is =
    let rows = at.rows in
    let long : length text ≡ length (row_bytes rows) + length rest = ap length at.text_is ∙ length-append (row_bytes rows) rest in
    let len : front.len ≡ length (row_bytes rows) = omega arith in
    let rest_is : drop front.len text ≡ rest = ap (λ (n : ℕ). drop n text) len ∙ (ap (drop (length (row_bytes rows))) at.text_is ∙ drop-append_seam (row_bytes rows) rest) in
    record {
      rows = rows;
      are = at.are ∙ (ap (λ (rs : List KeyedLine). rows ++ rs) none ∙ append-nil rows);
      count = count_is ∙ at.count_is;
      last = last_is ∙ at.last_is;
      within = omega (arith, long, len);
      bytes = ap (λ (n : ℕ). take n text) len ∙ (ap (take (length (row_bytes rows))) at.text_is ∙ take-append_seam (row_bytes rows) rest);
      lines = at.lines ∙ ap (λ (t : List ℕ). map line_of rows ++ lines_in t) (sym rest_is);
    }

pub front_at_end : (span : Span) (text rest : List ℕ) (count : ℕ) (last : List ℕ) (front : Front) → IsAt span text rest count last
    → lines_in rest ≡ [] → front.count ≡ count → front.last ≡ last → front.len + length rest ≡ length text → IsFront span text front
front_at_end span text rest count last front at none = front_is span text rest count last front at (ap (λ (ls : List (List ℕ)). rows_in span.upto ls last) none)

-- a row has bytes, so there are fewer rows than bytes
count_rows : (rows : List KeyedLine) → length rows ≤ length (row_bytes rows)
count_rows [] = omega arith
count_rows (r ∷ rows) =
    let h : length rows ≤ length (row_bytes rows) = count_rows rows in
    omega (arith, length-append (ended r.line) (row_bytes rows), length-append r.line (10 ∷ []))

pub rest_length : (span : Span) (text rest : List ℕ) (count : ℕ) (last : List ℕ) → IsAt span text rest count last → count + length rest ≤ length text
rest_length span text rest count last at =
    let few : length at.rows ≤ length (row_bytes at.rows) = count_rows at.rows in
    omega (arith, at.count_is, ap length at.text_is, length-append (row_bytes at.rows) rest)

pub front_count : (span : Span) (text : List ℕ) (front : Front) → IsFront span text front → front.count ≤ length text
front_count span text front is =
    let few : length is.rows ≤ length (row_bytes is.rows) = count_rows is.rows in
    omega (arith, is.count, ap length is.bytes, length-take front.len text)

-- ---- the last line

over : (count : ℕ) (ending : Ending) (after : List ℕ) (lines : List (List ℕ)) → lines_in after ≡ lines → 0 < length after → if_last lines (unended after) count ending ≡ Err (count + 3)
over count ending [] lines e h = absurd (omega arith)
over count ending (b ∷ bs) [] e h = rw e refl
over count ending (b ∷ bs) (line ∷ lines) e h = refl

one_line : (text line after : List ℕ) → lines_in text ≡ line ∷ lines_in after → text ≡ ended line ++ after → unended text ≡ unended after
one_line text line after are is = unended_after (line ∷ []) text after (is ∙ ap (λ (t : List ℕ). t ++ after) (sym (append-nil (ended line)))) are

-- the last line, and there is more
pub not_last : (upto : Bound) (last : List ℕ) (count : ℕ) (text line after : List ℕ) (ending : Ending) → lines_in text ≡ line ∷ lines_in after → text ≡ ended line ++ after
    → Some ending ≡ ending_of upto last count line → 0 < length after → ending_in upto last count (lines_in text) (unended text) ≡ Err (count + 3)
not_last upto last count text line after ending are is found some =
    ap (λ (ls : List (List ℕ)). ending_in upto last count ls (unended text)) are
    ∙ (ap (λ (o : Option Ending). ended_by o (lines_in after) (unended text) count) (sym found)
    ∙ (ap (λ (t : List ℕ). if_last (lines_in after) t count ending) (one_line text line after are is) ∙ over count ending after (lines_in after) refl some))

-- the last line, and that is all
pub is_last : (upto : Bound) (last : List ℕ) (count : ℕ) (text line after : List ℕ) (ending : Ending) → lines_in text ≡ line ∷ lines_in after → text ≡ ended line ++ after
    → Some ending ≡ ending_of upto last count line → after ≡ [] → ending_in upto last count (lines_in text) (unended text) ≡ Ok ending
is_last upto last count text line after ending are is found none =
    ap (λ (ls : List (List ℕ)). ending_in upto last count ls (unended text)) are
    ∙ (ap (λ (o : Option Ending). ended_by o (lines_in after) (unended text) count) (sym found)
    ∙ (ap (λ (t : List ℕ). if_last (lines_in after) t count ending) (one_line text line after are is)
    ∙ ap (λ (t : List ℕ). if_last (lines_in t) (unended t) count ending) none))

-- ---- what comes after a first line

pub drop_lines : (rows : List KeyedLine) (lines more : List (List ℕ)) → lines ≡ map line_of rows ++ more → drop (length rows) lines ≡ more
drop_lines rows lines more is =
    ap (drop (length rows)) is ∙ (ap (λ (n : ℕ). drop n (map line_of rows ++ more)) (sym (length-map rows line_of)) ∙ drop-append_seam (map line_of rows) more)

pub lines_ended : (rows : List KeyedLine) → flat_map ended (map line_of rows) ≡ row_bytes rows
lines_ended [] = refl
lines_ended (r ∷ rows) = ap (λ (t : List ℕ). ended r.line ++ t) (lines_ended rows)

rest_unended : (span : Span) (text : List ℕ) (front : Front) (is : IsFront span text front) → unended text ≡ unended (drop front.len text)
rest_unended span text front is =
    unended_after (map line_of is.rows) text (drop front.len text)
    (sym (take-append-drop front.len text) ∙ ap (λ (t : List ℕ). t ++ drop front.len text) (is.bytes ∙ sym (lines_ended is.rows))) is.lines

-- the ending is asked of what comes after the rows
pub ending_here : (span : Span) (text : List ℕ) (front : Front) (is : IsFront span text front)
    → ending_in span.upto (last_key span.after is.rows) (length is.rows) (drop (length is.rows) (lines_in text)) (unended text)
    ≡ ending_in span.upto front.last front.count (lines_in (drop front.len text)) (unended (drop front.len text))
ending_here span text front is =
    ap (λ (k : List ℕ). ending_in span.upto k (length is.rows) (drop (length is.rows) (lines_in text)) (unended text)) (sym is.last)
    ∙ (ap (λ (n : ℕ). ending_in span.upto front.last n (drop (length is.rows) (lines_in text)) (unended text)) (sym is.count)
    ∙ (ap (λ (ls : List (List ℕ)). ending_in span.upto front.last front.count ls (unended text)) (drop_lines is.rows (lines_in text) (lines_in (drop front.len text)) is.lines)
    ∙ ap (λ (t : List ℕ). ending_in span.upto front.last front.count (lines_in (drop front.len text)) t) (rest_unended span text front is)))

pub body_here : (span : Span) (text : List ℕ) (front : Front) (is : IsFront span text front)
    → body_of span (rows_in span.upto (lines_in text) span.after) (lines_in text) (unended text)
    ≡ for_ok (body_with is.rows) (ending_in span.upto front.last front.count (lines_in (drop front.len text)) (unended (drop front.len text)))
body_here span text front is =
    ap (λ (rows : List KeyedLine). body_of span rows (lines_in text) (unended text)) is.are ∙ ap (for_ok (body_with is.rows)) (ending_here span text front is)

pub rest_whole : (n : ℕ) (text : List ℕ) → take (length text - n) (drop n text) ≡ drop n text
rest_whole n text = take_all (length text - n) (drop n text) (omega (arith, length-drop n text))

pub body_made : (span : Span) (text rest : List ℕ) (front : Front) (is : IsFront span text front) (rows : RowLines) (ending : Ending) → rest ≡ drop front.len text
    → rows ≡ record { bytes = take front.len text; count = front.count }
    → ending_in span.upto front.last front.count (lines_in rest) (unended rest) ≡ Ok ending
    → body_of span (rows_in span.upto (lines_in text) span.after) (lines_in text) (unended text) ≡ Ok (record { rows = rows; ending = ending })
body_made span text rest front is rows ending rest_is rows_are e =
    let same : rows ≡ record { bytes = row_bytes is.rows; count = length is.rows } =
    rows_are ∙ (ap (λ (b : List ℕ). record { bytes = b; count = front.count }) is.bytes ∙ ap (λ (n : ℕ). record { bytes = row_bytes is.rows; count = n }) is.count) in
    let own = subst (λ (t : List ℕ). ending_in span.upto front.last front.count (lines_in t) (unended t) ≡ Ok ending) rest_is e in
    body_here span text front is ∙ (ap (for_ok (body_with is.rows)) own ∙ ap (λ (r : RowLines). Ok (record { rows = r; ending = ending })) (sym same))

pub body_refused : (span : Span) (text rest : List ℕ) (front : Front) (is : IsFront span text front) (e : ShardRefusal) → rest ≡ drop front.len text
    → Answers {A = Ending} (ending_in span.upto front.last front.count (lines_in rest) (unended rest)) (Err e)
    → ReadsBody span text (Err e)
body_refused span text rest front is (Malformed line) rest_is h =
    let own = subst (λ (t : List ℕ). ending_in span.upto front.last front.count (lines_in t) (unended t) ≡ Err line) rest_is h in
    body_here span text front is ∙ ap (for_ok (body_with is.rows)) own
body_refused span text rest front is (NoMemory why) rest_is h = tt

-- ---- the whole

pub shard_none : (text : List ℕ) → lines_in text ≡ [] → shard_of text ≡ Err 1
unfolding shard_of
shard_none text e = ap (λ (ls : List (List ℕ)). with_lines ls (unended text)) e

pub shard_first : (text line rest : List ℕ) (span : Option Span) → lines_in text ≡ line ∷ lines_in rest → text ≡ ended line ++ rest → span_of line ≡ span
    → shard_of text ≡ with_span span (lines_in rest) (unended rest)
unfolding shard_of
shard_first text line rest span are is found =
    ap (λ (ls : List (List ℕ)). with_lines ls (unended text)) are
    ∙ (ap (λ (t : List ℕ). with_span (span_of line) (lines_in rest) t) (one_line text line rest are is)
    ∙ ap (λ (o : Option Span). with_span o (lines_in rest) (unended rest)) found)
