-- The parts of a text, a line at a time.
use Rattle.std.proofs.Common.{◌≡◌, ℕ, zero, suc, ◌+◌, ◌<◌, ◌≤◌, List, [], ◌∷◌, ◌++◌, Bool, true, false, length, take, drop, refl, sym, ap, ◌∙◌, subst, arith}
use Rattle.std.specs.Prelude.{Option, Some, None, flat_map, is_some, ◌==◌, if◌then◌else◌}
use Rattle.std.proofs.lemmas.List.{append-nil, append_assoc, length-append, take_at}
use Rattle.std.proofs.lemmas.Grind.{flat_map-append}
use Rattle.kr_text.specs.Splitting.{ended, is_empty, lines_in, onto, unended}
use Rattle.kr_text.proofs.Splits.{unended_after}
use Rattle.kr_trace.specs.declared.ending.Last.{Last}
use Rattle.kr_trace.specs.Words.{last_in}
use Rattle.kr_trace.specs.Checked.{Parts, in_front, parted_by, parts_of}
use Rattle.kr_trace.specs.Stages.{HasParts}

-- ---- lines

-- lines were read, and a text is left
pub record HasLines (text rest : List ℕ) (count : ℕ) : Type 0 where
  pub lines : List (List ℕ)
  pub text_is : text ≡ flat_map ended lines ++ rest
  pub are : lines_in text ≡ lines ++ lines_in rest
  pub count_is : count ≡ length lines

pub no_lines_yet : (text : List ℕ) → HasLines text text 0
no_lines_yet text = record { lines = []; text_is = refl; are = refl; count_is = refl }

pub one_line : (text rest line after : List ℕ) (count : ℕ) → HasLines text rest count → lines_in rest ≡ line ∷ lines_in after → rest ≡ ended line ++ after → HasLines text after (count + 1)
one_line text rest line after count h lines_is rest_is = record {
  lines = h.lines ++ line ∷ [];
  text_is = h.text_is ∙ (ap (λ (r : List ℕ). flat_map ended h.lines ++ r) rest_is ∙ (sym (append_assoc (flat_map ended h.lines) (ended line) after)
      ∙ ap (λ (t : List ℕ). t ++ after) (ap (λ (t : List ℕ). flat_map ended h.lines ++ t) (sym (append-nil (ended line))) ∙ sym (flat_map-append ended h.lines (line ∷ [])))));
  are = h.are ∙ (ap (λ (ls : List (List ℕ)). h.lines ++ ls) lines_is ∙ sym (append_assoc h.lines (line ∷ []) (lines_in after)));
  count_is = ap (λ (n : ℕ). n + 1) h.count_is ∙ sym (length-append h.lines (line ∷ []));
}

-- all lines are at most the text's length
lines_long : (ls : List (List ℕ)) → length ls ≤ length (flat_map ended ls)
lines_long [] = omega arith
lines_long (l ∷ ls) = omega (arith, lines_long ls, length-append (ended l) (flat_map ended ls), length-append l (10 ∷ []))

pub lines_few : (text rest : List ℕ) (count : ℕ) → HasLines text rest count → count + length rest ≤ length text
lines_few text rest count h = omega (arith, ap length h.text_is, length-append (flat_map ended h.lines) rest, lines_long h.lines, h.count_is)

pub ends_alike : (text rest : List ℕ) (count : ℕ) → HasLines text rest count → unended text ≡ unended rest
ends_alike text rest count h = unended_after h.lines text rest h.text_is h.are

pub lines_counted : (text rest : List ℕ) (count : ℕ) → HasLines text rest count → lines_in rest ≡ [] → count ≡ length (lines_in text)
lines_counted text rest count h none =
    h.count_is ∙ sym (ap length (h.are ∙ (ap (λ (ls : List (List ℕ)). h.lines ++ ls) none ∙ append-nil h.lines)))

pub ends_here : (text rest : List ℕ) (count : ℕ) → HasLines text rest count → lines_in rest ≡ [] → is_empty (unended text) ≡ is_empty rest
ends_here text rest count h none =
    ap is_empty (ends_alike text rest count h ∙ ap (λ (ls : List (List ℕ)). drop (length (flat_map ended ls)) rest) none)

pub lines_short : (text : List ℕ) → length (lines_in text) ≤ length text
lines_short [] = omega arith
lines_short (b ∷ bs) = elim (b == 10) as (λ t. length (if t then [] ∷ lines_in bs else onto b (lines_in bs)) ≤ length (b ∷ bs)) [
  | true ↦ omega (arith, lines_short bs)
  | false ↦ omega (arith, lines_short bs, same (lines_in bs))
]
  where
    same : (ls : List (List ℕ)) → length (onto b ls) ≡ length ls
    same [] = refl
    same (l ∷ ls) = refl

-- ---- parts

-- lines in front of the parts of others
abbrev pub fronted : List (List ℕ) → Parts → Parts
fronted lines parts = record parts { rows = lines ++ parts.rows }

-- lines were read, none of which has a last line's form
pub record HasRows (text rest : List ℕ) (count : ℕ) : Type 0 where
  pub read : HasLines text rest count
  pub parts : parts_of (lines_in text) ≡ fronted read.lines (parts_of (lines_in rest))

pub no_rows_yet : (text : List ℕ) → HasRows text text 0
unfolding no_lines_yet
no_rows_yet text = record { read = no_lines_yet text; parts = refl }

fronted_more : (lines : List (List ℕ)) (line : List ℕ) (parts : Parts) → fronted lines (in_front line parts) ≡ fronted (lines ++ line ∷ []) parts
fronted_more lines line parts = ap (λ (ls : List (List ℕ)). record parts { rows = ls }) (sym (append_assoc lines (line ∷ []) parts.rows))

row_is : (text rest line after : List ℕ) (count : ℕ) → HasRows text rest count → lines_in rest ≡ line ∷ lines_in after → rest ≡ ended line ++ after → None ≡ last_in line → HasRows text after (count + 1)
unfolding one_line
row_is text rest line after count h lines_is rest_is none = record {
  read = one_line text rest line after count h.read lines_is rest_is;
  parts = h.parts ∙ (ap (λ (ls : List (List ℕ)). fronted h.read.lines (parts_of ls)) lines_is
      ∙ (ap (λ (o : Option Last). fronted h.read.lines (parted_by o line (lines_in after) (parts_of (lines_in after)))) (sym none)
      ∙ fronted_more h.read.lines line (parts_of (lines_in after))));
}

take_front : (text rest : List ℕ) (count : ℕ) (h : HasLines text rest count) → h.lines ≡ take count (lines_in text)
take_front text rest count h = sym (ap (take count) h.are ∙ take_at h.lines (lines_in rest) count (sym h.count_is))

count_within : (text rest : List ℕ) (count : ℕ) → HasLines text rest count → count ≤ length (lines_in text)
count_within text rest count h = omega (arith, ap length h.are, length-append h.lines (lines_in rest), h.count_is)

last_is : (text rest line after : List ℕ) (count : ℕ) (last : Last) → HasRows text rest count → lines_in rest ≡ line ∷ lines_in after → rest ≡ ended line ++ after → Some last ≡ last_in line
    → HasParts text count (Some last) after
last_is text rest line after count last h lines_is rest_is found = record {
  within = count_within text rest count h.read;
  parts = h.parts ∙ (ap (λ (ls : List (List ℕ)). fronted h.read.lines (parts_of ls)) lines_is
      ∙ (ap (λ (o : Option Last). fronted h.read.lines (parted_by o line (lines_in after) (parts_of (lines_in after)))) (sym found)
      ∙ ap (λ (ls : List (List ℕ)). record { rows = ls; last = Some last; events = lines_in after }) (append-nil h.read.lines ∙ take_front text rest count h.read)));
  ending = λ is. ends_alike text after (count + 1) (one_line text rest line after count h.read lines_is rest_is);
  few = let more = one_line text rest line after count h.read lines_is rest_is in omega (arith, lines_few text after (count + 1) more);
}

pub last_missing : (text rest : List ℕ) (count : ℕ) → HasRows text rest count → lines_in rest ≡ [] → HasParts text count None []
last_missing text rest count h none = record {
  within = count_within text rest count h.read;
  parts = h.parts ∙ (ap (λ (ls : List (List ℕ)). fronted h.read.lines (parts_of ls)) none
      ∙ ap (λ (ls : List (List ℕ)). record { rows = ls; last = None; events = [] }) (append-nil h.read.lines ∙ take_front text rest count h.read));
  ending = λ is. absurd (cc (is));
  few = omega (arith, lines_few text rest count h.read);
}

-- a line is read whose last line is known: there is none, or it is there
pub one_row : (text rest line after : List ℕ) (count : ℕ) (last : Option Last) → HasRows text rest count → lines_in rest ≡ line ∷ lines_in after → rest ≡ ended line ++ after → last ≡ last_in line → is_some last ≡ false
    → HasRows text after (count + 1)
one_row text rest line after count None h lines_is rest_is is none = row_is text rest line after count h lines_is rest_is is
one_row text rest line after count (Some last) h lines_is rest_is is none = absurd (cc (none))

pub last_found : (text rest line after : List ℕ) (count : ℕ) (last : Option Last) → HasRows text rest count → lines_in rest ≡ line ∷ lines_in after → rest ≡ ended line ++ after → last ≡ last_in line → is_some last ≡ true
    → HasParts text count last after
last_found text rest line after count None h lines_is rest_is is some = absurd (cc (some))
last_found text rest line after count (Some last) h lines_is rest_is is some = last_is text rest line after count last h lines_is rest_is is

pub rows_few : (text rest : List ℕ) (count : ℕ) → HasRows text rest count → count + length rest ≤ length text
rows_few text rest count h = lines_few text rest count h.read

pub shorter : (rest line after : List ℕ) → rest ≡ ended line ++ after → length after < length rest
shorter rest line after is = omega (arith, ap length is, length-append (ended line) after, length-append line (10 ∷ []))
