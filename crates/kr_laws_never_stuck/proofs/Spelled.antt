-- The tokens of a file have places of their own, and names are no `*`.
use Rattle.std.proofs.Common.{◌≡◌, ℕ, ◌+◌, ◌<◌, ◌≤◌, ◌⊎◌, inl, inr, Bool, true, false, ◌||◌, ◌==◌, ◌/◌, cond, nat_lt, List, [], ◌∷◌, ◌++◌, length, slice_index, refl, sym, ap, ◌∙◌, subst, arith, append_assoc}
use Rattle.std.specs.Prelude.{bytes_eq, codes}
use Rattle.std.specs.Char.{encode_utf8}
use Rattle.std.specs.Str.{encode_utf8_all}
use Rattle.std.proofs.lemmas.Bool.Decides.{nat_tests}
use Rattle.std.proofs.lemmas.Slice.Eq.{bytes_eq-Decides}
use lib.Utf8.{next}
use Rattle.kr_base.specs.declared.place.Place.{Place}
use Rattle.kr_lex.specs.Characters.{is_start, is_white, is_line_end, begins_character, AllParts}
use Rattle.kr_lex.specs.Lexemes.{Lexeme}
use Rattle.kr_lex.specs.Places.{line_after, column_after, place_after}
use Rattle.kr_lex.specs.Spelling.{spelling}
use Rattle.kr_lex.specs.Words.{IsName, IsToken, name, number, long_number, fixed}
use Rattle.kr_lex.specs.ContractLines.{contract_spelling, head_of, IsContractToken, IsContractWord}
use Rattle.kr_lex.specs.Spells.{IsTokenHere, anywhere, within, token_behind, Reaches, here, gap, token, contract}
use Rattle.kr_lex.specs.declared.kind.Kind.{Kind}
use Rattle.kr_lex.specs.declared.kind.Kind.TheVariants as kinds
use Rattle.kr_lex.proofs.Listing.{is_symbol}
use Rattle.kr_lex.proofs.Classes.{start_ascii, symbol_facts, token_shape, token_some}
use Rattle.kr_lex.proofs.Unique.{name_byte, token_no_white}
use Rattle.kr_classes_table.specs.Constants.{is_at_place}
use Rattle.kr_laws_never_stuck.specs.Apart.{one_at}
use Rattle.kr_lex.specs.Cursors.{one_if}
use Rattle.kr_laws_never_stuck.proofs.Positions.{IsBefore, before_trans, onward, Starts, passes}

-- ---- the first byte of a token

low_begins : (b : ℕ) → b < 128 → begins_character b ≡ true
low_begins b h = grind (arith, nat_tests)

high_begins : (b : ℕ) → 192 ≤ b → begins_character b ≡ true
high_begins b h = grind (arith, nat_tests)

lead : (c : ℕ) (more : List ℕ) → begins_character (slice_index (encode_utf8 c ++ more) 0) ≡ true
unfolding encode_utf8
lead c more = go (nat_lt c 128) refl (nat_lt c 2048) (nat_lt c 65536)
  where
    go : (x : Bool) → nat_lt c 128 ≡ x → (y z : Bool)
        → begins_character (slice_index (cond x (c ∷ []) (cond y ((192 + c / 64) ∷ next c ∷ []) (cond z ((224 + c / 4096) ∷ next (c / 64) ∷ next c ∷ []) ((240 + c / 262144) ∷ next (c / 4096) ∷ next (c / 64) ∷ next c ∷ []))) ++ more) 0) ≡ true
    go true e y z = low_begins c (grind (arith, nat_tests))
    go false e true z = high_begins (192 + c / 64) (omega arith)
    go false e false true = high_begins (224 + c / 4096) (omega arith)
    go false e false false = high_begins (240 + c / 262144) (omega arith)

no_line_end : (b : ℕ) → (is_white b ≡ true → ⊥) → is_line_end b ≡ false
no_line_end b h = go (is_line_end b) refl
  where
    or_true : (x : Bool) → (x || true) ≡ true
    or_true true = refl
    or_true false = refl

    go : (x : Bool) → is_line_end b ≡ x → x ≡ false
    go false e = refl
    go true e = absurd (h (ap (λ t. (b == 32 || (b == 9 || b == 12)) || t) e ∙ or_true (b == 32 || (b == 9 || b == 12))))

some_starts : (text : List ℕ) → 0 < length text → is_line_end (slice_index text 0) ≡ false → begins_character (slice_index text 0) ≡ true → Starts text
some_starts [] l e b = absurd (omega (arith, l))
some_starts (x ∷ text) l e b = record { byte = x; rest = text; is = refl; in_line = e; begins = b }

token_begins : (kind : Kind) (text rest : List ℕ) → IsToken kind text rest → begins_character (slice_index text 0) ≡ true
token_begins kind text rest t = go (token_shape kind text rest t)
  where
    run : (cs : List ℕ) → encode_utf8_all cs ≡ text → begins_character (slice_index text 0) ≡ true
    run [] e = absurd (omega (arith, ap length e, token_some kind text rest t))
    run (c ∷ cs) e = ap (λ (x : List ℕ). begins_character (slice_index x 0)) (sym e) ∙ lead c (encode_utf8_all cs)

    go : ((cs : List ℕ) × AllParts cs × (encode_utf8_all cs ≡ text)) ⊎ (is_symbol (slice_index text 0) ≡ true) → begins_character (slice_index text 0) ≡ true
    go (inl r) = run r.0 r.2
    go (inr s) = low_begins (slice_index text 0) (symbol_facts (slice_index text 0) s).0

token_starts : (kind : Kind) (text rest : List ℕ) → IsToken kind text rest → Starts text
token_starts kind text rest t = some_starts text (token_some kind text rest t) (no_line_end (slice_index text 0) (token_no_white kind text rest t)) (token_begins kind text rest t)

-- `\result` and `\old`
contract_starts : (kind : Kind) (text : List ℕ) → IsContractToken kind text → Starts text
unfolding contract_spelling
contract_starts kind text t = subst Starts (sym t.spelled) (go t.one_of)
  where
    go : (kind ≡ kinds.Result) ⊎ (kind ≡ kinds.Old) → Starts (contract_spelling kind)
    go (inl e) = subst (λ (k : Kind). Starts (contract_spelling k)) (sym e) (record { byte = 92; rest = codes "result"; is = refl; in_line = refl; begins = refl })
    go (inr e) = subst (λ (k : Kind). Starts (contract_spelling k)) (sym e) (record { byte = 92; rest = codes "old"; is = refl; in_line = refl; begins = refl })

-- `requires`, `ensures` and `signals`
word_starts : (kind : Kind) → IsContractWord kind → Starts (contract_spelling kind)
unfolding contract_spelling
word_starts kind (inl e) = subst (λ (k : Kind). Starts (contract_spelling k)) (sym e) (record { byte = 114; rest = codes "equires"; is = refl; in_line = refl; begins = refl })
word_starts kind (inr (inl e)) = subst (λ (k : Kind). Starts (contract_spelling k)) (sym e) (record { byte = 101; rest = codes "nsures"; is = refl; in_line = refl; begins = refl })
word_starts kind (inr (inr e)) = subst (λ (k : Kind). Starts (contract_spelling k)) (sym e) (record { byte = 115; rest = codes "ignals"; is = refl; in_line = refl; begins = refl })

here_starts : (inside : Bool) (kind : Kind) (text rest : List ℕ) → IsTokenHere inside kind text rest → Starts text
here_starts inside kind text rest (anywhere t) = token_starts kind text rest t.token
here_starts inside kind text rest (within i t) = contract_starts kind text t

slashes : (more : List ℕ) → Starts (47 ∷ more)
slashes more = record { byte = 47; rest = more; is = refl; in_line = refl; begins = refl }

-- ---- places

abbrev pub placed : Place → List Lexeme → ℕ
placed p [] = 0
placed p (a ∷ i) = one_at p a.place + placed p i

same_parts : (q p : Place) → is_at_place q p ≡ true → (q.file ≡ p.file) × (q.line ≡ p.line) × (q.col ≡ p.col)
same_parts q p e = (grind (arith, nat_tests), grind (arith, nat_tests), grind (arith, nat_tests))

-- the place is before those after a front
abbrev IsAhead : Place → List ℕ → Type 0
IsAhead p front = IsBefore p.line p.col (line_after front) (column_after front)

ahead_onward : (p : Place) (front part : List ℕ) → IsAhead p front → IsAhead p (front ++ part)
ahead_onward p front part h = before_trans p.line p.col (line_after front) (column_after front) (line_after (front ++ part)) (column_after (front ++ part)) h (onward part front)

ahead_elsewhere : (l c : ℕ) → IsBefore l c l c → ⊥
ahead_elsewhere l c (inl h) = omega (arith, h)
ahead_elsewhere l c (inr h) = omega (arith, h.1)

not_there : (p : Place) (file : ℕ) (front : List ℕ) → IsAhead p front → one_at p (place_after file front) ≡ 0
unfolding place_after
not_there p file front h = go (is_at_place (place_after file front) p) refl
  where
    go : (b : Bool) → is_at_place (place_after file front) p ≡ b → one_if b ≡ 0
    go false e = refl
    go true e =
        let s = same_parts (place_after file front) p e in
        absurd (ahead_elsewhere p.line p.col (subst (λ (c : ℕ). IsBefore p.line p.col p.line c) s.2 (subst (λ (l : ℕ). IsBefore p.line p.col l (column_after front)) s.1 h)))

behind : {file : ℕ} {inside last : Bool} {front text end left : List ℕ} {list : List Lexeme} → Reaches file inside front text list last end left → (p : Place) → IsAhead p front → placed p list ≡ 0
behind here p h = refl
behind (gap {front = front} part rest z g d) p h = behind d p (ahead_onward p front part h)
behind {file = file} (token {front = front} kind part rest z t d) p h = omega (arith, not_there p file front h, behind d p (ahead_onward p front part h))
behind {file = file} (contract {front = front} kind blank rest c d) p h =
    omega (arith, not_there p file front h, not_there p file (front ++ 47 ∷ 47 ∷ 64 ∷ blank) (ahead_onward p front (47 ∷ 47 ∷ 64 ∷ blank) h), behind d p (ahead_onward p front (head_of kind blank) h))

-- a place that is that of a front
at_front : (p : Place) (file : ℕ) (front part : List ℕ) → is_at_place (place_after file front) p ≡ true → Starts part → IsAhead p (front ++ part)
unfolding place_after
at_front p file front part e s =
    let q = same_parts (place_after file front) p e in
    subst (λ (c : ℕ). IsBefore p.line c (line_after (front ++ part)) (column_after (front ++ part))) q.2
    (subst (λ (l : ℕ). IsBefore l (column_after front) (line_after (front ++ part)) (column_after (front ++ part))) q.1 (passes part front s))

-- no two tokens of a file are at one place
pub once : {file : ℕ} {inside last : Bool} {front text end left : List ℕ} {list : List Lexeme} → Reaches file inside front text list last end left → (p : Place) → placed p list ≤ 1
once here p = omega arith
once (gap part rest z g d) p = once d p
once {file = file} (token {inside = inside} {front = front} {list = list} kind part rest z t d) p = go (is_at_place (place_after file front) p) refl (once d p)
  where
    go : (b : Bool) → is_at_place (place_after file front) p ≡ b → placed p list ≤ 1 → one_if b + placed p list ≤ 1
    go true e r = omega (arith, behind d p (at_front p file front part e (here_starts inside kind part rest t)))
    go false e r = omega (arith, r)
once {file = file} (contract {front = front} {list = list} kind blank rest c d) p = go (is_at_place (place_after file front) p) refl (once d p)
  where
    mark : List ℕ
    mark = 47 ∷ 47 ∷ 64 ∷ blank

    here_or_later : (b : Bool) → is_at_place (place_after file (front ++ mark)) p ≡ b → placed p list ≤ 1 → one_if b + placed p list ≤ 1
    here_or_later true e r =
        let longer = append_assoc front mark (contract_spelling kind) in
        omega (arith, behind d p (subst (λ (x : List ℕ). IsAhead p x) longer (at_front p file (front ++ mark) (contract_spelling kind) e (word_starts kind c.word))))
    here_or_later false e r = omega (arith, r)

    go : (b : Bool) → is_at_place (place_after file front) p ≡ b → placed p list ≤ 1 → one_if b + (one_at p (place_after file (front ++ mark)) + placed p list) ≤ 1
    go true e r =
        let h = at_front p file front mark e (slashes (47 ∷ 64 ∷ blank)) in
        omega (arith, not_there p file (front ++ mark) h, behind d p (at_front p file front (head_of kind blank) e (slashes (47 ∷ 64 ∷ blank ++ contract_spelling kind))))
    go false e r = omega (arith, here_or_later (is_at_place (place_after file (front ++ mark)) p) refl r)

other : (p : Place) (file : ℕ) (front : List ℕ) → (file ≡ p.file → ⊥) → one_at p (place_after file front) ≡ 0
unfolding place_after
other p file front n = go (is_at_place (place_after file front) p) refl
  where
    go : (b : Bool) → is_at_place (place_after file front) p ≡ b → one_if b ≡ 0
    go false e = refl
    go true e = absurd (n (same_parts (place_after file front) p e).0)

-- and none of another file there
pub elsewhere : {file : ℕ} {inside last : Bool} {front text end left : List ℕ} {list : List Lexeme} → Reaches file inside front text list last end left → (p : Place) → (file ≡ p.file → ⊥) → placed p list ≡ 0
elsewhere here p n = refl
elsewhere (gap part rest z g d) p n = elsewhere d p n
elsewhere {file = file} (token {front = front} kind part rest z t d) p n = omega (arith, other p file front n, elsewhere d p n)
elsewhere {file = file} (contract {front = front} kind blank rest c d) p n = omega (arith, other p file front n, other p file (front ++ 47 ∷ 47 ∷ 64 ∷ blank) n, elsewhere d p n)

-- ---- names

abbrev pub star : List ℕ → ℕ
star n = one_if (bytes_eq n (codes "*"))

-- the weight of names that are `*`
abbrev pub star_of : Kind → Lexeme → ℕ
star_of kinds.Identifier a = star a.text
star_of k a = 0

abbrev pub stars : List Lexeme → ℕ
stars [] = 0
stars (a ∷ i) = star_of a.kind a + stars i

kind_star : (k : Kind) (a : Lexeme) → (k ≡ kinds.Identifier → star a.text ≡ 0) → star_of k a ≡ 0
kind_star kinds.Identifier a h = h refl
kind_star k a h = refl

no_star : (text rest : List ℕ) → IsName text → star text ≡ 0
no_star text rest h = go (bytes_eq text (codes "*")) refl
  where
    go : (b : Bool) → bytes_eq text (codes "*") ≡ b → one_if b ≡ 0
    go false e = refl
    go true e =
        let first : slice_index text 0 ≡ 42 = ap (λ (x : List ℕ). slice_index x 0) ((bytes_eq-Decides text (codes "*")).0 e) in
        let starts : is_start 42 ≡ true = ap is_start (sym first) ∙ name_byte text rest h (omega (arith, first)) in
        absurd (cc (starts, start_ascii 42 (omega arith)))

named_no_star : (inside : Bool) (kind : Kind) (text rest : List ℕ) → IsTokenHere inside kind text rest → kind ≡ kinds.Identifier → star text ≡ 0
unfolding spelling
named_no_star inside kind text rest (anywhere t) i = of_token t.token
  where
    of_token : IsToken kind text rest → star text ≡ 0
    of_token (name e h n) = no_star text rest h
    of_token (number e h n) = absurd (cc (e, i))
    of_token (long_number e h n) = absurd (cc (e, i))
    of_token (fixed l e) = absurd (omega (arith, l, ap length (e ∙ ap spelling i)))
named_no_star inside kind text rest (within b t) i = go t.one_of
  where
    go : (kind ≡ kinds.Result) ⊎ (kind ≡ kinds.Old) → star text ≡ 0
    go (inl e) = absurd (cc (e, i))
    go (inr e) = absurd (cc (e, i))

pub no_stars : {file : ℕ} {inside last : Bool} {front text end left : List ℕ} {list : List Lexeme} → Reaches file inside front text list last end left → stars list ≡ 0
no_stars here = refl
no_stars (gap part rest z g d) = no_stars d
no_stars {file = file} (token {inside = inside} {front = front} kind part rest z t d) = omega (arith, kind_star kind (token_behind file front kind part) (named_no_star inside kind part rest t), no_stars d)
no_stars {file = file} (contract {front = front} kind blank rest c d) = omega (arith, kind_star kind (token_behind file (front ++ 47 ∷ 47 ∷ 64 ∷ blank) kind (contract_spelling kind)) (word c.word), no_stars d)
  where
    word : IsContractWord kind → kind ≡ kinds.Identifier → star (contract_spelling kind) ≡ 0
    word (inl e) i = absurd (cc (e, i))
    word (inr (inl e)) i = absurd (cc (e, i))
    word (inr (inr e)) i = absurd (cc (e, i))
