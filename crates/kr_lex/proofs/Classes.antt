-- The tokens that a text may begin with, by its first character.
use Rattle.std.proofs.Common.{◌≡◌, ℕ, ◌-◌, ◌<◌, ◌≤◌, ◌⊎◌, inl, inr, true, false, ◌||◌, ◌==◌, List, [], ◌∷◌, ◌++◌, length, slice_index, refl, sym, ap, subst, ◌∙◌, arith, length-append, append_assoc}
use Rattle.std.specs.Char.{encode_utf8, is_ascii_alphabetic, is_ascii_alphanumeric, is_ascii_digit, is_ascii_lowercase}
use Rattle.std.specs.Str.{encode_utf8_all}
use Rattle.std.specs.Str.Parse.{AllDigits}
use Rattle.std.proofs.lemmas.Str.{encode_same, encode_ascii, char_from_byte}
use Rattle.std.proofs.lemmas.List.{get_or_append_left}
use Rattle.std.proofs.lemmas.Bool.{and_parts, cases_Bool, or_cases, or_left}
use Rattle.std.proofs.lemmas.Bool.Decides.{nat_tests}
use lib.Utf8.{low_scalar}
use Rattle.unicode_ident.specs.Ident.{is_xid_start, is_xid_continue}
use Rattle.unicode_ident.proofs.IdentLemmas.{is_xid_start-ascii, is_xid_continue-ascii, is_xid_start-is_xid_continue}
use Rattle.kr_lex.specs.declared.kind.Kind.{Kind}
use Rattle.kr_lex.specs.Characters.{is_start, is_part, is_white, AllParts, EndsWord}
use Rattle.kr_lex.specs.Spelling.{spelling}
use Rattle.kr_lex.specs.Words.{IsName, IsLongNumber, IsSuffix, IsToken, before_suffix, name, number, long_number, fixed}
use Rattle.kr_lex.specs.Pieces.{StartsName}
use Rattle.kr_lex.proofs.Fronts.{char_some}
use Rattle.kr_lex.proofs.Numbers.{digit_from_value, digit_from_test, long_some, long_text}
use Rattle.kr_lex.proofs.Listing.{is_symbol, all_small}
use Rattle.kr_lex.proofs.Shapes.{shape}

-- the ASCII characters that start names, and those that go on with them
pub start_ascii : (b : ℕ) → b < 128 → is_start b ≡ (is_ascii_alphabetic b || (b == 95 || b == 36))
start_ascii b h = ap (λ t. t || (b == 95 || b == 36)) (is_xid_start-ascii b h)

pub part_ascii_is : (b : ℕ) → b < 128 → is_part b ≡ ((is_ascii_alphanumeric b || b == 95) || b == 36)
part_ascii_is b h = ap (λ t. t || b == 36) (is_xid_continue-ascii b h)

pub start_is_part : (c : ℕ) → is_start c ≡ true → is_part c ≡ true
start_is_part c s = go (or_cases (is_xid_start c) (c == 95 || c == 36) s)
  where
    go : (is_xid_start c ≡ true) ⊎ ((c == 95 || c == 36) ≡ true) → is_part c ≡ true
    go (inl x) = or_left (is_xid_continue c) (c == 36) (is_xid_start-is_xid_continue c x)
    go (inr y) =
        let low : c < 128 = grind (arith, nat_tests) in
        part_ascii_is c low ∙ grind (arith, nat_tests)

pub digit_is_part : (b : ℕ) → is_ascii_digit b ≡ true → is_part b ≡ true
digit_is_part b t =
    let d = digit_from_test b t in
    let low : b < 128 = omega (arith, d.3) in
    part_ascii_is b low ∙ grind (arith, nat_tests)

pub digit_no_start : (b : ℕ) → is_ascii_digit b ≡ true → is_start b ≡ false
digit_no_start b t =
    let d = digit_from_test b t in
    let low : b < 128 = omega (arith, d.3) in
    start_ascii b low ∙ grind (arith, nat_tests)

small_is_part : (b : ℕ) → is_ascii_lowercase b ≡ true → (b < 128) × (is_part b ≡ true)
small_is_part b t =
    let low : b < 128 = grind (arith, nat_tests) in
    (low, part_ascii_is b low ∙ grind (arith, nat_tests))

pub symbol_facts : (b : ℕ) → is_symbol b ≡ true → (b < 128) × (is_start b ≡ false) × (is_ascii_digit b ≡ false) × (is_white b ≡ false) × (b ≡ 92 → ⊥)
symbol_facts b t =
    let low : b < 128 = grind (arith, nat_tests) in
    (low, start_ascii b low ∙ grind (arith, nat_tests), grind (arith, nat_tests), grind (arith, nat_tests), λ e. grind (arith, nat_tests))

-- a run is not longer than one that the text doesn't go on with
pub run_longest : (cs ds more rest : List ℕ) → AllParts cs → encode_utf8_all cs ++ more ≡ encode_utf8_all ds ++ rest → EndsWord rest
    → length (encode_utf8_all cs) ≤ length (encode_utf8_all ds)
run_longest [] ds more rest h e w = omega arith
run_longest (c ∷ cs) [] more rest h e w =
    let z : rest ≡ encode_utf8 c ++ (encode_utf8_all cs ++ more) = sym e ∙ append_assoc (encode_utf8 c) (encode_utf8_all cs) more in
    let f : is_part c ≡ false = w c (encode_utf8_all cs ++ more) h.0.0 z in
    let t : is_part c ≡ true = h.0.1 in
    cc
run_longest (c ∷ cs) (d ∷ ds) more rest h e w =
    let z = sym (append_assoc (encode_utf8 c) (encode_utf8_all cs) more) ∙ (e ∙ append_assoc (encode_utf8 d) (encode_utf8_all ds) rest) in
    let s = encode_same c d (encode_utf8_all cs ++ more) (encode_utf8_all ds ++ rest) z in
    let less = run_longest cs ds more rest h.1 s.1 w in
    let same : length (encode_utf8 c) ≡ length (encode_utf8 d) = ap (λ x. length (encode_utf8 x)) s.0 in
    omega (arith, length-append (encode_utf8 c) (encode_utf8_all cs), length-append (encode_utf8 d) (encode_utf8_all ds), less, same)

-- ASCII runs are their own bytes
abbrev IsRun : List ℕ → Type 0
IsRun bs = AllParts bs × (encode_utf8_all bs ≡ bs)

run_cons : (b : ℕ) (bs : List ℕ) → b < 128 → is_part b ≡ true → IsRun bs → IsRun (b ∷ bs)
run_cons b bs low p h =
    (((low_scalar b (omega arith), p), h.0), ap (λ t. t ++ encode_utf8_all bs) (encode_ascii b low) ∙ ap (λ t. b ∷ t) h.1)

pub digits_run : (bs : List ℕ) → AllDigits 10 bs → IsRun bs
digits_run [] h = (tt, refl)
digits_run (b ∷ bs) h =
    let t = digit_from_value b h.0 in
    let d = digit_from_test b t in
    run_cons b bs (omega (arith, d.3)) (digit_is_part b t) (digits_run bs h.1)

suffix_run : (b : ℕ) → IsSuffix b → IsRun (b ∷ [])
suffix_run b (inl e) = run_cons b [] (omega (arith, e)) (ap is_part e ∙ (part_ascii_is 76 (omega arith) ∙ refl)) (tt, refl)
suffix_run b (inr e) = run_cons b [] (omega (arith, e)) (ap is_part e ∙ (part_ascii_is 108 (omega arith) ∙ refl)) (tt, refl)

digits_then : (bs cs : List ℕ) → AllDigits 10 bs → IsRun cs → IsRun (bs ++ cs)
digits_then [] cs h r = r
digits_then (b ∷ bs) cs h r =
    let t = digit_from_value b h.0 in
    let d = digit_from_test b t in
    run_cons b (bs ++ cs) (omega (arith, d.3)) (digit_is_part b t) (digits_then bs cs h.1 r)

pub long_run : (text : List ℕ) → IsLongNumber text → IsRun text
long_run text h =
    let b = slice_index text (length text - 1) in
    subst IsRun (sym (long_text text h)) (digits_then (before_suffix text) (b ∷ []) h.number.digits (suffix_run b h.suffix))

pub small_run : (bs : List ℕ) → all_small bs ≡ true → IsRun bs
small_run [] h = (tt, refl)
small_run (b ∷ bs) h =
    let p = and_parts (is_ascii_lowercase b) (all_small bs) h in
    let q = small_is_part b p.0 in
    run_cons b bs q.0 q.1 (small_run bs p.1)

name_run : (text : List ℕ) (h : IsName text) → AllParts (h.first ∷ h.others) × (encode_utf8_all (h.first ∷ h.others) ≡ text)
name_run text h = (((h.scalar, start_is_part h.first h.starts), h.parts), sym h.spelled)

-- a token is a run, or it begins with a symbol
pub token_shape : (kind : Kind) (text rest : List ℕ) → IsToken kind text rest
    → ((cs : List ℕ) × AllParts cs × (encode_utf8_all cs ≡ text)) ⊎ (is_symbol (slice_index text 0) ≡ true)
token_shape kind text rest (name e h n) = let r = name_run text h in inl (h.first ∷ h.others, r.0, r.1)
token_shape kind text rest (number e h w) = let r = digits_run text h.digits in inl (text, r.0, r.1)
token_shape kind text rest (long_number e h w) = let r = long_run text h in inl (text, r.0, r.1)
token_shape kind text rest (fixed l e) = go (shape kind (omega (arith, l, ap length e)))
  where
    go : (all_small (spelling kind) ≡ true) ⊎ (is_symbol (slice_index (spelling kind) 0) ≡ true)
        → ((cs : List ℕ) × AllParts cs × (encode_utf8_all cs ≡ text)) ⊎ (is_symbol (slice_index text 0) ≡ true)
    go (inl s) = let r = small_run (spelling kind) s in inl (spelling kind, r.0, r.1 ∙ sym e)
    go (inr s) = inr (ap (λ t. is_symbol (slice_index t 0)) e ∙ s)

-- a token has a byte at least
pub token_some : (kind : Kind) (text rest : List ℕ) → IsToken kind text rest → 0 < length text
token_some kind text rest (name e h n) = char_some text (encode_utf8_all h.others) h.first h.spelled
token_some kind text rest (number e h w) = h.some
token_some kind text rest (long_number e h w) = omega (arith, long_some text h)
token_some kind text rest (fixed l e) = l

pub first_byte : (part rest : List ℕ) → 0 < length part → slice_index (part ++ rest) 0 ≡ slice_index part 0
first_byte part rest l = get_or_append_left part rest 0 0 l

-- no token at a place is longer than a run that ends there
pub run_is_longest : (chars rest longer more : List ℕ) (other : Kind) → EndsWord rest → is_symbol (slice_index (encode_utf8_all chars ++ rest) 0) ≡ false
    → encode_utf8_all chars ++ rest ≡ longer ++ more → IsToken other longer more → length longer ≤ length (encode_utf8_all chars)
run_is_longest chars rest longer more other w plain e t = go (token_shape other longer more t)
  where
    go : ((cs : List ℕ) × AllParts cs × (encode_utf8_all cs ≡ longer)) ⊎ (is_symbol (slice_index longer 0) ≡ true) → length longer ≤ length (encode_utf8_all chars)
    go (inl r) =
        let z : encode_utf8_all r.0 ++ more ≡ encode_utf8_all chars ++ rest = ap (λ l. l ++ more) r.2 ∙ sym e in
        omega (arith, run_longest r.0 chars more rest r.1 z w, ap length r.2)
    go (inr s) =
        let f : slice_index (longer ++ more) 0 ≡ slice_index longer 0 = first_byte longer more (token_some other longer more t) in
        let y : is_symbol (slice_index longer 0) ≡ false = ap is_symbol (sym f ∙ ap (λ l. slice_index l 0) (sym e)) ∙ plain in
        cc

-- a symbol starts no name and no number
pub no_symbol_at_name : (text : List ℕ) → StartsName text → is_symbol (slice_index text 0) ≡ false
no_symbol_at_name text h = go (cases_Bool (is_symbol (slice_index text 0)))
  where
    go : (is_symbol (slice_index text 0) ≡ true) ⊎ (is_symbol (slice_index text 0) ≡ false) → is_symbol (slice_index text 0) ≡ false
    go (inr f) = f
    go (inl t) =
        let s = symbol_facts (slice_index text 0) t in
        let same : h.char ≡ slice_index text 0 = char_from_byte text h.rest h.char h.spelled s.0 (char_some text h.rest h.char h.spelled) in
        let starts_not : is_start h.char ≡ false = ap is_start same ∙ s.1 in
        let starts : is_start h.char ≡ true = h.starts in
        cc

pub no_symbol_at_digit : (b : ℕ) → is_ascii_digit b ≡ true → is_symbol b ≡ false
no_symbol_at_digit b t = grind (arith, nat_tests)

-- a small letter starts names
pub small_starts : (bs : List ℕ) → 0 < length bs → all_small bs ≡ true → (slice_index bs 0 < 128) × (is_start (slice_index bs 0) ≡ true)
small_starts [] l h = absurd (omega arith)
small_starts (b ∷ bs) l h =
    let t : is_ascii_lowercase b ≡ true = (and_parts (is_ascii_lowercase b) (all_small bs) h).0 in
    let low : b < 128 = (small_is_part b t).0 in
    (low, start_ascii b low ∙ grind (arith, nat_tests))
