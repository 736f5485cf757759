-- A text begins with at most one gap or token.
use Rattle.std.proofs.Common.{◌≡◌, ℕ, ◌<◌, ◌≤◌, ◌⊎◌, inl, inr, Bool, true, false, List, [], ◌∷◌, ◌++◌, length, slice_index, refl, sym, ap, ◌∙◌, arith, length-append, append_assoc}
use Rattle.std.specs.Char.{is_ascii_digit}
use Rattle.std.specs.Str.{encode_utf8_all}
use Rattle.std.specs.List.{AllByRecursion}
use Rattle.std.proofs.lemmas.Str.{char_from_byte}
use Rattle.std.proofs.lemmas.Bool.{both_ways}
use Rattle.std.proofs.lemmas.Bool.Decides.{nat_tests}
use Rattle.kr_lex.specs.declared.kind.Kind.{Kind}
use Rattle.kr_lex.specs.Characters.{is_start, is_white, is_line_end}
use Rattle.kr_lex.specs.Spelling.{spelling}
use Rattle.kr_lex.specs.Words.{IsName, IsToken, name, number, long_number, fixed}
use Rattle.kr_lex.specs.Gaps.{IsGap, white, line, block, IsLineComment, IsBlockComment, EndsLine, BeginsComment}
use Rattle.kr_lex.specs.ContractLines.{contract_spelling, IsContract, BeginsContract}
use Rattle.kr_lex.specs.Spells.{IsLongest, IsTokenHere, anywhere, within}
use Rattle.kr_lex.proofs.Heads.{begins_comment, contract_bytes, contract_token_some, here_first, same_contract_token, blank_same, word_no_blank, same_word}
use Rattle.kr_lex.proofs.Fronts.{char_some}
use Rattle.kr_lex.proofs.Numbers.{digit_from_test, number_byte, long_some, long_byte, long_not_digits}
use Rattle.kr_lex.proofs.Listing.{is_symbol, all_small}
use Rattle.kr_lex.proofs.Shapes.{shape, spelled_once}
use Rattle.kr_lex.proofs.Classes.{start_ascii, digit_no_start, small_starts, symbol_facts, token_some, first_byte}

-- two splits of one text at the same length
pub same_split : (a b r s : List ℕ) → a ++ r ≡ b ++ s → length a ≡ length b → (a ≡ b) × (r ≡ s)
same_split [] [] r s e l = (refl, e)
same_split [] (y ∷ b) r s e l = absurd (omega (arith, l))
same_split (x ∷ a) [] r s e l = absurd (omega (arith, l))
same_split (x ∷ a) (y ∷ b) r s e l =
    let h : x ≡ y = cc in
    let t : a ++ r ≡ b ++ s = cc in
    let p = same_split a b r s t (omega (arith, l)) in
    (rw (h, p.0) refl, p.1)

white_low : (b : ℕ) → is_white b ≡ true → (b < 128) × (is_start b ≡ false) × (is_ascii_digit b ≡ false) × (b ≡ 47 → ⊥)
white_low b t =
    let low : b < 128 = grind (arith, nat_tests) in
    (low, start_ascii b low ∙ grind (arith, nat_tests), grind (arith, nat_tests), λ e. grind (arith, nat_tests))

-- the first byte of a name
pub name_byte : (text rest : List ℕ) → IsName text → slice_index text 0 < 128 → is_start (slice_index text 0) ≡ true
name_byte text rest h low =
    let same : h.first ≡ slice_index text 0 = char_from_byte text (encode_utf8_all h.others) h.first h.spelled low (char_some text (encode_utf8_all h.others) h.first h.spelled) in
    ap is_start (sym same) ∙ h.starts

-- a token doesn't begin with white space
pub token_no_white : (kind : Kind) (text rest : List ℕ) → IsToken kind text rest → is_white (slice_index text 0) ≡ true → ⊥
token_no_white kind text rest (name k h o) w =
    let q = white_low (slice_index text 0) w in both_ways (is_start (slice_index text 0)) q.1 (name_byte text rest h q.0)
token_no_white kind text rest (number k h o) w =
    let q = white_low (slice_index text 0) w in both_ways (is_ascii_digit (slice_index text 0)) q.2 (number_byte 2147483648 text h)
token_no_white kind text rest (long_number k h o) w =
    let q = white_low (slice_index text 0) w in both_ways (is_ascii_digit (slice_index text 0)) q.2 (long_byte text h)
token_no_white kind text rest (fixed l e) w = go (shape kind (omega (arith, l, ap length e)))
  where
    there : is_white (slice_index (spelling kind) 0) ≡ true
    there = ap (λ t. is_white (slice_index t 0)) (sym e) ∙ w

    go : (all_small (spelling kind) ≡ true) ⊎ (is_symbol (slice_index (spelling kind) 0) ≡ true) → ⊥
    go (inl s) =
        let q = white_low (slice_index (spelling kind) 0) there in
        both_ways (is_start (slice_index (spelling kind) 0)) q.1 (small_starts (spelling kind) (omega (arith, l, ap length e)) s).1
    go (inr s) = both_ways (is_white (slice_index (spelling kind) 0)) (symbol_facts (slice_index (spelling kind) 0) s).3 there

-- a digit begins no token of one spelling
pub fixed_no_digit : (kind : Kind) → 0 < length (spelling kind) → is_ascii_digit (slice_index (spelling kind) 0) ≡ true → ⊥
fixed_no_digit kind l d = go (shape kind l)
  where
    go : (all_small (spelling kind) ≡ true) ⊎ (is_symbol (slice_index (spelling kind) 0) ≡ true) → ⊥
    go (inl s) = both_ways (is_start (slice_index (spelling kind) 0)) (digit_no_start (slice_index (spelling kind) 0) d) (small_starts (spelling kind) l s).1
    go (inr s) = both_ways (is_ascii_digit (slice_index (spelling kind) 0)) (symbol_facts (slice_index (spelling kind) 0) s).2 d

-- the kind of a token is that of its spelling
name_no_number : (text rest : List ℕ) → IsName text → is_ascii_digit (slice_index text 0) ≡ true → ⊥
name_no_number text rest h d =
    both_ways (is_start (slice_index text 0)) (digit_no_start (slice_index text 0) d) (name_byte text rest h (omega (arith, (digit_from_test (slice_index text 0) d).3)))

number_no_fixed : (kind : Kind) (text : List ℕ) → is_ascii_digit (slice_index text 0) ≡ true → 0 < length text → text ≡ spelling kind → ⊥
number_no_fixed kind text d l e = fixed_no_digit kind (omega (arith, l, ap length e)) (ap (λ t. is_ascii_digit (slice_index t 0)) (sym e) ∙ d)

pub same_kind : (a b : Kind) (text rest : List ℕ) → IsToken a text rest → IsToken b text rest → a ≡ b
same_kind a b text rest (name j g n) (name k h o) = j ∙ sym k
same_kind a b text rest (name j g n) (number k h w) = absurd (name_no_number text rest g (number_byte 2147483648 text h))
same_kind a b text rest (name j g n) (long_number k h w) = absurd (name_no_number text rest g (long_byte text h))
same_kind a b text rest (name j g n) (fixed l e) = absurd (n b e)
same_kind a b text rest (number j g v) (name k h o) = absurd (name_no_number text rest h (number_byte 2147483648 text g))
same_kind a b text rest (number j g v) (number k h w) = j ∙ sym k
same_kind a b text rest (number j g v) (long_number k h w) = absurd (long_not_digits text h g.digits)
same_kind a b text rest (number j g v) (fixed l e) = absurd (number_no_fixed b text (number_byte 2147483648 text g) l e)
same_kind a b text rest (long_number j g v) (name k h o) = absurd (name_no_number text rest h (long_byte text g))
same_kind a b text rest (long_number j g v) (number k h w) = absurd (long_not_digits text g h.digits)
same_kind a b text rest (long_number j g v) (long_number k h w) = j ∙ sym k
same_kind a b text rest (long_number j g v) (fixed l e) = absurd (number_no_fixed b text (long_byte text g) l e)
same_kind a b text rest (fixed m d) (name k h o) = absurd (o a d)
same_kind a b text rest (fixed m d) (number k h w) = absurd (number_no_fixed a text (number_byte 2147483648 text h) m d)
same_kind a b text rest (fixed m d) (long_number k h w) = absurd (number_no_fixed a text (long_byte text h) m d)
same_kind a b text rest (fixed m d) (fixed l e) = spelled_once a b (omega (arith, m, ap length d)) (sym d ∙ e)

pub same_token : (a b : Kind) (s t r q : List ℕ) → s ++ r ≡ t ++ q → IsLongest a s r → IsLongest b t q → (a ≡ b) × (s ≡ t) × (r ≡ q)
same_token a b s t r q e g h =
    let up : length t ≤ length s = g.longest b t q e h.token in
    let down : length s ≤ length t = h.longest a s r (sym e) g.token in
    let p = same_split s t r q e (omega (arith, up, down)) in
    let moved : IsToken b s r = rw (p.0, p.1) h.token in
    (same_kind a b s r g.token moved, p.0, p.1)

-- gaps
line_same : (b c r q : List ℕ) → AllByRecursion (λ x. is_line_end x ≡ false) b → AllByRecursion (λ x. is_line_end x ≡ false) c → EndsLine r → EndsLine q → b ++ r ≡ c ++ q
    → length b ≡ length c
line_same [] [] r q g h u v e = refl
line_same [] (y ∷ c) r q g h u v e = absurd (both_ways (is_line_end y) h.0 (rw e at u))
line_same (x ∷ b) [] r q g h u v e = absurd (both_ways (is_line_end x) g.0 (rw (← e) at v))
line_same (x ∷ b) (y ∷ c) r q g h u v e =
    let t : b ++ r ≡ c ++ q = cc in
    omega (arith, line_same b c r q g.1 h.1 u v t)

pub block_text : (body r : List ℕ) → (47 ∷ 42 ∷ body ++ 42 ∷ 47 ∷ []) ++ r ≡ 47 ∷ 42 ∷ (body ++ 42 ∷ 47 ∷ r)
block_text body r = append_assoc (47 ∷ 42 ∷ body) (42 ∷ 47 ∷ []) r

-- the first bytes of a gap
pub gap_cases : (g r : List ℕ) → IsGap g r → ((b : ℕ) × (g ≡ b ∷ []) × (is_white b ≡ true)) ⊎ (IsLineComment g r ⊎ IsBlockComment g r)
gap_cases g r (white b e w) = inl (b, e, w)
gap_cases g r (line h) = inr (inl h)
gap_cases g r (block h) = inr (inr h)

pub comment_begins : (g r : List ℕ) → IsLineComment g r ⊎ IsBlockComment g r → BeginsComment (g ++ r)
comment_begins g r (inl h) = rw h.spelled (refl, inl refl)
comment_begins g r (inr h) = rw h.spelled (refl, inr refl)

white_no_comment : (b : ℕ) (g r : List ℕ) → is_white b ≡ true → g ≡ b ∷ [] → BeginsComment (g ++ r) → ⊥
white_no_comment b g r w e c = go r (rw e at c)
  where
    go : (r : List ℕ) → BeginsComment (b ∷ r) → ⊥
    go [] c = c
    go (x ∷ r) c = (white_low b w).3 c.0

pub gap_length : (g h r q : List ℕ) → g ++ r ≡ h ++ q → IsGap g r → IsGap h q → length g ≡ length h
gap_length g h r q e (white b i w) (white c j v) = ap length i ∙ sym (ap length j)
gap_length g h r q e (white b i w) (line d) = absurd (white_no_comment b g r w i (rw (← e) at (comment_begins h q (inl d))))
gap_length g h r q e (white b i w) (block d) = absurd (white_no_comment b g r w i (rw (← e) at (comment_begins h q (inr d))))
gap_length g h r q e (line d) (white c j v) = absurd (white_no_comment c h q v j (rw e at (comment_begins g r (inl d))))
gap_length g h r q e (block d) (white c j v) = absurd (white_no_comment c h q v j (rw e at (comment_begins g r (inr d))))
gap_length g h r q e (line d) (line f) =
    let z : 47 ∷ 47 ∷ (d.body ++ r) ≡ 47 ∷ 47 ∷ (f.body ++ q) = ap (λ t. t ++ r) (sym d.spelled) ∙ (e ∙ ap (λ t. t ++ q) f.spelled) in
    let t : d.body ++ r ≡ f.body ++ q = cc in
    omega (arith, ap length d.spelled, ap length f.spelled, line_same d.body f.body r q d.in_line f.in_line d.through f.through t)
gap_length g h r q e (line d) (block f) =
    let z : 47 ∷ 47 ∷ (d.body ++ r) ≡ 47 ∷ 42 ∷ (f.body ++ 42 ∷ 47 ∷ q) = ap (λ t. t ++ r) (sym d.spelled) ∙ (e ∙ (ap (λ t. t ++ q) f.spelled ∙ block_text f.body q)) in
    let second : 47 ≡ 42 = ap (λ t. slice_index t 1) z in
    absurd (omega (arith, second))
gap_length g h r q e (block d) (line f) =
    let z : 47 ∷ 42 ∷ (d.body ++ 42 ∷ 47 ∷ r) ≡ 47 ∷ 47 ∷ (f.body ++ q) = sym (block_text d.body r) ∙ (ap (λ t. t ++ r) (sym d.spelled) ∙ (e ∙ ap (λ t. t ++ q) f.spelled)) in
    let second : 42 ≡ 47 = ap (λ t. slice_index t 1) z in
    absurd (omega (arith, second))
gap_length g h r q e (block d) (block f) =
    let z : 47 ∷ 42 ∷ (d.body ++ 42 ∷ 47 ∷ r) ≡ 47 ∷ 42 ∷ (f.body ++ 42 ∷ 47 ∷ q) =
    sym (block_text d.body r) ∙ (ap (λ t. t ++ r) (sym d.spelled) ∙ (e ∙ (ap (λ t. t ++ q) f.spelled ∙ block_text f.body q))) in
    let t : d.body ++ 42 ∷ 47 ∷ r ≡ f.body ++ 42 ∷ 47 ∷ q = cc in
    let up = d.first f.body q t in
    let down = f.first d.body r (sym t) in
    omega (arith, ap length d.spelled, ap length f.spelled, length-append d.body (42 ∷ 47 ∷ []), length-append f.body (42 ∷ 47 ∷ []), up, down)

pub same_gap : (g h r q : List ℕ) → g ++ r ≡ h ++ q → IsGap g r → IsGap h q → (g ≡ h) × (r ≡ q)
same_gap g h r q e i j = same_split g h r q e (gap_length g h r q e i j)

pub gap_no_token : (g s r q : List ℕ) (kind : Kind) → g ++ r ≡ s ++ q → IsGap g r → IsLongest kind s q → ⊥
gap_no_token g s r q kind e i t = go (gap_cases g r i)
  where
    go : ((b : ℕ) × (g ≡ b ∷ []) × (is_white b ≡ true)) ⊎ (IsLineComment g r ⊎ IsBlockComment g r) → ⊥
    go (inr c) = t.no_comment (rw e at (comment_begins g r c))
    go (inl w) =
        let first : slice_index s 0 ≡ w.0 =
        sym (first_byte s q (token_some kind s q t.token)) ∙ (ap (λ x. slice_index x 0) (sym e) ∙ ap (λ x. slice_index (x ++ r) 0) w.1) in
        token_no_white kind s q t.token (ap is_white first ∙ w.2)

-- the first byte of a token or a gap
pub gap_first : (text g r : List ℕ) → text ≡ g ++ r → IsGap g r → (is_white (slice_index text 0) ≡ true) ⊎ BeginsComment text
gap_first text g r e i = go (gap_cases g r i)
  where
    go : ((b : ℕ) × (g ≡ b ∷ []) × (is_white b ≡ true)) ⊎ (IsLineComment g r ⊎ IsBlockComment g r) → (is_white (slice_index text 0) ≡ true) ⊎ BeginsComment text
    go (inl w) =
        let first : slice_index text 0 ≡ w.0 = ap (λ x. slice_index x 0) e ∙ ap (λ x. slice_index (x ++ r) 0) w.1 in
        inl (ap is_white first ∙ w.2)
    go (inr c) = inr (rw e (comment_begins g r c))

pub comment_bytes : (text : List ℕ) → BeginsComment text → (slice_index text 0 ≡ 47) × ((slice_index text 1 ≡ 47) ⊎ (slice_index text 1 ≡ 42))
comment_bytes [] h = absurd h
comment_bytes (a ∷ []) h = absurd h
comment_bytes (a ∷ b ∷ more) h = h

-- no gap begins there
pub plain_no_gap : (text g r : List ℕ) → text ≡ g ++ r → IsGap g r → is_white (slice_index text 0) ≡ false → (slice_index text 0 ≡ 47 → ⊥) → ⊥
plain_no_gap text g r e i w s = go (gap_first text g r e i)
  where
    go : (is_white (slice_index text 0) ≡ true) ⊎ BeginsComment text → ⊥
    go (inl t) = both_ways (is_white (slice_index text 0)) w t
    go (inr c) = s (comment_bytes text c).0

-- the first byte of a part
pub first_of : (text part rest : List ℕ) → text ≡ part ++ rest → 0 < length part → slice_index text 0 ≡ slice_index part 0
first_of text part rest e l = ap (λ x. slice_index x 0) e ∙ first_byte part rest l

-- no token begins with a backslash
pub escape_no_token : (text part rest : List ℕ) (kind : Kind) → slice_index text 0 ≡ 92 → text ≡ part ++ rest → IsToken kind part rest → ⊥
escape_no_token text part rest kind z e (name k i o) =
    let b : slice_index part 0 ≡ 92 = sym (first_of text part rest e (token_some kind part rest (name k i o))) ∙ z in
    let f : is_start (slice_index part 0) ≡ false = ap is_start b ∙ (start_ascii 92 (omega arith) ∙ refl) in
    both_ways (is_start (slice_index part 0)) f (name_byte part rest i (omega (arith, b)))
escape_no_token text part rest kind z e (number k i w) =
    let b : slice_index part 0 ≡ 92 = sym (first_of text part rest e i.some) ∙ z in
    omega (arith, b, (digit_from_test (slice_index part 0) (number_byte 2147483648 part i)).3)
escape_no_token text part rest kind z e (long_number k i w) =
    let b : slice_index part 0 ≡ 92 = sym (first_of text part rest e (omega (arith, long_some part i))) ∙ z in
    omega (arith, b, (digit_from_test (slice_index part 0) (long_byte part i)).3)
escape_no_token text part rest kind z e (fixed l k) = go (shape kind (omega (arith, l, ap length k)))
  where
    byte : slice_index (spelling kind) 0 ≡ 92
    byte = ap (λ t. slice_index t 0) (sym k) ∙ (sym (first_of text part rest e l) ∙ z)

    go : (all_small (spelling kind) ≡ true) ⊎ (is_symbol (slice_index (spelling kind) 0) ≡ true) → ⊥
    go (inl s) =
        let f : is_start (slice_index (spelling kind) 0) ≡ false = ap is_start byte ∙ (start_ascii 92 (omega arith) ∙ refl) in
        both_ways (is_start (slice_index (spelling kind) 0)) f (small_starts (spelling kind) (omega (arith, l, ap length k)) s).1
    go (inr s) = (symbol_facts (slice_index (spelling kind) 0) s).4 byte

-- a contract line's own token, and any other that begins there
pub same_here : (inside : Bool) (a b : Kind) (s t r q : List ℕ) → s ++ r ≡ t ++ q → IsTokenHere inside a s r → IsTokenHere inside b t q → (a ≡ b) × (s ≡ t) × (r ≡ q)
same_here inside a b s t r q e (anywhere g) (anywhere h) = same_token a b s t r q e g h
same_here inside a b s t r q e (anywhere g) (within i h) = absurd (escape_no_token (t ++ q) s r a (here_first (t ++ q) t q b refl h).0 (sym e) g.token)
same_here inside a b s t r q e (within i g) (anywhere h) = absurd (escape_no_token (s ++ r) t q b (here_first (s ++ r) s r a refl g).0 e h.token)
same_here inside a b s t r q e (within i g) (within j h) =
    let k = same_contract_token a b s t r q e g h in
    let long : length s ≡ length t = ap length g.spelled ∙ (ap (λ x. length (contract_spelling x)) k ∙ sym (ap length h.spelled)) in
    let p = same_split s t r q e long in
    (k, p.0, p.1)

pub here_some : (inside : Bool) (kind : Kind) (part rest : List ℕ) → IsTokenHere inside kind part rest → 0 < length part
here_some inside kind part rest (anywhere t) = token_some kind part rest t.token
here_some inside kind part rest (within i t) = contract_token_some kind part t

pub gap_no_here : (inside : Bool) (g s r q : List ℕ) (kind : Kind) → g ++ r ≡ s ++ q → IsGap g r → IsTokenHere inside kind s q → ⊥
gap_no_here inside g s r q kind e i (anywhere t) = gap_no_token g s r q kind e i t
gap_no_here inside g s r q kind e i (within j t) =
    let b = (here_first (s ++ q) s q kind refl t).0 in
    plain_no_gap (s ++ q) g r (sym e) i (ap is_white b ∙ refl) (λ z. omega (arith, z, b))

pub same_contract : (text : List ℕ) (k j : Kind) (b c r s : List ℕ) → IsContract text k b r → IsContract text j c s → (k ≡ j) × (b ≡ c) × (r ≡ s)
same_contract text k j b c r s g h =
    let z : 47 ∷ 47 ∷ 64 ∷ ((b ++ contract_spelling k) ++ r) ≡ 47 ∷ 47 ∷ 64 ∷ ((c ++ contract_spelling j) ++ s) = sym g.spelled ∙ h.spelled in
    let y : (b ++ contract_spelling k) ++ r ≡ (c ++ contract_spelling j) ++ s = cc in
    let x : b ++ (contract_spelling k ++ r) ≡ c ++ (contract_spelling j ++ s) =
    sym (append_assoc b (contract_spelling k) r) ∙ (y ∙ append_assoc c (contract_spelling j) s) in
    let long : length b ≡ length c = blank_same b c (contract_spelling k ++ r) (contract_spelling j ++ s) g.white h.white (word_no_blank k r g.word) (word_no_blank j s h.word) x in
    let p = same_split b c (contract_spelling k ++ r) (contract_spelling j ++ s) x long in
    let kind : k ≡ j = same_word k j r s g.word h.word p.1 in
    let q = same_split (contract_spelling k) (contract_spelling j) r s p.1 (ap (λ o. length (contract_spelling o)) kind) in
    (kind, p.0, q.1)

pub contract_no_here : (inside : Bool) (text part rest : List ℕ) (kind : Kind) → BeginsContract text → text ≡ part ++ rest → IsTokenHere inside kind part rest → ⊥
contract_no_here inside text part rest kind c e (anywhere t) = t.no_comment (rw e at (begins_comment text c))
contract_no_here inside text part rest kind c e (within i t) = omega (arith, (here_first text part rest kind e t).0, (contract_bytes text c).0)
