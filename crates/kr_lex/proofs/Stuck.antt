-- Where a rule is broken there is neither a gap nor a token, and only one rule is broken.
use Rattle.std.proofs.Common.{◌≡◌, ℕ, ◌<◌, ◌⊎◌, inl, inr, Bool, true, false, ◌&&◌, ◌==◌, cond, List, [], ◌∷◌, ◌++◌, length, slice_index, refl, sym, ap, ◌∙◌, arith, append_assoc}
use Rattle.std.specs.Char.{encode_utf8, is_ascii_digit}
use Rattle.std.specs.Str.{encode_utf8_all}
use Rattle.std.proofs.lemmas.Str.{char_from_byte, encode_ascii}
use Rattle.std.proofs.lemmas.Bool.{both_ways, eq-eqb, ne_eqb, eqb-true, and_parts, false_from_ne_true}
use Rattle.std.proofs.lemmas.Bool.Decides.{nat_tests}
use Rattle.kr_lex.specs.declared.kind.Kind.{Kind}
use Rattle.kr_lex.specs.declared.kind.Kind.TheVariants as kinds
use Rattle.kr_lex.specs.declared.refusal.LexRule.{LexRule}
use Rattle.kr_lex.specs.declared.refusal.LexRule.TheVariants as rules
use Rattle.kr_lex.specs.Characters.{is_start, is_white, is_line_end, AllParts, EndsWord}
use Rattle.kr_lex.specs.Spelling.{spelling}
use Rattle.kr_lex.specs.Words.{IsNumber, IsToken, name, number, long_number, fixed}
use Rattle.kr_lex.specs.Gaps.{IsGap, IsLineComment, IsBlockComment, EndsLine, BeginsComment}
use Rattle.kr_lex.specs.Spells.{IsLongest, IsTokenHere, anywhere, within}
use Rattle.kr_lex.specs.ContractLines.{IsContract, IsContractToken, BeginsContract}
use Rattle.kr_lex.specs.Broken.{BreaksHere, IsStray, IsUnclosed, IsBadNumber, BeginsEscape}
use Rattle.kr_lex.proofs.Fronts.{char_some, same_char}
use Rattle.kr_lex.proofs.Numbers.{digit_from_test}
use Rattle.kr_lex.proofs.Listing.{is_symbol}
use Rattle.kr_lex.proofs.Classes.{digit_no_start, symbol_facts, token_shape, token_some, run_longest, digits_run, long_run}
use Rattle.kr_lex.proofs.Unique.{same_split, gap_cases, block_text, name_byte, fixed_no_digit, plain_no_gap, escape_no_token, first_of}
use Rattle.kr_lex.proofs.Heads.{begins_contract, begins_comment, contract_bytes, here_first}

escape_bytes : (text : List ℕ) → BeginsEscape text → (slice_index text 0 ≡ 92) × (slice_index text 1 ≡ 117)
escape_bytes [] h = absurd h
escape_bytes (a ∷ []) h = absurd h
escape_bytes (a ∷ b ∷ more) h = h

-- a stray character is its own first byte where that is ASCII
stray_byte : (text : List ℕ) (s : IsStray text) (b : ℕ) → slice_index text 0 ≡ b → b < 128 → s.char ≡ b
stray_byte text s b e low = char_from_byte text s.more s.char s.spelled (omega (arith, e, low)) (char_some text s.more s.char s.spelled) ∙ e

-- so it isn't the one byte of a token
stray_no_byte : (text : List ℕ) (s : IsStray text) (kind : Kind) (b : ℕ) → spelling kind ≡ b ∷ [] → b < 128 → slice_index text 0 ≡ b → ⊥
stray_no_byte text s kind b e low z =
    let c : s.char ≡ b = stray_byte text s b z low in
    let t : encode_utf8 s.char ++ [] ≡ b ∷ [] = ap (λ x. x ++ []) (ap encode_utf8 c ∙ encode_ascii b low) in
    s.no_token kind [] [] (fixed (omega (arith, ap length t)) (t ∙ sym e))

slash_spelled : spelling kinds.Slash ≡ 47 ∷ []
unfolding spelling
slash_spelled = refl

one_digit : (b : ℕ) → is_ascii_digit b ≡ true → IsNumber (b ∷ [])
one_digit b t =
    let d = digit_from_test b t in
    record { some = omega arith; digits = (d.0, tt); no_leading_zero = λ e. refl; within = omega (arith, d.0, d.1) }

ends_nothing_here : EndsWord []
ends_nothing_here c more s e = absurd (omega (arith, char_some [] more c e))

stray_no_digit : (text : List ℕ) (s : IsStray text) → is_ascii_digit (slice_index text 0) ≡ true → ⊥
stray_no_digit text s d =
    let low : slice_index text 0 < 128 = omega (arith, (digit_from_test (slice_index text 0) d).3) in
    let c = stray_byte text s (slice_index text 0) refl low in
    let t : encode_utf8 s.char ++ [] ≡ slice_index text 0 ∷ [] = ap (λ x. x ++ []) (ap encode_utf8 c ∙ encode_ascii (slice_index text 0) low) in
    s.no_token kinds.Number [] [] (number refl (rw t (one_digit (slice_index text 0) d)) ends_nothing_here)

-- which rule it is shows in the first two bytes
abbrev pub rule_of : List ℕ → LexRule
rule_of text =
    cond (slice_index text 0 == 47) (cond (slice_index text 1 == 42) rules.UnclosedComment rules.ContractLine)
    (cond (slice_index text 0 == 92 && slice_index text 1 == 117) rules.UnicodeEscape
    (cond (is_ascii_digit (slice_index text 0)) rules.BadNumber rules.StrayCharacter))

unclosed_bytes : (text : List ℕ) → IsUnclosed text → (slice_index text 0 ≡ 47) × (slice_index text 1 ≡ 42)
unclosed_bytes text h = (ap (λ t. slice_index t 0) h.spelled, ap (λ t. slice_index t 1) h.spelled)

-- text begins with `\u` exactly where its bytes say so
escape_from_bytes : (text : List ℕ) → slice_index text 0 ≡ 92 → slice_index text 1 ≡ 117 → BeginsEscape text
escape_from_bytes [] p q = absurd (omega (arith, p))
escape_from_bytes (a ∷ []) p q = absurd (omega (arith, q))
escape_from_bytes (a ∷ b ∷ more) p q = (p, q)

is_unclosed : (x y : ℕ) (d : Bool) → x ≡ 47 → y ≡ 42 → rules.UnclosedComment ≡ cond (x == 47) (cond (y == 42) rules.UnclosedComment rules.ContractLine) (cond (x == 92 && y == 117) rules.UnicodeEscape (cond d rules.BadNumber rules.StrayCharacter))
is_unclosed x y d p q = rw (eq-eqb x 47 p, eq-eqb y 42 q) refl

is_contract : (x y : ℕ) (d : Bool) → x ≡ 47 → y ≡ 47 → rules.ContractLine ≡ cond (x == 47) (cond (y == 42) rules.UnclosedComment rules.ContractLine) (cond (x == 92 && y == 117) rules.UnicodeEscape (cond d rules.BadNumber rules.StrayCharacter))
is_contract x y d p q = rw (eq-eqb x 47 p, ne_eqb y 42 (λ e. omega (arith, e, q))) refl

is_escape : (x y : ℕ) (d : Bool) → x ≡ 92 → y ≡ 117 → rules.UnicodeEscape ≡ cond (x == 47) (cond (y == 42) rules.UnclosedComment rules.ContractLine) (cond (x == 92 && y == 117) rules.UnicodeEscape (cond d rules.BadNumber rules.StrayCharacter))
is_escape x y d p q = rw (ne_eqb x 47 (λ e. omega (arith, e, p)), eq-eqb x 92 p, eq-eqb y 117 q) refl

is_bad : (x y : ℕ) (d : Bool) → d ≡ true → (x ≡ 47 → ⊥) → (x ≡ 92 → ⊥)
    → rules.BadNumber ≡ cond (x == 47) (cond (y == 42) rules.UnclosedComment rules.ContractLine) (cond (x == 92 && y == 117) rules.UnicodeEscape (cond d rules.BadNumber rules.StrayCharacter))
is_bad x y d t p q = rw (ne_eqb x 47 p, ne_eqb x 92 q, t) refl

is_stray : (x y : ℕ) (d : Bool) → d ≡ false → (x ≡ 47 → ⊥) → (x ≡ 92 → y ≡ 117 → ⊥)
    → rules.StrayCharacter ≡ cond (x == 47) (cond (y == 42) rules.UnclosedComment rules.ContractLine) (cond (x == 92 && y == 117) rules.UnicodeEscape (cond d rules.BadNumber rules.StrayCharacter))
is_stray x y d t p q = rw (ne_eqb x 47 p, t, both_not) refl
  where
    both_not : (x == 92 && y == 117) ≡ false
    both_not = false_from_ne_true (x == 92 && y == 117) (λ b. let h = and_parts (x == 92) (y == 117) b in q (eqb-true x 92 h.0) (eqb-true y 117 h.1))

-- at a place only one rule is broken
pub rule_is : (inside : Bool) (rule : LexRule) (text : List ℕ) → BreaksHere inside rule text → rule ≡ rule_of text
rule_is inside rules.NotUtf8 text h = absurd h
rule_is inside rules.StrayCharacter text h =
    is_stray (slice_index text 0) (slice_index text 1) (is_ascii_digit (slice_index text 0)) (false_from_ne_true _ (stray_no_digit text h.0))
    (λ e. stray_no_byte text h.0 kinds.Slash 47 slash_spelled (omega arith) e) (λ p q. h.0.no_escape (escape_from_bytes text p q))
rule_is inside rules.UnclosedComment text h = let b = unclosed_bytes text h in is_unclosed (slice_index text 0) (slice_index text 1) (is_ascii_digit (slice_index text 0)) b.0 b.1
rule_is inside rules.BadNumber text h =
    let d = digit_from_test (slice_index text 0) h.digit in
    is_bad (slice_index text 0) (slice_index text 1) (is_ascii_digit (slice_index text 0)) h.digit (λ e. omega (arith, e, d.2)) (λ e. omega (arith, e, d.3))
rule_is inside rules.UnicodeEscape text h = let b = escape_bytes text h in is_escape (slice_index text 0) (slice_index text 1) (is_ascii_digit (slice_index text 0)) b.0 b.1
rule_is inside rules.ContractLine text h = let b = contract_bytes text h.begins in is_contract (slice_index text 0) (slice_index text 1) (is_ascii_digit (slice_index text 0)) b.0 b.1

stray_no_white : (text : List ℕ) (s : IsStray text) → is_white (slice_index text 0) ≡ false
stray_no_white text s = false_from_ne_true (is_white (slice_index text 0)) (λ t.
    let low : slice_index text 0 < 128 = white_is_low (slice_index text 0) t in
    let c = stray_byte text s (slice_index text 0) refl low in
    both_ways (is_white s.char) s.no_white (ap is_white c ∙ t))
  where
    white_is_low : (b : ℕ) → is_white b ≡ true → b < 128
    white_is_low b t = grind (arith, nat_tests)

line_no_contract : (text g r : List ℕ) → text ≡ g ++ r → IsLineComment g r → BeginsContract text → ⊥
line_no_contract text g r e h c = go h.body (e ∙ ap (λ x. x ++ r) h.spelled) h.no_contract h.through
  where
    go : (body : List ℕ) → text ≡ 47 ∷ 47 ∷ body ++ r → (slice_index body 0 ≡ 64 → ⊥) → EndsLine r → ⊥
    go [] z n t = end r z t
      where
        end : (r : List ℕ) → text ≡ 47 ∷ 47 ∷ r → EndsLine r → ⊥
        end [] z t = let b : slice_index text 2 ≡ 0 = ap (λ x. slice_index x 2) z in omega (arith, b, (contract_bytes text c).2)
        end (x ∷ r) z t =
            let b : slice_index text 2 ≡ x = ap (λ y. slice_index y 2) z in
            let same : x ≡ 64 = sym b ∙ (contract_bytes text c).2 in
            let no_end : is_line_end x ≡ false = ap is_line_end same ∙ refl in
            both_ways (is_line_end x) no_end t
    go (x ∷ body) z n t = n (sym (ap (λ y. slice_index y 2) z) ∙ (contract_bytes text c).2)

-- the second byte of the two kinds of comments
line_second : (text g r : List ℕ) → text ≡ g ++ r → IsLineComment g r → slice_index text 1 ≡ 47
line_second text g r e h = ap (λ x. slice_index x 1) (e ∙ ap (λ x. x ++ r) h.spelled)

block_second : (text g r : List ℕ) → text ≡ g ++ r → IsBlockComment g r → slice_index text 1 ≡ 42
block_second text g r e h = ap (λ x. slice_index x 1) (e ∙ (ap (λ x. x ++ r) h.spelled ∙ block_text h.body r))

slash_no_white : (text : List ℕ) → slice_index text 0 ≡ 47 → is_white (slice_index text 0) ≡ false
slash_no_white text z = ap is_white z ∙ refl

-- a contract line begins with no gap
pub contract_no_gap : (text g r : List ℕ) → BeginsContract text → text ≡ g ++ r → IsGap g r → ⊥
contract_no_gap text g r h e i = go (gap_cases g r i)
  where
    go : ((b : ℕ) × (g ≡ b ∷ []) × (is_white b ≡ true)) ⊎ (IsLineComment g r ⊎ IsBlockComment g r) → ⊥
    go (inl w) =
        let first : slice_index text 0 ≡ w.0 = ap (λ x. slice_index x 0) e ∙ ap (λ x. slice_index (x ++ r) 0) w.1 in
        both_ways (is_white (slice_index text 0)) (slash_no_white text (contract_bytes text h).0) (ap is_white first ∙ w.2)
    go (inr (inl c)) = line_no_contract text g r e c h
    go (inr (inr c)) = omega (arith, block_second text g r e c, (contract_bytes text h).1)

pub stuck_gap : (inside : Bool) (rule : LexRule) (text g r : List ℕ) → BreaksHere inside rule text → text ≡ g ++ r → IsGap g r → ⊥
stuck_gap inside rules.NotUtf8 text g r h e i = h
stuck_gap inside rules.StrayCharacter text g r h e i =
    plain_no_gap text g r e i (stray_no_white text h.0) (stray_no_byte text h.0 kinds.Slash 47 slash_spelled (omega arith))
stuck_gap inside rules.BadNumber text g r h e i =
    let d = digit_from_test (slice_index text 0) h.digit in
    plain_no_gap text g r e i (digit_no_white (slice_index text 0) h.digit) (λ z. omega (arith, z, d.2))
  where
    digit_no_white : (b : ℕ) → is_ascii_digit b ≡ true → is_white b ≡ false
    digit_no_white b t = grind (arith, nat_tests)
stuck_gap inside rules.UnicodeEscape text g r h e i =
    let b = escape_bytes text h in plain_no_gap text g r e i (ap is_white b.0 ∙ refl) (λ z. omega (arith, z, b.0))
stuck_gap inside rules.UnclosedComment text g r h e i = go (gap_cases g r i)
  where
    go : ((b : ℕ) × (g ≡ b ∷ []) × (is_white b ≡ true)) ⊎ (IsLineComment g r ⊎ IsBlockComment g r) → ⊥
    go (inl w) =
        let first : slice_index text 0 ≡ w.0 = ap (λ x. slice_index x 0) e ∙ ap (λ x. slice_index (x ++ r) 0) w.1 in
        both_ways (is_white (slice_index text 0)) (slash_no_white text (unclosed_bytes text h).0) (ap is_white first ∙ w.2)
    go (inr (inl c)) = omega (arith, line_second text g r e c, (unclosed_bytes text h).1)
    go (inr (inr c)) =
        let z : 47 ∷ 42 ∷ h.body ≡ 47 ∷ 42 ∷ (c.body ++ 42 ∷ 47 ∷ r) = sym h.spelled ∙ (e ∙ (ap (λ x. x ++ r) c.spelled ∙ block_text c.body r)) in
        let t : h.body ≡ c.body ++ 42 ∷ 47 ∷ r = cc in
        h.unclosed c.body r t
stuck_gap inside rules.ContractLine text g r h e i = contract_no_gap text g r h.begins e i

-- a stray character begins no token
stray_no_token : (text part rest : List ℕ) (kind : Kind) → IsStray text → text ≡ part ++ rest → IsToken kind part rest → ⊥
stray_no_token text part rest kind h e t = go (token_shape kind part rest t)
  where
    go : ((cs : List ℕ) × AllParts cs × (encode_utf8_all cs ≡ part)) ⊎ (is_symbol (slice_index part 0) ≡ true) → ⊥
    go (inl r) = run r.0 r.2
      where
        run : (cs : List ℕ) → encode_utf8_all cs ≡ part → ⊥
        run [] z = omega (arith, ap length z, token_some kind part rest t)
        run (c ∷ cs) z =
            let whole : text ≡ encode_utf8 c ++ (encode_utf8_all cs ++ rest) = e ∙ (ap (λ x. x ++ rest) (sym z) ∙ append_assoc (encode_utf8 c) (encode_utf8_all cs) rest) in
            let same : c ≡ h.char = same_char text (encode_utf8_all cs ++ rest) h.more c h.char whole h.spelled in
            let front : part ≡ encode_utf8 h.char ++ encode_utf8_all cs = sym z ∙ ap (λ x. encode_utf8 x ++ encode_utf8_all cs) same in
            h.no_token kind (encode_utf8_all cs) rest (rw front at t)
    go (inr s) = symbol part e s t
      where
        symbol : (part : List ℕ) → text ≡ part ++ rest → is_symbol (slice_index part 0) ≡ true → IsToken kind part rest → ⊥
        symbol [] e s t = omega (arith, token_some kind [] rest t)
        symbol (b ∷ part) e s t =
            let low : b < 128 = (symbol_facts b s).0 in
            let c : h.char ≡ b = stray_byte text h b (ap (λ x. slice_index x 0) e) low in
            let front : b ∷ part ≡ encode_utf8 h.char ++ part = sym (ap (λ x. x ++ part) (ap encode_utf8 c ∙ encode_ascii b low)) in
            h.no_token kind part rest (rw front at t)

-- a run that the text doesn't go on with is the longest one
bad_run : (text part rest : List ℕ) (h : IsBadNumber text) → text ≡ part ++ rest → AllParts part → encode_utf8_all part ≡ part → EndsWord rest → part ≡ encode_utf8_all h.chars
bad_run text part rest h e all its w =
    let z : encode_utf8_all part ++ rest ≡ encode_utf8_all h.chars ++ h.rest = ap (λ x. x ++ rest) its ∙ (sym e ∙ h.spelled) in
    let up = run_longest part h.chars rest h.rest all z h.longest in
    let down = run_longest h.chars part h.rest rest h.parts (sym z) w in
    let same = same_split (encode_utf8_all part) (encode_utf8_all h.chars) rest h.rest z (omega (arith, up, down)) in
    sym its ∙ same.0

bad_no_token : (text part rest : List ℕ) (kind : Kind) → IsBadNumber text → text ≡ part ++ rest → IsToken kind part rest → ⊥
bad_no_token text part rest kind h e (name k i o) =
    let b = first_of text part rest e (token_some kind part rest (name k i o)) in
    let d : is_ascii_digit (slice_index part 0) ≡ true = ap is_ascii_digit (sym b) ∙ h.digit in
    both_ways (is_start (slice_index part 0)) (digit_no_start (slice_index part 0) d) (name_byte part rest i (omega (arith, (digit_from_test (slice_index part 0) d).3)))
bad_no_token text part rest kind h e (number k i w) = let r = digits_run part i.digits in h.bad (rw (bad_run text part rest h e r.0 r.1 w) at i)
bad_no_token text part rest kind h e (long_number k i w) = let r = long_run part i in h.bad_long (rw (bad_run text part rest h e r.0 r.1 w) at i)
bad_no_token text part rest kind h e (fixed l k) =
    let b = first_of text part rest e l in
    let d : is_ascii_digit (slice_index (spelling kind) 0) ≡ true = ap (λ t. is_ascii_digit (slice_index t 0)) (sym k) ∙ (ap is_ascii_digit (sym b) ∙ h.digit) in
    fixed_no_digit kind (omega (arith, l, ap length k)) d

unclosed_comment : (text : List ℕ) → IsUnclosed text → BeginsComment text
unclosed_comment text h = rw h.spelled (refl, inr refl)

stuck_token : (inside : Bool) (rule : LexRule) (text part rest : List ℕ) (kind : Kind) → BreaksHere inside rule text → text ≡ part ++ rest → IsLongest kind part rest → ⊥
stuck_token inside rules.NotUtf8 text part rest kind h e t = h
stuck_token inside rules.StrayCharacter text part rest kind h e t = stray_no_token text part rest kind h.0 e t.token
stuck_token inside rules.UnclosedComment text part rest kind h e t = t.no_comment (rw e at (unclosed_comment text h))
stuck_token inside rules.BadNumber text part rest kind h e t = bad_no_token text part rest kind h e t.token
stuck_token inside rules.UnicodeEscape text part rest kind h e t = escape_no_token text part rest kind (escape_bytes text h).0 e t.token
stuck_token inside rules.ContractLine text part rest kind h e t = t.no_comment (rw e at (begins_comment text h.begins))

stuck_within : (inside : Bool) (rule : LexRule) (text part rest : List ℕ) (kind : Kind) → BreaksHere inside rule text → text ≡ part ++ rest → inside ≡ true → IsContractToken kind part → ⊥
stuck_within inside rules.NotUtf8 text part rest kind h e i t = h
stuck_within inside rules.StrayCharacter text part rest kind h e i t = h.1 i kind part rest e t
stuck_within inside rules.UnclosedComment text part rest kind h e i t = omega (arith, (here_first text part rest kind e t).0, (unclosed_bytes text h).0)
stuck_within inside rules.BadNumber text part rest kind h e i t =
    let b = (here_first text part rest kind e t).0 in
    omega (arith, b, (digit_from_test (slice_index text 0) h.digit).3)
stuck_within inside rules.UnicodeEscape text part rest kind h e i t = (here_first text part rest kind e t).1 (escape_bytes text h).1
stuck_within inside rules.ContractLine text part rest kind h e i t = omega (arith, (here_first text part rest kind e t).0, (contract_bytes text h.begins).0)

pub stuck_here : (inside : Bool) (rule : LexRule) (text part rest : List ℕ) (kind : Kind) → BreaksHere inside rule text → text ≡ part ++ rest → IsTokenHere inside kind part rest → ⊥
stuck_here inside rule text part rest kind h e (anywhere t) = stuck_token inside rule text part rest kind h e t
stuck_here inside rule text part rest kind h e (within i t) = stuck_within inside rule text part rest kind h e i t

contract_rule : (text : List ℕ) → BeginsContract text → rules.ContractLine ≡ rule_of text
contract_rule text c =
    let b = contract_bytes text c in
    is_contract (slice_index text 0) (slice_index text 1) (is_ascii_digit (slice_index text 0)) b.0 b.1

-- nor a contract line
pub stuck_contract : (inside : Bool) (rule : LexRule) (text : List ℕ) (kind : Kind) (blank rest : List ℕ) → BreaksHere inside rule text → IsContract text kind blank rest → ⊥
stuck_contract inside rules.NotUtf8 text kind blank rest h c = h
stuck_contract inside rules.ContractLine text kind blank rest h c = h.bad kind blank rest c
stuck_contract inside rules.StrayCharacter text kind blank rest h c =
    let z : rules.StrayCharacter ≡ rules.ContractLine = rule_is inside rules.StrayCharacter text h ∙ sym (contract_rule text (begins_contract text kind blank rest c)) in cc
stuck_contract inside rules.UnclosedComment text kind blank rest h c =
    let z : rules.UnclosedComment ≡ rules.ContractLine = rule_is inside rules.UnclosedComment text h ∙ sym (contract_rule text (begins_contract text kind blank rest c)) in cc
stuck_contract inside rules.BadNumber text kind blank rest h c =
    let z : rules.BadNumber ≡ rules.ContractLine = rule_is inside rules.BadNumber text h ∙ sym (contract_rule text (begins_contract text kind blank rest c)) in cc
stuck_contract inside rules.UnicodeEscape text kind blank rest h c =
    let z : rules.UnicodeEscape ≡ rules.ContractLine = rule_is inside rules.UnicodeEscape text h ∙ sym (contract_rule text (begins_contract text kind blank rest c)) in cc

-- and some byte does
pub breaks_some : (inside : Bool) (rule : LexRule) (text : List ℕ) → BreaksHere inside rule text → 0 < length text
breaks_some inside rules.NotUtf8 text h = absurd h
breaks_some inside rules.StrayCharacter text h = char_some text h.0.more h.0.char h.0.spelled
breaks_some inside rules.UnclosedComment text h = omega (arith, ap length h.spelled)
breaks_some inside rules.BadNumber text h = go text h.digit
  where
    go : (text : List ℕ) → is_ascii_digit (slice_index text 0) ≡ true → 0 < length text
    go [] d = absurd (both_ways (is_ascii_digit 0) refl d)
    go (b ∷ text) d = omega arith
breaks_some inside rules.UnicodeEscape [] h = absurd h
breaks_some inside rules.UnicodeEscape (a ∷ text) h = omega arith
breaks_some inside rules.ContractLine [] h = absurd h.begins
breaks_some inside rules.ContractLine (a ∷ text) h = omega arith
