-- How contract lines begin, and the tokens that they alone have.
use Rattle.std.proofs.Common.{◌≡◌, ℕ, ◌<◌, ◌⊎◌, inl, inr, true, false, nat_lt, List, [], ◌∷◌, ◌++◌, length, slice_index, refl, sym, ap, ◌∙◌, arith}
use Rattle.std.specs.Str.{IsUtf8}
use Rattle.std.specs.List.{AllByRecursion}
use Rattle.std.proofs.lemmas.Str.{IsUtf8-append, IsUtf8-from_ascii}
use Rattle.std.proofs.lemmas.Bool.{both_ways, and_from}
use Rattle.std.proofs.lemmas.Bool.Decides.{nat_tests}
use Rattle.kr_lex.specs.declared.kind.Kind.{Kind}
use Rattle.kr_lex.specs.declared.kind.Kind.TheVariants as kinds
use Rattle.kr_lex.specs.ContractLines.{contract_spelling, BeginsContract, is_blank, head_of, IsContractWord, IsContract, IsContractToken}
use Rattle.kr_lex.specs.Gaps.{BeginsComment}
use Rattle.kr_lex.proofs.Listing.{all_ascii}
use Rattle.kr_lex.proofs.Shapes.{ascii_at}

-- the mark
pub begins_contract : (text : List ℕ) (kind : Kind) (blank rest : List ℕ) → IsContract text kind blank rest → BeginsContract text
begins_contract text kind blank rest c = rw c.spelled (refl, refl, refl)

pub contract_bytes : (text : List ℕ) → BeginsContract text → (slice_index text 0 ≡ 47) × (slice_index text 1 ≡ 47) × (slice_index text 2 ≡ 64)
contract_bytes [] h = absurd h
contract_bytes (a ∷ []) h = absurd h
contract_bytes (a ∷ b ∷ []) h = absurd h
contract_bytes (a ∷ b ∷ c ∷ more) h = h

pub begins_comment : (text : List ℕ) → BeginsContract text → BeginsComment text
begins_comment [] h = absurd h
begins_comment (a ∷ []) h = absurd h
begins_comment (a ∷ b ∷ []) h = absurd h
begins_comment (a ∷ b ∷ c ∷ more) h = (h.0, inl h.1)

-- the word, by its first letter
first_letter : Kind → ℕ
first_letter kinds.Requires = 114
first_letter kinds.Ensures = 101
first_letter _ = 115

letter_there : (kind : Kind) (rest : List ℕ) → IsContractWord kind → slice_index (contract_spelling kind ++ rest) 0 ≡ first_letter kind
unfolding contract_spelling first_letter
letter_there kind rest (inl e) = rw e refl
letter_there kind rest (inr (inl e)) = rw e refl
letter_there kind rest (inr (inr e)) = rw e refl

letter_solid : (kind : Kind) → IsContractWord kind → is_blank (first_letter kind) ≡ false
unfolding first_letter
letter_solid kind (inl e) = rw e refl
letter_solid kind (inr (inl e)) = rw e refl
letter_solid kind (inr (inr e)) = rw e refl

-- they differ
same_letter : (k j : Kind) → IsContractWord k → IsContractWord j → first_letter k ≡ first_letter j → k ≡ j
unfolding first_letter
same_letter k j (inl e) (inl f) z = e ∙ sym f
same_letter k j (inl e) (inr (inl f)) z = let y : first_letter kinds.Requires ≡ first_letter kinds.Ensures = rw (e, f) at z in absurd (omega (arith, y))
same_letter k j (inl e) (inr (inr f)) z = let y : first_letter kinds.Requires ≡ first_letter kinds.Signals = rw (e, f) at z in absurd (omega (arith, y))
same_letter k j (inr (inl e)) (inl f) z = let y : first_letter kinds.Ensures ≡ first_letter kinds.Requires = rw (e, f) at z in absurd (omega (arith, y))
same_letter k j (inr (inl e)) (inr (inl f)) z = e ∙ sym f
same_letter k j (inr (inl e)) (inr (inr f)) z = let y : first_letter kinds.Ensures ≡ first_letter kinds.Signals = rw (e, f) at z in absurd (omega (arith, y))
same_letter k j (inr (inr e)) (inl f) z = let y : first_letter kinds.Signals ≡ first_letter kinds.Requires = rw (e, f) at z in absurd (omega (arith, y))
same_letter k j (inr (inr e)) (inr (inl f)) z = let y : first_letter kinds.Signals ≡ first_letter kinds.Ensures = rw (e, f) at z in absurd (omega (arith, y))
same_letter k j (inr (inr e)) (inr (inr f)) z = e ∙ sym f

pub word_no_blank : (kind : Kind) (rest : List ℕ) → IsContractWord kind → is_blank (slice_index (contract_spelling kind ++ rest) 0) ≡ false
word_no_blank kind rest w = ap is_blank (letter_there kind rest w) ∙ letter_solid kind w

pub same_word : (k j : Kind) (r s : List ℕ) → IsContractWord k → IsContractWord j → contract_spelling k ++ r ≡ contract_spelling j ++ s → k ≡ j
same_word k j r s v w z = same_letter k j v w (sym (letter_there k r v) ∙ ap (λ t. slice_index t 0) z ∙ letter_there j s w)

-- two runs of blanks that end where no blank follows
pub blank_same : (b c r q : List ℕ) → AllByRecursion (λ x. is_blank x ≡ true) b → AllByRecursion (λ x. is_blank x ≡ true) c → is_blank (slice_index r 0) ≡ false
    → is_blank (slice_index q 0) ≡ false → b ++ r ≡ c ++ q → length b ≡ length c
blank_same [] [] r q g h u v e = refl
blank_same [] (y ∷ c) r q g h u v e =
    let z : slice_index r 0 ≡ y = ap (λ t. slice_index t 0) e in
    absurd (both_ways (is_blank y) (ap is_blank (sym z) ∙ u) h.0)
blank_same (x ∷ b) [] r q g h u v e =
    let z : x ≡ slice_index q 0 = ap (λ t. slice_index t 0) e in
    absurd (both_ways (is_blank x) (ap is_blank z ∙ v) g.0)
blank_same (x ∷ b) (y ∷ c) r q g h u v e =
    let t : b ++ r ≡ c ++ q = cc in
    omega (arith, blank_same b c r q g.1 h.1 u v t)

-- it is ASCII
blanks_ascii : (b : List ℕ) → AllByRecursion (λ x. is_blank x ≡ true) b → all_ascii b ≡ true
blanks_ascii [] h = refl
blanks_ascii (x ∷ b) h = and_from (nat_lt x 128) (all_ascii b) (blank_low x h.0) (blanks_ascii b h.1)
  where
    blank_low : (x : ℕ) → is_blank x ≡ true → nat_lt x 128 ≡ true
    blank_low x t = grind (arith, nat_tests)

word_ascii : (kind : Kind) → IsContractWord kind → all_ascii (contract_spelling kind) ≡ true
unfolding contract_spelling
word_ascii kind (inl e) = rw e refl
word_ascii kind (inr (inl e)) = rw e refl
word_ascii kind (inr (inr e)) = rw e refl

pub head_utf8 : (kind : Kind) (blank : List ℕ) → IsContractWord kind → AllByRecursion (λ x. is_blank x ≡ true) blank → IsUtf8 (head_of kind blank)
head_utf8 kind blank w h =
    let front : IsUtf8 (47 ∷ 47 ∷ 64 ∷ blank) = IsUtf8-from_ascii (47 ∷ 47 ∷ 64 ∷ blank) (ascii_at (47 ∷ 47 ∷ 64 ∷ blank) (blanks_ascii blank h)) in
    IsUtf8-append (47 ∷ 47 ∷ 64 ∷ blank) (contract_spelling kind) front (IsUtf8-from_ascii (contract_spelling kind) (ascii_at (contract_spelling kind) (word_ascii kind w)))

-- the tokens that contract lines alone have begin with a backslash, and no `u` follows
token_bytes : (kind : Kind) (rest : List ℕ) → (kind ≡ kinds.Result) ⊎ (kind ≡ kinds.Old)
    → (slice_index (contract_spelling kind ++ rest) 0 ≡ 92) × (slice_index (contract_spelling kind ++ rest) 1 ≡ 117 → ⊥)
unfolding contract_spelling
token_bytes kind rest (inl e) = rw e (refl, λ z. absurd (omega (arith, z)))
token_bytes kind rest (inr e) = rw e (refl, λ z. absurd (omega (arith, z)))

pub here_first : (text part rest : List ℕ) (kind : Kind) → text ≡ part ++ rest → IsContractToken kind part → (slice_index text 0 ≡ 92) × (slice_index text 1 ≡ 117 → ⊥)
here_first text part rest kind e t =
    let z : text ≡ contract_spelling kind ++ rest = e ∙ ap (λ x. x ++ rest) t.spelled in
    let b = token_bytes kind rest t.one_of in
    (ap (λ x. slice_index x 0) z ∙ b.0, λ u. b.1 (sym (ap (λ x. slice_index x 1) z) ∙ u))

pub spelled_some : (kind : Kind) → (kind ≡ kinds.Result) ⊎ (kind ≡ kinds.Old) → 0 < length (contract_spelling kind)
unfolding contract_spelling
spelled_some kind (inl e) = rw e (omega arith)
spelled_some kind (inr e) = rw e (omega arith)

pub contract_token_some : (kind : Kind) (part : List ℕ) → IsContractToken kind part → 0 < length part
contract_token_some kind part t = omega (arith, ap length t.spelled, spelled_some kind t.one_of)

token_ascii : (kind : Kind) → (kind ≡ kinds.Result) ⊎ (kind ≡ kinds.Old) → all_ascii (contract_spelling kind) ≡ true
unfolding contract_spelling
token_ascii kind (inl e) = rw e refl
token_ascii kind (inr e) = rw e refl

pub contract_token_utf8 : (kind : Kind) (part : List ℕ) → IsContractToken kind part → IsUtf8 part
contract_token_utf8 kind part t = rw t.spelled (IsUtf8-from_ascii (contract_spelling kind) (ascii_at (contract_spelling kind) (token_ascii kind t.one_of)))

result_second : (rest : List ℕ) → slice_index (contract_spelling kinds.Result ++ rest) 1 ≡ 114
unfolding contract_spelling
result_second rest = refl

old_second : (rest : List ℕ) → slice_index (contract_spelling kinds.Old ++ rest) 1 ≡ 111
unfolding contract_spelling
old_second rest = refl

-- their second bytes differ
same_spelled : (a b : Kind) (r q : List ℕ) → (a ≡ kinds.Result) ⊎ (a ≡ kinds.Old) → (b ≡ kinds.Result) ⊎ (b ≡ kinds.Old) → contract_spelling a ++ r ≡ contract_spelling b ++ q → a ≡ b
same_spelled a b r q (inl e) (inl f) z = e ∙ sym f
same_spelled a b r q (inr e) (inr f) z = e ∙ sym f
same_spelled a b r q (inl e) (inr f) z =
    let y : contract_spelling kinds.Result ++ r ≡ contract_spelling kinds.Old ++ q = rw (e, f) at z in
    absurd (omega (arith, result_second r, old_second q, ap (λ t. slice_index t 1) y))
same_spelled a b r q (inr e) (inl f) z =
    let y : contract_spelling kinds.Old ++ r ≡ contract_spelling kinds.Result ++ q = rw (e, f) at z in
    absurd (omega (arith, old_second r, result_second q, ap (λ t. slice_index t 1) y))

pub same_contract_token : (a b : Kind) (s t r q : List ℕ) → s ++ r ≡ t ++ q → IsContractToken a s → IsContractToken b t → a ≡ b
same_contract_token a b s t r q e g h =
    let z : contract_spelling a ++ r ≡ contract_spelling b ++ q = ap (λ x. x ++ r) (sym g.spelled) ∙ (e ∙ ap (λ x. x ++ q) h.spelled) in
    same_spelled a b r q g.one_of h.one_of z
