-- The cuts whose texts begin with the bytes consumed so far.
use Rattle.std.proofs.Common.{◌≡◌, ℕ, zero, suc, ◌+◌, ◌^◌, ◌<◌, ◌≤◌, ◌⊎◌, inl, inr, List, [], ◌∷◌, ◌++◌, length, take, refl, sym, ap, ◌∙◌, subst, arith, decimal, append_assoc, append-nil, length-append, drop}
use Rattle.std.proofs.lemmas.List.{take-take, take-append-drop, take-append-le, take_all, length-take}
use Rattle.std.proofs.Math.Seq.{take-length}
use Rattle.std.proofs.lemmas.Grind.{flat_map-append}
use Rattle.std.specs.Prelude.{flat_map, Some, None, Option, Ok, Err, All, IfSome}
use Rattle.kr_base.specs.declared.cut.reading.CutRefusal.TheVariants.{Malformed, TooLong, NoMemory}
use Rattle.kr_base.specs.Cuts.{dotted, cut_text}
use Rattle.kr_base.specs.Parsing.{IsTextOf, Begins, IsFault, OneReading, RoundTrip}
use Rattle.kr_base.specs.Stages.{ended, begun_text, text_so_far, IsAt}
use Rattle.kr_base.proofs.Digits.{some_digit, same_dotted, same_ended}

-- all numbers are below 2^32
abbrev pub Small : List ℕ → Type 0
Small ns = All (λ k. k < 2 ^ 32) ns

pub head_small : (n : ℕ) (ns : List ℕ) → Small (n ∷ ns) → n < 2 ^ 32
head_small n ns h = h 0 0 (omega arith)

pub tail_small : (n : ℕ) (ns : List ℕ) → Small (n ∷ ns) → Small ns
tail_small n ns h = λ k d l. h (suc k) d (omega arith)

pub cons_small : (n : ℕ) (ns : List ℕ) → n < 2 ^ 32 → Small ns → Small (n ∷ ns)
cons_small n ns h rest zero d l = h
cons_small n ns h rest (suc k) d l = rest k d (omega arith)

pub none_small : Small []
none_small = λ k d l. absurd (omega arith)

-- the text after the complete numbers
dotted-ended : (done : List ℕ) (n : ℕ) (later : List ℕ) → flat_map dotted (done ++ n ∷ later) ≡ 46 ∷ (flat_map ended done ++ (decimal n ++ flat_map dotted later))
dotted-ended [] n later = refl
dotted-ended (m ∷ done) n later =
    let rest : flat_map dotted (done ++ n ∷ later) ≡ 46 ∷ (flat_map ended done ++ (decimal n ++ flat_map dotted later)) = dotted-ended done n later in
    ap (λ (t : List ℕ). (46 ∷ decimal m) ++ t) rest
    ∙ ap (λ (t : List ℕ). 46 ∷ t) (sym (append_assoc (decimal m) (46 ∷ []) (flat_map ended done ++ (decimal n ++ flat_map dotted later))) ∙ sym (append_assoc (decimal m ++ 46 ∷ []) (flat_map ended done) (decimal n ++ flat_map dotted later)))

text-ended : (done : List ℕ) (n : ℕ) (later : List ℕ) → cut_text (done ++ n ∷ later) ≡ flat_map ended done ++ (decimal n ++ flat_map dotted later)
text-ended [] n later = refl
text-ended (m ∷ done) n later =
    ap (λ (t : List ℕ). decimal m ++ t) (dotted-ended done n later)
    ∙ (sym (append_assoc (decimal m) (46 ∷ []) (flat_map ended done ++ (decimal n ++ flat_map dotted later))) ∙ sym (append_assoc (decimal m ++ 46 ∷ []) (flat_map ended done) (decimal n ++ flat_map dotted later)))

-- A text that begins with numbers and their dots continues with a number.
GoesOn : List ℕ → Type 0
GoesOn x = (n : ℕ) × (later : List ℕ) × (n < 2 ^ 32) × (x ≡ decimal n ++ flat_map dotted later)

peeled : (done x : List ℕ) (n : ℕ) (later : List ℕ) → Small done → n < 2 ^ 32 → Small later → flat_map ended done ++ x ≡ decimal n ++ flat_map dotted later → GoesOn x
unfolding GoesOn
peeled [] x n later d small smaller h = (n, later, small, h)
peeled (m ∷ done) x n later d small smaller h =
    let regrouped : decimal m ++ 46 ∷ (flat_map ended done ++ x) ≡ decimal n ++ flat_map dotted later =
    sym (append_assoc (decimal m ++ 46 ∷ []) (flat_map ended done) x ∙ append_assoc (decimal m) (46 ∷ []) (flat_map ended done ++ x)) ∙ h in
    go later smaller ((same_ended m n (flat_map ended done ++ x) later (head_small m done d) small regrouped).1) (peeled done x)
  where
    go : (later : List ℕ) → Small later → 46 ∷ (flat_map ended done ++ x) ≡ flat_map dotted later
        → ((k : ℕ) (ks : List ℕ) → Small done → k < 2 ^ 32 → Small ks → flat_map ended done ++ x ≡ decimal k ++ flat_map dotted ks → GoesOn x) → GoesOn x
    go [] s e more = absurd (cc (e))
    go (k ∷ ks) s e more = more k ks (tail_small m done d) (head_small k ks s) (tail_small k ks s) (cc)

peel : (done x numbers : List ℕ) → Small done → 0 < length numbers → Small numbers → flat_map ended done ++ x ≡ cut_text numbers → GoesOn x
peel done x [] d some small h = absurd (omega arith)
peel done x (n ∷ later) d some small h = peeled done x n later d (head_small n later small) (tail_small n later small) h

pub small-append : (done : List ℕ) (n : ℕ) → Small done → n < 2 ^ 32 → Small (done ++ n ∷ [])
small-append [] n d h = cons_small n [] h none_small
small-append (m ∷ done) n d h = cons_small m (done ++ n ∷ []) (head_small m done d) (small-append done n (tail_small m done d) h)

some-append : (done : List ℕ) (n : ℕ) → 0 < length (done ++ n ∷ [])
some-append [] n = omega arith
some-append (m ∷ done) n = omega arith

pub text_at_end : (text done : List ℕ) (n : ℕ) → Small done → n < 2 ^ 32 → text ≡ text_so_far done (Some n) → IsTextOf (done ++ n ∷ []) text
text_at_end text done n d h e = record {
  some = some-append done n;
  small = small-append done n d h;
  text = e ∙ sym (text-ended done n [] ∙ ap (λ (t : List ℕ). flat_map ended done ++ t) (append-nil (decimal n)));
}

pub begins : (front done : List ℕ) (begun : Option ℕ) → Small done → IfSome begun (λ n. n < 2 ^ 32) → front ≡ text_so_far done begun → Begins front
begins front done (Some n) d h e = (done ++ n ∷ [], [], text_at_end (front ++ []) done n d h (append-nil front ∙ e))
begins front done None d h e =
    (done ++ 0 ∷ [], decimal 0, text_at_end (front ++ decimal 0) done 0 d (omega arith) (ap (λ (t : List ℕ). t ++ decimal 0) (e ∙ append-nil (flat_map ended done))))

pub dead_byte : (front done : List ℕ) (begun : Option ℕ) (b : ℕ) → Small done → front ≡ text_so_far done begun
    → ((n : ℕ) (later rest : List ℕ) → n < 2 ^ 32 → begun_text begun ++ b ∷ rest ≡ decimal n ++ flat_map dotted later → ⊥) → Begins (front ++ b ∷ []) → ⊥
unfolding GoesOn
dead_byte front done begun b d e refuses (numbers, rest, is) =
    let regrouped : flat_map ended done ++ (begun_text begun ++ b ∷ rest) ≡ cut_text numbers =
    sym (append_assoc front (b ∷ []) rest ∙ (ap (λ (t : List ℕ). t ++ b ∷ rest) e ∙ append_assoc (flat_map ended done) (begun_text begun) (b ∷ rest))) ∙ is.text in
    let on : GoesOn (begun_text begun ++ b ∷ rest) = peel done (begun_text begun ++ b ∷ rest) numbers d is.some is.small regrouped in
    refuses on.0 on.1 rest on.2 on.3

pub early : (text done numbers : List ℕ) → Small done → text ≡ text_so_far done None → IsTextOf numbers text → ⊥
unfolding GoesOn
early text done numbers d e is =
    let on : GoesOn [] = peel done [] numbers d is.some is.small (sym e ∙ is.text) in
    no_text (decimal on.0) (flat_map dotted on.1) (some_digit on.0 on.2) on.3
  where
    no_text : (ds x : List ℕ) → 0 < length ds → [] ≡ ds ++ x → ⊥
    no_text [] x some h = omega arith
    no_text (c ∷ ds) x some h = cc

-- the text is longer than the count of complete numbers
pub fewer : (done : List ℕ) → length done ≤ length (flat_map ended done)
fewer [] = omega arith
fewer (n ∷ done) = let rest : length done ≤ length (flat_map ended done) = fewer done in omega (arith, length-append (decimal n ++ 46 ∷ []) (flat_map ended done), length-append (decimal n) (46 ∷ []))

-- ---- uniqueness

same_later : (a b : List ℕ) → Small a → Small b → flat_map dotted a ≡ flat_map dotted b → a ≡ b
same_later [] [] d e h = refl
same_later [] (n ∷ b) d e h = absurd (cc (h))
same_later (m ∷ a) [] d e h = absurd (cc (h))
same_later (m ∷ a) (n ∷ b) d e h =
    let both : (m ≡ n) × (flat_map dotted a ≡ flat_map dotted b) = same_dotted m n a b (head_small m a d) (head_small n b e) (cc) in
    let first : m ≡ n = both.0 in
    let rest : a ≡ b = same_later a b (tail_small m a d) (tail_small n b e) both.1 in
    cc

pub one_cut : (a b text : List ℕ) → IsTextOf a text → IsTextOf b text → a ≡ b
one_cut [] b text p q = absurd (let h : 0 < 0 = p.some in omega arith)
one_cut (m ∷ a) [] text p q = absurd (let h : 0 < 0 = q.some in omega arith)
one_cut (m ∷ a) (n ∷ b) text p q =
    let both : (m ≡ n) × (flat_map dotted a ≡ flat_map dotted b) = same_dotted m n a b (head_small m a p.small) (head_small n b q.small) (sym p.text ∙ q.text) in
    let first : m ≡ n = both.0 in
    let rest : a ≡ b = same_later a b (tail_small m a p.small) (tail_small n b q.small) both.1 in
    cc

fewer-front : (text : List ℕ) (i j : ℕ) → i ≤ j → take j text ≡ take i text ++ drop i (take j text)
fewer-front text i j l = sym (take-append-drop i (take j text)) ∙ ap (λ (t : List ℕ). t ++ drop i (take j text)) (take-take i j text l)

-- prefixes of a prefix of a cut's text
begins_before : (front more : List ℕ) → Begins (front ++ more) → Begins front
begins_before front more (numbers, rest, is) = (numbers, more ++ rest, record { some = is.some; small = is.small; text = sym (append_assoc front more rest) ∙ is.text })

begins_less : (text : List ℕ) (i j : ℕ) → i ≤ j → Begins (take j text) → Begins (take i text)
begins_less text i j l h = begins_before (take i text) (drop i (take j text)) (subst Begins (fewer-front text i j l) h)

begins_text : (text numbers : List ℕ) (i : ℕ) → IsTextOf numbers text → Begins (take i text)
begins_text text numbers i is = (numbers, drop i text, record { some = is.some; small = is.small; text = take-append-drop i text ∙ is.text })

-- a cut's text has no fault
pub no_fault : (text numbers : List ℕ) (at : ℕ) → IsTextOf numbers text → IsFault text at → ⊥
no_fault text numbers at is fault = elim fault.here [
  | inl h ↦ h.1 (begins_text text numbers (at + 1) is)
  | inr h ↦ h.1 numbers is
]

not_before : (text : List ℕ) (at later : ℕ) → IsFault text at → IsFault text later → at < later → ⊥
not_before text at later fault next l = elim fault.here [
  | inl h ↦ h.1 (begins_less text (at + 1) later (omega arith) next.before)
  | inr h ↦ elim next.here [ inl g ↦ (let a : at ≡ length text = h.0 in let b : later < length text = g.0 in omega arith) | inr g ↦ (let a : at ≡ length text = h.0 in let b : later ≡ length text = g.0 in omega arith) ]
]

pub one_fault : (text : List ℕ) (at later : ℕ) → IsFault text at → IsFault text later → at ≡ later
one_fault text at later fault next = elim (trichotomy at later) [
  | inl h ↦ absurd (not_before text at later fault next h)
  | inr h ↦ elim h [ inl e ↦ e | inr g ↦ absurd (not_before text later at next fault g) ]
]
  where
    trichotomy : (a b : ℕ) → (a < b) ⊎ ((a ≡ b) ⊎ (b < a))
    trichotomy a b = grind arith

-- ---- one byte

pub next_dot : (front done : List ℕ) (begun : Option ℕ) (kept new : List ℕ) (count n byte : ℕ) → begun ≡ Some n → byte ≡ 46 → n < 2 ^ 32 → (kept ≡ take 4096 done → new ≡ take 4096 (done ++ n ∷ [])) → IsAt front done begun kept count
    → IsAt (front ++ byte ∷ []) (done ++ n ∷ []) None new (count + 1)
next_dot front done begun kept new count n byte is dot small keeps at = record {
  small = small-append done n at.small small;
  fits = tt;
  text = text_is;
  kept_is = keeps at.kept_is;
  count_is = omega (arith, at.count_is, length-append done (n ∷ []));
}
  where
    ended-more : flat_map ended (done ++ n ∷ []) ≡ flat_map ended done ++ (decimal n ++ 46 ∷ [])
    ended-more = flat_map-append ended done (n ∷ []) ∙ ap (λ (t : List ℕ). flat_map ended done ++ t) (append-nil (decimal n ++ 46 ∷ []))

    text_is : front ++ byte ∷ [] ≡ flat_map ended (done ++ n ∷ []) ++ []
    text_is =
        let start : front ≡ flat_map ended done ++ decimal n = at.text ∙ ap (λ (b : Option ℕ). flat_map ended done ++ begun_text b) is in
        ap (λ (t : List ℕ). t ++ byte ∷ []) start ∙ (append_assoc (flat_map ended done) (decimal n) (byte ∷ []) ∙ (ap (λ (b : ℕ). flat_map ended done ++ (decimal n ++ b ∷ [])) dot ∙ (sym ended-more ∙ sym (append-nil (flat_map ended (done ++ n ∷ []))))))

pub fault_here : (text done : List ℕ) (begun : Option ℕ) (kept : List ℕ) (count at : ℕ) → at < length text → IsAt (take at text) done begun kept count → (Begins (take (at + 1) text) → ⊥) → IsFault text at
fault_here text done begun kept count at l is dead = record {
  before = begins (take at text) done begun is.small is.fits is.text;
  here = inl (l, dead);
}

pub fault_at_end : (text done kept : List ℕ) (count : ℕ) → IsAt text done None kept count → IsFault text (length text)
fault_at_end text done kept count is = record {
  before = subst Begins (sym (take-length text)) (begins text done None is.small is.fits is.text);
  here = inr (refl, λ numbers. early text done numbers is.small is.text);
}

pub few_numbers : (front done : List ℕ) (begun : Option ℕ) (kept : List ℕ) (count : ℕ) → IsAt front done begun kept count → count ≤ length front
few_numbers front done begun kept count is =
    omega (arith, is.count_is, fewer done, ap length is.text, length-append (flat_map ended done) (begun_text begun))

pub cut_at_end : (text done kept : List ℕ) (last count : ℕ) → last < 2 ^ 32 → IsAt text done (Some last) kept count → IsTextOf (done ++ last ∷ []) text × (length (done ++ last ∷ []) ≡ count + 1)
cut_at_end text done kept last count small is = (text_at_end text done last is.small small is.text, omega (arith, is.count_is, length-append done (last ∷ [])))

-- ---- the first 4,096 numbers are kept

pub keeps_front : (kept done : List ℕ) (n : ℕ) → kept ≡ take 4096 done → 4096 ≤ length kept → kept ≡ take 4096 (done ++ n ∷ [])
keeps_front kept done n is full =
    let long : 4096 ≤ length done = omega (arith, ap length is, length-take 4096 done) in
    is ∙ sym (take-append-le 4096 done (n ∷ []) long)

pub keeps_more : (kept done : List ℕ) (n : ℕ) → kept ≡ take 4096 done → length kept < 4096 → kept ++ n ∷ [] ≡ take 4096 (done ++ n ∷ [])
keeps_more kept done n is room =
    let short : length done < 4096 = omega (arith, ap length is, length-take 4096 done) in
    let all : take 4096 done ≡ done = take_all 4096 done (omega arith) in
    ap (λ (t : List ℕ). t ++ n ∷ []) (is ∙ all) ∙ sym (take_all 4096 (done ++ n ∷ []) (omega (arith, length-append done (n ∷ []))))

pub fits_in : (front done : List ℕ) (begun : Option ℕ) (kept : List ℕ) (count n : ℕ) → IsAt front done begun kept count → begun ≡ Some n → n < 2 ^ 32
fits_in front done begun kept count n is e = subst (λ (b : Option ℕ). IfSome b (λ k. k < 2 ^ 32)) e is.fits

-- ---- the end of the text

pub too_many : (text done kept : List ℕ) (last count : ℕ) → last < 2 ^ 32 → IsAt text done (Some last) kept count → 4096 ≤ count
    → (numbers : List ℕ) × IsTextOf numbers text × (length numbers ≡ count + 1) × (4096 < count + 1)
too_many text done kept last count small is many =
    let end : IsTextOf (done ++ last ∷ []) text × (length (done ++ last ∷ []) ≡ count + 1) = cut_at_end text done kept last count small is in
    (done ++ last ∷ [], end.0, end.1, omega arith)

pub whole : (text done kept new : List ℕ) (last count : ℕ) → last < 2 ^ 32 → IsAt text done (Some last) kept count → count < 4096 → (kept ≡ take 4096 done → new ≡ take 4096 (done ++ last ∷ []))
    → IsTextOf new text × (length new ≤ 4096)
whole text done kept new last count small is few keeps =
    let end : IsTextOf (done ++ last ∷ []) text × (length (done ++ last ∷ []) ≡ count + 1) = cut_at_end text done kept last count small is in
    let short : length (done ++ last ∷ []) ≤ 4096 = omega (arith, end.1) in
    let all : done ++ last ∷ [] ≡ new = sym (keeps is.kept_is ∙ take_all 4096 (done ++ last ∷ []) short) in
    subst (λ (t : List ℕ). IsTextOf t text × (length t ≤ 4096)) all (end.0, short)

-- ---- the theorems

pub one_reading : OneReading
one_reading text (Ok a) (Ok b) p q more also = ap Ok (one_cut a b text p.0 q.0)
one_reading text (Ok a) (Err (Malformed at)) p q more also = absurd (no_fault text a at p.0 q)
one_reading text (Ok a) (Err (TooLong n)) p q more also =
    absurd (let same : length a ≡ length q.0 = ap length (one_cut a q.0 text p.0 q.1) in let few : length a ≤ 4096 = p.1 in let long : length q.0 ≡ n = q.2 in let many : 4096 < n = q.3 in omega arith)
one_reading text r (Err (NoMemory _)) p q more also = absurd also
one_reading text (Err (NoMemory _)) s p q more also = absurd more
one_reading text (Err (Malformed at)) (Ok b) p q more also = absurd (no_fault text b at q.0 p)
one_reading text (Err (Malformed at)) (Err (Malformed later)) p q more also = ap (λ (k : ℕ). Err (Malformed k)) (one_fault text at later p q)
one_reading text (Err (Malformed at)) (Err (TooLong n)) p q more also = absurd (no_fault text q.0 at q.1 p)
one_reading text (Err (TooLong n)) (Ok b) p q more also =
    absurd (let same : length b ≡ length p.0 = ap length (one_cut b p.0 text q.0 p.1) in let few : length b ≤ 4096 = q.1 in let long : length p.0 ≡ n = p.2 in let many : 4096 < n = p.3 in omega arith)
one_reading text (Err (TooLong n)) (Err (Malformed at)) p q more also = absurd (no_fault text p.0 at p.1 q)
one_reading text (Err (TooLong n)) (Err (TooLong m)) p q more also =
    let same : length p.0 ≡ length q.0 = ap length (one_cut p.0 q.0 text p.1 q.1) in
    let counts : n ≡ m = sym p.2 ∙ (same ∙ q.2) in
    ap (λ (k : ℕ). Err (TooLong k)) counts

pub round_trip : RoundTrip
round_trip numbers r some few small p more = one_reading (cut_text numbers) r (Ok numbers) p (record { some = some; small = small; text = refl }, few) more tt
