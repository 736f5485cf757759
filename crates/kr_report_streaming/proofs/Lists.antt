-- Lists of lines.
use Rattle.std.proofs.Common.{◌≡◌, ℕ, zero, suc, ◌+◌, ◌-◌, ◌≤◌, ◌<◌, List, [], ◌∷◌, ◌++◌, Bool, true, false, length, take, drop, get_or, append_assoc, append-nil, refl, sym, ap, ◌∙◌, arith, length-append}
use Rattle.std.specs.Prelude.{if◌then◌else◌}
use mir.Val.{bool_byte}
use Rattle.std.proofs.lemmas.List.{map-append, take_more, take-append-drop}
use Rattle.std.proofs.lemmas.Grind.{flat_map-append}
use Rattle.kr_report.specs.Reports.{lines}
use Rattle.kr_report_streaming.specs.Lines.{failing_lines, last_of, texts}
use Rattle.kr_report_streaming.specs.declared.row_line.RowLine.{RowLine}

minus_none : (n : ℕ) → n ≡ n - 0
minus_none n = omega arith

pub take_few : {A : Type 0} (n : ℕ) (a b : List A) → length a ≤ n → take n (a ++ b) ≡ a ++ take (n - length a) b
take_few {A} n [] b h = ap (λ m. take m b) (minus_none n)
take_few zero (x ∷ a) b h = absurd (omega (arith, h))
take_few (suc n) (x ∷ a) b h = ap (λ l. x ∷ l) (take_few n a b (omega (arith, h))) ∙ ap (λ m. x ∷ (a ++ take m b)) (omega arith)

pub take_both : {A : Type 0} (m n : ℕ) (xs : List A) → take m (take n xs) ≡ take n (take m xs)
take_both zero zero xs = refl
take_both zero (suc n) xs = refl
take_both (suc m) zero xs = refl
take_both (suc m) (suc n) [] = refl
take_both (suc m) (suc n) (x ∷ xs) = ap (λ l. x ∷ l) (take_both m n xs)

pub take_less : {A : Type 0} (m n : ℕ) (xs : List A) → m < length (take n xs) → take m (take n xs) ≡ take m xs
take_less zero n xs h = refl
take_less (suc m) zero xs h = absurd (omega (arith, h))
take_less (suc m) (suc n) [] h = refl
take_less (suc m) (suc n) (x ∷ xs) h = ap (λ l. x ∷ l) (take_less m n xs (omega (arith, h)))

pub length_less : {A : Type 0} (n : ℕ) (xs : List A) → length (take n xs) ≤ length xs
length_less zero xs = omega arith
length_less (suc n) [] = omega arith
length_less (suc n) (x ∷ xs) = omega (arith, length_less n xs)

pub take_texts : (n : ℕ) (ls : List RowLine) → texts (take n ls) ≡ take n (texts ls)
take_texts zero ls = refl
take_texts (suc n) [] = refl
take_texts (suc n) (l ∷ ls) = ap (λ ts. l.text ∷ ts) (take_texts n ls)

failing_one : (b : Bool) (l : RowLine) (xs ys : List RowLine) → (if b then l ∷ (xs ++ ys) else xs ++ ys) ≡ (if b then l ∷ xs else xs) ++ ys
failing_one true l xs ys = refl
failing_one false l xs ys = refl

pub failing_both : (xs ys : List RowLine) → failing_lines (xs ++ ys) ≡ failing_lines xs ++ failing_lines ys
failing_both [] ys = refl
failing_both (l ∷ xs) ys = ap (λ (ls : List RowLine). if l.failing then l ∷ ls else ls) (failing_both xs ys) ∙ failing_one l.failing l (failing_lines xs) (failing_lines ys)

pub failing_number : (b : Bool) (l : RowLine) → length (let ls : List RowLine = if b then l ∷ [] else [] in ls) ≡ bool_byte b
failing_number true l = refl
failing_number false l = refl

pub last_both : (key : List ℕ) (xs ys : List RowLine) → last_of key (xs ++ ys) ≡ last_of (last_of key xs) ys
last_both key [] ys = refl
last_both key (l ∷ xs) ys = last_both l.key xs ys

pub lines_both : (xs ys : List RowLine) → lines (texts (xs ++ ys)) ≡ lines (texts xs) ++ lines (texts ys)
lines_both xs ys = ap lines (map-append (λ (l : RowLine). l.text) xs ys) ∙ flat_map-append (λ (row : List ℕ). row) (texts xs) (texts ys)

pub front_more : {A : Type 0} (xs : List A) (i : ℕ) (x : A) → i < length xs → x ≡ get_or xs i x → take (i + 1) xs ≡ take i xs ++ x ∷ []
front_more xs i x h is = take_more xs i x h ∙ ap (λ y. take i xs ++ y ∷ []) (sym is)

-- lines up to one, its text, and those after it
pub lines_from : (xs : List RowLine) (i : ℕ) (row : RowLine) (text : List ℕ) → i < length xs → row ≡ get_or xs i row → text ≡ row.text → lines (texts xs) ≡ (lines (texts (take i xs)) ++ text) ++ lines (texts (drop (i + 1) xs))
lines_from xs i row text h is e =
    let front : take (i + 1) xs ≡ take i xs ++ row ∷ [] = front_more xs i row h is in
    let one : lines (texts (take i xs ++ row ∷ [])) ≡ lines (texts (take i xs)) ++ text = lines_both (take i xs) (row ∷ []) ∙ ap (λ t. lines (texts (take i xs)) ++ t) (append-nil row.text ∙ sym e) in
    ap (λ (l : List RowLine). lines (texts l)) (sym (take-append-drop (i + 1) xs))
    ∙ (lines_both (take (i + 1) xs) (drop (i + 1) xs) ∙ ap (λ t. t ++ lines (texts (drop (i + 1) xs))) (ap (λ (l : List RowLine). lines (texts l)) front ∙ one))

-- a run more of what is left
pub run_more : (all front rest run left : List RowLine) → all ≡ front ++ rest → rest ≡ run ++ left → all ≡ (front ++ run) ++ left
run_more all front rest run left e f = e ∙ (ap (λ ls. front ++ ls) f ∙ sym (append_assoc front run left))

pub lines_run : (all front run left : List RowLine) → all ≡ (front ++ run) ++ left → lines (texts all) ≡ (lines (texts front) ++ lines (texts run)) ++ lines (texts left)
lines_run all front run left e = ap (λ (l : List RowLine). lines (texts l)) e ∙ (lines_both (front ++ run) left ∙ ap (λ t. t ++ lines (texts left)) (lines_both front run))

-- one that fails, or none
pub one_most : (b : Bool) → bool_byte b ≤ 1
one_most true = omega arith
one_most false = omega arith

pub failing_more : (ls : List RowLine) (l : RowLine) (n : ℕ) → n ≡ bool_byte l.failing → length (failing_lines (ls ++ l ∷ [])) ≡ length (failing_lines ls) + n
failing_more ls l n e =
    let both = ap length (failing_both ls (l ∷ [])) in
    let long = length-append (failing_lines ls) (failing_lines (l ∷ [])) in
    omega (arith, both, long, failing_number l.failing l, e)
