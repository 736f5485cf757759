-- Texts added to a line, one after another.
use Rattle.std.proofs.Common.{◌≡◌, ℕ, ◌+◌, ◌<◌, ◌≤◌, List, [], ◌++◌, length, take, get_or, refl, sym, ap, ◌∙◌, append_assoc, append-nil}
use Rattle.std.specs.Prelude.{OnOk, Result, Ok, Err, codes, flat_map}
use Rattle.std.proofs.lemmas.List.{take_all}
use Rattle.kr_base.proofs.Added.{flat_step}
use Rattle.kr_emit.specs.Makings.{head_text}
use Rattle.kr_emit_meaning.specs.Builders.{assigned_text}

-- a text after another
pub then_added : (old mid new s t text : List ℕ) → mid ≡ old ++ s → new ≡ mid ++ t → text ≡ s ++ t → new ≡ old ++ text
then_added old mid new s t text e n f = n ∙ (ap (λ (l : List ℕ). l ++ t) e ∙ (append_assoc old s t ∙ ap (λ (l : List ℕ). old ++ l) (sym f)))

-- the same by a call that may be refused memory
pub line_then : {T E : Type 0} (r : Result T E) (old mid new s t text : List ℕ) → mid ≡ old ++ s → OnOk r (new ≡ mid ++ t) → text ≡ s ++ t → OnOk r (new ≡ old ++ text)
line_then (Ok v) old mid new s t text e n f = then_added old mid new s t text e n f
line_then (Err x) old mid new s t text e n f = tt

-- a text that is another
pub line_as : {T E : Type 0} (r : Result T E) (old new t text : List ℕ) → OnOk r (new ≡ old ++ t) → text ≡ t → OnOk r (new ≡ old ++ text)
line_as (Ok v) old new t text n f = n ∙ ap (λ (l : List ℕ). old ++ l) (sym f)
line_as (Err x) old new t text n f = tt

module _ {X : Type 0} (f : X → List ℕ) (xs : List X) where
  -- the text of one item more
  pub item_added : (i : ℕ) (d : X) (old mid new here : List ℕ) → i < length xs → mid ≡ old ++ flat_map f (take i xs) → new ≡ mid ++ here → here ≡ f (get_or xs i d) → new ≡ old ++ flat_map f (take (i + 1) xs)
  item_added i d old mid new here l m n h = n ∙ flat_step f old mid here xs i d l m h

  -- those of all items
  pub all_added : (n : ℕ) (old now : List ℕ) → length xs ≤ n → now ≡ old ++ flat_map f (take n xs) → now ≡ old ++ flat_map f xs
  all_added n old now l e = e ∙ ap (λ (ys : List X). old ++ flat_map f ys) (take_all n xs l)

-- ---- the texts of statements, in steps

head_same : (a o d n b s l w : List ℕ) → a ++ (o ++ (d ++ n)) ++ b ++ s ++ l ++ w ++ (o ++ (d ++ n)) ≡ (a ++ (o ++ (d ++ (n ++ (b ++ (s ++ []))))) ++ l) ++ (w ++ (o ++ (d ++ (n ++ []))))
head_same a o d n b s l w = simp (append_assoc, append-nil)

-- `T name = new T`
pub head_added : {T E : Type 0} (r : Result T E) (old one two new outer dot name brackets local : List ℕ) → one ≡ old ++ (codes "    " ++ (outer ++ (dot ++ (name ++ (brackets ++ (codes " " ++ []))))))
    → two ≡ one ++ local → OnOk r (new ≡ two ++ (codes " = new " ++ (outer ++ (dot ++ (name ++ []))))) → OnOk r (new ≡ old ++ head_text (outer ++ (dot ++ name)) brackets local)
head_added r old one two new outer dot name brackets local e f g =
    let first = codes "    " ++ (outer ++ (dot ++ (name ++ (brackets ++ (codes " " ++ []))))) in
    let last = codes " = new " ++ (outer ++ (dot ++ (name ++ []))) in
    line_then r old two new (first ++ local) last (head_text (outer ++ (dot ++ name)) brackets local) (then_added old one two first local (first ++ local) e f refl) g
    (head_same (codes "    ") outer dot name brackets (codes " ") local (codes " = new "))

array_same : (h a l b e : List ℕ) → h ++ (a ++ l ++ b) ++ e ≡ (h ++ a ++ l) ++ (b ++ e)
array_same h a l b e = simp append_assoc

-- the creation of an array
pub array_added : {T E : Type 0} (r : Result T E) (old one two three new head long : List ℕ) → one ≡ old ++ head → two ≡ one ++ codes "[" → three ≡ two ++ long → OnOk r (new ≡ three ++ codes "];\n")
    → OnOk r (new ≡ old ++ (head ++ (codes "[" ++ long ++ codes "]") ++ codes ";\n"))
array_added r old one two three new head long e f g h =
    let opened = then_added old one two head (codes "[") (head ++ codes "[") e f refl in
    line_then r old three new (head ++ codes "[" ++ long) (codes "];\n") (head ++ (codes "[" ++ long ++ codes "]") ++ codes ";\n") (then_added old two three (head ++ codes "[") long (head ++ codes "[" ++ long) opened g refl) h
    (array_same head (codes "[") long (codes "]") (codes ";\n"))

-- what is set at a spot
pub assigned_added : {T E : Type 0} (r : Result T E) (old one two three four new name spot piece value : List ℕ) → piece ≡ spot ++ codes " = " → one ≡ old ++ codes "    " → two ≡ one ++ name → three ≡ two ++ piece → four ≡ three ++ value
    → OnOk r (new ≡ four ++ codes ";\n") → OnOk r (new ≡ old ++ assigned_text name spot value)
assigned_added r old one two three four new name spot piece value is e f g h last =
    let begun = codes "    " ++ name in
    let named = then_added old one two (codes "    ") name begun e f refl in
    let placed = then_added old two three begun piece (begun ++ piece) named g refl in
    line_then r old four new (begun ++ piece ++ value) (codes ";\n") (assigned_text name spot value) (then_added old three four (begun ++ piece) value (begun ++ piece ++ value) placed h refl) last
    (ap (λ (t : List ℕ). t ++ value ++ codes ";\n") (append_assoc begun spot (codes " = ") ∙ ap (λ (t : List ℕ). begun ++ t) (sym is)))

front_same : (a k s o d n b : List ℕ) → a ++ k ++ s ++ (o ++ (d ++ n)) ++ b ≡ (a ++ k) ++ (s ++ (o ++ (d ++ (n ++ (b ++ [])))))
front_same a k s o d n b = simp (append_assoc, append-nil)

-- what comes before a builder's number
pub front_added : {T E : Type 0} (r : Result T E) (old one two new key outer dot name : List ℕ) → one ≡ old ++ codes "  // " → two ≡ one ++ key → OnOk r (new ≡ two ++ (codes "\n  static " ++ (outer ++ (dot ++ (name ++ (codes " b" ++ []))))))
    → OnOk r (new ≡ old ++ (codes "  // " ++ key ++ codes "\n  static " ++ (outer ++ (dot ++ name)) ++ codes " b"))
front_added r old one two new key outer dot name e f g =
    line_then r old two new (codes "  // " ++ key) (codes "\n  static " ++ (outer ++ (dot ++ (name ++ (codes " b" ++ []))))) (codes "  // " ++ key ++ codes "\n  static " ++ (outer ++ (dot ++ name)) ++ codes " b")
    (then_added old one two (codes "  // ") key (codes "  // " ++ key) e f refl) g (front_same (codes "  // ") key (codes "\n  static ") outer dot name (codes " b"))

-- three texts
pub three_added : {T E : Type 0} (r : Result T E) (old one two new a b c : List ℕ) → one ≡ old ++ a → two ≡ one ++ b → OnOk r (new ≡ two ++ c) → OnOk r (new ≡ old ++ (a ++ b ++ c))
three_added r old one two new a b c e f g = line_then r old two new (a ++ b) c (a ++ b ++ c) (then_added old one two a b (a ++ b) e f refl) g refl
