-- What is said of entries is said of those with their rows made into others.
use Rattle.std.proofs.Common.{◌≡◌, ◌≤◌, ◌+◌, ℕ, List, [], ◌∷◌, ◌++◌, Bool, true, false, ◌||◌, cond, length, take, map, refl, sym, ap, ◌∙◌, ◌==◌, arith}
use Rattle.std.specs.Prelude.{Result, Ok, Err, IfOk}
use Rattle.std.proofs.lemmas.List.{take-map, length-map}
use Rattle.kr_base.specs.declared.span.Bound.{Bound}
use Rattle.kr_base.specs.declared.span.Bound.TheVariants.{At}
use Rattle.kr_base.specs.declared.entry.Mark.{Mark}
use Rattle.kr_base.specs.declared.entry.Mark.TheVariants.{Valid, Invalid, Spent}
use Rattle.kr_base.specs.declared.entry.Entry.{Entry}
use Rattle.kr_base.specs.Entries.{AllAfter, Ascends, is_spent, is_within, within, through_spent, entries_in}
use Rattle.kr_survey.specs.declared.part.Part.{Part}
use Rattle.kr_survey.specs.Scans.{any_spent, last_key, reached, row_of, rows_of, walked, IsScan}
use Rattle.kr_survey.specs.Mapping.{mark_by, entry_by, entries_by, AreAlike, IsMade}

spent_by : {R T : Type 0} (f : R → T) (m : Mark R) → is_spent (mark_by f m) ≡ is_spent m
spent_by f (Valid row) = refl
spent_by f Invalid = refl
spent_by f Spent = refl

row_by : {R T : Type 0} (f : R → T) (m : Mark R) → row_of (mark_by f m) ≡ map f (row_of m)
row_by f (Valid row) = refl
row_by f Invalid = refl
row_by f Spent = refl

map-if : {A B : Type 0} (f : A → B) (b : Bool) (xs ys : List A) → cond b (map f xs) (map f ys) ≡ map f (cond b xs ys)
map-if f true xs ys = refl
map-if f false xs ys = refl

map-more : {A B : Type 0} (f : A → B) (xs ys : List A) → map f (xs ++ ys) ≡ map f xs ++ map f ys
map-more f [] ys = refl
map-more f (x ∷ xs) ys = ap (λ l. f x ∷ l) (map-more f xs ys)

within_by : {R T : Type 0} (f : R → T) (a b : Bound) (es : List (Entry R)) → within a b (entries_by f es) ≡ entries_by f (within a b es)
within_by f a b [] = refl
within_by {R} {T} f a b (e ∷ es) =
    ap (λ (l : List (Entry T)). cond (is_within a b e.key) (entry_by f e ∷ l) l) (within_by f a b es)
    ∙ map-if (entry_by f) (is_within a b e.key) (e ∷ within a b es) (within a b es)

through_by : {R T : Type 0} (f : R → T) (es : List (Entry R)) → through_spent (entries_by f es) ≡ entries_by f (through_spent es)
through_by f [] = refl
through_by {R} {T} f (e ∷ es) =
    ap (λ (l : List (Entry T)). entry_by f e ∷ l) (
    ap (λ (t : Bool). cond t [] (through_spent (entries_by f es))) (spent_by f e.mark)
    ∙ (ap (λ (l : List (Entry T)). cond (is_spent e.mark) [] l) (through_by f es) ∙ map-if (entry_by f) (is_spent e.mark) [] (through_spent es)))

-- the entries of a span
pub entries_in_by : {R T : Type 0} (f : R → T) (a b : Bound) (es : List (Entry R)) → entries_in a b (entries_by f es) ≡ entries_by f (entries_in a b es)
entries_in_by {R} {T} f a b es = ap (λ (l : List (Entry T)). through_spent l) (within_by f a b es) ∙ through_by f (within a b es)

walked_by : {R T : Type 0} (f : R → T) (all : List (Entry R)) (after : List ℕ) (upto : Bound) (most : ℕ) → walked (entries_by f all) after upto most ≡ entries_by f (walked all after upto most)
walked_by {R} {T} f all after upto most =
    ap (λ (l : List (Entry T)). take most l) (entries_in_by f (At after) upto all) ∙ take-map (entry_by f) most (entries_in (At after) upto all)

any_spent_by : {R T : Type 0} (f : R → T) (es : List (Entry R)) → any_spent (entries_by f es) ≡ any_spent es
any_spent_by f [] = refl
any_spent_by f (e ∷ es) = ap (λ (t : Bool). t || any_spent (entries_by f es)) (spent_by f e.mark) ∙ ap (λ (t : Bool). is_spent e.mark || t) (any_spent_by f es)

last_key_by : {R T : Type 0} (f : R → T) (b : Bound) (es : List (Entry R)) → last_key b (entries_by f es) ≡ last_key b es
last_key_by f b [] = refl
last_key_by f b (e ∷ es) = last_key_by f (At e.key) es

-- the rows
pub rows_by : {R T : Type 0} (f : R → T) (es : List (Entry R)) → rows_of (entries_by f es) ≡ map f (rows_of es)
rows_by f [] = refl
rows_by {R} {T} f (e ∷ es) =
    ap (λ (l : List T). l ++ rows_of (entries_by f es)) (row_by f e.mark)
    ∙ (ap (λ (l : List T). map f (row_of e.mark) ++ l) (rows_by f es) ∙ sym (map-more f (row_of e.mark) (rows_of es)))

-- their number
pub length_of_entries_by : {R T : Type 0} (f : R → T) (es : List (Entry R)) → length (entries_by f es) ≡ length es
length_of_entries_by f es = length-map es (entry_by f)

reached_by : {R T : Type 0} (f : R → T) (upto : Bound) (most : ℕ) (es : List (Entry R)) → reached upto most (entries_by f es) ≡ reached upto most es
reached_by f upto most es =
    ap (λ (t : Bool). cond (t || (length (entries_by f es) == most)) (last_key upto (entries_by f es)) upto) (any_spent_by f es)
    ∙ (ap (λ (n : ℕ). cond (any_spent es || (n == most)) (last_key upto (entries_by f es)) upto) (length_of_entries_by f es)
    ∙ ap (λ (k : Bound). cond (any_spent es || (length es == most)) k upto) (last_key_by f upto es))

after_by : {R T : Type 0} (f : R → T) (k : List ℕ) (es : List (Entry R)) → AllAfter k es → AllAfter k (entries_by f es)
after_by f k [] h = tt
after_by f k (e ∷ es) h = (h.0, after_by f k es h.1)

-- they ascend
pub ascends_by : {R T : Type 0} (f : R → T) (es : List (Entry R)) → Ascends es → Ascends (entries_by f es)
ascends_by f [] h = tt
ascends_by f (e ∷ es) h = (after_by f e.key es h.0, ascends_by f es h.1)

-- what a scan gives, made so, is what a scan gives of the entries made so
pub scan_by : {R T : Type 0} (f : R → T) (all : List (Entry R)) (after : List ℕ) (upto : Bound) (most : ℕ) (part : Part R) (made : Part T)
    → IsScan all after upto most part → IsMade f part made → IsScan (entries_by f all) after upto most made
scan_by {R} {T} f all after upto most part made s m =
    let w = walked all after upto most in
    let here : walked (entries_by f all) after upto most ≡ entries_by f w = walked_by f all after upto most in
    record {
      reach = m.reach ∙ (s.reach ∙ (sym (reached_by f upto most w) ∙ ap (λ (l : List (Entry T)). reached upto most l) (sym here)));
      rows = m.rows ∙ (ap (λ (l : List R). map f l) s.rows ∙ (sym (rows_by f w) ∙ ap (λ (l : List (Entry T)). rows_of l) (sym here)));
      tried = m.tried ∙ (s.tried ∙ (sym (length_of_entries_by f w) ∙ ap (λ (l : List (Entry T)). length l) (sym here)));
      spent = m.spent ∙ (s.spent ∙ (sym (any_spent_by f w) ∙ ap (λ (l : List (Entry T)). any_spent l) (sym here)));
    }

-- the same of a part that may be wanting
pub scan_made : {R T E : Type 0} (f : R → T) (all : List (Entry R)) (after : List ℕ) (upto : Bound) (most : ℕ) (part : Part R) (r : Result (Part T) E)
    → IsScan all after upto most part → IfOk r (IsMade f part) → IfOk r (IsScan (entries_by f all) after upto most)
scan_made f all after upto most part (Ok made) s m = scan_by f all after upto most part made s m
scan_made f all after upto most part (Err e) s m = tt

-- as many runs as the scan has made
pub runs_made : {R T E : Type 0} (f : R → T) (part : Part R) (r : Result (Part T) E) (before now : ℕ) (after : List ℕ) → now ≤ before + part.tried + length after + 3 → IfOk r (IsMade f part) → IfOk r (λ made. now ≤ before + made.tried + length after + 3)
runs_made f part (Ok made) before now after n m = omega (arith, n, m.tried)
runs_made f part (Err e) before now after n m = tt

pub alike : {R T : Type 0} (f : R → T) (es : List (Entry R)) → AreAlike f es
alike f es = record { span = λ a b. entries_in_by f a b es; rows = rows_by f es; number = length_of_entries_by f es }
