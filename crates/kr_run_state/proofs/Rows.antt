-- Places by where they stand.
use Rattle.std.proofs.Common.{eq-eqb, ◌≡◌, ◌≢◌, ℕ, zero, suc, ◌+◌, ◌-◌, ◌<◌, ◌≤◌, ◌⊎◌, inl, inr, Bool, true, false, List, [], ◌∷◌, ◌++◌, take, length, get_or, set, refl, sym, ap, subst, arith, ◌∙◌}
use Rattle.std.specs.Prelude.{map, ◌||◌, ◌&&◌, ◌==◌, Option, Some, None, option_map, Result, Ok, Err, OnOk, OnErr, slice_get}
use Rattle.std.proofs.lemmas.List.{length-map, map_push, take_all}
use Rattle.std.specs.declared.vec.Vec.{Vec}
use Rattle.std.specs.declared.alloc.Global.{Global}
use Rattle.std.proofs.lemmas.Bool.{eqb-true, and_parts, cases_Bool, cases_eq, cases_lt}
use Rattle.std.proofs.lemmas.Option.{slice_get-map, slice_get_within, slice_get-get_or, slice_get_past}
use Rattle.kr_value.specs.declared.object.Spot.{Spot}
use Rattle.kr_value.specs.declared.object.Spot.TheVariants.{Field, Length, Element}
use Rattle.kr_mean.specs.Places.{SlotPlace, This, Parameter, At}
use Rattle.kr_mean.specs.Runs.{is_same_place, is_same_spot}
use Rattle.kr_run_state.specs.Noting.{is_read}
use Rattle.kr_run_state.specs.Rows.{AreIndexed, HasNumber, IsWritten, IsWrittenAfter, KeepNumbers, column_of, number_of, number_at}

-- ---- places

same_spots : (s t : Spot) → is_same_spot s t ≡ true → s ≡ t
same_spots (Field f) (Field g) e = ap (λ (n : ℕ). Field n) (eqb-true f g e)
same_spots Length Length e = refl
same_spots (Element i) (Element j) e = ap (λ (n : ℕ). Element n) (eqb-true i j e)
same_spots (Field f) Length e = absurd (cc (e))
same_spots (Field f) (Element i) e = absurd (cc (e))
same_spots Length (Field f) e = absurd (cc (e))
same_spots Length (Element i) e = absurd (cc (e))
same_spots (Element i) (Field f) e = absurd (cc (e))
same_spots (Element i) Length e = absurd (cc (e))

same_place : (q : SlotPlace) (o : ℕ) (s : Spot) → is_same_place q (At o s) ≡ true → q ≡ At o s
same_place This o s e = absurd (cc (e))
same_place (Parameter i) o s e = absurd (cc (e))
same_place (At p t) o s e =
    let r = and_parts (p == o) (is_same_spot t s) e in
    ap (λ (n : ℕ). At n t) (eqb-true p o r.0) ∙ ap (λ (x : Spot). At o x) (same_spots t s r.1)

-- a place that was read stands among the places
found : (p : SlotPlace) (ps : List SlotPlace) → is_read p ps ≡ true → (k : ℕ) × (q : SlotPlace) × (slice_get ps k ≡ Some q) × (is_same_place q p ≡ true)
found p [] e = absurd (cc (e))
found p (q ∷ qs) e = go (cases_Bool (is_same_place q p)) (found p qs)
  where
    go : (is_same_place q p ≡ true) ⊎ (is_same_place q p ≡ false) → (is_read p qs ≡ true → (k : ℕ) × (r : SlotPlace) × (slice_get qs k ≡ Some r) × (is_same_place r p ≡ true)) → (k : ℕ) × (r : SlotPlace) × (slice_get (q ∷ qs) k ≡ Some r) × (is_same_place r p ≡ true)
    go (inl same) rest = (0, q, refl, same)
    go (inr other) rest =
        let there = rest (ap (λ (b : Bool). b || is_read p qs) (sym other) ∙ e) in
        (suc there.0, there.1, there.2, there.3)

stands : (p : SlotPlace) (ps : List SlotPlace) (k : ℕ) (q : SlotPlace) → slice_get ps k ≡ Some q → is_same_place q p ≡ true → is_read p ps ≡ true
stands p [] k q at same = absurd (cc (at))
stands p (r ∷ rs) zero q at same =
    let is : r ≡ q = cc (at) in
    ap (λ (x : SlotPlace). is_same_place x p || is_read p rs) is ∙ ap (λ (b : Bool). b || is_read p rs) same
stands p (r ∷ rs) (suc k) q at same = go (is_same_place r p) (stands p rs k q at same)
  where
    go : (b : Bool) → is_read p rs ≡ true → (b || is_read p rs) ≡ true
    go true e = refl
    go false e = e

-- a place that isn't read has no number, or one at which no such place stands
not_true : (b : Bool) → (b ≡ true → ⊥) → b ≡ false
not_true true f = absurd (f refl)
not_true false f = refl

indexed : (rows : List (Vec ℕ Global)) (ps : List SlotPlace) (o : ℕ) (s : Spot) → AreIndexed rows ps → is_read (At o s) ps ≡ true → (k : ℕ) × (slice_get ps k ≡ Some (At o s)) × (number_at rows o (column_of s) ≡ Some k)
indexed rows ps o s h read =
    let there = found (At o s) ps read in
    let at : slice_get ps there.0 ≡ Some (At o s) = there.2 ∙ ap (λ (x : SlotPlace). Some x) (same_place there.1 o s there.3) in
    (there.0, at, h there.0 o s at)

pub not_indexed : (rows : List (Vec ℕ Global)) (ps : List SlotPlace) (o : ℕ) (s : Spot) → AreIndexed rows ps → number_at rows o (column_of s) ≡ None → is_read (At o s) ps ≡ false
not_indexed rows ps o s h none = not_true (is_read (At o s) ps) (λ read.
    let there = indexed rows ps o s h read in
    cc (there.2, none))

pub index_beyond : (rows : List (Vec ℕ Global)) (ps : List SlotPlace) (o k : ℕ) (s : Spot) → AreIndexed rows ps → number_at rows o (column_of s) ≡ Some k → length ps ≤ k → is_read (At o s) ps ≡ false
index_beyond rows ps o k s h is behind = not_true (is_read (At o s) ps) (λ read.
    let there = indexed rows ps o s h read in
    let same : there.0 ≡ k = cc (there.2, is) in
    let within : there.0 < length ps = slice_get_within ps there.0 (At o s) there.1 in
    omega (arith, same, within, behind))

same_at : (o : ℕ) (s : Spot) → is_same_place (At o s) (At o s) ≡ true
same_at o s = ap (λ (b : Bool). b && is_same_spot s s) (eq-eqb o o refl) ∙ same_spot s
  where
    same_spot : (t : Spot) → is_same_spot t t ≡ true
    same_spot (Field f) = eq-eqb f f refl
    same_spot Length = refl
    same_spot (Element i) = eq-eqb i i refl

pub index_within : (rows : List (Vec ℕ Global)) (ps : List SlotPlace) (o k : ℕ) (s : Spot) (q : SlotPlace) → AreIndexed rows ps → number_at rows o (column_of s) ≡ Some k → slice_get ps k ≡ Some q → is_same_place q (At o s) ≡ is_read (At o s) ps
index_within rows ps o k s q h is at = go (cases_Bool (is_same_place q (At o s)))
  where
    go : (is_same_place q (At o s) ≡ true) ⊎ (is_same_place q (At o s) ≡ false) → is_same_place q (At o s) ≡ is_read (At o s) ps
    go (inl same) = same ∙ sym (stands (At o s) ps k q at same)
    go (inr other) = other ∙ sym (not_true (is_read (At o s) ps) (λ read.
        let there = indexed rows ps o s h read in
        let number : there.0 ≡ k = cc (there.2, is) in
        let own : q ≡ At o s = cc (at, there.1, number) in
        let same : is_same_place q (At o s) ≡ true = ap (λ (x : SlotPlace). is_same_place x (At o s)) own ∙ same_at o s in
        cc (same, other)))

-- ---- rows

columns : (s t : Spot) → column_of s ≡ column_of t → s ≡ t
columns (Field f) (Field g) e = let same : f ≡ g = omega (arith, e) in ap (λ (n : ℕ). Field n) same
columns (Field f) Length e = absurd (omega (arith, e))
columns (Field f) (Element i) e = absurd (omega (arith, e))
columns Length (Field f) e = absurd (omega (arith, e))
columns Length Length e = refl
columns Length (Element i) e = absurd (omega (arith, e))
columns (Element i) (Field f) e = absurd (omega (arith, e))
columns (Element i) Length e = absurd (omega (arith, e))
columns (Element i) (Element j) e = let same : i ≡ j = omega (arith, e) in ap (λ (n : ℕ). Element n) same

pub indexed_kept : (before rows : List (Vec ℕ Global)) (ps : List SlotPlace) → KeepNumbers before rows → AreIndexed before ps → AreIndexed rows ps
indexed_kept before rows ps keep h = λ k o s at. keep o (column_of s) k (h k o s at)

get_front : {X : Type 0} (xs : List X) (x : X) (k : ℕ) → k < length xs → slice_get (xs ++ x ∷ []) k ≡ slice_get xs k
get_front [] x k lt = absurd (omega (arith, lt))
get_front (y ∷ ys) x zero lt = refl
get_front (y ∷ ys) x (suc k) lt = get_front ys x k (omega (arith, lt))

get_last : {X : Type 0} (xs : List X) (x : X) (k : ℕ) → length xs ≤ k → slice_get (xs ++ x ∷ []) k ≡ slice_get (x ∷ []) (k - length xs)
get_last [] x k le =
    let e : k ≡ k - 0 = omega arith in
    ap (λ (n : ℕ). slice_get (x ∷ []) n) e
get_last (y ∷ ys) x zero le = absurd (omega (arith, le))
get_last (y ∷ ys) x (suc k) le =
    let e : k - length ys ≡ suc k - length (y ∷ ys) = omega arith in
    get_last ys x k (omega (arith, le)) ∙ ap (λ (n : ℕ). slice_get (x ∷ []) n) e

-- one more place: where it stands there
at_last : {X : Type 0} (xs : List X) (x y : X) (k : ℕ) → length xs ≤ k → slice_get (xs ++ x ∷ []) k ≡ Some y → (k ≡ length xs) × (x ≡ y)
at_last xs x y k le e = go (k - length xs) refl
  where
    go : (n : ℕ) → k - length xs ≡ n → (k ≡ length xs) × (x ≡ y)
    go zero is =
        let here : slice_get (x ∷ []) zero ≡ Some y = ap (λ (n : ℕ). slice_get (x ∷ []) n) (sym is) ∙ (sym (get_last xs x k le) ∙ e) in
        (omega (arith, is, le), cc (here))
    go (suc n) is =
        let here : slice_get (x ∷ []) (suc n) ≡ Some y = ap (λ (m : ℕ). slice_get (x ∷ []) m) (sym is) ∙ (sym (get_last xs x k le) ∙ e) in
        absurd (cc (here))

pub indexed_more : (before rows : List (Vec ℕ Global)) (ps : List SlotPlace) (o : ℕ) (s : Spot) (n : ℕ) → IsWrittenAfter before rows o (column_of s) n → AreIndexed before ps → n ≡ length ps → is_read (At o s) ps ≡ false → AreIndexed rows (ps ++ At o s ∷ [])
indexed_more before rows ps o s n put h long fresh = λ k p t at. go k p t at (cases_lt k (length ps))
  where
    go : (k p : ℕ) (t : Spot) → slice_get (ps ++ At o s ∷ []) k ≡ Some (At p t) → (k < length ps) ⊎ (length ps ≤ k) → number_at rows p (column_of t) ≡ Some k
    go k p t at (inl lt) =
        let there : slice_get ps k ≡ Some (At p t) = sym (get_front ps (At o s) k lt) ∙ at in
        let other : (p ≡ o) × (column_of t ≡ column_of s) → ⊥ = λ both.
        let own : At p t ≡ At o s = ap (λ (m : ℕ). At m t) both.0 ∙ ap (λ (x : Spot). At o x) (columns t s both.1) in
        let same : is_same_place (At p t) (At o s) ≡ true = ap (λ (x : SlotPlace). is_same_place x (At o s)) own ∙ same_at o s in
        cc (stands (At o s) ps k (At p t) there same, fresh) in
        put.2.others p (column_of t) other ∙ put.1 p (column_of t) k (h k p t there)
    go k p t at (inr le) =
        let last = at_last ps (At o s) (At p t) k le at in
        let object : o ≡ p = cc (last.1) in
        let spot : s ≡ t = cc (last.1) in
        let number : n ≡ k = omega (arith, long, last.0) in
        subst (λ (m : ℕ). number_at rows p (column_of t) ≡ Some m) number
        (subst (λ (m : ℕ). number_at rows m (column_of t) ≡ Some n) object
        (subst (λ (x : Spot). number_at rows o (column_of x) ≡ Some n) spot put.2.there))

pub indexed_less : (rows : List (Vec ℕ Global)) (ps : List SlotPlace) (p : SlotPlace) → AreIndexed rows (ps ++ p ∷ []) → AreIndexed rows ps
indexed_less rows ps p h = λ k o s at. h k o s (get_front ps p k (slice_get_within ps k (At o s) at) ∙ at)

-- `this` and parameters have no numbers
pub indexed_other : (rows : List (Vec ℕ Global)) (ps : List SlotPlace) (p : SlotPlace) → ((o : ℕ) (s : Spot) → p ≡ At o s → ⊥) → AreIndexed rows ps → AreIndexed rows (ps ++ p ∷ [])
indexed_other rows ps p apart h = λ k o s at. go k o s at (cases_lt k (length ps))
  where
    go : (k o : ℕ) (s : Spot) → slice_get (ps ++ p ∷ []) k ≡ Some (At o s) → (k < length ps) ⊎ (length ps ≤ k) → number_at rows o (column_of s) ≡ Some k
    go k o s at (inl lt) = h k o s (sym (get_front ps p k lt) ∙ at)
    go k o s at (inr le) = absurd (apart o s (at_last ps p (At o s) k le at).1)

pub indexed_front : (rows : List (Vec ℕ Global)) (ps : List SlotPlace) (n : ℕ) → AreIndexed rows ps → AreIndexed rows (take n ps)
indexed_front rows ps n h = λ k o s at. h k o s (front n ps k (At o s) at)
  where
    front : (m : ℕ) (qs : List SlotPlace) (k : ℕ) (q : SlotPlace) → slice_get (take m qs) k ≡ Some q → slice_get qs k ≡ Some q
    front zero [] k q e = absurd (cc (e))
    front zero (r ∷ rs) k q e = absurd (cc (e))
    front (suc m) [] k q e = absurd (cc (e))
    front (suc m) (r ∷ rs) zero q e = e
    front (suc m) (r ∷ rs) (suc k) q e = front m rs k q e

-- ---- numbers

kept_row : (rows : List (Vec ℕ Global)) (o c k : ℕ) → number_at rows o c ≡ Some k → o < length rows
kept_row rows o c k e = go (cases_lt o (length rows))
  where
    go : (o < length rows) ⊎ (length rows ≤ o) → o < length rows
    go (inl lt) = lt
    go (inr le) = absurd (cc (ap (λ (r : Option (Vec ℕ Global)). number_of r c) (sym (slice_get_past rows o le)) ∙ e))

pub keep_more : (before rows : List (Vec ℕ Global)) (row : Vec ℕ Global) → KeepNumbers before rows → KeepNumbers before (rows ++ row ∷ [])
keep_more before rows row h = λ o c k e.
    let there : number_at rows o c ≡ Some k = h o c k e in
    ap (λ (r : Option (Vec ℕ Global)). number_of r c) (get_front rows row o (kept_row rows o c k there)) ∙ there

set_there : {X : Type 0} (xs : List X) (k : ℕ) (y : X) → k < length xs → slice_get (set xs k y) k ≡ Some y
set_there [] k y lt = absurd (omega (arith, lt))
set_there (x ∷ xs) zero y lt = refl
set_there (x ∷ xs) (suc k) y lt = set_there xs k y (omega (arith, lt))

set_apart : {X : Type 0} (xs : List X) (k j : ℕ) (y : X) → (j ≡ k → ⊥) → slice_get (set xs k y) j ≡ slice_get xs j
set_apart [] k j y apart = refl
set_apart (x ∷ xs) zero zero y apart = absurd (apart refl)
set_apart (x ∷ xs) zero (suc j) y apart = refl
set_apart (x ∷ xs) (suc k) zero y apart = refl
set_apart (x ∷ xs) (suc k) (suc j) y apart = set_apart xs k j y (λ e. apart (ap suc e))

row_at : (rows : List (Vec ℕ Global)) (o : ℕ) (row : Vec ℕ Global) → o < length rows → row ≡ get_or rows o row → slice_get rows o ≡ Some row
row_at rows o row lt is = slice_get-get_or rows o row lt ∙ ap (λ (r : Vec ℕ Global). Some r) (sym is)

-- the row of a number is as long as its column
pub there_within : (rows : List (Vec ℕ Global)) (o c : ℕ) (row : Vec ℕ Global) → HasNumber rows o c → row ≡ get_or rows o row → c < length row.items
there_within rows o c row h is =
    let at : slice_get rows o ≡ Some row = row_at rows o row (kept_row rows o c h.0 h.1) is in
    slice_get_within row.items c h.0 (ap (λ (r : Option (Vec ℕ Global)). number_of r c) (sym at) ∙ h.1)

pub there_long : (rows : List (Vec ℕ Global)) (o c : ℕ) → HasNumber rows o c → o < length rows
there_long rows o c h = kept_row rows o c h.0 h.1

pub written_at : (rows : List (Vec ℕ Global)) (o c n : ℕ) (row new : Vec ℕ Global) → HasNumber rows o c → row ≡ get_or rows o row → new.items ≡ set row.items c n → IsWritten rows (set rows o new) o c n
written_at rows o c n row new h is items = record {
  there = ap (λ (r : Option (Vec ℕ Global)). number_of r c) (set_there rows o new long) ∙ (ap (λ (xs : List ℕ). slice_get xs c) items ∙ set_there row.items c n within);
  others = λ p e apart. go p e apart (cases_eq p o);
}
  where
    long : o < length rows
    long = there_long rows o c h

    within : c < length row.items
    within = there_within rows o c row h is

    go : (p e : ℕ) → ((p ≡ o) × (e ≡ c) → ⊥) → (p ≡ o) ⊎ (p ≢ o) → number_at (set rows o new) p e ≡ number_at rows p e
    go p e apart (inr other) = ap (λ (r : Option (Vec ℕ Global)). number_of r e) (set_apart rows o p new other)
    go p e apart (inl same) =
        let column : e ≡ c → ⊥ = λ both. apart (same, both) in
        let new_there : slice_get (set rows o new) p ≡ Some new = ap (λ (q : ℕ). slice_get (set rows o new) q) same ∙ set_there rows o new long in
        let old_there : slice_get rows p ≡ Some row = ap (λ (q : ℕ). slice_get rows q) same ∙ row_at rows o row long is in
        ap (λ (r : Option (Vec ℕ Global)). number_of r e) new_there
        ∙ (ap (λ (xs : List ℕ). slice_get xs e) items
        ∙ (set_apart row.items c e n column
        ∙ ap (λ (r : Option (Vec ℕ Global)). number_of r e) (sym old_there)))

-- a row whose numbers stay, in place of one
pub keep_row : (before rows : List (Vec ℕ Global)) (o : ℕ) (row new : Vec ℕ Global) → KeepNumbers before rows → o < length rows → row ≡ get_or rows o row → ((c k : ℕ) → slice_get row.items c ≡ Some k → slice_get new.items c ≡ Some k) → KeepNumbers before (set rows o new)
keep_row before rows o row new h long is keep = λ p c k e. go p c k (h p c k e) (cases_eq p o)
  where
    go : (p c k : ℕ) → number_at rows p c ≡ Some k → (p ≡ o) ⊎ (p ≢ o) → number_at (set rows o new) p c ≡ Some k
    go p c k e (inr other) = ap (λ (r : Option (Vec ℕ Global)). number_of r c) (set_apart rows o p new other) ∙ e
    go p c k e (inl same) =
        let old_there : slice_get rows p ≡ Some row = ap (λ (q : ℕ). slice_get rows q) same ∙ row_at rows o row long is in
        let number : slice_get row.items c ≡ Some k = ap (λ (r : Option (Vec ℕ Global)). number_of r c) (sym old_there) ∙ e in
        ap (λ (q : ℕ). number_at (set rows o new) q c) same ∙ (ap (λ (r : Option (Vec ℕ Global)). number_of r c) (set_there rows o new long) ∙ keep c k number)

pub wide_there : (rows : List (Vec ℕ Global)) (o c : ℕ) (new : Vec ℕ Global) → o < length rows → c < length new.items → HasNumber (set rows o new) o c
wide_there rows o c new long wide = (get_or new.items c 0, ap (λ (r : Option (Vec ℕ Global)). number_of r c) (set_there rows o new long) ∙ slice_get-get_or new.items c 0 wide)

-- a row with more numbers at its end
pub longer : (xs ys : List ℕ) (c k : ℕ) → slice_get xs c ≡ Some k → slice_get (xs ++ ys) c ≡ Some k
longer [] ys c k e = absurd (cc (e))
longer (x ∷ xs) ys zero k e = e
longer (x ∷ xs) ys (suc c) k e = longer xs ys c k e

-- ---- lists of what has a place

pub index_within_at : {X : Type 0} (f : X → SlotPlace) (rows : List (Vec ℕ Global)) (xs : List X) (o k : ℕ) (s : Spot) (d : X) → AreIndexed rows (map f xs) → number_at rows o (column_of s) ≡ Some k → k < length xs → is_same_place (f (get_or xs k d)) (At o s) ≡ is_read (At o s) (map f xs)
index_within_at f rows xs o k s d h is lt = index_within rows (map f xs) o k s (f (get_or xs k d)) h is (slice_get-map f xs k ∙ ap (option_map f) (slice_get-get_or xs k d lt))

pub index_beyond_at : {X : Type 0} (f : X → SlotPlace) (rows : List (Vec ℕ Global)) (xs : List X) (o k : ℕ) (s : Spot) → AreIndexed rows (map f xs) → number_at rows o (column_of s) ≡ Some k → length xs ≤ k → is_read (At o s) (map f xs) ≡ false
index_beyond_at f rows xs o k s h is le = index_beyond rows (map f xs) o k s h is (omega (arith, length-map xs f, le))

-- a place is added, or there was no memory for it
pub indexed_after : {X E : Type 0} (f : X → SlotPlace) (rows : List (Vec ℕ Global)) (xs ys : List X) (x : X) (r : Result (Unit {0}) E) → AreIndexed rows (map f xs ++ f x ∷ []) → OnOk r (ys ≡ xs ++ x ∷ []) → OnErr r (ys ≡ xs) → AreIndexed rows (map f ys)
indexed_after {X} f rows xs ys x (Ok u) h added unchanged = subst (λ (qs : List SlotPlace). AreIndexed rows qs) (sym (ap (λ (zs : List X). map f zs) added ∙ map_push f xs x)) h
indexed_after {X} f rows xs ys x (Err e) h added unchanged = subst (λ (zs : List X). AreIndexed rows (map f zs)) (sym unchanged) (indexed_less rows (map f xs) (f x) h)

-- a row is widened, or there was no memory for it
pub widened : {E : Type 0} (rows : List (Vec ℕ Global)) (o c : ℕ) (new : Vec ℕ Global) (r : Result (Unit {0}) E) → o < length rows → OnOk r (c < length new.items) → OnOk r (HasNumber (set rows o new) o c)
widened rows o c new (Ok u) long wide = wide_there rows o c new long wide
widened rows o c new (Err e) long wide = tt

pub kept_longer : (xs ys zs : List ℕ) (n : ℕ) → length xs ≤ n → ys ≡ take n xs ++ zs → (c k : ℕ) → slice_get xs c ≡ Some k → slice_get ys c ≡ Some k
kept_longer xs ys zs n le is c k e = ap (λ (us : List ℕ). slice_get us c) is ∙ longer (take n xs) zs c k (ap (λ (us : List ℕ). slice_get us c) (take_all n xs le) ∙ e)

-- a spot is indexed, or there was no memory for it
pub spot_indexed : {E : Type 0} (before rows : List (Vec ℕ Global)) (o : ℕ) (s : Spot) (n : ℕ) (r : Result (Unit {0}) E) → OnOk r (IsWrittenAfter before rows o (column_of s) n) → OnOk r ((ps : List SlotPlace) → AreIndexed before ps → n ≡ length ps → is_read (At o s) ps ≡ false → AreIndexed rows (ps ++ At o s ∷ []))
spot_indexed before rows o s n (Ok u) h = λ ps i long fresh. indexed_more before rows ps o s n h i long fresh
spot_indexed before rows o s n (Err e) h = tt

pub spot_kept : {E : Type 0} (before rows : List (Vec ℕ Global)) (r : Result (Unit {0}) E) → OnErr r (KeepNumbers before rows) → OnErr r ((ps : List SlotPlace) → AreIndexed before ps → AreIndexed rows ps)
spot_kept before rows (Ok u) h = tt
spot_kept before rows (Err e) h = λ ps i. indexed_kept before rows ps h i
