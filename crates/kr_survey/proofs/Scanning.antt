-- A scan of a list in memory, entry by entry.
use Rattle.std.proofs.Common.{◌≡◌, ◌⊎◌, inl, inr, ℕ, zero, suc, ◌+◌, ◌<◌, ◌≤◌, List, [], ◌∷◌, ◌++◌, Bool, true, false, ◌==◌, cond, length, take, drop, get_or, refl, sym, ap, ◌∙◌, arith, length-append}
use Rattle.std.specs.Prelude.{◌||◌, if◌then◌else◌}
use Rattle.std.proofs.lemmas.Bool.Decides.{nat_tests}
use Rattle.std.proofs.lemmas.List.{append-nil, take-append-drop, drop_more, take_all}
use Rattle.std.proofs.lemmas.List.Concat.{flat_map-append}
use Rattle.std.proofs.lemmas.List.Folds.{list_any-append}
use Rattle.std.proofs.lemmas.Bool.{eq-eqb}
use Rattle.kr_base.specs.declared.span.Bound.{Bound}
use Rattle.kr_base.specs.declared.span.Bound.TheVariants.{At}
use Rattle.kr_base.specs.declared.entry.Entry.{Entry}
use Rattle.kr_base.specs.Entries.{is_spent, is_within, within, through_spent}
use Rattle.kr_survey.specs.declared.part.Part.{Part}
use Rattle.kr_survey.specs.Scans.{row_of, rows_of, any_spent, last_key, walked, reached, IsScan}
use Rattle.kr_survey.proofs.Walks.{is_stopped}

pub within-append : {R : Type 0} (a b : Bound) (xs ys : List (Entry R)) → within a b (xs ++ ys) ≡ within a b xs ++ within a b ys
within-append a b [] ys = refl
within-append {R} a b (x ∷ xs) ys =
    elim (is_within a b x.key) as (λ t. cond t (x ∷ within a b (xs ++ ys)) (within a b (xs ++ ys)) ≡ cond t (x ∷ within a b xs) (within a b xs) ++ within a b ys) [
      | true ↦ ap (λ (l : List (Entry R)). x ∷ l) (within-append a b xs ys)
      | false ↦ within-append a b xs ys
    ]

pub through-append : {R : Type 0} (xs ys : List (Entry R)) → any_spent xs ≡ false → through_spent (xs ++ ys) ≡ xs ++ through_spent ys
through-append [] ys h = refl
through-append {R} (x ∷ xs) ys h =
    elim (is_spent x.mark) as (λ t. (t || any_spent xs) ≡ false → x ∷ (if t then [] else through_spent (xs ++ ys)) ≡ x ∷ (xs ++ through_spent ys)) [
      | true ↦ λ s. absurd (cc (s))
      | false ↦ λ s. ap (λ (l : List (Entry R)). x ∷ l) (through-append xs ys s)
    ] h

-- what the scan has of the entries that it walked so far
pub record IsFront {R : Type 0} (a b : Bound) (most : ℕ) (es : List (Entry R)) (rows : List R) (tried : ℕ) : Type 0 where
  pub rows_are : rows ≡ rows_of (within a b es)
  pub tried_are : tried ≡ length (within a b es)
  pub below : tried < most
  pub none_spent : any_spent (within a b es) ≡ false

pub rows-more : {R : Type 0} (w : List (Entry R)) (e : Entry R) → rows_of (w ++ e ∷ []) ≡ rows_of w ++ row_of e.mark
rows-more {R} w e = flat_map-append (λ (x : Entry R). row_of x.mark) w (e ∷ []) ∙ ap (λ (l : List R). rows_of w ++ l) (append-nil (row_of e.mark))

pub spent-more : {R : Type 0} (w : List (Entry R)) (e : Entry R) → any_spent w ≡ false → any_spent (w ++ e ∷ []) ≡ is_spent e.mark
spent-more {R} w e h =
    list_any-append (λ (x : Entry R). is_spent x.mark) w (e ∷ []) ∙ (ap (λ (t : Bool). t || (is_spent e.mark || false)) h
    ∙ elim (is_spent e.mark) as (λ t. (t || false) ≡ t) [ true ↦ refl | false ↦ refl ])

pub length-more : {R : Type 0} (w : List (Entry R)) (e : Entry R) → length (w ++ e ∷ []) ≡ length w + 1
length-more w e = length-append w (e ∷ [])

pub last-more : {R : Type 0} (b : Bound) (w : List (Entry R)) (e : Entry R) → last_key b (w ++ e ∷ []) ≡ At e.key
last-more b [] e = refl
last-more b (x ∷ w) e = last-more (At x.key) w e

-- the walk up to an entry of which there is no more to walk after it
pub take-here : {A : Type 0} (w : List A) (e : A) (m : ℕ) (rest : List A) → length w < m → (rest ≡ []) ⊎ (length w + 1 ≡ m) → take m (w ++ e ∷ rest) ≡ w ++ e ∷ []
take-here [] e zero rest h o = absurd (omega arith)
take-here {A} [] e (suc m) rest h (inl o) = ap (λ (l : List A). e ∷ take m l) o ∙ ap (λ (l : List A). e ∷ l) (take_all m [] (omega arith))
take-here {A} [] e (suc m) rest h (inr o) = let z : m ≡ 0 = omega arith in ap (λ (n : ℕ). e ∷ take n rest) z
take-here (x ∷ w) e zero rest h o = absurd (omega arith)
take-here {A} (x ∷ w) e (suc m) rest h (inl o) = ap (λ (l : List A). x ∷ l) (take-here w e m rest (omega arith) (inl o))
take-here {A} (x ∷ w) e (suc m) rest h (inr o) = ap (λ (l : List A). x ∷ l) (take-here w e m rest (omega arith) (inr (omega arith)))

pub less-not : (a b : ℕ) → a < b → (a == b) ≡ false
less-not a b h = grind (arith, nat_tests)

-- the walk of all entries where one stops it
walked-here : {R : Type 0} (k : List ℕ) (b : Bound) (most : ℕ) (es : List (Entry R)) (i : ℕ) (e : Entry R) → i < length es → e ≡ get_or es i e → is_within (At k) b e.key ≡ true
    → any_spent (within (At k) b (take i es)) ≡ false → length (within (At k) b (take i es)) < most
    → (is_spent e.mark ≡ true) ⊎ (length (within (At k) b (take i es)) + 1 ≡ most) → walked es k b most ≡ within (At k) b (take i es) ++ e ∷ []
walked-here {R} k b most es i e h is inside clean low stop =
    let w = within (At k) b (take i es) in
    let xs = within (At k) b (drop (i + 1) es) in
    let split : within (At k) b es ≡ w ++ e ∷ xs =
    ap (λ (l : List (Entry R)). within (At k) b l) (sym (take-append-drop i es) ∙ ap (λ (l : List (Entry R)). take i es ++ l) (drop_more es i e h ∙ ap (λ (x : Entry R). x ∷ drop (i + 1) es) (sym is)))
    ∙ (within-append (At k) b (take i es) (e ∷ drop (i + 1) es) ∙ ap (λ (t : Bool). w ++ cond t (e ∷ xs) xs) inside) in
    let rest = if is_spent e.mark then [] else through_spent xs in
    let through : through_spent (within (At k) b es) ≡ w ++ e ∷ rest = ap (λ (l : List (Entry R)). through_spent l) split ∙ through-append w (e ∷ xs) clean in
    ap (λ (l : List (Entry R)). take most l) through
    ∙ take-here w e most rest low (elim stop [ inl s ↦ inl (ap (λ (t : Bool). if t then [] else through_spent xs) s) | inr n ↦ inr n ])

pub stopped : {R : Type 0} (k : List ℕ) (b : Bound) (most : ℕ) (es : List (Entry R)) (i : ℕ) (e : Entry R) (old : List R) (before : ℕ) (part : Part R) → i < length es → e ≡ get_or es i e
    → is_within (At k) b e.key ≡ true → IsFront (At k) b most (take i es) old before → (is_spent e.mark ≡ true) ⊎ (before + 1 ≡ most)
    → part.reach ≡ At e.key → part.rows ≡ old ++ row_of e.mark → part.tried ≡ before + 1 → part.spent ≡ is_spent e.mark
    → IsScan es k b most part
stopped {R} k b most es i e old before part h is inside f stop reach rows tried spent =
    let w = within (At k) b (take i es) in
    let here : walked es k b most ≡ w ++ e ∷ [] =
    walked-here k b most es i e h is inside f.none_spent (omega (arith, f.tried_are, f.below)) (elim stop [ inl s ↦ inl s | inr n ↦ inr (omega (arith, f.tried_are, n)) ]) in
    let flag : any_spent (w ++ e ∷ []) ≡ is_spent e.mark = spent-more w e f.none_spent in
    let halts : is_stopped most (w ++ e ∷ []) ≡ true = elim stop [
      | inl s ↦ ap (λ (t : Bool). t || (length (w ++ e ∷ []) == most)) (flag ∙ s)
      | inr n ↦ ap (λ (t : Bool). any_spent (w ++ e ∷ []) || t) (eq-eqb (length (w ++ e ∷ [])) most (omega (arith, length-more w e, f.tried_are, n))) ∙ or-true (any_spent (w ++ e ∷ []))
    ] in
    record {
      reach = reach ∙ (sym (ap (λ (t : Bool). cond t (last_key b (w ++ e ∷ [])) b) halts ∙ last-more b w e) ∙ ap (λ (l : List (Entry R)). reached b most l) (sym here));
      rows = rows ∙ (ap (λ (l : List R). l ++ row_of e.mark) f.rows_are ∙ (sym (rows-more w e) ∙ ap (λ (l : List (Entry R)). rows_of l) (sym here)));
      tried = tried ∙ (ap (λ (n : ℕ). n + 1) f.tried_are ∙ (sym (length-more w e) ∙ ap (λ (l : List (Entry R)). length l) (sym here)));
      spent = spent ∙ (sym flag ∙ ap (λ (l : List (Entry R)). any_spent l) (sym here));
    }
  where
    or-true : (t : Bool) → (t || true) ≡ true
    or-true true = refl
    or-true false = refl

-- the walk of all entries where none stops it
pub ended : {R : Type 0} (k : List ℕ) (b : Bound) (most : ℕ) (es : List (Entry R)) (i : ℕ) (rows : List R) (tried : ℕ) (part : Part R) → length es ≤ i
    → IsFront (At k) b most (take i es) rows tried → part.reach ≡ b → part.rows ≡ rows → part.tried ≡ tried → part.spent ≡ false → IsScan es k b most part
ended {R} k b most es i rows tried part past f reach rows_are tried_are spent =
    let w = within (At k) b (take i es) in
    let all : w ≡ within (At k) b es = ap (λ (l : List (Entry R)). within (At k) b l) (take_all i es past) in
    let low : length w < most = omega (arith, f.tried_are, f.below) in
    let through : through_spent w ≡ w = ap (λ (l : List (Entry R)). through_spent l) (sym (append-nil w)) ∙ (through-append w [] f.none_spent ∙ append-nil w) in
    let here : walked es k b most ≡ w = ap (λ (l : List (Entry R)). take most (through_spent l)) (sym all) ∙ (ap (λ (l : List (Entry R)). take most l) through ∙ take_all most w (omega arith)) in
    let goes : is_stopped most w ≡ false = ap (λ (t : Bool). t || (length w == most)) f.none_spent ∙ less-not (length w) most low in
    record {
      reach = reach ∙ (sym (ap (λ (t : Bool). cond t (last_key b w) b) goes) ∙ ap (λ (l : List (Entry R)). reached b most l) (sym here));
      rows = rows_are ∙ (f.rows_are ∙ ap (λ (l : List (Entry R)). rows_of l) (sym here));
      tried = tried_are ∙ (f.tried_are ∙ ap (λ (l : List (Entry R)). length l) (sym here));
      spent = spent ∙ (sym f.none_spent ∙ ap (λ (l : List (Entry R)). any_spent l) (sym here));
    }
