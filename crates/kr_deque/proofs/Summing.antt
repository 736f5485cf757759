-- Pieces summed up one after another.
use Rattle.std.proofs.Common.{◌≡◌, ℕ, ◌+◌, ◌-◌, ◌^◌, List, [], ◌∷◌, ◌++◌, Bool, true, false, Option, Some, None, min, refl, sym, ap, ◌∙◌, subst, arith, append_assoc, length, Vec, Global}
use Rattle.std.specs.Prelude.{if◌then◌else◌, is_some}
use Rattle.std.proofs.lemmas.List.{append-nil}
use Rattle.kr_base.specs.Causes.{capped}
use Rattle.kr_survey.specs.Joins.{joined, lists}
use Rattle.kr_survey.specs.declared.part.Listing.{Listing}
use Rattle.kr_survey.specs.declared.piece.Piece.{Piece}
use Rattle.kr_survey.specs.Listings.{through, rows_in, tried_in, key_in, IsListingOf}

-- none of the pieces is spent
abbrev pub NoneSpent : {R : Type 0} → List (Piece R) → Type 0
NoneSpent [] = Unit {0}
NoneSpent (p ∷ ps) = (is_some p.spent ≡ false) × NoneSpent ps

-- none of the pieces so far is spent; their rows and their numbers
pub record IsSummed {R : Type 0} (ps : List (Piece R)) (rows : List (Vec R Global)) (tried : ℕ) : Type 0 where
  pub none : NoneSpent ps
  pub rows_are : joined (lists rows) ≡ rows_in ps
  pub tried_is : tried ≡ capped (tried_in ps)

pub summed_none : {R : Type 0} → IsSummed {R = R} [] [] 0
summed_none {R} = record { none = tt; rows_are = refl; tried_is = refl }

joined_more : {A : Type 0} (vs : List (Vec A Global)) (v : Vec A Global) → joined (lists (vs ++ v ∷ [])) ≡ joined (lists vs) ++ v.items
joined_more [] v = append-nil v.items
joined_more {A} (u ∷ vs) v = ap (λ (l : List A). u.items ++ l) (joined_more vs v) ∙ sym (append_assoc u.items (joined (lists vs)) v.items)

rows_more : {R : Type 0} (ps : List (Piece R)) (p : Piece R) → rows_in (ps ++ p ∷ []) ≡ rows_in ps ++ p.rows
rows_more [] p = append-nil p.rows
rows_more {R} (q ∷ ps) p = ap (λ (l : List R). q.rows ++ l) (rows_more ps p) ∙ sym (append_assoc q.rows (rows_in ps) p.rows)

tried_more : {R : Type 0} (ps : List (Piece R)) (p : Piece R) → tried_in (ps ++ p ∷ []) ≡ tried_in ps + p.tried
tried_more [] p = omega arith
tried_more (q ∷ ps) p = omega (arith, tried_more ps p)

none_more : {R : Type 0} (ps : List (Piece R)) (p : Piece R) → NoneSpent ps → is_some p.spent ≡ false → NoneSpent (ps ++ p ∷ [])
none_more [] p h e = (e, tt)
none_more (q ∷ ps) p h e = (h.0, none_more ps p h.1 e)

-- the pieces before a spent one, and that one
through_more : {R : Type 0} (ps : List (Piece R)) (p : Piece R) (rest : List (Piece R)) → NoneSpent ps → is_some p.spent ≡ true → through (ps ++ p ∷ rest) ≡ ps ++ p ∷ []
through_more {R} [] p rest h e = rw e refl
through_more {R} (q ∷ ps) p rest h e = rw h.0 (ap (λ (l : List (Piece R)). q ∷ l) (through_more ps p rest h.1 e))

through_all : {R : Type 0} (ps : List (Piece R)) → NoneSpent ps → through ps ≡ ps
through_all [] h = refl
through_all {R} (q ∷ ps) h = rw h.0 (ap (λ (l : List (Piece R)). q ∷ l) (through_all ps h.1))

key_more : {R : Type 0} (ps : List (Piece R)) (p : Piece R) → NoneSpent ps → is_some p.spent ≡ true → key_in (ps ++ p ∷ []) ≡ p.spent
key_more [] p h e = rw e refl
key_more (q ∷ ps) p h e = rw h.0 (key_more ps p h.1 e)

key_none : {R : Type 0} (ps : List (Piece R)) → NoneSpent ps → key_in ps ≡ None
key_none [] h = refl
key_none (q ∷ ps) h = rw h.0 (key_none ps h.1)

capped_more : (m n : ℕ) → min (capped m + n) (2 ^ 64 - 1) ≡ capped (m + n)
capped_more m n = omega arith

module _ {R : Type 0} (ps : List (Piece R)) (rows : List (Vec R Global)) (tried : ℕ) (s : IsSummed ps rows tried) where
  rows_with : (p : Piece R) (v : Vec R Global) → v.items ≡ p.rows → joined (lists (rows ++ v ∷ [])) ≡ rows_in (ps ++ p ∷ [])
  rows_with p v e = joined_more rows v ∙ (ap (λ (l : List R). l ++ v.items) s.rows_are ∙ (ap (λ (l : List R). rows_in ps ++ l) e ∙ sym (rows_more ps p)))

  tried_with : (p : Piece R) (n : ℕ) → n ≡ min (tried + p.tried) (2 ^ 64 - 1) → n ≡ capped (tried_in (ps ++ p ∷ []))
  tried_with p n e = e ∙ (ap (λ (k : ℕ). min (k + p.tried) (2 ^ 64 - 1)) s.tried_is ∙ (capped_more (tried_in ps) p.tried ∙ ap capped (sym (tried_more ps p))))

  -- one more that isn't spent
  pub summed_more : (p : Piece R) (v : Vec R Global) (n : ℕ) → v.items ≡ p.rows → n ≡ min (tried + p.tried) (2 ^ 64 - 1) → is_some p.spent ≡ false → IsSummed (ps ++ p ∷ []) (rows ++ v ∷ []) n
  summed_more p v n e m clean = record { none = none_more ps p s.none clean; rows_are = rows_with p v e; tried_is = tried_with p n m }

  -- one that is spent ends the listing
  pub summed_spent : (p : Piece R) (rest all : List (Piece R)) (v : Vec R Global) (n : ℕ) (l : Listing R) → all ≡ ps ++ p ∷ rest → v.items ≡ p.rows → n ≡ min (tried + p.tried) (2 ^ 64 - 1) → is_some p.spent ≡ true
      → l.rows ≡ joined (lists (rows ++ v ∷ [])) → l.tried ≡ n → l.spent ≡ p.spent → IsListingOf all l
  summed_spent p rest all v n l whole e m hit a b d =
      let t : through all ≡ ps ++ p ∷ [] = ap (λ (x : List (Piece R)). through x) whole ∙ through_more ps p rest s.none hit in
      record {
        rows = a ∙ (rows_with p v e ∙ ap (λ (x : List (Piece R)). rows_in x) (sym t));
        tried = b ∙ (tried_with p n m ∙ ap (λ (x : List (Piece R)). capped (tried_in x)) (sym t));
        spent = d ∙ (sym (key_more ps p s.none hit) ∙ ap (λ (x : List (Piece R)). key_in x) (sym t));
      }

  -- all of them
  pub summed_all : (all : List (Piece R)) (l : Listing R) → all ≡ ps → l.rows ≡ joined (lists rows) → l.tried ≡ tried → l.spent ≡ None → IsListingOf all l
  summed_all all l whole a b d =
      let t : through all ≡ ps = ap (λ (x : List (Piece R)). through x) whole ∙ through_all ps s.none in
      record {
        rows = a ∙ (s.rows_are ∙ ap (λ (x : List (Piece R)). rows_in x) (sym t));
        tried = b ∙ (s.tried_is ∙ ap (λ (x : List (Piece R)). capped (tried_in x)) (sym t));
        spent = d ∙ (sym (key_none ps s.none) ∙ ap (λ (x : List (Piece R)). key_in x) (sym t));
      }

pub nothing_left : {A : Type 0} (all done rest : List A) → done ++ rest ≡ all → length rest ≡ 0 → all ≡ done
nothing_left {A} all done [] e n = sym e ∙ append-nil done
nothing_left all done (x ∷ rest) e n = absurd (omega (arith, n))
