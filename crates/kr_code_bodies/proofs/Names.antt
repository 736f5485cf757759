-- Names by their numbers: `length` is the first alone, and the name used for the others is no field's.
use Rattle.std.proofs.Common.{◌≡◌, All, subst, refl, sym, ap, ◌∙◌, ℕ, zero, suc, ◌+◌, ◌<◌, ◌≤◌, Bool, true, false, nat_eq, List, [], ◌∷◌, length, get_or, arith, length-append, ◌⊎◌, inl, inr, bytes_eq, if◌then◌else◌}
use Rattle.std.specs.Prelude.{Some, None, codes, flat_map, reverse, slice_get}
use Rattle.std.proofs.lemmas.List.{get_or_past}
use Rattle.std.proofs.lemmas.List.Elements.{All-append, All-cons, All-head, All-nil, All-tail}
use Rattle.std.proofs.lemmas.Option.{get_or_from_slice_get, slice_get-get_or, slice_get_within}
use Rattle.std.proofs.lemmas.Slice.Eq.{bytes_eq-Decides}
use Rattle.kr_ast.specs.Arena.{Arena}
use Rattle.kr_classes_table.specs.Table.{Table, Field, fields_of, is_instance, line_of, own_fields}
use Rattle.kr_classes_members.specs.Shown.{table_in}
use Rattle.kr_classes_names.specs.ListedTypes.{AreApart}
use Rattle.kr_classes_names.proofs.ClassNumbers.{is_other}
use Rattle.kr_mean.specs.Program.{position_from}
use Rattle.kr_classes_members.specs.Rosters.{all_fields, fields_of_class, first_of, no_field, no_name}
use Rattle.kr_classes_members.proofs.Sections.{section}
use Rattle.kr_code_bodies.specs.Tabled.{IsPosition, name_numbered}
use Rattle.kr_code_bodies.proofs.Initial.{own_number}

-- ---- fields with names no longer than this

abbrev IsShort : ℕ → Field → Type 0
IsShort n f = length f.name ≤ n

short_all : (n : ℕ) (fs : List Field) → length (flat_map (λ (f : Field). f.name) fs) ≤ n → All (IsShort n) fs
short_all n [] l = All-nil (IsShort n)
short_all n (f ∷ fs) l =
    let s = length-append f.name (flat_map (λ (f : Field). f.name) fs) in
    All-cons (IsShort n) f fs (omega (arith, l, s)) (short_all n fs (omega (arith, l, s)))

short_instance : (n : ℕ) (f : Field) → length f.name ≤ n → All (IsShort n) (is_instance f)
short_instance n f l = go f.is_static
  where
    go : (b : Bool) → All (IsShort n) (if b then [] else f ∷ [])
    go true = All-nil (IsShort n)
    go false = All-cons (IsShort n) f [] l (All-nil (IsShort n))

short_instances : (n : ℕ) (fs : List Field) → All (IsShort n) fs → All (IsShort n) (flat_map is_instance fs)
short_instances n [] a = All-nil (IsShort n)
short_instances n (f ∷ fs) a = All-append (IsShort n) (is_instance f) (flat_map is_instance fs) (short_instance n f (All-head (IsShort n) f fs a)) (short_instances n fs (All-tail (IsShort n) f fs a))

short_own : (n : ℕ) (t : Table) (c : ℕ) → All (IsShort n) (all_fields t) → All (IsShort n) (own_fields t c)
short_own n t c a j d l =
    let i = first_of fields_of_class t c + j in
    let at = section fields_of_class t.classes c j l ∙ slice_get-get_or (own_fields t c) j d l in
    subst (IsShort n) (own_number t c j d l) (a i (no_field t) (slice_get_within (all_fields t) i (get_or (own_fields t c) j d) at))

short_line : (n : ℕ) (t : Table) (cs : List ℕ) → All (IsShort n) (all_fields t) → All (IsShort n) (flat_map (own_fields t) cs)
short_line n t [] a = All-nil (IsShort n)
short_line n t (c ∷ cs) a = All-append (IsShort n) (own_fields t c) (flat_map (own_fields t) cs) (short_own n t c a) (short_line n t cs a)

other_name : (x y : List ℕ) → length x < length y → bytes_eq x y ≡ false
other_name x y l = go (bytes_eq x y) refl
  where
    go : (b : Bool) → bytes_eq x y ≡ b → bytes_eq x y ≡ false
    go true e = let s = ap length ((bytes_eq-Decides x y).0 e) in absurd (omega (arith, l, s))
    go false e = e

unpositioned : (n k : ℕ) (fs : List Field) (name : List ℕ) → All (IsShort n) fs → n < length name → position_from k fs name ≡ None
unpositioned n k [] name a l = refl
unpositioned n k (f ∷ fs) name a l =
    let s = All-head (IsShort n) f fs a in
    ap (λ b. if b then Some k else position_from (k + 1) fs name) (other_name f.name name (omega (arith, s, l))) ∙ unpositioned n (k + 1) fs name (All-tail (IsShort n) f fs a) l

-- no object has a field of that name
pub no_position : (files : List Arena) (c : ℕ) → IsPosition files (no_name (table_in files)) c None
no_position files c =
    let t = table_in files in
    let n = length (flat_map (λ (f : Field). f.name) (all_fields t)) in
    sym (unpositioned n 0 (fields_of t c) (no_name t) (short_instances n (flat_map (own_fields t) (reverse (line_of t c))) (short_line n t (reverse (line_of t c)) (short_all n (all_fields t) (omega arith)))) (omega arith))

-- ---- the first name

module _ (files : List Arena) (names : List (List ℕ)) (apart : AreApart names) (first : slice_get names 0 ≡ Some (codes "length")) where
  abbrev d : List ℕ
  d = no_name (table_in files)

  second : (j : ℕ) → suc j < length names → (b : Bool) → bytes_eq (get_or names (suc j) d) (codes "length") ≡ b → b ≡ nat_eq (suc j) 0
  second j h true e =
      let same = (bytes_eq-Decides (get_or names (suc j) d) (codes "length")).0 e in
      let at : suc j ≡ 0 = apart (suc j) 0 (codes "length") (slice_get-get_or names (suc j) d h ∙ ap Some same) first in
      absurd (omega (arith, at))
  second j h false e = sym (is_other (suc j) 0 (λ s. absurd (omega (arith, s))))

  inside : (k : ℕ) → k < length names → bytes_eq (get_or names k d) (codes "length") ≡ nat_eq k 0
  inside zero h = (bytes_eq-Decides (get_or names 0 d) (codes "length")).1 (get_or_from_slice_get names 0 (codes "length") d first)
  inside (suc j) h = second j h (bytes_eq (get_or names (suc j) d) (codes "length")) refl

  pub length_alone : (k : ℕ) → bytes_eq (name_numbered files names k) (codes "length") ≡ nat_eq k 0
  length_alone k = elim (let e : (k < length names) ⊎ (length names ≤ k) = grind arith in e) [
    | inl h ↦ inside k h
    | inr l ↦ (let some = slice_get_within names 0 (codes "length") first in ap (λ x. bytes_eq x (codes "length")) (get_or_past names k d l) ∙ sym (is_other k 0 (λ s. absurd (omega (arith, s, l, some)))))
  ]
