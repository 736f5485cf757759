-- Names that an earlier class has.
use Rattle.std.proofs.Common.{◌≡◌, refl, sym, ap, ◌∙◌, subst, ℕ, ◌+◌, ◌<◌, Bool, true, false, ◌||◌, not, List, [], ◌∷◌, ◌++◌, length, length-append, map, append_assoc, zero-add, nat_eq, bytes_eq, get_or, if◌then◌else◌, arith, rules}
use Rattle.std.specs.Prelude.{Option, Some, None, is_some}
use Rattle.std.proofs.lemmas.List.{map-append}
use Rattle.kr_base.specs.declared.place.Place.{Place}
use Rattle.kr_ast.specs.Arena.{Arena, name_in, root}
use Rattle.kr_classes_table.specs.Table.{Table, Class, Heading, classes_from, headings_of, number_from, number_of, is_number, table_of}
use Rattle.kr_classes_table.specs.Rules.{C1, break_if, each_class, is_name_among, least, repeated}
use Rattle.kr_classes_table.specs.Constants.{or_else}
use Rattle.kr_classes_table.proofs.Tables.{bounded_from}
use Rattle.kr_classes_names.proofs.ClassNumbers.{turned}
use Rattle.kr_classes.specs.Faults.{collections, fault_at, first_of_rule, repeats}
use Rattle.kr_classes_members.specs.Shown.{table_in}
use Rattle.kr_classes_names.specs.declared.headings.Heading.{Heading as Kept}
use Rattle.kr_classes_names.specs.Shown.{heading_shown}
use Rattle.kr_classes_names.proofs.Indexes.{choice_or}
use Rattle.kr_ast.specs.Files.{file_at}
use Rattle.kr_classes.proofs.ByClass.{class_kept}
use Rattle.kr_classes_names.proofs.Same.{itself}
use Rattle.kr_types_judging.proofs.Tables.{headings_are}

unfoldable pub onto : List (List ℕ) → List (List ℕ) → List (List ℕ)
onto base [] = base
onto base (n ∷ ns) = onto (n ∷ base) ns

swap : (a b c : Bool) → b || (a || c) ≡ (a || b) || c
swap true true c = refl
swap true false c = refl
swap false true c = refl
swap false false c = refl

either : (a b : Bool) → a || b ≡ b || a
either true true = refl
either true false = refl
either false true = refl
either false false = refl

pub among_onto : (m : List ℕ) (base ns : List (List ℕ)) → is_name_among m (onto base ns) ≡ is_name_among m ns || is_name_among m base
unfolding onto
among_onto m base [] = refl
among_onto m base (n ∷ ns) = among_onto m (n ∷ base) ns ∙ swap (bytes_eq m n) (is_name_among m ns) (is_name_among m base)

onto_push : (base ns : List (List ℕ)) (n : List ℕ) → onto base (ns ++ n ∷ []) ≡ n ∷ onto base ns
unfolding onto
onto_push base [] n = refl
onto_push base (m ∷ ns) n = onto_push (m ∷ base) ns n

number_append : (k : ℕ) (hs gs : List Heading) (n : List ℕ) → number_from k (hs ++ gs) n ≡ or_else (number_from k hs n) (number_from (k + length hs) gs n)
number_append k [] gs n = ap (λ j. number_from j gs n) (omega arith)
number_append k (h ∷ hs) gs n =
    let e : k + 1 + length hs ≡ k + length (h ∷ hs) = omega arith in
    ap (λ r. if bytes_eq h.name n then Some k else r) (number_append (k + 1) hs gs n ∙ ap (λ j. or_else (number_from (k + 1) hs n) (number_from j gs n)) e)
    ∙ choice_or (bytes_eq h.name n) k (number_from (k + 1) hs n) (number_from (k + length (h ∷ hs)) gs n)

some_or : (b : Bool) (k : ℕ) (o : Option ℕ) → is_some (if b then Some k else o) ≡ b || is_some o
some_or true k o = refl
some_or false k o = refl

names : List Heading → List (List ℕ)
names hs = map (λ h. h.name) hs

is_there : (k : ℕ) (hs : List Heading) (n : List ℕ) → is_some (number_from k hs n) ≡ is_name_among n (names hs)
unfolding names
is_there k [] n = refl
is_there k (h ∷ hs) n = some_or (bytes_eq h.name n) k (number_from (k + 1) hs n) ∙ ap (λ b. b || is_some (number_from (k + 1) hs n)) (turned h.name n) ∙ ap (λ b. bytes_eq n h.name || b) (is_there (k + 1) hs n)

less_is_other : (j k : ℕ) → j < k → nat_eq j k ≡ false
less_is_other j k l = grind (arith, l)

same_number : (k : ℕ) → nat_eq k k ≡ true
same_number k = grind (arith, rules)

earlier_or_own : (o : Option ℕ) (k : ℕ) → ((j : ℕ) → o ≡ Some j → j < k) → not (is_number (or_else o (Some k)) (Some k)) ≡ is_some o
earlier_or_own None k b = ap not (same_number k)
earlier_or_own (Some j) k b = ap not (less_is_other j k (b j refl))

-- the first class of a name is this one, or an earlier one has it
first_of : (before after : List Heading) (x : Heading) → not (is_number (number_of (before ++ x ∷ after) x.name) (Some (length before))) ≡ is_name_among x.name (names before)
first_of before after x =
    let n = x.name in
    let own : number_from (0 + length before) (x ∷ after) n ≡ Some (length before) =
    ap (λ b. if b then Some (0 + length before) else number_from (0 + length before + 1) after n) (itself n) ∙ ap Some (zero-add (length before)) in
    ap (λ o. not (is_number o (Some (length before)))) (number_append 0 before (x ∷ after) n ∙ ap (or_else (number_from 0 before n)) own)
    ∙ earlier_or_own (number_from 0 before n) (length before) (λ j e. let b = bounded_from 0 before n j e in omega (arith, b))
    ∙ is_there 0 before n

by_class : (t : Table) (before xs : List Heading) → t.headings ≡ before ++ xs
    → repeated 1 (onto collections (names before)) (map (λ d. (d.name, d.place)) (classes_from t.headings (length before) xs)) ≡ each_class (repeats t) (length before) (classes_from t.headings (length before) xs)
unfolding names
by_class t before [] e = refl
by_class t before (x ∷ xs) e =
    let all = t.headings in
    let base = onto collections (names before) in
    let k = length before in
    let asked : is_name_among x.name base ≡ is_name_among x.name collections || not (is_number (number_of all x.name) (Some k)) =
    among_onto x.name collections (names before) ∙ either (is_name_among x.name (names before)) (is_name_among x.name collections)
    ∙ ap (λ b. is_name_among x.name collections || b) (sym (first_of before xs x) ∙ ap (λ hs. not (is_number (number_of hs x.name) (Some k))) (sym e)) in
    let next = before ++ x ∷ [] in
    let count : length next ≡ k + 1 = length-append before (x ∷ []) in
    let more : onto collections (names next) ≡ x.name ∷ base = ap (onto collections) (map-append (λ (h : Heading). h.name) before (x ∷ [])) ∙ onto_push collections (names before) x.name in
    let rest = by_class t next xs (e ∙ sym (append_assoc before (x ∷ []) xs)) in
    let rest' = subst (λ (j : ℕ). repeated 1 (onto collections (names next)) (map (λ d. (d.name, d.place)) (classes_from all j xs)) ≡ each_class (repeats t) j (classes_from all j xs)) count rest in
    let rest'' = subst (λ (seen : List (List ℕ)). repeated 1 seen (map (λ d. (d.name, d.place)) (classes_from all (k + 1) xs)) ≡ each_class (repeats t) (k + 1) (classes_from all (k + 1) xs)) more rest' in
    ap (λ b. break_if b 1 x.place ++ repeated 1 (x.name ∷ base) (map (λ d. (d.name, d.place)) (classes_from all (k + 1) xs))) asked
    ∙ ap (λ fs. break_if (is_name_among x.name collections || not (is_number (number_of all x.name) (Some k))) 1 x.place ++ fs) rest''

pub first_repeated : (files : List Arena) → first_of_rule repeats (table_in files) ≡ least (C1 (table_in files))
unfolding table_of onto names
first_repeated files = ap least (sym (by_class (table_in files) [] (headings_of (map root files)) refl))

pub repeated_here : (files : List Arena) (xs : List Kept) (x : Kept) (i : ℕ) (d : Class) (place : Option Place) (name : List ℕ) → map (heading_shown files) xs ≡ headings_of (map root files) → i < length xs → x ≡ get_or xs i x
    → name ≡ name_in (file_at files x.file).text x.name
    → fault_at 1 place ≡ least (break_if (is_name_among name collections || not (is_number (number_of (headings_of (map root files)) name) (Some i))) 1 x.place)
    → fault_at 1 place ≡ least (repeats (table_in files) i (get_or (table_in files).classes i d))
repeated_here files xs x i d place name s l e n p =
    let hs = headings_of (map root files) in
    let t = table_in files in
    let c = get_or t.classes i d in
    let same = class_kept files xs x i d s l e in
    let called : name ≡ c.name = n ∙ sym (ap (λ (k : Class). k.name) same) in
    p
    ∙ ap (λ q. least (break_if (is_name_among name collections || not (is_number (number_of hs name) (Some i))) 1 q)) (sym (ap (λ (k : Class). k.place) same))
    ∙ ap (λ m. least (break_if (is_name_among m collections || not (is_number (number_of hs m) (Some i))) 1 c.place)) called
    ∙ ap (λ ys. least (break_if (is_name_among c.name collections || not (is_number (number_of ys c.name) (Some i))) 1 c.place)) (sym (headings_are files))
