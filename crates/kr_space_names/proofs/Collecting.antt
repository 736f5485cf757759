-- Numbers of types, collected one after another, while there come more types.
use Rattle.std.proofs.Common.{◌≡◌, ℕ, suc, ◌+◌, ◌<◌, Bool, true, false, cond, List, [], ◌∷◌, ◌++◌, length, map, get_or, drop, refl, sym, ap, subst, ◌∙◌, append_assoc, arith}
use Rattle.std.specs.Prelude.{◌||◌, ◌==◌, flat_map, reverse}
use Rattle.std.proofs.lemmas.Bool.{cond-true, cond-false}
use Rattle.std.proofs.lemmas.List.{drop_more, map-append, reverse-append}
use Rattle.std.proofs.lemmas.List.Concat.{flat_map-append}
use Rattle.std.proofs.lemmas.List.Elements.{All-append, All-nil, All-from_recursion}
use Rattle.std.proofs.lemmas.List.Sums.{fold-append}
use Rattle.kr_ast.specs.Arena.{Arena, root}
use Rattle.kr_ast.specs.Tree.{Tree}
use Rattle.kr_classes_table.specs.Types.{JavaType}
use Rattle.kr_classes_table.specs.Arrays.{arrays_in, is_listed}
use Rattle.kr_classes_table.specs.Nodes.{nodes}
use Rattle.kr_classes_names.specs.Types.{TypeList, AreDistinct, Extends, count, type_at}
use Rattle.kr_classes_names.specs.Numbers.{AreNodeTypes, named_type, number_in}
use Rattle.kr_classes_names.proofs.Growing.{number_kept}
use Rattle.kr_space_names.specs.Collected.{AreNumbers, collect, collected, types_shown}
use Rattle.kr_space_names.specs.Numbers.{has_number, with_number}

-- ---- whether a type is there

-- types are listed where their numbers are
pub listed_number : (l : TypeList) (ns : List ℕ) (n : ℕ) → AreDistinct l → AreNumbers l ns → n < count l → is_listed (type_at l n) (types_shown l ns) ≡ has_number ns n
listed_number l [] n d h k = refl
listed_number l (m ∷ ms) n d h k =
    ap (λ (b : Bool). b || is_listed (type_at l n) (types_shown l ms)) (d n m k (h 0 m (omega arith)))
    ∙ ap (λ (b : Bool). (n == m) || b) (listed_number l ms n d (λ i e q. h (suc i) e (omega (arith, q))) k)

-- ---- one type more

pub collect_there : (done : List JavaType) (t : JavaType) (b : Bool) → b ≡ is_listed t done → b ≡ true → done ≡ collect done t
collect_there done t b e h = sym (cond-true (is_listed t done) done (done ++ t ∷ []) (sym e ∙ h))

pub collect_new : (l : TypeList) (ns : List ℕ) (n : ℕ) (b : Bool) → b ≡ is_listed (type_at l n) (types_shown l ns) → b ≡ false → types_shown l (ns ++ n ∷ []) ≡ collect (types_shown l ns) (type_at l n)
collect_new l ns n b e h =
    map-append (type_at l) ns (n ∷ [])
    ∙ sym (cond-false (is_listed (type_at l n) (types_shown l ns)) (types_shown l ns) (types_shown l ns ++ type_at l n ∷ []) (sym e ∙ h))

pub numbers_more : (l : TypeList) (ns : List ℕ) (n : ℕ) → AreNumbers l ns → n < count l → AreNumbers l (ns ++ n ∷ [])
numbers_more l ns n h k = All-append (λ (m : ℕ). m < count l) ns (n ∷ []) h (All-from_recursion (λ (m : ℕ). m < count l) (n ∷ []) (k, tt))

pub collect_number : (l : TypeList) (ns ns' : List ℕ) (n : ℕ) → AreDistinct l → AreNumbers l ns → n < count l → ns' ≡ with_number ns n → types_shown l ns' ≡ collect (types_shown l ns) (type_at l n)
collect_number l ns ns' n d h k e = ap (λ (ms : List ℕ). types_shown l ms) e ∙ go (has_number ns n) (listed_number l ns n d h k)
  where
    go : (b : Bool) → is_listed (type_at l n) (types_shown l ns) ≡ b → types_shown l (cond b ns (ns ++ n ∷ [])) ≡ collect (types_shown l ns) (type_at l n)
    go true f = collect_there (types_shown l ns) (type_at l n) true (sym f) refl
    go false f = collect_new l ns n false (sym f) refl

pub numbers_with : (l : TypeList) (ns ns' : List ℕ) (n : ℕ) → AreNumbers l ns → n < count l → ns' ≡ with_number ns n → AreNumbers l ns'
numbers_with l ns ns' n h k e = subst (λ (ms : List ℕ). AreNumbers l ms) (sym e) (go (has_number ns n))
  where
    go : (b : Bool) → AreNumbers l (cond b ns (ns ++ n ∷ []))
    go true = h
    go false = numbers_more l ns n h k

pub no_numbers : (l : TypeList) (ns : List ℕ) → ns ≡ [] → AreNumbers l ns
no_numbers l ns e = subst (λ (ms : List ℕ). AreNumbers l ms) (sym e) (All-nil (λ (m : ℕ). m < count l))

-- ---- a list of types, one after another

pub collected_next : (l : TypeList) (all done done' : List JavaType) (ns : List ℕ) (i x : ℕ) → i < length ns → x ≡ get_or ns i x → all ≡ collected done (types_shown l (drop i ns)) → done' ≡ collect done (type_at l x) → all ≡ collected done' (types_shown l (drop (i + 1) ns))
collected_next l all done done' ns i x h e k d =
    k ∙ (ap (λ (ms : List ℕ). collected done (types_shown l ms)) (drop_more ns i x h)
    ∙ (ap (λ (n : ℕ). collected (collect done (type_at l n)) (types_shown l (drop (i + 1) ns))) (sym e)
    ∙ ap (λ (ts : List JavaType). collected ts (types_shown l (drop (i + 1) ns))) (sym d)))

-- the types in an item of a list, and those left
pub flat_next : {A B : Type 0} (f : B → List JavaType) (v : A → B) (all done done' : List JavaType) (xs : List A) (i : ℕ) (x : A) → i < length xs → x ≡ get_or xs i x → all ≡ collected done (flat_map f (map v (drop i xs)))
    → done' ≡ collected done (f (v x)) → all ≡ collected done' (flat_map f (map v (drop (i + 1) xs)))
flat_next {A = A} f v all done done' xs i x h e k d =
    let rest = flat_map f (map v (drop (i + 1) xs)) in
    k ∙ (ap (λ (ys : List A). collected done (flat_map f (map v ys))) (drop_more xs i x h)
    ∙ (fold-append collect done (f (v (get_or xs i x))) rest
    ∙ (ap (λ (y : A). collected (collected done (f (v y))) rest) (sym e)
    ∙ ap (λ (ts : List JavaType). collected ts rest) (sym d))))

-- the types in a file's nodes, and those left
pub file_next : (f : Tree → List JavaType) (all done done' : List JavaType) (files : List Arena) (i : ℕ) (d : Arena) → i < length files → all ≡ collected done (flat_map f (flat_map nodes (map root (drop i files))))
    → done' ≡ collected done (flat_map f (nodes (root (get_or files i d)))) → all ≡ collected done' (flat_map f (flat_map nodes (map root (drop (i + 1) files))))
file_next f all done done' files i d h k e =
    let here = nodes (root (get_or files i d)) in
    let rest = flat_map nodes (map root (drop (i + 1) files)) in
    k ∙ (ap (λ (ys : List Arena). collected done (flat_map f (flat_map nodes (map root ys)))) (drop_more files i d h)
    ∙ (ap (λ (ts : List JavaType). collected done ts) (flat_map-append f here rest)
    ∙ (fold-append collect done (flat_map f here) (flat_map f rest)
    ∙ ap (λ (ts : List JavaType). collected ts (flat_map f rest)) (sym e))))

-- ---- the array types in a type, from the outermost on

pub inner_numbers : (l : TypeList) (ns ns' : List ℕ) (n : ℕ) (b : Bool) → ns' ≡ ns ++ cond b (n ∷ []) [] → n < count l → AreNumbers l (reverse ns) → AreNumbers l (reverse ns')
inner_numbers l ns ns' n true e h k =
    subst (λ (ms : List ℕ). AreNumbers l (reverse ms)) (sym e)
    (subst (λ (ms : List ℕ). AreNumbers l ms) (sym (reverse-append ns (n ∷ []))) (All-append (λ (m : ℕ). m < count l) (n ∷ []) (reverse ns) (All-from_recursion (λ (m : ℕ). m < count l) (n ∷ []) (h, tt)) k))
inner_numbers l ns ns' n false e h k =
    subst (λ (ms : List ℕ). AreNumbers l (reverse ms)) (sym e) (subst (λ (ms : List ℕ). AreNumbers l ms) (sym (reverse-append ns [])) k)

pub inner_shown : (l : TypeList) (all : List JavaType) (ns ns' : List ℕ) (n m : ℕ) (b : Bool) → ns' ≡ ns ++ cond b (n ∷ []) [] → arrays_in (type_at l n) ≡ arrays_in (type_at l m) ++ cond b (type_at l n ∷ []) []
    → all ≡ arrays_in (type_at l n) ++ types_shown l (reverse ns) → all ≡ arrays_in (type_at l m) ++ types_shown l (reverse ns')
inner_shown l all ns ns' n m b e s k =
    k ∙ (ap (λ (ts : List JavaType). ts ++ types_shown l (reverse ns)) s
    ∙ (append_assoc (arrays_in (type_at l m)) (cond b (type_at l n ∷ []) []) (types_shown l (reverse ns))
    ∙ ap (λ (ts : List JavaType). arrays_in (type_at l m) ++ ts) (front b ∙ ap (λ (ms : List ℕ). types_shown l (reverse ms)) (sym e))))
  where
    front : (b : Bool) → cond b (type_at l n ∷ []) [] ++ types_shown l (reverse ns) ≡ types_shown l (reverse (ns ++ cond b (n ∷ []) []))
    front true = ap (λ (ms : List ℕ). types_shown l ms) (sym (reverse-append ns (n ∷ [])))
    front false = ap (λ (ms : List ℕ). types_shown l ms) (sym (reverse-append ns []))

-- ---- more types

pub numbers_kept : (a b : TypeList) (ns : List ℕ) → Extends a b → AreNumbers a ns → AreNumbers b ns
numbers_kept a b ns e h = λ k d l. let m = e.more in let n = h k d l in omega (arith, m, n)

pub shown_kept : (a b : TypeList) (ns : List ℕ) → Extends a b → AreNumbers a ns → types_shown b ns ≡ types_shown a ns
shown_kept a b [] e h = refl
shown_kept a b (n ∷ ns) e h =
    ap (λ (t : JavaType). t ∷ types_shown b ns) (e.same n (h 0 n (omega arith)))
    ∙ ap (λ (ts : List JavaType). type_at a n ∷ ts) (shown_kept a b ns e (λ k d l. h (suc k) d (omega (arith, l))))

pub collected_kept : (a b : TypeList) (ns : List ℕ) (now ts us : List JavaType) → Extends a b → AreNumbers a ns → ts ≡ us → now ≡ collected (types_shown b ns) us → now ≡ collected (types_shown a ns) ts
collected_kept a b ns now ts us e h s k =
    k ∙ (ap (λ (done : List JavaType). collected done us) (shown_kept a b ns e h) ∙ ap (λ (xs : List JavaType). collected (types_shown a ns) xs) (sym s))

pub node_types_kept : (files : List Arena) (a b : TypeList) (ns : List (List ℕ)) → Extends a b → AreNodeTypes files a ns → AreNodeTypes files b ns
node_types_kept files a b ns e h = λ f n. number_kept a b (number_in ns f n) (named_type files f n) e (h f n)
