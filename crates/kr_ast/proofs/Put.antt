-- Adding a node to a forest.
use Rattle.std.proofs.Common.{◌≡◌, ℕ, suc, ◌+◌, ◌<◌, ◌≤◌, inl, inr, List, [], ◌∷◌, ◌++◌, length, get_or, Some, refl, sym, ap, ◌∙◌, arith, subst, length-append}
use Rattle.std.specs.Prelude.{slice_get}
use Rattle.std.proofs.lemmas.Option.{slice_get_within, slice_get-get_or}
use Rattle.kr_base.specs.declared.place.Place.{Place}
use Rattle.kr_ast.specs.declared.node.Node.{Node}
use Rattle.kr_ast.specs.declared.node.Entry.{Entry}
use Rattle.kr_ast.specs.Arena.{trees, tree_of, tree_at, entry_tree, parts, names, IsPart, ArePartsFrom, AreNamesIn, IsPartOfParent, IsForest}
use Rattle.kr_ast.specs.Forest.{IsFree, IsApart, AreFree, IsIn, AreRoots, adopted}
use Rattle.kr_ast.proofs.Grown.{grow-append}
use Rattle.kr_ast.proofs.Adopted.{push_cases, length-adopted, trees-adopted, apart_other, adopted-append, adopts, before, each_within}
use Rattle.kr_ast.proofs.Roots.{in_append, apart_behind, free_front, free_behind}

parts_map : (es es' : List Entry) (i : ℕ) → ((j c : ℕ) → IsPart es i j c → IsPart es' i j c) → (j : ℕ) (cs : List ℕ) → ArePartsFrom es i j cs → ArePartsFrom es' i j cs
parts_map es es' i h j [] s = tt
parts_map es es' i h j (c ∷ cs) s = (h j c s.0, parts_map es es' i h (j + 1) cs s.1)

parts_new : (es : List Entry) (i : ℕ) (k : ℕ) (cs : List ℕ) → ((j c : ℕ) → slice_get cs j ≡ Some c → IsPart es i (k + j) c) → ArePartsFrom es i k cs
parts_new es i k [] h = tt
parts_new es i k (c ∷ cs) h = (
  subst (λ m. IsPart es i m c) (omega arith) (h 0 c refl),
  parts_new es i (k + 1) cs (λ j b is. subst (λ m. IsPart es i m b) (omega arith) (h (suc j) b is)),
)

-- an older part is not adopted
not_free : (es : List Entry) (d : Entry) (i j c b : ℕ) → i < length es → IsPart es i j c → IsFree es b → c ≡ b → ⊥
not_free es d i j c b lt p f q =
    let at : c < length es = omega (arith, p.below) in
    let e = get_or es c d in
    let there = slice_get-get_or es c d at in
    let up = (p.up e there).0 in
    let own = f e (ap (slice_get es) (sym q) ∙ there) in
    omega (arith, up, own, q, p.below)

old_apart : (es : List Entry) (d : Entry) (i j c : ℕ) → i < length es → IsPart es i j c → (cs : List ℕ) → AreFree es cs → IsApart c cs
old_apart es d i j c lt p [] f = tt
old_apart es d i j c lt p (b ∷ bs) f = (not_free es d i j c b lt p f.1, old_apart es d i j c lt p bs f.3)

-- the index of a listed number
placed : (c : ℕ) (cs : List ℕ) → IsIn c cs → (m : ℕ) × (slice_get cs m ≡ Some c)
placed c [] h = absurd h
placed c (b ∷ bs) h = elim h [
  | inl q ↦ (0, ap Some (sym q))
  | inr r ↦ let p = placed c bs r in (suc p.0, p.1)
]

-- a node that is not listed is apart from the listed ones
apart_from : (a c : ℕ) (fs cs : List ℕ) (es : List Entry) → AreFree es (fs ++ cs) → IsIn a fs → IsIn c cs → a ≡ c → ⊥
apart_from a c [] cs es f h i q = absurd h
apart_from a c (b ∷ bs) cs es f h i q = elim h [
  | inl w ↦ apart_of b c cs (apart_behind b bs cs f.2) i (sym w ∙ q)
  | inr r ↦ apart_from a c bs cs es f.3 r i q
]
  where
    apart_of : (b c : ℕ) (cs : List ℕ) → IsApart b cs → IsIn c cs → b ≡ c → ⊥
    apart_of b c [] a i q = absurd i
    apart_of b c (d ∷ ds) a i q = elim i [ inl w ↦ a.0 (q ∙ w) | inr r ↦ apart_of b c ds a.1 r q ]

apart_all : (c : ℕ) (fs : List ℕ) → ((a : ℕ) → IsIn a fs → a ≡ c → ⊥) → IsApart c fs
apart_all c [] h = tt
apart_all c (a ∷ fs) h = ((λ q. h a (inl refl) (sym q)), apart_all c fs (λ b i. h b (inr i)))

-- nodes below a bound, each free
record Stand (es : List Entry) (c : ℕ) : Type 0 where
  within : c < length es
  free : IsFree es c

stand_of : (es : List Entry) (cs : List ℕ) (c : ℕ) → AreFree es cs → IsIn c cs → Stand es c
stand_of es [] c f i = absurd i
stand_of es (b ∷ bs) c f i = elim i [
  | inl q ↦ subst (Stand es) (sym q) (record { within = f.0; free = f.1 })
  | inr r ↦ stand_of es bs c f.3 r
]

free_by : (es es' : List Entry) (cs : List ℕ) → ((c : ℕ) → IsIn c cs → Stand es' c) → AreFree es cs → AreFree es' cs
free_by es es' [] h f = tt
free_by es es' (c ∷ cs) h f = ((h c (inl refl)).within, (h c (inl refl)).free, f.2, free_by es es' cs (λ b i. h b (inr i)) f.3)

module _ (d : Entry) (es : List Entry) (n : Node) (p : Place) (q : ℕ) where
  abbrev es' : List Entry
  es' = adopted d es (length es) 0 (parts n)

  abbrev new : Entry
  new = record { place = p; node = n; parent = length es; position = q }

  abbrev all : List Entry
  all = es' ++ new ∷ []

  long : length es' ≡ length es
  long = length-adopted d es (length es) 0 (parts n)

  longer : length all ≡ length es + 1
  longer = omega (arith, length-append es' (new ∷ []), long)

  inner : (c : ℕ) (e : Entry) → c < length es → slice_get all c ≡ Some e → slice_get es' c ≡ Some e
  inner c e lt is = elim (push_cases es' new c e is) [ inl l ↦ l | inr r ↦ absurd (omega (arith, r.0, long)) ]

  module _ (text : List ℕ) (f : IsForest text es) (free : AreFree es (parts n)) (named : AreNamesIn text (names n)) where
    kept : (i : ℕ) → i < length es → (j c : ℕ) → IsPart es i j c → IsPart all i j c
    kept i lt j c part = record {
      below = part.below;
      up = λ e is. part.up e (sym (apart_other d es (length es) 0 c (parts n) (old_apart es d i j c lt part (parts n) free)) ∙ inner c e (omega (arith, part.below)) is);
    }

    stands_old : (i : ℕ) (e : Entry) → slice_get es' i ≡ Some e → ArePartsFrom all i 0 (parts e.node)
    stands_old i e l =
        let b = before d es (length es) 0 i e (parts n) free l in
        subst (λ n. ArePartsFrom all i 0 (parts n)) b.node (parts_map es all i (kept i (slice_get_within es i b.old b.there)) 0 (parts b.old.node) (f.stands i b.old b.there))

    stands_here : (i : ℕ) (e : Entry) → i ≡ length es' → new ≡ e → ArePartsFrom all i 0 (parts e.node)
    stands_here i e at is =
        subst (λ (e : Entry). ArePartsFrom all i 0 (parts e.node)) is (parts_new all i 0 (parts n) (λ j c in_parts.
        let lt = each_within es (parts n) j c free in_parts in
        record {
          below = omega (arith, lt, at, long);
          up = λ e is. let a = (adopts d es (length es) 0 (parts n) free j c in_parts).has e (inner c e lt is) in (omega (arith, a.0, at, long), omega (arith, a.1));
        }))

    up_old : (i : ℕ) (e : Entry) → slice_get es' i ≡ Some e → (i ≤ e.parent) × (e.parent < length all)
    up_old i e l =
        let b = before d es (length es) 0 i e (parts n) free l in
        let u = f.up i b.old b.there in
        let lt = slice_get_within es i b.old b.there in
        elim b.parent [ inl q ↦ (omega (arith, u.0, q.0), omega (arith, u.1, q.0, longer)) | inr q ↦ (omega (arith, q.1, lt), omega (arith, q.1, longer)) ]

    up_here : (i : ℕ) (e : Entry) → i ≡ length es' → new ≡ e → (i ≤ e.parent) × (e.parent < length all)
    up_here i e at is = let q : length es ≡ e.parent = ap (λ (e : Entry). e.parent) is in (omega (arith, q, at, long), omega (arith, q, longer))

    held_old : (i : ℕ) (e : Entry) → slice_get es' i ≡ Some e → i < e.parent → IsPartOfParent all i e
    held_old i e l lt p is =
        let b = before d es (length es) 0 i e (parts n) free l in
        elim b.parent [
          | inl q ↦
              let u = f.up i b.old b.there in
              let o = before d es (length es) 0 e.parent p (parts n) free (inner e.parent p (omega (arith, u.1, q.0)) is) in
              let h = f.held i b.old b.there (omega (arith, lt, q.0)) o.old (ap (slice_get es) q.0 ∙ o.there) in
              ap (slice_get (parts p.node)) (sym q.1) ∙ ap (λ (n : Node). slice_get (parts n) b.old.position) (sym o.node) ∙ h
          | inr q ↦
              let m = placed i (parts n) q.0 in
              let a = (adopts d es (length es) 0 (parts n) free m.0 i m.1).has e l in
              let at : e.position ≡ m.0 = omega (arith, a.1) in
              elim (push_cases es' new e.parent p is) [
                | inl r ↦ absurd (omega (arith, slice_get_within es' e.parent p r, a.0, long))
                | inr r ↦ ap (λ (p : Entry). slice_get (parts p.node) e.position) (sym r.1) ∙ ap (slice_get (parts n)) at ∙ m.1
              ]
        ]

    held_here : (i : ℕ) (e : Entry) → i ≡ length es' → new ≡ e → i < e.parent → IsPartOfParent all i e
    held_here i e at is lt p there = let q : length es ≡ e.parent = ap (λ (e : Entry). e.parent) is in absurd (omega (arith, q, at, long, lt))

    named_old : (i : ℕ) (e : Entry) → slice_get es' i ≡ Some e → AreNamesIn text (names e.node)
    named_old i e l =
        let b = before d es (length es) 0 i e (parts n) free l in
        subst (λ n. AreNamesIn text (names n)) b.node (f.named i b.old b.there)

    forest : IsForest text all
    forest = record {
      stands = λ i e is. elim (push_cases es' new i e is) [ inl l ↦ stands_old i e l | inr r ↦ stands_here i e r.0 r.1 ];
      up = λ i e is. elim (push_cases es' new i e is) [ inl l ↦ up_old i e l | inr r ↦ up_here i e r.0 r.1 ];
      held = λ i e is. elim (push_cases es' new i e is) [ inl l ↦ held_old i e l | inr r ↦ held_here i e r.0 r.1 ];
      named = λ i e is. elim (push_cases es' new i e is) [ inl l ↦ named_old i e l | inr r ↦ subst (λ (e : Entry). AreNamesIn text (names e.node)) r.1 named ];
    }

  module _ (rest : List ℕ) (r : AreRoots es (parts n ++ rest)) where
    free : AreFree es (parts n)
    free = free_front es (parts n) rest r.free

    rest_free : AreFree es rest
    rest_free = free_behind es (parts n) rest r.free

    rest_apart : (c : ℕ) → IsIn c rest → IsApart c (parts n)
    rest_apart c i = apart_all c (parts n) (λ a h. apart_from a c (parts n) rest es r.free h i)

    rest_stands : (c : ℕ) → IsIn c rest → Stand all c
    rest_stands c i =
        let s = stand_of es rest c rest_free i in
        record {
          within = omega (arith, s.within, longer);
          free = λ e is. s.free e (sym (apart_other d es (length es) 0 c (parts n) (rest_apart c i)) ∙ inner c e s.within is);
        }

    at_free : IsFree all (length es)
    at_free e is = elim (push_cases es' new (length es) e is) [
      | inl l ↦ absurd (omega (arith, slice_get_within es' (length es) e l, long))
      | inr r ↦ sym (ap (λ (e : Entry). e.parent) r.1)
    ]

    only_old : (i : ℕ) (e : Entry) → slice_get es' i ≡ Some e → e.parent ≡ i → IsIn i (length es ∷ rest)
    only_old i e l own =
        let b = before d es (length es) 0 i e (parts n) free l in
        let lt = slice_get_within es i b.old b.there in
        elim b.parent [
          | inl q ↦ elim (in_append i (parts n) rest (r.only i b.old b.there (q.0 ∙ own))) [
            | inl h ↦ let m = placed i (parts n) h in absurd (omega (arith, lt, own, ((adopts d es (length es) 0 (parts n) free m.0 i m.1).has e l).0))
            | inr h ↦ inr h
          ]
          | inr q ↦ absurd (omega (arith, q.1, lt, own))
        ]

    roots : AreRoots all (length es ∷ rest)
    roots = record {
      free = (
        omega (arith, longer),
        at_free,
        apart_all (length es) rest (λ a i q. omega (arith, q, (stand_of es rest a rest_free i).within)),
        free_by es all rest rest_stands rest_free,
      );
      only = λ i e is own. elim (push_cases es' new i e is) [ inl l ↦ only_old i e l own | inr w ↦ inl (w.0 ∙ long) ];
    }

abbrev entry_at : Place → Node → ℕ → Entry
entry_at p n at = record { place = p; node = n; parent = at; position = 0 }

-- pushed first, then its parts are adopted
module _ (d : Entry) (es es1 es2 : List Entry) (n : Node) (p : Place) (at : ℕ) (free : AreFree es (parts n)) (here : at ≡ length es) (pushed : es1 ≡ es ++ entry_at p n at ∷ []) (owned : es2 ≡ adopted d es1 at 0 (parts n)) where
  made : adopted d es (length es) 0 (parts n) ++ entry_at p n (length es) ∷ [] ≡ es2
  made = sym (
      owned
      ∙ ap (λ l. adopted d l at 0 (parts n)) pushed
      ∙ ap (λ k. adopted d (es ++ entry_at p n k ∷ []) k 0 (parts n)) here
      ∙ adopted-append d es (entry_at p n (length es)) (length es) 0 (parts n) free
      )

  pub forest_put : (text : List ℕ) → IsForest text es → AreNamesIn text (names n) → IsForest text es2
  forest_put text f named = subst (IsForest text) made (forest d es n p 0 text f free named)

  pub trees_put : (text : List ℕ) → trees text es2 ≡ trees text es ++ tree_of text (tree_at text es) p n ∷ []
  unfolding trees
  trees_put text =
      ap (trees text) owned
      ∙ trees-adopted text d es1 at 0 (parts n)
      ∙ ap (trees text) pushed
      ∙ grow-append (entry_tree text) [] es (entry_at p n at)

  pub roots_put : (rest : List ℕ) → AreRoots es (parts n ++ rest) → AreRoots es2 (at ∷ rest)
  roots_put rest r = subst (λ k. AreRoots es2 (k ∷ rest)) (sym here) (subst (λ l. AreRoots l (length es ∷ rest)) made (roots d es n p 0 rest r))

  pub length_put : length es2 ≡ length es + 1
  length_put = omega (arith, ap length owned, length-adopted d es1 at 0 (parts n), ap length pushed, length-append es (entry_at p n at ∷ []))
