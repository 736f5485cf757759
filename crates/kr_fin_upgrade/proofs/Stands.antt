-- The names of a document of version 1 stand for the same classes after it is carried over.
use Rattle.std.proofs.Common.{◌≡◌, ℕ, ◌==◌, Bool, true, false, ◌||◌, cond, List, [], ◌∷◌, ◌++◌, Ordering, Less, Equal, Greater, nat_cmp, is_eq, Option, Some, None, is_none, refl, sym, ap, ◌∙◌, subst}
use Rattle.std.specs.Prelude.{bytes_eq, find, flat_map, option_and_then, if◌then◌else◌}
use Rattle.std.specs.List.{AllByRecursion}
use Rattle.std.specs.Cmp.Lexicographic.{slice_cmp}
use Rattle.std.proofs.lemmas.Slice.Eq.{bytes_eq-Decides}
use Rattle.kr_classes_table.specs.Table.{Heading, number_of}
use Rattle.kr_fin.specs.declared.document.Count.{Count}
use Rattle.kr_fin.specs.declared.document.FinDoc.{FinDoc}
use Rattle.kr_fin.specs.declared.document.NamedDomain.{NamedDomain}
use Rattle.kr_fin.specs.declared.document.Item.{Item}
use Rattle.kr_fin.specs.declared.document.Item.TheVariants.{Number, Range, Truth, Name}
use Rattle.kr_fin.specs.Shapes.{is_domain_name}
use Rattle.kr_space_meaning.specs.Names.{NoReference, Unknown, array_meant, class_meant, class_of, meant}
use Rattle.kr_space_meaning.specs.Faults.{is_unknown}
use Rattle.kr_fin_upgrade.specs.Laws.{AreDomainNames}
use Rattle.kr_fin_upgrade.specs.Upgraded.{domain_lines, has_line, item_lines, line, name_lines}
use Rattle.kr_fin_upgrade.proofs.Added.{equal_is}
use Rattle.kr_fin_upgrade.proofs.Meant.{no_array, no_class, not_null}
use Rattle.kr_fin_upgrade.proofs.Values.{second}
use Rattle.kr_space_meaning.proofs.Each.{each_back, each_flat, each_front, each_weaker}

-- ---- the class of a name's line

-- the class of the first line of a name
abbrev class_in : List Heading → List Count → List ℕ → Option ℕ
class_in hs cs n = option_and_then (λ (c : Count). number_of hs c.class) (find (λ (c : Count). bytes_eq c.name n) cs)

own_class : (hs : List Heading) (c : Count) (n : List ℕ) → c.class ≡ c.name → bytes_eq c.name n ≡ true → number_of hs c.class ≡ number_of hs n
own_class hs c n own is = ap (number_of hs) (own ∙ (bytes_eq-Decides c.name n).0 is)

found : (hs : List Heading) (cs : List Count) (n : List ℕ) → AllByRecursion (λ c. c.class ≡ c.name) cs → has_line cs n ≡ true → class_in hs cs n ≡ number_of hs n
found hs [] n h e = absurd (cc (e))
found hs (c ∷ cs) n h e = go (bytes_eq c.name n) refl (found hs cs n h.1)
  where
    unlike : bytes_eq c.name n ≡ false → (o : Ordering) → slice_cmp nat_cmp n c.name ≡ o → is_eq o ≡ false
    unlike other Less is = refl
    unlike other Greater is = refl
    unlike other Equal is = let same : bytes_eq c.name n ≡ true = (bytes_eq-Decides c.name n).1 (sym (equal_is n c.name is)) in absurd (cc (other, same))

    go : (b : Bool) → bytes_eq c.name n ≡ b → (has_line cs n ≡ true → class_in hs cs n ≡ number_of hs n)
        → option_and_then (λ (x : Count). number_of hs x.class) (cond b (Some c) (find (λ (x : Count). bytes_eq x.name n) cs)) ≡ number_of hs n
    go true is rest = own_class hs c n h.0 is
    go false is rest = rest (subst (λ (b : Bool). (b || has_line cs n) ≡ true) (unlike is (slice_cmp nat_cmp n c.name) refl) e)

unfound : (hs : List Heading) (cs : List Count) (n : List ℕ) → AllByRecursion (λ c. c.class ≡ c.name) cs → number_of hs n ≡ None → class_in hs cs n ≡ None
unfound hs [] n h e = refl
unfound hs (c ∷ cs) n h e = go (bytes_eq c.name n) refl (unfound hs cs n h.1 e)
  where
    go : (b : Bool) → bytes_eq c.name n ≡ b → class_in hs cs n ≡ None → option_and_then (λ (x : Count). number_of hs x.class) (cond b (Some c) (find (λ (x : Count). bytes_eq x.name n) cs)) ≡ None
    go true is rest = own_class hs c n h.0 is ∙ e
    go false is rest = rest

pub first_class : (hs : List Heading) (d : FinDoc) (n : List ℕ) → (d.version == 2) ≡ false → class_of hs d n ≡ number_of hs n
unfolding class_of
first_class hs d n first = ap (λ (b : Bool). cond b (class_in hs d.objects n) (number_of hs n)) first

second_class : (hs : List Heading) (cs : List Count) (d : FinDoc) (n : List ℕ) → class_of hs (second cs d) n ≡ class_in hs cs n
unfolding class_of
second_class hs cs d n = refl

-- a name that has a line where it may have one
pub same_name : (hs : List Heading) (cs : List Count) (d : FinDoc) (n : List ℕ) → AreDomainNames hs → (d.version == 2) ≡ false → AllByRecursion (λ c. c.class ≡ c.name) cs → (is_domain_name n ≡ true → has_line cs n ≡ true)
    → class_of hs (second cs d) n ≡ class_of hs d n
same_name hs cs d n named first own there = second_class hs cs d n ∙ (go (is_domain_name n) refl ∙ sym (first_class hs d n first))
  where
    go : (b : Bool) → is_domain_name n ≡ b → class_in hs cs n ≡ number_of hs n
    go true is = found hs cs n own (there is)
    go false is = let none = no_class hs n named is in unfound hs cs n own none ∙ sym none

-- ---- lines of names

pub of_name : (P : Count → Type 0) (n : List ℕ) → (is_domain_name n ≡ true → P (line n 0)) → AllByRecursion P (name_lines n)
of_name P n h = go (is_domain_name n) refl
  where
    go : (b : Bool) → is_domain_name n ≡ b → AllByRecursion P (if b then line n 0 ∷ [] else [])
    go true is = (h is, tt)
    go false is = tt

pub to_name : (P : Count → Type 0) (n : List ℕ) → AllByRecursion P (name_lines n) → is_domain_name n ≡ true → P (line n 0)
to_name P n h is = (subst (λ (b : Bool). AllByRecursion P (if b then line n 0 ∷ [] else [])) is h).0

-- a property of each name
abbrev pub OfName : (List ℕ → Type 0) → Item → Type 0
OfName Q (Name n) = Q n
OfName Q (Number z) = Unit {0}
OfName Q (Range from to) = Unit {0}
OfName Q (Truth b) = Unit {0}

abbrev pub OfNames : (List ℕ → Type 0) → List NamedDomain → Type 0
OfNames Q ds = AllByRecursion (λ x. AllByRecursion (OfName Q) x.domain) ds

abbrev pub Lined : (Count → Type 0) → List ℕ → Type 0
Lined P n = is_domain_name n ≡ true → P (line n 0)

of_item : (P : Count → Type 0) (i : Item) → OfName (Lined P) i → AllByRecursion P (item_lines i)
of_item P (Name n) h = of_name P n h
of_item P (Number z) h = tt
of_item P (Range from to) h = tt
of_item P (Truth b) h = tt

to_item : (P : Count → Type 0) (i : Item) → AllByRecursion P (item_lines i) → OfName (Lined P) i
to_item P (Name n) h = to_name P n h
to_item P (Number z) h = tt
to_item P (Range from to) h = tt
to_item P (Truth b) h = tt

pub halves : {A : Type 0} (P : A → Type 0) (xs ys : List A) → AllByRecursion P (xs ++ ys) → AllByRecursion P xs × AllByRecursion P ys
halves P xs ys h = (each_front P xs ys h, each_back P xs ys h)

to_flat : {A : Type 0} (P : Count → Type 0) (f : A → List Count) (xs : List A) → AllByRecursion P (flat_map f xs) → AllByRecursion (λ x. AllByRecursion P (f x)) xs
to_flat P f [] h = tt
to_flat P f (x ∷ xs) h = (each_front P (f x) (flat_map f xs) h, to_flat P f xs (each_back P (f x) (flat_map f xs) h))

pub of_domains : (P : Count → Type 0) (ds : List NamedDomain) → OfNames (Lined P) ds → AllByRecursion P (domain_lines ds)
of_domains P ds h =
    each_flat P (λ x. flat_map item_lines x.domain) ds
    (each_weaker (λ x. AllByRecursion (OfName (Lined P)) x.domain) (λ x. AllByRecursion P (flat_map item_lines x.domain)) ds
    (λ x k. each_flat P item_lines x.domain (each_weaker (OfName (Lined P)) (λ i. AllByRecursion P (item_lines i)) x.domain (of_item P) k)) h)

pub to_domains : (P : Count → Type 0) (ds : List NamedDomain) → AllByRecursion P (domain_lines ds) → OfNames (Lined P) ds
to_domains P ds h =
    each_weaker (λ x. AllByRecursion P (flat_map item_lines x.domain)) (λ x. AllByRecursion (OfName (Lined P)) x.domain) ds
    (λ x k. each_weaker (λ i. AllByRecursion P (item_lines i)) (OfName (Lined P)) x.domain (to_item P) (to_flat P item_lines x.domain k))
    (to_flat P (λ x. flat_map item_lines x.domain) ds h)

pub names_so : (P Q : List ℕ → Type 0) (ds : List NamedDomain) → ((n : List ℕ) → P n → Q n) → OfNames P ds → OfNames Q ds
names_so P Q ds f h = each_weaker (λ x. AllByRecursion (OfName P) x.domain) (λ x. AllByRecursion (OfName Q) x.domain) ds (λ x k. each_weaker (OfName P) (OfName Q) x.domain one k) h
  where
    one : (i : Item) → OfName P i → OfName Q i
    one (Name n) p = f n p
    one (Number z) p = tt
    one (Range from to) p = tt
    one (Truth b) p = tt

-- ---- names that stand for something

-- a domain's name that does is a class's
pub class_is_known : (hs : List Heading) (d : FinDoc) (n : List ℕ) → (d.version == 2) ≡ false → is_domain_name n ≡ true → is_unknown (meant hs d n) ≡ false → is_none (number_of hs n) ≡ false
unfolding meant
class_is_known hs d n first is known = go (number_of hs n) refl
  where
    means : meant hs d n ≡ class_meant hs n (number_of hs n)
    means = ap (λ (b : Bool). if b then NoReference else class_meant hs n (class_of hs d n)) (not_null n is) ∙ ap (class_meant hs n) (first_class hs d n first)

    go : (o : Option ℕ) → number_of hs n ≡ o → is_none o ≡ false
    go (Some c) e = refl
    go None e =
        let none : meant hs d n ≡ Unknown = means ∙ (ap (class_meant hs n) e ∙ ap array_meant (no_array hs n is)) in
        let yes : is_unknown (meant hs d n) ≡ true = ap is_unknown none in
        absurd (cc (known, yes))
