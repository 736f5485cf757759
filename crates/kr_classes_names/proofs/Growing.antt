-- Facts that hold on while types are added.
use Rattle.std.proofs.Common.{◌≡◌, refl, sym, ap, ◌∙◌, subst, ℕ, zero, suc, ◌<◌, ◌≤◌, ◌⊎◌, inl, inr, Bool, List, [], ◌∷◌, ◌++◌, length, map, get_or, Some, arith, length-append}
use Rattle.std.specs.Prelude.{slice_get}
use Rattle.std.proofs.lemmas.List.{get_or_append_left, map-append, length-map}
use Rattle.kr_classes_table.specs.Types.{JavaType, VoidType, ArrayType, SetType, ListType, AppliedType, is_known}
use Rattle.kr_classes_table.specs.Numbers.{Bits32, Bits64}
use Rattle.kr_classes_names.specs.declared.form.TypeForm.{TypeForm}
use Rattle.kr_classes_names.specs.declared.form.TypeForm.TheVariants as forms
use Rattle.kr_classes_names.specs.ListedTypes.{AreApart, IsGrown}
use Rattle.kr_classes_names.specs.Types.{TypeList, AreOrdered, AreTypes, IsBased, IsMadeBelow, IsMadeOf, Extends, IsTypeNumber, count, type_at, type_of_form, types_of}
use Rattle.kr_classes_names.proofs.Same.{weaker}
use Rattle.kr_classes_names.proofs.Made.{list_of, type_made, types_renamed, types_pushed, types_count}
use Rattle.kr_base.proofs.ListLemmas.{slice_get-push}

pub got_left : {A : Type 0} (xs ys : List A) (i : ℕ) (x : A) → slice_get xs i ≡ Some x → slice_get (xs ++ ys) i ≡ Some x
got_left [] ys i x e = absurd (cc)
got_left (y ∷ xs) ys zero x e = e
got_left (y ∷ xs) ys (suc i) x e = got_left xs ys i x e

get_or_mapped : {A B : Type 0} (f : A → B) (xs : List A) (n : ℕ) (b : B) (d : A) → n < length xs → get_or (map f xs) n b ≡ f (get_or xs n d)
get_or_mapped f [] n b d l = absurd (omega (arith, l))
get_or_mapped f (x ∷ xs) zero b d l = refl
get_or_mapped f (x ∷ xs) (suc n) b d l = get_or_mapped f xs n b d (omega (arith, l))

pub got_below : {A : Type 0} (xs : List A) (i : ℕ) (x : A) → slice_get xs i ≡ Some x → i < length xs
got_below [] i x e = absurd (cc)
got_below (y ∷ xs) zero x e = omega arith
got_below (y ∷ xs) (suc i) x e = let b = got_below xs i x e in omega (arith, b)

more_names : (i m n : ℕ) (f : TypeForm) → m ≤ n → IsMadeBelow i m f → IsMadeBelow i n f
more_names i m n (forms.Unknown a b) l w = (omega (arith, l, w.0), omega (arith, l, w.1))
more_names i m n (forms.Array t) l w = w
more_names i m n (forms.Set t) l w = w
more_names i m n (forms.List t) l w = w
more_names i m n (forms.Applied h t) l w = w
more_names i m n _ l w = tt

-- a type of a form that is there
pub number_at : (l : TypeList) (known : List Bool) → AreTypes l known → (n : ℕ) (f : TypeForm) → slice_get l.forms n ≡ Some f → IsTypeNumber l n (type_of_form l f)
number_at l known k n f e = record { within = got_below l.forms n f e; type_is = type_made l k.ordered n f e }

pub based_more : (fs more : List TypeForm) → IsBased fs → IsBased (fs ++ more)
based_more fs more b = record {
  int = got_left fs more 0 (forms.Number Bits32) b.int;
  boolean = got_left fs more 1 forms.Boolean b.boolean;
  null = got_left fs more 2 forms.Null b.null;
  void = got_left fs more 3 forms.Void b.void;
  inferred = got_left fs more 4 forms.Inferred b.inferred;
  long = got_left fs more 5 (forms.Number Bits64) b.long;
}

pub types_added : (names : List (List ℕ)) (fs : List TypeForm) (known : List Bool) (f : TypeForm) → AreTypes (list_of names fs) known → IsMadeOf (list_of names fs) f → AreApart (fs ++ f ∷ []) → (k : Bool) → k ≡ is_known (type_of_form (list_of names fs) f)
    → AreTypes (list_of names (fs ++ f ∷ [])) (known ++ k ∷ [])
types_added names fs known f a m p k e = record {
  ordered = λ i g h. elim (slice_get-push fs f i g h) [
    | inl l ↦ a.ordered i g l
    | inr r ↦ subst (λ (j : ℕ). IsMadeBelow j (length names) g) (sym r.0) (subst (λ (x : TypeForm). IsMadeBelow (length fs) (length names) x) r.1 m)
  ];
  based = based_more fs (f ∷ []) a.based;
  known_are = ap (λ ks. ks ++ k ∷ []) a.known_are ∙ ap (λ b. map is_known (types_of (list_of names fs)) ++ b ∷ []) e
      ∙ sym (map-append is_known (types_of (list_of names fs)) (type_of_form (list_of names fs) f ∷ []))
      ∙ sym (ap (map is_known) (types_pushed names fs f));
  forms_apart = p;
  names_apart = a.names_apart;
}

pub types_spelled : (names more : List (List ℕ)) (fs : List TypeForm) (known : List Bool) → AreTypes (list_of names fs) known → AreApart (names ++ more) → AreTypes (list_of (names ++ more) fs) known
types_spelled names more fs known a p = record {
  ordered = λ i g h. more_names i (length names) (length (names ++ more)) g (omega (arith, length-append names more)) (a.ordered i g h);
  based = a.based;
  known_are = a.known_are ∙ ap (map is_known) (sym (types_renamed names more fs a.ordered));
  forms_apart = a.forms_apart;
  names_apart = p;
}

pub extends_itself : (l : TypeList) → Extends l l
extends_itself l = record { more = omega arith; same = λ n h. refl }

pub extends_added : (names : List (List ℕ)) (fs : List TypeForm) (f : TypeForm) → Extends (list_of names fs) (list_of names (fs ++ f ∷ []))
extends_added names fs f = record {
  more = omega (arith, length-append fs (f ∷ []));
  same = λ n h. ap (λ ts. get_or ts n VoidType) (types_pushed names fs f) ∙ get_or_append_left (types_of (list_of names fs)) (type_of_form (list_of names fs) f ∷ []) VoidType n (omega (arith, h, types_count names fs));
}

pub extends_spelled : (names more : List (List ℕ)) (fs : List TypeForm) → AreOrdered (list_of names fs) → Extends (list_of names fs) (list_of (names ++ more) fs)
extends_spelled names more fs o = record { more = omega arith; same = λ n h. ap (λ ts. get_or ts n VoidType) (types_renamed names more fs o) }

pub extends_on : (a b c : TypeList) → Extends a b → Extends b c → Extends a c
extends_on a b c p q = record { more = let x = p.more in let y = q.more in omega (arith, x, y); same = λ n h. q.same n (let x = p.more in omega (arith, h, x)) ∙ p.same n h }

pub number_kept : (a b : TypeList) (n : ℕ) (t : JavaType) → Extends a b → IsTypeNumber a n t → IsTypeNumber b n t
number_kept a b n t x i = record { within = let p = x.more in let q = i.within in omega (arith, p, q); type_is = x.same n i.within ∙ i.type_is }

pub made_there : (l : TypeList) (known : List Bool) → AreTypes l known → (i : ℕ) (f : TypeForm) → slice_get l.forms i ≡ Some f → IsMadeOf l f
made_there l known k i f e = weaker i (length l.forms) (length l.names) f (let b = got_below l.forms i f e in omega (arith, b)) (k.ordered i f e)

pub known_count : (l : TypeList) (known : List Bool) → AreTypes l known → length known ≡ length l.forms
known_count l known k = ap length k.known_are ∙ length-map (types_of l) is_known ∙ types_count l.names l.forms

pub known_got : (l : TypeList) (known : List Bool) → AreTypes l known → (n : ℕ) (b : Bool) → n < count l → b ≡ get_or known n b → b ≡ is_known (type_at l n)
known_got l known k n b h e =
    e ∙ ap (λ ks. get_or ks n b) k.known_are ∙ get_or_mapped is_known (types_of l) n b VoidType (omega (arith, h, types_count l.names l.forms))

pub spelled : (names new : List (List ℕ)) (fs : List TypeForm) (known : List Bool) → IsGrown names new → AreTypes (list_of names fs) known → AreApart new → AreTypes (list_of new fs) known
spelled names new fs known g a p =
    subst (λ (ns : List (List ℕ)). AreTypes (list_of ns fs) known) (sym g.items) (types_spelled names g.more fs known a (subst (λ (ns : List (List ℕ)). AreApart ns) g.items p))

pub extends_by_names : (names new : List (List ℕ)) (fs : List TypeForm) → IsGrown names new → AreOrdered (list_of names fs) → Extends (list_of names fs) (list_of new fs)
extends_by_names names new fs g o = subst (λ (ns : List (List ℕ)). Extends (list_of names fs) (list_of ns fs)) (sym g.items) (extends_spelled names g.more fs o)

-- a form was there, or is added at the end
abbrev pub Added : List TypeForm → List TypeForm → List Bool → List Bool → TypeForm → Bool → Type 0
Added fs fs' known known' f k = ((fs' ≡ fs) × (known' ≡ known)) ⊎ ((fs' ≡ fs ++ f ∷ []) × (known' ≡ known ++ k ∷ []))

pub added : (names : List (List ℕ)) (fs fs' : List TypeForm) (known known' : List Bool) (f : TypeForm) (k : Bool) → AreTypes (list_of names fs) known → IsMadeOf (list_of names fs) f → AreApart fs' → k ≡ is_known (type_of_form (list_of names fs) f)
    → Added fs fs' known known' f k → AreTypes (list_of names fs') known'
added names fs fs' known known' f k a m p e h = elim h [
  | inl s ↦ subst (λ (gs : List TypeForm). AreTypes (list_of names gs) known') (sym s.0) (subst (λ (bs : List Bool). AreTypes (list_of names fs) bs) (sym s.1) a)
  | inr s ↦ subst (λ (gs : List TypeForm). AreTypes (list_of names gs) known') (sym s.0)
      (subst (λ (bs : List Bool). AreTypes (list_of names (fs ++ f ∷ [])) bs) (sym s.1) (types_added names fs known f a m (subst (λ (gs : List TypeForm). AreApart gs) s.0 p) k e))
]

pub extends_added_or : (names : List (List ℕ)) (fs fs' : List TypeForm) (known known' : List Bool) (f : TypeForm) (k : Bool) → Added fs fs' known known' f k → Extends (list_of names fs) (list_of names fs')
extends_added_or names fs fs' known known' f k h = elim h [
  | inl s ↦ subst (λ (gs : List TypeForm). Extends (list_of names fs) (list_of names gs)) (sym s.0) (extends_itself (list_of names fs))
  | inr s ↦ subst (λ (gs : List TypeForm). Extends (list_of names fs) (list_of names gs)) (sym s.0) (extends_added names fs f)
]

form_kept : (names : List (List ℕ)) (fs fs' : List TypeForm) (f : TypeForm) → IsMadeOf (list_of names fs) f → Extends (list_of names fs) (list_of names fs') → type_of_form (list_of names fs') f ≡ type_of_form (list_of names fs) f
form_kept names fs fs' (forms.Array t) m x = ap ArrayType (x.same t m)
form_kept names fs fs' (forms.Set t) m x = ap SetType (x.same t m)
form_kept names fs fs' (forms.List t) m x = ap ListType (x.same t m)
form_kept names fs fs' (forms.Applied h t) m x = ap (λ y. AppliedType y (type_at (list_of names fs') t)) (x.same h m.0) ∙ ap (λ y. AppliedType (type_at (list_of names fs) h) y) (x.same t m.1)
form_kept names fs fs' _ m x = refl

pub number_added : (names : List (List ℕ)) (fs fs' : List TypeForm) (known known' : List Bool) (f : TypeForm) (k : Bool) → AreTypes (list_of names fs) known → IsMadeOf (list_of names fs) f → AreApart fs' → k ≡ is_known (type_of_form (list_of names fs) f)
    → Added fs fs' known known' f k → (n : ℕ) → slice_get fs' n ≡ Some f → IsTypeNumber (list_of names fs') n (type_of_form (list_of names fs) f)
number_added names fs fs' known known' f k a m p e h n g =
    let x = extends_added_or names fs fs' known known' f k h in
    let there = number_at (list_of names fs') known' (added names fs fs' known known' f k a m p e h) n f g in
    record { within = there.within; type_is = there.type_is ∙ form_kept names fs fs' f m x }
