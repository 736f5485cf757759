-- Types are made of those before them.
use Rattle.std.proofs.Common.{◌≡◌, refl, ap, ◌∙◌, ℕ, ◌<◌, List, [], ◌∷◌, ◌++◌, length, get_or, Some, arith}
use Rattle.std.specs.Prelude.{slice_get}
use Rattle.std.proofs.lemmas.List.{get_or_append_left}
use Rattle.kr_ast.proofs.Grown.{grow_same, grow_stands, grow-append, length-grow}
use Rattle.kr_classes_table.specs.Types.{JavaType, VoidType, ArrayType, SetType, ListType, UnknownType, AppliedType}
use Rattle.kr_classes_names.specs.declared.form.TypeForm.{TypeForm}
use Rattle.kr_classes_names.specs.declared.form.TypeForm.TheVariants as forms
use Rattle.kr_classes_names.specs.Types.{TypeList, AreOrdered, IsMadeBelow, made_of, type_at, type_of_form, types_of, name_at}

near : (names : List (List ℕ)) (xs ys : List JavaType) (i m : ℕ) (f : TypeForm) → ((k : ℕ) → k < i → get_or xs k VoidType ≡ get_or ys k VoidType) → IsMadeBelow i m f → made_of names xs f ≡ made_of names ys f
near names xs ys i m (forms.Array t) h w = ap ArrayType (h t w)
near names xs ys i m (forms.Set t) h w = ap SetType (h t w)
near names xs ys i m (forms.List t) h w = ap ListType (h t w)
near names xs ys i m (forms.Applied a t) h w = ap (λ x. AppliedType x (get_or xs t VoidType)) (h a w.0) ∙ ap (λ x. AppliedType (get_or ys a VoidType) x) (h t w.1)
near names xs ys i m _ h w = refl

pub type_made : (l : TypeList) → AreOrdered l → (i : ℕ) (f : TypeForm) → slice_get l.forms i ≡ Some f → type_at l i ≡ type_of_form l f
unfolding types_of
type_made l o i f e =
    grow_stands (made_of l.names) VoidType (λ i f. IsMadeBelow i (length l.names) f) (λ i f xs ys h w. near l.names xs ys i (length l.names) f h w) [] l.forms i i f e (omega arith) (o i f e)

renamed : (names more : List (List ℕ)) (done : List JavaType) (i : ℕ) (f : TypeForm) → IsMadeBelow i (length names) f → made_of (names ++ more) done f ≡ made_of names done f
renamed names more done i (forms.Unknown a b) w =
    ap (λ x. UnknownType x (name_at (names ++ more) b)) (get_or_append_left names more [] a w.0) ∙ ap (λ x. UnknownType (name_at names a) x) (get_or_append_left names more [] b w.1)
renamed names more done i _ w = refl

abbrev pub list_of : List (List ℕ) → List TypeForm → TypeList
list_of names fs = record { names = names; forms = fs }

-- more names change no type
pub types_renamed : (names more : List (List ℕ)) (fs : List TypeForm) → AreOrdered (list_of names fs) → types_of (list_of (names ++ more) fs) ≡ types_of (list_of names fs)
unfolding types_of
types_renamed names more fs o = grow_same (made_of (names ++ more)) (made_of names) fs (λ i f e xs. renamed names more xs i f (o i f e)) []

pub types_pushed : (names : List (List ℕ)) (fs : List TypeForm) (f : TypeForm) → types_of (list_of names (fs ++ f ∷ [])) ≡ types_of (list_of names fs) ++ type_of_form (list_of names fs) f ∷ []
unfolding types_of
types_pushed names fs f = grow-append (made_of names) [] fs f

pub types_count : (names : List (List ℕ)) (fs : List TypeForm) → length (types_of (list_of names fs)) ≡ length fs
unfolding types_of
types_count names fs = length-grow (made_of names) [] fs ∙ omega arith
