-- The definition asks likewise.
use Rattle.std.proofs.Common.{◌≡◌, ◌∙◌, refl, sym, ap, ℕ, List, map, Vec, Global}
use Rattle.std.specs.Prelude.{Option, Some, None, option_map}
use Rattle.kr_base.specs.declared.place.Place.{Place}
use Rattle.kr_classes_table.specs.Rules.{Fault, sooner}
use Rattle.kr_classes_table.specs.Types.{JavaType}
use Rattle.kr_classes_names.specs.Types.{TypeList, type_at}
use Rattle.kr_types_meaning.specs.Rules.{Typed, Untyped, Value, Variable, Values, Judgement, fine}
use Rattle.kr_types_meaning.specs.Typing.{on_list, on_one, on_two, type_in}
use Rattle.kr_types_meaning.specs.Noting.{Note, concluded, list, one, one_and_list, three, two}
use Rattle.kr_types_expressions.specs.Parts.{values_in, with_list, with_one_and_list}

abbrev with_one : (JavaType → Judgement) → Option JavaType → Judgement
with_one f (Some a) = f a
with_one f None = fine

asks_one : (f : JavaType → Judgement) (x : Typed) → with_one f (type_in x) ≡ on_one f x
asks_one f Untyped = refl
asks_one f (Value a) = refl
asks_one f (Variable a) = refl
asks_one f (Values ts) = refl

asks_list : (f : List JavaType → Judgement) (x : Typed) → with_list f (values_in x) ≡ on_list f x
asks_list f Untyped = refl
asks_list f (Value a) = refl
asks_list f (Variable a) = refl
asks_list f (Values ts) = refl

first_and_list : (f : JavaType → List JavaType → Judgement) (a : JavaType) (ts : Option (List JavaType)) → with_one_and_list f (Some a) ts ≡ with_list (f a) ts
first_and_list f a None = refl
first_and_list f a (Some ts) = refl

asks_one_and_list : (f : JavaType → List JavaType → Judgement) (x y : Typed) → with_one_and_list f (type_in x) (values_in y) ≡ on_one (λ a. on_list (f a) y) x
asks_one_and_list f Untyped y = refl
asks_one_and_list f (Values ts) y = refl
asks_one_and_list f (Value a) y = first_and_list f a (values_in y) ∙ asks_list (f a) y
asks_one_and_list f (Variable a) y = first_and_list f a (values_in y) ∙ asks_list (f a) y

-- ---- what a rule says where the parts have types

pub there_list : {v : Judgement} {ns : List ℕ} {is : Vec ℕ Global} {a : Option (Vec ℕ Global)} (l : TypeList) (f : List JavaType → Judgement) → a ≡ Some is → ns ≡ is.items → v ≡ f (map (type_at l) ns) → v ≡ with_list f (option_map (λ ts. map (type_at l) ts.items) a)
there_list l f given same says = says ∙ ap (λ ns. f (map (type_at l) ns)) same ∙ ap (λ o. with_list f (option_map (λ ts. map (type_at l) ts.items) o)) (sym given)

-- ---- the note of a node with these parts

pub concludes_list : {n : Note} {v : Judgement} {o : Option (List JavaType)} (p : Place) (f : List JavaType → Judgement) (x : Note) → v ≡ with_list f o → o ≡ values_in x.typed → n ≡ concluded p v x.least → n ≡ list p f x
concludes_list p f x says given is = is ∙ ap (λ (w : Judgement). concluded p w x.least) (says ∙ ap (with_list f) given ∙ asks_list f x.typed)

pub concludes_one_and_list : {n : Note} {v : Judgement} {a : Option JavaType} {o : Option (List JavaType)} {least : Option Fault} (p : Place) (f : JavaType → List JavaType → Judgement) (x y : Note) → v ≡ with_one_and_list f a o → a ≡ type_in x.typed → o ≡ values_in y.typed → least ≡ sooner x.least y.least
    → n ≡ concluded p v least → n ≡ one_and_list p f x y
concludes_one_and_list {o = o} {least = least} p f x y says first given below is =
    is ∙ ap (λ (w : Judgement). concluded p w least) (says ∙ ap (λ b. with_one_and_list f b o) first ∙ ap (with_one_and_list f (type_in x.typed)) given ∙ asks_one_and_list f x.typed y.typed)
    ∙ ap (concluded p (on_one (λ a. on_list (f a) y.typed) x.typed)) below

-- ---- a rule's verdict, where the parts have these types

pub has_one : {v : Judgement} {t : JavaType} (f : JavaType → Judgement) (x : Typed) → v ≡ f t → Some t ≡ type_in x → v ≡ on_one f x
has_one f x says is = says ∙ ap (with_one f) is ∙ asks_one f x

has_two : {v : Judgement} {t u : JavaType} (f : JavaType → JavaType → Judgement) (x y : Typed) → v ≡ f t u → Some t ≡ type_in x → Some u ≡ type_in y → v ≡ on_two f x y
has_two {t = t} f x y says is is' = has_one (λ s. on_one (f s) y) x (has_one (f t) y says is') is

has_list : {v : Judgement} {ns : List ℕ} {is : Vec ℕ Global} {a : Option (Vec ℕ Global)} (l : TypeList) (f : List JavaType → Judgement) (x : Typed) → v ≡ f (map (type_at l) ns)
    → ns ≡ is.items → a ≡ Some is → option_map (λ ts. map (type_at l) ts.items) a ≡ values_in x → v ≡ on_list f x
has_list l f x says same is shown = there_list l f is same says ∙ ap (with_list f) shown ∙ asks_list f x

-- ---- and the note of a node with these parts

pub judged_one : {n : Note} {v : Judgement} {t : JavaType} (p : Place) (f : JavaType → Judgement) (x : Note) → v ≡ f t → Some t ≡ type_in x.typed → n ≡ concluded p v x.least → n ≡ one p f x
judged_one p f x says is note = note ∙ ap (λ (w : Judgement). concluded p w x.least) (has_one f x.typed says is)

pub judged_two : {n : Note} {v : Judgement} {t u : JavaType} {least : Option Fault} (p : Place) (f : JavaType → JavaType → Judgement) (x y : Note) → v ≡ f t u
    → Some t ≡ type_in x.typed → Some u ≡ type_in y.typed → least ≡ sooner x.least y.least → n ≡ concluded p v least → n ≡ two p f x y
judged_two {least = least} p f x y says is is' below note =
    note ∙ ap (λ (w : Judgement). concluded p w least) (has_two f x.typed y.typed says is is') ∙ ap (concluded p (on_two f x.typed y.typed)) below

pub judged_three : {n : Note} {v : Judgement} {t u w : JavaType} {least : Option Fault} (p : Place) (f : JavaType → JavaType → JavaType → Judgement) (x y z : Note) → v ≡ f t u w
    → Some t ≡ type_in x.typed → Some u ≡ type_in y.typed → Some w ≡ type_in z.typed → least ≡ sooner (sooner x.least y.least) z.least → n ≡ concluded p v least → n ≡ three p f x y z
judged_three {t = t} {least = least} p f x y z says is is' is'' below note =
    let both : JavaType → Judgement = λ s. on_two (f s) y.typed z.typed in
    note ∙ ap (λ (w : Judgement). concluded p w least) (has_one both x.typed (has_two (f t) y.typed z.typed says is' is'') is) ∙ ap (concluded p (on_one both x.typed)) below

pub judged_list : {n : Note} {v : Judgement} {ns : List ℕ} {is : Vec ℕ Global} {a : Option (Vec ℕ Global)} (l : TypeList) (p : Place) (f : List JavaType → Judgement) (x : Note) → v ≡ f (map (type_at l) ns)
    → ns ≡ is.items → a ≡ Some is → option_map (λ ts. map (type_at l) ts.items) a ≡ values_in x.typed → n ≡ concluded p v x.least → n ≡ list p f x
judged_list l p f x says same is shown note = note ∙ ap (λ (w : Judgement). concluded p w x.least) (has_list l f x.typed says same is shown)

pub judged_one_and_list : {n : Note} {v : Judgement} {t : JavaType} {ns : List ℕ} {is : Vec ℕ Global} {a : Option (Vec ℕ Global)} {least : Option Fault} (l : TypeList) (p : Place) (f : JavaType → List JavaType → Judgement) (x y : Note)
    → v ≡ f t (map (type_at l) ns) → Some t ≡ type_in x.typed → ns ≡ is.items → a ≡ Some is → option_map (λ ts. map (type_at l) ts.items) a ≡ values_in y.typed
    → least ≡ sooner x.least y.least → n ≡ concluded p v least → n ≡ one_and_list p f x y
judged_one_and_list {t = t} {least = least} l p f x y says is same is' shown below note =
    let both : JavaType → Judgement = λ s. on_list (f s) y.typed in
    note ∙ ap (λ (w : Judgement). concluded p w least) (has_one both x.typed (has_list l (f t) y.typed says same is' shown) is) ∙ ap (concluded p (on_one both x.typed)) below
