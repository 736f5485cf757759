-- A heap whose objects get their values one after another.
use Rattle.std.proofs.Common.{◌≡◌, ℕ, suc, ◌+◌, List, [], ◌∷◌, ◌++◌, length, refl, ap, ◌∙◌, arith}
use Rattle.std.specs.Prelude.{slice_set}
use Rattle.std.proofs.lemmas.List.{append-nil, drop_all, get_or_at, set_at}
use Rattle.std.proofs.lemmas.List.Edits.{sets, sets-eq}
use Rattle.kr_value.specs.declared.value.Value.{Value}
use Rattle.kr_value.specs.declared.object.Class.{Class}
use Rattle.kr_value.specs.Heaps.{HeapObject, no_object, object_in}
use Rattle.kr_classes_table.specs.Types.{JavaType}
use Rattle.kr_mean.specs.Steps.{put}

abbrev pub object : Class → List Value → HeapObject
object class values = record { class = class; values = values }

-- what is known of an object that was created: its class, how many values it has, and the type of its local
pub record Made : Type 0 where
  pub class : Class
  pub size : ℕ
  pub type : JavaType

abbrev pub Fit : List HeapObject → List Made → Type 0
Fit [] [] = Unit {0}
Fit (x ∷ xs) (k ∷ ks) = (x.class ≡ k.class) × (length x.values ≡ k.size) × Fit xs ks
Fit xs ks = ⊥

pub fit_long : (xs : List HeapObject) (ks : List Made) → Fit xs ks → length xs ≡ length ks
fit_long [] [] h = refl
fit_long [] (k ∷ ks) h = absurd h
fit_long (x ∷ xs) [] h = absurd h
fit_long (x ∷ xs) (k ∷ ks) h = ap suc (fit_long xs ks h.2)

pub fit_more : (xs : List HeapObject) (ks : List Made) (x : HeapObject) (k : Made) → Fit xs ks → x.class ≡ k.class → length x.values ≡ k.size → Fit (xs ++ x ∷ []) (ks ++ k ∷ [])
fit_more [] [] x k h c l = (c, l, tt)
fit_more [] (j ∷ ks) x k h c l = absurd h
fit_more (y ∷ xs) [] x k h c l = absurd h
fit_more (y ∷ xs) (j ∷ ks) x k h c l = (h.0, h.1, fit_more xs ks x k h.2 c l)

-- ---- the object after so many others

pub here : (before after : List HeapObject) (x : HeapObject) (i : ℕ) → length before ≡ i → object_in (before ++ x ∷ after) i ≡ x
here before after x i e = get_or_at before x after no_object i e

pub put_here : (before after : List HeapObject) (class : Class) (values : List Value) (i k : ℕ) (v : Value) → length before ≡ i → put (before ++ object class values ∷ after) i k v ≡ before ++ object class (slice_set values k v) ∷ after
put_here before after class values i k v e =
    ap (λ (x : HeapObject). slice_set (before ++ object class values ∷ after) i (object x.class (slice_set x.values k v))) (here before after (object class values) i e)
    ∙ set_at before (object class values) after (object class (slice_set values k v)) i e

-- all of its values are set
pub all_set : (values news : List Value) → length news ≡ length values → sets values 0 news ≡ news
all_set values news e =
    sets-eq news values 0 (omega (arith, e)) ∙ (ap (λ (rest : List Value). news ++ rest) (drop_all (0 + length news) values (omega (arith, e))) ∙ append-nil news)
