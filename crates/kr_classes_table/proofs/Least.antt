-- The first of several broken rules.
use Rattle.std.proofs.Common.{◌≡◌, refl, sym, ap, ◌∙◌, subst, inl, inr, Bool, true, false, List, [], ◌∷◌, if◌then◌else◌}
use Rattle.std.specs.Prelude.{Option, Some, None, unwrap_or}
use Rattle.kr_classes_table.specs.Rules.{Fault, is_before, sooner, least}
use Rattle.kr_classes_table.specs.Laws.{IsOneOf, IsFirst, IsLeast}
use Rattle.kr_classes_table.proofs.Order.{irreflexive, asymmetric, onwards}

here : (f : Fault) (fs : List Fault) → ((g : Fault) → IsOneOf g fs → is_before g f ≡ false) → IsFirst (f ∷ fs) f
here f fs k = record { one = inl refl; first = λ g i. elim i [ inl e ↦ subst (λ x. is_before x f ≡ false) e (irreflexive f) | inr j ↦ k g j ] }

there : (f : Fault) (fs : List Fault) (g : Fault) → is_before g f ≡ true → IsFirst fs g → IsFirst (f ∷ fs) g
there f fs g b k = record { one = inr k.one; first = λ h i. elim i [ inl e ↦ subst (λ x. is_before x g ≡ false) e (asymmetric f g b) | inr j ↦ k.first h j ] }

chosen : (f : Fault) (fs : List Fault) (g : Fault) (b : Bool) → is_before g f ≡ b → IsFirst fs g → (h : Fault) → (if b then Some g else Some f) ≡ Some h → IsFirst (f ∷ fs) h
chosen f fs g true e k h m = subst (IsFirst (f ∷ fs)) (ap (λ o. unwrap_or o f) m) (there f fs g e k)
chosen f fs g false e k h m = subst (IsFirst (f ∷ fs)) (ap (λ o. unwrap_or o f) m) (here f fs (λ x i. onwards x g f (k.first x i) e))

never : (f : Fault) (fs : List Fault) (b : Bool) (g : Fault) → (if b then Some g else Some f) ≡ None → f ∷ fs ≡ []
never f fs true g m = absurd (cc (m))
never f fs false g m = absurd (cc (m))

none_of : (f : Fault) (fs : List Fault) → fs ≡ [] → IsFirst (f ∷ fs) f
none_of f fs e = here f fs (λ g i. absurd (subst (IsOneOf g) e i))

step : (f : Fault) (fs : List Fault) (o : Option Fault) → least fs ≡ o → IsLeast fs → IsLeast (f ∷ fs)
step f fs None e l = record {
  none = λ n. absurd (cc (n));
  some = λ h m. subst (IsFirst (f ∷ fs)) (ap (λ o. unwrap_or o f) (sym (ap (sooner (Some f)) e) ∙ m)) (none_of f fs (l.none e));
}
step f fs (Some g) e l = record {
  none = λ n. never f fs (is_before g f) g (sym (ap (sooner (Some f)) e) ∙ n);
  some = λ h m. chosen f fs g (is_before g f) refl (l.some g e) h (sym (ap (sooner (Some f)) e) ∙ m);
}

pub is_least : (fs : List Fault) → IsLeast fs
is_least [] = record { none = λ n. refl; some = λ f e. absurd (cc (e)) }
is_least (f ∷ fs) = step f fs (least fs) refl (is_least fs)
