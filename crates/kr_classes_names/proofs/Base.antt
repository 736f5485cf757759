-- The types that are always there.
use Rattle.std.proofs.Common.{◌≡◌, refl, sym, subst, ℕ, zero, suc, Bool, true, List, [], ◌∷◌, Some}
use Rattle.std.specs.Prelude.{slice_get}
use Rattle.kr_ast.specs.Grow.{grow}
use Rattle.kr_classes_table.specs.Numbers.{Bits32, Bits64}
use Rattle.kr_classes_names.specs.declared.form.TypeForm.{TypeForm}
use Rattle.kr_classes_names.specs.declared.form.TypeForm.TheVariants.{Number, Boolean, Null, Void, Inferred}
use Rattle.kr_classes_names.specs.ListedTypes.{AreApart, IsAbsent}
use Rattle.kr_classes_names.specs.Types.{AreTypes, IsMadeBelow, types_of}
use Rattle.kr_classes_names.proofs.Made.{list_of}

ordered : (i : ℕ) (f : TypeForm) → slice_get (Number Bits32 ∷ Boolean ∷ Null ∷ Void ∷ Inferred ∷ Number Bits64 ∷ []) i ≡ Some f → IsMadeBelow i 0 f
ordered i (Number w) e = tt
ordered i Boolean e = tt
ordered i Null e = tt
ordered i Void e = tt
ordered i Inferred e = tt
ordered zero _ e = absurd (cc)
ordered (suc zero) _ e = absurd (cc)
ordered (suc (suc zero)) _ e = absurd (cc)
ordered (suc (suc (suc zero))) _ e = absurd (cc)
ordered (suc (suc (suc (suc zero)))) _ e = absurd (cc)
ordered (suc (suc (suc (suc (suc zero))))) _ e = absurd (cc)
ordered (suc (suc (suc (suc (suc (suc i)))))) _ e = absurd (cc)

-- `long` isn't among the others
pub absent_long : IsAbsent (Number Bits64) (Number Bits32 ∷ Boolean ∷ Null ∷ Void ∷ Inferred ∷ [])
absent_long zero e = absurd (cc)
absent_long (suc zero) e = absurd (cc)
absent_long (suc (suc zero)) e = absurd (cc)
absent_long (suc (suc (suc zero))) e = absurd (cc)
absent_long (suc (suc (suc (suc zero)))) e = absurd (cc)
absent_long (suc (suc (suc (suc (suc i))))) e = absurd (cc)

none_apart : AreApart {A = List ℕ} []
none_apart i j x p q = cc

pub base_types : AreApart (Number Bits32 ∷ Boolean ∷ Null ∷ Void ∷ Inferred ∷ Number Bits64 ∷ []) → AreTypes (list_of [] (Number Bits32 ∷ Boolean ∷ Null ∷ Void ∷ Inferred ∷ Number Bits64 ∷ [])) (true ∷ true ∷ true ∷ true ∷ true ∷ true ∷ [])
unfolding types_of grow
base_types a = record {
  ordered = ordered;
  based = record { int = refl; boolean = refl; null = refl; void = refl; inferred = refl; long = refl };
  known_are = refl;
  forms_apart = a;
  names_apart = none_apart;
}

pub base_ready : (names : List (List ℕ)) (fs : List TypeForm) (known : List Bool) → names ≡ [] → fs ≡ Number Bits32 ∷ Boolean ∷ Null ∷ Void ∷ Inferred ∷ Number Bits64 ∷ [] → known ≡ true ∷ true ∷ true ∷ true ∷ true ∷ true ∷ [] → AreApart fs → AreTypes (list_of names fs) known
base_ready names fs known e f g a =
    subst (λ (ns : List (List ℕ)). AreTypes (list_of ns fs) known) (sym e)
    (subst (λ (bs : List Bool). AreTypes (list_of [] fs) bs) (sym g)
    (subst (λ (xs : List TypeForm). AreTypes (list_of [] xs) (true ∷ true ∷ true ∷ true ∷ true ∷ true ∷ [])) (sym f) (base_types (subst (λ (xs : List TypeForm). AreApart xs) f a))))
