-- Class domains tried one after another.
use Rattle.std.proofs.Common.{◌≡◌, refl, ◌∙◌, ℕ, zero, suc, ◌+◌, ◌<◌, ◌≤◌, Bool, true, false, ◌&&◌, ◌||◌, List, [], ◌∷◌, length, drop, get_or, arith}
use Rattle.kr_classes_names.specs.Types.{TypeList}
use Rattle.kr_mean.specs.Program.{Program}
use Rattle.kr_mean.specs.Problem.{ClassDomain}
use Rattle.kr_pure_effects.specs.declared.touch.Touch.{Touch}
use Rattle.kr_pure_effects.specs.declared.touch.Touch.TheVariants.{Nothing}
use Rattle.kr_pure_effects.specs.Touches.{is_counted, touches, touches_domain, touches_some}

-- the one at an index, then those after it
pub asked : (program : Program) (l : TypeList) (t : Touch) (ds : List ClassDomain) (k : ℕ) (x : ClassDomain) → k < length ds → touches_some program l t (drop k ds) ≡ (touches_domain program l t (get_or ds k x) || touches_some program l t (drop (k + 1) ds))
asked program l t [] k x h = absurd (omega (arith, h))
asked program l t (d ∷ ds) zero x h = refl
asked program l t (d ∷ ds) (suc k) x h =
    let e : suc k + 1 ≡ suc (k + 1) = omega arith in
    rw e (asked program l t ds k x (omega (arith, h)))

pub none_left : (program : Program) (l : TypeList) (t : Touch) (ds : List ClassDomain) (k : ℕ) → length ds ≤ k → touches_some program l t (drop k ds) ≡ false
none_left program l t [] zero h = refl
none_left program l t [] (suc k) h = refl
none_left program l t (d ∷ ds) zero h = absurd (omega (arith, h))
none_left program l t (d ∷ ds) (suc k) h = none_left program l t ds k (omega (arith, h))

pub first_true : (a b : Bool) → a ≡ true → (a || b) ≡ true
first_true true b e = refl
first_true false b e = absurd (cc)

pub first_false : (a b : Bool) → a ≡ false → (a || b) ≡ b
first_false false b e = refl
first_false true b e = absurd (cc)

-- nothing touches none of them
pub nothing_touched : (program : Program) (l : TypeList) (ds : List ClassDomain) → touches_some program l Nothing ds ≡ false
nothing_touched program l [] = refl
nothing_touched program l (d ∷ ds) = first_false _ _ (neither (is_counted d.class d.count)) ∙ nothing_touched program l ds
  where
    neither : (b : Bool) → (b && touches program l Nothing d.class) ≡ false
    neither true = refl
    neither false = refl
