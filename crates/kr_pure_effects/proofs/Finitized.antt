-- Some class domain is touched exactly where an object of a finitized class is.
use Rattle.std.proofs.Common.{◌≡◌, ◌↔◌, refl, sym, ap, ◌∙◌, subst, ℕ, Bool, true, false, ◌&&◌, List, [], ◌∷◌, ◌⊎◌, inl, inr, arith}
use Rattle.std.proofs.lemmas.Bool.Decides.{nat_tests}
use Rattle.std.proofs.lemmas.Bool.{and_parts, or_cases, or_right, or_left}
use Rattle.kr_value.specs.declared.object.Class.{Class}
use Rattle.kr_value.specs.declared.object.Class.TheVariants.{Object}
use Rattle.kr_classes_names.specs.Types.{TypeList}
use Rattle.kr_mean.specs.Program.{Program}
use Rattle.kr_mean.specs.Problem.{ClassDomain}
use Rattle.kr_mean.specs.Purity.{IsCounted, IsOneOf}
use Rattle.kr_pure_effects.specs.declared.touch.Touch.{Touch}
use Rattle.kr_pure_effects.specs.Touches.{is_counted, touches, touches_domain, touches_some}

together : (a b : Bool) → a ≡ true → b ≡ true → (a && b) ≡ true
together true b h e = e
together false b h e = absurd (cc (h))

counted_so : (class : Class) (n : ℕ) → is_counted class n ≡ true → IsCounted class n
counted_so (Object c) n h = grind (arith, nat_tests)
counted_so _ n h = tt

so_counted : (class : Class) (n : ℕ) → IsCounted class n → is_counted class n ≡ true
so_counted (Object c) n h = grind (arith, nat_tests)
so_counted _ n h = refl

module _ (program : Program) (l : TypeList) (t : Touch) where
  -- objects of a class that one of these domains counts are touched
  abbrev pub IsTouched : List ClassDomain → Type 0
  IsTouched ds = (class : Class) × (touches program l t class ≡ true) × ((d : ClassDomain) × IsOneOf d ds × (d.class ≡ class) × IsCounted class d.count)

  further : (d : ClassDomain) (ds : List ClassDomain) → IsTouched ds → IsTouched (d ∷ ds)
  further d ds w = (w.0, w.1, (w.2.0, inr w.2.1, w.2.2, w.2.3))

  found : (ds : List ClassDomain) → touches_some program l t ds ≡ true → IsTouched ds
  found [] e = absurd (cc (e))
  found (d ∷ ds) e = go (or_cases (touches_domain program l t d) (touches_some program l t ds) e) (found ds)
    where
      go : (touches_domain program l t d ≡ true) ⊎ (touches_some program l t ds ≡ true) → (touches_some program l t ds ≡ true → IsTouched ds) → IsTouched (d ∷ ds)
      go (inl h) rest = let w = and_parts (is_counted d.class d.count) (touches program l t d.class) h in (d.class, w.1, (d, inl refl, refl, counted_so d.class d.count w.0))
      go (inr h) rest = further d ds (rest h)

  domain_touched : (class : Class) (d : ClassDomain) → touches program l t class ≡ true → d.class ≡ class → IsCounted class d.count → touches_domain program l t d ≡ true
  domain_touched class d e is counts =
      together (is_counted d.class d.count) (touches program l t d.class)
      (so_counted d.class d.count (subst (λ (k : Class). IsCounted k d.count) (sym is) counts)) (ap (touches program l t) is ∙ e)

  touched : (ds : List ClassDomain) (class : Class) (d : ClassDomain) → touches program l t class ≡ true → IsOneOf d ds → d.class ≡ class → IsCounted class d.count → touches_some program l t ds ≡ true
  touched [] class d e among is counts = absurd among
  touched (x ∷ ds) class d e (inl same) is counts = or_left (touches_domain program l t x) (touches_some program l t ds) (domain_touched class x e (ap (λ (y : ClassDomain). y.class) same ∙ is) (subst (λ (y : ClassDomain). IsCounted class y.count) (sym same) counts))
  touched (x ∷ ds) class d e (inr among) is counts = or_right (touches_domain program l t x) (touches_some program l t ds) (touched ds class d e among is counts)

  pub some_touched : (ds : List ClassDomain) → (touches_some program l t ds ≡ true) ↔ IsTouched ds
  some_touched ds = (found ds, λ w. touched ds w.0 w.2.0 w.1 w.2.1 w.2.2 w.2.3)
