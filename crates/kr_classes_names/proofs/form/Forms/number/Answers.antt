use Rattle.std.proofs.Common.{◌≡◌, subst, List, true}
use Rattle.kr_classes_names.specs.declared.form.TypeForm.{TypeForm}
use Rattle.kr_classes_names.specs.contracts.form.TypeFormPartialEq.TheImpl
use Rattle.kr_classes_names.specs.ListedTypes.{AreApart}
use Rattle.kr_classes_names.proofs.Equality.{itself}
use Rattle.kr_classes_names.proofs.Apart.{apart, map_self}
use Rattle.kr_classes_names.proofs.form.Forms.number.Goals as goal

pub invariant_of-self-2 : goal.invariant_of-self-2
invariant_of-self-2 c =
    let ks = c.insert_full.new.self.keys in
    subst (λ (xs : List TypeForm). AreApart xs) (map_self ks)
    (apart (TheImpl.ghosts).eq (λ x. x) (λ x y e. subst (λ (z : TypeForm). (TheImpl.ghosts).eq x z ≡ true) e (itself x)) ks c.in_ok-number.ensures.unique)

pub returns-clause-apart : goal.returns-clause-apart
returns-clause-apart c =
    let ks = c.insert_full.new.self.keys in
    subst (λ (xs : List TypeForm). AreApart xs) (map_self ks)
    (apart (TheImpl.ghosts).eq (λ x. x) (λ x y e. subst (λ (z : TypeForm). (TheImpl.ghosts).eq x z ≡ true) e (itself x)) ks c.in_ok-number.ensures.unique)
