-- The root of an accepted document of version 1 is no predefined class: such a class has no objects, and the root has.
use Rattle.std.proofs.Common.{◌≡◌, ℕ, ◌+◌, ◌<◌, ◌==◌, Bool, true, false, ◌&&◌, List, [], ◌∷◌, ◌++◌, length, Option, Some, None, is_none, refl, sym, ap, ◌∙◌, subst, arith}
use Rattle.std.specs.Prelude.{bytes_eq, nat_lt, unwrap_or, if◌then◌else◌}
use Rattle.std.proofs.lemmas.Slice.Eq.{bytes_eq-Decides}
use Rattle.std.specs.List.{AllByRecursion}
use Rattle.kr_base.proofs.ListLemmas.{append_is_nil}
use Rattle.kr_ast.specs.Tree.{Tree}
use Rattle.kr_classes_table.specs.Predefined.{is_predefined}
use Rattle.kr_classes_table.specs.Table.{Heading, number_of, table_of}
use Rattle.kr_mean.specs.declared.mode.Mode.{Mode}
use Rattle.kr_mean.specs.Problem.{ClassDomain}
use Rattle.kr_fin.specs.declared.document.Count.{Count}
use Rattle.kr_fin.specs.declared.document.FinDoc.{FinDoc}
use Rattle.kr_space_meaning.specs.declared.refusal.SpaceRule.TheVariants.{UnknownName}
use Rattle.kr_space_meaning.specs.Bounds.{Setting, classed, declared, domains_of, object_number, problem_in, problem_of, root_domain, root_number, root_of, setting_of}
use Rattle.kr_space_meaning.specs.Faults.{class_unknown, objects_unknown, of_objects}
use Rattle.kr_space_meaning.specs.Meaning.{faults_of}
use Rattle.kr_space_meaning.specs.Names.{class_of}
use Rattle.kr_space_meaning.specs.Order.{break_if}
use Rattle.kr_space_meaning.proofs.Each.{unbroken}
use Rattle.kr_space_meaning.proofs.WellFormed.{well_formed}
use Rattle.kr_fin_upgrade.proofs.Kept.{neither}

same_bytes : (m n : List ℕ) → bytes_eq m n ≡ true → m ≡ n
same_bytes m n e = grind (arith, bytes_eq-Decides m n, e)

pub no_objects_of : (hs : List Heading) (cs : List Count) (name : List ℕ) (class d : ℕ) → AllByRecursion (λ x. x.class ≡ x.name) cs → objects_unknown hs cs ≡ [] → is_predefined name ≡ true
    → object_number d (declared hs cs) name class ≡ None
no_objects_of hs [] name class d named known is = refl
no_objects_of hs (x ∷ cs) name class d named known is = go (nat_lt 0 x.count) (number_of hs x.class) (λ k. no_objects_of hs cs name class k named.1 parts.1 is)
  where
    parts : (break_if (class_unknown hs x.class) UnknownName (of_objects x.name) ≡ []) × (objects_unknown hs cs ≡ [])
    parts = append_is_nil (break_if (class_unknown hs x.class) UnknownName (of_objects x.name)) (objects_unknown hs cs) known

    own : is_predefined x.class ≡ false
    own = (neither (is_none (number_of hs x.class)) (is_predefined x.class) (unbroken (class_unknown hs x.class) UnknownName (of_objects x.name) parts.0)).1

    other : (b : Bool) → bytes_eq x.name name ≡ b → b ≡ false
    other false e = refl
    other true e =
        let same : x.class ≡ name = named.0 ∙ same_bytes x.name name e in
        let differ = sym own ∙ (ap is_predefined same ∙ is) in
        absurd (cc (differ))

    go : (b : Bool) (o : Option ℕ) → ((k : ℕ) → object_number k (declared hs cs) name class ≡ None) → object_number d ((if b then classed o x else []) ++ declared hs cs) name class ≡ None
    go false o rest = rest d
    go true None rest = rest d
    go true (Some k) rest =
        ap (λ (b : Bool). if b && (k == class) then Some d else object_number (d + 1) (declared hs cs) name class) (other (bytes_eq x.name name) refl) ∙ rest (d + 1)

pub some_class : (o : Option ℕ) → is_none o ≡ false → (k : ℕ) × (o ≡ Some k)
some_class (Some k) e = (k, refl)
some_class None e = absurd (cc (e))

module _ (files : List Tree) (d : FinDoc) (mode : Mode) (named : AllByRecursion (λ x. x.class ≡ x.name) d.objects) (known : objects_unknown (table_of files).headings d.objects ≡ []) where
  abbrev hs : List Heading
  hs = (table_of files).headings

  abbrev setting : Setting
  setting = setting_of files d

  root_in : (problem_of files d mode).root ≡ root_domain setting
  unfolding problem_in
  root_in = refl

  domains_in : (problem_of files d mode).domains ≡ domains_of setting
  unfolding problem_in
  domains_in = refl

  number_in : (k : ℕ) → root_number setting (Some k) ≡ object_number 0 (declared hs d.objects) d.root k
  unfolding setting_of
  number_in k = refl

  root_in_class : root_of setting ≡ class_of hs d d.root
  unfolding setting_of
  root_in_class = refl

  no_domain : (k : ℕ) → class_of hs d d.root ≡ Some k → is_predefined d.root ≡ true → root_domain setting ≡ length (domains_of setting)
  unfolding root_domain
  no_domain k is own =
      ap (λ (o : Option ℕ). unwrap_or (root_number setting o) (length (domains_of setting))) (root_in_class ∙ is)
      ∙ ap (λ (o : Option ℕ). unwrap_or o (length (domains_of setting))) (number_in k ∙ no_objects_of hs d.objects d.root k 0 named known own)

  pub root_is_own : is_none (class_of hs d d.root) ≡ false → faults_of files d mode ≡ [] → is_predefined d.root ≡ false
  root_is_own there none = go (is_predefined d.root) refl
    where
      go : (b : Bool) → is_predefined d.root ≡ b → b ≡ false
      go false e = refl
      go true e =
          let (k, is) = some_class (class_of hs d d.root) there in
          let last : root_domain setting ≡ length (domains_of setting) = no_domain k is e in
          let within : root_domain setting < length (domains_of setting) =
          subst (λ (r : ℕ). r < length (domains_of setting)) root_in
          (subst (λ (ds : List ClassDomain). (problem_of files d mode).root < length ds) domains_in (well_formed files d mode none).root) in
          absurd (omega (arith, last, within))
