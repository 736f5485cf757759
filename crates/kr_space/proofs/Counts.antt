-- How many objects the class domains of a problem have is all that the values of domains go by.
use Rattle.std.proofs.Common.{◌≡◌, ℕ, zero, suc, ◌+◌, ◌<◌, List, [], ◌∷◌, ◌++◌, length, map, get_or, drop, Some, refl, ap, sym, ◌∙◌}
use Rattle.std.proofs.lemmas.List.{append_assoc, drop_more}
use Rattle.kr_value.specs.declared.value.Value.TheVariants.{Ref as Reference}
use Rattle.kr_mean.specs.Problem as problems
use Rattle.kr_mean.specs.Problem.{Problem, Choice, Domain, Plain, Objects, choices_in, domain_at, item_choices, no_objects, object_choice, objects_before, upto}
use Rattle.kr_space_layout.specs.declared.stretch.Block.{Block}
use Rattle.kr_space_layout.specs.Items.{domain_of}
use Rattle.kr_space_layout.specs.Stretches.{all_choices, stretch_of}
use Rattle.kr_space_layout.specs.Bounds.{class_domain}
use Rattle.kr_space_layout.specs.Tables.{blocks_from}
use Rattle.kr_space_layout.proofs.Choices.{choices_are}
use Rattle.kr_space.specs.Sizes.{AreBlocks, bare_class, counts_of}

-- ---- problems whose class domains have as many objects

abbrev bare_domain : ℕ → problems.ClassDomain
bare_domain n = class_domain [] (bare_class n)

count_same : (ds : List problems.ClassDomain) (d : ℕ) → (get_or ds d no_objects).count ≡ (get_or (map bare_domain (counts_of ds)) d no_objects).count
count_same [] d = refl
count_same (x ∷ ds) zero = refl
count_same (x ∷ ds) (suc d) = count_same ds d

before_same : (ds : List problems.ClassDomain) (d : ℕ) → objects_before d ds ≡ objects_before d (map bare_domain (counts_of ds))
before_same [] zero = refl
before_same [] (suc d) = refl
before_same (x ∷ ds) zero = refl
before_same (x ∷ ds) (suc d) = ap (λ (n : ℕ). x.count + n) (before_same ds d)

item_same : (problem other : Problem) → other.domains ≡ map bare_domain (counts_of problem.domains) → (item : problems.DomainItem) → item_choices problem item ≡ item_choices other item
item_same problem other e (Plain v) = refl
item_same problem other e (Objects d) =
    let count : (domain_at problem d).count ≡ (domain_at other d).count = count_same problem.domains d ∙ ap (λ (ds : List problems.ClassDomain). (get_or ds d no_objects).count) (sym e) in
    let before : objects_before d problem.domains ≡ objects_before d other.domains = before_same problem.domains d ∙ ap (λ (ds : List problems.ClassDomain). objects_before d ds) (sym e) in
    ap (λ (n : ℕ). map (object_choice problem) (map (λ k. record { domain = d; number = k }) (upto n))) count
    ∙ each before (upto (domain_at other d).count)
  where
    each : objects_before d problem.domains ≡ objects_before d other.domains → (ks : List ℕ) → map (object_choice problem) (map (λ k. record { domain = d; number = k }) ks) ≡ map (object_choice other) (map (λ k. record { domain = d; number = k }) ks)
    each b [] = refl
    each b (k ∷ ks) =
        ap (λ (n : ℕ). record { value = Reference (n + k); object = Some (record { domain = d; number = k }) } ∷ map (object_choice problem) (map (λ k. record { domain = d; number = k }) ks)) b
        ∙ ap (λ (cs : List Choice). object_choice other (record { domain = d; number = k }) ∷ cs) (each b ks)

choices_same : (problem other : Problem) → other.domains ≡ map bare_domain (counts_of problem.domains) → (domain : Domain) → choices_in problem domain ≡ choices_in other domain
choices_same problem other e [] = refl
choices_same problem other e (i ∷ is) =
    ap (λ (cs : List Choice). cs ++ choices_in problem is) (item_same problem other e i) ∙ ap (λ (cs : List Choice). item_choices other i ++ cs) (choices_same problem other e is)

mapped_twice : (ns : List ℕ) → map bare_domain ns ≡ map (class_domain []) (map bare_class ns)
mapped_twice [] = refl
mapped_twice (n ∷ ns) = ap (λ (ds : List problems.ClassDomain). bare_domain n ∷ ds) (mapped_twice ns)

-- blocks of these counts are those of the problem
pub are_blocks : (problem : Problem) (counts : List ℕ) (blocks : List Block) → counts_of problem.domains ≡ counts → blocks ≡ blocks_from 0 0 (map bare_class counts) → AreBlocks problem blocks
are_blocks problem counts blocks c b = λ items.
    let other : Problem = record problem { domains = map bare_domain (counts_of problem.domains) } in
    choices_same problem other refl (domain_of items)
    ∙ (choices_are other [] (map bare_class counts) (ap (λ (ns : List ℕ). map bare_domain ns) c ∙ mapped_twice counts) items
    ∙ ap (λ (bs : List Block). all_choices (map (stretch_of bs) items)) (sym b))
