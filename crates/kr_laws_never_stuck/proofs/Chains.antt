-- Lines of classes: each goes on as that of the superclass, to its end.
use Rattle.std.proofs.Common.{◌≡◌, refl, sym, ap, ◌∙◌, subst, inl, inr, ◌⊎◌, ℕ, zero, suc, ◌≤◌, true, false, List, [], ◌∷◌, length, arith}
use Rattle.std.specs.Prelude.{Option, Some, None, nat_eq, option_and_then}
use Rattle.std.proofs.lemmas.Bool.{eq-eqb, eqb-true, or_cases, or_right, or_left}
use Rattle.kr_classes_table.specs.Table.{Table, Class, class_at, super_of, line_within, ancestors, line_of, is_among, is_below}
use Rattle.kr_classes_table.specs.Ancestors.{IsWhole}
use Rattle.kr_laws_safety.specs.Typed.{first_class, IsLine}
use Rattle.kr_laws_never_stuck.proofs.Unbroken.{Unbroken}
use Rattle.kr_laws_runs.proofs.Overriders.{no_line}
use Rattle.kr_classes_table.proofs.Tables.{unbroken}

-- ---- booleans

-- ---- steps upwards

-- the class so many steps above one
abbrev above : ℕ → Table → Option ℕ → Option ℕ
above zero t o = o
above (suc k) t o = above k t (option_and_then (super_of t) o)

none_above : (k : ℕ) (t : Table) → above k t None ≡ None
none_above zero t = refl
none_above (suc k) t = none_above k t

-- where there is none so high, a line of so many isn't cut
uncut : (k : ℕ) (t : Table) (o : Option ℕ) → above k t o ≡ None → line_within (suc k) t o ≡ line_within k t o
uncut zero t None e = refl
uncut zero t (Some c) e = absurd (cc (e))
uncut (suc k) t None e = refl
uncut (suc k) t (Some c) e = ap (λ (xs : List ℕ). c ∷ xs) (uncut k t (super_of t c) e)

-- one so high is in the line of one more
in_line : (k : ℕ) (t : Table) (o : Option ℕ) (e : ℕ) → above k t o ≡ Some e → is_among e (line_within (suc k) t o) ≡ true
in_line zero t None e h = absurd (cc (h))
in_line zero t (Some c) e h = or_left (nat_eq e c) false (eq-eqb e c (sym (ap (λ (o : Option ℕ). elim o as (λ y. ℕ) [ Some z ↦ z | None ↦ c ]) h)))
in_line (suc k) t None e h = absurd (cc (h, none_above k t))
in_line (suc k) t (Some c) e h = or_right (nat_eq e c) (is_among e (line_within (suc k) t (super_of t c))) (in_line k t (super_of t c) e h)

-- it is the superclass of the one below it
last_step : (k : ℕ) (t : Table) (o : Option ℕ) (e : ℕ) → above (suc k) t o ≡ Some e → (y : ℕ) × (above k t o ≡ Some y) × (super_of t y ≡ Some e)
last_step k t None e h = absurd (cc (h, none_above k t))
last_step zero t (Some c) e h = (c, refl, h)
last_step (suc k) t (Some c) e h = last_step k t (super_of t c) e h

longer : (j k : ℕ) (t : Table) (o : Option ℕ) (d : ℕ) → j ≤ k → is_among d (line_within j t o) ≡ true → is_among d (line_within k t o) ≡ true
longer zero k t o d l h = absurd (cc (h))
longer (suc j) zero t o d l h = absurd (omega (arith, l))
longer (suc j) (suc k) t None d l h = absurd (cc (h))
longer (suc j) (suc k) t (Some c) d l h = go (or_cases (nat_eq d c) (is_among d (line_within j t (super_of t c))) h) (longer j k t (super_of t c) d (omega (arith, l)))
  where
    go : (nat_eq d c ≡ true) ⊎ (is_among d (line_within j t (super_of t c)) ≡ true) → (is_among d (line_within j t (super_of t c)) ≡ true → is_among d (line_within k t (super_of t c)) ≡ true) → is_among d (line_within (suc k) t (Some c)) ≡ true
    go (inl e) f = or_left (nat_eq d c) (is_among d (line_within k t (super_of t c))) e
    go (inr e) f = or_right (nat_eq d c) (is_among d (line_within k t (super_of t c))) (f e)

-- no class is met again above itself
again : (k : ℕ) (t : Table) (o : Option ℕ) (e : ℕ) → ((c : ℕ) → is_among c (line_within k t (super_of t c)) ≡ true → ⊥) → above k t o ≡ Some e → is_among e (line_within k t o) ≡ true → ⊥
again zero t o e acyclic h i = cc (i)
again (suc k) t None e acyclic h i = cc (i)
again (suc k) t (Some c) e acyclic h i = go (or_cases (nat_eq e c) (is_among e (line_within k t (super_of t c))) i) (again k t (super_of t c) e (λ x j. acyclic x (longer k (suc k) t (super_of t x) x (omega arith) j)) h)
  where
    go : (nat_eq e c ≡ true) ⊎ (is_among e (line_within k t (super_of t c)) ≡ true) → (is_among e (line_within k t (super_of t c)) ≡ true → ⊥) → ⊥
    go (inl j) f = acyclic c (in_line k t (super_of t c) c (h ∙ ap (λ (x : ℕ). Some x) (eqb-true e c j)))
    go (inr j) f = f j

-- ---- chains

module _ (t : Table) (rules : Unbroken t) (whole : IsWhole t) where
  -- a number past the table has no superclass
  super_class_at : (c s : ℕ) → super_of t c ≡ Some s → (d : Class) × (class_at t.classes c ≡ Some d)
  super_class_at c s e = go (class_at t.classes c) refl e
    where
      go : (x : Option Class) → class_at t.classes c ≡ x → option_and_then (λ d. d.super) x ≡ Some s → (d : Class) × (class_at t.classes c ≡ Some d)
      go None q e = absurd (cc (e))
      go (Some d) q e = (d, q)

  no_cycle : (c : ℕ) → is_among c (ancestors t c) ≡ true → ⊥
  no_cycle c h = go (super_of t c) refl h
    where
      go : (o : Option ℕ) → super_of t c ≡ o → is_among c (line_within (length t.classes) t o) ≡ true → ⊥
      go None e h = cc (ap (is_among c) (sym (no_line (length t.classes) t)) ∙ h)
      go (Some s) e h = let d = super_class_at c s e in cc (unbroken (is_among c (ancestors t c)) 3 d.0.place (rules.C3 c d.0 d.1), ap (λ (o : Option ℕ). is_among c (line_within (length t.classes) t o)) e ∙ h)

  -- there is a class, so a line has room for one
  some_classes : (c : ℕ) (d : Class) (ds : List Class) → class_at ds c ≡ Some d → (m : ℕ) × (length ds ≡ suc m)
  some_classes c d [] e = absurd (cc (e))
  some_classes c d (x ∷ ds) e = (length ds, refl)

  -- the ancestors are the superclass and its ancestors
  pub superclass_on : (c s : ℕ) → super_of t c ≡ Some s → ancestors t c ≡ line_of t s
  superclass_on c s e = let d = super_class_at c s e in let n = some_classes c d.0 t.classes d.1 in go n.0 n.1
    where
      go : (m : ℕ) → length t.classes ≡ suc m → ancestors t c ≡ line_of t s
      go m l = ap (λ (o : Option ℕ). line_within (length t.classes) t o) e ∙ (ap (λ (k : ℕ). line_within k t (Some s)) l ∙ (ap (λ (xs : List ℕ). s ∷ xs) (sym (uncut m t (super_of t s) (top (above m t (super_of t s)) refl))) ∙ ap (λ (k : ℕ). s ∷ line_within k t (super_of t s)) (sym l)))
        where
          top : (o : Option ℕ) → above m t (super_of t s) ≡ o → o ≡ None
          top None q = refl
          top (Some z) q =
              let y = last_step m t (Some s) z q in
              let here : is_among y.0 (ancestors t c) ≡ true = ap (λ (o : Option ℕ). is_among y.0 (line_within (length t.classes) t o)) e ∙ (ap (λ (k : ℕ). is_among y.0 (line_within k t (Some s))) l ∙ in_line m t (Some s) y.0 y.1) in
              let there = whole c y.0 z here y.2 in
              absurd (again (suc m) t (Some s) z (λ x j. no_cycle x (ap (λ (k : ℕ). is_among x (line_within k t (super_of t x))) l ∙ j)) q (sym (ap (λ (k : ℕ). is_among z (line_within k t (Some s))) l) ∙ (sym (ap (λ (o : Option ℕ). is_among z (line_within (length t.classes) t o)) e) ∙ there)))

  pub no_ancestors : (c : ℕ) → super_of t c ≡ None → ancestors t c ≡ []
  no_ancestors c e = ap (line_within (length t.classes) t) e ∙ no_line (length t.classes) t

  -- each class before its ancestors
  abbrev pub Chain : List ℕ → Type 0
  Chain [] = Unit {0}
  Chain (c ∷ cs) = (cs ≡ ancestors t c) × Chain cs

  chain_within : (n c : ℕ) → length (ancestors t c) ≤ n → Chain (ancestors t c)
  chain_within zero c l = go (ancestors t c) l
    where
      go : (cs : List ℕ) → length cs ≤ 0 → Chain cs
      go [] l = tt
      go (d ∷ ds) l = absurd (omega (arith, l))
  chain_within (suc n) c l = go (super_of t c) refl (λ s m. chain_within n s m)
    where
      go : (o : Option ℕ) → super_of t c ≡ o → ((s : ℕ) → length (ancestors t s) ≤ n → Chain (ancestors t s)) → Chain (ancestors t c)
      go None e f = subst Chain (sym (no_ancestors c e)) tt
      go (Some s) e f = let on = superclass_on c s e in subst Chain (sym on) (refl, f s (omega (arith, l, ap (λ (xs : List ℕ). length xs) on)))

  pub chain : (c : ℕ) → Chain (line_of t c)
  chain c = (refl, chain_within (length (ancestors t c)) c (omega arith))

  first_above : (c : ℕ) → super_of t c ≡ first_class (ancestors t c)
  first_above c = go (super_of t c) refl
    where
      go : (o : Option ℕ) → super_of t c ≡ o → o ≡ first_class (ancestors t c)
      go None e = ap first_class (sym (no_ancestors c e))
      go (Some s) e = ap first_class (sym (superclass_on c s e))

  chain_line : (cs : List ℕ) → Chain cs → IsLine t cs
  chain_line [] h = tt
  chain_line (c ∷ cs) h = (first_above c ∙ ap first_class (sym h.0), chain_line cs h.1)

  pub line : (c : ℕ) → IsLine t (line_of t c)
  line c = chain_line (line_of t c) (chain c)

  -- a line has the lines of its classes
  chain_has : (cs : List ℕ) → Chain cs → (d e : ℕ) → is_among d cs ≡ true → is_among e (line_of t d) ≡ true → is_among e cs ≡ true
  chain_has [] h d e i j = absurd (cc (i))
  chain_has (c ∷ cs) h d e i j = go (or_cases (nat_eq d c) (is_among d cs) i) (λ k. chain_has cs h.1 d e k j)
    where
      go : (nat_eq d c ≡ true) ⊎ (is_among d cs ≡ true) → (is_among d cs ≡ true → is_among e cs ≡ true) → is_among e (c ∷ cs) ≡ true
      go (inl k) f = ap (λ (xs : List ℕ). is_among e (c ∷ xs)) h.0 ∙ (ap (λ (x : ℕ). is_among e (line_of t x)) (sym (eqb-true d c k)) ∙ j)
      go (inr k) f = or_right (nat_eq e c) (is_among e cs) (f k)

  pub onward : (c d e : ℕ) → is_below t c d ≡ true → is_below t d e ≡ true → is_below t c e ≡ true
  onward c d e i j = chain_has (line_of t c) (chain c) d e i j
