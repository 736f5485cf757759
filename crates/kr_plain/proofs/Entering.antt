-- Entries inserted in order, and the ends of lists of entries.
use Rattle.std.proofs.Common.{◌≡◌, ℕ, zero, suc, ◌<◌, ◌≤◌, ◌⊎◌, inl, inr, List, [], ◌∷◌, length, get_or, take, refl, sym, ap, ◌∙◌, subst, arith, Bool, true, false}
use Rattle.std.specs.List.{insert as put}
use Rattle.std.specs.Prelude.{if◌then◌else◌}
use Rattle.std.proofs.lemmas.Bool.{cases_Bool}
use Rattle.kr_base.specs.declared.entry.Entry.{Entry}
use Rattle.kr_base.specs.Cuts.{is_before}
use Rattle.kr_base.specs.Entries.{is_spent, through_spent}
use Rattle.kr_mean.specs.Entries.{insert}
use Rattle.kr_laws_pruning.proofs.CutOrder.{tested, before_not_self, before_trans, is_before_no}
use Rattle.kr_plain.specs.Keys.{before_count, through_count}

-- the count is within the list
pub count_within : {R : Type 0} (k : List ℕ) (es : List (Entry R)) → before_count k es ≤ length es
count_within k [] = omega arith
count_within {R} k (e ∷ es) = go (is_before e.key k) (count_within k es)
  where
    go : (b : Bool) → before_count k es ≤ length es → (if b then suc (before_count k es) else zero) ≤ suc (length es)
    go true h = omega (arith, h)
    go false h = omega arith

not_back : (a b : List ℕ) → is_before a b ≡ true → is_before b a ≡ false
not_back a b t = is_before_no b a (λ h. elim (tested a b) [ inl x ↦ before_not_self a (before_trans a b a x.0 h) | inr x ↦ (let f = x.1 in cc) ])

-- an entry goes to where those before it end
pub put_there : {R : Type 0} (e d : Entry R) (es : List (Entry R)) → (length es ≤ before_count e.key es) ⊎ (is_before e.key (get_or es (before_count e.key es) d).key ≡ true) → put es (before_count e.key es) e ≡ insert e es
put_there e d [] h = refl
put_there {R} e d (f ∷ es) h = go (cases_Bool (is_before f.key e.key)) h (put_there e d es)
  where
    go : (is_before f.key e.key ≡ true) ⊎ (is_before f.key e.key ≡ false)
        → (length (f ∷ es) ≤ before_count e.key (f ∷ es)) ⊎ (is_before e.key (get_or (f ∷ es) (before_count e.key (f ∷ es)) d).key ≡ true)
        → ((length es ≤ before_count e.key es) ⊎ (is_before e.key (get_or es (before_count e.key es) d).key ≡ true) → put es (before_count e.key es) e ≡ insert e es)
        → put (f ∷ es) (before_count e.key (f ∷ es)) e ≡ insert e (f ∷ es)
    go (inl t) h r = rw (t, not_back f.key e.key t) (ap (λ (l : List (Entry R)). f ∷ l) (r (down (rw t at h))))
      where
        down : (suc (length es) ≤ suc (before_count e.key es)) ⊎ (is_before e.key (get_or es (before_count e.key es) d).key ≡ true) → (length es ≤ before_count e.key es) ⊎ (is_before e.key (get_or es (before_count e.key es) d).key ≡ true)
        down (inl x) = inl (omega (arith, x))
        down (inr x) = inr x
    go (inr n) h r = here (rw n at h)
      where
        here : (suc (length es) ≤ zero) ⊎ (is_before e.key f.key ≡ true) → put (f ∷ es) (before_count e.key (f ∷ es)) e ≡ insert e (f ∷ es)
        here (inl x) = absurd (omega (arith, x))
        here (inr x) = rw (n, x) refl

-- one of its key is there already
pub there_already : {R : Type 0} (e d : Entry R) (es : List (Entry R)) → before_count e.key es < length es → is_before e.key (get_or es (before_count e.key es) d).key ≡ false → insert e es ≡ es
there_already e d [] h n = absurd (omega (arith, h))
there_already {R} e d (f ∷ es) h n = go (cases_Bool (is_before f.key e.key)) h n (there_already e d es)
  where
    go : (is_before f.key e.key ≡ true) ⊎ (is_before f.key e.key ≡ false) → before_count e.key (f ∷ es) < suc (length es) → is_before e.key (get_or (f ∷ es) (before_count e.key (f ∷ es)) d).key ≡ false
        → (before_count e.key es < length es → is_before e.key (get_or es (before_count e.key es) d).key ≡ false → insert e es ≡ es) → insert e (f ∷ es) ≡ f ∷ es
    go (inl t) h n r = rw (t, not_back f.key e.key t) (ap (λ (l : List (Entry R)). f ∷ l) (r (let x : suc (before_count e.key es) < suc (length es) = rw t at h in omega (arith, x)) (rw t at n)))
    go (inr t) h n r = let m : is_before e.key f.key ≡ false = rw t at n in rw (t, m) refl

-- the front up to the first spent entry
pub take_through : {R : Type 0} (es : List (Entry R)) → take (through_count es) es ≡ through_spent es
take_through [] = refl
take_through {R} (e ∷ es) = go (is_spent e.mark) (take_through es)
  where
    go : (b : Bool) → take (through_count es) es ≡ through_spent es → take (if b then suc zero else suc (through_count es)) (e ∷ es) ≡ e ∷ (if b then [] else through_spent es)
    go true h = refl
    go false h = ap (λ (l : List (Entry R)). e ∷ l) h

-- likewise, by way of a copy of the list and the count
pub already : {R : Type 0} (e d : Entry R) (es xs : List (Entry R)) (n : ℕ) → xs ≡ es → n ≡ before_count e.key xs → n < length xs → is_before e.key (get_or xs n d).key ≡ false → es ≡ insert e es
already {R} e d es xs n q r h b =
    subst (λ (l : List (Entry R)). l ≡ insert e l) q
    (sym (there_already e d xs (subst (λ (m : ℕ). m < length xs) r h) (subst (λ (m : ℕ). is_before e.key (get_or xs m d).key ≡ false) r b)))

pub placed : {R : Type 0} (e d : Entry R) (es xs new : List (Entry R)) (n : ℕ) → xs ≡ es → n ≡ before_count e.key xs → (length xs ≤ n) ⊎ (is_before e.key (get_or xs n d).key ≡ true) → new ≡ put es n e → new ≡ insert e es
placed {R} e d es xs new n q r h i =
    i ∙ subst (λ (l : List (Entry R)). put l n e ≡ insert e l) q
    (subst (λ (m : ℕ). put xs m e ≡ insert e xs) (sym r) (put_there e d xs (subst (λ (m : ℕ). (length xs ≤ m) ⊎ (is_before e.key (get_or xs m d).key ≡ true)) r h)))
