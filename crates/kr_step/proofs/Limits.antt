-- The last step of a path, and how far it can be raised.
use Rattle.std.proofs.Common.{◌≡◌, ℕ, zero, suc, ◌+◌, ◌-◌, ◌<◌, ◌⊎◌, inl, inr, Bool, List, [], ◌∷◌, ◌++◌, Some, refl, sym, ap, ◌∙◌, subst, arith, get_or, length, take, set, append-nil}
use Rattle.std.proofs.lemmas.Bool.{cases_eq}
use Rattle.std.proofs.lemmas.List.{length-append}
use Rattle.kr_mean.specs.Space.{Space, IsVector}
use Rattle.kr_mean.specs.Blocks.{IsSpace}
use Rattle.kr_mean.specs.Choices.{IsNextChoice}
use Rattle.kr_mean.specs.Readings.{AllBelow, IsReading}
use Rattle.kr_iso.specs.Choices.{AllowedPath, PathIn}
use Rattle.kr_step.specs.Keeps.{Follows}
use Rattle.kr_step.specs.Limits.{IsOpen, Opens, Raises}
use Rattle.kr_step.specs.Steps.{Advanced, IsMoved, IsStuck, path_of}
use Rattle.kr_step.proofs.Nexts.{push_moved}
use Rattle.kr_step.proofs.Paths.{allowed_front}

-- ---- the end of a path

no_end : (xs : List (ℕ × ℕ)) (p : ℕ × ℕ) → [] ≡ xs ++ p ∷ [] → ⊥
no_end [] p e = cc
no_end (x ∷ xs) p e = cc

one_end : (xs ys : List (ℕ × ℕ)) (p q : ℕ × ℕ) → xs ++ p ∷ [] ≡ ys ++ q ∷ [] → (xs ≡ ys) × (p ≡ q)
one_end [] [] p q e = (refl, cc)
one_end [] (y ∷ ys) p q e = absurd (no_end ys q (cc))
one_end (x ∷ xs) [] p q e = absurd (no_end xs p (cc))
one_end (x ∷ xs) (y ∷ ys) p q e =
    let r = one_end xs ys p q (cc) in
    let here : x ≡ y = cc in
    (ap (λ (z : ℕ × ℕ). z ∷ xs) here ∙ ap (λ (l : List (ℕ × ℕ)). y ∷ l) r.0, r.1)

end_is : (path : List (ℕ × ℕ)) (n m : ℕ) → length path ≡ n + 1 → m ≡ n → path ≡ take m path ++ get_or path n (0, 0) ∷ []
end_is [] n m e q = absurd (omega (arith, e))
end_is (p ∷ []) zero zero e q = refl
end_is (p ∷ r ∷ path) zero m e q = absurd (omega (arith, e))
end_is (p ∷ path) zero (suc m) e q = absurd (omega (arith, q))
end_is (p ∷ path) (suc n) zero e q = absurd (omega (arith, q))
end_is (p ∷ path) (suc n) (suc m) e q = ap (λ (l : List (ℕ × ℕ)). p ∷ l) (end_is path n m (omega (arith, e)) (omega (arith, q)))

-- the last step of a path that isn't empty, and those before it
abbrev pub front_of : List (ℕ × ℕ) → List (ℕ × ℕ)
front_of path = take (length path - 1) path

abbrev pub last_of : List (ℕ × ℕ) → ℕ × ℕ
last_of path = get_or path (length path - 1) (0, 0)

pub ends : (path : List (ℕ × ℕ)) → (length path ≡ 0 → ⊥) → path ≡ front_of path ++ last_of path ∷ []
ends path some = end_is path (length path - 1) (length path - 1) (omega (arith, some)) refl

end_set : (front : List (ℕ × ℕ)) (p q : ℕ × ℕ) → set (front ++ p ∷ []) (length front) q ≡ front ++ q ∷ []
end_set [] p q = refl
end_set (x ∷ front) p q = ap (λ (l : List (ℕ × ℕ)). x ∷ l) (end_set front p q)

-- ---- limits

pub opens_none : (S : Space) (path : List (ℕ × ℕ)) → Opens S path 0
opens_none S path = record { last = λ front s i e. record { within = λ j above below. absurd (omega (arith, above, below)); allowed = λ j above below. absurd (omega (arith, above, below)) } }

pub opens_to : (S : Space) (path front : List (ℕ × ℕ)) (p : ℕ × ℕ) (limit : ℕ) → path ≡ front ++ p ∷ [] → IsOpen S front p.0 p.1 limit → Opens S path limit
opens_to S path front p limit e o = record {
  last = λ f t k q.
      let r = one_end front f p (t, k) (sym e ∙ q) in
      subst (λ (l : List (ℕ × ℕ)). IsOpen S l t k limit) r.0 (subst (λ (x : ℕ × ℕ). IsOpen S front x.0 x.1 limit) r.1 o);
}

pub last_open : (S : Space) (path front : List (ℕ × ℕ)) (p : ℕ × ℕ) (limit : ℕ) → path ≡ front ++ p ∷ [] → Opens S path limit → IsOpen S front p.0 p.1 limit
last_open S path front p limit e o = o.last front p.0 p.1 e

-- a path that was written down in full, and its limit
pub opens_full : (S : Space) (path more new : List (ℕ × ℕ)) (limit later : ℕ) → new ≡ path ++ more → (length new ≡ length path → later ≡ limit) → ((length new ≡ length path → ⊥) → later ≡ 0) → Opens S path limit → Opens S new later
opens_full S path more new limit later e same grown o = go (cases_eq (length new) (length path))
  where
    none_more : (xs ys : List (ℕ × ℕ)) → length (xs ++ ys) ≡ length xs → xs ++ ys ≡ xs
    none_more xs [] h = append-nil xs
    none_more xs (y ∷ ys) h = absurd (omega (arith, h, length-append xs (y ∷ ys)))

    go : (length new ≡ length path) ⊎ (length new ≡ length path → ⊥) → Opens S new later
    go (inl h) =
        let same_path : new ≡ path = e ∙ none_more path more (ap (λ (l : List (ℕ × ℕ)). length l) (sym e) ∙ h) in
        subst (λ (n : ℕ). Opens S new n) (sym (same h)) (subst (λ (l : List (ℕ × ℕ)). Opens S l limit) (sym same_path) o)
    go (inr h) = subst (λ (n : ℕ). Opens S new n) (sym (grown h)) (opens_none S new)

-- ---- a search that raises the last index of its path

front_in : (S : Space) (xs ys : List (ℕ × ℕ)) → PathIn S (xs ++ ys) → PathIn S xs
front_in S [] ys h = tt
front_in S (x ∷ xs) ys h = (h.0, h.1, front_in S xs ys h.2)

last_in : (S : Space) (xs : List (ℕ × ℕ)) (p : ℕ × ℕ) → PathIn S (xs ++ p ∷ []) → p.0 < S.slots
last_in S [] p h = h.0
last_in S (x ∷ xs) p h = last_in S xs p h.2

path_in : (S : Space) (u : List ℕ) → IsVector S u → (ss : List ℕ) → AllBelow S.slots ss → PathIn S (path_of u ss)
path_in S u iu [] b = tt
path_in S u iu (s ∷ ss) b = (b.0, iu.within s b.0, path_in S u iu ss b.1)

pub front_is_in : (S : Space) (path front : List (ℕ × ℕ)) (p : ℕ × ℕ) → path ≡ front ++ p ∷ [] → PathIn S path → PathIn S front × (p.0 < S.slots)
front_is_in S path front p e h = let k : PathIn S (front ++ p ∷ []) = subst (PathIn S) e h in (front_in S front (p ∷ []) k, last_in S front p k)

pub front_is_allowed : (S : Space) (path front : List (ℕ × ℕ)) (p : ℕ × ℕ) → path ≡ front ++ p ∷ [] → AllowedPath S [] path → AllowedPath S [] front
front_is_allowed S path front p e a = allowed_front S [] front (p ∷ []) (subst (AllowedPath S []) e a)

-- it also holds of candidates that are equal
pub opens_along : (S T : Space) (path : List (ℕ × ℕ)) (limit : ℕ) → T ≡ S → Opens S path limit → Opens T path limit
opens_along S T path limit e o = subst (λ (x : Space). Opens x path limit) (sym e) o

pub advanced_along : (S T : Space) (o p : List ℕ → List ℕ) (c : List ℕ) (b : Bool) (v : List ℕ) (path : List (ℕ × ℕ)) → T ≡ S → p ≡ o → Advanced T p c b v path → Advanced S o c b v path
advanced_along S T o p c b v path e f k = subst (λ (x : Space). Advanced x o c b v path) e (subst (λ (x : List ℕ → List ℕ). Advanced T x c b v path) f k)

-- ---- the last index is raised

step_long : (path : List (ℕ × ℕ)) (s i limit : ℕ) (r : Raises path s i limit) → length path ≡ length r.front + 1
step_long path s i limit r = ap (λ (l : List (ℕ × ℕ)). length l) r.path_is ∙ length-append r.front ((s, r.index) ∷ [])

pub step_some : (path : List (ℕ × ℕ)) (s i limit : ℕ) → Raises path s i limit → 0 < length path
step_some path s i limit r = omega (arith, step_long path s i limit r)

step_is : (path new : List (ℕ × ℕ)) (s i limit : ℕ) (r : Raises path s i limit) → new ≡ set path (length path - 1) (s, i) → new ≡ r.front ++ (s, i) ∷ []
step_is path new s i limit r e =
    let long : length path - 1 ≡ length r.front = omega (arith, step_long path s i limit r) in
    e ∙ (ap (λ (n : ℕ). set path n (s, i)) long ∙ (ap (λ (l : List (ℕ × ℕ)). set l (length r.front) (s, i)) r.path_is ∙ end_set r.front (s, r.index) (s, i)))

pub step_follows : (path new : List (ℕ × ℕ)) (s i limit : ℕ) → Raises path s i limit → new ≡ set path (length path - 1) (s, i) → Follows path new
step_follows path new s i limit r e = record { front = r.front; back = (s, r.index) ∷ []; last = (s, i); old_is = r.path_is; new_is = step_is path new s i limit r e }

module _ (S : Space) (path : List (ℕ × ℕ)) (s i limit : ℕ) (r : Raises path s i limit) (o : Opens S path limit) where
  wide : IsOpen S r.front s r.index limit
  wide = o.last r.front s r.index r.path_is

  pub step_inside : PathIn S path → (s < S.slots) × (i < S.size s)
  step_inside h = ((front_is_in S path r.front (s, r.index) r.path_is h).1, wide.within i (omega (arith, r.next)) r.below)

  pub step_opens : (new : List (ℕ × ℕ)) → new ≡ set path (length path - 1) (s, i) → Opens S new limit
  step_opens new e = opens_to S new r.front (s, i) limit (step_is path new s i limit r e) (record {
    within = λ j above below. wide.within j (omega (arith, above, r.next)) below;
    allowed = λ j above below. wide.allowed j (omega (arith, above, r.next)) below;
  })

  pub step_moved : {M : Type 0} (order : List ℕ → List ℕ) (mark : List ℕ → M) → IsSpace S → IsReading S order mark → (new : List (ℕ × ℕ)) → new ≡ set path (length path - 1) (s, i) → (c v w : List ℕ) → w ≡ set v s i → IsStuck S order c v path → IsMoved S order c w new
  step_moved order mark is reading new e c v w q k =
      let here : IsStuck S order c v (r.front ++ (s, r.index) ∷ []) = subst (IsStuck S order c v) r.path_is k in
      let above : r.index < i = omega (arith, r.next) in
      let choice : IsNextChoice S r.front s (r.index + 1) (Some i) =
      (omega (arith, r.next), wide.within i above r.below, wide.allowed i above r.below, λ j from to may. absurd (omega (arith, from, to, r.next))) in
      let moved = push_moved S order mark is reading r.front s r.index i c v here choice in
      subst (IsMoved S order c w) (sym (step_is path new s i limit r e)) (subst (λ (x : List ℕ). IsMoved S order c x (r.front ++ (s, i) ∷ [])) (sym q) moved)

pub stuck_in : {M : Type 0} (S : Space) (order : List ℕ → List ℕ) (mark : List ℕ → M) → IsReading S order mark → (c v : List ℕ) (path : List (ℕ × ℕ)) → IsStuck S order c v path → PathIn S path
stuck_in S order mark reading c v path k = front_in S path k.leads.2 (subst (PathIn S) k.leads.3 (path_in S k.leads.0 k.leads.1 (order k.leads.0) (reading.below k.leads.0 k.leads.1)))
