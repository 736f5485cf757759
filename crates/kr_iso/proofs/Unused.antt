-- Along an allowed path the used objects of a class domain are those below some number.
use Rattle.std.proofs.Common.{◌≡◌, ℕ, zero, suc, ◌+◌, ◌<◌, ◌≤◌, ◌⊎◌, inl, inr, List, [], ◌∷◌, ◌++◌, Option, Some, None, refl, sym, ap, ◌∙◌, subst, arith, append_assoc, append-nil}
use Rattle.std.proofs.lemmas.Bool.{cases_lt, cases_eq}
use Rattle.kr_mean.specs.Problem.{DomainObject}
use Rattle.kr_mean.specs.Space.{Space}
use Rattle.kr_iso.specs.Choices.{AllowedPath}
use Rattle.kr_mean.specs.Choices.{IsUsed, MayStand}
use Rattle.kr_iso.specs.Unused.{IsBarred, IsReached, MayNotStand}
use Rattle.kr_iso.proofs.Least.{split_used, used_more, used_last}

record Counts (S : Space) (path : List (ℕ × ℕ)) (d next : ℕ) : Type 0 where
  pub below : (k : ℕ) → IsUsed S path d k → k < next
  pub used : (k : ℕ) → k < next → IsUsed S path d k

pub same_object : (o : DomainObject) (d k : ℕ) → Some o ≡ Some (record { domain = d; number = k }) → (o.domain ≡ d) × (o.number ≡ k)
same_object o d k e = let g : o ≡ record { domain = d; number = k } = cc in (ap (λ (q : DomainObject). q.domain) g, ap (λ (q : DomainObject). q.number) g)

stays : (S : Space) (before : List (ℕ × ℕ)) (p : ℕ × ℕ) (d next : ℕ) → Counts S before d next → ((k : ℕ) → S.object_at p.0 p.1 ≡ Some (record { domain = d; number = k }) → k < next) → Counts S (before ++ p ∷ []) d next
stays S before p d next c new = record {
  below = λ k u. elim (split_used S before p d k u) [ inl h ↦ c.below k h | inr h ↦ new k h ];
  used = λ k h. used_more S before p d k (c.used k h);
}

raised : (S : Space) (before : List (ℕ × ℕ)) (p : ℕ × ℕ) (o : DomainObject) (next : ℕ) → Counts S before o.domain next → S.object_at p.0 p.1 ≡ Some o → next ≤ o.number → MayStand S before (Some o) → Counts S (before ++ p ∷ []) o.domain (o.number + 1)
raised S before p o next c e le (inl used) = absurd (let h = c.below o.number used in omega arith)
raised S before p o next c e le (inr smaller) = record {
  below = λ k u. elim (split_used S before p o.domain k u) [ inl h ↦ (let b = c.below k h in omega arith) | inr h ↦ (let s = same_object o o.domain k (sym e ∙ h) in let q = s.1 in omega arith) ];
  used = λ k h. elim (cases_lt k o.number) [ inl lt ↦ used_more S before p o.domain k (smaller k lt) | inr ge ↦ (let q : o.number ≡ k = omega arith in used_last S before p o.domain k (e ∙ ap (λ (n : ℕ). Some (record { domain = o.domain; number = n })) q)) ];
}

one_more : (S : Space) (before : List (ℕ × ℕ)) (p : ℕ × ℕ) (d next : ℕ) (x : Option DomainObject) → Counts S before d next → S.object_at p.0 p.1 ≡ x → MayStand S before x → (n : ℕ) × Counts S (before ++ p ∷ []) d n
one_more S before p d next None c e may = (next, stays S before p d next c (λ k h. absurd (cc (sym e ∙ h))))
one_more S before p d next (Some o) c e may = go (cases_eq o.domain d) (cases_lt o.number next)
  where
    go : (o.domain ≡ d) ⊎ (o.domain ≡ d → ⊥) → (o.number < next) ⊎ (next ≤ o.number) → (n : ℕ) × Counts S (before ++ p ∷ []) d n
    go (inr other) y = (next, stays S before p d next c (λ k h. absurd (other (same_object o d k (sym e ∙ h)).0)))
    go (inl same) (inl lt) = (next, stays S before p d next c (λ k h. let q = (same_object o d k (sym e ∙ h)).1 in omega arith))
    go (inl same) (inr ge) = (
      o.number + 1,
      subst (λ (j : ℕ). Counts S (before ++ p ∷ []) j (o.number + 1)) same
          (raised S before p o next (subst (λ (j : ℕ). Counts S before j next) (sym same) c) e ge may),
    )

counts_on : (S : Space) (before path : List (ℕ × ℕ)) (d next : ℕ) → Counts S before d next → AllowedPath S before path → (n : ℕ) × Counts S (before ++ path) d n
counts_on S before [] d next c a = (next, subst (λ (l : List (ℕ × ℕ)). Counts S l d next) (sym (append-nil before)) c)
counts_on S before (p ∷ path) d next c a =
    let more = one_more S before p d next (S.object_at p.0 p.1) c refl a.0 in
    let all = counts_on S (before ++ p ∷ []) path d more.0 more.1 a.1 in
    (all.0, subst (λ (l : List (ℕ × ℕ)). Counts S l d all.0) (append_assoc before (p ∷ []) path) all.1)

counts : (S : Space) (path : List (ℕ × ℕ)) (d : ℕ) → AllowedPath S [] path → (n : ℕ) × Counts S path d n
counts S path d a = counts_on S [] path d 0 (record { below = λ k u. absurd u; used = λ k h. absurd (omega arith) }) a

-- ---- an object is allowed exactly where it is the first, or one used before is at most one less

reached : (S : Space) (path : List (ℕ × ℕ)) (d k : ℕ) → (k ≡ 0 → ⊥) → IsUsed S path d k ⊎ ((j : ℕ) → j < k → IsUsed S path d j) → IsReached S path (record { domain = d; number = k })
reached S path d k some (inl used) = (k, omega arith, used)
reached S path d zero some (inr smaller) = absurd (some refl)
reached S path d (suc k) some (inr smaller) = (k, omega arith, smaller k (omega arith))

pub first_may : (S : Space) (path : List (ℕ × ℕ)) (o : DomainObject) → o.number ≡ 0 → MayStand S path (Some o)
first_may S path o z = inr (λ k h. absurd (omega arith))

pub reached_may : (S : Space) (path : List (ℕ × ℕ)) (o : DomainObject) → AllowedPath S [] path → IsReached S path o → MayStand S path (Some o)
reached_may S path o a r =
    let c = counts S path o.domain a in
    let below = c.1.below r.0 r.2 in
    let near = r.1 in
    inr (λ k h. c.1.used k (omega arith))

pub may_reached : (S : Space) (path : List (ℕ × ℕ)) (o : DomainObject) → (o.number ≡ 0 → ⊥) → MayStand S path (Some o) → IsReached S path o
may_reached S path o some may = reached S path o.domain o.number some may

-- ---- allowed indices

-- an object that comes no later is allowed too
earlier_may : (S : Space) (path : List (ℕ × ℕ)) (d j k : ℕ) → AllowedPath S [] path → j ≤ k → IsUsed S path d k ⊎ ((i : ℕ) → i < k → IsUsed S path d i) → MayStand S path (Some (record { domain = d; number = j }))
earlier_may S path d j k a le (inl used) =
    let c = counts S path d a in
    let below = c.1.below k used in
    inr (λ i h. c.1.used i (omega arith))
earlier_may S path d j k a le (inr smaller) = inr (λ i h. smaller i (omega arith))

pub barred_not : (S : Space) (path : List (ℕ × ℕ)) (x : Option DomainObject) (o : DomainObject) → AllowedPath S [] path → MayNotStand S path x → IsBarred x o → MayStand S path (Some o) → ⊥
barred_not S path None o a not b may = b
barred_not S path (Some before) o a not b may =
    not (earlier_may S path before.domain before.number o.number a b.1 (subst (λ (d : ℕ). IsUsed S path d o.number ⊎ ((i : ℕ) → i < o.number → IsUsed S path d i)) (sym b.0) may))
