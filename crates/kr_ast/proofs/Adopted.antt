-- Nodes that get a parent.
use Rattle.std.proofs.Common.{◌≡◌, ℕ, zero, suc, ◌+◌, ◌<◌, ◌⊎◌, inl, inr, List, [], ◌∷◌, ◌++◌, length, get_or, Some, refl, sym, ap, ◌∙◌, arith, subst, length-append}
use Rattle.std.specs.Prelude.{slice_get, slice_set}
use Rattle.std.proofs.Math.ListN.{length-set}
use Rattle.std.proofs.lemmas.Option.{slice_get-get_or, same_Some}
use Rattle.std.proofs.lemmas.List.{get_or_append_left}
use Rattle.kr_ast.specs.declared.node.Entry.{Entry}
use Rattle.kr_ast.specs.Arena.{trees, entry_tree}
use Rattle.kr_ast.specs.Forest.{IsApart, AreFree, IsIn, owned, adopted}
use Rattle.kr_ast.proofs.Grown.{grow-set}

set_other : (es : List Entry) (c k : ℕ) (x : Entry) → (k ≡ c → ⊥) → slice_get (slice_set es c x) k ≡ slice_get es k
set_other [] c k x ne = refl
set_other (e ∷ es) zero zero x ne = absurd (ne refl)
set_other (e ∷ es) zero (suc k) x ne = refl
set_other (e ∷ es) (suc c) zero x ne = refl
set_other (e ∷ es) (suc c) (suc k) x ne = set_other es c k x (λ q. ne (omega arith))

set_same : (es : List Entry) (c : ℕ) (x : Entry) → c < length es → slice_get (slice_set es c x) c ≡ Some x
set_same [] c x lt = absurd (omega arith)
set_same (e ∷ es) zero x lt = refl
set_same (e ∷ es) (suc c) x lt = set_same es c x (omega arith)

set-append : (es : List Entry) (n : Entry) (c : ℕ) (x : Entry) → c < length es → slice_set (es ++ n ∷ []) c x ≡ slice_set es c x ++ n ∷ []
set-append [] n c x lt = absurd (omega arith)
set-append (e ∷ es) n zero x lt = refl
set-append (e ∷ es) n (suc c) x lt = ap (λ l. e ∷ l) (set-append es n c x (omega arith))

-- an item is among the old ones or the new one
pub push_cases : (es : List Entry) (n : Entry) (i : ℕ) (e : Entry) → slice_get (es ++ n ∷ []) i ≡ Some e → (slice_get es i ≡ Some e) ⊎ ((i ≡ length es) × (n ≡ e))
push_cases [] n zero e is = inr (refl, same_Some n e is)
push_cases [] n (suc i) e is = absurd (cc)
push_cases (x ∷ es) n zero e is = inl is
push_cases (x ∷ es) n (suc i) e is = elim (push_cases es n i e is) [ inl l ↦ inl l | inr r ↦ inr (omega (arith, r.0), r.1) ]

pub length-adopted : (d : Entry) (es : List Entry) (at j : ℕ) (cs : List ℕ) → length (adopted d es at j cs) ≡ length es
length-adopted d es at j [] = refl
length-adopted d es at j (c ∷ cs) = length-adopted d (slice_set es c (owned at j (get_or es c d))) at (j + 1) cs ∙ length-set es c (owned at j (get_or es c d))

-- trees don't see parents
pub trees-adopted : (text : List ℕ) (d : Entry) (es : List Entry) (at j : ℕ) (cs : List ℕ) → trees text (adopted d es at j cs) ≡ trees text es
unfolding trees
trees-adopted text d es at j [] = refl
trees-adopted text d es at j (c ∷ cs) =
    trees-adopted text d (slice_set es c (owned at j (get_or es c d))) at (j + 1) cs
    ∙ grow-set (entry_tree text) d (owned at j) (λ ts e. refl) [] es c

-- other nodes stay as they are
pub apart_other : (d : Entry) (es : List Entry) (at j k : ℕ) (cs : List ℕ) → IsApart k cs → slice_get (adopted d es at j cs) k ≡ slice_get es k
apart_other d es at j k [] a = refl
apart_other d es at j k (c ∷ cs) a = apart_other d (slice_set es c (owned at j (get_or es c d))) at (j + 1) k cs a.1 ∙ set_other es c k (owned at j (get_or es c d)) a.0

-- a node that is not adopted stays free
free_kept : (es : List Entry) (c : ℕ) (x : Entry) (cs : List ℕ) → IsApart c cs → AreFree es cs → AreFree (slice_set es c x) cs
free_kept es c x [] a f = tt
free_kept es c x (b ∷ bs) a f = (
  omega (arith, length-set es c x, f.0),
  (λ e is. f.1 e (sym (set_other es c b x (λ q. a.0 (sym q))) ∙ is)),
  f.2,
  free_kept es c x bs a.1 f.3,
)

-- free nodes stay free when another is pushed
pub free-append : (es : List Entry) (n : Entry) (cs : List ℕ) → AreFree es cs → AreFree (es ++ n ∷ []) cs
free-append es n [] f = tt
free-append es n (c ∷ cs) f = (
  omega (arith, length-append es (n ∷ []), f.0),
  (λ e is. elim (push_cases es n c e is) [ inl l ↦ f.1 e l | inr r ↦ absurd (omega (arith, r.0, f.0)) ]),
  f.2,
  free-append es n cs f.3,
)

pub adopted-append : (d : Entry) (es : List Entry) (n : Entry) (at j : ℕ) (cs : List ℕ) → AreFree es cs → adopted d (es ++ n ∷ []) at j cs ≡ adopted d es at j cs ++ n ∷ []
adopted-append d es n at j [] f = refl
adopted-append d es n at j (c ∷ cs) f =
    ap (λ x. adopted d (slice_set (es ++ n ∷ []) c (owned at j x)) at (j + 1) cs) (get_or_append_left es (n ∷ []) d c f.0)
    ∙ ap (λ l. adopted d l at (j + 1) cs) (set-append es n c (owned at j (get_or es c d)) f.0)
    ∙ adopted-append d (slice_set es c (owned at j (get_or es c d))) n at (j + 1) cs (free_kept es c (owned at j (get_or es c d)) cs f.2 f.3)

-- each adopted node has its parent
pub record Adopted (es : List Entry) (at j c : ℕ) : Type 0 where
  pub has : (e : Entry) → slice_get es c ≡ Some e → (e.parent ≡ at) × (e.position ≡ j)

pub adopts : (d : Entry) (es : List Entry) (at j : ℕ) (cs : List ℕ) → AreFree es cs → (m c : ℕ) → slice_get cs m ≡ Some c → Adopted (adopted d es at j cs) at (j + m) c
adopts d es at j [] f m c is = absurd (cc)
adopts d es at j (b ∷ bs) f zero c is =
    let x = owned at j (get_or es b d) in
    let same : b ≡ c = cc in
    let there = apart_other d (slice_set es b x) at (j + 1) b bs f.2 ∙ set_same es b x f.0 in
    record { has = λ e q. by x e (sym there ∙ ap (slice_get (adopted d (slice_set es b x) at (j + 1) bs)) same ∙ q) refl refl }
  where
    by : (x e : Entry) → Some x ≡ Some e → x.parent ≡ at → x.position ≡ j → (e.parent ≡ at) × (e.position ≡ j + 0)
    by x e q p r = let w : x ≡ e = cc in (sym (ap (λ (e : Entry). e.parent) w) ∙ p, omega (arith, sym (ap (λ (e : Entry). e.position) w) ∙ r))
adopts d es at j (b ∷ bs) f (suc m) c is =
    let x = owned at j (get_or es b d) in
    let i = adopts d (slice_set es b x) at (j + 1) bs (free_kept es b x bs f.2 f.3) m c is in
    subst (λ n. Adopted (adopted d (slice_set es b x) at (j + 1) bs) at n c) (omega arith) i

-- an entry before it was adopted, or not
pub record Before (es : List Entry) (at i : ℕ) (cs : List ℕ) (e : Entry) : Type 0 where
  pub old : Entry
  pub there : slice_get es i ≡ Some old
  pub node : old.node ≡ e.node
  pub parent : ((old.parent ≡ e.parent) × (old.position ≡ e.position)) ⊎ (IsIn i cs × (e.parent ≡ at))

cases : (a b : ℕ) → (a ≡ b) ⊎ (a ≡ b → ⊥)
cases zero zero = inl refl
cases zero (suc b) = inr (λ q. omega arith)
cases (suc a) zero = inr (λ q. omega arith)
cases (suc a) (suc b) = elim (cases a b) [ inl q ↦ inl (ap suc q) | inr n ↦ inr (λ q. n (omega arith)) ]

before_set : (d : Entry) (es : List Entry) (at j c i : ℕ) (e : Entry) (cs : List ℕ) → c < length es → Before (slice_set es c (owned at j (get_or es c d))) at i cs e → Before es at i (c ∷ cs) e
before_set d es at j c i e cs lt b = elim (cases i c) [
  | inl eq ↦
      let x = owned at j (get_or es c d) in
      let here : x ≡ b.old = same_Some x b.old (sym (set_same es c x lt) ∙ ap (slice_get (slice_set es c x)) (sym eq) ∙ b.there) in
      record {
        old = get_or es c d;
        there = ap (slice_get es) eq ∙ slice_get-get_or es c d lt;
        node = ap (λ (e : Entry). e.node) here ∙ b.node;
        parent = inr (inl eq, elim b.parent [ inl q ↦ sym q.0 ∙ sym (ap (λ (e : Entry). e.parent) here) | inr q ↦ q.1 ]);
      }
  | inr ne ↦ record {
    old = b.old;
    there = sym (set_other es c i (owned at j (get_or es c d)) ne) ∙ b.there;
    node = b.node;
    parent = elim b.parent [ inl q ↦ inl q | inr q ↦ inr (inr q.0, q.1) ];
  }
]

pub before : (d : Entry) (es : List Entry) (at j i : ℕ) (e : Entry) (cs : List ℕ) → AreFree es cs → slice_get (adopted d es at j cs) i ≡ Some e → Before es at i cs e
before d es at j i e [] f is = record { old = e; there = is; node = refl; parent = inl (refl, refl) }
before d es at j i e (c ∷ cs) f is =
    before_set d es at j c i e cs f.0 (before d (slice_set es c (owned at j (get_or es c d))) at (j + 1) i e cs (free_kept es c (owned at j (get_or es c d)) cs f.2 f.3) is)

-- free nodes are nodes
pub each_within : (es : List Entry) (cs : List ℕ) (j c : ℕ) → AreFree es cs → slice_get cs j ≡ Some c → c < length es
each_within es [] j c f is = cc
each_within es (b ∷ bs) zero c f is = let q : b ≡ c = same_Some b c is in omega (arith, q, f.0)
each_within es (b ∷ bs) (suc j) c f is = each_within es bs j c f.3 is
