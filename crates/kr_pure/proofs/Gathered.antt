-- The nodes of a tree's code from those of its parts.
use Rattle.std.proofs.Common.{◌≡◌, refl, sym, ap, ◌∙◌, subst, ℕ, zero, suc, ◌⊎◌, inl, inr, List, [], ◌∷◌, ◌++◌}
use Rattle.std.specs.Prelude.{Option, Some, None, option_and_then, slice_get}
use Rattle.kr_ast.specs.Tree.{Tree}
use Rattle.kr_types_meaning.specs.Scopes.{Scope}
use Rattle.kr_types_meaning.specs.Running.{running}
use Rattle.kr_types_meaning.specs.Handing.{handed}
use Rattle.kr_mean.specs.Code.{Node, code}
use Rattle.kr_mean.specs.Purity.{IsOneOf}
use Rattle.kr_pure.specs.Seen.{IsActing, IsFound, IsSeen, node_on, run_of, steps_of}

left_of : (n : Node) (xs ys : List Node) → IsOneOf n xs → IsOneOf n (xs ++ ys)
left_of n [] ys h = absurd h
left_of n (x ∷ xs) ys (inl e) = inl e
left_of n (x ∷ xs) ys (inr h) = inr (left_of n xs ys h)

right_of : (n : Node) (xs ys : List Node) → IsOneOf n ys → IsOneOf n (xs ++ ys)
right_of n [] ys h = h
right_of n (x ∷ xs) ys h = inr (right_of n xs ys h)

either_of : (n : Node) (xs ys : List Node) → IsOneOf n (xs ++ ys) → IsOneOf n xs ⊎ IsOneOf n ys
either_of n [] ys h = inr h
either_of n (x ∷ xs) ys (inl e) = inl (inl e)
either_of n (x ∷ xs) ys (inr h) = elim (either_of n xs ys h) [ inl l ↦ inl (inr l) | inr r ↦ inr r ]

-- the code of each part is in the body
abbrev pub Covers : Scope → Tree → List Tree → List Node → Type 0
Covers s t us body = (j : ℕ) (u : Tree) → slice_get us j ≡ Some u → IsSeen (handed s t j) u × ((n : Node) → IsOneOf n (code (running (handed s t j)) u) → IsOneOf n body)

-- each node of the body is one of a part's code
abbrev pub Comes : Scope → Tree → List Tree → List Node → Type 0
Comes s t us body = (n : Node) → IsOneOf n body → (j : ℕ) × (u : Tree) × (slice_get us j ≡ Some u) × IsOneOf n (code (running (handed s t j)) u)

record Step (s : Scope) (t : Tree) (us : List Tree) (j : ℕ) (js : List ℕ) (m : Node) : Type 0 where
  part : Tree
  at : slice_get us j ≡ Some part
  on : node_on (handed s t j) part js ≡ Some m

step_of : (s : Scope) (t : Tree) (us : List Tree) (j : ℕ) (js : List ℕ) (m : Node) (o : Option Tree) → slice_get us j ≡ o → option_and_then (λ u. node_on (handed s t j) u js) o ≡ Some m → Step s t us j js m
step_of s t us j js m None e h = absurd (cc)
step_of s t us j js m (Some u) e h = record { part = u; at = e; on = h }

module _ (s : Scope) (t : Tree) (us : List Tree) (body : List Node) (parts : steps_of t ≡ us) (covers : Covers s t us body) (comes : Comes s t us body) where
  below : (n : Node) → IsOneOf n body → IsFound s t n
  below n h =
      let c = comes n h in
      let at : slice_get us c.0 ≡ Some c.1 = c.2 in
      let f = (covers c.0 c.1 at).0.down n c.3 in
      (c.0 ∷ f.0, f.1, (ap (λ us. option_and_then (λ u. node_on (handed s t c.0) u f.0) (slice_get us c.0)) parts ∙ ap (option_and_then (λ u. node_on (handed s t c.0) u f.0)) at ∙ f.2), f.3)

  above : (j : ℕ) (js : List ℕ) (m : Node) → node_on s t (j ∷ js) ≡ Some m → IsActing m.tree → IsOneOf (run_of m) body
  above j js m e a =
      let x = step_of s t us j js m (slice_get us j) refl (sym (ap (λ us. option_and_then (λ u. node_on (handed s t j) u js) (slice_get us j)) parts) ∙ e) in
      let c = covers j x.part x.at in
      c.1 (run_of m) (c.0.up js m x.on a)

  -- a node of its own before those of its parts
  pub seen : code (running s) t ≡ run_of (record { scope = s; tree = t }) ∷ body → IsSeen s t
  seen e = record {
    down = λ n h. down n (subst (λ (ns : List Node). IsOneOf n ns) e h);
    up = λ path m on a. subst (λ (ns : List Node). IsOneOf (run_of m) ns) (sym e) (up path m on a);
  }
    where
      down : (n : Node) → IsOneOf n (run_of (record { scope = s; tree = t }) ∷ body) → IsFound s t n
      down n (inl is) = ([], record { scope = s; tree = t }, refl, sym is)
      down n (inr h) = below n h

      up : (path : List ℕ) (m : Node) → node_on s t path ≡ Some m → IsActing m.tree → IsOneOf (run_of m) (run_of (record { scope = s; tree = t }) ∷ body)
      up [] m on a = inl (let z : record { scope = s; tree = t } ≡ m = cc in ap run_of z)
      up (j ∷ js) m on a = inr (above j js m on a)

  -- none of its own
  pub seen_through : code (running s) t ≡ body → (IsActing t → ⊥) → IsSeen s t
  seen_through e not = record {
    down = λ n h. below n (subst (λ (ns : List Node). IsOneOf n ns) e h);
    up = λ path m on a. subst (λ (ns : List Node). IsOneOf (run_of m) ns) (sym e) (up path m on a);
  }
    where
      up : (path : List ℕ) (m : Node) → node_on s t path ≡ Some m → IsActing m.tree → IsOneOf (run_of m) body
      up [] m on a = absurd (not (let z : m ≡ record { scope = s; tree = t } = cc in subst (λ (n : Node). IsActing n.tree) z a))
      up (j ∷ js) m on a = above j js m on a

-- ---- by the number of parts

covered : (s : Scope) (t : Tree) (j : ℕ) (a u : Tree) (body : List Node) → a ≡ u → IsSeen (handed s t j) a → ((n : Node) → IsOneOf n (code (running (handed s t j)) a) → IsOneOf n body)
    → IsSeen (handed s t j) u × ((n : Node) → IsOneOf n (code (running (handed s t j)) u) → IsOneOf n body)
covered s t j a u body e h f = subst (λ (v : Tree). IsSeen (handed s t j) v × ((n : Node) → IsOneOf n (code (running (handed s t j)) v) → IsOneOf n body)) e (h, f)

covers_none : (s : Scope) (t : Tree) → Covers s t [] []
covers_none s t j u e = absurd (cc)

comes_none : (s : Scope) (t : Tree) → Comes s t [] []
comes_none s t n h = absurd h

pub none : (s : Scope) (t : Tree) → steps_of t ≡ [] → code (running s) t ≡ run_of (record { scope = s; tree = t }) ∷ [] → IsSeen s t
none s t p e = seen s t [] [] p (covers_none s t) (comes_none s t) e

-- nodes that are no code
pub nothing : (s : Scope) (t : Tree) → steps_of t ≡ [] → code (running s) t ≡ [] → (IsActing t → ⊥) → IsSeen s t
nothing s t p e not = seen_through s t [] [] p (covers_none s t) (comes_none s t) e not

covers_one : (s : Scope) (t a : Tree) → IsSeen (handed s t 0) a → Covers s t (a ∷ []) (code (running (handed s t 0)) a)
covers_one s t a ha zero u e = covered s t 0 a u _ (cc) ha (λ n h. h)
covers_one s t a ha (suc j) u e = absurd (cc)

pub one : (s : Scope) (t a : Tree) → steps_of t ≡ a ∷ [] → code (running s) t ≡ run_of (record { scope = s; tree = t }) ∷ code (running (handed s t 0)) a → IsSeen (handed s t 0) a → IsSeen s t
one s t a p e ha = seen s t (a ∷ []) (code (running (handed s t 0)) a) p (covers_one s t a ha) (λ n h. (0, a, refl, h)) e

-- a node that is no code itself
pub only : (s : Scope) (t a : Tree) → steps_of t ≡ a ∷ [] → code (running s) t ≡ code (running (handed s t 0)) a → (IsActing t → ⊥) → IsSeen (handed s t 0) a → IsSeen s t
only s t a p e not ha = seen_through s t (a ∷ []) (code (running (handed s t 0)) a) p (covers_one s t a ha) (λ n h. (0, a, refl, h)) e not

module _ (s : Scope) (t a b : Tree) (ha : IsSeen (handed s t 0) a) (hb : IsSeen (handed s t 1) b) where
  covers_two : Covers s t (a ∷ b ∷ []) (code (running (handed s t 0)) a ++ code (running (handed s t 1)) b)
  covers_two zero u e = covered s t 0 a u _ (cc) ha (λ n h. left_of n (code (running (handed s t 0)) a) _ h)
  covers_two (suc zero) u e = covered s t 1 b u _ (cc) hb (λ n h. right_of n (code (running (handed s t 0)) a) _ h)
  covers_two (suc (suc j)) u e = absurd (cc)

  comes_two : Comes s t (a ∷ b ∷ []) (code (running (handed s t 0)) a ++ code (running (handed s t 1)) b)
  comes_two n h = elim (either_of n (code (running (handed s t 0)) a) (code (running (handed s t 1)) b) h) [ inl l ↦ (0, a, refl, l) | inr r ↦ (1, b, refl, r) ]

  pub two : steps_of t ≡ a ∷ b ∷ [] → code (running s) t ≡ run_of (record { scope = s; tree = t }) ∷ (code (running (handed s t 0)) a ++ code (running (handed s t 1)) b) → IsSeen s t
  two p e = seen s t (a ∷ b ∷ []) _ p covers_two comes_two e

  -- a list
  pub both : steps_of t ≡ a ∷ b ∷ [] → code (running s) t ≡ code (running (handed s t 0)) a ++ code (running (handed s t 1)) b → (IsActing t → ⊥) → IsSeen s t
  both p e not = seen_through s t (a ∷ b ∷ []) _ p covers_two comes_two e not

module _ (s : Scope) (t a b c : Tree) (ha : IsSeen (handed s t 0) a) (hb : IsSeen (handed s t 1) b) (hc : IsSeen (handed s t 2) c) where
  covers_three : Covers s t (a ∷ b ∷ c ∷ []) (code (running (handed s t 0)) a ++ code (running (handed s t 1)) b ++ code (running (handed s t 2)) c)
  covers_three zero u e = covered s t 0 a u _ (cc) ha (λ n h. left_of n (code (running (handed s t 0)) a ++ code (running (handed s t 1)) b) _ (left_of n (code (running (handed s t 0)) a) _ h))
  covers_three (suc zero) u e = covered s t 1 b u _ (cc) hb (λ n h. left_of n (code (running (handed s t 0)) a ++ code (running (handed s t 1)) b) _ (right_of n (code (running (handed s t 0)) a) _ h))
  covers_three (suc (suc zero)) u e = covered s t 2 c u _ (cc) hc (λ n h. right_of n (code (running (handed s t 0)) a ++ code (running (handed s t 1)) b) _ h)
  covers_three (suc (suc (suc j))) u e = absurd (cc)

  comes_three : Comes s t (a ∷ b ∷ c ∷ []) (code (running (handed s t 0)) a ++ code (running (handed s t 1)) b ++ code (running (handed s t 2)) c)
  comes_three n h = elim (either_of n (code (running (handed s t 0)) a ++ code (running (handed s t 1)) b) (code (running (handed s t 2)) c) h) [
    | inl l ↦ elim (either_of n (code (running (handed s t 0)) a) (code (running (handed s t 1)) b) l) [ inl l ↦ (0, a, refl, l) | inr r ↦ (1, b, refl, r) ]
    | inr r ↦ (2, c, refl, r)
  ]

  pub three : steps_of t ≡ a ∷ b ∷ c ∷ [] → code (running s) t ≡ run_of (record { scope = s; tree = t }) ∷ (code (running (handed s t 0)) a ++ code (running (handed s t 1)) b ++ code (running (handed s t 2)) c) → IsSeen s t
  three p e = seen s t (a ∷ b ∷ c ∷ []) _ p covers_three comes_three e

module _ (s : Scope) (t a b c d : Tree) (ha : IsSeen (handed s t 0) a) (hb : IsSeen (handed s t 1) b) (hc : IsSeen (handed s t 2) c) (hd : IsSeen (handed s t 3) d) where
  pub four : steps_of t ≡ a ∷ b ∷ c ∷ d ∷ []
      → code (running s) t ≡ run_of (record { scope = s; tree = t }) ∷ (code (running (handed s t 0)) a ++ code (running (handed s t 1)) b ++ code (running (handed s t 2)) c ++ code (running (handed s t 3)) d) → IsSeen s t
  four p e = seen s t (a ∷ b ∷ c ∷ d ∷ []) _ p covers comes e
    where
      covers : Covers s t (a ∷ b ∷ c ∷ d ∷ []) (code (running (handed s t 0)) a ++ code (running (handed s t 1)) b ++ code (running (handed s t 2)) c ++ code (running (handed s t 3)) d)
      covers zero u e = covered s t 0 a u _ (cc) ha (λ n h. left_of n (code (running (handed s t 0)) a ++ code (running (handed s t 1)) b ++ code (running (handed s t 2)) c) _
          (left_of n (code (running (handed s t 0)) a ++ code (running (handed s t 1)) b) _ (left_of n (code (running (handed s t 0)) a) _ h)))
      covers (suc zero) u e = covered s t 1 b u _ (cc) hb (λ n h. left_of n (code (running (handed s t 0)) a ++ code (running (handed s t 1)) b ++ code (running (handed s t 2)) c) _
          (left_of n (code (running (handed s t 0)) a ++ code (running (handed s t 1)) b) _ (right_of n (code (running (handed s t 0)) a) _ h)))
      covers (suc (suc zero)) u e = covered s t 2 c u _ (cc) hc (λ n h. left_of n (code (running (handed s t 0)) a ++ code (running (handed s t 1)) b ++ code (running (handed s t 2)) c) _
          (right_of n (code (running (handed s t 0)) a ++ code (running (handed s t 1)) b) _ h))
      covers (suc (suc (suc zero))) u e = covered s t 3 d u _ (cc) hd (λ n h. right_of n (code (running (handed s t 0)) a ++ code (running (handed s t 1)) b ++ code (running (handed s t 2)) c) _ h)
      covers (suc (suc (suc (suc j)))) u e = absurd (cc)

      comes : Comes s t (a ∷ b ∷ c ∷ d ∷ []) (code (running (handed s t 0)) a ++ code (running (handed s t 1)) b ++ code (running (handed s t 2)) c ++ code (running (handed s t 3)) d)
      comes n h = elim (either_of n (code (running (handed s t 0)) a ++ code (running (handed s t 1)) b ++ code (running (handed s t 2)) c) (code (running (handed s t 3)) d) h) [
        | inl l ↦ elim (either_of n (code (running (handed s t 0)) a ++ code (running (handed s t 1)) b) (code (running (handed s t 2)) c) l) [
          | inl l ↦ elim (either_of n (code (running (handed s t 0)) a) (code (running (handed s t 1)) b) l) [ inl l ↦ (0, a, refl, l) | inr r ↦ (1, b, refl, r) ]
          | inr r ↦ (2, c, refl, r)
        ]
        | inr r ↦ (3, d, refl, r)
      ]
