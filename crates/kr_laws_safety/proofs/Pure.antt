-- A predicate whose calls end is pure where no node touches an object of the finitization: by computing.
use Rattle.std.proofs.Common.{◌≡◌, ℕ, zero, suc, ◌+◌, ◌-◌, ◌<◌, ◌≤◌, ◌⊎◌, inl, inr, Bool, true, false, List, [], ◌∷◌, refl, sym, ap, ◌∙◌, arith, subst}
use Rattle.std.specs.Prelude.{◌&&◌, not, flat_map}
use Rattle.std.proofs.lemmas.Bool.{cases_lt, and_parts}
use Rattle.kr_value.specs.declared.object.Class.{Class}
use Rattle.kr_mean.specs.Program.{Program}
use Rattle.kr_mean.specs.Problem.{Problem, ClassDomain}
use Rattle.kr_mean.specs.Code.{Node, code_run}
use Rattle.kr_mean.specs.Purity.{may_touch, IsOneOf, roots, IsPredicateCode, root, run, IsCounted, IsPure}
use Rattle.kr_laws_runs.proofs.Overriders.{one_front, one_back}

-- a node that touches nothing of these class domains
abbrev pub leaves : Program → List ClassDomain → Node → Bool
leaves program [] node = true
leaves program (d ∷ ds) node = not (may_touch program node.scope node.tree d.class) && leaves program ds node

abbrev pub all_leave : Program → List ClassDomain → List Node → Bool
all_leave program ds [] = true
all_leave program ds (n ∷ ns) = leaves program ds n && all_leave program ds ns

-- the code that is run n calls deep
abbrev pub level : Problem → ℕ → List Node
level problem zero = roots problem
level problem (suc n) = flat_map (code_run problem.program) (level problem n)

-- all levels below one
abbrev pub levels_leave : Problem → ℕ → Bool
levels_leave problem zero = true
levels_leave problem (suc n) = all_leave problem.program problem.domains (level problem n) && levels_leave problem n

one_of_parts : {A B : Type 0} (f : A → List B) (x : A) (y : B) (xs : List A) → IsOneOf x xs → IsOneOf y (f x) → IsOneOf y (flat_map f xs)
one_of_parts f x y [] h k = absurd h
one_of_parts f x y (z ∷ xs) (inl e) k = one_front y (f z) (flat_map f xs) (subst (λ (w : _). IsOneOf y (f w)) (sym e) k)
one_of_parts f x y (z ∷ xs) (inr h) k = one_back y (f z) (flat_map f xs) (one_of_parts f x y xs h k)

-- each node is on a level
on_level : (problem : Problem) (node : Node) → IsPredicateCode problem node → (n : ℕ) × IsOneOf node (level problem n)
on_level problem node (root h) = (0, h)
on_level problem node (run by h k) = let r = on_level problem by h in (suc r.0, one_of_parts (code_run problem.program) by node (level problem r.0) r.1 k)

-- after an empty level all are empty
none_behind : (problem : Problem) (m k : ℕ) → level problem m ≡ [] → level problem (k + m) ≡ []
none_behind problem m zero e = let q : zero + m ≡ m = omega arith in ap (level problem) q ∙ e
none_behind problem m (suc k) e =
    let q : suc k + m ≡ suc (k + m) = omega arith in
    ap (level problem) q ∙ ap (λ (ns : List Node). flat_map (code_run problem.program) ns) (none_behind problem m k e)

below_leave : (problem : Problem) (m n : ℕ) → levels_leave problem m ≡ true → n < m → all_leave problem.program problem.domains (level problem n) ≡ true
below_leave problem zero n e lt = absurd (omega (arith, lt))
below_leave problem (suc m) n e lt = go (and_parts (all_leave problem.program problem.domains (level problem m)) (levels_leave problem m) e) (cases_lt n m) (λ f l. below_leave problem m n f l)
  where
    go : (all_leave problem.program problem.domains (level problem m) ≡ true) × (levels_leave problem m ≡ true) → (n < m) ⊎ (m ≤ n) → (levels_leave problem m ≡ true → n < m → all_leave problem.program problem.domains (level problem n) ≡ true) → all_leave problem.program problem.domains (level problem n) ≡ true
    go r (inl l) f = f r.1 l
    go r (inr l) f = let q : n ≡ m = omega (arith, l, lt) in ap (λ (x : ℕ). all_leave problem.program problem.domains (level problem x)) q ∙ r.0

one_leaves : (program : Program) (ds : List ClassDomain) (node : Node) (ns : List Node) → all_leave program ds ns ≡ true → IsOneOf node ns → leaves program ds node ≡ true
one_leaves program ds node [] e h = absurd h
one_leaves program ds node (n ∷ ns) e (inl q) = ap (leaves program ds) (sym q) ∙ (and_parts (leaves program ds n) (all_leave program ds ns) e).0
one_leaves program ds node (n ∷ ns) e (inr h) = one_leaves program ds node ns (and_parts (leaves program ds n) (all_leave program ds ns) e).1 h

untouched : (program : Program) (ds : List ClassDomain) (node : Node) (d : ClassDomain) (class : Class) → leaves program ds node ≡ true → IsOneOf d ds → d.class ≡ class → may_touch program node.scope node.tree class ≡ true → ⊥
untouched program [] node d class e h q t = h
untouched program (x ∷ ds) node d class e (inl i) q t =
    let z : may_touch program node.scope node.tree x.class ≡ true = ap (λ (y : ClassDomain). may_touch program node.scope node.tree y.class) i ∙ (ap (λ (c : Class). may_touch program node.scope node.tree c) q ∙ t) in
    absurd (cc (z, (and_parts (not (may_touch program node.scope node.tree x.class)) (leaves program ds node) e).0))
untouched program (x ∷ ds) node d class e (inr i) q t = untouched program ds node d class (and_parts (not (may_touch program node.scope node.tree x.class)) (leaves program ds node) e).1 i q t

pub pure_by : (problem : Problem) (m : ℕ) → level problem m ≡ [] → levels_leave problem m ≡ true → IsPure problem
pure_by problem m e leave node impure = go (on_level problem node impure.0) (cases_lt (on_level problem node impure.0).0 m)
  where
    go : (r : (n : ℕ) × IsOneOf node (level problem n)) → (r.0 < m) ⊎ (m ≤ r.0) → ⊥
    go r (inl lt) =
        let touch = impure.1 in
        untouched problem.program problem.domains node touch.2.0 touch.0 (one_leaves problem.program problem.domains node (level problem r.0) (below_leave problem m r.0 leave lt) r.1) touch.2.1 touch.2.2 touch.1
    go r (inr le) =
        let q : r.0 ≡ r.0 - m + m = omega (arith, le) in
        subst (λ (ns : List Node). IsOneOf node ns) (ap (level problem) q ∙ none_behind problem m (r.0 - m) e) r.1

-- ---- and impure where a node that it begins with touches a class that is counted

abbrev pub AllCounted : List ClassDomain → Type 0
AllCounted [] = Unit {0}
AllCounted (d ∷ ds) = IsCounted d.class d.count × AllCounted ds

abbrev Touches : Program → List ClassDomain → Node → Type 0
Touches program ds node = (d : ClassDomain) × IsOneOf d ds × IsCounted d.class d.count × (may_touch program node.scope node.tree d.class ≡ true)

touches : (program : Program) (ds : List ClassDomain) (node : Node) → AllCounted ds → leaves program ds node ≡ false → Touches program ds node
touches program [] node c e = absurd (cc (e))
touches program (d ∷ ds) node c e = go (may_touch program node.scope node.tree d.class) refl (touches program ds node c.1) e
  where
    go : (b : Bool) → may_touch program node.scope node.tree d.class ≡ b → (leaves program ds node ≡ false → Touches program ds node) → (not b && leaves program ds node) ≡ false → Touches program (d ∷ ds) node
    go true q f g = (d, inl refl, c.0, q)
    go false q f g = let r = f g in (r.0, inr r.1, r.2, r.3)

one_touches : (program : Program) (ds : List ClassDomain) (ns : List Node) → AllCounted ds → all_leave program ds ns ≡ false → (node : Node) × IsOneOf node ns × Touches program ds node
one_touches program ds [] c e = absurd (cc (e))
one_touches program ds (n ∷ ns) c e = go (leaves program ds n) refl (one_touches program ds ns c) e
  where
    go : (b : Bool) → leaves program ds n ≡ b → (all_leave program ds ns ≡ false → (node : Node) × IsOneOf node ns × Touches program ds node) → (b && all_leave program ds ns) ≡ false → (node : Node) × IsOneOf node (n ∷ ns) × Touches program ds node
    go true q f g = let r = f g in (r.0, inr r.1, r.2)
    go false q f g = (n, inl refl, touches program ds n c q)

pub impure_by : (problem : Problem) → AllCounted problem.domains → all_leave problem.program problem.domains (roots problem) ≡ false → IsPure problem → ⊥
impure_by problem c e pure =
    let r = one_touches problem.program problem.domains (roots problem) c e in
    let t = r.2 in
    pure r.0 (root r.1, (t.0.class, t.3, (t.0, t.1, refl, t.2)))
