-- Nodes by number.
use Rattle.std.proofs.Common.{◌≡◌, ℕ, zero, suc, ◌+◌, ◌<◌, ◌≤◌, List, [], ◌∷◌, ◌++◌, Bool, true, false, cond, length, get_or, set, refl, sym, ap, ◌∙◌, subst, arith}
use Rattle.std.specs.Prelude.{Option, Some, None, ◌==◌, if◌then◌else◌}
use Rattle.std.specs.Option.{option_map}
use Rattle.std.proofs.lemmas.Bool.Decides.{nat_tests}
use Rattle.kr_core.specs.declared.segment.Segment.{Segment}
use Rattle.kr_core.specs.States.{segment_of, change}
use Rattle.kr_trace.specs.declared.nodes.Node.{Node}
use Rattle.kr_trace.specs.Chains.{Differ, at_number, dropped, entry, first_number, node_at, node_of, with}

pub is_number : (a b : ℕ) → a ≡ b → (a == b) ≡ true
is_number a b h = grind (arith, nat_tests)

pub same_number : (a b : ℕ) → (a == b) ≡ true → a ≡ b
same_number a b h = grind (arith, nat_tests)

pub not_number : (a b : ℕ) → (a ≡ b → ⊥) → (a == b) ≡ false
not_number a b h = grind (arith, nat_tests)

pub other_number : (a b : ℕ) → (a == b) ≡ false → a ≡ b → ⊥
other_number a b h e = grind (arith, nat_tests)

-- ---- node_of

kept_there : (k : Node → Node) (x : Node) → (k x).there ≡ x.there → (if (k x).there then Some (k x) else None) ≡ option_map k (if x.there then Some x else None)
kept_there k x h =
    ap (λ (b : Bool). if b then Some (k x) else None) h
    ∙ elim (x.there) as (λ b. (if b then Some (k x) else None) ≡ option_map k (if b then Some x else None)) [ true ↦ refl | false ↦ refl ]

pub node_same : (nodes : List Node) (n : ℕ) (k : Node → Node) → ((x : Node) → (k x).there ≡ x.there) → node_of (at_number nodes n k) n ≡ option_map k (node_of nodes n)
node_same [] n k h = refl
node_same (x ∷ xs) zero k h = kept_there k x (h x)
node_same (x ∷ xs) (suc n) k h = node_same xs n k h

pub node_other : (nodes : List Node) (n m : ℕ) (k : Node → Node) → (n ≡ m → ⊥) → node_of (at_number nodes n k) m ≡ node_of nodes m
node_other [] n m k h = refl
node_other (x ∷ xs) zero zero k h = absurd (h refl)
node_other (x ∷ xs) zero (suc m) k h = refl
node_other (x ∷ xs) (suc n) zero k h = refl
node_other (x ∷ xs) (suc n) (suc m) k h = node_other xs n m k (λ e. h (ap suc e))

pub node_dropped : (nodes : List Node) (n : ℕ) → node_of (at_number nodes n dropped) n ≡ None
node_dropped [] n = refl
node_dropped (x ∷ xs) zero = refl
node_dropped (x ∷ xs) (suc n) = node_dropped xs n

pub node_added : (nodes : List Node) (x : Node) → x.there ≡ true → node_of (nodes ++ x ∷ []) (length nodes) ≡ Some x
node_added [] x h = ap (λ (b : Bool). if b then Some x else None) h
node_added (y ∷ ys) x h = node_added ys x h

pub node_before : (nodes : List Node) (x : Node) (n : ℕ) → (n ≡ length nodes → ⊥) → node_of (nodes ++ x ∷ []) n ≡ node_of nodes n
node_before [] x zero h = absurd (h refl)
node_before [] x (suc n) h = refl
node_before (y ∷ ys) x zero h = refl
node_before (y ∷ ys) x (suc n) h = node_before ys x n (λ e. h (ap suc e))

pub node_beyond : (nodes : List Node) (n : ℕ) → length nodes ≤ n → node_of nodes n ≡ None
node_beyond [] n h = refl
node_beyond (x ∷ xs) zero h = absurd (omega (arith, h))
node_beyond (x ∷ xs) (suc n) h = node_beyond xs n (omega (arith, h))

pub node_within : (nodes : List Node) (n : ℕ) (x : Node) → node_of nodes n ≡ Some x → n < length nodes
node_within [] n x h = absurd (cc (h))
node_within (y ∷ ys) zero x h = omega arith
node_within (y ∷ ys) (suc n) x h = omega (arith, node_within ys n x h)

-- the node that is read at an index
pub node_read : (nodes : List Node) (n : ℕ) (x : Node) → n < length nodes → x ≡ get_or nodes n x → x.there ≡ true → node_of nodes n ≡ Some x
node_read [] n x h is there = absurd (omega (arith, h))
node_read (y ∷ ys) zero x h is there = subst (λ (z : Node). (if z.there then Some z else None) ≡ Some x) is (ap (λ (b : Bool). if b then Some x else None) there)
node_read (y ∷ ys) (suc n) x h is there = node_read ys n x (omega (arith, h)) is there

pub node_missing : (nodes : List Node) (n : ℕ) (x : Node) → n < length nodes → x ≡ get_or nodes n x → x.there ≡ false → node_of nodes n ≡ None
node_missing [] n x h is there = absurd (omega (arith, h))
node_missing (y ∷ ys) zero x h is there = subst (λ (z : Node). (if z.there then Some z else None) ≡ None) is (ap (λ (b : Bool). if b then Some x else None) there)
node_missing (y ∷ ys) (suc n) x h is there = node_missing ys n x (omega (arith, h)) is there

pub node_there : (nodes : List Node) (n : ℕ) (x y : Node) → node_of nodes n ≡ Some y → n < length nodes → x ≡ get_or nodes n x → x ≡ y
node_there nodes n x y h within is =
    elim (x.there) as (λ b. x.there ≡ b → x ≡ y) [
      | true ↦ λ e. let read : node_of nodes n ≡ Some x = node_read nodes n x within is e in let both : Some x ≡ Some y = sym read ∙ h in cc (both)
      | false ↦ λ e. let read : node_of nodes n ≡ None = node_missing nodes n x within is e in let both : None ≡ Some y = sym read ∙ h in absurd (cc (both))
    ] refl

-- a write at an index
pub written_at : (nodes : List Node) (n : ℕ) (k : Node → Node) (x w : Node) → n < length nodes → x ≡ get_or nodes n x → w ≡ k x → set nodes n w ≡ at_number nodes n k
written_at [] n k x w h is e = absurd (omega (arith, h))
written_at (y ∷ ys) zero k x w h is e = ap (λ (z : Node). z ∷ ys) (e ∙ ap k is)
written_at (y ∷ ys) (suc n) k x w h is e = ap (λ (zs : List Node). y ∷ zs) (written_at ys n k x w (omega (arith, h)) is e)

pub beyond : (nodes : List Node) (n : ℕ) (k : Node → Node) → length nodes ≤ n → at_number nodes n k ≡ nodes
beyond [] n k h = refl
beyond (x ∷ xs) zero k h = absurd (omega (arith, h))
beyond (x ∷ xs) (suc n) k h = ap (λ (ys : List Node). x ∷ ys) (beyond xs n k (omega (arith, h)))

pub at_length : (nodes : List Node) (n : ℕ) (k : Node → Node) → length (at_number nodes n k) ≡ length nodes
at_length [] n k = refl
at_length (x ∷ xs) zero k = refl
at_length (x ∷ xs) (suc n) k = ap suc (at_length xs n k)

-- ---- entry

pub none_here : (n : ℕ) (s : Segment) (ss : List Segment) → segment_of n (s ∷ ss) ≡ None → ((s.number == n) ≡ false) × (segment_of n ss ≡ None)
none_here n s ss h =
    elim (s.number == n) as (λ b. cond b (Some s) (segment_of n ss) ≡ None → (b ≡ false) × (segment_of n ss ≡ None)) [
      | true ↦ λ q. absurd (cc (q))
      | false ↦ λ q. (refl, q)
    ] h

pub not_here : (n : ℕ) (s : Segment) (ss : List Segment) → (s.number == n) ≡ false → segment_of n (s ∷ ss) ≡ segment_of n ss
not_here n s ss h = ap (λ (b : Bool). cond b (Some s) (segment_of n ss)) h

pub entry_here : (n : ℕ) (s : Segment) (ss : List Segment) → (s.number == n) ≡ true → entry n (s ∷ ss) ≡ Some (node_at s (first_number ss))
entry_here n s ss h = ap (λ (b : Bool). cond b (Some (node_at s (first_number ss))) (entry n ss)) h

pub entry_after : (n : ℕ) (s : Segment) (ss : List Segment) → (s.number == n) ≡ false → entry n (s ∷ ss) ≡ entry n ss
entry_after n s ss h = ap (λ (b : Bool). cond b (Some (node_at s (first_number ss))) (entry n ss)) h

pub entry_found : (n : ℕ) (ss : List Segment) → segment_of n ss ≡ option_map (λ (x : Node). x.segment) (entry n ss)
entry_found n [] = refl
entry_found n (s ∷ ss) =
    elim (s.number == n) as (λ b. cond b (Some s) (segment_of n ss) ≡ option_map (λ (x : Node). x.segment) (cond b (Some (node_at s (first_number ss))) (entry n ss))) [
      | true ↦ refl
      | false ↦ entry_found n ss
    ]

pub entry_none : (n : ℕ) (ss : List Segment) → segment_of n ss ≡ None → entry n ss ≡ None
entry_none n [] h = refl
entry_none n (s ∷ ss) h = let p = none_here n s ss h in entry_after n s ss p.0 ∙ entry_none n ss p.1

pub first_append : (pre xs ys : List Segment) → first_number xs ≡ first_number ys → first_number (pre ++ xs) ≡ first_number (pre ++ ys)
first_append [] xs ys f = f
first_append (s ∷ pre) xs ys f = refl

pub entry_append : (n : ℕ) (pre xs ys : List Segment) → first_number xs ≡ first_number ys → entry n xs ≡ entry n ys → entry n (pre ++ xs) ≡ entry n (pre ++ ys)
entry_append n [] xs ys f e = e
entry_append n (s ∷ pre) xs ys f e =
    elim (s.number == n) as (λ b. cond b (Some (node_at s (first_number (pre ++ xs)))) (entry n (pre ++ xs)) ≡ cond b (Some (node_at s (first_number (pre ++ ys)))) (entry n (pre ++ ys))) [
      | true ↦ ap (λ (l : Option ℕ). Some (node_at s l)) (first_append pre xs ys f)
      | false ↦ entry_append n pre xs ys f e
    ]

pub entry_past : (n : ℕ) (pre xs : List Segment) → segment_of n pre ≡ None → entry n (pre ++ xs) ≡ entry n xs
entry_past n [] xs h = refl
entry_past n (s ∷ pre) xs h = let p = none_here n s pre h in entry_after n s (pre ++ xs) p.0 ∙ entry_past n pre xs p.1

pub none_parts : (n : ℕ) (pre xs : List Segment) → segment_of n (pre ++ xs) ≡ None → (segment_of n pre ≡ None) × (segment_of n xs ≡ None)
none_parts n [] xs h = (refl, h)
none_parts n (s ∷ pre) xs h =
    let p = none_here n s (pre ++ xs) h in
    let rest = none_parts n pre xs p.1 in
    (not_here n s pre p.0 ∙ rest.0, rest.1)

pub none_both : (n : ℕ) (pre xs : List Segment) → segment_of n pre ≡ None → segment_of n xs ≡ None → segment_of n (pre ++ xs) ≡ None
none_both n [] xs h k = k
none_both n (s ∷ pre) xs h k = let p = none_here n s pre h in not_here n s (pre ++ xs) p.0 ∙ none_both n pre xs p.1 k

-- ---- numbers that differ

pub differ_back : (pre xs : List Segment) → Differ (pre ++ xs) → Differ xs
differ_back [] xs d = d
differ_back (s ∷ pre) xs d = differ_back pre xs d.1

pub differ_front : (n : ℕ) (pre xs : List Segment) → Differ (pre ++ xs) → (segment_of n xs ≡ None → ⊥) → segment_of n pre ≡ None
differ_front n [] xs d some = refl
differ_front n (s ∷ pre) xs d some =
    let apart : (s.number == n) ≡ false = not_number s.number n (λ e. some (subst (λ (m : ℕ). segment_of m xs ≡ None) e (none_parts s.number pre xs d.0).1)) in
    not_here n s pre apart ∙ differ_front n pre xs d.1 some

pub differ_swap : (new : ℕ) (pre xs ys : List Segment) → Differ (pre ++ ys) → Differ xs → segment_of new (pre ++ ys) ≡ None
    → ((n : ℕ) → (n ≡ new → ⊥) → segment_of n ys ≡ None → segment_of n xs ≡ None) → Differ (pre ++ xs)
differ_swap new [] xs ys d e fresh h = e
differ_swap new (s ∷ pre) xs ys d e fresh h =
    let p = none_here new s (pre ++ ys) fresh in
    let parts = none_parts s.number pre ys d.0 in
    (none_both s.number pre xs parts.0 (h s.number (other_number s.number new p.0) parts.1), differ_swap new pre xs ys d.1 e p.1 h)

-- ---- a segment among the others

pub record Around (v : ℕ) (x : Node) (ss : List Segment) : Type 0 where
  pub pre : List Segment
  pub post : List Segment
  pub whole : ss ≡ pre ++ x.segment ∷ post
  pub before : segment_of v pre ≡ None
  pub number : x.segment.number ≡ v
  pub is : x ≡ node_at x.segment (first_number post)

around_here : (v : ℕ) (s : Segment) (ss : List Segment) → (s.number == v) ≡ true → Around v (node_at s (first_number ss)) (s ∷ ss)
around_here v s ss h = record { pre = []; post = ss; whole = refl; before = refl; number = same_number s.number v h; is = refl }

around_later : (v : ℕ) (x : Node) (s : Segment) (ss : List Segment) → (s.number == v) ≡ false → Around v x ss → Around v x (s ∷ ss)
around_later v x s ss h r = record {
  pre = s ∷ r.pre;
  post = r.post;
  whole = ap (λ (zs : List Segment). s ∷ zs) r.whole;
  before = not_here v s r.pre h ∙ r.before;
  number = r.number;
  is = r.is;
}

pub around : (v : ℕ) (x : Node) (ss : List Segment) → entry v ss ≡ Some x → Around v x ss
around v x [] h = absurd (cc (h))
around v x (s ∷ ss) h =
    elim (s.number == v) as (λ b. (s.number == v) ≡ b → cond b (Some (node_at s (first_number ss))) (entry v ss) ≡ Some x → Around v x (s ∷ ss)) [
      | true ↦ λ e q. let same : node_at s (first_number ss) ≡ x = cc (q) in subst (λ (y : Node). Around v y (s ∷ ss)) same (around_here v s ss e)
      | false ↦ λ e q. around_later v x s ss e (around v x ss q)
    ] refl h

pub change_at : (v : ℕ) (f : Segment → List Segment → List Segment) (pre : List Segment) (s : Segment) (post : List Segment) → segment_of v pre ≡ None → s.number ≡ v
    → change v f (pre ++ s ∷ post) ≡ pre ++ f s post
change_at v f [] s post before number = ap (λ (b : Bool). cond b (f s post) (s ∷ change v f post)) (is_number s.number v number)
change_at v f (p ∷ pre) s post before number =
    let q = none_here v p pre before in
    ap (λ (b : Bool). cond b (f p (pre ++ s ∷ post)) (p ∷ change v f (pre ++ s ∷ post))) q.0
    ∙ ap (λ (zs : List Segment). p ∷ zs) (change_at v f pre s post q.1 number)
