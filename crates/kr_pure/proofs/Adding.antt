-- Nodes that are added to those that were found.
use Rattle.std.proofs.Common.{◌≡◌, ◌≢◌, refl, sym, ap, ◌∙◌, subst, ℕ, zero, suc, ◌+◌, ◌<◌, ◌≤◌, Bool, true, false, List, [], ◌∷◌, ◌++◌, length, get_or, arith, ◌⊎◌, inl, inr}
use Rattle.std.proofs.Math.ListN.{set}
use Rattle.std.proofs.lemmas.List.{get_or-set_other}
use Rattle.std.proofs.lemmas.List.Sums.{sum_by-set, sum_by-le}
use Rattle.std.proofs.lemmas.List.Elements.{All-cons, All-nil, All-push, All-contains, All-contains_itself, All-weaker, Contains-append_left, Contains-append_right, Contains-push}
use Rattle.std.specs.Prelude.{Contains, Some, slice_get}
use Rattle.kr_ast.specs.Arena.{Arena}
use Rattle.kr_ast.specs.declared.files.NodeId.{NodeId}
use Rattle.kr_ast.specs.Files.{IsNode}
use Rattle.kr_pure.specs.declared.found.Found.{Found}
use Rattle.kr_pure.specs.Found.{AreFound, IsAdded, marked, number_of, one_if}
use Rattle.kr_types.specs.Programs.{all_entries}
use Rattle.kr_pure.proofs.Numbers.{one_node}

-- no more are marked than there are marks
pub marked_few : (bs : List Bool) → marked bs ≤ length bs
marked_few bs = omega (arith, sum_by-le one_if 1 bs (λ k d l. at_most (get_or bs k d)))
  where
    at_most : (b : Bool) → one_if b ≤ 1
    at_most true = omega arith
    at_most false = omega arith

-- one mark more
pub mark_more : (bs : List Bool) (i : ℕ) → i < length bs → get_or bs i false ≡ false → marked (set bs i true) ≡ marked bs + 1
mark_more bs i l e = let w : one_if (get_or bs i false) ≡ 0 = ap one_if e in omega (arith, sum_by-set one_if bs i true false l, w)

same_or_not : (m n : ℕ) → (m ≡ n) ⊎ (m ≢ n)
same_or_not zero zero = inl refl
same_or_not zero (suc n) = inr (λ e. omega (arith, e))
same_or_not (suc m) zero = inr (λ e. omega (arith, e))
same_or_not (suc m) (suc n) = elim (same_or_not m n) [ inl e ↦ inl (ap suc e) | inr f ↦ inr (λ e. f (omega (arith, e))) ]

-- a node that is marked after one is found was found
pub known_more : (files : List Arena) (marks : List Bool) (nodes : List NodeId) (at : NodeId) → IsNode files at → ((n : NodeId) → IsNode files n → get_or marks (number_of files n) false ≡ true → Contains nodes n)
    → (n : NodeId) → IsNode files n → get_or (set marks (number_of files at) true) (number_of files n) false ≡ true → Contains (nodes ++ at ∷ []) n
known_more files marks nodes at here known n there e = go (same_or_not (number_of files n) (number_of files at))
  where
    go : (number_of files n ≡ number_of files at) ⊎ (number_of files n ≢ number_of files at) → Contains (nodes ++ at ∷ []) n
    go (inl same) = subst (λ (m : NodeId). Contains (nodes ++ at ∷ []) m) (sym (one_node files n at there here same)) (Contains-push nodes at)
    go (inr not) = Contains-append_left nodes (at ∷ []) n (known n there (sym (get_or-set_other marks (number_of files at) (number_of files n) true false not) ∙ e))

-- ---- one more

pub one_in : (n : NodeId) → Contains (n ∷ []) n
one_in n = (0, omega arith, refl)

front : (xs ys : List NodeId) (k : ℕ) (n : NodeId) → slice_get xs k ≡ Some n → slice_get (xs ++ ys) k ≡ Some n
front [] ys k n e = absurd (cc)
front (x ∷ xs) ys zero n e = e
front (x ∷ xs) ys (suc k) n e = front xs ys k n e

pub already : (nodes : List NodeId) (n : NodeId) → Contains nodes n → IsAdded nodes (n ∷ []) nodes
already nodes n h = record {
  kept = λ k x e. e;
  there = All-cons (Contains nodes) n [] h (All-nil (Contains nodes));
  from = All-weaker (Contains nodes) (λ x. Contains nodes x ⊎ Contains (n ∷ []) x) (λ x c. inl c) nodes (All-contains_itself nodes);
}

pub pushed : (nodes : List NodeId) (n : NodeId) → IsAdded nodes (n ∷ []) (nodes ++ n ∷ [])
pushed nodes n = record {
  kept = front nodes (n ∷ []);
  there = All-cons (Contains (nodes ++ n ∷ [])) n [] (Contains-push nodes n) (All-nil (Contains (nodes ++ n ∷ [])));
  from = All-push (λ x. Contains nodes x ⊎ Contains (n ∷ []) x) nodes n (All-weaker (Contains nodes) (λ x. Contains nodes x ⊎ Contains (n ∷ []) x) (λ x c. inl c) nodes (All-contains_itself nodes)) (inr (one_in n));
}

-- ---- some, and more

pub none_added : (nodes : List NodeId) → IsAdded nodes [] nodes
none_added nodes = record {
  kept = λ k x e. e;
  there = All-nil (Contains nodes);
  from = All-weaker (Contains nodes) (λ x. Contains nodes x ⊎ Contains [] x) (λ x c. inl c) nodes (All-contains_itself nodes);
}

-- the place of a node
at_some : (xs : List NodeId) (k : ℕ) (n : NodeId) → k < length xs → get_or xs k n ≡ n → slice_get xs k ≡ Some n
at_some [] k n l e = absurd (omega (arith, l))
at_some (x ∷ xs) zero n l e = ap Some e
at_some (x ∷ xs) (suc k) n l e = at_some xs k n (omega (arith, l)) e

some_at : (xs : List NodeId) (k : ℕ) (n : NodeId) → slice_get xs k ≡ Some n → (k < length xs) × (get_or xs k n ≡ n)
some_at [] k n e = absurd (cc)
some_at (x ∷ xs) zero n e = (omega arith, (cc))
some_at (x ∷ xs) (suc k) n e = let r = some_at xs k n e in (omega (arith, r.0), r.1)

pub contains_at : (xs : List NodeId) (k : ℕ) (n : NodeId) → slice_get xs k ≡ Some n → Contains xs n
contains_at xs k n e = let r = some_at xs k n e in (k, r.0, r.1)

pub at_contained : (xs : List NodeId) (n : NodeId) → Contains xs n → (k : ℕ) × (slice_get xs k ≡ Some n)
at_contained xs n c = (c.0, at_some xs c.0 n c.1 c.2)

-- found nodes stay found
pub stays : (old more new : List NodeId) → IsAdded old more new → (n : NodeId) → Contains old n → Contains new n
stays old more new a n c = let k = at_contained old n c in contains_at new k.0 n (a.kept k.0 n k.1)

pub then_added : (old xs mid ys new : List NodeId) → IsAdded old xs mid → IsAdded mid ys new → IsAdded old (xs ++ ys) new
then_added old xs mid ys new a b = record {
  kept = λ k n e. b.kept k n (a.kept k n e);
  there = Rattle.std.proofs.lemmas.List.Elements.All-append (Contains new) xs ys (All-weaker (Contains mid) (Contains new) (stays mid ys new b) xs a.there) b.there;
  from = All-weaker (λ x. Contains mid x ⊎ Contains ys x) (λ x. Contains old x ⊎ Contains (xs ++ ys) x) from new b.from;
}
  where
    first : (x : NodeId) → Contains old x ⊎ Contains xs x → Contains old x ⊎ Contains (xs ++ ys) x
    first x (inl c) = inl c
    first x (inr c) = inr (Contains-append_left xs ys x c)

    from : (x : NodeId) → Contains mid x ⊎ Contains ys x → Contains old x ⊎ Contains (xs ++ ys) x
    from x (inl c) = first x (All-contains (λ y. Contains old y ⊎ Contains xs y) mid x a.from c)
    from x (inr c) = inr (Contains-append_right xs ys x c)

-- there are no more than the files have
pub few : (files : List Arena) (f : Found) → AreFound files f → length f.nodes.items ≤ length (all_entries files)
few files f h = omega (arith, marked_few f.marks.items, h.count, h.long)
