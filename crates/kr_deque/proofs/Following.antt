-- The next piece after those that adjoin.
use Rattle.std.proofs.Common.{◌≡◌, ◌⊎◌, inl, inr, ℕ, suc, ◌+◌, ◌<◌, ◌≤◌, List, [], ◌∷◌, ◌++◌, Bool, true, false, length, take, drop, get_or, refl, sym, ap, ◌∙◌, subst, arith}
use Rattle.std.specs.Prelude.{IsSortedBy}
use Rattle.std.proofs.lemmas.Cmp.{nat_list_cmp_total}
use Rattle.std.proofs.lemmas.List.{take-append-drop, drop_more, take_all, get_or-drop, get_or_default, length-drop, map-append, take_more}
use Rattle.std.proofs.lemmas.List.Sorted.{ranks_by, sorted_far}
use Rattle.kr_base.specs.declared.span.Bound.{Bound}
use Rattle.kr_base.specs.declared.span.Bound.TheVariants.{At, End}
use Rattle.kr_base.specs.declared.span.Span.{Span}
use Rattle.kr_base.specs.Cuts.{is_before}
use Rattle.kr_base.specs.Bounds.{less}
use Rattle.kr_base.proofs.Bounds.{transitive, connected, not_above_less}
use Rattle.kr_deque.specs.declared.joining.JoinRefusal.{JoinRefusal}
use Rattle.kr_deque.specs.declared.joining.JoinRefusal.TheVariants.{Gap, Double, NoMemory}
use Rattle.kr_survey.specs.declared.piece.Piece.{Piece}
use Rattle.kr_survey.specs.Spans.{is_ahead, Adjoins}
use Rattle.kr_deque.specs.Breaks.{Refuses}
use Rattle.kr_deque.specs.Checking.{Follows, Ends, Checks}
use Rattle.kr_deque_hands.specs.Pieces.{spans_of, AllAhead}
use Rattle.kr_deque.proofs.Counts.{IsIn}
use Rattle.kr_deque.proofs.Chains.{ahead_two, adjoins_more}
use Rattle.kr_deque.proofs.Checked.{below_later, gap_here, double_here, gap_last}
use Rattle.std.specs.Prelude.{Result, Ok, Err}

pub cut_end : (a b : Bound) → less a b ≡ true → less a End ≡ true
unfolding less
cut_end (At a) b h = refl
cut_end End b h = absurd (cc (h))

pub less_at : (a b : List ℕ) → less (At a) (At b) ≡ is_before a b
unfolding less
less_at a b = refl

-- what the tests of the next span say
pub double_says : (asked next : Span) (at : Bound) (c : List ℕ) → c ≡ next.after → (less (At next.after) at ≡ true) ⊎ ((less (At next.after) at ≡ false) × (less asked.upto next.upto ≡ true))
    → (less at (At next.after) ≡ false) ⊎ (less at asked.upto ≡ false)
    → (c ≡ next.after) × ((less (At c) at ≡ true) ⊎ ((less asked.upto next.upto ≡ true) × ((at ≡ At c) ⊎ (less at asked.upto ≡ false))))
double_says asked next at c e (inl p) o = (e, inl (ap (λ (x : List ℕ). less (At x) at) e ∙ p))
double_says asked next at c e (inr p) (inl q) = (e, inr (p.1, inl (connected at (At next.after) q p.0 ∙ ap At (sym e))))
double_says asked next at c e (inr p) (inr q) = (e, inr (p.1, inr q))

pub ok_says : (asked next : Span) (at : Bound) → is_ahead next ≡ true → less (At next.after) at ≡ false → less asked.upto next.upto ≡ false
    → (less at (At next.after) ≡ false) ⊎ ((less at (At next.after) ≡ true) × (less at asked.upto ≡ false)) → (At next.after ≡ at) × (less asked.upto next.upto ≡ false)
ok_says asked next at ahead p q (inl r) = (connected (At next.after) at p r, q)
ok_says asked next at ahead p q (inr r) = absurd (cc (sym (not_above_less asked.upto at next.upto r.1 (transitive at (At next.after) next.upto r.0 ahead)) ∙ q))

module _ {R : Type 0} where
  pub split_at : (ps : List (Piece R)) (i : ℕ) (x : Piece R) → i < length ps → x ≡ get_or ps i x → ps ≡ take i ps ++ x ∷ drop (i + 1) ps
  split_at ps i x h is = sym (take-append-drop i ps) ∙ ap (λ (l : List (Piece R)). take i ps ++ l) (drop_more ps i x h ∙ ap (λ (y : Piece R). y ∷ drop (i + 1) ps) (sym is))

  pub spans_split : (ps : List (Piece R)) (i : ℕ) (x : Piece R) → i < length ps → x ≡ get_or ps i x → spans_of ps ≡ spans_of (take i ps) ++ x.span ∷ spans_of (drop (i + 1) ps)
  spans_split ps i x h is = ap (λ (l : List (Piece R)). spans_of l) (split_at ps i x h is) ∙ map-append (λ (p : Piece R). p.span) (take i ps) (x ∷ drop (i + 1) ps)

  pub ahead_at : (ps : List (Piece R)) (i : ℕ) (x : Piece R) → i < length ps → x ≡ get_or ps i x → AllAhead (spans_of ps) → AllAhead (spans_of (take i ps)) × AllAhead (x.span ∷ spans_of (drop (i + 1) ps))
  ahead_at ps i x h is a = ahead_two (spans_of (take i ps)) (x.span ∷ spans_of (drop (i + 1) ps)) (subst AllAhead (spans_split ps i x h is) a)

  abbrev pub earlier : Piece R → Piece R → Bool
  earlier p q = is_before p.span.after q.span.after

  all_in : (ps : List (Piece R)) (A : Bound) → ((j : ℕ) (d : Piece R) → j < length ps → less (At (get_or ps j d).span.after) A ≡ false) → (z : Span) → IsIn z (spans_of ps) → less (At z.after) A ≡ false
  all_in [] A f z i = absurd i
  all_in (p ∷ ps) A f z (inl e) = subst (λ (s : Span). less (At s.after) A ≡ false) e (f 0 p (omega arith))
  all_in (p ∷ ps) A f z (inr i) = all_in ps A (λ j d h. f (suc j) d (omega (arith, h))) z i

  -- in order, none of what is left begins before the next one
  pub in_order : (ps : List (Piece R)) (i : ℕ) (x : Piece R) → i < length ps → x ≡ get_or ps i x → IsSortedBy earlier ps
      → (z : Span) → IsIn z (x.span ∷ spans_of (drop (i + 1) ps)) → less (At z.after) (At x.span.after) ≡ false
  in_order ps i x h is up z m =
      all_in (drop i ps) (At x.span.after) (λ j d lt.
      let le : i ≤ i + j = omega arith in
      let in_range : i + j < length ps = omega (arith, lt, length-drop i ps) in
      less_at (get_or (drop i ps) j d).span.after x.span.after
      ∙ (ap (λ (p : Piece R). is_before p.span.after x.span.after) (get_or-drop i ps j d)
      ∙ (ap (λ (p : Piece R). is_before (get_or ps (i + j) d).span.after p.span.after) (is ∙ get_or_default ps i x d h) ∙ sorted_far earlier (ranks_by nat_list_cmp_total (λ (p : Piece R). p.span.after)) ps up i (i + j) d le in_range))) z
      (subst (λ (l : List (Piece R)). IsIn z (spans_of l)) (sym (drop_more ps i x h ∙ ap (λ (y : Piece R). y ∷ drop (i + 1) ps) (sym is))) m)

  -- the piece after those that adjoin refuses them all
  pub refused : (asked : Span) (ps : List (Piece R)) (i : ℕ) (x : Piece R) (at : Bound) (r : JoinRefusal) → AllAhead (spans_of ps) → IsSortedBy earlier ps → i < length ps → x ≡ get_or ps i x
      → Adjoins (At asked.after) (spans_of (take i ps)) at → less asked.upto at ≡ false → Follows asked at x.span (Err r) → Refuses asked (spans_of ps) r
  refused asked ps i x at r ahead up h is k low f =
      let a = ahead_at ps i x h is ahead in
      subst (λ (l : List Span). Refuses asked l r) (sym (spans_split ps i x h is)) (by_case r f a)
    where
      by_case : (r : JoinRefusal) → Follows asked at x.span (Err r) → AllAhead (spans_of (take i ps)) × AllAhead (x.span ∷ spans_of (drop (i + 1) ps)) → Refuses asked (spans_of (take i ps) ++ x.span ∷ spans_of (drop (i + 1) ps)) r
      by_case (Gap c) f a =
          gap_here asked (spans_of (take i ps)) (x.span ∷ spans_of (drop (i + 1) ps)) at c a.0 a.1 k f.0 f.2
          (λ z m. below_later at (At x.span.after) (At z.after) f.1 (in_order ps i x h is up z m))
      by_case (Double c) f a =
          subst (λ (d : List ℕ). Refuses asked (spans_of (take i ps) ++ x.span ∷ spans_of (drop (i + 1) ps)) (Double d)) (sym f.0)
          (double_here asked (spans_of (take i ps)) x.span (spans_of (drop (i + 1) ps)) at a.0 a.1 k low (in_order ps i x h is up)
          (subst (λ (d : List ℕ). (less (At d) at ≡ true) ⊎ ((less asked.upto x.span.upto ≡ true) × ((at ≡ At d) ⊎ (less at asked.upto ≡ false)))) f.0 f.1))
      by_case (NoMemory why) f a = tt

  -- one more piece adjoins
  pub one_more : (a : Bound) (ps : List (Piece R)) (i : ℕ) (x : Piece R) (at : Bound) → i < length ps → x ≡ get_or ps i x → Adjoins a (spans_of (take i ps)) at → At x.span.after ≡ at
      → Adjoins a (spans_of (take (i + 1) ps)) x.span.upto
  one_more a ps i x at h is k e =
      subst (λ (l : List (Piece R)). Adjoins a (spans_of l) x.span.upto) (sym (take_more ps i x h ∙ ap (λ (y : Piece R). take i ps ++ y ∷ []) (sym is)))
      (subst (λ (l : List Span). Adjoins a l x.span.upto) (sym (map-append (λ (p : Piece R). p.span) (take i ps) (x ∷ []))) (adjoins_more a at (spans_of (take i ps)) x.span k e))

  -- after the last one
  pub ended : (asked : Span) (ps : List (Piece R)) (i : ℕ) (at : Bound) (r : JoinRefusal) → AllAhead (spans_of ps) → length ps ≤ i → Adjoins (At asked.after) (spans_of (take i ps)) at
      → Ends asked at (Err r) → Refuses asked (spans_of ps) r
  ended asked ps i at (Gap c) ahead past k f = gap_last asked (spans_of ps) at c ahead (subst (λ (l : List (Piece R)). Adjoins (At asked.after) (spans_of l) at) (take_all i ps past) k) f.0 f.1
  ended asked ps i at (Double c) ahead past k f = absurd f
  ended asked ps i at (NoMemory why) ahead past k f = tt

  -- what the last test says of all
  pub last_says : (asked : Span) (ps : List (Piece R)) (i : ℕ) (at : Bound) (r : Result (Unit {0}) JoinRefusal) → AllAhead (spans_of ps) → length ps ≤ i → Adjoins (At asked.after) (spans_of (take i ps)) at
      → Ends asked at r → Checks asked (spans_of ps) r
  last_says asked ps i at (Ok none) ahead past k f =
      subst (λ (b : Bound). Adjoins (At asked.after) (spans_of ps) b) f (subst (λ (l : List (Piece R)). Adjoins (At asked.after) (spans_of l) at) (take_all i ps past) k)
  last_says asked ps i at (Err r) ahead past k f = ended asked ps i at r ahead past k f
