-- One step of a search finds the next entry.
use Rattle.std.proofs.Common.{◌≡◌, ℕ, ◌+◌, ◌<◌, ◌≤◌, ◌⊎◌, inl, inr, List, [], ◌∷◌, ◌++◌, refl, sym, ap, ◌∙◌, subst, arith, get_or, Some, None, append_assoc, length, set, length-set, get_or-set_same, get_or-set_other}
use Rattle.std.proofs.lemmas.Bool.{cases_lt, cases_eq}
use Rattle.kr_mean.specs.Space.{Space, IsVector}
use Rattle.kr_mean.specs.Blocks.{IsSpace}
use Rattle.kr_base.specs.Cuts.{Before}
use Rattle.kr_mean.specs.Readings.{Forks, AllBelow, Lacks, Differ, IsReading}
use Rattle.kr_mean.specs.Runs.{key_along}
use Rattle.kr_mean.specs.Choices.{IsAllowed, AllowedAlong, IsNextChoice}
use Rattle.kr_mean.specs.Entries.{IsListed}
use Rattle.kr_iso.specs.Choices.{PathIn, AllowedPath}
use Rattle.kr_step.specs.Steps.{path_of, slots_of, indices_of, OnPath, IsOf, NextIs, IsBeyond, IsFirst, IsStuck, IsMoved}
use Rattle.kr_step.proofs.Orders.{before_not_self}
use Rattle.kr_iso.proofs.Least.{least_is_allowed, allowed_is_least}
use Rattle.kr_step.proofs.Paths.{on_front, on_last, on_more, next_shared, next_of, next_rest, next_below, next_allowed, AllZero, lacks_of, lacks_front, zero_rest, path_allowed, allowed_more, allowed_front, key_on, before_append, before_tails, zeros_first}
use Rattle.kr_laws_pruning.proofs.Forks.{forks_agree}

module _ (S : Space) {M : Type 0} (order : List ℕ → List ℕ) (mark : List ℕ → M) (is : IsSpace S) (reading : IsReading S order mark) where
  -- a slot that comes next to one vector on a path comes next to each
  pub next_too : (v u : List ℕ) → IsVector S v → IsVector S u → (path : List (ℕ × ℕ)) (s : ℕ) → NextIs v path s (order v) → OnPath u path → NextIs u path s (order u)
  next_too v u iv iu path s n o = next_shared v u (mark v ≡ mark u) path s (order v) (order u) (reading.forks v u iv iu) n o

  -- an entry's index there is allowed
  chosen : (u : List ℕ) → IsListed S order u → (path : List (ℕ × ℕ)) (s : ℕ) → NextIs u path s (order u) → (get_or u s 0 < S.size s) × IsAllowed S path s (get_or u s 0)
  chosen u lu path s n =
      (lu.vector.within s (next_below S u path s (order u) (reading.below u lu.vector) n), next_allowed S u [] path s (order u) (least_is_allowed S order mark is reading u lu.vector lu.least) n)

  -- an entry above a cut is not below it on the way
  not_less : (u : List ℕ) (path : List (ℕ × ℕ)) (s i : ℕ) (tail us : List ℕ) → OnPath u path → NextIs u path s us → Before (indices_of path ++ i ∷ tail) (key_along u us) → i ≤ get_or u s 0
  not_less u path s i tail us o n b =
      let r = next_rest u path s us n in
      let k : key_along u us ≡ indices_of path ++ get_or u s 0 ∷ key_along u r.0 = ap (key_along u) r.1 ∙ key_on u path (s ∷ r.0) o in
      least _ _ (before_tails (indices_of path) (i ∷ tail) (get_or u s 0 ∷ key_along u r.0) (subst (λ (x : List ℕ). Before (indices_of path ++ i ∷ tail) x) k b))
    where
      least : (y : ℕ) (ys : List ℕ) → (i < y) ⊎ ((i ≡ y) × Before tail ys) → i ≤ y
      least y ys (inl h) = omega arith
      least y ys (inr h) = let e = h.0 in omega arith

  -- nothing goes on from the whole path of a key
  pub beyond_key : (v : List ℕ) → IsVector S v → IsBeyond S order (key_along v (order v)) (path_of v (order v))
  beyond_key v iv u lu b o = before_not_self (key_along v (order v)) (subst (λ (x : List ℕ). Before (key_along v (order v)) x) same b)
    where
      along : (vs : List ℕ) → OnPath u (path_of v vs) → key_along u vs ≡ key_along v vs
      along [] h = refl
      along (s ∷ vs) h = ap (λ (x : ℕ). x ∷ key_along u vs) h.0 ∙ ap (λ (l : List ℕ). get_or v s 0 ∷ l) (along vs h.1)

      same : key_along u (order u) ≡ key_along v (order v)
      same = ap (key_along u) (sym (forks_agree v u (mark v ≡ mark u) (order v) (order u) (reading.forks v u iv lu.vector) (along (order v) o)).0) ∙ along (order v) o

  -- a path that is left for good
  pub beyond_pop : (v : List ℕ) → IsVector S v → (c : List ℕ) (path : List (ℕ × ℕ)) (s i : ℕ) (tail : List ℕ) → c ≡ indices_of path ++ i ∷ tail → NextIs v path s (order v) → IsBeyond S order c (path ++ (s, i) ∷ []) → IsNextChoice S path s (i + 1) None → IsBeyond S order c path
  beyond_pop v iv c path s i tail e n beyond none u lu b o =
      let nu : NextIs u path s (order u) = next_too v u iv lu.vector path s n o in
      let le : i ≤ get_or u s 0 = not_less u path s i tail (order u) o nu (subst (λ (x : List ℕ). Before x (key_along u (order u))) e b) in
      let a = chosen u lu path s nu in
      elim (cases_eq (get_or u s 0) i) [ inl h ↦ beyond u lu b (on_more u path (s, i) o h) | inr h ↦ none (get_or u s 0) (grind arith) a.0 a.1 ]

  -- a cut that no choice goes on from
  pub beyond_stuck : (v : List ℕ) → IsVector S v → (c : List ℕ) (path : List (ℕ × ℕ)) (s i : ℕ) (tail : List ℕ) → c ≡ indices_of path ++ i ∷ tail → NextIs v path s (order v) → IsNextChoice S path s i None → IsBeyond S order c path
  beyond_stuck v iv c path s i tail e n none u lu b o =
      let nu : NextIs u path s (order u) = next_too v u iv lu.vector path s n o in
      let le : i ≤ get_or u s 0 = not_less u path s i tail (order u) o nu (subst (λ (x : List ℕ). Before x (key_along u (order u))) e b) in
      let a = chosen u lu path s nu in
      none (get_or u s 0) le a.0 a.1

  -- a cut that goes on where the order ends
  pub beyond_end : (v : List ℕ) → IsVector S v → (c tail : List ℕ) → c ≡ key_along v (order v) ++ tail → IsBeyond S order c (path_of v (order v))
  beyond_end v iv c tail e u lu b o = later (key_along v (order v)) tail (subst (λ (x : List ℕ). Before x (key_along v (order v))) e (subst (λ (x : List ℕ). Before c x) same b))
    where
      along : (vs : List ℕ) → OnPath u (path_of v vs) → key_along u vs ≡ key_along v vs
      along [] h = refl
      along (s ∷ vs) h = ap (λ (x : ℕ). x ∷ key_along u vs) h.0 ∙ ap (λ (l : List ℕ). get_or v s 0 ∷ l) (along vs h.1)

      same : key_along u (order u) ≡ key_along v (order v)
      same = ap (key_along u) (sym (forks_agree v u (mark v ≡ mark u) (order v) (order u) (reading.forks v u iv lu.vector) (along (order v) o)).0) ∙ along (order v) o

      later : (xs ys : List ℕ) → Before (xs ++ ys) xs → ⊥
      later [] [] h = h
      later [] (y ∷ ys) h = h
      later (x ∷ xs) ys (inl h) = omega arith
      later (x ∷ xs) ys (inr h) = later xs ys h.1

  -- an index that isn't allowed leads nowhere
  pub beyond_skip : (v : List ℕ) → IsVector S v → (c : List ℕ) (path : List (ℕ × ℕ)) (s i : ℕ) → NextIs v path s (order v) → (IsAllowed S path s i → ⊥) → IsBeyond S order c (path ++ (s, i) ∷ [])
  beyond_skip v iv c path s i n not u lu b o =
      let op = on_front u path ((s, i) ∷ []) o in
      let e = on_last u path (s, i) o in
      not (subst (λ (x : ℕ). IsAllowed S path s x) e (chosen u lu path s (next_too v u iv lu.vector path s n op)).1)

  -- the vector of an allowed path is listed
  pub record Reached (path : List (ℕ × ℕ)) (w : List ℕ) : Type 0 where
    pub rest : List ℕ
    pub order_is : order w ≡ slots_of path ++ rest
    pub zeros : AllZero w rest
    pub listed : IsListed S order w

  pub path_listed : (path : List (ℕ × ℕ)) (w rest : List ℕ) → IsOf S path w → AllowedPath S [] path → order w ≡ slots_of path ++ rest → Reached path w
  path_listed path w rest iw a e = record {
    rest = rest;
    order_is = e;
    zeros = z;
    listed = record {
      vector = iw.vector;
      least = allowed_is_least S order mark is reading w iw.vector (subst (λ (l : List ℕ). AllowedAlong S w [] l) (sym e) (path_allowed S is w [] path rest a iw.on (back (slots_of path) rest b) z));
      settled = λ s h l. iw.off s h (lacks_front (slots_of path) rest s (subst (λ (x : List ℕ). Lacks x s) e l));
    };
  }
    where
      d : Differ (slots_of path ++ rest)
      d = subst Differ e (reading.once w iw.vector)

      b : AllBelow S.slots (slots_of path ++ rest)
      b = subst (AllBelow S.slots) e (reading.below w iw.vector)

      z : AllZero w rest
      z = zero_rest S.slots w (slots_of path) rest d b iw.off

      back : (xs ys : List ℕ) → AllBelow S.slots (xs ++ ys) → AllBelow S.slots ys
      back [] ys h = h
      back (x ∷ xs) ys h = back xs ys h.1

  -- of the entries above a cut that leaves a path at a slot, the vector that takes the next choice there has the least key
  compare_choice : (w u : List ℕ) (Q : Type 0) (path : List (ℕ × ℕ)) (s i j : ℕ) (tail ws us : List ℕ) → Forks w u Q (slots_of path ++ s ∷ ws) us → OnPath w path → get_or w s 0 ≡ j → AllZero w ws →
      Before (indices_of path ++ i ∷ tail) (key_along u us) → (OnPath u path → (get_or u s 0 ≡ i → ⊥) × (i < get_or u s 0 → j ≤ get_or u s 0)) →
      Before (key_along u us) (key_along w (slots_of path ++ s ∷ ws)) → ⊥
  compare_choice w u Q [] s i j tail ws [] f o e z up k b = f
  compare_choice w u Q [] s i j tail ws (t ∷ us) f o e z up k b = go up b
    where
      at_s : get_or u t 0 ≡ get_or u s 0
      at_s = ap (λ (x : ℕ). get_or u x 0) (sym f.0)

      go : (i < get_or u t 0) ⊎ ((i ≡ get_or u t 0) × Before tail (key_along u us)) → (get_or u t 0 < get_or w s 0) ⊎ ((get_or u t 0 ≡ get_or w s 0) × Before (key_along u us) (key_along w ws)) → ⊥
      go (inr h) y = (k tt).0 (sym (h.0 ∙ at_s))
      go (inl h) (inl y) = let q = at_s in let lt : i < get_or u s 0 = omega arith in let le = (k tt).1 lt in omega arith
      go (inl h) (inr y) = zeros_first w u Q ws us (f.1 (sym (sym at_s ∙ y.0))) z y.1
  compare_choice w u Q (p ∷ path) s i j tail ws [] f o e z up k b = f
  compare_choice w u Q (p ∷ path) s i j tail ws (t ∷ us) f o e z up k b =
      go up b (λ same a c. compare_choice w u Q path s i j tail ws us (f.1 (o.0 ∙ sym same)) o.1 e z a (λ h. k (same, h)) c)
    where
      at_p : get_or u t 0 ≡ get_or u p.0 0
      at_p = ap (λ (x : ℕ). get_or u x 0) (sym f.0)

      go : (p.1 < get_or u t 0) ⊎ ((p.1 ≡ get_or u t 0) × Before (indices_of path ++ i ∷ tail) (key_along u us)) → (get_or u t 0 < get_or w p.0 0) ⊎ ((get_or u t 0 ≡ get_or w p.0 0) × Before (key_along u us) (key_along w (slots_of path ++ s ∷ ws))) → (get_or u p.0 0 ≡ p.1 → Before (indices_of path ++ i ∷ tail) (key_along u us) → Before (key_along u us) (key_along w (slots_of path ++ s ∷ ws)) → ⊥) → ⊥
      go (inl h) (inl y) r = let q = o.0 in omega arith
      go (inl h) (inr y) r = let q = o.0 in let q' = y.0 in omega arith
      go (inr h) (inl y) r = let q = o.0 in let q' = h.0 in omega arith
      go (inr h) (inr y) r = r (sym (h.0 ∙ at_p)) h.1 y.1

  -- the next entry by a choice
  pub next_first : (v : List ℕ) → IsVector S v → (c : List ℕ) (path : List (ℕ × ℕ)) (s i j : ℕ) (tail : List ℕ) → c ≡ indices_of path ++ i ∷ tail → NextIs v path s (order v) → OnPath v path → AllowedPath S [] path →
      IsBeyond S order c (path ++ (s, i) ∷ []) → IsNextChoice S path s (i + 1) (Some j) → (w : List ℕ) → IsOf S (path ++ (s, j) ∷ []) w →
      IsFirst S order c w
  next_first v iv c path s i j tail e n ov a beyond choice w iw =
      record { listed = reached.listed; later = later; least = least_of }
    where
      on : OnPath w path
      on = on_front w path ((s, j) ∷ []) iw.on

      value : get_or w s 0 ≡ j
      value = on_last w path (s, j) iw.on

      nw : NextIs w path s (order w)
      nw = next_too v w iv iw.vector path s n on

      r : (rest : List ℕ) × (order w ≡ slots_of path ++ s ∷ rest)
      r = next_rest w path s (order w) nw

      slots_more : (xs : List (ℕ × ℕ)) (ys : List ℕ) → slots_of (xs ++ (s, j) ∷ []) ++ ys ≡ slots_of xs ++ s ∷ ys
      slots_more [] ys = refl
      slots_more (x ∷ xs) ys = ap (λ (l : List ℕ). x.0 ∷ l) (slots_more xs ys)

      reached : Reached (path ++ (s, j) ∷ []) w
      reached = path_listed (path ++ (s, j) ∷ []) w r.0 iw (allowed_more S [] path (s, j) a choice.2) (r.1 ∙ sym (slots_more path r.0))

      key_is : key_along w (order w) ≡ indices_of path ++ get_or w s 0 ∷ key_along w r.0
      key_is = ap (key_along w) r.1 ∙ key_on w path (s ∷ r.0) on

      later : Before c (key_along w (order w))
      later = subst (λ (x : List ℕ). Before c x) (sym key_is) (subst (λ (x : List ℕ). Before x (indices_of path ++ get_or w s 0 ∷ key_along w r.0)) (sym e) (before_append (indices_of path) (i ∷ tail) (get_or w s 0 ∷ key_along w r.0) (inl (let q = choice.0 in let q' = value in omega arith))))

      zeros : AllZero w r.0
      zeros = zero_rest S.slots w (slots_of (path ++ (s, j) ∷ [])) r.0 (subst Differ (r.1 ∙ sym (slots_more path r.0)) (reading.once w iw.vector)) (subst (AllBelow S.slots) (r.1 ∙ sym (slots_more path r.0)) (reading.below w iw.vector)) iw.off

      least_of : (u : List ℕ) → IsListed S order u → Before c (key_along u (order u)) → Before (key_along u (order u)) (key_along w (order w)) → ⊥
      least_of u lu b b' =
          compare_choice w u (mark w ≡ mark u) path s i j tail r.0 (order u) (subst (λ (l : List ℕ). Forks w u (mark w ≡ mark u) l (order u)) r.1 (reading.forks w u iw.vector lu.vector)) on value zeros
          (subst (λ (x : List ℕ). Before x (key_along u (order u))) e b)
          (λ o. (λ q. beyond u lu b (on_more u path (s, i) o q), λ q. minimal u lu (next_too w u iw.vector lu.vector path s nw o) q))
          (subst (λ (l : List ℕ). Before (key_along u (order u)) (key_along w l)) r.1 b')
        where
          minimal : (x : List ℕ) → IsListed S order x → NextIs x path s (order x) → i < get_or x s 0 → j ≤ get_or x s 0
          minimal x lx nx lt = elim (cases_lt (get_or x s 0) j) [ inr ge ↦ ge | inl below ↦ absurd (choice.3 (get_or x s 0) (omega arith) below (chosen x lx path s nx).1) ]

  compare_front : (w u : List ℕ) (Q : Type 0) (path : List (ℕ × ℕ)) (ws us : List ℕ) → Forks w u Q (slots_of path ++ ws) us → OnPath w path → AllZero w ws →
      Before (indices_of path) (key_along u us) → Before (key_along u us) (key_along w (slots_of path ++ ws)) → ⊥
  compare_front w u Q [] ws us f o z up b = zeros_first w u Q ws us f z b
  compare_front w u Q (p ∷ path) ws [] f o z up b = f
  compare_front w u Q (p ∷ path) ws (t ∷ us) f o z up b =
      go up b (λ same a c. compare_front w u Q path ws us (f.1 (o.0 ∙ sym same)) o.1 z a c)
    where
      at_p : get_or u t 0 ≡ get_or u p.0 0
      at_p = ap (λ (x : ℕ). get_or u x 0) (sym f.0)

      go : (p.1 < get_or u t 0) ⊎ ((p.1 ≡ get_or u t 0) × Before (indices_of path) (key_along u us)) → (get_or u t 0 < get_or w p.0 0) ⊎ ((get_or u t 0 ≡ get_or w p.0 0) × Before (key_along u us) (key_along w (slots_of path ++ ws))) → (get_or u p.0 0 ≡ p.1 → Before (indices_of path) (key_along u us) → Before (key_along u us) (key_along w (slots_of path ++ ws)) → ⊥) → ⊥
      go (inl h) (inl y) r = let q = o.0 in omega arith
      go (inl h) (inr y) r = let q = o.0 in let q' = y.0 in omega arith
      go (inr h) (inl y) r = let q = o.0 in let q' = h.0 in omega arith
      go (inr h) (inr y) r = r (sym (h.0 ∙ at_p)) h.1 y.1

  -- the first entry above a cut that an order goes on from
  pub front_first : (path : List (ℕ × ℕ)) (s : ℕ) (w : List ℕ) → IsOf S path w → AllowedPath S [] path → NextIs w path s (order w) → IsFirst S order (indices_of path) w
  front_first path s w iw a n = record {
    listed = reached.listed;
    later = subst (λ (x : List ℕ). Before (indices_of path) x) (sym key_is) (before_more (indices_of path));
    least = λ u lu b b'. compare_front w u (mark w ≡ mark u) path (s ∷ r.0) (order u) (subst (λ (l : List ℕ). Forks w u (mark w ≡ mark u) l (order u)) r.1 (reading.forks w u iw.vector lu.vector)) iw.on
        (zero_rest S.slots w (slots_of path) (s ∷ r.0) (subst Differ r.1 (reading.once w iw.vector)) (subst (AllBelow S.slots) r.1 (reading.below w iw.vector)) iw.off)
        b (subst (λ (l : List ℕ). Before (key_along u (order u)) (key_along w l)) r.1 b');
  }
    where
      r : (rest : List ℕ) × (order w ≡ slots_of path ++ s ∷ rest)
      r = next_rest w path s (order w) n

      reached : Reached path w
      reached = path_listed path w (s ∷ r.0) iw a r.1

      key_is : key_along w (order w) ≡ indices_of path ++ get_or w s 0 ∷ key_along w r.0
      key_is = ap (key_along w) r.1 ∙ key_on w path (s ∷ r.0) iw.on

      before_more : (xs : List ℕ) → Before xs (xs ++ get_or w s 0 ∷ key_along w r.0)
      before_more [] = tt
      before_more (x ∷ xs) = inr (refl, before_more xs)

  -- a path that ends at a slot
  pub record Top (path : List (ℕ × ℕ)) (s i : ℕ) (c v : List ℕ) : Type 0 where
    pub slot : s < S.slots
    pub index : i < S.size s
    pub tail : List ℕ
    pub cut : c ≡ indices_of path ++ i ∷ tail
    pub other : List ℕ
    pub is_vector : IsVector S other
    pub next : NextIs other path s (order other)
    pub on : OnPath other path
    pub apart : Lacks (slots_of path) s

  indices_more : (xs : List (ℕ × ℕ)) (s i : ℕ) (ys : List ℕ) → indices_of (xs ++ (s, i) ∷ []) ++ ys ≡ indices_of xs ++ i ∷ ys
  indices_more [] s i ys = refl
  indices_more (x ∷ xs) s i ys = ap (λ (l : List ℕ). x.1 ∷ l) (indices_more xs s i ys)

  path_more : (xs : List (ℕ × ℕ)) (s i : ℕ) (ys : List (ℕ × ℕ)) → (xs ++ (s, i) ∷ []) ++ ys ≡ xs ++ (s, i) ∷ ys
  path_more xs s i ys = append_assoc xs ((s, i) ∷ []) ys

  on_of : (u : List ℕ) (path : List (ℕ × ℕ)) (s i : ℕ) (rest : List (ℕ × ℕ)) (us : List ℕ) → path_of u us ≡ path ++ (s, i) ∷ rest → OnPath u path
  on_of u [] s i rest us e = tt
  on_of u (p ∷ path) s i rest [] e = cc
  on_of u (p ∷ path) s i rest (t ∷ us) e = let h : (t, get_or u t 0) ≡ p = cc in (ap (λ (x : ℕ × ℕ). get_or u x.0 0) (sym h) ∙ ap (λ (x : ℕ × ℕ). x.1) h, on_of u path s i rest us (cc))

  pub top : (path : List (ℕ × ℕ)) (s i : ℕ) (c v : List ℕ) → IsStuck S order c v (path ++ (s, i) ∷ []) → Top path s i c v
  top path s i c v k =
      let u = k.leads.0 in
      let e : path_of u (order u) ≡ path ++ (s, i) ∷ k.leads.2 = k.leads.3 ∙ path_more path s i k.leads.2 in
      let n : NextIs u path s (order u) = next_of u path s i k.leads.2 (order u) e in
      let h : s < S.slots = next_below S u path s (order u) (reading.below u k.leads.1) n in
      let r = next_rest u path s (order u) n in
      record {
        slot = h;
        index = subst (λ (x : ℕ). x < S.size s) (on_last v path (s, i) k.of.on) (k.of.vector.within s h);
        tail = k.cut.0;
        cut = k.cut.1 ∙ indices_more path s i k.cut.0;
        other = u;
        is_vector = k.leads.1;
        next = n;
        on = on_of u path s i k.leads.2 (order u) e;
        apart = lacks_of (slots_of path) s r.0 (subst Differ r.1 (reading.once u k.leads.1));
      }

  pub set_vector : (v : List ℕ) (s j : ℕ) → IsVector S v → s < S.slots → j < S.size s → IsVector S (set v s j)
  set_vector v s j iv h lt = record {
    long = simp length-set iv.long;
    within = λ t ht. elim (cases_eq t s) [ inl e ↦ (let le : s < length v = (let q = iv.long in omega arith) in subst (λ (x : ℕ). get_or (set v s j) x 0 < S.size x) (sym e) (rw (get_or-set_same v s j 0 le) lt)) | inr ne ↦ rw (get_or-set_other v s t j 0 ne) (iv.within t ht) ];
  }

  pub on_set : (v : List ℕ) (path : List (ℕ × ℕ)) (s j : ℕ) → OnPath v path → Lacks (slots_of path) s → OnPath (set v s j) path
  on_set v [] s j o l = tt
  on_set v (p ∷ path) s j o l = (get_or-set_other v s p.0 j 0 l.0 ∙ o.0, on_set v path s j o.1 l.1)

  lacks_more : (path : List (ℕ × ℕ)) (s i t : ℕ) → Lacks (slots_of path) t → (s ≡ t → ⊥) → Lacks (slots_of (path ++ (s, i) ∷ [])) t
  lacks_more [] s i t l n = (n, tt)
  lacks_more (p ∷ path) s i t l n = (l.0, lacks_more path s i t l.1 n)

  pub lacks_less : (path : List (ℕ × ℕ)) (s j t : ℕ) → Lacks (slots_of (path ++ (s, j) ∷ [])) t → Lacks (slots_of path) t × (s ≡ t → ⊥)
  lacks_less [] s j t l = (tt, l.0)
  lacks_less (p ∷ path) s j t l = let r = lacks_less path s j t l.1 in ((l.0, r.0), r.1)

  -- the rest of a path when its last slot goes back to 0
  pub of_pop : (path : List (ℕ × ℕ)) (s i : ℕ) (c v : List ℕ) → IsStuck S order c v (path ++ (s, i) ∷ []) → IsOf S path (set v s 0)
  of_pop path s i c v k =
      let t = top path s i c v k in
      record {
        vector = set_vector v s 0 k.of.vector t.slot (is.filled s t.slot);
        on = on_set v path s 0 (on_front v path ((s, i) ∷ []) k.of.on) t.apart;
        off = λ x h l. elim (cases_eq x s) [ inl e ↦ (let le : s < length v = (let q = k.of.vector.long in let h' = t.slot in omega arith) in subst (λ (y : ℕ). get_or (set v s 0) y 0 ≡ 0) (sym e) (get_or-set_same v s 0 0 le)) | inr ne ↦ get_or-set_other v s x 0 0 ne ∙ k.of.off x h (lacks_more path s i x l (λ e. ne (sym e))) ];
      }

  pub of_push : (path : List (ℕ × ℕ)) (s i j : ℕ) (c v : List ℕ) → IsStuck S order c v (path ++ (s, i) ∷ []) → j < S.size s → IsOf S (path ++ (s, j) ∷ []) (set v s j)
  of_push path s i j c v k lt =
      let t = top path s i c v k in
      let le : s < length v = (let q = k.of.vector.long in let h' = t.slot in omega arith) in
      record {
        vector = set_vector v s j k.of.vector t.slot lt;
        on = on_more (set v s j) path (s, j) (on_set v path s j (on_front v path ((s, i) ∷ []) k.of.on) t.apart) (get_or-set_same v s j 0 le);
        off = λ x h l. let a = lacks_less path s j x l in get_or-set_other v s x j 0 (λ e. a.1 (sym e)) ∙ k.of.off x h (lacks_more path s i x a.0 a.1);
      }

  pub pop_stuck : (path : List (ℕ × ℕ)) (s i : ℕ) (c v : List ℕ) → IsStuck S order c v (path ++ (s, i) ∷ []) → IsNextChoice S path s (i + 1) None → IsStuck S order c (set v s 0) path
  pop_stuck path s i c v k none =
      let t = top path s i c v k in
      record {
        of = of_pop path s i c v k;
        allowed = allowed_front S [] path ((s, i) ∷ []) k.allowed;
        leads = (k.leads.0, k.leads.1, (s, i) ∷ k.leads.2, k.leads.3 ∙ path_more path s i k.leads.2);
        cut = (i ∷ t.tail, t.cut);
        beyond = beyond_pop t.other t.is_vector c path s i t.tail t.cut t.next k.beyond none;
      }

  pub path_on : (w : List ℕ) (path : List (ℕ × ℕ)) (rest : List ℕ) → OnPath w path → path_of w (slots_of path ++ rest) ≡ path ++ path_of w rest
  path_on w [] rest o = refl
  path_on w (p ∷ path) rest o = ap (λ (x : ℕ). (p.0, x) ∷ path_of w (slots_of path ++ rest)) o.0 ∙ ap (λ (l : List (ℕ × ℕ)). p ∷ l) (path_on w path rest o.1)

  pub push_moved : (path : List (ℕ × ℕ)) (s i j : ℕ) (c v : List ℕ) → IsStuck S order c v (path ++ (s, i) ∷ []) → IsNextChoice S path s (i + 1) (Some j) → IsMoved S order c (set v s j) (path ++ (s, j) ∷ [])
  push_moved path s i j c v k choice =
      record {
        of = iw;
        allowed = allowed_more S [] path (s, j) a choice.2;
        first = next_first t.other t.is_vector c path s i j t.tail t.cut t.next t.on a k.beyond choice w iw;
        leads = (path_of w r.0, ap (path_of w) r.1 ∙ (path_on w path (s ∷ r.0) on ∙ (ap (λ (x : ℕ). path ++ (s, x) ∷ path_of w r.0) (on_last w path (s, j) iw.on) ∙ sym (path_more path s j (path_of w r.0)))));
      }
    where
      t : Top path s i c v
      t = top path s i c v k

      w : List ℕ
      w = set v s j

      a : AllowedPath S [] path
      a = allowed_front S [] path ((s, i) ∷ []) k.allowed

      iw : IsOf S (path ++ (s, j) ∷ []) w
      iw = of_push path s i j c v k choice.1

      on : OnPath w path
      on = on_front w path ((s, j) ∷ []) iw.on

      r : (rest : List ℕ) × (order w ≡ slots_of path ++ s ∷ rest)
      r = next_rest w path s (order w) (next_too t.other w t.is_vector iw.vector path s t.next on)

  -- an empty path that is left for good
  pub stuck_none : (c v : List ℕ) → IsStuck S order c v [] → (u : List ℕ) → IsListed S order u → Before c (key_along u (order u)) → ⊥
  stuck_none c v k u lu b = k.beyond u lu b tt

  -- after an entry, the search is at the end of its whole path
  pub found_stuck : (c w : List ℕ) → IsFirst S order c w → IsStuck S order (key_along w (order w)) w (path_of w (order w))
  found_stuck c w m = record {
    of = record { vector = m.listed.vector; on = on_all (order w); off = λ s h l. m.listed.settled s h (slots_all (order w) s l) };
    allowed = allowed_all [] (order w) (least_is_allowed S order mark is reading w m.listed.vector m.listed.least);
    leads = (w, m.listed.vector, [], sym (append_nil (path_of w (order w))));
    cut = ([], sym (append_no (indices_of (path_of w (order w))) ∙ indices_all (order w)));
    beyond = beyond_key w m.listed.vector;
  }
    where
      on_all : (ss : List ℕ) → OnPath w (path_of w ss)
      on_all [] = tt
      on_all (s ∷ ss) = (refl, on_all ss)

      slots_all : (ss : List ℕ) (s : ℕ) → Lacks (slots_of (path_of w ss)) s → Lacks ss s
      slots_all [] s l = tt
      slots_all (t ∷ ss) s l = (l.0, slots_all ss s l.1)

      indices_all : (ss : List ℕ) → indices_of (path_of w ss) ≡ key_along w ss
      indices_all [] = refl
      indices_all (s ∷ ss) = ap (λ (l : List ℕ). get_or w s 0 ∷ l) (indices_all ss)

      allowed_all : (before : List (ℕ × ℕ)) (ss : List ℕ) → AllowedAlong S w before ss → AllowedPath S before (path_of w ss)
      allowed_all before [] a = tt
      allowed_all before (s ∷ ss) a = (a.0, allowed_all (before ++ (s, get_or w s 0) ∷ []) ss a.1)

      append_nil : (xs : List (ℕ × ℕ)) → xs ++ [] ≡ xs
      append_nil [] = refl
      append_nil (x ∷ xs) = ap (λ (l : List (ℕ × ℕ)). x ∷ l) (append_nil xs)

      append_no : (xs : List ℕ) → xs ++ [] ≡ xs
      append_no [] = refl
      append_no (x ∷ xs) = ap (λ (l : List ℕ). x ∷ l) (append_no xs)

  pub path_in : (v : List ℕ) → IsVector S v → (path : List (ℕ × ℕ)) → AllBelow S.slots (slots_of path) → OnPath v path → PathIn S path
  path_in v iv [] b o = tt
  path_in v iv (p ∷ path) b o = (b.0, subst (λ (x : ℕ). x < S.size p.0) o.0 (iv.within p.0 b.0), path_in v iv path b.1 o.1)

  pub below_front : (xs ys : List ℕ) → AllBelow S.slots (xs ++ ys) → AllBelow S.slots xs
  below_front [] ys b = tt
  below_front (x ∷ xs) ys b = (b.0, below_front xs ys b.1)

  pub top_in : (path : List (ℕ × ℕ)) (s i : ℕ) (c v : List ℕ) → IsStuck S order c v (path ++ (s, i) ∷ []) → PathIn S path
  top_in path s i c v k =
      let t = top path s i c v k in
      let r = next_rest t.other path s (order t.other) t.next in
      path_in t.other t.is_vector path (below_front (slots_of path) (s ∷ r.0) (subst (AllBelow S.slots) r.1 (reading.below t.other t.is_vector))) t.on
