-- How a search reaches a cut.
use Rattle.std.proofs.Common.{◌≡◌, ℕ, zero, suc, ◌+◌, ◌<◌, ◌≤◌, List, [], ◌∷◌, ◌++◌, refl, sym, ap, ◌∙◌, subst, arith, get_or, Some, None, length, take, drop, set, get_or-set_same, get_or-set_other}
use Rattle.std.proofs.lemmas.List.{length-replicate, take-append-drop}
use Rattle.kr_iso.proofs.Drops.{drop_number}
use Rattle.std.specs.Prelude.{replicate}
use Rattle.kr_mean.specs.Space.{Space, IsVector}
use Rattle.kr_mean.specs.Blocks.{IsSpace}
use Rattle.kr_mean.specs.Readings.{AllBelow, Lacks, Differ, IsReading}
use Rattle.kr_mean.specs.Runs.{key_along}
use Rattle.kr_mean.specs.Choices.{IsAllowed, IsNextChoice}
use Rattle.kr_iso.specs.Choices.{PathIn}
use Rattle.kr_step.specs.Steps.{path_of, slots_of, indices_of, OnPath, IsOf, NextIs, IsBeyond, IsFirst, IsStuck, IsMoved, IsFront}
use Rattle.kr_step.proofs.Paths.{on_more, next_rest, next_below, lacks_of, allowed_more, key_on}
use Rattle.kr_step.proofs.Nexts.{next_too, beyond_stuck, beyond_end, beyond_skip, next_first, front_first, set_vector, on_set, lacks_less, path_on, path_in, below_front}

-- the slot that an order has after a path
next_at : (w : List ℕ) (path : List (ℕ × ℕ)) (rest : List ℕ) (d : ℕ) → OnPath w path → length path < length (slots_of path ++ rest) → NextIs w path (get_or (slots_of path ++ rest) (length path) d) (slots_of path ++ rest)
next_at w [] [] d o h = omega arith
next_at w [] (t ∷ rest) d o h = refl
next_at w (p ∷ path) rest d o h = (refl, o.0, next_at w path rest d o.1 (omega arith))

pub cut_here : (after : List ℕ) (k : ℕ) (path : List (ℕ × ℕ)) → k < length after → indices_of path ≡ take k after → after ≡ indices_of path ++ get_or after k 0 ∷ drop (k + 1) after
cut_here after k path h e = sym (take-append-drop k after) ∙ (ap (λ (l : List ℕ). take k after ++ l) (drop_number after k h) ∙ ap (λ (l : List ℕ). l ++ get_or after k 0 ∷ drop (k + 1) after) (sym e))

pub indices_more : (xs : List (ℕ × ℕ)) (s i : ℕ) → indices_of (xs ++ (s, i) ∷ []) ≡ indices_of xs ++ i ∷ []
indices_more [] s i = refl
indices_more (x ∷ xs) s i = ap (λ (l : List ℕ). x.1 ∷ l) (indices_more xs s i)

module _ (S : Space) {M : Type 0} (order : List ℕ → List ℕ) (mark : List ℕ → M) (is : IsSpace S) (reading : IsReading S order mark) where
  pub front_next : (w : List ℕ) (path : List (ℕ × ℕ)) (d : ℕ) → IsFront S order w path → length path < length (order w) → NextIs w path (get_or (order w) (length path) d) (order w)
  front_next w path d f h = subst (λ (l : List ℕ). NextIs w path (get_or l (length path) d) l) (sym f.leads.1) (next_at w path f.leads.0 d f.of.on (subst (λ (l : List ℕ). length path < length l) f.leads.1 h))

  -- the result of one turn
  pub record Turn (w : List ℕ) (path : List (ℕ × ℕ)) (s : ℕ) : Type 0 where
    pub next : NextIs w path s (order w)
    pub slot : s < S.slots
    pub room : s < length w

  pub turn : (w : List ℕ) (path front : List (ℕ × ℕ)) (reads : List ℕ) (s : ℕ) → IsFront S order w path → front ≡ path → reads ≡ order w → length front < length reads → s ≡ get_or reads (length front) 0 → Turn w path s
  turn w path front reads s f e e' h e'' =
      let h' : length path < length (order w) = subst (λ (l : List ℕ). length path < length l) e' (subst (λ (l : List (ℕ × ℕ)). length l < length reads) e h) in
      let at : s ≡ get_or (order w) (length path) 0 = e'' ∙ (ap (λ (l : List (ℕ × ℕ)). get_or reads (length l) 0) e ∙ ap (λ (l : List ℕ). get_or l (length path) 0) e') in
      let n : NextIs w path s (order w) = subst (λ (x : ℕ). NextIs w path x (order w)) (sym at) (front_next w path 0 f h') in
      let below : s < S.slots = next_below S w path s (order w) (reading.below w f.of.vector) n in
      record { next = n; slot = below; room = (let q = f.of.vector.long in omega arith) }

  pub front_in : (w : List ℕ) (path : List (ℕ × ℕ)) → IsFront S order w path → PathIn S path
  front_in w path f = path_in S order mark is reading w f.of.vector path (below_front S order mark is reading (slots_of path) f.leads.0 (subst (AllBelow S.slots) f.leads.1 (reading.below w f.of.vector))) f.of.on

  apart : (w : List ℕ) (path : List (ℕ × ℕ)) (s : ℕ) → IsVector S w → NextIs w path s (order w) → Lacks (slots_of path) s
  apart w path s iw n = let r = next_rest w path s (order w) n in lacks_of (slots_of path) s r.0 (subst Differ r.1 (reading.once w iw))

  slots_more : (xs : List (ℕ × ℕ)) (s j : ℕ) (ys : List ℕ) → slots_of xs ++ s ∷ ys ≡ slots_of (xs ++ (s, j) ∷ []) ++ ys
  slots_more [] s j ys = refl
  slots_more (x ∷ xs) s j ys = ap (λ (l : List ℕ). x.0 ∷ l) (slots_more xs s j ys)

  pub extend : (w : List ℕ) (path : List (ℕ × ℕ)) (s j : ℕ) → IsFront S order w path → NextIs w path s (order w) → j < S.size s → IsAllowed S path s j → IsFront S order (set w s j) (path ++ (s, j) ∷ [])
  extend w path s j f n lt a =
      record {
        of = of;
        allowed = allowed_more S [] path (s, j) f.allowed a;
        leads = (r.0, r.1 ∙ slots_more path s j r.0);
      }
    where
      h : s < S.slots
      h = next_below S w path s (order w) (reading.below w f.of.vector) n

      l : Lacks (slots_of path) s
      l = apart w path s f.of.vector n

      le : s < length w
      le = let q = f.of.vector.long in let q' = h in omega arith

      on : OnPath (set w s j) path
      on = on_set S order mark is reading w path s j f.of.on l

      of : IsOf S (path ++ (s, j) ∷ []) (set w s j)
      of = record {
        vector = set_vector S order mark is reading w s j f.of.vector h lt;
        on = on_more (set w s j) path (s, j) on (get_or-set_same w s j 0 le);
        off = λ x hx lx. let b = lacks_less S order mark is reading path s j x lx in get_or-set_other w s x j 0 (λ e. b.1 (sym e)) ∙ f.of.off x hx b.0;
      }

      r : (rest : List ℕ) × (order (set w s j) ≡ slots_of path ++ s ∷ rest)
      r = next_rest (set w s j) path s (order (set w s j)) (next_too S order mark is reading w (set w s j) f.of.vector of.vector path s n on)

  front_path : (w : List ℕ) (path : List (ℕ × ℕ)) (f : IsFront S order w path) → path_of w (order w) ≡ path ++ path_of w f.leads.0
  front_path w path f = ap (path_of w) f.leads.1 ∙ path_on S order mark is reading w path f.leads.0 f.of.on

  -- no choice is left at the cut
  pub seek_none : (c w : List ℕ) (path : List (ℕ × ℕ)) (s i : ℕ) (tail : List ℕ) → IsFront S order w path → NextIs w path s (order w) → c ≡ indices_of path ++ i ∷ tail → IsNextChoice S path s i None → IsStuck S order c w path
  seek_none c w path s i tail f n e none = record {
    of = f.of;
    allowed = f.allowed;
    leads = (w, f.of.vector, path_of w f.leads.0, front_path w path f);
    cut = (i ∷ tail, e);
    beyond = beyond_stuck S order mark is reading w f.of.vector c path s i tail e n none;
  }

  -- the order ends before the cut does, or with it
  pub seek_end : (c w : List ℕ) (path : List (ℕ × ℕ)) (tail : List ℕ) → IsFront S order w path → length (order w) ≤ length path → c ≡ indices_of path ++ tail → IsStuck S order c w path
  seek_end c w path tail f h e = record {
    of = f.of;
    allowed = f.allowed;
    leads = (w, f.of.vector, [], whole ∙ sym (append_nil path));
    cut = (tail, e);
    beyond = subst (IsBeyond S order c) whole (beyond_end S order mark is reading w f.of.vector c tail (e ∙ ap (λ (l : List ℕ). l ++ tail) (sym key)));
  }
    where
      none : (xs : List (ℕ × ℕ)) (ys : List ℕ) → length (slots_of xs ++ ys) ≤ length xs → ys ≡ []
      none [] [] q = refl
      none [] (y ∷ ys) q = absurd (omega arith)
      none (x ∷ xs) ys q = none xs ys (omega arith)

      append_nil : (xs : List (ℕ × ℕ)) → xs ++ [] ≡ xs
      append_nil [] = refl
      append_nil (x ∷ xs) = ap (λ (l : List (ℕ × ℕ)). x ∷ l) (append_nil xs)

      append_no : (xs : List ℕ) → xs ++ [] ≡ xs
      append_no [] = refl
      append_no (x ∷ xs) = ap (λ (l : List ℕ). x ∷ l) (append_no xs)

      empty : f.leads.0 ≡ []
      empty = none path f.leads.0 (subst (λ (l : List ℕ). length l ≤ length path) f.leads.1 h)

      whole : path_of w (order w) ≡ path
      whole = front_path w path f ∙ (ap (λ (l : List ℕ). path ++ path_of w l) empty ∙ append_nil path)

      key : key_along w (order w) ≡ indices_of path
      key = ap (key_along w) f.leads.1 ∙ (key_on w path f.leads.0 f.of.on ∙ (ap (λ (l : List ℕ). indices_of path ++ key_along w l) empty ∙ append_no (indices_of path)))

  moved_of : (c w : List ℕ) (path : List (ℕ × ℕ)) → IsFront S order w path → IsFirst S order c w → IsMoved S order c w path
  moved_of c w path f first = record { of = f.of; allowed = f.allowed; first = first; leads = (path_of w f.leads.0, front_path w path f) }

  -- a choice past the cut
  pub seek_past : (c w : List ℕ) (path : List (ℕ × ℕ)) (s i j : ℕ) (tail : List ℕ) → IsFront S order w path → NextIs w path s (order w) → c ≡ indices_of path ++ i ∷ tail → IsNextChoice S path s i (Some j) → (j ≡ i → ⊥) → IsMoved S order c (set w s j) (path ++ (s, j) ∷ [])
  seek_past c w path s i j tail f n e choice ne =
      let g : IsFront S order (set w s j) (path ++ (s, j) ∷ []) = extend w path s j f n choice.1 choice.2 in
      let lt : i < j = (let q = choice.0 in grind arith) in
      moved_of c (set w s j) (path ++ (s, j) ∷ []) g
      (next_first S order mark is reading w f.of.vector c path s i j tail e n f.of.on f.allowed
      (beyond_skip S order mark is reading w f.of.vector c path s i n (λ a. choice.3 i (omega arith) lt a))
      (lt_to_le i j lt, choice.1, choice.2, λ k h h'. choice.3 k (omega arith) h') (set w s j) g.of)
    where
      lt_to_le : (a b : ℕ) → a < b → a + 1 ≤ b
      lt_to_le a b q = omega arith

  -- the order goes on where the cut ends
  pub seek_whole : (c w : List ℕ) (path : List (ℕ × ℕ)) → IsFront S order w path → length path < length (order w) → c ≡ indices_of path → IsMoved S order c w path
  seek_whole c w path f h e = moved_of c w path f (subst (λ (x : List ℕ). IsFirst S order x w) (sym e) (front_first S order mark is reading path (get_or (order w) (length path) 0) w f.of f.allowed (front_next w path 0 f h)))

  -- where a search begins
  pub start : (w : List ℕ) → w ≡ replicate S.slots 0 → IsFront S order w []
  start w e = record {
    of = record {
      vector = record {
        long = ap length e ∙ length-replicate S.slots 0;
        within = λ s h. subst (λ (x : ℕ). x < S.size s) (sym (zero_at s)) (is.filled s h);
      };
      on = tt;
      off = λ s h l. zero_at s;
    };
    allowed = tt;
    leads = (order w, refl);
  }
    where
      zeros : (n s : ℕ) → get_or {A = ℕ} (replicate n 0) s 0 ≡ 0
      zeros zero s = refl
      zeros (suc n) zero = refl
      zeros (suc n) (suc s) = zeros n s

      zero_at : (s : ℕ) → get_or w s 0 ≡ 0
      zero_at s = ap (λ (l : List ℕ). get_or l s 0) e ∙ zeros S.slots s
