-- What a hand takes it hands in.
use Rattle.std.proofs.Common.{◌≡◌, ℕ, ◌+◌, ◌<◌, ◌≤◌, List, [], ◌∷◌, ◌++◌, append_assoc, true, false, Option, Some, None, length, refl, sym, ap, ◌∙◌, subst, arith}
use Rattle.std.specs.Prelude.{is_some, slice_get}
use Rattle.std.proofs.lemmas.List.{map-append, append-nil}
use Rattle.crossbeam_deque.specs.Handles.{IsPassOf, SamePass, worker_deque, stealer_deque, worker_view}
use Rattle.kr_base.specs.declared.span.Bound.{Bound}
use Rattle.kr_base.specs.declared.span.Bound.TheVariants.{At}
use Rattle.kr_base.specs.declared.span.Span.{Span}
use Rattle.kr_base.specs.declared.entry.Entry.{Entry}
use Rattle.kr_base.specs.Bounds.{less}
use Rattle.kr_base.specs.Entries.{is_within}
use Rattle.kr_survey.specs.declared.piece.Piece.{Piece}
use Rattle.kr_survey.specs.Spans.{one, is_ahead, has_key, covering}
use Rattle.kr_survey.specs.Listings.{IsPieceOf}
use Rattle.kr_deque_hands.specs.Pieces.{spans_of, AllAhead, ArePiecesOf}
use Rattle.kr_deque_hands.proofs.Covers.{counted_append}
use Rattle.kr_deque_hands.proofs.Covers.{two_parts}
use Rattle.kr_deque_hands.specs.declared.rule.Log.{Log}
use Rattle.kr_deque_hands.specs.declared.hand.Hand.{Hand}
use Rattle.kr_deque_hands.specs.Building.{Owner}
use Rattle.kr_deque_hands.specs.Turns.{Splits, Halves, listed}
use Rattle.kr_deque_hands.specs.Hands.{Theft, Front, own, stolen, stolen_in, following, handed_at, Stays, AllFew, Adds, IsSound, Works, IsRestSame}
use Rattle.kr_deque_hands.specs.Logs.{popped_more, pushed_more, spans_among, IsPopped}
use Rattle.kr_deque_hands.specs.declared.task.Task.{Task}
use Rattle.kr_deque_hands.specs.declared.task.Task.TheVariants.{Whole, Mark}
use Rattle.kr_deque_hands.specs.declared.rule.View.{View}
use Rattle.kr_base.proofs.Bounds.{asymmetric}

pub ahead_append : (xs ys : List Span) → AllAhead xs → AllAhead ys → AllAhead (xs ++ ys)
ahead_append [] ys h k = k
ahead_append (x ∷ xs) ys h k = (h.0, ahead_append xs ys h.1 k)

pub covering_append : (key : List ℕ) (xs ys : List Span) → covering key (xs ++ ys) ≡ covering key xs + covering key ys
covering_append key xs ys = counted_append (has_key key) xs ys

-- a span has a key as often as its parts
pub split_key : (key : List ℕ) (whole first : Span) (rest : Option Span) → is_ahead whole ≡ true → Splits whole first rest → covering key (first ∷ listed rest) ≡ covering key (whole ∷ [])
split_key key whole first None a s = ap (λ (x : Span). covering key (x ∷ [])) s
split_key key whole first (Some rest) a s =
    let low : less (At rest.after) (At whole.after) ≡ false =
    asymmetric (At whole.after) (At rest.after) (ap (λ (x : List ℕ). less (At x) (At rest.after)) (sym s.0) ∙ (ap (λ (x : Bound). less (At first.after) x) (sym s.1) ∙ s.3)) in
    let up : less whole.upto (At rest.after) ≡ false = asymmetric (At rest.after) whole.upto (ap (λ (x : Bound). less (At rest.after) x) (sym s.2) ∙ s.4) in
    let a : one (has_key key first) ≡ one (is_within (At whole.after) (At rest.after) key) = ap (λ (x : List ℕ). one (is_within (At x) first.upto key)) s.0 ∙ ap (λ (x : Bound). one (is_within (At whole.after) x key)) s.1 in
    let b : one (has_key key rest) ≡ one (is_within (At rest.after) whole.upto key) = ap (λ (x : Bound). one (is_within (At rest.after) x key)) s.2 in
    omega (arith, a, b, two_parts (At whole.after) (At rest.after) whole.upto key low up)

first_ahead : (whole first : Span) (rest : Option Span) → is_ahead whole ≡ true → Splits whole first rest → is_ahead first ≡ true
first_ahead whole first None a s = subst (λ (x : Span). is_ahead x ≡ true) (sym s) a
first_ahead whole first (Some rest) a s = s.3

pub halves_split : (whole : Span) (two : Option (Span × Span)) (first second : Span) → two ≡ Some (first, second) → Halves whole two → Splits whole first (Some second)
halves_split whole two first second e h = subst (λ (t : Option (Span × Span)). Halves whole t) e h

held : Theft → Option Theft → Theft
held d None = d
held d (Some p) = p

passed : (f : Front) (p q : Theft) → SamePass p q → IsPassOf (stealer_deque f) p → IsPassOf (stealer_deque f) q
passed f p q s h = (s.0 ∙ h.0, s.1 ∙ h.1, s.3, s.4)

module _ {R : Type 0} where
  pub stays_same : (old new : Hand R) → new.number ≡ old.number → worker_deque new.deque ≡ worker_deque old.deque → new.next ≡ old.next → Stays old new
  stays_same old new n d x work h =
      let k = length work.fronts.items in
      record {
        below = subst (λ (i : ℕ). i < k) (sym n) h.below;
        owns = λ s at. h.owns s (subst (λ (i : ℕ). slice_get work.fronts.items i ≡ Some s) n at) ∙ sym d;
        steals = λ s p at e. h.steals s p (subst (λ (i : ℕ). slice_get work.fronts.items (following k i) ≡ Some s) n at) (sym x ∙ e);
        two = ap (λ (o : Option Theft). is_some o) x ∙ h.two;
      }

  pub stays_passed : (old new : Hand R) (p q : Theft) → new.number ≡ old.number → worker_deque new.deque ≡ worker_deque old.deque → old.next ≡ Some p → new.next ≡ Some q → SamePass p q → Stays old new
  unfolding held
  stays_passed old new p q n d x y same work h =
      let k = length work.fronts.items in
      record {
        below = subst (λ (i : ℕ). i < k) (sym n) h.below;
        owns = λ s at. h.owns s (subst (λ (i : ℕ). slice_get work.fronts.items i ≡ Some s) n at) ∙ sym d;
        steals = λ s r at e.
            let is : q ≡ r = ap (held q) (sym y ∙ e) in
            subst (λ (t : Theft). IsPassOf (stealer_deque s) t) is (passed s p q same (h.steals s p (subst (λ (i : ℕ). slice_get work.fronts.items (following k i) ≡ Some s) n at) x));
        two = ap (λ (o : Option Theft). is_some o) y ∙ (ap (λ (o : Option Theft). is_some o) (sym x) ∙ h.two);
      }

  pub sound_same : (all : List (Entry R)) (old new : Hand R) → new.pieces.items ≡ old.pieces.items → new.left.items ≡ old.left.items → IsSound all old → IsSound all new
  sound_same all old new p l s = record {
    honest = subst (λ (ps : List (Piece R)). ArePiecesOf all ps) (sym p) s.honest;
    ahead = subst (λ (ps : List (Piece R)). AllAhead (spans_of ps)) (sym p) s.ahead;
    left_ahead = subst AllAhead (sym l) s.left_ahead;
  }

  adds_none : (all : List (Entry R)) (before after : List (Piece R)) → after ≡ before → Adds all before after
  adds_none all before after e = record { pieces = []; added = e ∙ sym (append-nil before); honest = tt; few = tt; ahead = tt }

  honest_more : (all : List (Entry R)) (ps qs : List (Piece R)) → ArePiecesOf all ps → ArePiecesOf all qs → ArePiecesOf all (ps ++ qs)
  honest_more all [] qs h k = k
  honest_more all (p ∷ ps) qs h k = (h.0, honest_more all ps qs h.1 k)

  few_more : (ps qs : List (Piece R)) → AllFew ps → AllFew qs → AllFew (ps ++ qs)
  few_more [] qs h k = k
  few_more (p ∷ ps) qs h k = (h.0, few_more ps qs h.1 k)

  adds_then : (all : List (Entry R)) (a b c : List (Piece R)) → Adds all a b → Adds all b c → Adds all a c
  adds_then all a b c p q = record {
    pieces = p.pieces ++ q.pieces;
    added = q.added ∙ (ap (λ (l : List (Piece R)). l ++ q.pieces) p.added ∙ append_assoc a p.pieces q.pieces);
    honest = honest_more all p.pieces q.pieces p.honest q.honest;
    few = few_more p.pieces q.pieces p.few q.few;
    ahead = subst AllAhead (sym (map-append (λ (x : Piece R). x.span) p.pieces q.pieces)) (ahead_append (spans_of p.pieces) (spans_of q.pieces) p.ahead q.ahead);
  }

  pub works_none : (all : List (Entry R)) (h : Hand R) (xs : List Span) → Works all h xs h xs
  works_none all h xs = record { stays = λ work k. k; same_number = refl; given = refl; adds = adds_none all h.pieces.items h.pieces.items refl; sound = λ s. s; carries = λ key. omega arith }

  pub works_then : (all : List (Entry R)) (a b c : Hand R) (xs ys zs : List Span) → Works all a xs b ys → Works all b ys c zs → Works all a xs c zs
  works_then all a b c xs ys zs p q = record {
    stays = λ work h. q.stays work (p.stays work h);
    same_number = q.same_number ∙ p.same_number;
    given = q.given ∙ p.given;
    adds = adds_then all a.pieces.items b.pieces.items c.pieces.items p.adds q.adds;
    sound = λ s. q.sound (p.sound s);
    carries = λ key. omega (arith, p.carries key, q.carries key);
  }

  handed_same : (key : List ℕ) (old new : Hand R) → IsRestSame old new → (own new).pushed ≡ (own old).pushed → handed_at key new ≡ handed_at key old
  handed_same key old new r e =
      let a = ap (λ (ps : List (Piece R)). covering key (spans_of ps)) r.pieces in
      let b = ap (λ (l : List Span). covering key l) r.left in
      let d = ap (λ (l : List Span). covering key l) e in
      omega (arith, a, b, d)

  -- nothing moved
  pub works_same : (all : List (Entry R)) (old new : Hand R) (xs : List Span) → Stays old new → IsRestSame old new → own new ≡ own old → stolen new ≡ stolen old → Works all old xs new xs
  works_same all old new xs s r e f = record {
    stays = s;
    same_number = r.number;
    given = r.given;
    adds = adds_none all old.pieces.items new.pieces.items r.pieces;
    sound = sound_same all old new r.pieces r.left;
    carries = λ key.
        let a = handed_same key old new r (ap (λ (v : Log). v.pushed) e) in
        let b = ap (λ (v : Log). covering key v.popped) e in
        let d = ap (λ (l : List Span). covering key l) f in
        omega (arith, a, b, d);
  }

  pub works_popped : (all : List (Entry R)) (old new : Hand R) (x : Span) → Stays old new → IsRestSame old new → own new ≡ popped_more (own old) x → stolen new ≡ stolen old → Works all old [] new (x ∷ [])
  works_popped all old new x s r e f = record {
    stays = s;
    same_number = r.number;
    given = r.given;
    adds = adds_none all old.pieces.items new.pieces.items r.pieces;
    sound = sound_same all old new r.pieces r.left;
    carries = λ key.
        let a = handed_same key old new r (ap (λ (v : Log). v.pushed) e) in
        let b = ap (λ (v : Log). covering key v.popped) e ∙ covering_append key (own old).popped (x ∷ []) in
        let d = ap (λ (l : List Span). covering key l) f in
        omega (arith, a, b, d);
  }

  pub works_stolen : (all : List (Entry R)) (old new : Hand R) (x : Span) → Stays old new → IsRestSame old new → own new ≡ own old → stolen new ≡ stolen old ++ x ∷ [] → Works all old [] new (x ∷ [])
  works_stolen all old new x s r e f = record {
    stays = s;
    same_number = r.number;
    given = r.given;
    adds = adds_none all old.pieces.items new.pieces.items r.pieces;
    sound = sound_same all old new r.pieces r.left;
    carries = λ key.
        let a = handed_same key old new r (ap (λ (v : Log). v.pushed) e) in
        let b = ap (λ (v : Log). covering key v.popped) e in
        let d = ap (λ (l : List Span). covering key l) f ∙ covering_append key (stolen old) (x ∷ []) in
        omega (arith, a, b, d);
  }

  pub works_pushed : (all : List (Entry R)) (old new : Hand R) (x : Span) → Stays old new → IsRestSame old new → own new ≡ pushed_more (own old) x → stolen new ≡ stolen old → Works all old (x ∷ []) new []
  works_pushed all old new x s r e f = record {
    stays = s;
    same_number = r.number;
    given = r.given;
    adds = adds_none all old.pieces.items new.pieces.items r.pieces;
    sound = sound_same all old new r.pieces r.left;
    carries = λ key.
        let a = ap (λ (ps : List (Piece R)). covering key (spans_of ps)) r.pieces in
        let b = ap (λ (l : List Span). covering key l) r.left in
        let d = ap (λ (v : Log). covering key v.pushed) e ∙ covering_append key (own old).pushed (x ∷ []) in
        let p = ap (λ (v : Log). covering key v.popped) e in
        let q = ap (λ (l : List Span). covering key l) f in
        omega (arith, a, b, d, p, q);
  }

  -- the span is among those left
  pub works_left : (all : List (Entry R)) (old new : Hand R) (x : Span) → is_ahead x ≡ true → new.number ≡ old.number → new.deque ≡ old.deque → new.next ≡ old.next → new.pieces.items ≡ old.pieces.items
      → new.left.items ≡ old.left.items ++ x ∷ [] → Works all old (x ∷ []) new []
  works_left all old new x ahead n d m p l =
      let e : own new ≡ own old = ap (λ (w : Owner). (worker_view w).log) d in
      let f : stolen new ≡ stolen old = ap (λ (o : Option Theft). stolen_in o (own new)) m ∙ ap (λ (v : Log). stolen_in old.next v) e in
      record {
        stays = stays_same old new n (ap (λ (w : Owner). worker_deque w) d) m;
        same_number = n;
        given = ap (λ (v : Log). v.given) e;
        adds = adds_none all old.pieces.items new.pieces.items p;
        sound = λ s. record {
          honest = subst (λ (ps : List (Piece R)). ArePiecesOf all ps) (sym p) s.honest;
          ahead = subst (λ (ps : List (Piece R)). AllAhead (spans_of ps)) (sym p) s.ahead;
          left_ahead = subst AllAhead (sym l) (ahead_append old.left.items (x ∷ []) s.left_ahead (ahead, tt));
        };
        carries = λ key.
            let a = ap (λ (ps : List (Piece R)). covering key (spans_of ps)) p in
            let b = ap (λ (ss : List Span). covering key ss) l ∙ covering_append key old.left.items (x ∷ []) in
            let g = ap (λ (v : Log). covering key v.pushed) e in
            let h = ap (λ (v : Log). covering key v.popped) e in
            let k = ap (λ (ss : List Span). covering key ss) f in
            omega (arith, a, b, g, h, k);
      }

  -- what is known of the hand is as it was
  pub works_alike : (all : List (Entry R)) (old new : Hand R) (xs : List Span) → new.number ≡ old.number → new.deque ≡ old.deque → new.next ≡ old.next → new.pieces.items ≡ old.pieces.items → new.left.items ≡ old.left.items
      → Works all old xs new xs
  works_alike all old new xs n d m p l =
      let e : own new ≡ own old = ap (λ (w : Owner). (worker_view w).log) d in
      let f : stolen new ≡ stolen old = ap (λ (o : Option Theft). stolen_in o (own new)) m ∙ ap (λ (v : Log). stolen_in old.next v) e in
      record {
        stays = stays_same old new n (ap (λ (w : Owner). worker_deque w) d) m;
        same_number = n;
        given = ap (λ (v : Log). v.given) e;
        adds = adds_none all old.pieces.items new.pieces.items p;
        sound = sound_same all old new p l;
        carries = λ key.
            let a = ap (λ (ps : List (Piece R)). covering key (spans_of ps)) p in
            let b = ap (λ (ss : List Span). covering key ss) l in
            let g = ap (λ (v : Log). covering key v.pushed) e in
            let h = ap (λ (v : Log). covering key v.popped) e in
            let k = ap (λ (ss : List Span). covering key ss) f in
            omega (arith, a, b, g, h, k);
      }

  -- a task is taken
  takes_task : (all : List (Entry R)) (old new : Hand R) (t : Task) → Stays old new → IsRestSame old new → stolen new ≡ stolen old → IsPopped (worker_view old.deque) (t ∷ []) (worker_view new.deque)
      → Works all old [] new (spans_among (t ∷ []))
  takes_task all old new (Whole x) s r f p = works_popped all old new x s r (ap (λ (v : View). v.log) p.0) f
  takes_task all old new (Mark k) s r f p = works_same all old new [] s r (ap (λ (v : View). v.log) p.0) f

  pub works_taken : (all : List (Entry R)) (old new : Hand R) (t u : Task) → t ≡ u → Stays old new → IsRestSame old new → stolen new ≡ stolen old → IsPopped (worker_view old.deque) (t ∷ []) (worker_view new.deque)
      → Works all old [] new (spans_among (u ∷ []))
  works_taken all old new t u e s r f p = subst (λ (x : Task). Works all old [] new (spans_among (x ∷ []))) e (takes_task all old new t s r f p)

  -- a mark is pushed, and then a task is taken, or none
  pub works_marked : (all : List (Entry R)) (first old mid : Hand R) → Works all first [] old [] → Stays old mid → IsRestSame old mid → own mid ≡ own old → stolen mid ≡ stolen old → Works all first [] mid []
  works_marked all first old mid w s r e f = works_then all first old mid [] [] [] w (works_same all old mid [] s r e f)

  honest_append : (all : List (Entry R)) (ps : List (Piece R)) (p : Piece R) → ArePiecesOf all ps → IsPieceOf all p → ArePiecesOf all (ps ++ p ∷ [])
  honest_append all [] p h k = (k, tt)
  honest_append all (q ∷ ps) p h k = (h.0, honest_append all ps p h.1 k)

  -- a piece is kept of a span, and the rest is in hand
  pub works_kept : (all : List (Entry R)) (old new : Hand R) (span : Span) (piece : Piece R) (rest : Option Span) → is_ahead span ≡ true → is_ahead piece.span ≡ true → Splits span piece.span rest → IsPieceOf all piece → piece.tried ≤ 256
      → new.number ≡ old.number → new.deque ≡ old.deque → new.next ≡ old.next → new.left.items ≡ old.left.items → new.pieces.items ≡ old.pieces.items ++ piece ∷ [] → Works all old (span ∷ []) new (listed rest)
  works_kept all old new span piece rest ahead own_ahead split honest few n d m l p =
      let e : own new ≡ own old = ap (λ (w : Owner). (worker_view w).log) d in
      let f : stolen new ≡ stolen old = ap (λ (o : Option Theft). stolen_in o (own new)) m ∙ ap (λ (v : Log). stolen_in old.next v) e in
      let spans : spans_of new.pieces.items ≡ spans_of old.pieces.items ++ piece.span ∷ [] = ap (λ (ps : List (Piece R)). spans_of ps) p ∙ map-append (λ (q : Piece R). q.span) old.pieces.items (piece ∷ []) in
      record {
        stays = stays_same old new n (ap (λ (w : Owner). worker_deque w) d) m;
        same_number = n;
        given = ap (λ (v : Log). v.given) e;
        adds = record { pieces = piece ∷ []; added = p; honest = (honest, tt); few = (few, tt); ahead = (own_ahead, tt) };
        sound = λ s. record {
          honest = subst (λ (ps : List (Piece R)). ArePiecesOf all ps) (sym p) (honest_append all old.pieces.items piece s.honest honest);
          ahead = subst AllAhead (sym spans) (ahead_append (spans_of old.pieces.items) (piece.span ∷ []) s.ahead (own_ahead, tt));
          left_ahead = subst AllAhead (sym l) s.left_ahead;
        };
        carries = λ key.
            let a = ap (λ (ss : List Span). covering key ss) spans ∙ covering_append key (spans_of old.pieces.items) (piece.span ∷ []) in
            let b = ap (λ (ss : List Span). covering key ss) l in
            let g = ap (λ (v : Log). covering key v.pushed) e in
            let h = ap (λ (v : Log). covering key v.popped) e in
            let k = ap (λ (ss : List Span). covering key ss) f in
            let x = split_key key span piece.span rest ahead split in
            omega (arith, a, b, g, h, k, x);
      }

  pub works_kept_none : (all : List (Entry R)) (old new : Hand R) (span : Span) (piece : Piece R) (rest : Option Span) → is_ahead span ≡ true → Splits span piece.span rest → IsPieceOf all piece → piece.tried ≤ 256
      → new.number ≡ old.number → new.deque ≡ old.deque → new.next ≡ old.next → new.left.items ≡ old.left.items → new.pieces.items ≡ old.pieces.items ++ piece ∷ [] → rest ≡ None → Works all old (span ∷ []) new []
  works_kept_none all old new span piece rest ahead split honest few n d m l p none =
      subst (λ (r : Option Span). Works all old (span ∷ []) new (listed r)) none (works_kept all old new span piece rest ahead (first_ahead span piece.span rest ahead split) split honest few n d m l p)

  pub works_kept_some : (all : List (Entry R)) (old new : Hand R) (span : Span) (piece : Piece R) (rest : Option Span) (later : Span) → is_ahead span ≡ true → Splits span piece.span rest → IsPieceOf all piece → piece.tried ≤ 256
      → new.number ≡ old.number → new.deque ≡ old.deque → new.next ≡ old.next → new.left.items ≡ old.left.items → new.pieces.items ≡ old.pieces.items ++ piece ∷ [] → rest ≡ Some later → Works all old (span ∷ []) new (later ∷ [])
  works_kept_some all old new span piece rest later ahead split honest few n d m l p some =
      subst (λ (r : Option Span). Works all old (span ∷ []) new (listed r)) some (works_kept all old new span piece rest ahead (first_ahead span piece.span rest ahead split) split honest few n d m l p)

  -- a span in two parts
  pub works_halved : (all : List (Entry R)) (h : Hand R) (whole first second : Span) → is_ahead whole ≡ true → Splits whole first (Some second) → Works all h (whole ∷ []) h (first ∷ second ∷ [])
  works_halved all h whole first second a s = record {
    stays = λ work k. k;
    same_number = refl;
    given = refl;
    adds = adds_none all h.pieces.items h.pieces.items refl;
    sound = λ k. k;
    carries = λ key. let x = split_key key whole first (Some second) a s in omega (arith, x);
  }

  -- one more span in hand, all along
  pub works_before : (all : List (Entry R)) (old new : Hand R) (x y : Span) → Works all old (y ∷ []) new [] → Works all old (x ∷ y ∷ []) new (x ∷ [])
  works_before all old new x y w = record {
    stays = w.stays;
    same_number = w.same_number;
    given = w.given;
    adds = w.adds;
    sound = w.sound;
    carries = λ key. let c = w.carries key in omega (arith, c);
  }

pub split_ahead : (whole first : Span) (rest : Option Span) → is_ahead whole ≡ true → Splits whole first rest → (is_ahead first ≡ true) × AllAhead (listed rest)
split_ahead whole first None a s = (subst (λ (x : Span). is_ahead x ≡ true) (sym s) a, tt)
split_ahead whole first (Some rest) a s = (s.3, (s.4, tt))
