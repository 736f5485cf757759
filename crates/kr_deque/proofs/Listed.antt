-- Spans that the caller scans itself.
use Rattle.std.proofs.Common.{◌≡◌, ℕ, ◌+◌, List, [], ◌∷◌, ◌++◌, Bool, true, Option, Some, None, refl, sym, ap, ◌∙◌, subst, arith}
use Rattle.std.proofs.lemmas.List.{map-append}
use Rattle.kr_base.specs.declared.span.Span.{Span}
use Rattle.kr_base.specs.declared.entry.Entry.{Entry}
use Rattle.kr_survey.specs.declared.piece.Piece.{Piece}
use Rattle.kr_survey.specs.Spans.{is_ahead, covering}
use Rattle.std.specs.Prelude.{◌||◌, false}
use Rattle.kr_deque.specs.declared.joining.JoinRefusal.TheVariants.{Gap, Double}
use Rattle.kr_deque.specs.Breaks.{is_gap, is_double, NoBreak, Refuses}
use Rattle.kr_survey.specs.Listings.{IsPieceOf}
use Rattle.kr_deque_hands.specs.Pieces.{spans_of, AllAhead, ArePiecesOf}
use Rattle.kr_deque_hands.specs.Turns.{Splits, listed}
use Rattle.kr_deque.specs.Found.{IsFound}
use Rattle.kr_deque_hands.proofs.Carrying.{ahead_append, covering_append, split_key, split_ahead}

-- pieces were added that are the survey's, and what was in hand is in them, or in hand
pub record GoesOn {R : Type 0} (all : List (Entry R)) (before : List (Piece R)) (held : List Span) (after : List (Piece R)) (holds : List Span) : Type 0 where
  pub ahead : AllAhead (spans_of before) → AllAhead (spans_of after)
  pub honest : ArePiecesOf all before → ArePiecesOf all after
  pub cover : (key : List ℕ) → covering key (spans_of after) + covering key holds ≡ covering key (spans_of before) + covering key held

honest_append : {R : Type 0} (all : List (Entry R)) (ps : List (Piece R)) (p : Piece R) → ArePiecesOf all ps → IsPieceOf all p → ArePiecesOf all (ps ++ p ∷ [])
honest_append all [] p h k = (k, tt)
honest_append all (q ∷ ps) p h k = (h.0, honest_append all ps p h.1 k)

module _ {R : Type 0} (all : List (Entry R)) where
  pub goes_none : (ps : List (Piece R)) (held : List Span) → GoesOn all ps held ps held
  goes_none ps held = record { ahead = λ a. a; honest = λ h. h; cover = λ key. refl }

  -- one piece more, of the span in hand
  pub goes_more : (before ps qs : List (Piece R)) (held : List Span) (span : Span) (piece : Piece R) (rest : Option Span) → GoesOn all before held ps (span ∷ []) → is_ahead span ≡ true → IsPieceOf all piece
      → Splits span piece.span rest → qs ≡ ps ++ piece ∷ [] → GoesOn all before held qs (listed rest)
  goes_more before ps qs held span piece rest g a i s e =
      let spans : spans_of qs ≡ spans_of ps ++ piece.span ∷ [] = ap (λ (l : List (Piece R)). spans_of l) e ∙ map-append (λ (q : Piece R). q.span) ps (piece ∷ []) in
      let own = split_ahead span piece.span rest a s in
      record {
        ahead = λ h. subst AllAhead (sym spans) (ahead_append (spans_of ps) (piece.span ∷ []) (g.ahead h) (own.0, tt));
        honest = λ h. subst (λ (l : List (Piece R)). ArePiecesOf all l) (sym e) (honest_append all ps piece (g.honest h) i);
        cover = λ key.
            let x = ap (λ (l : List Span). covering key l) spans ∙ covering_append key (spans_of ps) (piece.span ∷ []) in
            let y = split_key key span piece.span rest a s in
            let z = g.cover key in
            omega (arith, x, y, z);
      }

  pub found_all : (before after : List (Piece R)) (held : List Span) → GoesOn all before held after [] → IsFound all before held after
  found_all before after held g = record { ahead = g.ahead; honest = g.honest; cover = λ key. let z = g.cover key in omega (arith, z) }

  -- the last piece, and one that leaves a rest
  pub goes_last : (before ps qs : List (Piece R)) (held : List Span) (span : Span) (piece : Piece R) (rest : Option Span) → GoesOn all before held ps (span ∷ []) → is_ahead span ≡ true → IsPieceOf all piece
      → Splits span piece.span rest → qs ≡ ps ++ piece ∷ [] → rest ≡ None → IsFound all before held qs
  goes_last before ps qs held span piece rest g a i s e none =
      found_all before qs held (subst (λ (r : Option Span). GoesOn all before held qs (listed r)) none (goes_more before ps qs held span piece rest g a i s e))

  pub goes_further : (before ps qs : List (Piece R)) (held : List Span) (span : Span) (piece : Piece R) (rest : Option Span) (later : Span) → GoesOn all before held ps (span ∷ []) → is_ahead span ≡ true → IsPieceOf all piece
      → Splits span piece.span rest → qs ≡ ps ++ piece ∷ [] → rest ≡ Some later → GoesOn all before held qs (later ∷ [])
  goes_further before ps qs held span piece rest later g a i s e is = subst (λ (r : Option Span). GoesOn all before held qs (listed r)) is (goes_more before ps qs held span piece rest g a i s e)

  pub found_none : (ps : List (Piece R)) → IsFound all ps [] ps
  found_none ps = record { ahead = λ a. a; honest = λ h. h; cover = λ key. omega arith }

  -- one span more
  pub found_more : (a b c : List (Piece R)) (xs : List Span) (x : Span) → IsFound all a xs b → IsFound all b (x ∷ []) c → IsFound all a (xs ++ x ∷ []) c
  found_more a b c xs x p q = record {
    ahead = λ h. q.ahead (p.ahead h);
    honest = λ h. q.honest (p.honest h);
    cover = λ key. let y = covering_append key xs (x ∷ []) in let u = p.cover key in let v = q.cover key in omega (arith, y, u, v);
  }

pub rest_ahead : (span first : Span) (rest : Option Span) (later : Span) → is_ahead span ≡ true → Splits span first rest → rest ≡ Some later → is_ahead later ≡ true
rest_ahead span first rest later a s is = (subst (λ (r : Option Span). AllAhead (listed r)) is (split_ahead span first rest a s).1).0

or_first : (a b : Bool) → (a || b) ≡ false → a ≡ false
or_first true b h = cc
or_first false b h = refl

or_second : (a b : Bool) → (a || b) ≡ false → b ≡ false
or_second true b h = absurd (cc (h))
or_second false b h = h

-- spans that make up the asked one have no first break
pub no_gap : (asked : Span) (spans : List Span) (c : List ℕ) → NoBreak asked spans → Refuses asked spans (Gap c) → ⊥
no_gap asked spans c n h = cc (sym h.0 ∙ or_first (is_gap asked spans c) (is_double asked spans c) (n c))

pub no_double : (asked : Span) (spans : List Span) (c : List ℕ) → NoBreak asked spans → Refuses asked spans (Double c) → ⊥
no_double asked spans c n h = cc (sym h.0 ∙ or_second (is_gap asked spans c) (is_double asked spans c) (n c))
