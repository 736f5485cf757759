-- Pieces in another order.
use Rattle.std.proofs.Common.{◌≡◌, List, [], ◌∷◌, true, refl, sym}
use Rattle.std.specs.Prelude.{map, All, IsPermutation}
use Rattle.std.specs.List.{AllByRecursion}
use Rattle.std.proofs.lemmas.List.Elements.{All-from_recursion, recursion_from_All}
use Rattle.std.proofs.lemmas.List.Sorted.{All-permutation, IsPermutation-map}
use Rattle.kr_base.specs.declared.span.Span.{Span}
use Rattle.kr_base.specs.declared.entry.Entry.{Entry}
use Rattle.kr_survey.specs.declared.piece.Piece.{Piece}
use Rattle.kr_survey.specs.Spans.{is_ahead}
use Rattle.kr_survey.specs.Listings.{IsPieceOf}
use Rattle.kr_deque_hands.specs.Pieces.{spans_of, AllAhead, ArePiecesOf}

pub spans_permutation : {R : Type 0} (ps qs : List (Piece R)) → IsPermutation ps qs → IsPermutation (spans_of ps) (spans_of qs)
spans_permutation {R} ps qs h = IsPermutation-map (λ (p : Piece R). p.span) ps qs h

ahead_to : (ss : List Span) → AllAhead ss → AllByRecursion (λ s. is_ahead s ≡ true) ss
ahead_to [] h = tt
ahead_to (s ∷ ss) h = (h.0, ahead_to ss h.1)

ahead_from : (ss : List Span) → AllByRecursion (λ s. is_ahead s ≡ true) ss → AllAhead ss
ahead_from [] h = tt
ahead_from (s ∷ ss) h = (h.0, ahead_from ss h.1)

pub ahead_moved : (ss ts : List Span) → IsPermutation ss ts → AllAhead ss → AllAhead ts
ahead_moved ss ts h k =
    let P : Span → Type 0 = λ s. is_ahead s ≡ true in
    ahead_from ts (recursion_from_All P ts (All-permutation P ss ts h (All-from_recursion P ss (ahead_to ss k))))

pub ahead_permutation : {R : Type 0} (ps qs : List (Piece R)) → IsPermutation ps qs → AllAhead (spans_of ps) → AllAhead (spans_of qs)
ahead_permutation ps qs h k = ahead_moved (spans_of ps) (spans_of qs) (spans_permutation ps qs h) k

pieces_to : {R : Type 0} (all : List (Entry R)) (ps : List (Piece R)) → ArePiecesOf all ps → AllByRecursion (λ p. IsPieceOf all p) ps
pieces_to all [] h = tt
pieces_to all (p ∷ ps) h = (h.0, pieces_to all ps h.1)

pieces_from : {R : Type 0} (all : List (Entry R)) (ps : List (Piece R)) → AllByRecursion (λ p. IsPieceOf all p) ps → ArePiecesOf all ps
pieces_from all [] h = tt
pieces_from all (p ∷ ps) h = (h.0, pieces_from all ps h.1)

pub pieces_permutation : {R : Type 0} (all : List (Entry R)) (ps qs : List (Piece R)) → IsPermutation ps qs → ArePiecesOf all ps → ArePiecesOf all qs
pieces_permutation {R} all ps qs h k =
    let P : Piece R → Type 0 = λ p. IsPieceOf all p in
    pieces_from all qs (recursion_from_All P qs (All-permutation P ps qs h (All-from_recursion P ps (pieces_to all ps k))))
