-- The value at an index of some pieces.
use Rattle.std.proofs.Common.{◌≡◌, ℕ, zero, suc, ◌+◌, ◌-◌, ◌<◌, ◌≤◌, List, [], ◌∷◌, ◌++◌, length, get_or, refl, sym, ap, ◌∙◌, arith, subst, append_assoc, append-nil}
use Rattle.std.specs.Prelude.{ℤ, pos, ◌+ℤ◌, All}
use Rattle.std.proofs.lemmas.Int.{ints}
use Rattle.std.proofs.lemmas.List.{get_or_append_left, get_or-append_right, length-append, length-map, get_or-map}
use Rattle.std.proofs.lemmas.List.Elements.{All-push}
use Rattle.std.proofs.lemmas.List.FromFn.{length-map-range_with_len, get_or-map-range_with_len}
use Rattle.kr_mean.specs.Problem.{Choice}
use Rattle.kr_mean.specs.Space.{no_choice}
use Rattle.kr_space_layout.specs.declared.stretch.Block.{Block}
use Rattle.kr_space_layout.specs.declared.stretch.Stretch.{Stretch}
use Rattle.kr_space_layout.specs.declared.stretch.Stretch.TheVariants.{Plain, Integers, Objects}
use Rattle.kr_space_layout.specs.declared.values.Piece.{Piece}
use Rattle.kr_space_layout.specs.Items.{integers_from, width_between}
use Rattle.kr_space_layout.specs.Stretches.{integer_choice, object_choice, choices_of, count_of, all_choices, stretches_of, AreCounted, no_piece, ArePieces, IsLast, Fits}

pub integers_long : (from : ℤ) (n : ℕ) → length (integers_from from n) ≡ n
integers_long from zero = refl
integers_long from (suc n) = ap suc (integers_long (from +ℤ pos 1) n)

pub integer_get : (from : ℤ) (n i : ℕ) (d : ℤ) → i < n → get_or (integers_from from n) i d ≡ from +ℤ pos i
integer_get from zero i d h = absurd (omega arith)
integer_get from (suc n) zero d h = omega (arith, ints)
integer_get from (suc n) (suc i) d h = integer_get (from +ℤ pos 1) n i d (omega arith) ∙ omega (arith, ints)

-- a stretch has as many values as it counts
pub choices_long : (s : Stretch) → length (choices_of s) ≡ count_of s
choices_long (Plain v) = refl
choices_long (Integers from to) = length-map (integers_from from (width_between from to)) integer_choice ∙ integers_long from (width_between from to)
choices_long (Objects b) = length-map-range_with_len (object_choice b) 0 b.count

pub integer_at : (from to : ℤ) (i : ℕ) → i < width_between from to → get_or (choices_of (Integers from to)) i no_choice ≡ integer_choice (from +ℤ pos i)
integer_at from to i h =
    let n = width_between from to in
    get_or-map integer_choice (integers_from from n) i (pos 0) no_choice (omega (arith, integers_long from n)) ∙ ap integer_choice (integer_get from n i (pos 0) h)

-- ---- the pieces

abbrev pub stretch_at : List Piece → ℕ → Stretch
stretch_at ps k = (get_or ps k no_piece).stretch

abbrev pub start_at : List Piece → ℕ → ℕ
start_at ps k = (get_or ps k no_piece).start

pub all_long : (n : ℕ) (ps : List Piece) (total : ℕ) → AreCounted n ps total → n + length (all_choices (stretches_of ps)) ≡ total
all_long n [] total c = omega (arith, c)
all_long n (p ∷ ps) total c = omega (arith, all_long (n + count_of p.stretch) ps total c.1, choices_long p.stretch, length-append (choices_of p.stretch) (all_choices (stretches_of ps)))

-- where an index is within a piece
pub record InPiece (n : ℕ) (ps : List Piece) (index k : ℕ) : Type 0 where
  pub room : index < start_at ps k + count_of (stretch_at ps k)
  pub is : get_or (all_choices (stretches_of ps)) (index - n) no_choice ≡ get_or (choices_of (stretch_at ps k)) (index - start_at ps k) no_choice

pub in_piece : (n : ℕ) (ps : List Piece) (total index k : ℕ) → AreCounted n ps total → n ≤ index → index < total → k < length ps → start_at ps k ≤ index → (k + 1 < length ps → index < start_at ps (k + 1)) → InPiece n ps index k
in_piece n [] total index k c f l h s b = absurd (omega arith)
in_piece n (p ∷ []) total index zero c f l h s b =
    let e = c.0 in
    let t = c.1 in
    record {
      room = omega arith;
      is = get_or_append_left (choices_of p.stretch) [] no_choice (index - n) (omega (arith, choices_long p.stretch)) ∙ ap (λ (m : ℕ). get_or (choices_of p.stretch) (index - m) no_choice) (sym e);
    }
in_piece n (p ∷ q ∷ ps) total index zero c f l h s b =
    let e = c.0 in
    let t = c.1.0 in
    let lt = b (omega arith) in
    record {
      room = omega arith;
      is = get_or_append_left (choices_of p.stretch) (all_choices (stretches_of (q ∷ ps))) no_choice (index - n) (omega (arith, choices_long p.stretch)) ∙ ap (λ (m : ℕ). get_or (choices_of p.stretch) (index - m) no_choice) (sym e);
    }
in_piece n (p ∷ ps) total index (suc k) c f l h s b =
    let m = n + count_of p.stretch in
    let next : suc k + 1 ≡ suc (k + 1) = omega arith in
    let le : m ≤ start_at ps k = starts_late m ps total k c.1 (omega arith) in
    let r = in_piece m ps total index k c.1 (omega arith) l (omega arith) s (λ x. subst (λ (y : ℕ). index < start_at (p ∷ ps) y) next (b (omega arith))) in
    let e : index - n - count_of p.stretch ≡ index - m = omega arith in
    record {
      room = r.room;
      is = get_or-append_right (choices_of p.stretch) (all_choices (stretches_of ps)) (count_of p.stretch) (index - n) no_choice (choices_long p.stretch) (omega arith)
          ∙ (ap (λ (x : ℕ). get_or (all_choices (stretches_of ps)) x no_choice) e ∙ r.is);
    }
  where
    starts_late : (m : ℕ) (ps : List Piece) (total k : ℕ) → AreCounted m ps total → k < length ps → m ≤ start_at ps k
    starts_late m [] total k c h = absurd (omega arith)
    starts_late m (p ∷ ps) total zero c h = let e = c.0 in omega arith
    starts_late m (p ∷ ps) total (suc k) c h = let r = starts_late (m + count_of p.stretch) ps total k c.1 (omega arith) in omega arith

pub counted_push : (n : ℕ) (ps : List Piece) (total : ℕ) (p : Piece) → AreCounted n ps total → p.start ≡ total → AreCounted n (ps ++ p ∷ []) (total + count_of p.stretch)
counted_push n [] total p c e = (e ∙ sym c, ap (λ (x : ℕ). x + count_of p.stretch) c)
counted_push n (q ∷ ps) total p c e = (c.0, counted_push (n + count_of q.stretch) ps total p c.1 e)

pub at_index : (ps : List Piece) (size index k : ℕ) → ArePieces ps size → index < length (all_choices (stretches_of ps)) → IsLast ps index k → InPiece 0 ps index k
at_index ps size index k a h l = in_piece 0 ps size index k a.counted (omega arith) (omega (arith, all_long 0 ps size a.counted)) l.inside l.from l.before

pub object_at : (b : Block) (i : ℕ) → i < b.count → get_or (choices_of (Objects b)) i no_choice ≡ object_choice b i
object_at b i h = get_or-map-range_with_len (object_choice b) 0 b.count i i no_choice h (omega arith)

pub fit_push : (ps : List Piece) (p : Piece) → All (λ q. Fits q.stretch) ps → Fits p.stretch → All (λ q. Fits q.stretch) (ps ++ p ∷ [])
fit_push ps p a h = All-push (λ (q : Piece). Fits q.stretch) ps p a h

-- the pieces in which the value is looked for
pub there : (ps qs : List Piece) (now : List Stretch) (size index k : ℕ) → ps ≡ qs → stretches_of qs ≡ now → ArePieces qs size → index < length (all_choices now) → IsLast ps index k → InPiece 0 ps index k × (stretches_of ps ≡ now)
there ps qs now size index k e v a h l =
    let w : stretches_of ps ≡ now = ap stretches_of e ∙ v in
    let b : ArePieces ps size = subst (λ (x : List Piece). ArePieces x size) (sym e) a in
    (at_index ps size index k b (subst (λ (x : List Stretch). index < length (all_choices x)) (sym w) h) l, w)

pub whole : (index : ℕ) (ps : List Piece) (k : ℕ) → InPiece 0 ps index k → get_or (all_choices (stretches_of ps)) index no_choice ≡ get_or (choices_of (stretch_at ps k)) (index - start_at ps k) no_choice
whole index ps k r =
    let e : index ≡ index - 0 = omega arith in
    ap (λ (n : ℕ). get_or (all_choices (stretches_of ps)) n no_choice) e ∙ r.is

pub all_push : (ps : List Piece) (p : Piece) → all_choices (stretches_of (ps ++ p ∷ [])) ≡ all_choices (stretches_of ps) ++ choices_of p.stretch
all_push [] p = append-nil (choices_of p.stretch)
all_push (q ∷ ps) p = ap (λ (cs : List Choice). choices_of q.stretch ++ cs) (all_push ps p) ∙ sym (append_assoc (choices_of q.stretch) (all_choices (stretches_of ps)) (choices_of p.stretch))
