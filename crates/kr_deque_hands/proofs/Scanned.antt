-- The piece that a scan gives.
use Rattle.std.proofs.Common.{◌≡◌, ◌≤◌, ℕ, zero, suc, List, [], ◌∷◌, Bool, true, false, Option, Some, None, length, take, refl, sym, ap, ◌∙◌, subst, arith}
use Rattle.std.specs.Prelude.{◌||◌, ◌==◌, if◌then◌else◌, Result, Ok, Err, IfOk}
use Rattle.std.proofs.lemmas.List.{take_all}
use Rattle.kr_base.specs.declared.span.Bound.{Bound}
use Rattle.kr_base.specs.declared.span.Bound.TheVariants.{At, End}
use Rattle.kr_base.specs.declared.span.Span.{Span}
use Rattle.kr_base.specs.declared.entry.Entry.{Entry}
use Rattle.kr_base.specs.Bounds.{less}
use Rattle.kr_base.specs.Entries.{Ascends, is_spent, within, through_spent, entries_in}
use Rattle.kr_base.proofs.Bounds.{connected}
use Rattle.kr_survey.specs.declared.part.Part.{Part}
use Rattle.kr_survey.specs.Scans.{rows_of, any_spent, last_key, walked, IsScan, GoesOn, ScanLaw}
use Rattle.kr_survey.specs.declared.piece.Piece.{Piece}
use Rattle.kr_survey.specs.Spans.{is_ahead}
use Rattle.kr_survey.specs.Listings.{spent_in, listed_in, IsPieceOf}
use Rattle.kr_deque_hands.specs.Turns.{Splits, Ends, IsPart}

take_whole : {R : Type 0} (m : ℕ) (es : List (Entry R)) → any_spent (take m (through_spent es)) ≡ true → take m (through_spent es) ≡ through_spent es
take_whole zero es h = absurd (cc (h))
take_whole (suc m) [] h = refl
take_whole {R} (suc m) (e ∷ es) h = go (λ n. take_whole m es n) (is_spent e.mark) refl h
  where
    go : (any_spent (take m (through_spent es)) ≡ true → take m (through_spent es) ≡ through_spent es) → (b : Bool) → is_spent e.mark ≡ b
        → any_spent (e ∷ take m (if b then [] else through_spent es)) ≡ true → e ∷ take m (if b then [] else through_spent es) ≡ e ∷ (if b then [] else through_spent es)
    go on true q n = ap (λ (l : List (Entry R)). e ∷ l) (take_all m [] (omega arith))
    go on false q n = ap (λ (l : List (Entry R)). e ∷ l) (on (sym (ap (λ (t : Bool). t || any_spent (take m (through_spent es))) q) ∙ n))

-- the last entry of a list that ends with a spent one
record EndsSpent {R : Type 0} (b : Bound) (es : List (Entry R)) : Type 0 where
  pub key : List ℕ
  pub spent : spent_in es ≡ Some key
  pub last : last_key b es ≡ At key

last_spent : {R : Type 0} (b : Bound) (es : List (Entry R)) → any_spent (through_spent es) ≡ true → EndsSpent b (through_spent es)
last_spent b [] h = absurd (cc (h))
last_spent {R} b (e ∷ es) h = go (λ n. last_spent (At e.key) es n) (is_spent e.mark) refl h
  where
    go : (any_spent (through_spent es) ≡ true → EndsSpent (At e.key) (through_spent es)) → (t : Bool) → is_spent e.mark ≡ t → any_spent (e ∷ (if t then [] else through_spent es)) ≡ true
        → EndsSpent b (e ∷ (if t then [] else through_spent es))
    go on true q n = record { key = e.key; spent = ap (λ (t : Bool). if t then Some e.key else None) q; last = refl }
    go on false q n =
        let r = on (sym (ap (λ (t : Bool). t || any_spent (through_spent es)) q) ∙ n) in
        record { key = r.key; spent = ap (λ (t : Bool). if t then Some e.key else spent_in (through_spent es)) q ∙ r.spent; last = r.last }

none_through : {R : Type 0} (es : List (Entry R)) → any_spent es ≡ false → through_spent es ≡ es
none_through [] h = refl
none_through {R} (e ∷ es) h = go (λ n. none_through es n) (is_spent e.mark) h
  where
    go : (any_spent es ≡ false → through_spent es ≡ es) → (b : Bool) → (b || any_spent es) ≡ false → e ∷ (if b then [] else through_spent es) ≡ e ∷ es
    go on true n = absurd (cc (n))
    go on false n = ap (λ (l : List (Entry R)). e ∷ l) (on n)

no_key : {R : Type 0} (es : List (Entry R)) → any_spent es ≡ false → spent_in es ≡ None
no_key [] h = refl
no_key {R} (e ∷ es) h = go (λ n. no_key es n) (is_spent e.mark) h
  where
    go : (any_spent es ≡ false → spent_in es ≡ None) → (b : Bool) → (b || any_spent es) ≡ false → (if b then Some e.key else spent_in es) ≡ None
    go on true n = absurd (cc (n))
    go on false n = on n

cut_in : Bound → Option (List ℕ)
cut_in (At c) = Some c
cut_in End = None

-- what a piece is, of the entries that it has
piece_from : {R : Type 0} (all : List (Entry R)) (piece : Piece R) (part : Part R) (w : List (Entry R)) → listed_in all piece.span ≡ w → piece.rows ≡ part.rows → piece.tried ≡ part.tried → part.rows ≡ rows_of w → part.tried ≡ length w
    → piece.spent ≡ spent_in w → IsPieceOf all piece
piece_from {R} all piece part w e r t rows tried spent = record {
  rows = r ∙ (rows ∙ ap (λ (l : List (Entry R)). rows_of l) (sym e));
  tried = t ∙ (tried ∙ ap (λ (l : List (Entry R)). length l) (sym e));
  spent = spent ∙ ap (λ (l : List (Entry R)). spent_in l) (sym e);
}

module _ {R : Type 0} (all : List (Entry R)) (whole : Span) (part : Part R) (asc : Ascends all) (ahead : is_ahead whole ≡ true) (law : ScanLaw R)
    (s : IsScan all whole.after whole.upto 256 part) where
  w : List (Entry R)
  w = walked all whole.after whole.upto 256

  goes : GoesOn all whole.after whole.upto 256
  goes = law all whole.after whole.upto 256 asc ahead (omega arith)

  -- a spent entry is the last one, and its key where the scan came
  spent_one : part.spent ≡ true → EndsSpent whole.upto w × (w ≡ listed_in all whole)
  unfolding w
  spent_one h =
      let any : any_spent w ≡ true = sym s.spent ∙ h in
      let same : w ≡ listed_in all whole = take_whole 256 (within (At whole.after) whole.upto all) any in
      let last = last_spent whole.upto (within (At whole.after) whole.upto all) (ap (λ (l : List (Entry R)). any_spent l) (sym same) ∙ any) in
      (subst (λ (l : List (Entry R)). EndsSpent whole.upto l) (sym same) last, same)

  reach_spent : (h : part.spent ≡ true) → part.reach ≡ At (spent_one h).0.key
  unfolding w
  reach_spent h =
      let any : any_spent w ≡ true = sym s.spent ∙ h in
      s.reach ∙ (ap (λ (t : Bool). if t || (length w == 256) then last_key whole.upto w else whole.upto) any ∙ (spent_one h).0.last)

  -- else the entries walked are those up to where the scan came
  clean : part.spent ≡ false → entries_in (At whole.after) part.reach all ≡ w
  unfolding w
  clean h =
      let any : any_spent w ≡ false = sym s.spent ∙ h in
      let is : within (At whole.after) part.reach all ≡ w = ap (λ (b : Bound). within (At whole.after) b all) s.reach ∙ sym goes.entries in
      ap (λ (l : List (Entry R)). through_spent l) is ∙ none_through w any

  scanned_by : (piece : Piece R) (rest : Option Span) → piece.rows ≡ part.rows → piece.tried ≡ part.tried → (b : Bool) → part.spent ≡ b → Ends b whole part.reach piece.spent piece.span rest
      → IsPieceOf all piece × Splits whole piece.span rest
  unfolding w cut_in
  scanned_by piece rest r t true h e =
      let o = spent_one h in
      let there : Some e.0.0 ≡ Some o.0.key = ap cut_in (sym e.0.1 ∙ reach_spent h) in
      let same : listed_in all piece.span ≡ w = ap (λ (x : Span). listed_in all x) e.1 ∙ sym o.1 in
      (piece_from all piece part w same r t s.rows s.tried (e.0.2 ∙ (there ∙ sym o.0.spent)), subst (λ (x : Option Span). Splits whole piece.span x) (sym e.2) e.1)
  scanned_by piece None r t false h e =
      let end : part.reach ≡ whole.upto = connected part.reach whole.upto e.1.1 (ap (λ (b : Bound). less whole.upto b) s.reach ∙ goes.below) in
      let same : listed_in all piece.span ≡ w = ap (λ (x : Span). listed_in all x) e.1.0 ∙ (ap (λ (b : Bound). entries_in (At whole.after) b all) (sym end) ∙ clean h) in
      (piece_from all piece part w same r t s.rows s.tried (e.0 ∙ sym (no_key w (sym s.spent ∙ h))), e.1.0)
  scanned_by piece (Some x) r t false h e =
      let p = e.1 in
      let same : listed_in all piece.span ≡ w = ap (λ (y : List ℕ). entries_in (At y) piece.span.upto all) p.0 ∙ (ap (λ (b : Bound). entries_in (At whole.after) b all) p.1 ∙ clean h) in
      let up : less (At piece.span.after) piece.span.upto ≡ true = ap (λ (y : List ℕ). less (At y) piece.span.upto) p.0 ∙ (ap (λ (b : Bound). less (At whole.after) b) (p.1 ∙ s.reach) ∙ goes.above) in
      let later : less (At x.after) x.upto ≡ true = ap (λ (b : Bound). less b x.upto) (sym p.2) ∙ (ap (λ (b : Bound). less part.reach b) p.3 ∙ p.4) in
      (piece_from all piece part w same r t s.rows s.tried (e.0 ∙ sym (no_key w (sym s.spent ∙ h))), (p.0, p.1 ∙ p.2, p.3, up, later))

  pub scanned : (piece : Piece R) (rest : Option Span) → IsPart whole part piece rest → IsPieceOf all piece × Splits whole piece.span rest
  scanned piece rest i = scanned_by piece rest i.rows i.tried part.spent refl i.ends

  -- a spent entry's key is where the scan came
  pub spent_reach : part.spent ≡ true → (key : List ℕ) × (part.reach ≡ At key)
  spent_reach h = ((spent_one h).0.key, reach_spent h)

few_taken : {A : Type 0} (n : ℕ) (xs : List A) → length (take n xs) ≤ n
few_taken zero xs = omega arith
few_taken (suc n) [] = omega arith
few_taken (suc n) (x ∷ xs) = let a = few_taken n xs in omega (arith, a)

-- a piece has as many entries as the scan, 256 at most
pub few_scanned : {R : Type 0} (all : List (Entry R)) (span whole : Span) (part : Part R) → IsScan all span.after span.upto 256 part → {E : Type 0} (r : Result (Piece R × Option Span) E)
    → IfOk r (λ x. IsPart whole part x.0 x.1) → IfOk r (λ x. x.0.tried ≤ 256)
few_scanned all span whole part s (Ok x) i = let a = few_taken 256 (entries_in (At span.after) span.upto all) in omega (arith, i.tried, s.tried, a)
few_scanned all span whole part s (Err e) i = tt

-- the same of a copy of the span, and of what comes of it
module _ {R : Type 0} (all : List (Entry R)) (span whole : Span) (part : Part R) (asc : Ascends all) (ahead : is_ahead span ≡ true) (law : ScanLaw R) (s : IsScan all span.after span.upto 256 part)
    (copied : whole ≡ span) where
  both : (piece : Piece R) (rest : Option Span) → IsPart whole part piece rest → IsPieceOf all piece × Splits span piece.span rest
  both piece rest i = scanned all span part asc ahead law s piece rest (subst (λ (x : Span). IsPart x part piece rest) copied i)

  pub piece_scanned : {E : Type 0} (r : Result (Piece R × Option Span) E) → IfOk r (λ x. IsPart whole part x.0 x.1) → IfOk r (λ x. IsPieceOf all x.0)
  piece_scanned (Ok x) i = (both x.0 x.1 i).0
  piece_scanned (Err e) i = tt

  pub parts_scanned : {E : Type 0} (r : Result (Piece R × Option Span) E) → IfOk r (λ x. IsPart whole part x.0 x.1) → IfOk r (λ x. Splits span x.0.span x.1)
  parts_scanned (Ok x) i = (both x.0 x.1 i).1
  parts_scanned (Err e) i = tt
