-- The listing of pieces that adjoin is the survey's.
use Rattle.std.proofs.Common.{◌≡◌, ℕ, ◌+◌, List, [], ◌∷◌, ◌++◌, Bool, true, false, ◌&&◌, not, Option, Some, None, length, refl, sym, ap, ◌∙◌, subst, arith, length-append}
use Rattle.std.specs.Prelude.{if◌then◌else◌, is_some}
use Rattle.std.proofs.lemmas.List.{append-nil}
use Rattle.std.proofs.lemmas.List.Concat.{flat_map-append}
use Rattle.kr_base.specs.Causes.{capped}
use Rattle.kr_base.specs.declared.span.Bound.{Bound}
use Rattle.kr_base.specs.declared.span.Bound.TheVariants.{At}
use Rattle.kr_base.specs.declared.entry.Entry.{Entry}
use Rattle.kr_base.specs.Bounds.{less}
use Rattle.kr_base.specs.Entries.{Ascends, is_spent, within, through_spent, entries_in, NoneSpent}
use Rattle.kr_base.proofs.Bounds.{asymmetric}
use Rattle.kr_base.proofs.Spans.{within_two, resumption}
use Rattle.kr_survey.specs.Scans.{row_of, rows_of}
use Rattle.kr_survey.specs.declared.piece.Piece.{Piece}
use Rattle.kr_survey.specs.Spans.{Adjoins}
use Rattle.kr_survey.specs.Listings.{spent_in, listed_in, through, rows_in, tried_in, key_in}
use Rattle.kr_deque_hands.specs.Pieces.{spans_of, AllAhead, ArePiecesOf}
use Rattle.kr_deque.specs.Joined.{JoinedLaw}
use Rattle.kr_deque.proofs.Chains.{comes}
use Rattle.kr_deque.proofs.Orders.{ahead_permutation, pieces_permutation}

nothing : {R : Type 0} (a : Bound) (all : List (Entry R)) → within a a all ≡ []
nothing a [] = refl
nothing {R} a (e ∷ es) = rw (none (less a (At e.key))) (nothing a es)
  where
    none : (b : Bool) → (b && not b) ≡ false
    none true = refl
    none false = refl

none_spent : {R : Type 0} (es : List (Entry R)) → spent_in es ≡ None → NoneSpent es
none_spent [] h = tt
none_spent {R} (e ∷ es) h = go (λ n. none_spent es n) (is_spent e.mark) refl h
  where
    go : (spent_in es ≡ None → NoneSpent es) → (b : Bool) → is_spent e.mark ≡ b → (if b then Some e.key else spent_in es) ≡ None → (is_spent e.mark ≡ false) × NoneSpent es
    go on true q n = absurd (cc (n))
    go on false q n = (q, on n)

spent_append : {R : Type 0} (es fs : List (Entry R)) → spent_in es ≡ None → spent_in (es ++ fs) ≡ spent_in fs
spent_append [] fs h = refl
spent_append {R} (e ∷ es) fs h = go (λ n. spent_append es fs n) (is_spent e.mark) h
  where
    go : (spent_in es ≡ None → spent_in (es ++ fs) ≡ spent_in fs) → (b : Bool) → (if b then Some e.key else spent_in es) ≡ None → (if b then Some e.key else spent_in (es ++ fs)) ≡ spent_in fs
    go on true n = absurd (cc (n))
    go on false n = on n

-- after a spent entry nothing is listed
stops : {R : Type 0} (es fs : List (Entry R)) (key : List ℕ) → spent_in (through_spent es) ≡ Some key → through_spent (es ++ fs) ≡ through_spent es
stops [] fs key h = absurd (cc (h))
stops {R} (e ∷ es) fs key h = go (λ n. stops es fs key n) (is_spent e.mark) refl h
  where
    go : (spent_in (through_spent es) ≡ Some key → through_spent (es ++ fs) ≡ through_spent es) → (b : Bool) → is_spent e.mark ≡ b → spent_in (e ∷ (if b then [] else through_spent es)) ≡ Some key
        → e ∷ (if b then [] else through_spent (es ++ fs)) ≡ e ∷ (if b then [] else through_spent es)
    go on true q n = refl
    go on false q n = ap (λ (l : List (Entry R)). e ∷ l) (on (sym (ap (λ (t : Bool). if t then Some e.key else spent_in (through_spent es)) q) ∙ n))

rows_append : {R : Type 0} (es fs : List (Entry R)) → rows_of (es ++ fs) ≡ rows_of es ++ rows_of fs
rows_append {R} es fs = flat_map-append (λ (e : Entry R). row_of e.mark) es fs

-- what pieces list together
record Together {R : Type 0} (all : List (Entry R)) (a b : Bound) (ps : List (Piece R)) : Type 0 where
  pub rows : rows_in ps ≡ rows_of (entries_in a b all)
  pub tried : tried_in ps ≡ length (entries_in a b all)
  pub spent : key_in ps ≡ spent_in (entries_in a b all)

together : {R : Type 0} (all : List (Entry R)) (a b : Bound) (ps : List (Piece R)) → Ascends all → AllAhead (spans_of ps) → ArePiecesOf all ps → Adjoins a (spans_of ps) b
    → Together all a b (through ps)
together {R} all a b [] asc ahead honest k =
    let none : entries_in a b all ≡ [] = ap (λ (x : Bound). entries_in a x all) (sym k) ∙ ap (λ (l : List (Entry R)). through_spent l) (nothing a all) in
    record {
      rows = sym (ap (λ (l : List (Entry R)). rows_of l) none);
      tried = sym (ap (λ (l : List (Entry R)). length l) none);
      spent = sym (ap (λ (l : List (Entry R)). spent_in l) none);
    }
together {R} all a b (p ∷ ps) asc ahead honest k = go (together all p.span.upto b ps asc ahead.1 honest.1 k.1) p.spent refl
  where
    one : List (Entry R)
    one = entries_in a p.span.upto all

    is : listed_in all p.span ≡ one
    is = ap (λ (x : Bound). entries_in x p.span.upto all) k.0

    up : less p.span.upto a ≡ false
    up = asymmetric a p.span.upto (ap (λ (x : Bound). less x p.span.upto) (sym k.0) ∙ ahead.0)

    later : less b p.span.upto ≡ false
    later = comes p.span.upto b (spans_of ps) ahead.1 k.1

    key : p.spent ≡ spent_in one
    key = honest.0.spent ∙ ap (λ (l : List (Entry R)). spent_in l) is

    go : Together all p.span.upto b (through ps) → (o : Option (List ℕ)) → p.spent ≡ o → Together all a b (p ∷ (if is_some p.spent then [] else through ps))
    go rest None q =
        let two = entries_in p.span.upto b all in
        let clean : spent_in one ≡ None = sym key ∙ q in
        let whole : one ++ two ≡ entries_in a b all = resumption all a p.span.upto b asc up later (none_spent one clean) in
        subst (λ (o : Option (List ℕ)). Together all a b (p ∷ (if is_some o then [] else through ps))) (sym q) (record {
          rows = ap (λ (l : List R). l ++ rows_in (through ps)) (honest.0.rows ∙ ap (λ (l : List (Entry R)). rows_of l) is)
              ∙ (ap (λ (l : List R). rows_of one ++ l) rest.rows ∙ (sym (rows_append one two) ∙ ap (λ (l : List (Entry R)). rows_of l) whole));
          tried =
              let t : p.tried ≡ length one = honest.0.tried ∙ ap (λ (l : List (Entry R)). length l) is in
              let w : length (one ++ two) ≡ length (entries_in a b all) = ap (λ (l : List (Entry R)). length l) whole in
              omega (arith, t, rest.tried, length-append one two, w);
          spent = rw q (rest.spent ∙ (sym (spent_append one two clean) ∙ ap (λ (l : List (Entry R)). spent_in l) whole));
        })
    go rest (Some c) q =
        let hit : spent_in one ≡ Some c = sym key ∙ q in
        let whole : entries_in a b all ≡ one = ap (λ (l : List (Entry R)). through_spent l) (sym (within_two a p.span.upto b all asc up later)) ∙ stops (within a p.span.upto all) (within p.span.upto b all) c hit in
        subst (λ (o : Option (List ℕ)). Together all a b (p ∷ (if is_some o then [] else through ps))) (sym q) (record {
          rows = append-nil p.rows ∙ (honest.0.rows ∙ (ap (λ (l : List (Entry R)). rows_of l) is ∙ ap (λ (l : List (Entry R)). rows_of l) (sym whole)));
          tried =
              let t : p.tried ≡ length one = honest.0.tried ∙ ap (λ (l : List (Entry R)). length l) is in
              let w : length (entries_in a b all) ≡ length one = ap (λ (l : List (Entry R)). length l) whole in
              omega (arith, t, w);
          spent = rw q (sym hit ∙ ap (λ (l : List (Entry R)). spent_in l) (sym whole));
        })

pub joined_law : {R : Type 0} → JoinedLaw R
joined_law {R} all asked pieces l asc ahead each honest j =
    let t = together all (At asked.after) asked.upto j.ordered asc (ahead_permutation pieces j.ordered j.same each) (pieces_permutation all pieces j.ordered j.same honest) j.adjoin in
    record {
      rows = j.listing.rows ∙ t.rows;
      tried = j.listing.tried ∙ ap capped t.tried;
      spent = j.listing.spent ∙ t.spent;
    }
