-- Facts on the notes of a file's nodes that hold on while notes and types are added.
use Rattle.std.proofs.Common.{◌≡◌, refl, sym, ap, ◌∙◌, subst, ℕ, ◌<◌, inl, inr, List, [], ◌∷◌, ◌++◌, length, Some, arith}
use Rattle.std.specs.Prelude.{None, slice_get}
use Rattle.std.proofs.lemmas.List.{get_or_append_left}
use Rattle.std.proofs.lemmas.Option.{slice_get_within}
use Rattle.std.proofs.Math.Seq.{get_or-append_seam}
use Rattle.kr_ast.proofs.Grown.{grow_same, grow_stands, grow-append, length-grow}
use Rattle.kr_types_meaning.specs.Rules as rules
use Rattle.kr_types_meaning.specs.Typing.{joined}
use Rattle.kr_types_meaning.specs.Noting as noting
use Rattle.kr_classes_names.specs.Types.{TypeList, Extends}
use Rattle.kr_types_judging.specs.declared.known.Typed.{Typed}
use Rattle.kr_types_judging.specs.declared.known.Typed.TheVariants as typed
use Rattle.kr_types_judging.specs.declared.known.Known.{Known}
use Rattle.kr_types_judging.specs.declared.known.Known.TheVariants as known
use Rattle.kr_types_judging.specs.declared.notes.Note.{Note}
use Rattle.kr_types_judging.specs.Shown.{HasNoRest, IsKnownWithin, IsNoteWithin, IsTypedWithin, known_shown, least_shown, note_shown, typed_shown}
use Rattle.kr_types_expressions.specs.Links.{IsLinked}
use Rattle.kr_types_expressions.specs.Notes.{AreNotesWithin, IsRestBelow, known_of, next_note, shown_notes, typed_in}
use Rattle.kr_base.proofs.ListLemmas.{slice_get-push}

-- anything but a list with a rest may occur everywhere
pub no_rest_below : (i : ℕ) (k : Known) → HasNoRest k → IsRestBelow i k
no_rest_below i (known.More first rest) h = absurd h
no_rest_below i (known.One t) h = tt
no_rest_below i known.Absent h = tt

pub no_rest_linked : (look : ℕ → rules.Typed) (k : Known) → HasNoRest k → IsLinked look k
no_rest_linked look (known.More first rest) h = absurd h
no_rest_linked look (known.One t) h = tt
no_rest_linked look known.Absent h = tt

-- ---- notes as shown with the facts known of other nodes

known_near : (l : TypeList) (look look' : ℕ → rules.Typed) (i : ℕ) (k : Known) → ((j : ℕ) → j < i → look j ≡ look' j) → IsRestBelow i k → known_shown l look k ≡ known_shown l look' k
known_near l look look' i (known.More first rest) h b = ap (joined (rules.Value _)) (h rest b)
known_near l look look' i (known.One t) h b = refl
known_near l look look' i known.Absent h b = refl

pub note_near : (l : TypeList) (look look' : ℕ → rules.Typed) (i : ℕ) (n : Note) → ((j : ℕ) → j < i → look j ≡ look' j) → IsRestBelow i n.known → note_shown l look n ≡ note_shown l look' n
note_near l look look' i n h b = ap (λ (t : rules.Typed). noting.note t (least_shown n.least)) (known_near l look look' i n.known h b)

-- ---- notes of a file

pub shown_count : (l : TypeList) (ns : List Note) → length (shown_notes l ns) ≡ length ns
unfolding shown_notes
shown_count l ns = length-grow (next_note l) [] ns ∙ omega arith

-- the note at an index, as shown with the facts known of the file's nodes
pub shown_at : (l : TypeList) (ns : List Note) → AreNotesWithin l ns → (i : ℕ) (n : Note) → slice_get ns i ≡ Some n → noting.note_at (shown_notes l ns) i ≡ note_shown l (typed_in l ns) n
unfolding shown_notes
shown_at l ns a i n e =
    grow_stands (next_note l) (noting.note rules.Untyped None) (λ i n. IsRestBelow i n.known) (λ i n xs ys h b. note_near l _ _ i n (λ j k. ap (λ (x : noting.Note). x.typed) (h j k)) b) [] ns i i n e (omega arith) (a.below i n e)

pub shown_pushed : (l : TypeList) (ns : List Note) (n : Note) → shown_notes l (ns ++ n ∷ []) ≡ shown_notes l ns ++ note_shown l (typed_in l ns) n ∷ []
unfolding shown_notes
shown_pushed l ns n = grow-append (next_note l) [] ns n

-- a note more changes none before it
pub shown_before : (l : TypeList) (ns : List Note) (n : Note) (k : ℕ) → k < length ns → noting.note_at (shown_notes l (ns ++ n ∷ [])) k ≡ noting.note_at (shown_notes l ns) k
shown_before l ns n k h =
    ap (λ xs. noting.note_at xs k) (shown_pushed l ns n)
    ∙ get_or_append_left (shown_notes l ns) (note_shown l (typed_in l ns) n ∷ []) (noting.note rules.Untyped None) k (omega (arith, h, shown_count l ns))

pub shown_last : (l : TypeList) (ns : List Note) (n : Note) → noting.note_at (shown_notes l (ns ++ n ∷ [])) (length ns) ≡ note_shown l (typed_in l ns) n
shown_last l ns n =
    ap (λ xs. noting.note_at xs (length ns)) (shown_pushed l ns n)
    ∙ ap (λ i. noting.note_at (shown_notes l ns ++ note_shown l (typed_in l ns) n ∷ []) i) (sym (shown_count l ns))
    ∙ get_or-append_seam (shown_notes l ns) (note_shown l (typed_in l ns) n) [] (noting.note rules.Untyped None)

linked_near : (look look' : ℕ → rules.Typed) (i : ℕ) (k : Known) → ((j : ℕ) → j < i → look j ≡ look' j) → IsRestBelow i k → IsLinked look k → IsLinked look' k
linked_near look look' i (known.More first rest) h b v = record { types = v.types; is = sym (h rest b) ∙ v.is }
linked_near look look' i (known.One t) h b v = tt
linked_near look look' i known.Absent h b v = tt

pub below_weaker : (i j : ℕ) (k : Known) → i < j → IsRestBelow i k → IsRestBelow j k
below_weaker i j (known.More first rest) h b = omega (arith, h, b)
below_weaker i j (known.One t) h b = tt
below_weaker i j known.Absent h b = tt

pub within_none : (l : TypeList) → AreNotesWithin l []
within_none l = record { within = λ i n e. absurd (cc); below = λ i n e. absurd (cc); linked = λ i n e. absurd (cc) }

pub within_pushed : (l : TypeList) (ns : List Note) (n : Note) → AreNotesWithin l ns → IsNoteWithin l n → IsRestBelow (length ns) n.known → IsLinked (typed_in l ns) n.known → AreNotesWithin l (ns ++ n ∷ [])
within_pushed l ns n a w b v = record {
  within = λ i m e. elim (slice_get-push ns n i m e) [
    | inl h ↦ a.within i m h
    | inr h ↦ subst (λ (x : Note). IsNoteWithin l x) h.1 w
  ];
  below = λ i m e. elim (slice_get-push ns n i m e) [
    | inl h ↦ a.below i m h
    | inr h ↦ subst (λ (j : ℕ). IsRestBelow j m.known) (sym h.0) (subst (λ (x : Note). IsRestBelow (length ns) x.known) h.1 b)
  ];
  linked = λ i m e. elim (slice_get-push ns n i m e) [
    | inl h ↦ linked_near (typed_in l ns) (typed_in l (ns ++ n ∷ [])) (length ns) m.known same (below_weaker i (length ns) m.known (slice_get_within ns i m h) (a.below i m h)) (a.linked i m h)
    | inr h ↦ linked_near (typed_in l ns) (typed_in l (ns ++ n ∷ [])) (length ns) m.known same (subst (λ (x : Note). IsRestBelow (length ns) x.known) h.1 b) (subst (λ (x : Note). IsLinked (typed_in l ns) x.known) h.1 v)
  ];
}
  where
    same : (j : ℕ) → j < length ns → typed_in l ns j ≡ typed_in l (ns ++ n ∷ []) j
    same j h = ap (λ (x : noting.Note). x.typed) (sym (shown_before l ns n j h))

-- ---- as types are added

typed_kept : (a b : TypeList) (t : Typed) → Extends a b → IsTypedWithin a t → IsTypedWithin b t
typed_kept a b typed.Untyped x w = tt
typed_kept a b (typed.Value n) x w = let m = x.more in omega (arith, m, w)
typed_kept a b (typed.Variable n) x w = let m = x.more in omega (arith, m, w)

pub note_kept : (a b : TypeList) (n : Note) → Extends a b → IsNoteWithin a n → IsNoteWithin b n
note_kept a b n x w = known_kept n.known w
  where
    known_kept : (k : Known) → IsKnownWithin a k → IsKnownWithin b k
    known_kept (known.One t) w = typed_kept a b t x w
    known_kept known.Absent w = tt
    known_kept (known.More first rest) w = let m = x.more in omega (arith, m, w)

typed_same : (a b : TypeList) (t : Typed) → Extends a b → IsTypedWithin a t → typed_shown b t ≡ typed_shown a t
typed_same a b typed.Untyped x w = refl
typed_same a b (typed.Value n) x w = ap rules.Value (x.same n w)
typed_same a b (typed.Variable n) x w = ap rules.Variable (x.same n w)

known_same : (a b : TypeList) (look : ℕ → rules.Typed) (k : Known) → Extends a b → IsKnownWithin a k → known_shown b look k ≡ known_shown a look k
known_same a b look (known.One t) x w = typed_same a b t x w
known_same a b look known.Absent x w = refl
known_same a b look (known.More first rest) x w = ap (λ t. joined (rules.Value t) (look rest)) (x.same first w)

-- a note is shown alike
pub note_same : (a b : TypeList) (look : ℕ → rules.Typed) (n : Note) → Extends a b → IsNoteWithin a n → note_shown b look n ≡ note_shown a look n
note_same a b look n x w = ap (λ (t : rules.Typed). noting.note t (least_shown n.least)) (known_same a b look n.known x w)

-- all notes stay the same
pub notes_same : (a b : TypeList) (ns : List Note) → Extends a b → AreNotesWithin a ns → shown_notes b ns ≡ shown_notes a ns
unfolding shown_notes
notes_same a b ns x w = grow_same (next_note b) (next_note a) ns (λ i n e xs. note_same a b _ n x (w.within i n e)) []

pub within_kept : (a b : TypeList) (ns : List Note) → Extends a b → AreNotesWithin a ns → AreNotesWithin b ns
within_kept a b ns x w = record {
  within = λ i n e. note_kept a b n x (w.within i n e);
  below = w.below;
  linked = λ i n e. subst (λ (xs : List noting.Note). IsLinked (known_of xs) n.known) (sym (notes_same a b ns x w)) (w.linked i n e);
}
