-- The note of a node of a known kind.
use Rattle.std.proofs.Common.{◌≡◌, sym, ap, ◌∙◌, subst, ℕ, List, length}
use Rattle.std.specs.Prelude.{Result, Ok, Err, IfOk, slice_index_or}
use Rattle.kr_base.specs.declared.place.Place.{Place}
use Rattle.kr_ast.specs.declared.node.Node.{Node}
use Rattle.kr_types_meaning.specs.Scopes.{Scope}
use Rattle.kr_types_meaning.specs.Noting as noting
use Rattle.kr_classes_names.specs.Types.{TypeList, Extends}
use Rattle.kr_types_scopes.specs.declared.within.Within.{Within}
use Rattle.kr_types_scopes.specs.Scoped.{nowhere}
use Rattle.kr_types_judging.specs.declared.notes.Note.{Note}
use Rattle.kr_types_judging.specs.Shown.{HasNoRest, IsNoteWithin, note_shown}
use Rattle.kr_types_expressions.specs.Notes.{AreNotesWithin, shown_notes, typed_in}
use Rattle.kr_types_expressions.proofs.Notes.{no_rest_below, no_rest_linked, notes_same}
use Rattle.kr_types.specs.declared.site.Site.{Site}
use Rattle.kr_types.specs.declared.site.Spot.{Spot}
use Rattle.kr_types.specs.Sites.{IsNoteOf, IsSpotNote, noted_there, scope_here, scope_of}

pub made_of : (s : Site) (l : TypeList) (ns : List Note) (i : ℕ) (here : Scope) (p : Place) (n m : Node) (made : Note) → n ≡ m → IsNoteWithin l made → HasNoRest made.known → note_shown l (typed_in l ns) made ≡ noted_there s l ns here p m
    → IsNoteOf s l ns i here p n made
made_of s l ns i here p n m made e w r shown =
    subst (λ (k : Node). IsNoteOf s l ns i here p k made) (sym e) (record { within = w; below = no_rest_below i made.known r; linked = no_rest_linked (typed_in l ns) made.known r; shown = shown })

module _ (s : Site) (l : TypeList) (ns : List Note) (x : Spot) where
  abbrev there : Within
  there = slice_index_or s.scopes.now.within.items x.at nowhere

  abbrev shown_here : Note → noting.Note
  shown_here = note_shown l (typed_in l ns)

  abbrev kept_at : ℕ → noting.Note
  kept_at = noting.note_at (shown_notes l ns)

  abbrev noted_here : Node → noting.Note
  noted_here = noted_there s l ns (scope_of s x.at) x.place

  pub of_none : (f : Scope → noting.Note) (w : Within) (m : Node) (made : Note) → w ≡ there → x.node ≡ m → IsNoteWithin l made → HasNoRest made.known → shown_here made ≡ f (scope_here s w) → f (scope_of s x.at) ≡ noted_here m → IsSpotNote s l ns x made
  of_none f w m made at e in_l r h k = made_of s l ns (length ns) (scope_of s x.at) x.place x.node m made e in_l r (h ∙ ap (λ (v : Within). f (scope_here s v)) at ∙ k)

  -- the note from those of its parts
  pub of_one : (f : Scope → noting.Note → noting.Note) (w : Within) (m : Node) (made y : Note) (a : ℕ) → w ≡ there → x.node ≡ m → IsNoteWithin l made → HasNoRest made.known → shown_here made ≡ f (scope_here s w) (shown_here y)
      → shown_here y ≡ kept_at a → f (scope_of s x.at) (kept_at a) ≡ noted_here m → IsSpotNote s l ns x made
  of_one f w m made y a at e in_l r h p k = of_none (λ v. f v (kept_at a)) w m made at e in_l r (h ∙ ap (f (scope_here s w)) p) k

  pub of_two : (f : Scope → noting.Note → noting.Note → noting.Note) (w : Within) (m : Node) (made y z : Note) (a b : ℕ) → w ≡ there → x.node ≡ m → IsNoteWithin l made → HasNoRest made.known
      → shown_here made ≡ f (scope_here s w) (shown_here y) (shown_here z) → shown_here y ≡ kept_at a → shown_here z ≡ kept_at b → f (scope_of s x.at) (kept_at a) (kept_at b) ≡ noted_here m → IsSpotNote s l ns x made
  of_two f w m made y z a b at e in_l r h p q k = of_one (λ v n. f v n (kept_at b)) w m made y a at e in_l r (h ∙ ap (f (scope_here s w) (shown_here y)) q) p k

  pub of_three : (f : Scope → noting.Note → noting.Note → noting.Note → noting.Note) (w : Within) (m : Node) (made y z u : Note) (a b d : ℕ) → w ≡ there → x.node ≡ m → IsNoteWithin l made → HasNoRest made.known
      → shown_here made ≡ f (scope_here s w) (shown_here y) (shown_here z) (shown_here u) → shown_here y ≡ kept_at a → shown_here z ≡ kept_at b → shown_here u ≡ kept_at d → f (scope_of s x.at) (kept_at a) (kept_at b) (kept_at d) ≡ noted_here m → IsSpotNote s l ns x made
  of_three f w m made y z u a b d at e in_l r h p q v k = of_two (λ t n o. f t n o (kept_at d)) w m made y z a b at e in_l r (h ∙ ap (f (scope_here s w) (shown_here y) (shown_here z)) v) p q k

  -- where memory may be wanted for it
  pub of_if : {E : Type 0} (r : Result Note E) (S : Note → Type 0) (f : Scope → noting.Note) (w : Within) (m : Node) → w ≡ there → x.node ≡ m → IfOk r (λ y. IsNoteWithin l y) → IfOk r (λ y. HasNoRest y.known) → IfOk r S
      → ((y : Note) → S y → shown_here y ≡ f (scope_here s w)) → f (scope_of s x.at) ≡ noted_here m → IfOk r (λ y. IsSpotNote s l ns x y)
  of_if (Ok y) S f w m at e in_l b h g k = of_none f w m y at e in_l b (g y h) k
  of_if (Err y) S f w m at e in_l b h g k = tt

-- a part's note, where types have been added
pub part_grown : (a b : TypeList) (ns : List Note) (x : Note) (k : ℕ) → Extends a b → AreNotesWithin a ns → note_shown a (typed_in a ns) x ≡ noting.note_at (shown_notes a ns) k → note_shown a (typed_in b ns) x ≡ noting.note_at (shown_notes b ns) k
part_grown a b ns x k e w h =
    let same = notes_same a b ns e w in
    ap (λ (xs : List noting.Note). note_shown a (λ j. (noting.note_at xs j).typed) x) same ∙ h ∙ ap (λ (xs : List noting.Note). noting.note_at xs k) (sym same)
