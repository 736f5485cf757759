-- The listing of a span with no keys.
use Rattle.std.proofs.Common.{◌≡◌, ℕ, List, [], ◌∷◌, Bool, true, false, not, ◌&&◌, cond, None, refl, sym, ap, ◌∙◌, subst}
use Rattle.kr_base.specs.declared.span.Bound.{Bound}
use Rattle.kr_base.specs.declared.span.Bound.TheVariants.{At}
use Rattle.kr_base.specs.declared.span.Span.{Span}
use Rattle.kr_base.specs.declared.entry.Entry.{Entry}
use Rattle.kr_base.specs.Bounds.{less}
use Rattle.kr_base.specs.Entries.{is_within, within, through_spent}
use Rattle.kr_base.proofs.Bounds.{not_above_less}
use Rattle.kr_survey.specs.declared.part.Listing.{Listing}
use Rattle.kr_survey.specs.Listings.{listed_in, Lists}

no_key : (a b : Bound) (key : List ℕ) → less a b ≡ false → is_within a b key ≡ false
no_key a b key h = go (less a (At key)) refl
  where
    go : (t : Bool) → less a (At key) ≡ t → is_within a b key ≡ false
    go true e = ap (λ (x : Bool). x && not (less b (At key))) e ∙ ap (λ (x : Bool). not x) (not_above_less b a (At key) h e)
    go false e = ap (λ (x : Bool). x && not (less b (At key))) e

no_entry : {R : Type 0} (a b : Bound) (all : List (Entry R)) → less a b ≡ false → within a b all ≡ []
no_entry a b [] h = refl
no_entry {R} a b (e ∷ es) h = ap (λ (t : Bool). cond t (e ∷ within a b es) (within a b es)) (no_key a b e.key h) ∙ no_entry a b es h

pub lists_none : {R : Type 0} (all : List (Entry R)) (span : Span) (l : Listing R) → less (At span.after) span.upto ≡ false → l.rows ≡ [] → l.tried ≡ 0 → l.spent ≡ None → Lists (listed_in all span) l
lists_none {R} all span l h r t s =
    subst (λ (es : List (Entry R)). Lists (through_spent es) l) (sym (no_entry (At span.after) span.upto all h)) (record { rows = r; tried = t; spent = s })
