-- Entries in spans that adjoin, and which of them are spent.
use Rattle.std.proofs.Common.{◌≡◌, ◌+◌, List, [], ◌∷◌, ◌++◌, Bool, true, false, ◌&&◌, not, length, length-append, append_assoc, refl, sym, ap, ◌∙◌}
use Rattle.std.specs.Prelude.{if◌then◌else◌}
use Rattle.std.proofs.lemmas.List.{append-nil}
use Rattle.kr_base.specs.declared.span.Bound.{Bound}
use Rattle.kr_base.specs.declared.span.Bound.TheVariants.{At}
use Rattle.kr_base.specs.declared.entry.Entry.{Entry}
use Rattle.kr_base.specs.Bounds.{less}
use Rattle.kr_base.specs.Entries.{Ascends, within, through_spent, NoneSpent}
use Rattle.kr_base.proofs.Bounds.{not_above_less}
use Rattle.kr_base.proofs.Spans.{within_two, through_append}
use Rattle.kr_core.specs.Counts.{EndsSpent, IsSpentFlag}

pub within-append : {R : Type 0} (a m b : Bound) (es : List (Entry R)) → Ascends es → less m a ≡ false → less b m ≡ false
    → within a m es ++ within m b es ≡ within a b es
within-append a m b es asc h k = within_two a m b es asc h k

pub within-length : {R : Type 0} (a m b : Bound) (es : List (Entry R)) → Ascends es → less m a ≡ false → less b m ≡ false
    → length (within a m es) + length (within m b es) ≡ length (within a b es)
within-length {R} a m b es asc h k =
    sym (length-append (within a m es) (within m b es)) ∙ ap (λ (xs : List (Entry R)). length xs) (within_two a m b es asc h k)

-- nothing is above a bound and not above one that is no higher
pub within-none : {R : Type 0} (a b : Bound) (es : List (Entry R)) → less a b ≡ false → within a b es ≡ []
within-none a b [] h = refl
within-none {R} a b (e ∷ es) h =
    elim (less a (At e.key)) as (λ t. less a (At e.key) ≡ t → (if t && not (less b (At e.key)) then e ∷ within a b es else within a b es) ≡ []) [
      | true ↦ λ q. rw (not_above_less b a (At e.key) h q) (within-none a b es h)
      | false ↦ λ q. within-none a b es h
    ] refl

pub NoneSpent-append : {R : Type 0} (xs ys : List (Entry R)) → NoneSpent xs → NoneSpent ys → NoneSpent (xs ++ ys)
NoneSpent-append [] ys h k = k
NoneSpent-append (x ∷ xs) ys h k = (h.0, NoneSpent-append xs ys h.1 k)

pub EndsSpent-append : {R : Type 0} (b : Bound) (xs ys : List (Entry R)) → NoneSpent xs → EndsSpent b ys → EndsSpent b (xs ++ ys)
EndsSpent-append {R} b xs ys h k = record {
  before = xs ++ k.before;
  last = k.last;
  split = ap (λ (l : List (Entry R)). xs ++ l) k.split ∙ sym (append_assoc xs k.before (k.last ∷ []));
  none_before = NoneSpent-append xs k.before h k.none_before;
  last_spent = k.last_spent;
  key_is = k.key_is;
}

pub flag-append : {R : Type 0} (flag : Bool) (b : Bound) (xs ys : List (Entry R)) → NoneSpent xs → IsSpentFlag flag b ys → IsSpentFlag flag b (xs ++ ys)
flag-append true b xs ys h k = EndsSpent-append b xs ys h k
flag-append false b xs ys h k = NoneSpent-append xs ys h k

through_none : {R : Type 0} (xs : List (Entry R)) → NoneSpent xs → through_spent xs ≡ xs
through_none [] h = refl
through_none {R} (x ∷ xs) h = rw h.0 (ap (λ (l : List (Entry R)). x ∷ l) (through_none xs h.1))

-- what is after the spent one is cut off
pub through_ends : {R : Type 0} (b : Bound) (xs ys : List (Entry R)) → EndsSpent b xs → through_spent (xs ++ ys) ≡ xs
through_ends {R} b xs ys h =
    let last : through_spent (h.last ∷ ys) ≡ h.last ∷ [] = ap (λ (t : Bool). h.last ∷ (if t then [] else through_spent ys)) h.last_spent in
    ap (λ (l : List (Entry R)). through_spent (l ++ ys)) h.split
    ∙ (ap through_spent (append_assoc h.before (h.last ∷ []) ys)
    ∙ (through_append h.before (h.last ∷ ys) h.none_before ∙ (ap (λ (l : List (Entry R)). h.before ++ l) last ∙ sym h.split)))

-- so all of them are there
pub through_all : {R : Type 0} (flag : Bool) (b : Bound) (xs : List (Entry R)) → IsSpentFlag flag b xs → through_spent xs ≡ xs
through_all {R} true b xs h = ap through_spent (sym (append-nil xs)) ∙ through_ends b xs [] h
through_all false b xs h = through_none xs h
