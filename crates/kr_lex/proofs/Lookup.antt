-- The result of a search of the table.
use Rattle.std.proofs.Common.{◌≡◌, ℕ, ◌+◌, ◌<◌, ◌≤◌, ◌⊎◌, inl, inr, List, ◌++◌, length, slice_index, get_or, drop, sym, ap, subst, ◌∙◌, arith}
use Rattle.std.proofs.lemmas.List.{get_or_append_left, get_or_default}
use Rattle.std.proofs.lemmas.Bool.{cases_lt, cases_eq}
use Rattle.kr_lex.specs.declared.kind.Kind.{Kind}
use Rattle.kr_lex.specs.Spelling.{spelling}
use Rattle.kr_lex.specs.Table.{beginning_with}
use Rattle.kr_lex.specs.Pieces.{IsLongestFixed, BeginsNoFixed, IsNoFixed}
use Rattle.kr_lex.proofs.Listing.{listed, not_longer_in_table, some_in_table}

-- the first byte of what begins a text
pub same_first : (text part more : List ℕ) → 0 < length part → text ≡ part ++ more → slice_index part 0 ≡ slice_index text 0
same_first text part more l e = sym (ap (λ t. slice_index t 0) e ∙ get_or_append_left part more 0 0 l)

-- the index of a kind in the table of a byte
abbrev At : ℕ → ℕ → Kind → Type 0
At first k kind = (k < length (beginning_with first)) × (kind ≡ get_or (beginning_with first) k kind)

standing : (first : ℕ) (kind : Kind) → 0 < length (spelling kind) → slice_index (spelling kind) 0 ≡ first → (k : ℕ) × At first k kind
standing first kind l e =
    let p = listed kind l in
    (p.index, (rw (ap beginning_with e) at p.within, rw (ap beginning_with e) at p.there))

abbrev pub NoneFits : List ℕ → ℕ → ℕ → Type 0
NoneFits text first i = (k : ℕ) (kind : Kind) (more : List ℕ) → k < i → kind ≡ get_or (beginning_with first) k kind → text ≡ spelling kind ++ more → ⊥

abbrev pub NoneIn : List ℕ → List Kind → ℕ → Type 0
NoneIn text table i = (k : ℕ) (kind : Kind) (more : List ℕ) → k < i → kind ≡ get_or table k kind → text ≡ spelling kind ++ more → ⊥

pub found_longest : (text : List ℕ) (i : ℕ) (here : Kind) → NoneFits text (slice_index text 0) i → i < length (beginning_with (slice_index text 0))
    → here ≡ get_or (beginning_with (slice_index text 0)) i here → text ≡ spelling here ++ drop (length (spelling here)) text → IsLongestFixed text here
found_longest text i here none l e z =
    record { some = some_in_table (slice_index text 0) i here l e; spelled = z; longest = not_longer }
  where
    not_longer : (other : Kind) (more : List ℕ) → 0 < length (spelling other) → text ≡ spelling other ++ more → length (spelling other) ≤ length (spelling here)
    not_longer other more some y =
        let p = standing (slice_index text 0) other some (same_first text (spelling other) more some y) in
        go p.0 p.1 (cases_lt p.0 i)
      where
        go : (k : ℕ) → At (slice_index text 0) k other → (k < i) ⊎ (i ≤ k) → length (spelling other) ≤ length (spelling here)
        go k at (inl before) = absurd (none k other more before at.1 y)
        go k at (inr behind) = not_longer_in_table (slice_index text 0) i k here other behind at.0 e at.1

pub found_none : (text : List ℕ) (i : ℕ) → NoneFits text (slice_index text 0) i → length (beginning_with (slice_index text 0)) ≤ i → BeginsNoFixed text
found_none text i none l other more some y =
    let p = standing (slice_index text 0) other some (same_first text (spelling other) more some y) in
    none p.0 other more (omega (arith, p.1.0, l)) p.1.1 y

-- for a table that was looked up
module _ (text : List ℕ) (table : List Kind) (is : table ≡ beginning_with (slice_index text 0)) where
  pub found_at : (i : ℕ) (d : Kind) (spelled : List ℕ) → NoneIn text table i → i < length table → spelled ≡ spelling (get_or table i d)
      → text ≡ spelled ++ drop (length spelled) text → IsLongestFixed text (get_or table i d)
  found_at i d spelled none l s z =
      let here = get_or table i d in
      let e : here ≡ get_or table i here = get_or_default table i d here l in
      found_longest text i here (rw is at none) (rw is at l) (subst (λ (t : List Kind). here ≡ get_or t i here) is e) (rw s at z)

  pub found_nothing : (i : ℕ) → NoneIn text table i → length table ≤ i → BeginsNoFixed text
  found_nothing i none l = found_none text i (rw is at none) (rw is at l)

-- one kind more that doesn't fit
pub none_more : (text : List ℕ) (table : List Kind) (i : ℕ) (d : Kind) (spelled : List ℕ) → NoneIn text table i → i < length table → spelled ≡ spelling (get_or table i d)
    → ((more : List ℕ) → text ≡ spelled ++ more → ⊥) → NoneIn text table (i + 1)
none_more text table i d spelled none l s unfit k kind more below z y = go (cases_eq k i)
  where
    go : (k ≡ i) ⊎ (k ≡ i → ⊥) → ⊥
    go (inl same) =
        let kind_is : kind ≡ get_or table i kind = rw same at z in
        let here : kind ≡ get_or table i d = kind_is ∙ get_or_default table i kind d l in
        unfit more (y ∙ ap (λ o. o ++ more) (ap spelling here ∙ sym s))
    go (inr other) = none k kind more (omega (arith, below, other)) z y

-- words that are looked up whole
abbrev pub NoneIs : List ℕ → List Kind → ℕ → Type 0
NoneIs word table i = (k : ℕ) (kind : Kind) → k < i → kind ≡ get_or table k kind → word ≡ spelling kind → ⊥

pub none_is_more : (word : List ℕ) (table : List Kind) (i : ℕ) (d : Kind) (spelled : List ℕ) → NoneIs word table i → i < length table → spelled ≡ spelling (get_or table i d)
    → (word ≡ spelled → ⊥) → NoneIs word table (i + 1)
none_is_more word table i d spelled none l s unfit k kind below z y = go (cases_eq k i)
  where
    go : (k ≡ i) ⊎ (k ≡ i → ⊥) → ⊥
    go (inl same) =
        let kind_is : kind ≡ get_or table i kind = rw same at z in
        let here : kind ≡ get_or table i d = kind_is ∙ get_or_default table i kind d l in
        unfit (y ∙ (ap spelling here ∙ sym s))
    go (inr other) = none k kind (omega (arith, below, other)) z y

pub is_no_fixed : (word : List ℕ) (table : List Kind) (i : ℕ) → 0 < length word → table ≡ beginning_with (slice_index word 0) → NoneIs word table i → length table ≤ i → IsNoFixed word
is_no_fixed word table i some is none l other y =
    let w : 0 < length (spelling other) = omega (arith, ap length y) in
    let p = standing (slice_index word 0) other w (sym (ap (λ t. slice_index t 0) y)) in
    none p.0 other (omega (arith, p.1.0, l, ap length is)) (rw (← is) at p.1.1) y
