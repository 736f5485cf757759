-- Counts that saturate at the last number, and the rules on them.
use Rattle.std.proofs.Common.{◌≡◌, ℕ, ◌+◌, ◌-◌, ◌^◌, ◌<◌, ◌==◌, inl, inr, nat_lt, List, ◌++◌, length, map, get_or, Option, fold, min, sym, ap, ◌∙◌, drop, arith}
use Rattle.std.proofs.lemmas.Bool.{cases_lt, cases_eq, eq-eqb, ne_eqb, lt-ltb, le-ltb}
use Rattle.std.proofs.lemmas.List.{drop_more, length-append}
use Rattle.std.proofs.lemmas.List.Sums.{fold-append}
use Rattle.kr_mean.specs.Problem.{Choice}
use Rattle.kr_space_layout.specs.declared.item.DomainEntry.{DomainEntry}
use Rattle.kr_space_layout.specs.declared.stretch.Block.{Block}
use Rattle.kr_space_layout.specs.declared.stretch.Stretch.{Stretch}
use Rattle.kr_space_layout.specs.Stretches.{all_choices, choices_of, count_of, stretch_of}
use Rattle.kr_space_layout.proofs.Pieces.{choices_long}
use Rattle.kr_space_meaning.specs.declared.refusal.SpaceRule.TheVariants.{EmptyDomain, ValueTwice, TooMany}
use Rattle.kr_space_meaning.specs.Faults.{has_twice, number_faults}
use Rattle.kr_space_meaning.specs.Order.{Fault, break_if, lesser}

pub number_parts : (old : Option Fault) (item : List ℕ) (choices : List Choice) → fold lesser old (number_faults item choices)
    ≡ fold lesser (fold lesser (fold lesser old (break_if (length choices == 0) EmptyDomain item)) (break_if (has_twice choices) ValueTwice item)) (break_if (nat_lt 65536 (length choices)) TooMany item)
number_parts old item choices =
    fold-append lesser old (break_if (length choices == 0) EmptyDomain item) (break_if (has_twice choices) ValueTwice item ++ break_if (nat_lt 65536 (length choices)) TooMany item)
    ∙ fold-append lesser (fold lesser old (break_if (length choices == 0) EmptyDomain item)) (break_if (has_twice choices) ValueTwice item) (break_if (nat_lt 65536 (length choices)) TooMany item)

pub capped_zero : (c n : ℕ) → c ≡ min n (2 ^ 64 - 1) → (c == 0) ≡ (n == 0)
capped_zero c n e = elim (cases_eq n 0) [
  | inl h ↦ eq-eqb c 0 (omega (arith, e, h)) ∙ sym (eq-eqb n 0 h)
  | inr h ↦ ne_eqb c 0 (λ z. h (omega (arith, e, z))) ∙ sym (ne_eqb n 0 h)
]

pub capped_many : (c n : ℕ) → c ≡ min n (2 ^ 64 - 1) → nat_lt 65536 c ≡ nat_lt 65536 n
capped_many c n e = elim (cases_lt 65536 n) [
  | inl h ↦ lt-ltb 65536 c (omega (arith, e, h)) ∙ sym (lt-ltb 65536 n h)
  | inr h ↦ le-ltb 65536 c (omega (arith, e, h)) ∙ sym (le-ltb 65536 n h)
]

-- one entry more
pub counted_more : (blocks : List Block) (items : List DomainEntry) (all i count next : ℕ) (x : DomainEntry) (s : Stretch) → i < length items
    → min all (2 ^ 64 - 1) ≡ min (count + length (all_choices (map (stretch_of blocks) (drop i items)))) (2 ^ 64 - 1) → s ≡ stretch_of blocks (get_or items i x) → next ≡ min (count + count_of s) (2 ^ 64 - 1)
    → min all (2 ^ 64 - 1) ≡ min (next + length (all_choices (map (stretch_of blocks) (drop (i + 1) items)))) (2 ^ 64 - 1)
counted_more blocks items all i count next x s h e t n =
    let own = stretch_of blocks (get_or items i x) in
    let rest = all_choices (map (stretch_of blocks) (drop (i + 1) items)) in
    let a : length (all_choices (map (stretch_of blocks) (drop i items))) ≡ length (choices_of own ++ rest) = ap (λ (is : List DomainEntry). length (all_choices (map (stretch_of blocks) is))) (drop_more items i x h) in
    let b : length (choices_of own ++ rest) ≡ length (choices_of own) + length rest = length-append (choices_of own) rest in
    let l : length (choices_of own) ≡ count_of own = choices_long own in
    let m : count_of s ≡ count_of own = ap count_of t in
    omega (arith, e, n, a, b, l, m)
