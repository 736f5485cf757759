-- A layout's class domains and their objects.
use Rattle.std.proofs.Common.{◌≡◌, ℕ, suc, ◌+◌, ◌*◌, ◌^◌, ◌<◌, ◌≤◌, List, [], length, get_or, sym, ap, ◌∙◌, arith, subst, zero-add}
use Rattle.std.specs.Prelude.{map}
use Rattle.std.proofs.lemmas.List.{get_or-map, get_or_default, length-append, length-map}
use Rattle.kr_mean.specs.Problem as problems
use Rattle.kr_mean.specs.Problem.{Domain, objects_before, no_objects}
use Rattle.kr_space_layout.specs.declared.classes.ClassDomain.{ClassDomain}
use Rattle.kr_space_layout.specs.declared.stretch.Block.{Block}
use Rattle.kr_space_layout.specs.declared.entry.Entry.{Entry}
use Rattle.kr_space_layout.specs.declared.layout.Layout.TheInside.{Inside}
use Rattle.kr_space_layout.specs.Stretches.{IsNumbered, domain_of, no_block}
use Rattle.kr_space_layout.specs.Bounds.{Bounds, bounds_of, class_domain}
use Rattle.kr_space_layout.specs.Tables.{all_entries, blocks_from, entries_with, parameter_entries, starts_with}
use Rattle.kr_space_layout.specs.Layouts.{IsLaid, slots_before}
use Rattle.kr_space_layout.proofs.Slots.{blocks_long, parameters_long}
use Rattle.kr_space_layout.proofs.Choices.{block_is}
use Rattle.kr_space_layout.proofs.Starts.{StartIs, start_is, starts_long}

abbrev pub count_in : List problems.ClassDomain → ℕ → ℕ
count_in ds d = (get_or ds d no_objects).count

abbrev width_in : List problems.ClassDomain → ℕ → ℕ
width_in ds d = length (get_or ds d no_objects).spots

pub record OfObjects (i : Inside) (b : Bounds) : Type 0 where
  pub blocks : length i.blocks.items ≡ length b.domains
  pub starts : length i.starts.items ≡ length b.domains
  pub classes : length i.classes ≡ length b.domains
  pub class : (d : ℕ) (x : ClassDomain) → d < length b.domains → get_or b.domains d no_objects ≡ class_domain (map domain_of i.pool.items) (get_or i.classes d x)
  pub domain : (d : ℕ) (x : Block) → d < length b.domains → (get_or i.blocks.items d x).domain ≡ d
  pub count : (d : ℕ) (x : Block) → d < length b.domains → (get_or i.blocks.items d x).count ≡ count_in b.domains d
  pub first : (d : ℕ) (x : Block) → d < length b.domains → (get_or i.blocks.items d x).first ≡ objects_before d b.domains
  pub numbered : (d : ℕ) (x : Block) → d < length b.domains → IsNumbered (get_or i.blocks.items d x)
  pub start : (d x : ℕ) → d < length b.domains → get_or i.starts.items d x ≡ length b.parameters + 1 + slots_before d b.domains
  pub small : i.count < 2 ^ 32
  pub room : (d : ℕ) → d < length b.domains → length b.parameters + 1 + slots_before d b.domains + count_in b.domains d * width_in b.domains d ≤ i.count

pub of_objects : (i : Inside) (b : Bounds) → IsLaid i.root i.parameters i.classes i.blocks.items i.starts.items i.entries.items i.count i.this i.pool.items → bounds_of i.root i.mode i.fuel i.parameters i.classes (map domain_of i.pool.items) ≡ b → OfObjects i b
of_objects i b laid e = subst (OfObjects i) e record {
  blocks = blocks;
  starts = starts;
  classes = sym longs;
  class = λ d x h. get_or-map (class_domain domains) i.classes d x no_objects (omega (arith, h, longs));
  domain = λ d x h. ap (λ (y : Block). y.domain) (block d x h) ∙ ((block_is domains 0 0 i.classes d d (omega arith)).domain ∙ zero-add d);
  count = λ d x h. ap (λ (y : Block). y.count) (block d x h) ∙ (block_is domains 0 0 i.classes d d (omega arith)).count;
  first = λ d x h. ap (λ (y : Block). y.first) (block d x h) ∙ omega (arith, (block_is domains 0 0 i.classes d d (omega arith)).before h);
  numbered = λ d x h. laid.numbered d x (omega (arith, h, blocks));
  start = λ d x h.
      get_or_default i.starts.items d x 0 (omega (arith, h, starts))
      ∙ (ap (λ (xs : List ℕ). get_or xs d 0) (laid.starts_are ∙ ap (λ (bs : List Block). starts_with (length i.parameters + 1) bs i.classes) laid.blocks_are)
      ∙ omega (arith, (begin d h).is, parameters));
  small = laid.small;
  room = λ d h. omega (arith, (begin d h).room, parameters, laid.counted, ap (λ (xs : List Entry). length xs) laid.entries_are, entries, ap (λ (bs : List Block). length (entries_with bs i.classes)) laid.blocks_are);
}
  where
    domains : List Domain
    domains = map domain_of i.pool.items

    longs : length (map (class_domain domains) i.classes) ≡ length i.classes
    longs = length-map i.classes (class_domain domains)

    parameters : length (map (λ p. get_or domains p []) i.parameters) ≡ length i.parameters
    parameters = length-map i.parameters (λ p. get_or domains p [])

    blocks : length i.blocks.items ≡ length (map (class_domain domains) i.classes)
    blocks = ap (λ (bs : List Block). length bs) laid.blocks_are ∙ (blocks_long 0 0 i.classes ∙ sym longs)

    starts : length i.starts.items ≡ length (map (class_domain domains) i.classes)
    starts = ap (λ (xs : List ℕ). length xs) (laid.starts_are ∙ ap (λ (bs : List Block). starts_with (length i.parameters + 1) bs i.classes) laid.blocks_are) ∙ (starts_long (length i.parameters + 1) 0 0 i.classes ∙ sym longs)

    block : (d : ℕ) (x : Block) → d < length (map (class_domain domains) i.classes) → get_or i.blocks.items d x ≡ get_or (blocks_from 0 0 i.classes) d (no_block d)
    block d x h = get_or_default i.blocks.items d x (no_block d) (omega (arith, h, blocks)) ∙ ap (λ (bs : List Block). get_or bs d (no_block d)) laid.blocks_are

    begin : (d : ℕ) → d < length (map (class_domain domains) i.classes) → StartIs domains (length i.parameters + 1) 0 0 i.classes d
    begin d h = start_is domains (length i.parameters + 1) 0 0 i.classes d (omega (arith, h, longs))

    entries : length (all_entries i.parameters i.blocks.items i.classes) ≡ suc (length i.parameters + length (entries_with i.blocks.items i.classes))
    entries = omega (arith, length-append (parameter_entries 0 i.parameters) (entries_with i.blocks.items i.classes), parameters_long 0 i.parameters)
