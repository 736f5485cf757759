-- The tables of a layout are right about the problem's slots.
use Rattle.std.proofs.Common.{◌≡◌, ℕ, zero, suc, ◌<◌, List, [], ◌∷◌, length, get_or, Option, Some, None, refl, sym, ap, ◌∙◌, arith, subst}
use Rattle.std.specs.Prelude.{map}
use Rattle.std.proofs.lemmas.List.{get_or-map, length-map}
use Rattle.kr_mean.specs.declared.mode.Mode.{Mode}
use Rattle.kr_mean.specs.Problem.{Problem, Domain, Slot, Choice, choices_at, choices_in, slots, slot_at, no_slot}
use Rattle.kr_space_layout.specs.declared.classes.ClassDomain.{ClassDomain}
use Rattle.kr_space_layout.specs.declared.item.DomainEntry.{DomainEntry}
use Rattle.kr_space_layout.specs.declared.item.DomainEntry.TheVariants.{Objects}
use Rattle.kr_space_layout.specs.declared.stretch.Block.{Block}
use Rattle.kr_space_layout.specs.declared.stretch.Stretch.{Stretch}
use Rattle.kr_space_layout.specs.declared.entry.Entry.{Entry}
use Rattle.kr_space_layout.specs.declared.layout.Layout.TheInside.{Inside}
use Rattle.kr_iso.specs.Objects.{shown}
use Rattle.kr_space_layout.specs.Stretches.{all_choices, domain_of}
use Rattle.kr_space_layout.specs.Bounds.{Bounds, bare, bounds_of}
use Rattle.kr_space_layout.specs.Tables.{all_entries, this_entry, blocks_from, slot_of, domain_with}
use Rattle.kr_mean.specs.Places.{place_of}
use Rattle.kr_space_layout.specs.Layouts.{IsLaid, stretches}
use Rattle.kr_space_layout.specs.Shapes.{AreShapes, IsShape, values_with}
use Rattle.kr_space_layout.specs.declared.shape.Shape.{Shape}
use Rattle.kr_space_layout.proofs.Slots.{slots_are}
use Rattle.kr_space_layout.proofs.Choices.{choices_are, domain_is}

module _ (root : ℕ) (mode : Mode) (fuel : ℕ) (parameters : List ℕ) (classes : List ClassDomain) (blocks : List Block) (starts : List ℕ) (es : List Entry) (count : ℕ) (this : List Stretch) (pool : List (List Stretch)) (laid : IsLaid root parameters classes blocks starts es count this pool) where
  abbrev domains : List Domain
  domains = map domain_of pool

  abbrev shown_bounds : Bounds
  shown_bounds = bounds_of root mode fuel parameters classes domains

  abbrev problem : Problem
  problem = bare shown_bounds

  pub entries_are : slots problem ≡ map (slot_of root domains) es
  entries_are =
      slots_are problem root domains parameters classes refl refl refl
      ∙ (ap (λ (bs : List Block). map (slot_of root domains) (all_entries parameters bs classes)) (sym laid.blocks_are)
      ∙ ap (map (slot_of root domains)) (sym laid.entries_are))

  pub count_is : count ≡ length (slots problem)
  count_is = laid.counted ∙ (sym (length-map es (slot_of root domains)) ∙ ap (λ (xs : List Slot). length xs) (sym entries_are))

  pub slot_is : (s : ℕ) (d : Entry) → s < length es → slot_at problem s ≡ slot_of root domains (get_or es s d)
  slot_is s d h = ap (λ (xs : List Slot). get_or xs s no_slot) entries_are ∙ get_or-map (slot_of root domains) es s d no_slot h

  pub inside : (s : ℕ) → s < length (slots problem) → s < length es
  inside s h = omega (arith, h, laid.counted, count_is)

  -- the values of all objects of the root
  pub this_values : all_choices this ≡ choices_in problem (domain_with root domains None)
  this_values =
      ap all_choices (laid.this_is ∙ ap (λ (bs : List Block). stretches bs (Objects root ∷ [])) laid.blocks_are)
      ∙ sym (choices_are problem domains classes refl (Objects root ∷ []))

  -- the values of a domain of the pool
  pub pool_values : (d : ℕ) → all_choices (get_or pool d []) ≡ choices_in problem (domain_with root domains (Some d))
  pool_values d = go pool laid.pool_is.0 (laid.pool_is.1 ∙ ap (λ (bs : List Block). map (stretches bs) laid.pool_is.0) laid.blocks_are) d
    where
      go : (p : List (List Stretch)) (items : List (List DomainEntry)) → p ≡ map (stretches (blocks_from 0 0 classes)) items → (d : ℕ) → all_choices (get_or p d []) ≡ choices_in problem (get_or (map domain_of p) d [])
      go p items e d = subst (λ (q : List (List Stretch)). all_choices (get_or q d []) ≡ choices_in problem (get_or (map domain_of q) d [])) (sym e) (at items d)
        where
          at : (items : List (List DomainEntry)) (d : ℕ) → all_choices (get_or (map (stretches (blocks_from 0 0 classes)) items) d []) ≡ choices_in problem (get_or (map domain_of (map (stretches (blocks_from 0 0 classes)) items)) d [])
          at [] d = refl
          at (i ∷ is) zero = sym (choices_are problem domains classes refl i) ∙ ap (choices_in problem) (sym (domain_is classes i))
          at (i ∷ is) (suc d) = at is d

-- ---- a layout, beside its bounds

pub record Known (i : Inside) (b : Bounds) : Type 0 where
  pub count : i.count ≡ length (slots (bare b))
  pub long : length i.entries.items ≡ length (slots (bare b))
  pub place : (s : ℕ) (d : Entry) → s < length (slots (bare b)) → place_of (get_or i.entries.items s d).place ≡ (slot_at (bare b) s).place
  pub owner : (s : ℕ) (d : Entry) → s < length (slots (bare b)) → shown (get_or i.entries.items s d).owner ≡ (slot_at (bare b) s).owner
  pub values : (s : ℕ) (d : Entry) → s < length (slots (bare b)) → values_with i.this i.pool.items (get_or i.entries.items s d).domain ≡ choices_at (bare b) s

pub known : (i : Inside) (b : Bounds) → IsLaid i.root i.parameters i.classes i.blocks.items i.starts.items i.entries.items i.count i.this i.pool.items → bounds_of i.root i.mode i.fuel i.parameters i.classes (map domain_of i.pool.items) ≡ b → Known i b
known i b laid e = subst (Known i) e record {
  count = count_is i.root i.mode i.fuel i.parameters i.classes i.blocks.items i.starts.items i.entries.items i.count i.this i.pool.items laid;
  long = sym laid.counted ∙ count_is i.root i.mode i.fuel i.parameters i.classes i.blocks.items i.starts.items i.entries.items i.count i.this i.pool.items laid;
  place = λ s d h. ap (λ (x : Slot). x.place) (sym (there s d h));
  owner = λ s d h. ap (λ (x : Slot). x.owner) (sym (there s d h));
  values = λ s d h. each (get_or i.entries.items s d).domain ∙ ap (λ (x : Slot). choices_in whole x.domain) (sym (there s d h));
}
  where
    whole : Problem
    whole = problem i.root i.mode i.fuel i.parameters i.classes i.blocks.items i.starts.items i.entries.items i.count i.this i.pool.items laid

    there : (s : ℕ) (d : Entry) → s < length (slots whole) → slot_at whole s ≡ slot_of i.root (map domain_of i.pool.items) (get_or i.entries.items s d)
    there s d h = slot_is i.root i.mode i.fuel i.parameters i.classes i.blocks.items i.starts.items i.entries.items i.count i.this i.pool.items laid s d (inside i.root i.mode i.fuel i.parameters i.classes i.blocks.items i.starts.items i.entries.items i.count i.this i.pool.items laid s h)

    each : (d : Option ℕ) → values_with i.this i.pool.items d ≡ choices_in whole (domain_with i.root (map domain_of i.pool.items) d)
    each None = this_values i.root i.mode i.fuel i.parameters i.classes i.blocks.items i.starts.items i.entries.items i.count i.this i.pool.items laid
    each (Some d) = pool_values i.root i.mode i.fuel i.parameters i.classes i.blocks.items i.starts.items i.entries.items i.count i.this i.pool.items laid d

-- the shape of a slot's domain
pub shape_is : (i : Inside) (b : Bounds) → IsLaid i.root i.parameters i.classes i.blocks.items i.starts.items i.entries.items i.count i.this i.pool.items → bounds_of i.root i.mode i.fuel i.parameters i.classes (map domain_of i.pool.items) ≡ b → AreShapes i.this i.pool.items i.entries.items i.shapes.items → (s : ℕ) (x : Shape) → s < length (slots (bare b)) → x ≡ get_or i.shapes.items s x → IsShape (choices_at (bare b) s) x
shape_is i b laid e shapes s x h is =
    let k = known i b laid e in
    let long = k.long in
    let inside : s < length i.entries.items = omega arith in
    let each = shapes.each s this_entry x inside in
    subst (λ (cs : List Choice). IsShape cs x) (k.values s this_entry h)
    (subst (λ (y : Shape). IsShape (values_with i.this i.pool.items (get_or i.entries.items s this_entry).domain) y) (sym is) each)
