-- What holds of all fields of a table holds of those of a class's objects.
use Rattle.std.proofs.Common.{ℕ, zero, suc, Bool, true, false, List, [], ◌∷◌, ◌++◌}
use Rattle.std.specs.Prelude.{flat_map, option_to_list, reverse, if◌then◌else◌}
use Rattle.std.specs.List.{AllByRecursion}
use Rattle.kr_classes_table.specs.Table.{Class, Field, Table, class_at, fields_of, is_instance, line_of, own_fields}
use Rattle.kr_laws_never_stuck.specs.Apart.{all_fields}
use Rattle.kr_space_meaning.proofs.Each.{each_always, each_flat, each_of_both, each_weaker}

module _ (P : Field → Type 0) where
  left_part : (xs ys : List Field) → AllByRecursion P (xs ++ ys) → AllByRecursion P xs
  left_part [] ys h = tt
  left_part (x ∷ xs) ys h = (h.0, left_part xs ys h.1)

  right_part : (xs ys : List Field) → AllByRecursion P (xs ++ ys) → AllByRecursion P ys
  right_part [] ys h = h
  right_part (x ∷ xs) ys h = right_part xs ys h.1

  class_fields : (ds : List Class) (c : ℕ) → AllByRecursion P (flat_map (λ d. d.fields) ds) → AllByRecursion P (flat_map (λ d. d.fields) (option_to_list (class_at ds c)))
  class_fields [] c h = tt
  class_fields (d ∷ ds) zero h = each_of_both P d.fields [] (left_part d.fields (flat_map (λ x. x.fields) ds) h) tt
  class_fields (d ∷ ds) (suc c) h = class_fields ds c (right_part d.fields (flat_map (λ x. x.fields) ds) h)

  instance : (f : Field) → P f → AllByRecursion P (is_instance f)
  instance f h = go f.is_static
    where
      go : (b : Bool) → AllByRecursion P (if b then [] else f ∷ [])
      go true = tt
      go false = (h, tt)

  pub of_objects : (table : Table) (c : ℕ) → AllByRecursion P (all_fields table) → AllByRecursion P (fields_of table c)
  of_objects table c h =
      let line = reverse (line_of table c) in
      let own = flat_map (own_fields table) line in
      each_flat P is_instance own
      (each_weaker P (λ f. AllByRecursion P (is_instance f)) own instance (each_flat P (own_fields table) line (each_always (λ d. AllByRecursion P (own_fields table d)) line (λ d. class_fields table.classes d h))))
