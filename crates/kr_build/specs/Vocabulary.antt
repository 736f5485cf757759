-- Between crates: what the contracts of this crate take from the crates below.
pub use Rattle.kr_space_layout.specs.Bounds.{bare}
pub use Rattle.kr_value.specs.Heaps.{object_in}
pub use Rattle.kr_mean.specs.Entries.{structure_of}
pub use Rattle.kr_mean.specs.Heaps.{heap_object, heap_of, length_in, root_slots, slots_in, value_at, values_there, walk}
pub use Rattle.kr_mean.specs.Places.{place_of}
pub use Rattle.kr_mean.specs.Problem.{choices_at, domain_at, heap_number, objects_of_domain, slot_at, slots}
pub use Rattle.kr_mean.specs.Readings.{AllBelow}
pub use Rattle.kr_mean.specs.Space.{IsVector, space_of}
pub use Rattle.kr_mean.specs.WellFormed.{IsWellFormed}
pub use Rattle.kr_heap.specs.Objects.{with_values}
pub use Rattle.kr_iso.specs.Objects.{object_of}
