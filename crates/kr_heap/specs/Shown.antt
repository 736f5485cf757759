-- Between crates: an object of the code as one of the meaning.
use Rattle.kr_value.specs.Heaps.{HeapObject}
use Rattle.kr_heap.specs.declared.object.Object.{Object}

abbrev pub shown : Object → HeapObject
shown o = record { class = o.class; values = o.values }
